-- Tests: what a conjunction, a disjunction and a negation say of their parts.
use Rattle.std.proofs.Common.{◌≡◌, Bool, true, false, not, ◌&&◌, ◌||◌, refl, sym, ap, ◌∙◌}
use Rattle.std.specs.declared.cmp.Ordering.{Ordering}
use Rattle.std.specs.declared.cmp.Ordering.TheVariants.{Less, Equal, Greater}
use Rattle.std.specs.Ordering.{is_lt}

-- ---- both hold

pub both : (a b : Bool) → (a && b) ≡ true → (a ≡ true) × (b ≡ true)
both true b h = (refl, h)
both false b h = cc

pub and-left : (a b : Bool) → (a && b) ≡ true → a ≡ true
and-left a b h = (both a b h).0

pub and-right : (a b : Bool) → (a && b) ≡ true → b ≡ true
and-right a b h = (both a b h).1

pub and-true : (a b : Bool) → a ≡ true → b ≡ true → (a && b) ≡ true
and-true a b p q = ap (λ a. a && b) p ∙ q

pub and-false : (a : Bool) → (a && false) ≡ false
and-false true = refl
and-false false = refl

pub and-swap : (a b : Bool) → (a && b) ≡ (b && a)
and-swap true true = refl
and-swap true false = refl
and-swap false true = refl
and-swap false false = refl

-- the first fails, and the second holds
pub not-both : (a b : Bool) → (not a && b) ≡ true → (a ≡ false) × (b ≡ true)
not-both true b h = cc
not-both false b h = (refl, h)

-- ---- one of two holds

pub neither : (a b : Bool) → (a || b) ≡ false → (a ≡ false) × (b ≡ false)
neither true b h = cc
neither false b h = (refl, h)

pub or-no : (a b : Bool) → a ≡ false → b ≡ false → (a || b) ≡ false
or-no a b p q = ap (λ a. a || b) p ∙ q

pub either : {P : Type 0} (a b : Bool) → (a || b) ≡ true → (a ≡ true → P) → (b ≡ true → P) → P
either true b h p q = p refl
either false b h p q = q h

pub or-left : (a b : Bool) → a ≡ true → (a || b) ≡ true
or-left a b h = ap (λ a. a || b) h

pub or-right : (a b : Bool) → b ≡ true → (a || b) ≡ true
or-right true b h = refl
or-right false b h = h

pub or-false : (a : Bool) → (a || false) ≡ a
or-false true = refl
or-false false = refl

pub or-swap : (a b : Bool) → (a || b) ≡ (b || a)
or-swap true true = refl
or-swap true false = refl
or-swap false true = refl
or-swap false false = refl

-- the first of three tests changes places with the second
pub or-front : (a b c : Bool) → (a || (b || c)) ≡ (b || (a || c))
or-front true true c = refl
or-front true false c = refl
or-front false b c = refl

-- ---- a test that fails

pub not-true : (a : Bool) → not a ≡ true → a ≡ false
not-true true h = cc
not-true false h = refl

pub not-false : (a : Bool) → not a ≡ false → a ≡ true
not-false true h = refl
not-false false h = cc

pub apart : (a : Bool) → a ≡ true → a ≡ false → ⊥
apart true h k = cc
apart false h k = cc

pub same-bool : (a b : Bool) → (a ≡ true → b ≡ true) → (b ≡ true → a ≡ true) → a ≡ b
same-bool true b f g = sym (f refl)
same-bool false true f g = g refl
same-bool false false f g = refl

-- ---- orders

pub is-less : (o : Ordering) → is_lt o ≡ true → o ≡ Less
is-less Less h = refl
is-less Equal h = cc
is-less Greater h = cc
