-- Options that hang on tests and on one another.
use Rattle.std.proofs.Common.{◌≡◌, Bool, true, false, Option, Some, None, option_map, option_and_then, refl, ap}
use Rattle.ax_values.specs.Grammar.{when}

pub when-true : {A : Type 0} (b : Bool) (x : A) → b ≡ true → when b x ≡ Some x
when-true b x h = ap (λ b. when b x) h

pub when-some : {A : Type 0} (b : Bool) (x y : A) → when b x ≡ Some y → (b ≡ true) × (x ≡ y)
when-some true x y h = (refl, cc)
when-some false x y h = cc

-- y comes by f from what o holds
pub record Comes {A B : Type 0} (f : A → Option B) (o : Option A) (y : B) : Type 0 where
  pub from : A
  pub held : o ≡ Some from
  pub gives : f from ≡ Some y

pub then-some : {A B : Type 0} (o : Option A) (f : A → Option B) (y : B) → option_and_then f o ≡ Some y → Comes f o y
then-some None f y h = cc
then-some (Some x) f y h = record { from = x; held = refl; gives = h }

-- y is f of what o holds
pub record Maps {A B : Type 0} (f : A → B) (o : Option A) (y : B) : Type 0 where
  pub from : A
  pub held : o ≡ Some from
  pub gives : f from ≡ y

pub map-some : {A B : Type 0} (o : Option A) (f : A → B) (y : B) → option_map f o ≡ Some y → Maps f o y
map-some None f y h = cc
map-some (Some x) f y h = record { from = x; held = refl; gives = cc }
