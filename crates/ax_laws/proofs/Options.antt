-- Options and results: what one holds, and what hangs on it.
use Rattle.std.proofs.Common.{◌≡◌, Option, Some, None, Result, Ok, Err, OnOk, IfOk, refl}

-- two options that hold something hold the same
pub some-is : {A : Type 0} (x y : A) → Some x ≡ Some y → x ≡ y
some-is x y h = cc

pub none-some : {A : Type 0} (x : A) → None ≡ Some x → ⊥
none-some x h = cc

pub none-of : {A : Type 0} (o : Option A) → ((x : A) → o ≡ Some x → ⊥) → o ≡ None
none-of None h = refl
none-of (Some x) h = absurd (h x refl)

pub on-ok : {T E P : Type 0} (r : Result T E) → P → OnOk r P
on-ok (Ok x) p = p
on-ok (Err e) p = tt

pub both-ok : {A B : Type 0} (P Q : A → Type 0) (r : Result A B) → IfOk r P → IfOk r Q → IfOk r (λ x. P x × Q x)
both-ok P Q (Ok x) p q = (p, q)
both-ok P Q (Err e) p q = tt
