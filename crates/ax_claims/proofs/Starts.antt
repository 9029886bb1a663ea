-- The first rows of a processor stand by id and match each hash once.
use Rattle.std.proofs.Common.{◌≡◌, ℕ, zero, suc, ◌+◌, ◌-◌, ◌%◌, ◌==◌, ◌<◌, ◌≤◌, Bool, true, false, if◌then◌else◌, length, filter, None, IsTrue, List, [], ◌∷◌, refl, sym, ap, ◌∙◌, subst, arith, nat_lt}
use Rattle.std.specs.Int.{is_power_of_two}
use lib.Count.{ones}
use Rattle.std.proofs.lemmas.Bool.Decides.{nat_tests}
use Rattle.ax_values.specs.Words.{rises}
use Rattle.ax_segments.specs.Segments.{matches, max_mask}
use Rattle.ax_tokens.specs.Tokens.{start}
use Rattle.ax_claims.specs.Rows.{TokenRow, AreRows, AreSegments, row_below, first_rows, starting}

abbrev first_row : ℕ → ℕ → ℕ → TokenRow
first_row id mask fence = record { segment = record { id = id; mask = mask }; token = start; owner = None; since = 0; fence = fence }

abbrev matching : ℕ → List TokenRow → List TokenRow
matching h rows = filter (λ r. matches r.segment h) rows

past : (n id mask fence h : ℕ) → h % (mask + 1) < id → matching h (first_rows n id mask fence) ≡ []
past zero id mask fence h lt = refl
past (suc n) id mask fence h lt =
    let differ : (h % (mask + 1) == id) ≡ false = grind (arith, nat_tests) in
    ap (λ b. if b then first_row id mask fence ∷ matching h (first_rows n (suc id) mask (suc fence)) else matching h (first_rows n (suc id) mask (suc fence))) differ
    ∙ past n (suc id) mask (suc fence) h (omega arith)

here-by : (b : Bool) (n id mask fence h : ℕ) → (h % (mask + 1) == id) ≡ b → id ≤ h % (mask + 1) → h % (mask + 1) < id + suc n
    → (suc id ≤ h % (mask + 1) → h % (mask + 1) < suc id + n → length (matching h (first_rows n (suc id) mask (suc fence))) ≡ 1)
    → length (if b then first_row id mask fence ∷ matching h (first_rows n (suc id) mask (suc fence)) else matching h (first_rows n (suc id) mask (suc fence))) ≡ 1
here-by true n id mask fence h e le lt more =
    let here : h % (mask + 1) ≡ id = grind (arith, nat_tests) in
    ap (λ rows. suc (length rows)) (past n (suc id) mask (suc fence) h (omega arith))
here-by false n id mask fence h e le lt more = let differ : id < h % (mask + 1) = grind (arith, nat_tests) in more (omega arith) (omega arith)

once-in : (n id mask fence h : ℕ) → id ≤ h % (mask + 1) → h % (mask + 1) < id + n → length (matching h (first_rows n id mask fence)) ≡ 1
once-in zero id mask fence h le lt = absurd (omega arith)
once-in (suc n) id mask fence h le lt = here-by (h % (mask + 1) == id) n id mask fence h refl le lt (once-in n (suc id) mask (suc fence) h)

first-rise : (n id mask fence : ℕ) → rises row_below (first_rows n id mask fence) ≡ true
first-rise zero id mask fence = refl
first-rise (suc zero) id mask fence = refl
first-rise (suc (suc n)) id mask fence =
    let lt : nat_lt id (suc id) ≡ true = grind (arith, nat_tests) in
    rw lt (first-rise (suc n) (suc id) mask (suc fence))

first-segments : (n id mask fence : ℕ) → IsTrue (is_power_of_two (mask + 1)) → mask ≤ max_mask → id + n ≤ suc mask → AreSegments (first_rows n id mask fence)
first-segments zero id mask fence power few le = tt
first-segments (suc n) id mask fence power few le = (record { power = power; mask = few; id = omega (arith, le) }, first-segments n (suc id) mask (suc fence) power few (omega (arith, le)))

are-first : (n fence : ℕ) → IsTrue (is_power_of_two (n + 1)) → n ≤ max_mask → AreRows (first_rows (suc n) 0 n fence)
are-first n fence power few = record {
  order = first-rise (suc n) 0 n fence;
  segments = first-segments (suc n) 0 n fence power few (omega arith);
  once = λ h small. once-in (suc n) 0 n fence h (omega arith) (let lt : h % (n + 1) < n + 1 = omega arith in omega arith);
}

pub are-starting : (n fence : ℕ) → 0 < n → IsTrue (is_power_of_two n) → n ≤ 65536 → AreRows (starting n fence)
are-starting zero fence some power few = absurd (omega arith)
are-starting (suc n) fence some power few =
    let e : suc n - 1 ≡ n = omega arith in
    let is : suc n ≡ n + 1 = omega arith in
    subst (λ mask. AreRows (first_rows (suc n) 0 mask fence)) (sym e) (are-first n fence (subst (λ m. IsTrue (is_power_of_two m)) is power) (omega (arith, few)))

pub rows-more : (n id mask fence : ℕ) → id < n → first_rows (n - id) id mask (fence + id) ≡ first_row id mask (fence + id) ∷ first_rows (n - (id + 1)) (id + 1) mask (fence + (id + 1))
rows-more n id mask fence lt =
    let e : n - id ≡ suc (n - (id + 1)) = omega arith in let i : suc id ≡ id + 1 = omega arith in let f : suc (fence + id) ≡ fence + (id + 1) = omega arith in rw (e, i, f) refl

pub some-segments : (n : ℕ) → IsTrue (is_power_of_two n) → 0 < n
unfolding ones
some-segments zero h = absurd (cc)
some-segments (suc n) h = omega arith
