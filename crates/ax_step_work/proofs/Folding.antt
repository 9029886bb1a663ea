-- Folds of covered items, and what the items of a batch add to them.
use Rattle.std.proofs.Common.{◌≡◌, ℕ, ◌&&◌, Bool, true, false, not, List, [], ◌∷◌, ◌++◌, map, length, filter, take, None, Result, Ok, Err, if◌then◌else◌, refl, sym, ap, ◌∙◌, arith}
use Rattle.std.specs.List.{AllByRecursion, list_all}
use Rattle.std.proofs.lemmas.List.{take_all}
use Rattle.std.proofs.lemmas.Slice.Eq.{bytes_eq-Decides}
use Rattle.ax_values.specs.Grammar.{Name}
use Rattle.ax_values.specs.Words.{same_name}
use Rattle.ax_laws.proofs.Tests.{both, and-false, and-swap}
use Rattle.ax_laws.proofs.Lists.{none-pass}
use Rattle.ax_log.specs.Log.{Stored, is_of, stream_in}
use Rattle.ax_rules.specs.Expr.{Row}
use Rattle.ax_rules.specs.Rules.{Rules, and_then, applied, fold_from, fold_items, start_row, row_or}
use Rattle.ax_projections.specs.Items.{Placed, plain_items}
use Rattle.ax_state.specs.Setting.{projection_at}
use Rattle.ax_state.specs.State.{State}
use Rattle.ax_state.specs.Positions.{undropped, row_of}
use Rattle.ax_state.specs.Portions.{items_in, row_by}
use Rattle.ax_state.specs.WellFormed.{is_prefix_test}
use Rattle.ax_values.specs.declared.item.Item.{Item}
use Rattle.ax_rules.specs.declared.cause.Cause.{Cause}
use Rattle.ax_upcast.specs.declared.upcaster.Upcaster.{Upcaster}

-- ---- filters

swap-by : {A : Type 0} (f g : A → Bool) (x : A) (xs ys zs : List A) (a b : Bool) → f x ≡ a → g x ≡ b → filter f ys ≡ filter g zs → filter f (if b then x ∷ ys else ys) ≡ filter g (if a then x ∷ zs else zs)
swap-by f g x xs ys zs true true e k h = ap (λ c. if c then x ∷ filter f ys else filter f ys) e ∙ ap (λ ws. x ∷ ws) h ∙ sym (ap (λ c. if c then x ∷ filter g zs else filter g zs) k)
swap-by f g x xs ys zs true false e k h = h ∙ sym (ap (λ c. if c then x ∷ filter g zs else filter g zs) k)
swap-by f g x xs ys zs false true e k h = ap (λ c. if c then x ∷ filter f ys else filter f ys) e ∙ h
swap-by f g x xs ys zs false false e k h = h

pub filter-swap : {A : Type 0} (f g : A → Bool) (xs : List A) → filter f (filter g xs) ≡ filter g (filter f xs)
filter-swap f g [] = refl
filter-swap f g (x ∷ xs) = swap-by f g x xs (filter g xs) (filter f xs) (f x) (g x) refl refl (filter-swap f g xs)

pub filter-same : {A : Type 0} (f g : A → Bool) (xs : List A) → AllByRecursion (λ x. f x ≡ g x) xs → filter f xs ≡ filter g xs
filter-same f g [] h = refl
filter-same f g (x ∷ xs) h = ap (λ b. if b then x ∷ filter f xs else filter f xs) h.0 ∙ ap (λ ys. if g x then x ∷ ys else ys) (filter-same f g xs h.1)

-- the events of a stream are of its aggregate
own-by : (b : Bool) (a : Name) (e : Stored) (es : List Stored) → is_of a e ≡ b → AllByRecursion (λ e. e.record_of.aggregate ≡ a) es → AllByRecursion (λ e. e.record_of.aggregate ≡ a) (if b then e ∷ es else es)
own-by true a e es k h = ((bytes_eq-Decides e.record_of.aggregate a).0 k, h)
own-by false a e es k h = h

pub stream-own : (a : Name) (es : List Stored) → AllByRecursion (λ e. e.record_of.aggregate ≡ a) (stream_in a es)
stream-own a [] = tt
stream-own a (e ∷ es) = own-by (is_of a e) a e (stream_in a es) refl (stream-own a es)

module _ (a : Name) (t : Name → ℕ → Bool) where
  all-same : (es : List Stored) → AllByRecursion (λ e. e.record_of.aggregate ≡ a) es → AllByRecursion (λ e. t e.record_of.aggregate e.index ≡ t a e.index) es
  all-same [] h = tt
  all-same (e ∷ es) h = (ap (λ n. t n e.index) h.0, all-same es h.1)

  -- of the events that pass, those of an aggregate
  pub stream-filter : (es : List Stored) → stream_in a (filter (λ e. t e.record_of.aggregate e.index) es) ≡ filter (λ e. t a e.index) (stream_in a es)
  stream-filter es =
      filter-swap (is_of a) (λ e. t e.record_of.aggregate e.index) es
      ∙ filter-same (λ e. t e.record_of.aggregate e.index) (λ e. t a e.index) (stream_in a es) (all-same (stream_in a es) (stream-own a es))

-- ---- more is covered

fresh-same : (old new : ℕ → Bool) (es : List Stored) → list_all not (map (λ e. old e.index) es) ≡ true → AllByRecursion (λ e. new e.index ≡ (new e.index && not (old e.index))) es
fresh-same old new [] h = tt
fresh-same old new (e ∷ es) h =
    let k = both (not (old e.index)) (list_all not (map (λ e. old e.index) es)) h in
    (sym (ap (λ c. new e.index && c) k.0 ∙ and-swap (new e.index) true), fresh-same old new es k.1)

split-by : (old new : ℕ → Bool) (e : Stored) (es : List Stored) (b : Bool) → old e.index ≡ b → ((i : ℕ) → old i ≡ true → new i ≡ true) → is_prefix_test (b ∷ map (λ e. old e.index) es) ≡ true
    → (is_prefix_test (map (λ e. old e.index) es) ≡ true → filter (λ e. new e.index) es ≡ filter (λ e. old e.index) es ++ filter (λ e. new e.index && not (old e.index)) es)
    → filter (λ e. new e.index) (e ∷ es) ≡ filter (λ e. old e.index) (e ∷ es) ++ filter (λ e. new e.index && not (old e.index)) (e ∷ es)
split-by old new e es true k more h again =
    ap (λ b. if b then e ∷ filter (λ e. new e.index) es else filter (λ e. new e.index) es) (more e.index k)
    ∙ ap (λ ys. e ∷ ys) (again h)
    ∙ sym (ap (λ b. (if b then e ∷ filter (λ e. old e.index) es else filter (λ e. old e.index) es) ++ filter (λ e. new e.index && not (old e.index)) (e ∷ es)) k
    ∙ ap (λ b. (e ∷ filter (λ e. old e.index) es) ++ (if b then e ∷ filter (λ e. new e.index && not (old e.index)) es else filter (λ e. new e.index && not (old e.index)) es)) (ap (λ c. new e.index && not c) k ∙ and-false (new e.index)))
split-by old new e es false k more h again =
    let none : list_all not (map (λ e. old e.index) (e ∷ es)) ≡ true = ap (λ b. not b && list_all not (map (λ e. old e.index) es)) k ∙ h in
    filter-same (λ e. new e.index) (λ e. new e.index && not (old e.index)) (e ∷ es) (fresh-same old new (e ∷ es) none)
    ∙ ap (λ ys. ys ++ filter (λ e. new e.index && not (old e.index)) (e ∷ es)) (sym (none-pass (λ (e : Stored). old e.index) (e ∷ es) none))

-- behind a prefix stands what is new
pub covered-split : (old new : ℕ → Bool) (es : List Stored) → ((i : ℕ) → old i ≡ true → new i ≡ true) → is_prefix_test (map (λ e. old e.index) es) ≡ true
    → filter (λ e. new e.index) es ≡ filter (λ e. old e.index) es ++ filter (λ e. new e.index && not (old e.index)) es
covered-split old new [] more h = refl
covered-split old new (e ∷ es) more h = split-by old new e es (old e.index) refl more h (covered-split old new es more)

-- ---- rows

abbrev pub is_placed_of : Name → Placed → Bool
is_placed_of a x = same_name x.item.name.aggregate a

-- the items of an aggregate
abbrev pub share_of : Name → List Placed → List Placed
share_of a xs = filter (is_placed_of a) xs

-- the row of an aggregate, which a well-formed state defines
abbrev pub present_row : State → ℕ → Name → Row
present_row m p a = row_or (start_row (projection_at m.setting p).fields) (row_of m p a)

-- the row of an aggregate after its items, or the first cause
abbrev pub row_behind : Rules → (Name → Row) → List Placed → Name → Result Row Cause
row_behind rules row xs a = fold_from rules (plain_items (share_of a xs)) (row a)

undropped-none : (xs : List Placed) → undropped [] xs ≡ xs
undropped-none [] = refl
undropped-none (x ∷ xs) = ap (λ ys. x ∷ ys) (undropped-none xs)

-- without letters and drops a row is the fold of all covered items
pub row-now : (rules : Rules) (chain : List Upcaster) (cs : List Stored) (a : Name) → row_by rules chain cs None [] a ≡ fold_items rules (plain_items (items_in chain cs a))
row-now rules chain cs a = ap (λ xs. fold_items rules (plain_items xs)) (undropped-none (take (length (items_in chain cs a)) (items_in chain cs a)) ∙ take_all (length (items_in chain cs a)) (items_in chain cs a) (omega arith))

pub fold-append : (rules : Rules) (xs ys : List Item) (row : Row) → fold_from rules (xs ++ ys) row ≡ and_then (fold_from rules xs row) (λ r. fold_from rules ys r)
fold-append rules [] ys row = refl
fold-append rules (x ∷ xs) ys row = at (applied rules row x) (λ r. fold-append rules xs ys r)
  where
    at : (o : Result Row Cause) → ((r : Row) → fold_from rules (xs ++ ys) r ≡ and_then (fold_from rules xs r) (λ r. fold_from rules ys r))
        → and_then o (λ next. fold_from rules (xs ++ ys) next) ≡ and_then (and_then o (λ next. fold_from rules xs next)) (λ r. fold_from rules ys r)
    at (Err c) again = refl
    at (Ok r) again = again r
