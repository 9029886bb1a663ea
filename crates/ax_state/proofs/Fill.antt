-- Reserved cells that become events of one aggregate: what is read off the covered events stays.
use Rattle.std.specs.Prelude.{◌≡◌, ℕ, zero, suc, ◌+◌, ◌<◌, ◌≤◌, ◌⊎◌, Bool, true, false, not, List, [], ◌∷◌, ◌++◌, map, length, filter, take, Option, Some, None, slice_get, if◌then◌else◌}
use Rattle.std.specs.List.{AllByRecursion, list_all}
use Rattle.std.proofs.Common.{refl, ap, sym, ◌∙◌, subst, inl, inr, ⊎_elim, arith}
use Rattle.std.proofs.lemmas.List.{map-append}
use Rattle.std.proofs.lemmas.Slice.Eq.{bytes_eq-Decides}
use Rattle.ax_values.specs.Grammar.{Name}
use Rattle.ax_values.specs.Words.{same_name}
use Rattle.ax_log.specs.Log.{Stored, events_from, events, is_of, stream_in, length_of, is_reserved, is_settled, option_is, put_cells}
use Rattle.ax_state.specs.WellFormed.{PassPrefix, is_prefix_test, reserved_by}
use Rattle.ax_state.proofs.Growth.{IsGrowth}
use Rattle.ax_values.specs.declared.cell.Cell.{Cell}
use Rattle.ax_values.specs.declared.record.Record.{Record}
use Rattle.ax_laws.proofs.Lists.{none-left}

-- an event of the aggregate
abbrev pub Own : Name → Record → Type 0
Own a e = e.aggregate ≡ a

-- a reserved cell stays, or becomes an event that has N
abbrev pub Filled : (Record → Type 0) → Cell → Cell → Type 0
Filled N (Cell.Reserved a s w t) d = (d ≡ Cell.Reserved a s w t) ⊎ ((e : Record) × (d ≡ Cell.Event e) × N e)
Filled N Cell.Void d = d ≡ Cell.Void
Filled N (Cell.Event r) d = d ≡ Cell.Event r

abbrev pub Fills : (Record → Type 0) → List Cell → List Cell → Type 0
Fills N [] [] = Unit {0}
Fills N [] (d ∷ ds) = ⊥
Fills N (c ∷ cs) [] = ⊥
Fills N (c ∷ cs) (d ∷ ds) = Filled N c d × Fills N cs ds

-- a test that is false on each new event keeps what it filters
step-filter : (N : Record → Type 0) (t : Stored → Bool) (k : ℕ) (c d : Cell) (cs ds : List Cell) → Filled N c d → (is_reserved c ≡ true → (e : Record) → N e → t (record { index = k; record_of = e }) ≡ false)
    → filter t (events_from (suc k) ds) ≡ filter t (events_from (suc k) cs) → filter t (events_from k (d ∷ ds)) ≡ filter t (events_from k (c ∷ cs))
step-filter N t k (Cell.Reserved a s w u) d cs ds f new ih =
    ⊎_elim (λ (x : d ≡ Cell.Reserved a s w u). rw x ih) (λ (x : (e : Record) × (d ≡ Cell.Event e) × N e). rw (x.1, new refl x.0 x.2) ih) f
step-filter N t k Cell.Void d cs ds f new ih = rw f ih
step-filter N t k (Cell.Event r) d cs ds f new ih =
    rw f (ap (λ xs. if t (record { index = k; record_of = r }) then record { index = k; record_of = r } ∷ xs else xs) ih)

fills-filter : (N : Record → Type 0) (t : Stored → Bool) (k : ℕ) (cells later : List Cell) → Fills N cells later
    → ((i : ℕ) → option_is is_reserved (slice_get cells i) ≡ true → (e : Record) → N e → t (record { index = k + i; record_of = e }) ≡ false)
    → filter t (events_from k later) ≡ filter t (events_from k cells)
fills-filter N t k [] [] f new = refl
fills-filter N t k [] (d ∷ ds) f new = absurd f
fills-filter N t k (c ∷ cs) [] f new = absurd f
fills-filter N t k (c ∷ cs) (d ∷ ds) f new =
    step-filter N t k c d cs ds f.0 (λ is e n. let at : k + 0 ≡ k = omega arith in subst (λ (i : ℕ). t (record { index = i; record_of = e }) ≡ false) at (new 0 is e n))
    (fills-filter N t (suc k) cs ds f.1 (λ i is e n. let at : k + suc i ≡ suc k + i = omega arith in subst (λ (j : ℕ). t (record { index = j; record_of = e }) ≡ false) at (new (suc i) is e n)))

-- ---- what is read off the settled cells

reserved-unsettled : (o : Option Cell) → option_is is_reserved o ≡ true → option_is (λ c. not (is_reserved c)) o ≡ false
reserved-unsettled None e = refl
reserved-unsettled (Some c) e = rw e refl

-- a test that settled cells alone pass fails at a reserved one
fails-reserved : (cells : List Cell) (i : ℕ) (b : Bool) → (b ≡ true → is_settled cells i ≡ true) → option_is is_reserved (slice_get cells i) ≡ true → b ≡ false
fails-reserved cells i false s e = refl
fails-reserved cells i true s e = absurd (let is : is_settled cells i ≡ true = s refl in let no : is_settled cells i ≡ false = reserved-unsettled (slice_get cells i) e in cc)

fills-filtered : (N : Record → Type 0) (cells later : List Cell) (test : Name → ℕ → Bool) → Fills N cells later → ((a : Name) (i : ℕ) → test a i ≡ true → is_settled cells i ≡ true)
    → filter (λ e. test e.record_of.aggregate e.index) (events later) ≡ filter (λ e. test e.record_of.aggregate e.index) (events cells)
fills-filtered N cells later test f s = fills-filter N (λ e. test e.record_of.aggregate e.index) 0 cells later f
    (λ i is e n. let at : i ≡ 0 + i = omega arith in subst (λ (j : ℕ). test e.aggregate j ≡ false) at (fails-reserved cells i (test e.aggregate i) (s e.aggregate i) is))

-- the streams of the other aggregates stay
fills-others : (a b : Name) (cells later : List Cell) → ((e : Record) → Own a e → same_name e.aggregate b ≡ false) → Fills (Own a) cells later → stream_in b (events later) ≡ stream_in b (events cells)
fills-others a b cells later apart f = fills-filter (Own a) (is_of b) 0 cells later f (λ i is e n. apart e n)

-- ---- records over reserved cells

-- n cells from an index on are reserved
abbrev pub Ready : List Cell → ℕ → ℕ → Type 0
Ready cells i n = (k : ℕ) → k < n → option_is is_reserved (slice_get cells (i + k)) ≡ true

fills-none : (N : Record → Type 0) (cells : List Cell) → Fills N cells cells
fills-none N [] = tt
fills-none N (Cell.Reserved a s w t ∷ cs) = (inl refl, fills-none N cs)
fills-none N (Cell.Void ∷ cs) = (refl, fills-none N cs)
fills-none N (Cell.Event r ∷ cs) = (refl, fills-none N cs)

filled-same : (N : Record → Type 0) (c : Cell) → Filled N c c
filled-same N (Cell.Reserved a s w t) = inl refl
filled-same N Cell.Void = refl
filled-same N (Cell.Event r) = refl

filled-event : (N : Record → Type 0) (c : Cell) (e : Record) → is_reserved c ≡ true → N e → Filled N c (Cell.Event e)
filled-event N (Cell.Reserved a s w t) e h n = inr (e, refl, n)
filled-event N Cell.Void e h n = absurd (cc)
filled-event N (Cell.Event r) e h n = absurd (cc)

pub fills-put : (N : Record → Type 0) (i : ℕ) (rs : List Record) (cells : List Cell) → Ready cells i (length rs) → AllByRecursion N rs → Fills N cells (put_cells i (map Cell.Event rs) cells)
fills-put N zero [] [] h n = tt
fills-put N (suc i) [] [] h n = tt
fills-put N i (r ∷ rs) [] h n = absurd (let k : option_is is_reserved (slice_get [] (i + 0)) ≡ true = h 0 (omega arith) in cc)
fills-put N zero [] (c ∷ cs) h n = fills-none N (c ∷ cs)
fills-put N zero (r ∷ rs) (c ∷ cs) h n =
    (filled-event N c r (h 0 (omega arith)) n.0, fills-put N zero rs cs (λ k lt. let at : suc (0 + k) ≡ 0 + suc k = omega arith in subst (λ (j : ℕ). option_is is_reserved (slice_get (c ∷ cs) j) ≡ true) (sym at) (h (suc k) (omega arith))) n.1)
fills-put N (suc i) rs (c ∷ cs) h n =
    (filled-same N c, fills-put N i rs cs (λ k lt. let at : suc i + k ≡ suc (i + k) = omega arith in subst (λ (j : ℕ). option_is is_reserved (slice_get (c ∷ cs) j) ≡ true) at (h k lt)) n)

-- ---- the stream of the aggregate gets the records at its end

abbrev stored_at : ℕ → List Record → List Stored
stored_at i [] = []
stored_at i (r ∷ rs) = record { index = i; record_of = r } ∷ stored_at (suc i) rs

same-self : (a b : Name) → a ≡ b → same_name a b ≡ true
same-self a b e = (bytes_eq-Decides a b).1 e

-- where no event of a stands from here on
stream-here : (a : Name) (k : ℕ) (rs : List Record) (cells : List Cell) → AllByRecursion (Own a) rs → Ready cells 0 (length rs) → filter (is_of a) (events_from k cells) ≡ []
    → filter (is_of a) (events_from k (put_cells zero (map Cell.Event rs) cells)) ≡ stored_at k rs
stream-here a k [] [] n h e = refl
stream-here a k [] (c ∷ cs) n h e = e
stream-here a k (r ∷ rs) [] n h e = absurd (let is : option_is is_reserved (slice_get [] (0 + 0)) ≡ true = h 0 (omega arith) in cc)
stream-here a k (r ∷ rs) (c ∷ cs) n h e =
    rw (same-self r.aggregate a n.0)
    (ap (λ xs. record { index = k; record_of = r } ∷ xs) (stream-here a (suc k) rs cs n.1 (λ j lt. let at : suc (0 + j) ≡ 0 + suc j = omega arith in subst (λ (i : ℕ). option_is is_reserved (slice_get (c ∷ cs) i) ≡ true) (sym at) (h (suc j) (omega arith))) (tail c (h 0 (omega arith)) e)))
  where
    tail : (d : Cell) → is_reserved d ≡ true → filter (is_of a) (events_from k (d ∷ cs)) ≡ [] → filter (is_of a) (events_from (suc k) cs) ≡ []
    tail (Cell.Reserved b s w t) i e = e
    tail Cell.Void i e = absurd (cc)
    tail (Cell.Event q) i e = absurd (cc)

stream-put : (a : Name) (k i : ℕ) (rs : List Record) (cells : List Cell) → AllByRecursion (Own a) rs → Ready cells i (length rs) → i ≤ length cells
    → length (filter (is_of a) (events_from k (take i cells))) ≡ length (filter (is_of a) (events_from k cells))
    → filter (is_of a) (events_from k (put_cells i (map Cell.Event rs) cells)) ≡ filter (is_of a) (events_from k cells) ++ stored_at (k + i) rs
stream-put a k zero rs cells n h le e =
    let none : filter (is_of a) (events_from k cells) ≡ [] = none-left (filter (is_of a) (events_from k cells)) (sym e) in
    let at : k ≡ k + 0 = omega arith in rw none (stream-here a k rs cells n h none ∙ ap (λ (j : ℕ). stored_at j rs) at)
stream-put a k (suc i) rs [] n h le e = absurd (omega arith)
stream-put a k (suc i) rs (c ∷ cs) n h le e = by c e (λ k' e'. stream-put a k' i rs cs n (λ j lt. let at : suc i + j ≡ suc (i + j) = omega arith in subst (λ (x : ℕ). option_is is_reserved (slice_get (c ∷ cs) x) ≡ true) at (h j lt)) (omega arith) e')
  where
    next : stored_at (suc k + i) rs ≡ stored_at (k + suc i) rs
    next = let at : suc k + i ≡ k + suc i = omega arith in ap (λ (j : ℕ). stored_at j rs) at

    event : (b : Bool) (x : Stored) (p q r s : List Stored) → length (if b then x ∷ p else p) ≡ length (if b then x ∷ q else q) → (length p ≡ length q → r ≡ q ++ s) → (if b then x ∷ r else r) ≡ (if b then x ∷ q else q) ++ s
    event true x p q r s e f = ap (λ xs. x ∷ xs) (f (omega arith))
    event false x p q r s e f = f e

    by : (d : Cell) → length (filter (is_of a) (events_from k (take (suc i) (d ∷ cs)))) ≡ length (filter (is_of a) (events_from k (d ∷ cs)))
        → ((k' : ℕ) → length (filter (is_of a) (events_from k' (take i cs))) ≡ length (filter (is_of a) (events_from k' cs)) → filter (is_of a) (events_from k' (put_cells i (map Cell.Event rs) cs)) ≡ filter (is_of a) (events_from k' cs) ++ stored_at (k' + i) rs)
        → filter (is_of a) (events_from k (put_cells (suc i) (map Cell.Event rs) (d ∷ cs))) ≡ filter (is_of a) (events_from k (d ∷ cs)) ++ stored_at (k + suc i) rs
    by (Cell.Reserved b s w t) e again = again (suc k) e ∙ ap (λ xs. filter (is_of a) (events_from (suc k) cs) ++ xs) next
    by Cell.Void e again = again (suc k) e ∙ ap (λ xs. filter (is_of a) (events_from (suc k) cs) ++ xs) next
    by (Cell.Event q) e again =
        event (is_of a (record { index = k; record_of = q })) (record { index = k; record_of = q }) (filter (is_of a) (events_from (suc k) (take i cs))) (filter (is_of a) (events_from (suc k) cs))
        (filter (is_of a) (events_from (suc k) (put_cells i (map Cell.Event rs) cs))) (stored_at (k + suc i) rs) e (λ l. again (suc k) l ∙ ap (λ xs. filter (is_of a) (events_from (suc k) cs) ++ xs) next)

-- ---- prefixes

all-false : (bs : List Bool) → AllByRecursion (λ b. b ≡ false) bs → list_all not bs ≡ true
all-false [] h = refl
all-false (b ∷ bs) h = rw (h.0, all-false bs h.1) refl

not-append : (bs cs : List Bool) → AllByRecursion (λ b. b ≡ false) cs → list_all not bs ≡ true → list_all not (bs ++ cs) ≡ true
not-append [] cs h e = all-false cs h
not-append (true ∷ bs) cs h e = absurd (cc)
not-append (false ∷ bs) cs h e = not-append bs cs h e

prefix-false : (cs : List Bool) → AllByRecursion (λ b. b ≡ false) cs → is_prefix_test cs ≡ true
prefix-false [] h = refl
prefix-false (true ∷ cs) h = absurd (let k : true ≡ false = h.0 in cc)
prefix-false (false ∷ cs) h = all-false cs h.1

-- a prefix of a list is a prefix of a longer one of which nothing more passes
prefix-append : (bs cs : List Bool) → AllByRecursion (λ b. b ≡ false) cs → is_prefix_test bs ≡ true → is_prefix_test (bs ++ cs) ≡ true
prefix-append [] cs h e = prefix-false cs h
prefix-append (true ∷ bs) cs h e = prefix-append bs cs h e
prefix-append (false ∷ bs) cs h e = not-append bs cs h e

unpassed : (cells : List Cell) (test : ℕ → Bool) (i : ℕ) (rs : List Record) → ((j : ℕ) → test j ≡ true → is_settled cells j ≡ true) → Ready cells i (length rs) → AllByRecursion (λ b. b ≡ false) (map (λ e. test e.index) (stored_at i rs))
unpassed cells test i [] s ready = tt
unpassed cells test i (r ∷ rs) s ready = (
  fails-reserved cells i (test i) (s i) (let at : i + 0 ≡ i = omega arith in subst (λ (j : ℕ). option_is is_reserved (slice_get cells j) ≡ true) at (ready 0 (omega arith))),
  unpassed cells test (suc i) rs s (λ k lt. let at : i + suc k ≡ suc i + k = omega arith in subst (λ (j : ℕ). option_is is_reserved (slice_get cells j) ≡ true) at (ready (suc k) (omega arith))),
)

-- what an append fills
pub record IsFill (a : Name) (i : ℕ) (rs : List Record) (cells : List Cell) : Type 0 where
  pub own : AllByRecursion (Own a) rs
  pub ready : Ready cells i (length rs)
  pub within : i ≤ length cells
  pub last : length_of a (take i cells) ≡ length_of a cells

prefix-fills : (a : Name) (i : ℕ) (rs : List Record) (cells : List Cell) (test : ℕ → Bool) → IsFill a i rs cells → ((j : ℕ) → test j ≡ true → is_settled cells j ≡ true) → (b : Name) → PassPrefix test (events cells) b → PassPrefix test (events (put_cells i (map Cell.Event rs) cells)) b
prefix-fills a i rs cells test f s b h = at (same_name a b) refl
  where
    later : List Cell
    later = put_cells i (map Cell.Event rs) cells

    at : (c : Bool) → same_name a b ≡ c → is_prefix_test (map (λ e. test e.index) (stream_in b (events later))) ≡ true
    at true e =
        let is : a ≡ b = (bytes_eq-Decides a b).0 e in
        let t : stream_in b (events later) ≡ stream_in b (events cells) ++ stored_at i rs = subst (λ (x : Name). stream_in x (events later) ≡ stream_in x (events cells) ++ stored_at i rs) is (stream-put a 0 i rs cells f.own f.ready f.within f.last ∙ (let z : 0 + i ≡ i = omega arith in ap (λ (j : ℕ). stream_in a (events cells) ++ stored_at j rs) z)) in
        rw (t, map-append (λ (x : Stored). test x.index) (stream_in b (events cells)) (stored_at i rs))
        (prefix-append (map (λ x. test x.index) (stream_in b (events cells))) (map (λ x. test x.index) (stored_at i rs)) (unpassed cells test i rs s f.ready) h)
    at false e = rw (fills-others a b cells later (λ x n. ap (λ (y : Name). same_name y b) n ∙ e) (fills-put (Own a) i rs cells f.ready f.own)) h

-- ---- cells

filled-settled : (N : Record → Type 0) (cells later : List Cell) (i : ℕ) → Fills N cells later → is_settled cells i ≡ true → is_settled later i ≡ true
filled-settled N [] [] i f h = h
filled-settled N [] (d ∷ ds) i f h = absurd f
filled-settled N (c ∷ cs) [] i f h = absurd f
filled-settled N (Cell.Reserved a s w t ∷ cs) (d ∷ ds) zero f h = absurd (cc)
filled-settled N (Cell.Void ∷ cs) (d ∷ ds) zero f h = rw f.0 refl
filled-settled N (Cell.Event r ∷ cs) (d ∷ ds) zero f h = rw f.0 refl
filled-settled N (c ∷ cs) (d ∷ ds) (suc i) f h = filled-settled N cs ds i f.1 h

fills-length : (N : Record → Type 0) (cells later : List Cell) → Fills N cells later → length later ≡ length cells
fills-length N [] [] f = refl
fills-length N [] (d ∷ ds) f = absurd f
fills-length N (c ∷ cs) [] f = absurd f
fills-length N (c ∷ cs) (d ∷ ds) f = ap suc (fills-length N cs ds f.1)

-- the cells of an append grow
pub fill-growth : (a : Name) (i : ℕ) (rs : List Record) (cells : List Cell) → IsFill a i rs cells → IsGrowth cells (put_cells i (map Cell.Event rs) cells)
fill-growth a i rs cells f = record {
  settled = λ j e. filled-settled (Own a) cells later j g e;
  longer = (let l : length later ≡ length cells = fills-length (Own a) cells later g in omega arith);
  prefixes = λ test s b h. prefix-fills a i rs cells test f s b h;
  filtered = λ test s. fills-filtered (Own a) cells later test g s;
}
  where
    later : List Cell
    later = put_cells i (map Cell.Event rs) cells

    g : Fills (Own a) cells later
    g = fills-put (Own a) i rs cells f.ready f.own

-- ---- moments

step-reserved : (N : Record → Type 0) (now : ℕ) (c d : Cell) → Filled N c d → reserved_by now c → reserved_by now d
step-reserved N now (Cell.Reserved a s w t) d f h = ⊎_elim (λ (x : d ≡ Cell.Reserved a s w t). rw x h) (λ (x : (e : Record) × (d ≡ Cell.Event e) × N e). rw x.1 tt) f
step-reserved N now Cell.Void d f h = rw f tt
step-reserved N now (Cell.Event r) d f h = rw f tt

pub fills-reserved_by : (N : Record → Type 0) (now : ℕ) (cells later : List Cell) → Fills N cells later → AllByRecursion (reserved_by now) cells → AllByRecursion (reserved_by now) later
fills-reserved_by N now [] [] f h = tt
fills-reserved_by N now [] (d ∷ ds) f h = absurd f
fills-reserved_by N now (c ∷ cs) [] f h = absurd f
fills-reserved_by N now (c ∷ cs) (d ∷ ds) f h = (step-reserved N now c d f.0 h.0, fills-reserved_by N now cs ds f.1 h.1)
