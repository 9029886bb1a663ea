-- Arguments, word by word.
use Rattle.std.proofs.Common.{◌≡◌, ℕ, zero, suc, ◌<◌, nat_lt, Bool, true, false, not, ◌&&◌, ◌||◌, List, [], ◌∷◌, ◌++◌, length, get_or, fold, Option, Some, None, option_map, map, take, drop, ◌+◌, Bor, refl, sym, ap, ◌∙◌, arith}
use borrow.Author.Tests.{ltb-true, ltb-false}
use Rattle.std.specs.List.{list_any}
use Rattle.std.specs.List.Sorted.{IsPartitionPoint}
use Rattle.std.specs.Cmp.{IsTotalOrder, on_total}
use Rattle.std.specs.declared.cmp.Ordering.{Ordering}
use Rattle.std.specs.declared.cmp.Ordering.TheVariants.{Less, Equal, Greater}
use Rattle.std.specs.Ordering.{is_eq, ordering_reverse, match_ordering}
use Rattle.std.proofs.lemmas.Cmp.{nat_list_cmp_total}
use Rattle.std.proofs.lemmas.Map.Text.{is_eq-slice_cmp}
use Rattle.std.proofs.lemmas.List.{map_more}
use Rattle.std.proofs.lemmas.List.Sums.{fold-append}
use Rattle.ax_values.specs.Grammar.{Line, ◌>>=◌, when, each_in}
use Rattle.ax_values.specs.Words.{Payload, field_cmp}
use Rattle.ax_values.specs.Readers.{field_in}
use Rattle.ax_values.specs.declared.value.Field.{Field}
use Rattle.ax_laws.proofs.Tests.{and-false, or-right, or-false, or-front, not-true, not-false}
use Rattle.ax_values.proofs.Options.{when-true, when-some, then-some}
use Rattle.ax_values.proofs.Lists.{each_in-push}
use Rattle.ax_journal.specs.Arguments.{same_field, all_differ, put_in, sorted_fields, arguments_in}

pub field_total : IsTotalOrder field_cmp
field_total = on_total (λ f. f.name) nat_list_cmp_total

-- ---- fields of one name

same-cmp : (f g : Field) (o : Ordering) → field_cmp f g ≡ o → same_field f g ≡ is_eq o
same-cmp f g o h = sym (is_eq-slice_cmp f.name g.name) ∙ ap is_eq h

is_eq-turned : (o : Ordering) → is_eq (ordering_reverse o) ≡ is_eq o
is_eq-turned Less = refl
is_eq-turned Equal = refl
is_eq-turned Greater = refl

same-turned : (f g : Field) → same_field f g ≡ same_field g f
same-turned f g = same-cmp f g (ordering_reverse (field_cmp g f)) (field_total.antisymm f g) ∙ is_eq-turned (field_cmp g f) ∙ is_eq-slice_cmp g.name f.name

same-alike : (f g x : Field) → field_cmp g x ≡ Equal → same_field f g ≡ same_field f x
same-alike f g x h =
    same-turned f g ∙ same-cmp g f (field_cmp x f) (field_total.congr g x f h) ∙ is_eq-slice_cmp x.name f.name ∙ same-turned x f

-- ---- tests

or-twice : (a b : Bool) → (a || b) ≡ (a || (a || b))
or-twice true b = refl
or-twice false b = refl

or-last : (a b c : Bool) → ((a || b) || c) ≡ (a || (b || c))
or-last true b c = refl
or-last false b c = refl

-- ---- a field that is put

any-put-by : (f g x : Field) (xs : List Field) (o : Ordering) → field_cmp g x ≡ o → list_any (same_field f) (put_in xs g) ≡ (same_field f g || list_any (same_field f) xs)
    → list_any (same_field f) (match_ordering o (g ∷ x ∷ xs) (g ∷ xs) (x ∷ put_in xs g)) ≡ (same_field f g || (same_field f x || list_any (same_field f) xs))
any-put-by f g x xs Less h r = refl
any-put-by f g x xs Equal h r = or-twice (same_field f g) (list_any (same_field f) xs) ∙ ap (λ b. same_field f g || (b || list_any (same_field f) xs)) (same-alike f g x h)
any-put-by f g x xs Greater h r = ap (λ b. same_field f x || b) r ∙ or-front (same_field f x) (same_field f g) (list_any (same_field f) xs)

any-put : (f g : Field) (xs : List Field) → list_any (same_field f) (put_in xs g) ≡ (same_field f g || list_any (same_field f) xs)
any-put f g [] = refl
any-put f g (x ∷ xs) = any-put-by f g x xs (field_cmp g x) refl (any-put f g xs)

any-puts : (f : Field) (fs acc : List Field) → list_any (same_field f) (fold put_in acc fs) ≡ (list_any (same_field f) fs || list_any (same_field f) acc)
any-puts f [] acc = refl
any-puts f (g ∷ fs) acc =
    any-puts f fs (put_in acc g)
    ∙ ap (λ b. list_any (same_field f) fs || b) (any-put f g acc)
    ∙ or-front (list_any (same_field f) fs) (same_field f g) (list_any (same_field f) acc)
    ∙ sym (or-last (same_field f g) (list_any (same_field f) fs) (list_any (same_field f) acc))

any-sorted : (f : Field) (fs : List Field) → list_any (same_field f) (sorted_fields fs) ≡ list_any (same_field f) fs
any-sorted f fs = any-puts f fs [] ∙ or-false (list_any (same_field f) fs)

-- ---- one more field

differ-push-by : (a b c d : Bool) → (not (a || b) && (c && not d)) ≡ ((not a && c) && not (b || d))
differ-push-by true b c d = refl
differ-push-by false true true d = refl
differ-push-by false true false d = refl
differ-push-by false false c d = refl

any-push : (g f : Field) (fs : List Field) → list_any (same_field g) (fs ++ f ∷ []) ≡ (list_any (same_field g) fs || same_field f g)
any-push g f [] = or-false (same_field g f) ∙ same-turned g f
any-push g f (x ∷ fs) = ap (λ b. same_field g x || b) (any-push g f fs) ∙ sym (or-last (same_field g x) (list_any (same_field g) fs) (same_field f g))

differ-push : (f : Field) (fs : List Field) → all_differ (fs ++ f ∷ []) ≡ (all_differ fs && not (list_any (same_field f) fs))
differ-push f [] = refl
differ-push f (g ∷ fs) =
    ap (λ b. not b && all_differ (fs ++ f ∷ [])) (any-push g f fs)
    ∙ ap (λ b. not (list_any (same_field g) fs || same_field f g) && b) (differ-push f fs)
    ∙ differ-push-by (list_any (same_field g) fs) (same_field f g) (all_differ fs) (list_any (same_field f) fs)

any-here : (g f : Field) (fs gs : List Field) → same_field g f ≡ true → list_any (same_field g) (fs ++ f ∷ gs) ≡ true
any-here g f [] gs h = ap (λ b. b || list_any (same_field g) gs) h
any-here g f (x ∷ fs) gs h = or-right (same_field g x) (list_any (same_field g) (fs ++ f ∷ gs)) (any-here g f fs gs h)

differ-repeat : (f : Field) (fs gs : List Field) → list_any (same_field f) fs ≡ true → all_differ (fs ++ f ∷ gs) ≡ false
differ-repeat f [] gs h = cc
differ-repeat f (g ∷ fs) gs h = at (same_field f g) refl h (differ-repeat f fs gs)
  where
    at : (b : Bool) → same_field f g ≡ b → (b || list_any (same_field f) fs) ≡ true → (list_any (same_field f) fs ≡ true → all_differ (fs ++ f ∷ gs) ≡ false) → (not (list_any (same_field g) (fs ++ f ∷ gs)) && all_differ (fs ++ f ∷ gs)) ≡ false
    at true e k more = ap (λ b. not b && all_differ (fs ++ f ∷ gs)) (any-here g f fs gs (same-turned g f ∙ e))
    at false e k more = ap (λ b. not (list_any (same_field g) (fs ++ f ∷ gs)) && b) (more k) ∙ and-false (not (list_any (same_field g) (fs ++ f ∷ gs)))

-- ---- words

of_fields : List Field → Option Payload
of_fields fs = when (all_differ fs) (sorted_fields fs)

with_next : List Line → Field → Option (List Field)
with_next ws f = option_map (λ fs. f ∷ fs) (each_in field_in ws)

each-none : (ws : List Line) (w : Line) (rest : List Line) → field_in w ≡ None → each_in field_in (ws ++ w ∷ rest) ≡ None
unfolding with_next
each-none [] w rest h = ap (λ o. o >>= with_next rest) h
each-none (v ∷ ws) w rest h = at (field_in v) (each-none ws w rest h)
  where
    at : (o : Option Field) → each_in field_in (ws ++ w ∷ rest) ≡ None → (o >>= with_next (ws ++ w ∷ rest)) ≡ None
    at None none = refl
    at (Some f) none = ap (option_map (λ fs. f ∷ fs)) none

behind : List Field → Option (List Field) → Option (List Field)
behind fs o = option_map (λ gs. fs ++ gs) o

behind-cons : (g : Field) (fs : List Field) (o : Option (List Field)) → option_map (λ fs. g ∷ fs) (behind fs o) ≡ behind (g ∷ fs) o
unfolding behind
behind-cons g fs None = refl
behind-cons g fs (Some gs) = refl

behind-nil : (o : Option (List Field)) → o ≡ behind [] o
unfolding behind
behind-nil None = refl
behind-nil (Some gs) = refl

each-behind : (ws : List Line) (fs : List Field) (rest : List Line) → each_in field_in ws ≡ Some fs → each_in field_in (ws ++ rest) ≡ behind fs (each_in field_in rest)
unfolding with_next
each-behind [] fs rest h = let none : [] ≡ fs = cc in behind-nil (each_in field_in rest) ∙ ap (λ fs. behind fs (each_in field_in rest)) none
each-behind (v ∷ ws) fs rest h =
    let p = then-some (field_in v) (with_next ws) fs h in
    at (each-behind ws) p.from p.held (each_in field_in ws) refl p.gives
  where
    at : ((gs : List Field) (rest : List Line) → each_in field_in ws ≡ Some gs → each_in field_in (ws ++ rest) ≡ behind gs (each_in field_in rest)) → (g : Field) → field_in v ≡ Some g → (o : Option (List Field)) → each_in field_in ws ≡ o → option_map (λ fs. g ∷ fs) o ≡ Some fs → each_in field_in (v ∷ ws ++ rest) ≡ behind fs (each_in field_in rest)
    at more g e None k m = cc
    at more g e (Some gs) k m =
        let whole : g ∷ gs ≡ fs = cc in
        ap (λ o. o >>= with_next (ws ++ rest)) e
        ∙ ap (option_map (λ fs. g ∷ fs)) (more gs rest k)
        ∙ behind-cons g gs (each_in field_in rest)
        ∙ ap (λ fs. behind fs (each_in field_in rest)) whole

-- a word that is no field
unread : (ws : List Line) (w : Line) (rest : List Line) → field_in w ≡ None → arguments_in (ws ++ w ∷ rest) ≡ None
unfolding of_fields
unread ws w rest h = ap (λ o. o >>= of_fields) (each-none ws w rest h)

-- a field of a new name
read : (ws : List Line) (p : Payload) (w : Line) (f : Field) → arguments_in ws ≡ Some p → field_in w ≡ Some f → list_any (same_field f) p ≡ false → arguments_in (ws ++ w ∷ []) ≡ Some (put_in p f)
unfolding of_fields
read ws p w f h e n =
    let c = then-some (each_in field_in ws) of_fields p h in
    let k = when-some (all_differ c.from) (sorted_fields c.from) p c.gives in
    let new : list_any (same_field f) c.from ≡ false = sym (any-sorted f c.from) ∙ ap (list_any (same_field f)) k.1 ∙ n in
    let differ : all_differ (c.from ++ f ∷ []) ≡ true = differ-push f c.from ∙ ap (λ b. b && not (list_any (same_field f) c.from)) k.0 ∙ ap not new in
    ap (λ o. o >>= of_fields) (each_in-push field_in ws c.from w f c.held e)
    ∙ when-true (all_differ (c.from ++ f ∷ [])) (sorted_fields (c.from ++ f ∷ [])) differ
    ∙ ap Some (fold-append put_in [] c.from (f ∷ []) ∙ ap (λ p. put_in p f) k.1)

when-false : {A : Type 0} (b : Bool) (x : A) → b ≡ false → when b x ≡ None
when-false b x h = ap (λ b. when b x) h

-- a field of a name that is there
repeated : (ws : List Line) (p : Payload) (w : Line) (f : Field) (rest : List Line) → arguments_in ws ≡ Some p → field_in w ≡ Some f → list_any (same_field f) p ≡ true → arguments_in (ws ++ w ∷ rest) ≡ None
unfolding of_fields with_next behind
repeated ws p w f rest h e n =
    let c = then-some (each_in field_in ws) of_fields p h in
    let k = when-some (all_differ c.from) (sorted_fields c.from) p c.gives in
    let there : list_any (same_field f) c.from ≡ true = sym (any-sorted f c.from) ∙ ap (list_any (same_field f)) k.1 ∙ n in
    ap (λ o. o >>= of_fields) (each-behind ws c.from (w ∷ rest) c.held ∙ ap (λ o. behind c.from (o >>= with_next rest)) e)
    ∙ at c.from there (each_in field_in rest)
  where
    at : (fs : List Field) → list_any (same_field f) fs ≡ true → (o : Option (List Field)) → (behind fs (option_map (λ gs. f ∷ gs) o) >>= of_fields) ≡ None
    at fs t None = refl
    at fs t (Some gs) = when-false (all_differ (fs ++ f ∷ gs)) (sorted_fields (fs ++ f ∷ gs)) (differ-repeat f fs gs t)

-- ---- where a search finds its place

none-any : (f : Field) (fs : List Field) → ((k : ℕ) (d : Field) → k < length fs → is_eq (field_cmp (get_or fs k d) f) ≡ false) → list_any (same_field f) fs ≡ false
none-any f [] h = refl
none-any f (g ∷ fs) h =
    ap (λ b. b || list_any (same_field f) fs) (same-turned f g ∙ sym (is_eq-slice_cmp g.name f.name) ∙ h 0 f (omega arith))
    ∙ none-any f fs (λ k d l. h (suc k) d (omega arith))

pub any-found : (f : Field) (fs : List Field) (i : ℕ) → i < length fs → field_cmp (get_or fs i f) f ≡ Equal → list_any (same_field f) fs ≡ true
any-found f [] i l h = absurd (omega arith)
any-found f (g ∷ fs) zero l h = ap (λ b. b || list_any (same_field f) fs) (same-turned f g ∙ same-cmp g f Equal h)
any-found f (g ∷ fs) (suc i) l h = or-right (same_field f g) (list_any (same_field f) fs) (any-found f fs i (omega arith) h)

pub any-none : (f : Field) (fs : List Field) (i : ℕ) → IsPartitionPoint (λ y. field_cmp y f ≡ Less) (λ y. field_cmp y f ≡ Greater) fs i → list_any (same_field f) fs ≡ false
any-none f fs i p = none-any f fs (λ k d l. at k d l (nat_lt k i) refl)
  where
    at : (k : ℕ) (d : Field) → k < length fs → (b : Bool) → nat_lt k i ≡ b → is_eq (field_cmp (get_or fs k d) f) ≡ false
    at k d l true e = ap is_eq (p.0 k d (omega arith) (ltb-true k i e))
    at k d l false e = ap is_eq (p.1 k d (ltb-false k i e) l)

-- ---- where a word stands

abbrev shown : List (Bor Line) → List Line
shown ws = map (λ w. w.now) ws

-- what a place past the end holds
abbrev pub no_word : Bor Line
no_word = record { ref_ptr = (0, 0); now = [] }

abbrev word_at : List (Bor Line) → ℕ → Line
word_at ws i = (get_or ws i no_word).now

parted : (ws : List (Bor Line)) (i : ℕ) → i < length ws → shown ws ≡ shown (take i ws) ++ word_at ws i ∷ shown (drop (suc i) ws)
parted [] i h = absurd (omega arith)
parted (w ∷ ws) zero h = refl
parted (w ∷ ws) (suc i) h = ap (λ vs. w.now ∷ vs) (parted ws i (omega arith))

pub unread-at : (ws : List (Bor Line)) (i : ℕ) → i < length ws → field_in (word_at ws i) ≡ None → None ≡ arguments_in (shown ws)
unread-at ws i l h = sym (ap arguments_in (parted ws i l) ∙ unread (shown (take i ws)) (word_at ws i) (shown (drop (suc i) ws)) h)

pub repeated-at : (ws : List (Bor Line)) (i : ℕ) (p : Payload) (f : Field) → i < length ws → arguments_in (shown (take i ws)) ≡ Some p → field_in (word_at ws i) ≡ Some f → false ≡ not (list_any (same_field f) p) → None ≡ arguments_in (shown ws)
repeated-at ws i p f l h e n =
    sym (ap arguments_in (parted ws i l) ∙ repeated (shown (take i ws)) p (word_at ws i) f (shown (drop (suc i) ws)) h e (not-false (list_any (same_field f) p) (sym n)))

pub read-at : (ws : List (Bor Line)) (i : ℕ) (p : Payload) (f : Field) → i < length ws → arguments_in (shown (take i ws)) ≡ Some p → field_in (word_at ws i) ≡ Some f → true ≡ not (list_any (same_field f) p) → arguments_in (shown (take (i + 1) ws)) ≡ Some (put_in p f)
read-at ws i p f l h e n =
    ap arguments_in (map_more (λ (w : Bor Line). w.now) ws i no_word l) ∙ read (shown (take i ws)) p (word_at ws i) f h e (not-true (list_any (same_field f) p) (sym n))
