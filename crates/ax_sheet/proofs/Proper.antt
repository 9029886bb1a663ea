-- JSON that was read: the members of its objects rise, and its negative numbers are below 0.
use Rattle.std.proofs.Common.{◌≡◌, ℕ, zero, suc, ◌^◌, Bool, true, false, ◌&&◌, Option, Some, None, option_map, option_and_then, Ordering, Less, Equal, Greater, is_lt, nat_cmp, nat_lt, pos, negsuc, refl, sym, ap, ◌∙◌}
use Rattle.std.specs.Prelude.{if◌then◌else◌, neg_ℤ, nat_le, slice_index, drop, ◌==◌}
use Rattle.std.specs.Float.{binary64, float_is_finite}
use Rattle.std.specs.Cmp.Lexicographic.{slice_cmp}
use Rattle.std.specs.Ordering.{match_ordering, ordering_reverse}
use Rattle.std.proofs.lemmas.Cmp.{nat_list_cmp_total}
use Rattle.fast_float.specs.Text.{minus, Parts, scan, digits_of, nearest, with_sign}
use Rattle.json.specs.Json as json
use Rattle.json.specs.Lex.{tokens}
use Rattle.serde_json.specs.Data.{Num, unsigned, negative, float, Data, null, boolean, number, string, array, object, Items, no_items, item, Members, no_members, member, put}
use Rattle.serde_json.specs.Find.{get, get_member}
use Rattle.serde_json.specs.Read.{is_integer, float_of, number_from, number_of, of_json, of_items, of_members, max_depth, read}
use Rattle.ax_values.specs.Grammar.{Line}
use Rattle.ax_laws.proofs.Tests.{both, and-true}
use Rattle.ax_values.proofs.Options.{then-some, map-some}

abbrev pub leads : Line → Members → Bool
leads k no_members = true
leads k (member l e ms) = is_lt (slice_cmp nat_cmp k l)

abbrev pub is_proper : Num → Bool
is_proper (unsigned n) = true
is_proper (negative (pos n)) = false
is_proper (negative (negsuc n)) = true
is_proper (float x) = true

abbrev mutual
  pub proper : Data → Bool
  proper null = true
  proper (boolean b) = true
  proper (number n) = is_proper n
  proper (string s) = true
  proper (array ds) = items_proper ds
  proper (object ms) = members_proper ms

  pub items_proper : Items → Bool
  items_proper no_items = true
  items_proper (item d ds) = proper d && items_proper ds

  pub members_proper : Members → Bool
  members_proper no_members = true
  members_proper (member k d ms) = proper d && (leads k ms && members_proper ms)

-- ---- a put

leads_by : (o : Ordering) (f k l : Line) (d e : Data) (ms rest : Members) → is_lt (slice_cmp nat_cmp f k) ≡ true → is_lt (slice_cmp nat_cmp f l) ≡ true →
    leads f (match_ordering o (member k d (member l e ms)) (member l d ms) (member l e rest)) ≡ true
leads_by Less f k l d e ms rest p q = p
leads_by Equal f k l d e ms rest p q = q
leads_by Greater f k l d e ms rest p q = q

leads_put : (f k : Line) (d : Data) (ms : Members) → is_lt (slice_cmp nat_cmp f k) ≡ true → leads f ms ≡ true → leads f (put k d ms) ≡ true
leads_put f k d no_members p q = p
leads_put f k d (member l e ms) p q = leads_by (slice_cmp nat_cmp k l) f k l d e ms (put k d ms) p q

put_by : (o : Ordering) (k l : Line) (d e : Data) (ms : Members) → slice_cmp nat_cmp k l ≡ o → proper d ≡ true → members_proper (member l e ms) ≡ true → members_proper (put k d ms) ≡ true →
    members_proper (match_ordering o (member k d (member l e ms)) (member l d ms) (member l e (put k d ms))) ≡ true
put_by Less k l d e ms is p q r = and-true (proper d) _ p (and-true _ _ (ap is_lt is) q)
put_by Equal k l d e ms is p q r = and-true (proper d) _ p (both (proper e) _ q).1
put_by Greater k l d e ms is p q r =
    let b = both (proper e) _ q in
    let c = both (leads l ms) _ b.1 in
    let less : slice_cmp nat_cmp l k ≡ Less = nat_list_cmp_total.antisymm l k ∙ ap ordering_reverse is in
    and-true (proper e) _ b.0 (and-true _ _ (leads_put l k d ms (ap is_lt less) c.0) r)

put_proper : (k : Line) (d : Data) (ms : Members) → proper d ≡ true → members_proper ms ≡ true → members_proper (put k d ms) ≡ true
put_proper k d no_members p q = and-true (proper d) _ p refl
put_proper k d (member l e ms) p q =
    put_by (slice_cmp nat_cmp k l) k l d e ms refl p q (put_proper k d ms p (both (leads l ms) _ (both (proper e) _ q).1).1)

-- ---- what is read

-- what there is passes a test
record Passes {A : Type 0} (test : A → Bool) (o : Option A) : Type 0 where
  is : (a : A) → o ≡ Some a → test a ≡ true

none_passes : {A : Type 0} (test : A → Bool) → Passes test None
none_passes test = record { is = λ a e. cc }

some_passes : {A : Type 0} (test : A → Bool) (x : A) → test x ≡ true → Passes test (Some x)
some_passes test x h = record { is = λ a e. let same : x ≡ a = cc in ap test (sym same) ∙ h }

passes-map : {A B : Type 0} (test : A → Bool) (later : B → Bool) (h : A → B) → ((a : A) → test a ≡ true → later (h a) ≡ true) → (o : Option A) → Passes test o → Passes later (option_map h o)
passes-map test later h k o x = record { is = λ b e. let m = map-some o h b e in ap later (sym m.gives) ∙ k m.from (x.is m.from m.held) }

passes-then : {A B : Type 0} (test : A → Bool) (later : B → Bool) (h : A → Option B) → ((a : A) → test a ≡ true → Passes later (h a)) → (o : Option A) → Passes test o → Passes later (option_and_then h o)
passes-then test later h k o x = record { is = λ b e. let m = then-some o h b e in (k m.from (x.is m.from m.held)).is b m.gives }

passes-if : {A : Type 0} (test : A → Bool) (b : Bool) (m n : Option A) → (b ≡ true → Passes test m) → Passes test n → Passes test (if b then m else n)
passes-if test true m n p q = p refl
passes-if test false m n p q = q

below_zero : (n : ℕ) → nat_lt 0 n ≡ true → is_proper (negative (neg_ℤ (pos n))) ≡ true
below_zero zero h = cc
below_zero (suc n) h = refl

float_proper : (b : Bool) (p : Parts) → Passes is_proper (float_of b p)
float_proper b p =
    passes-if is_proper (float_is_finite (nearest binary64 b p)) (Some (float (nearest binary64 b p))) None (λ _. some_passes is_proper (float (nearest binary64 b p)) refl) (none_passes is_proper)

number_proper : (b : Bool) (p : Parts) → Passes is_proper (number_from b p)
number_proper false p =
    passes-if is_proper (is_integer p && nat_lt (digits_of p) (2 ^ 64)) (Some (unsigned (digits_of p))) (float_of false p) (λ _. some_passes is_proper (unsigned (digits_of p)) refl) (float_proper false p)
number_proper true p =
    passes-if is_proper (is_integer p && nat_lt 0 (digits_of p) && nat_le (digits_of p) (2 ^ 63)) (Some (negative (with_sign true (digits_of p)))) (float_of true p)
    (λ e. some_passes is_proper (negative (with_sign true (digits_of p))) (below_zero (digits_of p) (both (is_integer p) (nat_lt 0 (digits_of p)) (both (is_integer p && nat_lt 0 (digits_of p)) (nat_le (digits_of p) (2 ^ 63)) e).0).1)) (float_proper true p)

written_proper : (s : Line) → Passes is_proper (number_of s)
unfolding number_of
written_proper s =
    passes-if is_proper (slice_index s 0 == minus) (number_from true (scan (drop 1 s))) (number_from false (scan s)) (λ _. number_proper true (scan (drop 1 s))) (number_proper false (scan s))

mutual
  json_proper : (j : json.Json) → Passes proper (of_json j)
  json_proper json.null = some_passes proper null refl
  json_proper (json.boolean b) = some_passes proper (boolean b) refl
  json_proper (json.number s) = passes-map is_proper proper number (λ n x. x) (number_of s) (written_proper s)
  json_proper (json.string s) = some_passes proper (string s) refl
  json_proper (json.array js) = passes-map items_proper proper array (λ ds x. x) (of_items js) (list_proper js)
  json_proper (json.object ms) = passes-map members_proper proper object (λ ds x. x) (of_members ms no_members) (all_proper ms no_members refl)

  list_proper : (js : json.Items) → Passes items_proper (of_items js)
  list_proper json.no_items = some_passes items_proper no_items refl
  list_proper (json.item j js) =
      passes-then proper items_proper _ (λ d x. passes-map items_proper items_proper (item d) (λ ds y. and-true (proper d) _ x y) (of_items js) (list_proper js)) (of_json j) (json_proper j)

  all_proper : (ms : json.Members) (found : Members) → members_proper found ≡ true → Passes members_proper (of_members ms found)
  all_proper json.no_members found p = some_passes members_proper found p
  all_proper (json.member k j ms) found p =
      passes-then proper members_proper _ (λ d x. all_proper ms (put k d found) (put_proper k d found x p)) (of_json j) (json_proper j)

pub read_proper : (text : Line) (d : Data) → read text ≡ Some d → proper d ≡ true
read_proper text d e = let j = then-some (option_and_then (λ p. json.if_last p.0 p.1) (json.value max_depth (tokens text))) of_json d e in (json_proper j.from).is d j.gives

-- ---- a member

found_proper : (o : Ordering) (a b : Option Data) (d : Data) → (a ≡ Some d → proper d ≡ true) → (b ≡ Some d → proper d ≡ true) → match_ordering o a b a ≡ Some d → proper d ≡ true
found_proper Less a b d p q h = p h
found_proper Equal a b d p q h = q h
found_proper Greater a b d p q h = p h

pub member_proper : (k : Line) (ms : Members) (d : Data) → members_proper ms ≡ true → get_member k ms ≡ Some d → proper d ≡ true
member_proper k no_members d p h = cc
member_proper k (member l e ms) d p h =
    let b = both (proper e) _ p in
    let c = both (leads l ms) _ b.1 in
    found_proper (slice_cmp nat_cmp k l) (get_member k ms) (Some e) d (λ g. member_proper k ms d c.1 g) (λ g. let same : e ≡ d = cc in ap proper (sym same) ∙ b.0) h

pub get_proper : (k : Line) (o d : Data) → proper o ≡ true → get k o ≡ Some d → proper d ≡ true
get_proper k null d p h = cc
get_proper k (boolean b) d p h = cc
get_proper k (number n) d p h = cc
get_proper k (string s) d p h = cc
get_proper k (array ds) d p h = cc
get_proper k (object ms) d p h = member_proper k ms d p h
