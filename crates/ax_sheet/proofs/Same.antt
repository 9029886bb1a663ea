-- What is written for a part is the JSON that it was read from.
use Rattle.std.proofs.Common.{◌≡◌, ◌^◌, ℕ, Bool, true, false, ◌&&◌, List, [], ◌∷◌, map, fold, Option, Some, None, Greater, is_lt, nat_cmp, ℤ, pos, negsuc, nat_lt, refl, sym, ap, ◌∙◌}
use Rattle.std.proofs.lemmas.Cmp.{nat_list_cmp_total}
use Rattle.std.specs.Cmp.Lexicographic.{slice_cmp}
use Rattle.std.specs.Ordering.{match_ordering, ordering_reverse}
use Rattle.std.specs.Prelude.{if◌then◌else◌}
use Rattle.serde_json.specs.Data.{Num, unsigned, negative, float, Data, null, boolean, number, string, array, object, Items, no_items, item, Members, no_members, member, put}
use Rattle.serde_json.specs.Find.{as_i64, as_str, as_array, as_object, of_integer}
use Rattle.serde_json.specs.View.{items_of}
use Rattle.ax_values.specs.Grammar.{Name, Line, name_in, is_name}
use Rattle.ax_laws.proofs.Tests.{both, and-true, is-less}
use Rattle.ax_laws.proofs.Options.{some-is}
use Rattle.ax_values.proofs.Options.{when-some, then-some, map-some}
use Rattle.ax_sheet_rules.specs.Members.{small, int_of, small_of, name_of, each_item, list_of, Pair, Triple, two_items, three_items, pair_of, triple_of, each_member, named_of}
use Rattle.ax_sheet_writing.specs.Text.{list_data, two_data, three_data, members_data, named_data, int_data, small_data}
use Rattle.ax_sheet.proofs.Proper.{leads, is_proper, proper, items_proper, members_proper}

-- ---- values

pub string_is : (d : Data) (s : Line) → as_str d ≡ Some s → string s ≡ d
string_is null s h = cc
string_is (boolean b) s h = cc
string_is (number n) s h = cc
string_is (string t) s h = ap string (sym (some-is t s h))
string_is (array ds) s h = cc
string_is (object ms) s h = cc

pub array_is : (d : Data) (ds : Items) → as_array d ≡ Some ds → array ds ≡ d
array_is null ds h = cc
array_is (boolean b) ds h = cc
array_is (number n) ds h = cc
array_is (string t) ds h = cc
array_is (array es) ds h = ap array (sym (some-is es ds h))
array_is (object ms) ds h = cc

pub object_is : (d : Data) (ms : Members) → as_object d ≡ Some ms → object ms ≡ d
object_is null ms h = cc
object_is (boolean b) ms h = cc
object_is (number n) ms h = cc
object_is (string t) ms h = cc
object_is (array es) ms h = cc
object_is (object ns) ms h = ap object (sym (some-is ns ms h))

unsigned_same : (b : Bool) (n : ℕ) (z : ℤ) → (if b then Some (pos n) else None) ≡ Some z → of_integer z ≡ unsigned n
unsigned_same true n z h = ap of_integer (sym (some-is (pos n) z h))
unsigned_same false n z h = cc

number_same : (n : Num) (z : ℤ) → is_proper n ≡ true → as_i64 n ≡ Some z → of_integer z ≡ n
number_same (unsigned n) z p h = unsigned_same (nat_lt n (2 ^ 63)) n z h
number_same (negative (pos n)) z p h = cc
number_same (negative (negsuc n)) z p h = ap of_integer (sym (some-is (negsuc n) z h))
number_same (float x) z p h = cc

pub int_same : (d : Data) (z : ℤ) → proper d ≡ true → int_of d ≡ Some z → int_data z ≡ d
int_same null z p h = cc
int_same (boolean b) z p h = cc
int_same (number n) z p h = ap number (number_same n z p h)
int_same (string s) z p h = cc
int_same (array ds) z p h = cc
int_same (object ms) z p h = cc

small_case : (z : ℤ) (n : ℕ) → small z ≡ Some n → unsigned n ≡ of_integer z
small_case (pos m) n h = ap unsigned (sym (when-some (nat_lt m (2 ^ 32)) m n h).1)
small_case (negsuc m) n h = cc

pub small_same : (d : Data) (n : ℕ) → proper d ≡ true → small_of d ≡ Some n → small_data n ≡ d
small_same d n p h = let z = then-some (int_of d) small n h in ap number (small_case z.from n z.gives) ∙ int_same d z.from p z.held

pub name_is : (s : Line) (n : Name) → name_in s ≡ Some n → s ≡ n
name_is s n h = (when-some (is_name s) s n h).1

pub name_same : (d : Data) (n : Name) → name_of d ≡ Some n → string n ≡ d
name_same d n h = let s = then-some (as_str d) name_in n h in ap string (sym (name_is s.from n s.gives)) ∙ string_is d s.from s.held

-- ---- lists

pub items_same : {A : Type 0} (one : Data → Option A) (write : A → Data) → ((d : Data) (x : A) → proper d ≡ true → one d ≡ Some x → write x ≡ d) → (ds : Items) (xs : List A) → items_proper ds ≡ true →
    each_item one ds ≡ Some xs → items_of (map write xs) ≡ ds
items_same one write same no_items xs p h = ap (λ xs. items_of (map write xs)) (sym (some-is [] xs h))
items_same one write same (item d ds) xs p h =
    let b = both (proper d) (items_proper ds) p in
    let x = then-some (one d) _ xs h in
    let ys = map-some (each_item one ds) _ xs x.gives in
    ap (λ xs. items_of (map write xs)) (sym ys.gives) ∙ ap (λ e. item e (items_of (map write ys.from))) (same d x.from b.0 x.held) ∙ ap (item d) (items_same one write same ds ys.from b.1 ys.held)

pub list_same : {A : Type 0} (one : Data → Option A) (write : A → Data) → ((d : Data) (x : A) → proper d ≡ true → one d ≡ Some x → write x ≡ d) → (d : Data) (xs : List A) → proper d ≡ true →
    list_of one d ≡ Some xs → list_data write xs ≡ d
list_same one write same d xs p h =
    let ds = then-some (as_array d) (each_item one) xs h in
    let is = array_is d ds.from ds.held in
    ap array (items_same one write same ds.from xs (ap proper is ∙ p) ds.gives) ∙ is

pub two_same : (ds : Items) (t : Pair) → two_items ds ≡ Some t → items_of (t.first ∷ t.second ∷ []) ≡ ds
two_same no_items t h = cc
two_same (item a no_items) t h = cc
two_same (item a (item b no_items)) t h = ap (λ (t : Pair). items_of (t.first ∷ t.second ∷ [])) (sym (some-is _ t h))
two_same (item a (item b (item c ds))) t h = cc

pub three_same : (ds : Items) (t : Triple) → three_items ds ≡ Some t → items_of (t.first ∷ t.second ∷ t.third ∷ []) ≡ ds
three_same no_items t h = cc
three_same (item a no_items) t h = cc
three_same (item a (item b no_items)) t h = cc
three_same (item a (item b (item c no_items))) t h = ap (λ (t : Triple). items_of (t.first ∷ t.second ∷ t.third ∷ [])) (sym (some-is _ t h))
three_same (item a (item b (item c (item d ds)))) t h = cc

-- a list of two or three, whose items are proper
pub record Two (d : Data) (t : Pair) : Type 0 where
  pub is : two_data t.first t.second ≡ d
  pub first : proper t.first ≡ true
  pub second : proper t.second ≡ true

two_in : (d : Data) (t : Pair) → proper d ≡ true → two_data t.first t.second ≡ d → Two d t
two_in d t p is =
    let a = both (proper t.first) (proper t.second && true) (ap proper is ∙ p) in
    record { is = is; first = a.0; second = (both (proper t.second) true a.1).0 }

pub two_parts : (d : Data) (t : Pair) → proper d ≡ true → pair_of d ≡ Some t → Two d t
two_parts d t p h =
    let ds = then-some (as_array d) two_items t h in
    two_in d t p (ap array (two_same ds.from t ds.gives) ∙ array_is d ds.from ds.held)

pub two_inside : (ds : Items) (t : Pair) → items_proper ds ≡ true → two_items ds ≡ Some t → Two (array ds) t
two_inside ds t p h = two_in (array ds) t p (ap array (two_same ds t h))

pub record Three (d : Data) (t : Triple) : Type 0 where
  pub is : three_data t.first t.second t.third ≡ d
  pub first : proper t.first ≡ true
  pub second : proper t.second ≡ true
  pub third : proper t.third ≡ true

three_in : (d : Data) (t : Triple) → proper d ≡ true → three_data t.first t.second t.third ≡ d → Three d t
three_in d t p is =
    let a = both (proper t.first) (proper t.second && (proper t.third && true)) (ap proper is ∙ p) in
    let b = both (proper t.second) (proper t.third && true) a.1 in
    record { is = is; first = a.0; second = b.0; third = (both (proper t.third) true b.1).0 }

pub three_parts : (d : Data) (t : Triple) → proper d ≡ true → triple_of d ≡ Some t → Three d t
three_parts d t p h =
    let ds = then-some (as_array d) three_items t h in
    three_in d t p (ap array (three_same ds.from t ds.gives) ∙ array_is d ds.from ds.held)

pub three_inside : (ds : Items) (t : Triple) → items_proper ds ≡ true → three_items ds ≡ Some t → Three (array ds) t
three_inside ds t p h = three_in (array ds) t p (ap array (three_same ds t h))

-- ---- named members

-- members in the order of a list
abbrev pub plain : {A : Type 0} → (A → Name) → (A → Data) → List A → Members
plain name write [] = no_members
plain name write (x ∷ xs) = member (name x) (write x) (plain name write xs)

abbrev pub join : Members → Members → Members
join no_members ns = ns
join (member k d ms) ns = member k d (join ms ns)

-- names above one, and names that rise
abbrev all_above : Line → Members → Bool
all_above k no_members = true
all_above k (member l e ms) = is_lt (slice_cmp nat_cmp k l) && all_above k ms

abbrev rises : Members → Bool
rises no_members = true
rises (member k d ms) = all_above k ms && rises ms

above_more : (k l : Line) (ms : Members) → is_lt (slice_cmp nat_cmp k l) ≡ true → all_above l ms ≡ true → all_above k ms ≡ true
above_more k l no_members p q = refl
above_more k l (member m e ms) p q =
    let b = both (is_lt (slice_cmp nat_cmp l m)) (all_above l ms) q in
    and-true (is_lt (slice_cmp nat_cmp k m)) (all_above k ms) (ap is_lt (nat_list_cmp_total.trans k l m (is-less _ p) (is-less _ b.0))) (above_more k l ms p b.1)

above_lead : (k : Line) (ms : Members) → leads k ms ≡ true → rises ms ≡ true → all_above k ms ≡ true
above_lead k no_members p q = refl
above_lead k (member l e ms) p q = and-true (is_lt (slice_cmp nat_cmp k l)) (all_above k ms) p (above_more k l ms p (both (all_above l ms) (rises ms) q).0)

proper_rises : (ms : Members) → members_proper ms ≡ true → rises ms ≡ true
proper_rises no_members p = refl
proper_rises (member k d ms) p =
    let b = both (proper d) (leads k ms && members_proper ms) p in
    let c = both (leads k ms) (members_proper ms) b.1 in
    let r = proper_rises ms c.1 in
    and-true (all_above k ms) (rises ms) (above_lead k ms c.0 r) r

-- a name above those before it goes last
put_after : (k : Line) (d : Data) (ms ns : Members) → rises (join ms (member k d ns)) ≡ true → put k d ms ≡ join ms (member k d no_members)
put_after k d no_members ns h = refl
put_after k d (member l e ms) ns h =
    let b = both (all_above l (join ms (member k d ns))) (rises (join ms (member k d ns))) h in
    let greater : slice_cmp nat_cmp k l ≡ Greater = nat_list_cmp_total.antisymm k l ∙ ap ordering_reverse (is-less _ (above_joined l k d ms ns b.0)) in
    ap (λ o. match_ordering o (member k d (member l e ms)) (member l d ms) (member l e (put k d ms))) greater ∙ ap (member l e) (put_after k d ms ns b.1)
  where
    above_joined : (l k : Line) (d : Data) (ms ns : Members) → all_above l (join ms (member k d ns)) ≡ true → is_lt (slice_cmp nat_cmp l k) ≡ true
    above_joined l k d no_members ns h = (both (is_lt (slice_cmp nat_cmp l k)) (all_above l ns) h).0
    above_joined l k d (member m e ms) ns h = above_joined l k d ms ns (both (is_lt (slice_cmp nat_cmp l m)) (all_above l (join ms (member k d ns))) h).1

join_one : (ms ns : Members) (k : Line) (d : Data) → join (join ms (member k d no_members)) ns ≡ join ms (member k d ns)
join_one no_members ns k d = refl
join_one (member l e ms) ns k d = ap (member l e) (join_one ms ns k d)

join_none : (ms : Members) → join ms no_members ≡ ms
join_none no_members = refl
join_none (member k d ms) = ap (member k d) (join_none ms)

folded : {A : Type 0} (name : A → Name) (write : A → Data) (xs : List A) (ms : Members) → rises (join ms (plain name write xs)) ≡ true →
    fold (λ ms x. put (name x) (write x) ms) ms xs ≡ join ms (plain name write xs)
folded name write [] ms h = sym (join_none ms)
folded name write (x ∷ xs) ms h =
    let one = put_after (name x) (write x) ms (plain name write xs) h in
    let again = join_one ms (plain name write xs) (name x) (write x) in
    ap (λ ms. fold (λ ms x. put (name x) (write x) ms) ms xs) one ∙ folded name write xs (join ms (member (name x) (write x) no_members)) (ap rises again ∙ h) ∙ again

-- what is put by name stands in the order that was read
pub put_in_order : {A : Type 0} (name : A → Name) (write : A → Data) (ms : Members) (xs : List A) → members_proper ms ≡ true → plain name write xs ≡ ms → members_data name write xs ≡ ms
put_in_order name write ms xs p e = folded name write xs no_members (ap rises e ∙ proper_rises ms p) ∙ e

above_same : {A : Type 0} (one : Name → Data → Option A) (name : A → Name) (write : A → Data) → ((n : Name) (d : Data) (x : A) → one n d ≡ Some x → name x ≡ n) → (k : Line) (ms : Members) (xs : List A) →
    each_member one ms ≡ Some xs → all_above k (plain name write xs) ≡ all_above k ms
above_same one name write named k no_members xs h = ap (λ xs. all_above k (plain name write xs)) (sym (some-is [] xs h))
above_same one name write named k (member l d ms) xs h =
    let n = then-some (name_in l) _ xs h in
    let x = then-some (one n.from d) _ xs n.gives in
    let ys = map-some (each_member one ms) _ xs x.gives in
    ap (λ xs. all_above k (plain name write xs)) (sym ys.gives)
    ∙ ap (λ m. is_lt (slice_cmp nat_cmp k m) && all_above k (plain name write ys.from)) (named n.from d x.from x.held ∙ sym (name_is l n.from n.held))
    ∙ ap (λ b. is_lt (slice_cmp nat_cmp k l) && b) (above_same one name write named k ms ys.from ys.held)

rises_same : {A : Type 0} (one : Name → Data → Option A) (name : A → Name) (write : A → Data) → ((n : Name) (d : Data) (x : A) → one n d ≡ Some x → name x ≡ n) → (ms : Members) (xs : List A) →
    each_member one ms ≡ Some xs → rises (plain name write xs) ≡ rises ms
rises_same one name write named no_members xs h = ap (λ xs. rises (plain name write xs)) (sym (some-is [] xs h))
rises_same one name write named (member l d ms) xs h =
    let n = then-some (name_in l) _ xs h in
    let x = then-some (one n.from d) _ xs n.gives in
    let ys = map-some (each_member one ms) _ xs x.gives in
    ap (λ xs. rises (plain name write xs)) (sym ys.gives)
    ∙ ap (λ m. all_above m (plain name write ys.from) && rises (plain name write ys.from)) (named n.from d x.from x.held ∙ sym (name_is l n.from n.held))
    ∙ ap (λ b. b && rises (plain name write ys.from)) (above_same one name write named l ms ys.from ys.held)
    ∙ ap (λ b. all_above l ms && b) (rises_same one name write named ms ys.from ys.held)

-- what is put by name stands in the order that was read
pub in_order : {A : Type 0} (one : Name → Data → Option A) (name : A → Name) (write : A → Data) → ((n : Name) (d : Data) (x : A) → one n d ≡ Some x → name x ≡ n) → (ms : Members) (xs : List A) →
    members_proper ms ≡ true → each_member one ms ≡ Some xs → members_data name write xs ≡ plain name write xs
in_order one name write named ms xs p h = folded name write xs no_members (rises_same one name write named ms xs h ∙ proper_rises ms p)

plain_same : {A : Type 0} (one : Name → Data → Option A) (name : A → Name) (write : A → Data) → ((n : Name) (d : Data) (x : A) → proper d ≡ true → one n d ≡ Some x → (name x ≡ n) × (write x ≡ d)) →
    (ms : Members) (xs : List A) → members_proper ms ≡ true → each_member one ms ≡ Some xs → plain name write xs ≡ ms
plain_same one name write same no_members xs p h = ap (plain name write) (sym (some-is [] xs h))
plain_same one name write same (member l d ms) xs p h =
    let b = both (proper d) (leads l ms && members_proper ms) p in
    let c = both (leads l ms) (members_proper ms) b.1 in
    let n = then-some (name_in l) _ xs h in
    let x = then-some (one n.from d) _ xs n.gives in
    let ys = map-some (each_member one ms) _ xs x.gives in
    let s = same n.from d x.from b.0 x.held in
    ap (plain name write) (sym ys.gives) ∙ ap (λ k. member k (write x.from) (plain name write ys.from)) (s.0 ∙ sym (name_is l n.from n.held)) ∙ ap (λ e. member l e (plain name write ys.from)) s.1
    ∙ ap (member l d) (plain_same one name write same ms ys.from c.1 ys.held)

pub named_same : {A : Type 0} (one : Name → Data → Option A) (name : A → Name) (write : A → Data) → ((n : Name) (d : Data) (x : A) → one n d ≡ Some x → name x ≡ n) →
    ((n : Name) (d : Data) (x : A) → proper d ≡ true → one n d ≡ Some x → write x ≡ d) → (d : Data) (xs : List A) → proper d ≡ true → named_of one d ≡ Some xs → named_data name write xs ≡ d
named_same one name write named same d xs p h =
    let ms = then-some (as_object d) (each_member one) xs h in
    let is = object_is d ms.from ms.held in
    let q = ap proper is ∙ p in
    ap object (put_in_order name write ms.from xs q (plain_same one name write (λ n d x p h. (named n d x h, same n d x p h)) ms.from xs q ms.gives)) ∙ is
