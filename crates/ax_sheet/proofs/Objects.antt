-- Objects that are built by name: what is found in them, how many members they have, and how deep they nest.
use Rattle.std.proofs.Common.{◌≡◌, ◌≤◌, ◌+◌, ℕ, suc, Bool, true, false, not, ◌&&◌, List, [], ◌∷◌, Option, Some, None, option_and_then, Ordering, Less, Equal, Greater, is_eq, true≢false, max, nat_cmp, refl, sym, ap, subst, ◌∙◌, arith}
use Rattle.std.proofs.lemmas.Bool.Decides.{nat_tests}
use Rattle.std.proofs.lemmas.Map.Text.{is_eq-slice_cmp}
use Rattle.std.proofs.lemmas.Slice.Eq.{bytes_eq-Decides}
use Rattle.std.specs.Cmp.Lexicographic.{slice_cmp}
use Rattle.std.specs.Ordering.{match_ordering}
use Rattle.std.specs.Prelude.{if◌then◌else◌, ◌==◌}
use Rattle.std.specs.Str.{bytes_eq}
use Rattle.serde_json.proofs.Views.{get_member-put, get_member-put_other}
use Rattle.serde_json.specs.Data.{Data, null, boolean, number, string, array, object, Members, no_members, member, put, depth, members_depth}
use Rattle.serde_json.specs.Find.{get, get_member}
use Rattle.ax_values.specs.Grammar.{Line}
use Rattle.ax_laws.proofs.Tests.{both, not-true}
use Rattle.ax_values.proofs.Options.{when-some, when-true, then-some}
use Rattle.ax_sheet_rules.specs.Members.{count, is_there, count_of, object_of, wanted, or_empty, optional}
use Rattle.ax_sheet_writing.specs.Text.{put_list, put_flag}
use Rattle.ax_sheet.proofs.Proper.{proper, get_proper}

pub then-is : {A B : Type 0} (o : Option A) (f : A → Option B) (x : A) (y : B) → o ≡ Some x → f x ≡ Some y → option_and_then f o ≡ Some y
then-is o f x y e h = ap (option_and_then f) e ∙ h

-- ---- members that may be missing

pub record Row : Type 0 where
  pub key : Line
  pub value : Option Data

abbrev pub row : Line → Option Data → Row
row k o = record { key = k; value = o }

abbrev pub put_opt : Line → Option Data → Members → Members
put_opt k None ms = ms
put_opt k (Some d) ms = put k d ms

abbrev pub build : List Row → Members
build [] = no_members
build (r ∷ rs) = put_opt r.key r.value (build rs)

abbrev pub lookup : Line → List Row → Option Data
lookup k [] = None
lookup k (r ∷ rs) = if bytes_eq k r.key then r.value else lookup k rs

abbrev pub total : List Row → ℕ
total [] = 0
total (r ∷ rs) = is_there r.value + total rs

abbrev pub count_keys : List Line → List Row → ℕ
count_keys [] rs = 0
count_keys (k ∷ ks) rs = is_there (lookup k rs) + count_keys ks rs

-- whether no row has the name
abbrev pub fresh : Line → List Row → Bool
fresh k [] = true
fresh k (r ∷ rs) = not (bytes_eq k r.key) && fresh k rs

abbrev pub distinct : List Row → Bool
distinct [] = true
distinct (r ∷ rs) = fresh r.key rs && distinct rs

fresh_case : (b : Bool) (o p : Option Data) → b ≡ false → p ≡ None → (if b then o else p) ≡ None
fresh_case true o p e h = cc
fresh_case false o p e h = h

fresh_none : (k : Line) (rs : List Row) → fresh k rs ≡ true → lookup k rs ≡ None
fresh_none k [] h = refl
fresh_none k (r ∷ rs) h =
    let b = both (not (bytes_eq k r.key)) (fresh k rs) h in
    fresh_case (bytes_eq k r.key) r.value (lookup k rs) (not-true (bytes_eq k r.key) b.0) (fresh_none k rs b.1)

differ : (k l : Line) → bytes_eq k l ≡ false → k ≡ l → ⊥
differ k l e h = true≢false (sym ((bytes_eq-Decides k l).1 h) ∙ e)

found_case : (b : Bool) (k l : Line) (o : Option Data) (ms : Members) (rest : Option Data) → bytes_eq k l ≡ b → get_member k ms ≡ rest → (k ≡ l → rest ≡ None) → get_member k (put_opt l o ms) ≡ (if b then o else rest)
found_case true k l None ms rest e h none = h ∙ none ((bytes_eq-Decides k l).0 e)
found_case true k l (Some d) ms rest e h none = ap (λ l. get_member k (put l d ms)) (sym ((bytes_eq-Decides k l).0 e)) ∙ get_member-put k d ms
found_case false k l None ms rest e h none = h
found_case false k l (Some d) ms rest e h none = get_member-put_other k l d ms (differ k l e) ∙ h

found : (k : Line) (rs : List Row) → distinct rs ≡ true → get_member k (build rs) ≡ lookup k rs
found k [] h = refl
found k (r ∷ rs) h =
    let b = both (fresh r.key rs) (distinct rs) h in
    found_case (bytes_eq k r.key) k r.key r.value (build rs) (lookup k rs) refl (found k rs b.1) (λ e. ap (λ k. lookup k rs) e ∙ fresh_none r.key rs b.0)

count_by : (o : Ordering) (k l : Line) (d e : Data) (ms rest : Members) → match_ordering o (get_member k ms) (Some e) (get_member k ms) ≡ None → (get_member k ms ≡ None → count rest ≡ suc (count ms)) →
    count (match_ordering o (member k d (member l e ms)) (member l d ms) (member l e rest)) ≡ suc (suc (count ms))
count_by Less k l d e ms rest h more = refl
count_by Equal k l d e ms rest h more = cc
count_by Greater k l d e ms rest h more = ap suc (more h)

count_put : (k : Line) (d : Data) (ms : Members) → get_member k ms ≡ None → count (put k d ms) ≡ suc (count ms)
count_put k d no_members h = refl
count_put k d (member l e ms) h = count_by (slice_cmp nat_cmp k l) k l d e ms (put k d ms) h (λ g. count_put k d ms g)

total_case : (k : Line) (o : Option Data) (ms : Members) (n : ℕ) → get_member k ms ≡ None → count ms ≡ n → count (put_opt k o ms) ≡ is_there o + n
total_case k None ms n none e = omega (arith, e)
total_case k (Some d) ms n none e = omega (arith, e, count_put k d ms none)

counted : (rs : List Row) → distinct rs ≡ true → count (build rs) ≡ total rs
counted [] h = refl
counted (r ∷ rs) h =
    let b = both (fresh r.key rs) (distinct rs) h in
    total_case r.key r.value (build rs) (total rs) (found r.key rs b.1 ∙ fresh_none r.key rs b.0) (counted rs b.1)

keys_counted : (ks : List Line) (ms : Members) (rs : List Row) → ((k : Line) → get_member k ms ≡ lookup k rs) → count_of ks (object ms) ≡ count_keys ks rs
keys_counted [] ms rs find = refl
keys_counted (k ∷ ks) ms rs find = ap (λ o. is_there o + count_of ks (object ms)) (find k) ∙ ap (λ n. is_there (lookup k rs) + n) (keys_counted ks ms rs find)

-- ---- depth

depth_by : (o : Ordering) (a b c : Members) (n : ℕ) → members_depth a ≤ n → members_depth b ≤ n → members_depth c ≤ n → members_depth (match_ordering o a b c) ≤ n
depth_by Less a b c n p q r = p
depth_by Equal a b c n p q r = q
depth_by Greater a b c n p q r = r

depth_put : (k : Line) (d : Data) (ms : Members) (n : ℕ) → depth d ≤ n → members_depth ms ≤ n → members_depth (put k d ms) ≤ n
depth_put k d no_members n p q = omega arith
depth_put k d (member l e ms) n p q =
    depth_by (slice_cmp nat_cmp k l) (member k d (member l e ms)) (member l d ms) (member l e (put k d ms)) n (omega arith) (omega arith) (omega (arith, depth_put k d ms n p (omega arith)))

abbrev pub opt_depth : Option Data → ℕ
opt_depth None = 0
opt_depth (Some d) = depth d

-- ---- an object that is built

-- these rows, none of them deeper than n
pub record Built (n : ℕ) (ms : Members) (rs : List Row) : Type 0 where
  pub is : ms ≡ build rs
  pub low : members_depth ms ≤ n

pub no_more : (n : ℕ) → Built n no_members []
no_more n = record { is = refl; low = omega arith }

pub with_member : {n : ℕ} (k : Line) (d : Data) {ms : Members} {rs : List Row} → depth d ≤ n → Built n ms rs → Built n (put k d ms) (row k (Some d) ∷ rs)
with_member {n} k d {ms} {rs} p b = record { is = ap (put k d) b.is; low = depth_put k d ms n p b.low }

abbrev pub list_opt : {A : Type 0} → (List A → Data) → List A → Option Data
list_opt one [] = None
list_opt one (x ∷ xs) = Some (one (x ∷ xs))

abbrev pub flag_opt : Bool → Option Data
flag_opt false = None
flag_opt true = Some (boolean true)

pub with_list : {A : Type 0} {n : ℕ} (k : Line) (one : List A → Data) (xs : List A) {ms : Members} {rs : List Row} → opt_depth (list_opt one xs) ≤ n → Built n ms rs →
    Built n (put_list k one xs ms) (row k (list_opt one xs) ∷ rs)
with_list {n} k one [] {ms} {rs} p b = record { is = b.is; low = b.low }
with_list {n} k one (x ∷ xs) {ms} {rs} p b = record { is = ap (put k (one (x ∷ xs))) b.is; low = depth_put k (one (x ∷ xs)) ms n p b.low }

pub with_flag : {n : ℕ} (k : Line) (f : Bool) {ms : Members} {rs : List Row} → Built n ms rs → Built n (put_flag k f ms) (row k (flag_opt f) ∷ rs)
with_flag {n} k false {ms} {rs} b = record { is = b.is; low = b.low }
with_flag {n} k true {ms} {rs} b = record { is = ap (put k (boolean true)) b.is; low = depth_put k (boolean true) ms n (omega arith) b.low }

finds : {n : ℕ} {ms : Members} {rs : List Row} → Built n ms rs → distinct rs ≡ true → (k : Line) → get_member k ms ≡ lookup k rs
finds {n} {ms} {rs} b h k = ap (get_member k) b.is ∙ found k rs h

same_number : (m n : ℕ) → m ≡ n → (m == n) ≡ true
same_number m n h = grind (arith, nat_tests, h)

pub object_again : {n : ℕ} {ms : Members} {rs : List Row} (ks : List Line) → Built n ms rs → distinct rs ≡ true → total rs ≡ count_keys ks rs → object_of ks (object ms) ≡ Some (object ms)
object_again {n} {ms} {rs} ks b h e =
    when-true (count ms == count_of ks (object ms)) (object ms)
    (same_number (count ms) (count_of ks (object ms)) (ap count b.is ∙ counted rs h ∙ e ∙ sym (keys_counted ks ms rs (finds b h))))

pub object_low : {n : ℕ} {ms : Members} {rs : List Row} (m : ℕ) → Built n ms rs → m ≡ suc n → depth (object ms) ≤ m
object_low {n} {ms} {rs} m b e = let l = b.low in omega (arith, l, e)

-- what a reader takes again, no deeper than n
pub record Back {A : Type 0} (one : Data → Option A) (n : ℕ) (x : A) (d : Data) : Type 0 where
  pub again : one d ≡ Some x
  pub low : depth d ≤ n

pub back_same : {A : Type 0} (one : Data → Option A) (n : ℕ) (x : A) (w d : Data) → w ≡ d → one d ≡ Some x → depth d ≤ n → Back one n x w
back_same one n x w d e h l = record { again = ap one e ∙ h; low = subst (λ d. depth d ≤ n) (sym e) l }

pub wanted_again : {A : Type 0} {n m : ℕ} {ms : Members} {rs : List Row} (k : Line) (one : Data → Option A) (x : A) (d : Data) → Built n ms rs → distinct rs ≡ true → lookup k rs ≡ Some d → Back one m x d →
    wanted k one (object ms) ≡ Some x
wanted_again {A} {n} {m} {ms} {rs} k one x d b h e back = then-is (get k (object ms)) one d x (finds b h k ∙ e) back.again

pub optional_again : {A : Type 0} {n : ℕ} {ms : Members} {rs : List Row} (k : Line) (empty : A) (one : Data → Option A) (x : A) (o : Option Data) → Built n ms rs → distinct rs ≡ true → lookup k rs ≡ o →
    or_empty empty one o ≡ Some x → optional k empty one (object ms) ≡ Some x
optional_again k empty one x o b h e again = ap (or_empty empty one) (finds b h k ∙ e) ∙ again

-- ---- an object that was read

-- how deep the members are
abbrev pub inner : Data → ℕ
inner null = 0
inner (boolean b) = 0
inner (number n) = 0
inner (string s) = 0
inner (array ds) = 0
inner (object ms) = members_depth ms

pub whole_object : (ks : List Line) (d o : Data) → object_of ks d ≡ Some o → (d ≡ o) × (depth d ≡ suc (inner d))
whole_object ks null o h = cc
whole_object ks (boolean b) o h = cc
whole_object ks (number n) o h = cc
whole_object ks (string s) o h = cc
whole_object ks (array ds) o h = cc
whole_object ks (object ms) o h = ((when-some (count ms == count_of ks (object ms)) (object ms) o h).1, refl)

member_by : (o : Ordering) (a : Option Data) (e d : Data) (n : ℕ) → (a ≡ Some d → depth d ≤ n) → match_ordering o a (Some e) a ≡ Some d → depth d ≤ max (depth e) n
member_by Less a e d n p h = let l = p h in omega (arith, l)
member_by Equal a e d n p h = let same : e ≡ d = cc in let s = ap depth same in omega (arith, s)
member_by Greater a e d n p h = let l = p h in omega (arith, l)

member_low : (k : Line) (ms : Members) (d : Data) → get_member k ms ≡ Some d → depth d ≤ members_depth ms
member_low k no_members d h = cc
member_low k (member l e ms) d h = member_by (slice_cmp nat_cmp k l) (get_member k ms) e d (members_depth ms) (λ g. member_low k ms d g) h

pub get_low : (k : Line) (o d : Data) → get k o ≡ Some d → depth d ≤ inner o
get_low k null d h = cc
get_low k (boolean b) d h = cc
get_low k (number n) d h = cc
get_low k (string s) d h = cc
get_low k (array ds) d h = cc
get_low k (object ms) d h = member_low k ms d h

-- the object, of which the members are less deep
pub record Opened (d o : Data) : Type 0 where
  pub good : proper o ≡ true
  pub deep : depth d ≡ suc (inner o)

pub opened : (ks : List Line) (d o : Data) → proper d ≡ true → object_of ks d ≡ Some o → Opened d o
opened ks d o p h = let w = whole_object ks d o h in record { good = ap proper (sym w.0) ∙ p; deep = w.1 ∙ ap (λ d. suc (inner d)) w.0 }

-- a member that was read
pub record Read {A : Type 0} (one : Data → Option A) (n : ℕ) (x : A) : Type 0 where
  pub from : Data
  pub gives : one from ≡ Some x
  pub good : proper from ≡ true
  pub low : depth from ≤ n

pub wanted_read : {A : Type 0} (k : Line) (one : Data → Option A) (o : Data) (x : A) → proper o ≡ true → wanted k one o ≡ Some x → Read one (inner o) x
wanted_read k one o x p h = let d = then-some (get k o) one x h in record { from = d.from; gives = d.gives; good = get_proper k o d.from p d.held; low = get_low k o d.from d.held }

pub back_low : {A : Type 0} (one : Data → Option A) (m n : ℕ) (x : A) (w : Data) → m ≤ n → Back one m x w → Back one n x w
back_low one m n x w l b = let low = b.low in record { again = b.again; low = omega (arith, low) }

pub read_same : {A : Type 0} (one : Data → Option A) (n : ℕ) (x : A) (w : Data) → ((d : Data) → proper d ≡ true → one d ≡ Some x → w ≡ d) → Read one n x → Back one n x w
read_same one n x w same r = back_same one n x w r.from (same r.from r.good r.gives) r.gives r.low

pub read_back : {A : Type 0} (one : Data → Option A) (n : ℕ) (x : A) (w : Data) → ((d : Data) → proper d ≡ true → one d ≡ Some x → Back one (depth d) x w) → Read one n x → Back one n x w
read_back one n x w back r = back_low one (depth r.from) n x w r.low (back r.from r.good r.gives)

-- a list that is left out where it is empty
pub record Kept {A : Type 0} (one : Data → Option (List A)) (write : List A → Data) (n : ℕ) (xs : List A) : Type 0 where
  pub again : or_empty [] one (list_opt write xs) ≡ Some xs
  pub low : opt_depth (list_opt write xs) ≤ n

kept_list : {A : Type 0} (one : Data → Option (List A)) (write : List A → Data) (n : ℕ) (xs : List A) (d : Data) → write xs ≡ d → one d ≡ Some xs → depth d ≤ n → Kept one write n xs
kept_list one write n [] d e h l = record { again = refl; low = omega arith }
kept_list one write n (x ∷ xs) d e h l = record { again = ap one e ∙ h; low = subst (λ d. depth d ≤ n) (sym e) l }

kept_opt : {A : Type 0} (one : Data → Option (List A)) (write : List A → Data) (n : ℕ) (xs : List A) (o : Option Data) → ((d : Data) → o ≡ Some d → one d ≡ Some xs → write xs ≡ d) → ((d : Data) → o ≡ Some d → depth d ≤ n) →
    or_empty [] one o ≡ Some xs → Kept one write n xs
kept_opt one write n xs None same low h = let e : [] ≡ xs = cc in subst (Kept one write n) e (record { again = refl; low = omega arith })
kept_opt one write n xs (Some d) same low h = kept_list one write n xs d (same d refl h) h (low d refl)

pub kept : {A : Type 0} (k : Line) (one : Data → Option (List A)) (write : List A → Data) (o : Data) (xs : List A) → ((d : Data) (xs : List A) → proper d ≡ true → one d ≡ Some xs → write xs ≡ d) → proper o ≡ true →
    optional k [] one o ≡ Some xs → Kept one write (inner o) xs
kept k one write o xs same p h = kept_opt one write (inner o) xs (get k o) (λ d e g. same d xs (get_proper k o d p e) g) (λ d e. get_low k o d e) h

-- ---- a name that is not among those of an object

abbrev pub absent : Line → List Line → Bool
absent k [] = true
absent k (l ∷ ls) = not (bytes_eq k l) && absent k ls

abbrev pub apart : List Line → Bool
apart [] = true
apart (k ∷ ks) = absent k ks && apart ks

by_order : (o : Ordering) (a b : Option Data) → is_eq o ≡ false → match_ordering o a b a ≡ a
by_order Less a b e = refl
by_order Equal a b e = cc
by_order Greater a b e = refl

passed : (k l : Line) (e : Data) (ms : Members) → bytes_eq k l ≡ false → get_member k (member l e ms) ≡ get_member k ms
passed k l e ms h = by_order (slice_cmp nat_cmp k l) (get_member k ms) (Some e) (is_eq-slice_cmp k l ∙ h)

flip_by : (b : Bool) (k l : Line) → bytes_eq k l ≡ b → bytes_eq l k ≡ false → b ≡ false
flip_by true k l e h = absurd (differ l k h (sym ((bytes_eq-Decides k l).0 e)))
flip_by false k l e h = refl

absent_same : (ks : List Line) (l : Line) (e : Data) (ms : Members) → absent l ks ≡ true → count_of ks (object (member l e ms)) ≡ count_of ks (object ms)
absent_same [] l e ms h = refl
absent_same (k ∷ ks) l e ms h =
    let b = both (not (bytes_eq l k)) (absent l ks) h in
    ap (λ o. is_there o + count_of ks (object (member l e ms))) (passed k l e ms (flip_by (bytes_eq k l) k l refl (not-true (bytes_eq l k) b.0))) ∙ ap (λ n. is_there (get_member k ms) + n) (absent_same ks l e ms b.1)

one_most : (o : Option Data) → is_there o ≤ 1
one_most None = omega arith
one_most (Some d) = omega arith

more_by : (b : Bool) (k : Line) (ks : List Line) (l : Line) (e : Data) (ms : Members) → bytes_eq k l ≡ b → absent k ks ≡ true → count_of ks (object (member l e ms)) ≤ suc (count_of ks (object ms)) →
    is_there (get_member k (member l e ms)) + count_of ks (object (member l e ms)) ≤ suc (is_there (get_member k ms) + count_of ks (object ms))
more_by true k ks l e ms is h more =
    let same = absent_same ks l e ms (ap (λ k. absent k ks) (sym ((bytes_eq-Decides k l).0 is)) ∙ h) in
    let one = one_most (get_member k (member l e ms)) in
    omega (arith, same, one)
more_by false k ks l e ms is h more = let same = ap is_there (passed k l e ms is) in omega (arith, same, more)

one_more : (ks : List Line) (l : Line) (e : Data) (ms : Members) → apart ks ≡ true → count_of ks (object (member l e ms)) ≤ suc (count_of ks (object ms))
one_more [] l e ms h = omega arith
one_more (k ∷ ks) l e ms h = let b = both (absent k ks) (apart ks) h in more_by (bytes_eq k l) k ks l e ms refl b.0 (one_more ks l e ms b.1)

none_there : (ks : List Line) → count_of ks (object no_members) ≡ 0
none_there [] = refl
none_there (k ∷ ks) = let h = none_there ks in omega (arith, h)

most : (ks : List Line) (ms : Members) → apart ks ≡ true → count_of ks (object ms) ≤ count ms
most ks no_members h = let none = none_there ks in omega (arith, none)
most ks (member l e ms) h = let one = one_more ks l e ms h in let more = most ks ms h in omega (arith, one, more)

none_by : (o : Option Data) → is_there o ≡ 0 → o ≡ None
none_by None h = refl
none_by (Some d) h = cc

left_out : (k : Line) (ks : List Line) (ms : Members) → apart (k ∷ ks) ≡ true → (count ms == count_of ks (object ms)) ≡ true → get_member k ms ≡ None
left_out k ks ms h e =
    let all = most (k ∷ ks) ms h in
    let as_many : count ms ≡ count_of ks (object ms) = grind (arith, nat_tests, e) in
    none_by (get_member k ms) (omega (arith, all, as_many))

-- an object has no member of another name
pub nothing_else : (k : Line) (ks : List Line) (d o : Data) → apart (k ∷ ks) ≡ true → object_of ks d ≡ Some o → get k d ≡ None
nothing_else k ks null o h e = refl
nothing_else k ks (boolean b) o h e = refl
nothing_else k ks (number n) o h e = refl
nothing_else k ks (string s) o h e = refl
nothing_else k ks (array ds) o h e = refl
nothing_else k ks (object ms) o h e = left_out k ks ms h (when-some (count ms == count_of ks (object ms)) (object ms) o e).0
