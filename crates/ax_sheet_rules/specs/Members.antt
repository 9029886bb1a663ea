-- What JSON values hold: numbers, names, lists and members.
use Rattle.std.specs.Prelude.{ℕ, suc, ◌+◌, ◌^◌, ◌==◌, List, [], ◌∷◌, Option, Some, None, option_map, ℤ, pos, negsuc, nat_lt}
use Rattle.serde_json.specs.Data.{Data, Items, no_items, item, Members, no_members, member}
use Rattle.serde_json.specs.Find.{as_i64, as_number, as_str, as_array, as_object, get}
use Rattle.ax_values.specs.Grammar.{Name, Line, ◌>>=◌, when, name_in}

-- ---- values

abbrev pub int_of : Data → Option ℤ
int_of d = as_number d >>= as_i64

abbrev pub small : ℤ → Option ℕ
small (pos n) = when (nat_lt n (2 ^ 32)) n
small (negsuc n) = None

-- a whole number of 32 bits
abbrev pub small_of : Data → Option ℕ
small_of d = int_of d >>= small

abbrev pub name_of : Data → Option Name
name_of d = as_str d >>= name_in

-- ---- lists

abbrev pub each_item : {A : Type 0} → (Data → Option A) → Items → Option (List A)
each_item one no_items = Some []
each_item one (item d ds) = one d >>= λ x. option_map (λ xs. x ∷ xs) (each_item one ds)

abbrev pub list_of : {A : Type 0} → (Data → Option A) → Data → Option (List A)
list_of one d = as_array d >>= each_item one

pub record Pair : Type 0 where
  pub first : Data
  pub second : Data

pub record Triple : Type 0 where
  pub first : Data
  pub second : Data
  pub third : Data

abbrev pub only_item : Items → Option Data
only_item (item a no_items) = Some a
only_item ds = None

abbrev pub two_items : Items → Option Pair
two_items (item a (item b no_items)) = Some (record { first = a; second = b })
two_items ds = None

abbrev pub three_items : Items → Option Triple
three_items (item a (item b (item c no_items))) = Some (record { first = a; second = b; third = c })
three_items ds = None

-- a list of two
abbrev pub pair_of : Data → Option Pair
pair_of d = as_array d >>= two_items

-- a list of three
abbrev pub triple_of : Data → Option Triple
triple_of d = as_array d >>= three_items

-- ---- objects

-- the members, whose names are names
abbrev pub each_member : {A : Type 0} → (Name → Data → Option A) → Members → Option (List A)
each_member one no_members = Some []
each_member one (member k d ms) = name_in k >>= λ n. one n d >>= λ x. option_map (λ xs. x ∷ xs) (each_member one ms)

abbrev pub named_of : {A : Type 0} → (Name → Data → Option A) → Data → Option (List A)
named_of one d = as_object d >>= each_member one

abbrev pub count : Members → ℕ
count no_members = 0
count (member k d ms) = suc (count ms)

abbrev pub is_there : Option Data → ℕ
is_there None = 0
is_there (Some d) = 1

-- how many of these members there are
abbrev pub count_of : List Line → Data → ℕ
count_of [] d = 0
count_of (k ∷ ks) d = is_there (get k d) + count_of ks d

-- the value, where it is an object without other members
abbrev pub object_of : List Line → Data → Option Data
object_of keys d = as_object d >>= λ ms. when (count ms == count_of keys d) d

-- a member that must be there
abbrev pub wanted : {A : Type 0} → Line → (Data → Option A) → Data → Option A
wanted key one d = get key d >>= one

abbrev pub or_empty : {A : Type 0} → A → (Data → Option A) → Option Data → Option A
or_empty empty one None = Some empty
or_empty empty one (Some d) = one d

-- a member that may be missing
abbrev pub optional : {A : Type 0} → Line → A → (Data → Option A) → Data → Option A
optional key empty one d = or_empty empty one (get key d)
