-- The grammar at its edges: words with their values, and texts that are none.
use Rattle.std.specs.Prelude.{◌≡◌, refl, true, false, Bool, [], ◌∷◌, ◌++◌, map, codes, Some, None, Option, is_some, option_map, pos, negsuc}
use Rattle.std.specs.Fmt.{digits}
use Rattle.sha1.specs.Sha1.{first_words, schedule, rounds, compress, hash_after, digest_bytes, sha1}
use Rattle.uuid.specs.Text.{by_index}
use Rattle.ax_values.specs.Grammar.{Line, pieces, number_in, u32_in, int_in, name_in, text_in}
use Rattle.ax_values.specs.Words.{words, payload_words, item_text}
use Rattle.ax_values.specs.Readers.{item_in, payload_of}
use Rattle.ax_values.specs.Seen.{seen_words, seen_in}
use Rattle.ax_values.specs.EventId.{event_id}

numbers : map number_in (codes "0" ∷ codes "7" ∷ codes "10" ∷ codes "18446744073709551615" ∷ codes "" ∷ codes "00" ∷ codes "01" ∷ codes "-1" ∷ codes "+1" ∷ codes "1a" ∷ codes " 1" ∷ codes "18446744073709551616" ∷ []) ≡ Some 0 ∷ Some 7 ∷ Some 10 ∷ Some 18446744073709551615 ∷ None ∷ None ∷ None ∷ None ∷ None ∷ None ∷ None ∷ None ∷ []
numbers = refl

small_numbers : map u32_in (codes "4294967295" ∷ codes "4294967296" ∷ []) ≡ Some 4294967295 ∷ None ∷ []
small_numbers = refl

ints : map int_in (codes "0" ∷ codes "-1" ∷ codes "9223372036854775807" ∷ codes "-9223372036854775808" ∷ codes "-0" ∷ codes "--1" ∷ codes "-" ∷ codes "+0" ∷ codes "9223372036854775808" ∷ codes "-9223372036854775809" ∷ codes "-01" ∷ []) ≡ Some (pos 0) ∷ Some (negsuc 0) ∷ Some (pos 9223372036854775807) ∷ Some (negsuc 9223372036854775807) ∷ None ∷ None ∷ None ∷ None ∷ None ∷ None ∷ None ∷ []
ints = refl

abbrev sixty_four : Line
sixty_four = codes "0123456789abcdef0123456789ABCDEF0123456789abcdef0123456789ABCDEF"

abbrev is_read : {A : Type 0} → (Line → Option A) → Line → Bool
is_read read w = is_some (read w)

names : map (is_read name_in) (codes "a" ∷ codes "0-_" ∷ (sixty_four) ∷ codes "aecad86b-efe9-59c3-b3da-f80396b452c7" ∷ codes "" ∷ codes "-a" ∷ codes "_a" ∷ codes "a.b" ∷ (48 ∷ sixty_four) ∷ []) ≡ true ∷ true ∷ true ∷ true ∷ false ∷ false ∷ false ∷ false ∷ false ∷ []
names = refl

texts : map text_in (codes "\"\"" ∷ codes "\"a b\"" ∷ (34 ∷ (sixty_four ++ 34 ∷ [])) ∷ (34 ∷ (48 ∷ sixty_four ++ 34 ∷ [])) ∷ codes "\"a" ∷ codes "a\"" ∷ codes "\"" ∷ codes "" ∷ codes "\"a\"b\"" ∷ codes "\"a\\b\"" ∷ (34 ∷ 31 ∷ 34 ∷ []) ∷ (34 ∷ 127 ∷ 34 ∷ []) ∷ []) ≡ Some [] ∷ Some (codes "a b") ∷ Some sixty_four ∷ None ∷ None ∷ None ∷ None ∷ None ∷ None ∷ None ∷ None ∷ None ∷ []
texts = refl

-- what is read is written again
abbrev item_again : Line → Option Line
item_again w = option_map item_text (item_in w)

items : map item_again (codes "card-1.0.0" ∷ codes "card-1.4294967295.7" ∷ codes "card-1.0.8" ∷ codes "card-1.4294967296.0" ∷ codes "card-1.0" ∷ codes "card-1.0.0.0" ∷ codes "card-1.00.0" ∷ codes ".0.0" ∷ []) ≡ Some (codes "card-1.0.0") ∷ Some (codes "card-1.4294967295.7") ∷ None ∷ None ∷ None ∷ None ∷ None ∷ None ∷ []
unfolding digits
items = refl

abbrev payload_again : Line → Option Line
payload_again w = option_map (λ fs. words (payload_words fs)) (payload_of w)

payloads : map payload_again (codes "" ∷ codes "a=1 b=-2" ∷ codes "a=\"x y\" b=\"=\"" ∷ codes "b=1 a=2" ∷ codes "a=1 a=1" ∷ codes "a=1  b=2" ∷ codes "a=1 " ∷ codes " a=1" ∷ codes "a" ∷ codes "a=" ∷ codes "=1" ∷ codes "a=01" ∷ codes "a=\"x" ∷ []) ≡ Some (codes "") ∷ Some (codes "a=1 b=-2") ∷ Some (codes "a=\"x y\" b=\"=\"") ∷ None ∷ None ∷ None ∷ None ∷ None ∷ None ∷ None ∷ None ∷ None ∷ None ∷ []
unfolding digits
payloads = refl

abbrev seen_again : Line → Option Line
seen_again w = option_map (λ s. words (seen_words s)) (seen_in (pieces 32 w))

seens : map seen_again (codes "1 parked []" ∷ codes "2 clear [0.1,3.0]" ∷ codes "4294967295 clear [0.0,0.7,10.0]" ∷ codes "2 clear [3.0,0.1]" ∷ codes "2 clear [0.1,0.1]" ∷ codes "2 clear [0.8]" ∷ codes "2 open []" ∷ codes "2 clear" ∷ codes "2 clear [,]" ∷ []) ≡ Some (codes "1 parked []") ∷ Some (codes "2 clear [0.1,3.0]") ∷ Some (codes "4294967295 clear [0.0,0.7,10.0]") ∷ None ∷ None ∷ None ∷ None ∷ None ∷ None ∷ []
unfolding digits
seens = refl

-- as Python's `uuid.uuid5` makes them of `card-1/0` and `a/4294967295`
first_id : event_id (codes "card-1") 0 ≡ 0xae ∷ 0xca ∷ 0xd8 ∷ 0x6b ∷ 0xef ∷ 0xe9 ∷ 0x59 ∷ 0xc3 ∷ 0xb3 ∷ 0xda ∷ 0xf8 ∷ 0x03 ∷ 0x96 ∷ 0xb4 ∷ 0x52 ∷ 0xc7 ∷ []
unfolding digits first_words schedule rounds compress hash_after digest_bytes sha1 by_index
first_id = refl

last_id : event_id (codes "a") 4294967295 ≡ 0xfe ∷ 0x7f ∷ 0x4c ∷ 0x34 ∷ 0xed ∷ 0xb3 ∷ 0x51 ∷ 0xaa ∷ 0xb0 ∷ 0xe3 ∷ 0x2b ∷ 0x4b ∷ 0x66 ∷ 0xf7 ∷ 0xfd ∷ 0x39 ∷ []
unfolding digits first_words schedule rounds compress hash_after digest_bytes sha1 by_index
last_id = refl
