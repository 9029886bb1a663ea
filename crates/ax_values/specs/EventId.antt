-- The identifiers of events.
use Rattle.std.specs.Prelude.{ℕ, List, [], ◌∷◌, ◌++◌, take}
use Rattle.std.specs.Fmt.{decimal}
use Rattle.uuid.specs.Parts.{with_version, with_variant}
use Rattle.uuid.specs.declared.Version.{Version}
use Rattle.uuid.specs.declared.Variant.{Variant}
use Rattle.sha1.specs.Sha1.{sha1}
use Rattle.ax_values.specs.Grammar.{Name}

-- the namespace 6ba7b811-9dad-11d1-80b4-00c04fd430c8
abbrev pub namespace : List ℕ
namespace = 0x6b ∷ 0xa7 ∷ 0xb8 ∷ 0x11 ∷ 0x9d ∷ 0xad ∷ 0x11 ∷ 0xd1 ∷ 0x80 ∷ 0xb4 ∷ 0x00 ∷ 0xc0 ∷ 0x4f ∷ 0xd4 ∷ 0x30 ∷ 0xc8 ∷ []

-- the identifier of version 5 (RFC 9562) of `aggregate/seq`, as bytes
abbrev pub event_id : Name → ℕ → List ℕ
event_id a seq = with_version (with_variant (take 16 (sha1 (namespace ++ a ++ 47 ∷ decimal seq))) Variant.RFC4122) Version.Sha1
