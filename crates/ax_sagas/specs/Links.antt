-- Links: what a saga is associated with. They rise by key and then value, so none stands twice.
use Rattle.std.specs.Prelude.{Bool, ◌&&◌, List}
use Rattle.std.specs.List.{list_any}
use Rattle.std.specs.declared.cmp.Ordering.{Ordering}
use Rattle.std.specs.Ordering.{ordering_then, is_lt}
use Rattle.ax_values.specs.Grammar.{Line}
use Rattle.ax_values.specs.Words.{name_cmp, same_name}
use Rattle.ax_sagas.specs.declared.link.Link.{Link}

abbrev pub link_of : Line → Line → Link
link_of key value = record { key = key; value = value }

-- links stand by the bytes of their keys, then of their values
abbrev pub link_cmp : Link → Link → Ordering
link_cmp a b = ordering_then (name_cmp a.key b.key) (name_cmp a.value b.value)

abbrev pub link_below : Link → Link → Bool
link_below a b = is_lt (link_cmp a b)

-- whether the value is associated under the key
abbrev pub has_link : Line → Line → List Link → Bool
has_link key value links = list_any (λ l. same_name l.key key && same_name l.value value) links
