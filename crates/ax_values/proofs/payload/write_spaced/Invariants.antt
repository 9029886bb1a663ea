use Rattle.std.proofs.Common.{◌≡◌, ◌++◌, drop, take, Some, length}
use Rattle.ax_values.specs.Grammar.{each_in}
use Rattle.ax_values.specs.Words.{spaced, payload_words}
use Rattle.ax_values.specs.Readers.{field_in}
use Rattle.ax_values.proofs.payload.write_spaced.Given as goal

-- what is written, with the words of the fields that are left
abbrev pub invariant-loop-field : goal.invariant-loop-field
invariant-loop-field l = record {
  text : l.out.items ++ spaced (payload_words (drop l.field-index l.fields)) ≡ l.initial.out.items ++ spaced (payload_words l.fields);
  front : take (length l.initial.out.items) l.out.items ≡ l.initial.out.items;
  again : each_in field_in (payload_words (take l.field-index l.fields)) ≡ Some (take l.field-index l.fields);
}
