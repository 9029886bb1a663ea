-- The report of the log: a line for each cell.
use Rattle.std.specs.Prelude.{ℕ, suc, List, [], ◌∷◌, ◌++◌, codes}
use Rattle.std.specs.Fmt.{decimal}
use Rattle.ax_values.specs.Grammar.{Line}
use Rattle.ax_values.specs.Words.{words, payload_words}
use Rattle.ax_values.specs.EventId.{event_id}
use Rattle.uuid.specs.Text.{hyphenated_text, lower}
use Rattle.ax_state.specs.State.{State}
use Rattle.ax_values.specs.declared.cell.Cell.{Cell}
use Rattle.ax_values.specs.declared.record.Record.{Record}

-- aggregate, number, kind and revision of an event
abbrev pub head_words : Record → List Line
head_words r = r.aggregate ∷ decimal r.seq ∷ r.kind ∷ decimal r.revision ∷ []

abbrev pub id_words : Record → List Line
id_words r = codes "id" ∷ hyphenated_text lower (event_id r.aggregate r.seq) ∷ []

-- these, its identifier, and its fields
abbrev pub record_words : Record → List Line
record_words r = head_words r ++ id_words r ++ payload_words r.payload

abbrev pub cell_words : Cell → List Line
cell_words Cell.Void = codes "void" ∷ []
cell_words (Cell.Reserved a s w t) = codes "reserved" ∷ a ∷ codes "first" ∷ decimal s ∷ codes "by" ∷ w ∷ codes "since" ∷ decimal t ∷ []
cell_words (Cell.Event r) = codes "event" ∷ record_words r

abbrev pub cell_line : ℕ → Cell → Line
cell_line i c = words (codes "cell" ∷ decimal i ∷ cell_words c)

-- the lines of the cells, the first of which has the index i
abbrev pub cell_lines : ℕ → List Cell → List Line
cell_lines i [] = []
cell_lines i (c ∷ cells) = cell_line i c ∷ cell_lines (suc i) cells

abbrev pub log_report : State → List Line
log_report m = cell_lines 0 m.cells
