-- Reports: the rows that a processor shows, and the text of a rebuild.
use Rattle.std.specs.Prelude.{◌≡◌, ℕ, suc, ◌<◌, Bool, true, false, List, [], ◌∷◌, ◌++◌, map, length, Option, Some, None, IsTrue, codes}
use Rattle.std.specs.List.{IsDistinct}
use Rattle.std.specs.List.Sorted.{IsPermutation, IsSorted}
use Rattle.std.specs.Fmt.{decimal, signed_decimal}
use Rattle.ax_values.specs.Grammar.{Name, Line}
use Rattle.ax_values.specs.Words.{words, same_name, name_cmp}
use Rattle.ax_rules.specs.Expr.{Row}
use Rattle.ax_rules.specs.Rules.{Rules}
use Rattle.ax_projections.specs.Table.{Entry, look_up}
use Rattle.ax_state.specs.Setting.{Setting, processor_number, processor_at, projection_at, is_projection}
use Rattle.ax_state.specs.State.{State}
use Rattle.ax_state.specs.Positions.{Shown, rows_of, rebuilt_rows}
use Rattle.ax_state.specs.Answer.{Answer, reported}
use Rattle.ax_journal.specs.Entries.{ended}
use Rattle.ax_report.specs.TokenReports.{tokens_report}
use Rattle.ax_report.specs.LogReports.{log_report}
use Rattle.ax_rules.specs.declared.rules.Initial.{Initial}
use Rattle.ax_projections.specs.declared.table.Positioned.{Positioned}
use Rattle.ax_journal.specs.declared.order.Order.{Order}
use Rattle.ax_sheet.specs.Declarations.{Processor}

-- ---- lines

-- a word for each declared field, its name and its value
abbrev pub field_words : List Initial → Row → List Line
field_words [] row = []
field_words (f ∷ fs) [] = []
field_words (f ∷ fs) (z ∷ zs) = (f.name ++ 61 ∷ signed_decimal z) ∷ field_words fs zs

-- the aggregate, how many items the row has taken, and its fields
abbrev pub line_of : List Initial → Shown → Line
line_of fields r = words (codes "row" ∷ r.aggregate ∷ codes "items" ∷ decimal r.position ∷ field_words fields r.row)

abbrev pub row_line : Rules → Shown → Line
row_line rules r = line_of rules.fields r

abbrev pub processor_line : Processor → Line
processor_line q = words (codes "processor" ∷ q.name ∷ [])

-- ---- show rows

abbrev pub rows_report : State → ℕ → List Line
rows_report m p = map (row_line (projection_at m.setting p)) (rows_of m p)

-- ---- rebuild

abbrev pub unless_saga : Bool → List Line → List Line
unless_saga true lines = []
unless_saga false lines = lines

abbrev pub rebuilt_lines : State → ℕ → Processor → List Line
rebuilt_lines m p q = processor_line q ∷ map (row_line (projection_at m.setting p)) (rebuilt_rows (projection_at m.setting p) m.setting.sheet.chain m.cells)

-- of the processor p: a saga has no rows
abbrev pub processor_lines : State → ℕ → List Line
processor_lines m p = unless_saga (processor_at m.setting p).saga (rebuilt_lines m p (processor_at m.setting p))

-- the processors, the first of which has the number p
abbrev pub rebuild_from : State → ℕ → List Processor → List Line
rebuild_from m p [] = []
rebuild_from m p (q ∷ qs) = unless_saga q.saga (rebuilt_lines m p q) ++ rebuild_from m (suc p) qs

abbrev pub rebuild_lines : State → List Line
rebuild_lines m = rebuild_from m 0 m.setting.processors

abbrev pub rebuild_text : State → Line
rebuild_text m = ended (rebuild_lines m)

-- ---- rows of a table

abbrev pub shown_of : Name → Option Positioned → List Shown
shown_of a None = []
shown_of a (Some v) = record { aggregate = a; position = v.position; row = v.row } ∷ []

-- the rows that a table has of the names, in their order
abbrev pub listed : List Entry → List Name → List Shown
listed table [] = []
listed table (a ∷ names) = shown_of a (look_up a table) ++ listed table names

-- the names of a table, none of which it has twice, in order
pub record AreNames (table : List Entry) (names : List Name) : Type 0 where
  pub permutation : IsPermutation (map (λ e. e.name) table) names
  pub sorted : IsSorted name_cmp names
  pub distinct : IsDistinct same_name (map (λ e. e.name) table)

-- lines of the rows under the names of a table in order, after older lines
pub record AddsRows (fields : List Initial) (table : List Entry) (old new : List Line) : Type 0 where
  pub names : List Name
  pub are : AreNames table names
  pub lines : new ≡ old ++ map (line_of fields) (listed table names)

-- ---- steps

-- the orders of this crate
abbrev pub IsReport : Order → Type 0
IsReport (Order.ShowRows processor) = Unit {0}
IsReport (Order.ShowTokens processor) = Unit {0}
IsReport Order.ShowLog = Unit {0}
IsReport order = ⊥

-- the processor that the order names is declared; where its rows are shown, it is one of a projection
abbrev pub IsDeclared : Setting → Order → Type 0
IsDeclared setting (Order.ShowRows processor) = IsTrue (is_projection setting (processor_number setting.processors processor))
IsDeclared setting (Order.ShowTokens processor) = processor_number setting.processors processor < length setting.processors
IsDeclared setting order = Unit {0}

-- of an order of this crate
abbrev pub step : State → ℕ → (order : Order) → IsReport order → Answer
step m actor (Order.ShowRows processor) kind = reported m (rows_report m (processor_number m.setting.processors processor))
step m actor (Order.ShowTokens processor) kind = reported m (tokens_report m (processor_number m.setting.processors processor))
step m actor Order.ShowLog kind = reported m (log_report m)
step m actor order kind = absurd kind
