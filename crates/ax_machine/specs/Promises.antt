-- What holds of the rows that each state of a run shows, and of the reports that the run prints.
use Rattle.std.specs.Prelude.{◌≡◌, ℕ, ◌≤◌, length, take, Option, Some, None, IfSome, Result, Ok, Err, IsTrue, slice_get}
use Rattle.std.specs.List.{AllByRecursion}
use Rattle.ax_values.specs.Grammar.{Name}
use Rattle.ax_rules.specs.Rules.{fold_items}
use Rattle.ax_projections.specs.Items.{plain_items}
use Rattle.ax_journal.specs.declared.entry.Entry.{Entry}
use Rattle.ax_journal.specs.declared.order.Order.{Order}
use Rattle.ax_state.specs.Setting.{processor_number, projection_at, is_projection}
use Rattle.ax_state.specs.State.{State, processor_state_at}
use Rattle.ax_state.specs.Positions.{Shown, items_at, undropped, rows_of, rebuilt_rows, is_at_head}
use Rattle.ax_report.specs.Reports.{rows_report}
use Rattle.ax_script.specs.Plans.{Plan}
use Rattle.ax_script.specs.Reading.{Wrong}
use Rattle.ax_machine.specs.Run.{run_of, state_after}

-- the row is the fold, each item once and in order, of a prefix of its aggregate's items, less the dropped ones
pub record IsFoldOfPrefix (m : State) (p : ℕ) (r : Shown) : Type 0 where
  pub within : r.position ≤ length (items_at m r.aggregate)
  pub row : fold_items (projection_at m.setting p) (plain_items (undropped (processor_state_at m p).drops (take r.position (items_at m r.aggregate)))) ≡ Ok r.row

-- each row of the processor is so, and at the head they are the rows that the log alone gives
pub record AreRight (m : State) (p : ℕ) : Type 0 where
  pub folds : AllByRecursion (IsFoldOfPrefix m p) (rows_of m p)
  pub complete : IsTrue (is_at_head m p) → rows_of m p ≡ rebuilt_rows (projection_at m.setting p) m.setting.sheet.chain m.cells

-- the same of each projection processor
abbrev pub ShowsRight : State → Type 0
ShowsRight m = (p : ℕ) → IsTrue (is_projection m.setting p) → AreRight m p

-- ---- reports

-- the processor whose rows an order shows
abbrev pub rows_shown : Order → Option Name
rows_shown (Order.ShowRows p) = Some p
rows_shown order = None

-- an entry that shows rows has the lines of the state's rows as its report, one for each row that the state has, in their order
abbrev pub ReportsRows : State → Entry → Type 0
ReportsRows m e = IfSome (rows_shown e.order) (λ p. e.report ≡ rows_report m (processor_number m.setting.processors p))

-- ---- a run

-- After each number of orders the rows are right, and each report of rows in the journal has the lines of the state that stood before it.
pub record IsRightRun (plan : Plan) : Type 0 where
  pub states : (orders : ℕ) → ShowsRight (state_after plan orders)
  pub reports : (place : ℕ) → IfSome (slice_get (run_of plan) place) (ReportsRows (state_after plan place))

-- the same of a script, where it is a plan
abbrev pub AlwaysRight : Result Plan Wrong → Type 0
AlwaysRight (Ok plan) = IsRightRun plan
AlwaysRight (Err wrong) = Unit {0}
