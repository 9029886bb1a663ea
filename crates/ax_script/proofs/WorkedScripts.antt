-- Worked scripts, computed from the definitions alone: a plan, and a refused script for each kind of fault.
use Rattle.std.specs.Prelude.{◌≡◌, ◌++◌, Bool, true, List, [], ◌∷◌, Option, Some, None, Result, Ok, Err, codes, refl}
use Rattle.ax_values.specs.Grammar.{Line}
use Rattle.ax_journal.specs.Form.{is_built}
use Rattle.ax_journal.specs.declared.form.Form.{Form}
use Rattle.ax_journal.specs.declared.order.Order.{Order}
use Rattle.ax_journal.specs.Orders.{is_stop}
use Rattle.ax_values.specs.declared.value.Value.{Value}
use Rattle.std.specs.Prelude.{pos}
use lib.Count.{ones}
use Rattle.ax_script.specs.declared.kind.ScriptKind.{ScriptKind}
use Rattle.ax_script.specs.Forms.{order_in}
use Rattle.ax_script.specs.Judging.{nothing_read, first_kind, is_known, is_show}
use Rattle.ax_script.specs.declared.line.Part.{Part}
use Rattle.ax_script.specs.declared.line.ScriptLine.{ScriptLine}
use Rattle.ax_script.specs.Plans.{Plan}
use Rattle.ax_script.specs.Reading.{Wrong, wrong, with_line, formed, line_read, read_on, lines_read, most_bytes, unless_cut, unless_long, script_in}
use Rattle.ax_sheet.specs.Shape.{sheet_in}
use Rattle.ax_sheet.proofs.OnLiterals.{sheets_on_literals}
use Rattle.ax_sheet.proofs.Ascii.{ascii_sheet}
use Rattle.std.proofs.Common.{ap, nat_lt, length}

abbrev all_built : Form → Bool
all_built f = true

abbrev orders_of : Result Plan Wrong → Option (List (List Order))
orders_of (Ok plan) = Some plan.orders
orders_of (Err w) = None

abbrev head : Line
head = codes "axon 1\nsheet cards\nprocessor balance 1\nactor a1\nactor a2\norders\n"

pub one_card : orders_of (script_in is_built (head ++ codes "a1 do card-1 issue amount=100\n\n# a note\na2 claim balance 0/0\na2 work balance 0/0 100\na2 show rows balance\n")) ≡ Some (
    (Order.Send (codes "card-1") (codes "issue") (record { name = codes "amount"; value = Value.Int (pos 100) } ∷ []) ∷ Order.Append ∷ [])
    ∷ (Order.Claim (codes "balance") (record { id = 0; mask = 0 }) ∷ Order.Fetch (codes "balance") (record { id = 0; mask = 0 }) 100 ∷ Order.Commit ∷ Order.ShowRows (codes "balance") ∷ [])
    ∷ [])
unfolding first_kind with_line line_read script_in order_in is_known is_show is_stop ones
one_card = refl

pub cut_in_a_line : script_in all_built (head ++ codes "a1 tick 5\na1 do card-1 iss") ≡ Err (wrong 8 ScriptKind.Cut)
unfolding first_kind with_line line_read script_in order_in is_known is_show is_stop
cut_in_a_line = refl

pub cut_before_orders : script_in all_built (codes "axon 1\nsheet cards\nactor a1\n") ≡ Err (wrong 4 ScriptKind.Cut)
unfolding first_kind with_line line_read script_in order_in is_known is_show is_stop
cut_before_orders = refl

pub bytes_in_a_note : script_in all_built (head ++ codes "# a" ++ (127 ∷ []) ++ codes "b\n") ≡ Err (wrong 7 ScriptKind.Bytes)
unfolding first_kind with_line line_read script_in order_in is_known is_show is_stop
bytes_in_a_note = refl

pub form_of_a_number : script_in all_built (head ++ codes "a1 tick 05\n") ≡ Err (wrong 7 ScriptKind.Form)
unfolding first_kind with_line line_read script_in order_in is_known is_show is_stop
form_of_a_number = refl

pub later_than_built : script_in is_built (head ++ codes "a1 deliver\n") ≡ Err (wrong 7 ScriptKind.Later)
unfolding first_kind with_line line_read script_in order_in is_known is_show is_stop
later_than_built = refl

pub twice_declared : script_in all_built (codes "axon 1\nsheet cards\nprocessor balance 1\nsaga balance 2\n") ≡ Err (wrong 4 ScriptKind.Twice)
unfolding first_kind with_line line_read script_in order_in is_known is_show is_stop
twice_declared = refl

pub unknown_kind_of_processor : script_in all_built (head ++ codes "a1 advance balance 0/0 5\n") ≡ Err (wrong 7 ScriptKind.Unknown)
unfolding first_kind with_line line_read script_in order_in is_known is_show is_stop ones
unknown_kind_of_processor = refl

pub limit_of_shows : script_in all_built (head ++ codes "a1 show log\na1 show log\na1 show log\na1 show log\na1 show log\na1 show log\na1 show log\na1 show log\na1 show log\n") ≡ Err (wrong 15 ScriptKind.Limit)
unfolding first_kind with_line line_read script_in order_in is_known is_show is_stop
limit_of_shows = refl

pub stopped_on_an_earlier_line : script_in all_built (head ++ codes "a1 stop\na2 tick 5\na1 tick 5\n") ≡ Err (wrong 9 ScriptKind.Stopped)
unfolding first_kind with_line line_read script_in order_in is_known is_show is_stop
stopped_on_an_earlier_line = refl

pub schedule_with_a_name_too_many : script_in all_built (head ++ codes "a1 tick 5\na2 tick 5\nschedule a1 a2 a1\n") ≡ Err (wrong 9 ScriptKind.Schedule)
unfolding first_kind with_line line_read script_in order_in is_known is_show is_stop
schedule_with_a_name_too_many = refl

pub more_than_any_script : (text : Line) → nat_lt most_bytes (length text) ≡ true → script_in all_built text ≡ Err (wrong 0 ScriptKind.Long)
unfolding script_in
more_than_any_script text h = ap (λ b. unless_long b all_built text) h

no_members : sheet_in (codes "{}") ≡ None
unfolding sheets_on_literals
no_members = ascii_sheet (codes "{}") refl

no_sheet_line : line_read all_built (record nothing_read { part = Part.Sheet }) (codes "sheet {}") ≡ Err ScriptKind.Sheet
unfolding first_kind line_read
no_sheet_line = ap (λ s. formed all_built (record nothing_read { part = Part.Sheet }) (Some (ScriptLine.Sheet s))) no_members

pub no_text_of_a_sheet : script_in all_built (codes "axon 1\nsheet {}\nactor\n") ≡ Err (wrong 2 ScriptKind.Sheet)
unfolding first_kind with_line line_read script_in
no_text_of_a_sheet = ap (λ m. unless_cut 4 [] (read_on 2 m (λ next. lines_read all_built 3 next (codes "actor" ∷ [])))) no_sheet_line
