-- Worked runs, computed from the definitions alone.
use Rattle.std.specs.Prelude.{◌≡◌, ◌++◌, List, [], ◌∷◌, codes, refl}
use lib.Count.{ones}
use Rattle.std.specs.Fmt.{digits}
use Rattle.ax_values.specs.Grammar.{Line}
use Rattle.ax_journal.specs.Orders.{is_stop}
use Rattle.ax_state.specs.Setting.{whole_at}
use Rattle.ax_script.specs.Forms.{order_in}
use Rattle.ax_script.specs.Judging.{first_kind, is_known, is_show}
use Rattle.ax_script.specs.Reading.{with_line, line_read, script_in}
use Rattle.ax_top.specs.declared.status.Status.{Status}
use Rattle.ax_top.specs.Run.{Answer, answer}

abbrev run_word : List Line
run_word = codes "run" ∷ []

abbrev done : Line → Answer
done text = record { status = Status.Done; text = text }

abbrev head : Line
head = codes "axon 1\nsheet cards\nprocessor balance 1\nactor c1\nactor c2\nactor w1\nactor w2\norders\n"

head_alone_prints_nothing : answer run_word head ≡ done []
unfolding digits answer first_kind with_line line_read script_in order_in is_known is_show is_stop ones whole_at
head_alone_prints_nothing = refl

script_cut_in_a_line : answer run_word (head ++ codes "c1 do card-1 iss") ≡ record { status = Status.Script; text = codes "script 9 cut\n" }
unfolding digits answer first_kind with_line line_read script_in order_in is_known is_show is_stop ones whole_at
script_cut_in_a_line = refl

form_not_built_yet : answer run_word (head ++ codes "c1 deliver\n") ≡ record { status = Status.Script; text = codes "script 9 later\n" }
unfolding digits answer first_kind with_line line_read script_in order_in is_known is_show is_stop ones whole_at
form_not_built_yet = refl

second_append_conflicts : answer run_word (head ++ codes "c1 do card-1 issue amount=100\nc1 send card-1 redeem amount=10\nc2 send card-1 redeem amount=20\nc1 append\nc2 append\nc2 append\n")
    ≡ done (codes "c1 send card-1 issue amount=100 -> 0 cell 0 count 1 first 0\nc1 append -> 0 seq 0 count 1\nc1 send card-1 redeem amount=10 -> 0 cell 1 count 1 first 1\nc2 send card-1 redeem amount=20 -> 0 cell 2 count 1 first 1\nc1 append -> 0 seq 1 count 1\nc2 append -> 21 expected 1 found 2\nc2 append -> 23\n")
unfolding digits answer first_kind with_line line_read script_in order_in is_known is_show is_stop ones whole_at
second_append_conflicts = refl

issue_redeem_and_show : answer run_word (head ++ codes "c1 do card-1 issue amount=100\nc1 do card-1 redeem amount=30\nw1 claim balance 0/0\nw1 work balance 0/0 100\nw1 show rows balance\n")
    ≡ done (codes "c1 send card-1 issue amount=100 -> 0 cell 0 count 1 first 0\nc1 append -> 0 seq 0 count 1\nc1 send card-1 redeem amount=30 -> 0 cell 1 count 1 first 1\nc1 append -> 0 seq 1 count 1\nw1 claim balance 0/0 -> 0 fence 2\nw1 fetch balance 0/0 100 -> 0 records 2\nw1 commit -> 0 applied 2 parked 0 dropped 0\nw1 show rows balance -> 0 lines 1\nrow card-1 items 2 remaining=70\n")
unfolding digits answer first_kind with_line line_read script_in order_in is_known is_show is_stop ones whole_at
issue_redeem_and_show = refl

reserved_cell_is_a_gap : answer run_word (head ++ codes "c1 send card-1 issue amount=10\nc2 do card-2 issue amount=20\nw1 claim balance 0/0\nw1 work balance 0/0 100\nc1 append\nw1 work balance 0/0 100\n")
    ≡ done (codes "c1 send card-1 issue amount=10 -> 0 cell 0 count 1 first 0\nc2 send card-2 issue amount=20 -> 0 cell 1 count 1 first 0\nc2 append -> 0 seq 0 count 1\nw1 claim balance 0/0 -> 0 fence 2\nw1 fetch balance 0/0 100 -> 0 records 1\nw1 commit -> 0 applied 1 parked 0 dropped 0\nc1 append -> 0 seq 0 count 1\nw1 fetch balance 0/0 100 -> 0 records 1\nw1 commit -> 0 applied 1 parked 0 dropped 0\n")
unfolding digits answer first_kind with_line line_read script_in order_in is_known is_show is_stop ones whole_at
reserved_cell_is_a_gap = refl

item_without_letters_is_refused : answer run_word (head ++ codes "c1 do card-1 buy amount=10 fee=30\nw1 claim balance 0/0\nw1 work balance 0/0 100\n")
    ≡ done (codes "c1 send card-1 buy amount=10 fee=30 -> 0 cell 0 count 1 first 0\nc1 append -> 0 seq 0 count 1\nw1 claim balance 0/0 -> 0 fence 2\nw1 fetch balance 0/0 100 -> 0 records 1\nw1 commit -> 60 card-1.0.1 guard 0\n")
unfolding digits answer first_kind with_line line_read script_in order_in is_known is_show is_stop ones whole_at
item_without_letters_is_refused = refl

rebuild_prints_the_row : answer (codes "rebuild" ∷ []) (head ++ codes "c1 do card-1 issue amount=100\nc1 do card-1 redeem amount=30\nw1 claim balance 0/0\nw1 work balance 0/0 100\nw1 show rows balance\n") ≡ done (codes "processor balance\nrow card-1 items 2 remaining=70\n")
unfolding digits answer first_kind with_line line_read script_in order_in is_known is_show is_stop ones whole_at
rebuild_prints_the_row = refl
