-- The texts of the orders and replies, computed: each kind of step and each reply, and lines that are no orders.
use Rattle.std.specs.Prelude.{◌≡◌, refl, true, false, List, [], ◌∷◌, map, codes, Some, None, Option, is_some, option_map}
use Rattle.std.specs.Fmt.{digits}
use lib.Count.{ones}
use Rattle.ax_values.specs.Grammar.{Line, ◌>>=◌, line_words}
use Rattle.ax_values.specs.Words.{words, payload_words}
use Rattle.ax_journal.specs.Form.{forms, place, worded}
use Rattle.ax_journal.specs.Segment.{segment_text, segment_in}
use Rattle.ax_journal.specs.Arguments.{arguments_in}
use Rattle.ax_journal.specs.Orders.{order_words, order_in, steps_in}
use Rattle.ax_journal.specs.Replies.{reply_words}
use Rattle.ax_journal.specs.Entries.{entry_text}
use Rattle.ax_journal.specs.declared.arguments.Arguments.{Arguments}
use Rattle.ax_journal.specs.declared.order.Order.{Order}
use Rattle.ax_journal.specs.declared.reply.Reply.{Reply}
use Rattle.ax_journal.specs.declared.entry.Entry.{Entry}

segment_again : Line → Option Line
segment_again w = option_map segment_text (segment_in w)

segments : map segment_again (codes "0/0" ∷ codes "1/1" ∷ codes "5/7" ∷ codes "65535/65535" ∷ codes "1/0" ∷ codes "0/2" ∷ codes "0/131071" ∷ codes "01/1" ∷ codes "0/01" ∷ codes "0" ∷ codes "0/0/0" ∷ codes "/" ∷ []) ≡ Some (codes "0/0") ∷ Some (codes "1/1") ∷ Some (codes "5/7") ∷ Some (codes "65535/65535") ∷ None ∷ None ∷ None ∷ None ∷ None ∷ None ∷ None ∷ None ∷ []
unfolding digits ones segment_again
segments = refl

-- arguments in any order are kept rising; a space within quotes parts nothing
arguments_again : Line → Option Line
arguments_again line = option_map (λ fs. words (payload_words fs)) (arguments_in (line_words line))

arguments : map arguments_again (codes "b=1 a=\"x y\"" ∷ codes "c=1 a=2 b=3" ∷ codes "a=1" ∷ codes "a=1 a=2" ∷ codes "a=1 b=1 a=1" ∷ codes "a=1 " ∷ codes "a=\"x\"y" ∷ codes "a=" ∷ codes "a=01" ∷ []) ≡ Some (codes "a=\"x y\" b=1") ∷ Some (codes "a=2 b=3 c=1") ∷ Some (codes "a=1") ∷ None ∷ None ∷ None ∷ None ∷ None ∷ None ∷ []
unfolding digits arguments_again
arguments = refl

-- an order that is read is written so
order_again : Line → Option Line
order_again line = option_map (λ o. words (order_words o)) (order_in Arguments.Rising (line_words line))

abbrev orders : List Line
orders =
    codes "tick 1" ∷ codes "tick 1000000000" ∷ codes "send card-1 issue" ∷ codes "send card-1 issue amount=1 to=\"a b\"" ∷ codes "append" ∷
    codes "void 4294967295" ∷ codes "snapshot a" ∷ codes "deliver" ∷ codes "claim p 0/0" ∷ codes "extend p 1/1" ∷ codes "release p 2/3" ∷
    codes "split p 65535/65535" ∷ codes "merge p 0/1" ∷ codes "reset p" ∷ codes "fetch p 0/0 10000" ∷ codes "commit" ∷ codes "take p" ∷ codes "settle" ∷
    codes "evict p a.0.0" ∷ codes "policy p keep" ∷ codes "policy p drop" ∷ codes "mark p a.0.7" ∷ codes "heal p a.1.0" ∷ codes "advance p 0/0 1" ∷
    codes "stop" ∷ codes "show rows p" ∷ codes "show tokens p" ∷ codes "show letters p" ∷ codes "show sagas p" ∷ codes "show log" ∷ codes "show sent" ∷ []

orders_again : map order_again orders ≡ map (λ w. Some w) orders
unfolding digits ones order_again
orders_again = refl

abbrev no_orders : List Line
no_orders =
    codes "tick 0" ∷ codes "tick 1000000001" ∷ codes "tick 01" ∷ codes "tick" ∷ codes "tick 1 " ∷ codes "tick 1 2" ∷ codes "append 1" ∷
    codes "send card-1" ∷ codes "send card-1 issue " ∷ codes "send card-1 issue amount" ∷ codes "send card-1 issue amount=01" ∷
    codes "send card-1 issue a=1 a=1" ∷ codes "send card-1 issue b=1 a=2" ∷ codes "void 4294967296" ∷ codes "void" ∷ codes "claim p 0" ∷
    codes "claim p 1/0" ∷ codes "claim p 0/2" ∷ codes "claim p 0/131071" ∷ codes "claim p" ∷ codes "claim -p 0/0" ∷ codes "fetch p 0/0 0" ∷
    codes "fetch p 0/0 10001" ∷ codes "fetch p 0/0" ∷ codes "evict p a.0.8" ∷ codes "evict p a.0" ∷ codes "policy p hold" ∷ codes "policy p" ∷
    codes "show" ∷ codes "show row p" ∷ codes "show log p" ∷ codes "show rows" ∷ codes "rows p" ∷ codes "do a b" ∷ codes "work p 0/0 1" ∷
    codes "retry p" ∷ codes "" ∷ codes "Tick 1" ∷ codes " append" ∷ codes "append " ∷ codes "tick \"5\"" ∷ []

no_orders_again : map (λ w. is_some (order_again w)) no_orders ≡ map (λ w. false) no_orders
unfolding ones order_again
no_orders_again = refl

-- the steps of a line of a script
steps_again : Line → Option (List Line)
steps_again line = worded (line_words line) >>= λ w. option_map (map (λ o. words (order_words o))) (steps_in Arguments.AnyOrder w.form w.fields)

steps : map steps_again (codes "do card-1 issue to=\"x\" amount=1" ∷ codes "work p 0/1 10000" ∷ codes "retry p" ∷ codes "tick 5" ∷ codes "show log" ∷ codes "do card-1" ∷ codes "do a b c=1 c=1" ∷ codes "work p 0/1" ∷ codes "work p 0/1 10001" ∷ codes "retry" ∷ codes "retry p q" ∷ []) ≡
    Some (codes "send card-1 issue amount=1 to=\"x\"" ∷ codes "append" ∷ []) ∷ Some (codes "fetch p 0/1 10000" ∷ codes "commit" ∷ []) ∷ Some (codes "take p" ∷ codes "settle" ∷ []) ∷ Some (codes "tick 5" ∷ []) ∷ Some (codes "show log" ∷ [])
    ∷ None ∷ None ∷ None ∷ None ∷ None ∷ None ∷ []
unfolding digits ones steps_again
steps = refl

-- the forms have different places, in their order
places : map place forms ≡ 0 ∷ 1 ∷ 2 ∷ 3 ∷ 4 ∷ 5 ∷ 6 ∷ 7 ∷ 8 ∷ 9 ∷ 10 ∷ 11 ∷ 12 ∷ 13 ∷ 14 ∷ 15 ∷ 16 ∷ 17 ∷ 18 ∷ 19 ∷ 20 ∷ 21 ∷ 22 ∷ 23 ∷ 24 ∷ 25 ∷ 26 ∷ 27 ∷ 28 ∷ 29 ∷ 30 ∷ []
places = refl

abbrev text : Reply → Line
text r = words (reply_words r)

-- each reply
answers : map text
    (Reply.Done
    ∷ (Reply.Now 5)
    ∷ (Reply.Reserved 1 2 3)
    ∷ (Reply.Appended 1 2)
    ∷ (Reply.Voided 4)
    ∷ (Reply.Snapshot 2)
    ∷ (Reply.Delivered 0 3 1)
    ∷ (Reply.Rejected 7 2)
    ∷ (Reply.Fenced 9)
    ∷ (Reply.Halves (record { id = 0; mask = 1 }) (record { id = 1; mask = 1 }))
    ∷ (Reply.Merged (record { id = 0; mask = 0 }))
    ∷ (Reply.Segments 2)
    ∷ (Reply.Fetched 3)
    ∷ (Reply.Committed 1 2 3)
    ∷ (Reply.Letters 2 (codes "a"))
    ∷ Reply.NoLetters
    ∷ (Reply.Settled 1 2)
    ∷ (Reply.Dropped (record { aggregate = codes "a"; seq = 1; part = 2 }))
    ∷ (Reply.Advanced 1 2 3 4)
    ∷ (Reply.Lines 12)
    ∷ []) ≡
    codes "0" ∷ codes "0 now 5" ∷ codes "0 cell 1 count 2 first 3" ∷ codes "0 seq 1 count 2" ∷ codes "0 cell 4" ∷ codes "0 events 2" ∷
    codes "0 sent 0 cell 3 count 1" ∷ codes "0 sent 7 rejected 2" ∷ codes "0 fence 9" ∷ codes "0 lower 0/1 upper 1/1" ∷ codes "0 merged 0/0" ∷
    codes "0 segments 2" ∷ codes "0 records 3" ∷ codes "0 applied 1 parked 2 dropped 3" ∷ codes "0 letters 2 of a" ∷ codes "0 letters 0" ∷
    codes "0 settled 1 left 2" ∷ codes "0 dropped a.1.2" ∷ codes "0 records 1 started 2 ended 3 sent 4" ∷ codes "0 lines 12" ∷ []
unfolding digits
answers = refl

refusals : map text
    ((Reply.GuardFails 1)
    ∷ (Reply.Conflict 1 2)
    ∷ (Reply.VoidedCell 3)
    ∷ Reply.NoReservation
    ∷ (Reply.Young 6)
    ∷ Reply.NotReserved
    ∷ Reply.NoSegment
    ∷ (Reply.Claimed (codes "w1") 7)
    ∷ (Reply.Stale 2 (Some 3))
    ∷ (Reply.Stale 2 None)
    ∷ Reply.NotHeld
    ∷ Reply.MaskFull
    ∷ Reply.Alone
    ∷ Reply.NoBatch
    ∷ (Reply.Changed (codes "a") (record { position = 1; parked = false; marks = [] }) (record { position = 4; parked = true; marks = record { seq = 5; part = 1 } ∷ [] }))
    ∷ Reply.SequencesFull
    ∷ (Reply.SequenceFull (codes "a"))
    ∷ Reply.NoLetter
    ∷ (Reply.LettersTaken (codes "w2") 8)
    ∷ Reply.NoTake
    ∷ Reply.LogFull
    ∷ Reply.NothingWaits
    ∷ Reply.KeeperFailed
    ∷ (Reply.NotApplied (record { aggregate = codes "a"; seq = 1; part = 2 }) (codes "guard 0"))
    ∷ []) ≡
    codes "20 guard 1" ∷ codes "21 expected 1 found 2" ∷ codes "22 cell 3" ∷ codes "23" ∷ codes "24 since 6" ∷ codes "25" ∷ codes "26" ∷
    codes "27 owner w1 since 7" ∷ codes "28 held 2 found 3" ∷ codes "28 held 2 found none" ∷ codes "29" ∷ codes "30" ∷ codes "31" ∷ codes "32" ∷
    codes "33 a read 1 clear [] found 4 parked [5.1]" ∷ codes "34" ∷ codes "35 a" ∷ codes "36" ∷ codes "37 by w2 since 8" ∷ codes "38" ∷ codes "39" ∷
    codes "40" ∷ codes "50" ∷ codes "60 a.1.2 guard 0" ∷ []
unfolding digits
refusals = refl

-- a step with a report, and one without
entry : Entry
entry = record { actor = codes "w1"; order = Order.ShowRows (codes "balance"); reply = Reply.Lines 2; report = codes "row card-1 items 2 remaining=70" ∷ codes "row card-2 items 0" ∷ [] }

short_entry : Entry
short_entry = record { actor = codes "c1"; order = Order.Append; reply = Reply.NoReservation; report = [] }

entries : map entry_text (entry ∷ short_entry ∷ []) ≡ codes "w1 show rows balance -> 0 lines 2\nrow card-1 items 2 remaining=70\nrow card-2 items 0\n" ∷ codes "c1 append -> 23\n" ∷ []
unfolding digits entry short_entry
entries = refl
