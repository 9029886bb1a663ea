-- The texts of replies.
use Rattle.std.specs.Prelude.{ℕ, List, [], ◌∷◌, ◌++◌, Option, Some, None, codes}
use Rattle.std.specs.Fmt.{decimal}
use Rattle.ax_values.specs.Grammar.{Line}
use Rattle.ax_values.specs.Words.{item_text}
use Rattle.ax_values.specs.Seen.{seen_words}
use Rattle.ax_journal.specs.Segment.{segment_text}
use Rattle.ax_journal.specs.declared.reply.Reply.{Reply}

-- the number that a reply begins with
abbrev pub reply_number : Reply → ℕ
reply_number (Reply.GuardFails g) = 20
reply_number (Reply.Conflict s l) = 21
reply_number (Reply.VoidedCell i) = 22
reply_number Reply.NoReservation = 23
reply_number (Reply.Young t) = 24
reply_number Reply.NotReserved = 25
reply_number Reply.NoSegment = 26
reply_number (Reply.Claimed a t) = 27
reply_number (Reply.Stale f g) = 28
reply_number Reply.NotHeld = 29
reply_number Reply.MaskFull = 30
reply_number Reply.Alone = 31
reply_number Reply.NoBatch = 32
reply_number (Reply.Changed a s t) = 33
reply_number Reply.SequencesFull = 34
reply_number (Reply.SequenceFull a) = 35
reply_number Reply.NoLetter = 36
reply_number (Reply.LettersTaken a t) = 37
reply_number Reply.NoTake = 38
reply_number Reply.LogFull = 39
reply_number Reply.NothingWaits = 40
reply_number Reply.KeeperFailed = 50
reply_number (Reply.NotApplied x why) = 60
reply_number r = 0

abbrev pub found_text : Option ℕ → Line
found_text None = codes "none"
found_text (Some f) = decimal f

-- what answers about the log, the clock and reports say
abbrev pub log_values : Reply → List Line
log_values (Reply.Now t) = codes "now" ∷ decimal t ∷ []
log_values (Reply.Reserved i n s) = codes "cell" ∷ decimal i ∷ codes "count" ∷ decimal n ∷ codes "first" ∷ decimal s ∷ []
log_values (Reply.Appended s n) = codes "seq" ∷ decimal s ∷ codes "count" ∷ decimal n ∷ []
log_values (Reply.Voided i) = codes "cell" ∷ decimal i ∷ []
log_values (Reply.Snapshot n) = codes "events" ∷ decimal n ∷ []
log_values (Reply.Delivered k i n) = codes "sent" ∷ decimal k ∷ codes "cell" ∷ decimal i ∷ codes "count" ∷ decimal n ∷ []
log_values (Reply.Rejected k g) = codes "sent" ∷ decimal k ∷ codes "rejected" ∷ decimal g ∷ []
log_values (Reply.Lines n) = codes "lines" ∷ decimal n ∷ []
log_values r = []

-- what answers about claims, batches, letters and sagas say
abbrev pub work_values : Reply → List Line
work_values (Reply.Fenced f) = codes "fence" ∷ decimal f ∷ []
work_values (Reply.Halves l u) = codes "lower" ∷ segment_text l ∷ codes "upper" ∷ segment_text u ∷ []
work_values (Reply.Merged s) = codes "merged" ∷ segment_text s ∷ []
work_values (Reply.Segments n) = codes "segments" ∷ decimal n ∷ []
work_values (Reply.Fetched n) = codes "records" ∷ decimal n ∷ []
work_values (Reply.Committed a p d) = codes "applied" ∷ decimal a ∷ codes "parked" ∷ decimal p ∷ codes "dropped" ∷ decimal d ∷ []
work_values (Reply.Letters n a) = codes "letters" ∷ decimal n ∷ codes "of" ∷ a ∷ []
work_values Reply.NoLetters = codes "letters" ∷ decimal 0 ∷ []
work_values (Reply.Settled n l) = codes "settled" ∷ decimal n ∷ codes "left" ∷ decimal l ∷ []
work_values (Reply.Dropped x) = codes "dropped" ∷ item_text x ∷ []
work_values (Reply.Advanced r s e n) = codes "records" ∷ decimal r ∷ codes "started" ∷ decimal s ∷ codes "ended" ∷ decimal e ∷ codes "sent" ∷ decimal n ∷ []
work_values r = []

-- what refusals say behind their number
abbrev pub refusal_values : Reply → List Line
refusal_values (Reply.GuardFails g) = codes "guard" ∷ decimal g ∷ []
refusal_values (Reply.Conflict s l) = codes "expected" ∷ decimal s ∷ codes "found" ∷ decimal l ∷ []
refusal_values (Reply.VoidedCell i) = codes "cell" ∷ decimal i ∷ []
refusal_values (Reply.Young t) = codes "since" ∷ decimal t ∷ []
refusal_values (Reply.Claimed a t) = codes "owner" ∷ a ∷ codes "since" ∷ decimal t ∷ []
refusal_values (Reply.Stale f g) = codes "held" ∷ decimal f ∷ codes "found" ∷ found_text g ∷ []
refusal_values (Reply.Changed a s t) = a ∷ codes "read" ∷ seen_words s ++ codes "found" ∷ seen_words t
refusal_values (Reply.SequenceFull a) = a ∷ []
refusal_values (Reply.LettersTaken a t) = codes "by" ∷ a ∷ codes "since" ∷ decimal t ∷ []
refusal_values (Reply.NotApplied x why) = item_text x ∷ why ∷ []
refusal_values r = []

-- the number, and the words of the one kind that the reply is of
abbrev pub reply_words : Reply → List Line
reply_words r = decimal (reply_number r) ∷ log_values r ++ (work_values r ++ refusal_values r)
