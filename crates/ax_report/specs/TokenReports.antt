-- The report of the token rows of a processor.
use Rattle.std.specs.Prelude.{ℕ, List, [], ◌∷◌, map, Option, Some, None, codes}
use Rattle.std.specs.Fmt.{decimal}
use Rattle.ax_values.specs.Grammar.{Name, Line}
use Rattle.ax_values.specs.Words.{words}
use Rattle.ax_tokens.specs.TokenText.{token_text}
use Rattle.ax_journal.specs.Segment.{segment_text}
use Rattle.ax_claims.specs.Rows.{TokenRow}
use Rattle.ax_state.specs.State.{State, processor_state_at}

-- a dash where nobody owns the row
abbrev pub owner_text : Option Name → Line
owner_text None = codes "-"
owner_text (Some a) = a

-- the segment, its owner, the time of its claim, its fence, and its token
abbrev pub token_line : TokenRow → Line
token_line r =
    words (codes "token" ∷ segment_text r.segment ∷ codes "owner" ∷ owner_text r.owner ∷ codes "since" ∷ decimal r.since ∷ codes "fence" ∷ decimal r.fence ∷ codes "at" ∷ token_text r.token ∷ [])

-- a line for each row, in their order
abbrev pub tokens_report : State → ℕ → List Line
tokens_report m p = map token_line (processor_state_at m p).rows
