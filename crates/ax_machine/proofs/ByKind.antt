-- A step of a crate is the machine's, at an order of a kind of the crate.
use Rattle.std.proofs.Common.{◌≡◌, ℕ, Result, IfOk, sym, subst}
use Rattle.ax_state.specs.State.{State}
use Rattle.ax_state.specs.Answer.{Answer}
use Rattle.ax_world.specs.WorldTables.{WorldTables, state_of}
use Rattle.ax_world.specs.Moves.{IsMove}
use Rattle.ax_journal.specs.declared.order.Order.{Order}
use Rattle.ax_values.specs.declared.memory.NoMemory.{NoMemory}
use Rattle.ax_world.specs.declared.edit.Move.{Move}
use Rattle.ax_machine.specs.Run.{step}

-- `K` are the kinds of the crate, and `own` is its step
pub by-kind : (K : Order → Type 0) (own : State → ℕ → (order : Order) → K order → Answer) (w : WorldTables) (k : ℕ) (made : Result Move NoMemory) (o x : Order) → o ≡ x → (kind : K x) → own (state_of w) k x kind ≡ step (state_of w) k x
    → ((kind : K o) → IfOk made (IsMove w (own (state_of w) k o kind))) → IfOk made (IsMove w (step (state_of w) k o))
by-kind K own w k made o x is kind same h =
    subst (λ y. ((kind : K y) → IfOk made (IsMove w (own (state_of w) k y kind))) → IfOk made (IsMove w (step (state_of w) k y)))
    (sym is) (λ f. subst (λ a. IfOk made (IsMove w a)) same (f kind)) h
