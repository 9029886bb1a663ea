-- Every order of this crate keeps what holds of every state.
use Rattle.std.specs.Prelude.{ℕ}
use Rattle.ax_state.specs.Setting.{processor_number}
use Rattle.ax_state.specs.State.{State}
use Rattle.ax_state.specs.WellFormed.{IsWellFormed}
use Rattle.ax_step_claims.specs.Claiming.{IsClaiming, step}
use Rattle.ax_step_claims.proofs.ClaimKept.{kept-claim}
use Rattle.ax_step_claims.proofs.HeldKept.{kept-extend, kept-release}
use Rattle.ax_step_claims.proofs.HalvesKept.{kept-split, kept-merge}
use Rattle.ax_journal.specs.declared.order.Order.{Order}

pub kept-step : (m : State) (actor : ℕ) (order : Order) (kind : IsClaiming order) → IsWellFormed m → IsWellFormed (step m actor order kind).state
kept-step m actor (Order.Claim name s) kind h = kept-claim m actor name s h
kept-step m actor (Order.Extend name s) kind h = kept-extend m actor (processor_number m.setting.processors name) s h
kept-step m actor (Order.Release name s) kind h = kept-release m actor (processor_number m.setting.processors name) s h
kept-step m actor (Order.Split name s) kind h = kept-split m actor (processor_number m.setting.processors name) s h
kept-step m actor (Order.Merge name s) kind h = kept-merge m actor (processor_number m.setting.processors name) s h
kept-step m actor order kind h = absurd kind
