-- Each report of rows in the journal of a run has the lines of the state that stood before it.
use Rattle.std.proofs.Common.{◌≡◌, ℕ, zero, suc, false, List, [], ◌∷◌, ◌++◌, take, Option, Some, None, IfSome, if◌then◌else◌, refl, sym, subst}
use Rattle.std.specs.Prelude.{slice_get}
use Rattle.std.specs.List.{AllByRecursion}
use Rattle.ax_state.specs.Setting.{processor_number}
use Rattle.ax_state.specs.State.{State}
use Rattle.ax_state.specs.Answer.{answer}
use Rattle.ax_script.specs.Plans.{Plan}
use Rattle.ax_journal.specs.declared.order.Order.{Order}
use Rattle.ax_journal.specs.declared.reply.Reply.{Reply}
use Rattle.ax_report.specs.Reports.{rows_report}
use Rattle.ax_machine.specs.Run.{Attempt, step, attempted, entries, state_after_all, attempt_if, next_order, attempts, no_faults, first_state, run_of, state_after}
use Rattle.ax_machine.specs.Promises.{rows_shown, ReportsRows}

-- a step that shows rows reports those of its state
step-reports : (m : State) (k : ℕ) (o : Order) → IfSome (rows_shown o) (λ p. (step m k o).report ≡ rows_report m (processor_number m.setting.processors p))
step-reports m k (Order.ShowRows p) = refl
step-reports m k order = tt

attempt-reports : (m : State) (x : Attempt) → x.faulted ≡ false → IfSome (rows_shown x.order) (λ p. (attempted m x).report ≡ rows_report m (processor_number m.setting.processors p))
attempt-reports m x e =
    subst (λ b. IfSome (rows_shown x.order) (λ p. (if b then answer m Reply.KeeperFailed else step m x.actor x.order).report ≡ rows_report m (processor_number m.setting.processors p))) (sym e)
    (step-reports m x.actor x.order)

reports-at : (m : State) (xs : List Attempt) (place : ℕ) → AllByRecursion (λ x. x.faulted ≡ false) xs → IfSome (slice_get (entries m xs) place) (ReportsRows (state_after_all m (take place xs)))
reports-at m [] place h = tt
reports-at m (x ∷ xs) zero h = attempt-reports m x h.0
reports-at m (x ∷ xs) (suc place) h = reports-at (attempted m x).state xs place h.1

unfaulted : (queues : List (List Order)) (before left : List ℕ) → AllByRecursion (λ x. x.faulted ≡ false) (attempts queues no_faults before left)
unfaulted queues before [] = tt
unfaulted queues before (a ∷ left) = at (next_order queues before a) (unfaulted queues (before ++ a ∷ []) left)
  where
    at : (o : Option Order) → AllByRecursion (λ x. x.faulted ≡ false) (attempts queues no_faults (before ++ a ∷ []) left)
        → AllByRecursion (λ x. x.faulted ≡ false) (attempt_if a false o (attempts queues no_faults (before ++ a ∷ []) left))
    at None h = h
    at (Some o) h = (refl, h)

pub reports : (plan : Plan) (place : ℕ) → IfSome (slice_get (run_of plan) place) (ReportsRows (state_after plan place))
reports plan place = reports-at (first_state plan) (attempts plan.orders no_faults [] plan.schedule) place (unfaulted plan.orders [] plan.schedule)
