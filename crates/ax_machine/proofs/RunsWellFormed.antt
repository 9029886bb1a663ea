-- Every state of a plan's run is well formed, so what it shows is right.
use Rattle.std.proofs.Common.{◌≡◌, ℕ, zero, suc, Bool, true, false, List, [], ◌∷◌, take, Some, if◌then◌else◌, refl, sym, ◌∙◌, subst}
use Rattle.std.specs.List.{AllByRecursion}
use Rattle.ax_state.specs.Setting.{Setting, IsSetting}
use Rattle.ax_state.specs.State.{State}
use Rattle.ax_state.specs.Answer.{answer}
use Rattle.ax_state.specs.WellFormed.{AreCommands, IsWellFormed}
use Rattle.ax_state.proofs.Starting.{starts}
use Rattle.ax_script.specs.Judging.{is_known}
use Rattle.ax_script.specs.Plans.{Plan, IsPlan}
use Rattle.ax_step_log.proofs.SendKept.{kept-send}
use Rattle.ax_step_log.proofs.AppendKept.{kept-append}
use Rattle.ax_step_log.proofs.OtherSteps.{kept-tick, kept-void, kept-stop}
use Rattle.ax_step_claims.proofs.StepKept.{kept-step as kept-claiming}
use Rattle.ax_step_work.proofs.FetchKept.{kept-fetch}
use Rattle.ax_step_work.proofs.CommitKept.{kept-commit}
use Rattle.ax_journal.specs.declared.order.Order.{Order}
use Rattle.ax_journal.specs.declared.reply.Reply.{Reply}
use Rattle.ax_machine.specs.Run.{Attempt, IsKnown, IsPerformed, step, attempted, state_after_all, attempts, no_faults, setting_of, first_state, state_after}
use Rattle.ax_machine.specs.Machines.{ArePerformed}
use Rattle.ax_machine.specs.Promises.{ShowsRight, IsRightRun}
use Rattle.ax_machine.proofs.Known.{known-send, known-fetch}
use Rattle.ax_machine.proofs.Stays.{stays}
use Rattle.ax_machine.proofs.Runs.{all-attempts}
use Rattle.ax_machine.proofs.AtHead.{are-right}
use Rattle.ax_machine.proofs.Reported.{reports}

-- ---- one step

pub kept-step : (m : State) (k : ℕ) (o : Order) → IsSetting m.setting → IsKnown m.setting o → IsPerformed o → IsWellFormed m → IsWellFormed (step m k o).state
kept-step m k (Order.Send a c args) s known performed h = kept-send m k a c args (known-send m.setting a c args known) h
kept-step m k Order.Append s known performed h = kept-append m k h
kept-step m k (Order.Claim p x) s known performed h = kept-claiming m k (Order.Claim p x) tt h
kept-step m k (Order.Fetch p x most) s known performed h = kept-fetch m k _ x most (known-fetch m.setting p x most s known) h
kept-step m k Order.Commit s known performed h = kept-commit m k s.actors.differ h
kept-step m k (Order.ShowRows p) s known performed h = h
kept-step m k (Order.Tick ms) s known performed h = kept-tick m ms h
kept-step m k (Order.Void cell) s known performed h = kept-void m cell h
kept-step m k Order.Stop s known performed h = kept-stop m k h
kept-step m k (Order.Extend p x) s known performed h = kept-claiming m k (Order.Extend p x) tt h
kept-step m k (Order.Release p x) s known performed h = kept-claiming m k (Order.Release p x) tt h
kept-step m k (Order.Split p x) s known performed h = kept-claiming m k (Order.Split p x) tt h
kept-step m k (Order.Merge p x) s known performed h = kept-claiming m k (Order.Merge p x) tt h
kept-step m k (Order.ShowTokens p) s known performed h = h
kept-step m k Order.ShowLog s known performed h = h
kept-step m k order s known performed h = absurd (cc)

kept-attempt : (m : State) (x : Attempt) → IsSetting m.setting → IsKnown m.setting x.order → IsPerformed x.order → IsWellFormed m → IsWellFormed (attempted m x).state
kept-attempt m x s known performed h = at x.faulted (kept-step m x.actor x.order s known performed h)
  where
    at : (b : Bool) → IsWellFormed (step m x.actor x.order).state → IsWellFormed (if b then answer m Reply.KeeperFailed else step m x.actor x.order).state
    at true k = h
    at false k = k

setting-attempt : (m : State) (x : Attempt) → IsPerformed x.order → (attempted m x).state.setting ≡ m.setting
setting-attempt m x performed = at x.faulted
  where
    at : (b : Bool) → (if b then answer m Reply.KeeperFailed else step m x.actor x.order).state.setting ≡ m.setting
    at true = refl
    at false = (stays m x.actor x.order performed).setting

-- ---- steps one after another

kept-all : (setting : Setting) (m : State) (xs : List Attempt) (k : ℕ) → IsSetting setting → m.setting ≡ setting → AllByRecursion (λ x. IsKnown setting x.order) xs
    → AllByRecursion (λ x. IsPerformed x.order) xs → IsWellFormed m → IsWellFormed (state_after_all m (take k xs))
kept-all setting m xs zero s e known performed h = h
kept-all setting m [] (suc k) s e known performed h = h
kept-all setting m (x ∷ xs) (suc k) s e known performed h =
    kept-all setting (attempted m x).state xs k s (setting-attempt m x performed.0 ∙ e) known.1 performed.1
    (kept-attempt m x (subst IsSetting (sym e) s) (subst (λ (t : Setting). IsKnown t x.order) (sym e) known.0) performed.0 h)

-- ---- a plan

well-formed : (plan : Plan) (k : ℕ) → AreCommands plan.sheet → IsPlan plan → ArePerformed plan.orders → IsWellFormed (state_after plan k)
well-formed plan k commands h performed =
    kept-all (setting_of plan) (first_state plan) (attempts plan.orders no_faults [] plan.schedule) k setting refl
    (all-attempts (is_known (Some plan.sheet) plan.processors) plan.orders no_faults [] plan.schedule h.orders.known) (all-attempts _ plan.orders no_faults [] plan.schedule performed)
    (starts (setting_of plan) commands setting)
  where
    setting : IsSetting (setting_of plan)
    setting = record { processors = h.processors; actors = h.actors }

pub shows-right : (plan : Plan) (k : ℕ) → AreCommands plan.sheet → IsPlan plan → ArePerformed plan.orders → ShowsRight (state_after plan k)
shows-right plan k commands h performed p projection = are-right (state_after plan k) p (well-formed plan k commands h performed) projection

pub right-run : (plan : Plan) → AreCommands plan.sheet → IsPlan plan → ArePerformed plan.orders → IsRightRun plan
right-run plan commands h performed = record { states = λ k. shows-right plan k commands h performed; reports = reports plan }
