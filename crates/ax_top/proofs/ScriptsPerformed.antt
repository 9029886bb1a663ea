-- A script that today's reader takes has orders of kinds that are performed.
use Rattle.std.proofs.Common.{◌≡◌, ◌^◌, ◌==◌, Bool, true, false, List, [], ◌∷◌, length, Option, Some, None, IfSome, IfOk, Result, Ok, refl, subst}
use Rattle.std.specs.List.{list_all}
use Rattle.ax_values.specs.Grammar.{Line, ◌>>=◌, when, name_in, number_from, u32_in}
use Rattle.ax_journal.specs.declared.arguments.Arguments.{Arguments}
use Rattle.ax_journal.specs.declared.form.Form.{Form}
use Rattle.ax_journal.specs.declared.order.Order.{Order}
use Rattle.ax_journal.specs.Arguments.{args_in}
use Rattle.ax_journal.specs.Fields.{only_in, pair_in}
use Rattle.ax_journal.specs.Form.{is_built}
use Rattle.ax_journal.specs.Orders.{steps_in}
use Rattle.ax_journal.specs.Segment.{segment_in}
use Rattle.ax_script.specs.Plans.{Plan}
use Rattle.ax_script.specs.Reading.{Wrong, script_in}
use Rattle.ax_script.proofs.BuiltSteps.{script-passes}
use Rattle.ax_machine.specs.Run.{is_performed}
use Rattle.ax_machine.specs.Machines.{ArePerformed}

-- ---- options

-- what is read in front of more that is read
through : {A B C : Type 0} (P : C → Type 0) (o : Option A) (f : A → Option B) (k : B → Option C) → ((x : A) → IfSome (f x >>= k) P) → IfSome ((o >>= f) >>= k) P
through P None f k h = tt
through P (Some x) f k h = h x

chosen : {A B : Type 0} (P : B → Type 0) (b : Bool) (x : A) (k : A → Option B) → IfSome (k x) P → IfSome (when b x >>= k) P
chosen P true x k h = h
chosen P false x k h = tt

-- ---- the steps of a form that is built

-- steps of kinds that are performed
abbrev Performs : List Order → Type 0
Performs steps = list_all is_performed steps ≡ true

send-steps : (ws : List Line) → IfSome (steps_in Arguments.AnyOrder Form.Send ws) Performs
send-steps [] = tt
send-steps (v ∷ []) = tt
send-steps (v ∷ w ∷ ws) =
    through Performs (name_in v) _ _ (λ a. through Performs (name_in w) _ _ (λ c. through Performs (args_in Arguments.AnyOrder ws) _ _ (λ args. refl)))

append-steps : (ws : List Line) → IfSome (steps_in Arguments.AnyOrder Form.Append ws) Performs
append-steps ws = chosen Performs (length ws == 0) _ _ refl

commit-steps : (ws : List Line) → IfSome (steps_in Arguments.AnyOrder Form.Commit ws) Performs
commit-steps ws = chosen Performs (length ws == 0) _ _ refl

stop-steps : (ws : List Line) → IfSome (steps_in Arguments.AnyOrder Form.Stop ws) Performs
stop-steps ws = chosen Performs (length ws == 0) _ _ refl

log-steps : (ws : List Line) → IfSome (steps_in Arguments.AnyOrder Form.ShowLog ws) Performs
log-steps ws = chosen Performs (length ws == 0) _ _ refl

tick-steps : (ws : List Line) → IfSome (steps_in Arguments.AnyOrder Form.Tick ws) Performs
tick-steps ws = through Performs (only_in ws) _ _ (λ w. through Performs (number_from 1 (10 ^ 9) w) _ _ (λ ms. refl))

void-steps : (ws : List Line) → IfSome (steps_in Arguments.AnyOrder Form.Void ws) Performs
void-steps ws = through Performs (only_in ws) _ _ (λ w. through Performs (u32_in w) _ _ (λ i. refl))

claim-steps : (ws : List Line) → IfSome (steps_in Arguments.AnyOrder Form.Claim ws) Performs
claim-steps [] = tt
claim-steps (w ∷ ws) = through Performs (name_in w) _ _ (λ p. through Performs (only_in ws) _ _ (λ x. through Performs (segment_in x) _ _ (λ s. refl)))

extend-steps : (ws : List Line) → IfSome (steps_in Arguments.AnyOrder Form.Extend ws) Performs
extend-steps [] = tt
extend-steps (w ∷ ws) = through Performs (name_in w) _ _ (λ p. through Performs (only_in ws) _ _ (λ x. through Performs (segment_in x) _ _ (λ s. refl)))

release-steps : (ws : List Line) → IfSome (steps_in Arguments.AnyOrder Form.Release ws) Performs
release-steps [] = tt
release-steps (w ∷ ws) = through Performs (name_in w) _ _ (λ p. through Performs (only_in ws) _ _ (λ x. through Performs (segment_in x) _ _ (λ s. refl)))

split-steps : (ws : List Line) → IfSome (steps_in Arguments.AnyOrder Form.Split ws) Performs
split-steps [] = tt
split-steps (w ∷ ws) = through Performs (name_in w) _ _ (λ p. through Performs (only_in ws) _ _ (λ x. through Performs (segment_in x) _ _ (λ s. refl)))

merge-steps : (ws : List Line) → IfSome (steps_in Arguments.AnyOrder Form.Merge ws) Performs
merge-steps [] = tt
merge-steps (w ∷ ws) = through Performs (name_in w) _ _ (λ p. through Performs (only_in ws) _ _ (λ x. through Performs (segment_in x) _ _ (λ s. refl)))

rows-steps : (ws : List Line) → IfSome (steps_in Arguments.AnyOrder Form.ShowRows ws) Performs
rows-steps ws = through Performs (only_in ws) _ _ (λ w. through Performs (name_in w) _ _ (λ a. refl))

tokens-steps : (ws : List Line) → IfSome (steps_in Arguments.AnyOrder Form.ShowTokens ws) Performs
tokens-steps ws = through Performs (only_in ws) _ _ (λ w. through Performs (name_in w) _ _ (λ a. refl))

do-steps : (ws : List Line) → IfSome (steps_in Arguments.AnyOrder Form.Do ws) Performs
do-steps [] = tt
do-steps (v ∷ []) = tt
do-steps (v ∷ w ∷ ws) =
    through Performs (name_in v) _ _ (λ a. through Performs (name_in w) _ _ (λ c. through Performs (args_in Arguments.AnyOrder ws) _ _ (λ args. refl)))

fetch-steps : (ws : List Line) → IfSome (steps_in Arguments.AnyOrder Form.Fetch ws) Performs
fetch-steps [] = tt
fetch-steps (w ∷ ws) =
    through Performs (name_in w) _ _ (λ p. through Performs (pair_in ws) _ _ (λ t. through Performs (segment_in t.first) _ _ (λ s. through Performs (number_from 1 10000 t.second) _ _ (λ n. refl))))

work-steps : (ws : List Line) → IfSome (steps_in Arguments.AnyOrder Form.Work ws) Performs
work-steps [] = tt
work-steps (w ∷ ws) =
    through Performs (name_in w) _ _ (λ p. through Performs (pair_in ws) _ _ (λ t. through Performs (segment_in t.first) _ _ (λ s. through Performs (number_from 1 10000 t.second) _ _ (λ n. refl))))

form-steps : (form : Form) (ws : List Line) → is_built form ≡ true → IfSome (steps_in Arguments.AnyOrder form ws) Performs
form-steps Form.Send ws h = send-steps ws
form-steps Form.Append ws h = append-steps ws
form-steps Form.Claim ws h = claim-steps ws
form-steps Form.ShowRows ws h = rows-steps ws
form-steps Form.Do ws h = do-steps ws
form-steps Form.Work ws h = work-steps ws
form-steps Form.Tick ws h = tick-steps ws
form-steps Form.Void ws h = void-steps ws
form-steps Form.Stop ws h = stop-steps ws
form-steps Form.Extend ws h = extend-steps ws
form-steps Form.Release ws h = release-steps ws
form-steps Form.Split ws h = split-steps ws
form-steps Form.Merge ws h = merge-steps ws
form-steps Form.Fetch ws h = fetch-steps ws
form-steps Form.Commit ws h = commit-steps ws
form-steps Form.ShowTokens ws h = tokens-steps ws
form-steps Form.ShowLog ws h = log-steps ws
form-steps form ws h = absurd (cc)

-- ---- the script

pub plan-performed : (text : Line) (plan : Plan) → script_in is_built text ≡ Ok plan → ArePerformed plan.orders
plan-performed text plan e = subst (λ (r : Result Plan Wrong). IfOk r (λ plan. ArePerformed plan.orders)) e (script-passes is_built is_performed form-steps text)
