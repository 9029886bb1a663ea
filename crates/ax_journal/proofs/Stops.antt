-- Of the steps of an order a stop is the last.
use Rattle.std.proofs.Common.{◌≡◌, true, false, not, ◌&&◌, List, [], ◌∷◌, Option, Some, None, IfSome, IsTrue, refl, sym, ap, ◌∙◌}
use Rattle.ax_journal.specs.declared.fields.Fields.{Fields}
use Rattle.ax_journal.specs.declared.form.Form.{Form}
use Rattle.ax_journal.specs.declared.order.Order.{Order}
use Rattle.ax_journal.specs.Orders.{step_of, one_step, two, do_steps, work_steps, retry_steps, steps_of, is_stop, stops_last}

stops-one : (o : Option Order) (os : List Order) → one_step o ≡ Some os → stops_last os ≡ true
stops-one None os h = absurd (cc)
stops-one (Some x) os h = let same : os ≡ x ∷ [] = cc in ap stops_last same

stops-two : (x y : Order) (os : List Order) → is_stop x ≡ false → two x y ≡ Some os → stops_last os ≡ true
stops-two x y os e h = let same : os ≡ x ∷ y ∷ [] = cc in ap stops_last same ∙ ap (λ b. not b && true) e

stops-do : (fs : Fields) (os : List Order) → do_steps fs ≡ Some os → stops_last os ≡ true
unfolding is_stop
stops-do (Fields.Command a c args) os h = stops-two (Order.Send a c args) Order.Append os refl h
stops-do fs os h = absurd (cc)

stops-work : (fs : Fields) (os : List Order) → work_steps fs ≡ Some os → stops_last os ≡ true
unfolding is_stop
stops-work (Fields.UpTo p s n) os h = stops-two (Order.Fetch p s n) Order.Commit os refl h
stops-work fs os h = absurd (cc)

stops-retry : (fs : Fields) (os : List Order) → retry_steps fs ≡ Some os → stops_last os ≡ true
unfolding is_stop
stops-retry (Fields.Name p) os h = stops-two (Order.Take p) Order.Settle os refl h
stops-retry fs os h = absurd (cc)

stops-of : (f : Form) (fs : Fields) (os : List Order) → steps_of f fs ≡ Some os → stops_last os ≡ true
stops-of Form.Do fs os h = stops-do fs os h
stops-of Form.Work fs os h = stops-work fs os h
stops-of Form.Retry fs os h = stops-retry fs os h
stops-of f fs os h = stops-one (step_of fs f) os h

pub stops-any : (f : Form) (fs : Fields) (o : Option (List Order)) → o ≡ steps_of f fs → IfSome o (λ os. IsTrue (stops_last os))
stops-any f fs None h = tt
stops-any f fs (Some os) h = stops-of f fs os (sym h)
