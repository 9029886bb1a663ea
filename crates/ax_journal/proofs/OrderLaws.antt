-- Steps, and their forms and fields.
use Rattle.std.proofs.Common.{◌≡◌, Some, refl}
use Rattle.ax_journal.specs.Orders.{form_of, fields_of, step_of, steps_of, one_step}
use Rattle.ax_journal.specs.declared.form.Form.{Form}
use Rattle.ax_journal.specs.declared.fields.Fields.{Fields}
use Rattle.ax_journal.specs.declared.order.Order.{Order}

-- an order is that of its form and its fields
pub step_again : (o : Order) → step_of (fields_of o) (form_of o) ≡ Some o
step_again (Order.Tick ms) = refl
step_again (Order.Send a c args) = refl
step_again Order.Append = refl
step_again (Order.Void i) = refl
step_again (Order.Snapshot a) = refl
step_again Order.Deliver = refl
step_again (Order.Claim p s) = refl
step_again (Order.Extend p s) = refl
step_again (Order.Release p s) = refl
step_again (Order.Split p s) = refl
step_again (Order.Merge p s) = refl
step_again (Order.Reset p) = refl
step_again (Order.Fetch p s n) = refl
step_again Order.Commit = refl
step_again (Order.Take p) = refl
step_again Order.Settle = refl
step_again (Order.Evict p x) = refl
step_again (Order.Policy p keep) = refl
step_again (Order.Mark p x) = refl
step_again (Order.Heal p x) = refl
step_again (Order.Advance p s n) = refl
step_again Order.Stop = refl
step_again (Order.ShowRows p) = refl
step_again (Order.ShowTokens p) = refl
step_again (Order.ShowLetters p) = refl
step_again (Order.ShowSagas p) = refl
step_again Order.ShowLog = refl
step_again Order.ShowSent = refl

-- a form that is not of two steps has one
pub alone : (f : Form) (fs : Fields) → (f ≡ Form.Do → ⊥) → (f ≡ Form.Work → ⊥) → (f ≡ Form.Retry → ⊥) → steps_of f fs ≡ one_step (step_of fs f)
alone Form.Do fs a b c = absurd (a refl)
alone Form.Work fs a b c = absurd (b refl)
alone Form.Retry fs a b c = absurd (c refl)
alone Form.Tick fs a b c = refl
alone Form.Send fs a b c = refl
alone Form.Append fs a b c = refl
alone Form.Void fs a b c = refl
alone Form.Snapshot fs a b c = refl
alone Form.Deliver fs a b c = refl
alone Form.Claim fs a b c = refl
alone Form.Extend fs a b c = refl
alone Form.Release fs a b c = refl
alone Form.Split fs a b c = refl
alone Form.Merge fs a b c = refl
alone Form.Reset fs a b c = refl
alone Form.Fetch fs a b c = refl
alone Form.Commit fs a b c = refl
alone Form.Take fs a b c = refl
alone Form.Settle fs a b c = refl
alone Form.Evict fs a b c = refl
alone Form.Policy fs a b c = refl
alone Form.Mark fs a b c = refl
alone Form.Heal fs a b c = refl
alone Form.Advance fs a b c = refl
alone Form.Stop fs a b c = refl
alone Form.ShowRows fs a b c = refl
alone Form.ShowTokens fs a b c = refl
alone Form.ShowLetters fs a b c = refl
alone Form.ShowSagas fs a b c = refl
alone Form.ShowLog fs a b c = refl
alone Form.ShowSent fs a b c = refl
