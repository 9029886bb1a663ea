use Rattle.std.proofs.Common.{◌≡◌, cond, sym, ◌∙◌}
use Rattle.std.specs.Prelude.{Result, Ok, Err, IsOk, is_ok}
use Rattle.ax_values.specs.Words.{item_cmp}
use Rattle.ax_values.specs.Orders.{item_cmp_total}
use Rattle.ax_values.proofs.Rising.{put-found, put-none, rises-nondecreasing}
use Rattle.ax_world.proofs.marks.put_mark.Goals as goal

inserted : {T E : Type 0} {A : Type 0} (r : Result T E) (new : A) (made old : A) → new ≡ cond (is_ok r) made old → IsOk r → new ≡ made
inserted (Ok x) new made old e h = e
inserted (Err x) new made old e h = absurd (cc)

pub returns-in-Ok-clause-made : goal.returns-in-Ok-clause-made
returns-in-Ok-clause-made c =
    let bound = rw c.deref.ensures.value at c.in-Ok.ensures.bound in
    let place = rw c.deref.ensures.value at c.in-Ok.ensures.place in
    sym (put-found item_cmp item_cmp_total c.args.item c.args.marks.now.items c.in-Ok.place c.requires.rising bound (place c.args.item))

pub returns-in-Err-clause-made : goal.returns-in-Err-clause-made
returns-in-Err-clause-made c =
    let bound = rw c.deref.ensures.value at c.in-Err.ensures.bound in
    let place = rw c.deref.ensures.value at c.in-Err.ensures.place in
    let marks = c.args.marks.now.items in
    inserted c.insert.result c.insert.new.self.items _ marks c.insert.ensures.items (c.insert.ensures.succeeds c.requires.room)
    ∙ sym (put-none item_cmp item_cmp_total c.args.item marks c.in-Err.place bound (place (rises-nondecreasing item_cmp item_cmp_total c.args.item marks c.requires.rising)))
