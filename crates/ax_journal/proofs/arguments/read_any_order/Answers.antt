use Rattle.std.proofs.Common.{Some, sym, ap, ◌∙◌}
use Rattle.ax_journal.proofs.Sorting.{read-at, unread-at, repeated-at}
use Rattle.ax_journal.proofs.arguments.read_any_order.Goals as goal

pub returns-in_default : goal.returns-in_default
returns-in_default c = unread-at c.args.words.now c.loop-word.word-index c.loop-word-test.true (sym c.in_ok-field.ensures.value ∙ c.in_default.is)

pub returns-then-not-branch : goal.returns-then-not-branch
returns-then-not-branch c =
    let field = sym c.in_ok-field.ensures.value ∙ c.in-Some.is in
    repeated-at c.args.words.now c.loop-word.word-index c.loop-word.fields.items c.in-Some.field c.loop-word-test.true c.loop-word.invariant.read field
    (sym c.if-not-branch.true ∙ c.in_ok-put_new.ensures.is_new)

pub loop-word-preserved : goal.loop-word-preserved
loop-word-preserved c =
    let field = sym c.in_ok-field.ensures.value ∙ c.in-Some.is in
    let new = sym c.if-not-branch.false ∙ c.in_ok-put_new.ensures.is_new in
    record {
      read = read-at c.args.words.now c.loop-word.word-index c.loop-word.fields.items c.in-Some.field c.loop-word-test.true c.loop-word.invariant.read field new
          ∙ ap Some (sym (c.in_ok-put_new.ensures.put c.if-not-branch.false));
      rising = c.in_ok-put_new.ensures.rising;
    }
