use Rattle.std.proofs.Common.{◌≡◌, ◌==◌, true, false, length, slice_get, sym, ap, ◌∙◌}
use Rattle.ax_letters.proofs.Changed.{read-at, letter-left, last-letter}
use Rattle.ax_letters.proofs.places.take_letter.Goals as goal

pub returns-then-is_empty-clause-rest : goal.returns-then-is_empty-clause-rest
returns-then-is_empty-clause-rest c k e =
    let empty : (length c.index.result.now.sequence.letters == 0) ≡ true = ap (λ ls. length ls == 0) (sym c.letters.ensures) ∙ sym c.is_empty.ensures ∙ c.if-is_empty.true in
    c.remove.ensures.items
    ∙ last-letter c.args.sequences.now.items c.args.place c.args.at k c.index_mut.result.now c.index.result.now c.remove-letter.new.self e c.index_mut.ensures.value c.remove-letter.ensures.rest c.index.ensures empty

pub returns-else-is_empty-clause-letter : goal.returns-else-is_empty-clause-letter
returns-else-is_empty-clause-letter c k e =
    ap (λ k. slice_get k.sequence.letters c.args.at) (sym (read-at c.args.sequences.now.items c.args.place k c.index_mut.result.now e c.index_mut.ensures.value)) ∙ c.remove-letter.ensures.letter

pub returns-else-is_empty-clause-rest : goal.returns-else-is_empty-clause-rest
returns-else-is_empty-clause-rest c k e =
    let some : (length c.index.result.now.sequence.letters == 0) ≡ false = ap (λ ls. length ls == 0) (sym c.letters.ensures) ∙ sym c.is_empty.ensures ∙ c.if-is_empty.false in
    letter-left c.args.sequences.now.items c.args.place c.args.at k c.index_mut.result.now c.index.result.now c.remove-letter.new.self e c.index_mut.ensures.value c.remove-letter.ensures.rest c.index.ensures some
