use Rattle.std.proofs.Common.{◌≡◌, ◌++◌, [], ◌+◌, ◌-◌, ◌∙◌, ap, map, take, drop, false, arith}
use Rattle.std.proofs.lemmas.Grind.{common_steps}
use Rattle.std.proofs.lemmas.List.{map-append}
use Rattle.ax_values.specs.Grammar.{words_from, line_words}
use Rattle.ax_values.specs.Words.{words}
use Rattle.ax_values.proofs.Lines.{words-line_words}
use Rattle.ax_values.proofs.Gluing.{glued, glued_nothing, part_next, grow_next}
use Rattle.ax_values.proofs.cut.line_words.Goals.{then-line-i-eq32+then-not-inside+in_ok-push, else-line-i-eq32+then-line-i-eq34, else-line-i-eq32+else-line-i-eq34}
use Rattle.ax_values.proofs.cut.line_words.Goals as goal

pub loop-i-init : goal.loop-i-init
loop-i-init c = record {
  same = ap (λ xs. map (λ w. w.now) xs ++ glued [] (words_from false c.args.line.now)) c.in_ok-parts.ensures.items ∙ glued_nothing false c.args.line.now;
  bound = omega arith;
}

pub loop-i-preserved : goal.loop-i-preserved
loop-i-preserved c = elim c.if-line-i-eq32.branch [
  | then-line-i-eq32+then-not-inside+in_ok-push w ↦ record {
    same = rw (w.parts-is, w.start-is, w.inside-is) (ap (λ xs. map (λ x. x.now) xs ++ glued (take (c.loop-i.i + 1 - (c.loop-i.i + 1)) (drop (c.loop-i.i + 1) c.args.line.now)) (words_from c.loop-i.inside (drop (c.loop-i.i + 1) c.args.line.now))) w.in_ok-push.ensures.items ∙ rw (map-append) (part_next (map (λ x. x.now) c.loop-i.parts.items) c.args.line.now c.loop-i.start c.loop-i.i c.loop-i.inside (grind (arith, common_steps)) (grind (arith, common_steps)) (grind (arith, common_steps)) ∙ c.loop-i.invariant.same));
    bound = grind (arith, common_steps);
  }
  | else-line-i-eq32+then-line-i-eq34 w ↦ record {
    same = rw (w.parts-is, w.start-is, w.inside-is) (grow_next (map (λ x. x.now) c.loop-i.parts.items) c.args.line.now c.loop-i.start c.loop-i.i c.loop-i.inside _ c.loop-i.invariant.bound (grind (arith, common_steps)) (grind (arith, common_steps)) (grind (arith, common_steps)) ∙ c.loop-i.invariant.same);
    bound = grind (arith, common_steps);
  }
  | else-line-i-eq32+else-line-i-eq34 w ↦ record {
    same = rw (w.parts-is, w.start-is, w.inside-is) (grow_next (map (λ x. x.now) c.loop-i.parts.items) c.args.line.now c.loop-i.start c.loop-i.i c.loop-i.inside _ c.loop-i.invariant.bound (grind (arith, common_steps)) (grind (arith, common_steps)) (grind (arith, common_steps)) ∙ c.loop-i.invariant.same);
    bound = grind (arith, common_steps);
  }
]

pub returns-clause-whole : goal.returns-clause-whole
returns-clause-whole c =
    let value : map (λ part. part.now) c.push-2.new.self.items ≡ line_words c.args.line.now = grind (arith, common_steps) in
    ap words value ∙ words-line_words c.args.line.now
