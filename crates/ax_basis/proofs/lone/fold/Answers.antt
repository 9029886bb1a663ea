use Rattle.std.proofs.Common.{◌≡◌, ◌+◌, ◌++◌, ◌∷◌, [], true, false, Ok, Err, drop, sym, ap, ◌∙◌, subst}
use Rattle.ax_rules.specs.Expr.{Row}
use Rattle.ax_rules.specs.Rules.{applied}
use Rattle.ax_basis.specs.Basis.{row_fits}
use Rattle.ax_basis.specs.Outcomes.{tried, failed, outcomes_of, rows_after}
use Rattle.ax_basis.specs.declared.outcome.Outcome.{Outcome}
use Rattle.ax_basis.proofs.OneItem.{IsGoing, going-here, own-rest, ok-fits}
use Rattle.ax_basis.proofs.LoneItem.{lone-applied, lone-failed, own-first}
use Rattle.ax_basis.proofs.lone.fold.Goals as goal
use Rattle.ax_basis.proofs.lone.fold.Goals.{in-Ok+in_ok-push-in-Ok, in-Err+in_ok-push-in-Err}

pub loop-item-preserved : goal.loop-item-preserved
loop-item-preserved c =
    let rs = c.args.rules.now in
    let m = c.args.member.now in
    let names = m.aggregate ∷ [] in
    let xs = c.args.items.now in
    let i = c.loop-item.item-index in
    let x = c.item-item.result in
    let all = outcomes_of rs c.args.keep names c.args.parked xs (c.args.row.now ∷ []) in
    let last = rows_after rs names xs all (c.args.row.now ∷ []) in
    let made = c.loop-item.outcomes.items in
    let row = c.loop-item.row in
    let going = going-here rs c.args.keep names all last made c.loop-item.behind xs i x (row ∷ []) c.if-behind.false c.loop-item-test.true c.item-item.is c.loop-item.invariant.going in
    let first = own-first (m ∷ []) xs i x c.loop-item-test.true c.item-item.is c.loop-item.invariant.own in
    let own = own-rest (m ∷ []) xs i x c.loop-item-test.true c.item-item.is c.loop-item.invariant.own in
    elim c.match-branch-4.branch [
      | in-Ok+in_ok-push-in-Ok w ↦
          let tried-is : Ok w.in-Ok.next ≡ tried x.marked (applied rs row x.item) = sym w.in-Ok.is ∙ c.in_ok-next.ensures.value in
          let made-are = ap (λ v. v.items) w.outcomes-is ∙ w.in_ok-push-in-Ok.ensures.items in
          let front : c.match-branch-4.behind ≡ false = w.behind-is ∙ c.if-behind.false in
          record {
            going =
                subst (λ (r : Row). IsGoing rs c.args.keep names all last c.match-branch-4.outcomes.items c.match-branch-4.behind (drop (i + 1) xs) (r ∷ [])) (sym w.row-is)
                (subst (λ made. IsGoing rs c.args.keep names all last made c.match-branch-4.behind (drop (i + 1) xs) (w.in-Ok.next ∷ [])) (sym made-are)
                (subst (λ b. IsGoing rs c.args.keep names all last (made ++ Outcome.Applied ∷ []) b (drop (i + 1) xs) (w.in-Ok.next ∷ [])) (sym front)
                (lone-applied rs c.args.keep all last made m x (drop (i + 1) xs) row w.in-Ok.next first tried-is going)));
            own = own;
            fit = subst (λ (r : Row). row_fits rs r ≡ true) (sym w.row-is) (ok-fits rs c.in_ok-next.field-0 w.in-Ok.next c.in_ok-next.ensures.fits w.in-Ok.is);
          }
      | in-Err+in_ok-push-in-Err w ↦
          let tried-is : Err w.in-Err.why ≡ tried x.marked (applied rs row x.item) = sym w.in-Err.is ∙ c.in_ok-next.ensures.value in
          let made-are = ap (λ v. v.items) w.outcomes-is ∙ w.in_ok-push-in-Err.ensures.items ∙ ap (λ o. made ++ o ∷ []) w.failed.ensures in
          record {
            going =
                subst (λ (r : Row). IsGoing rs c.args.keep names all last c.match-branch-4.outcomes.items c.match-branch-4.behind (drop (i + 1) xs) (r ∷ [])) (sym w.row-is)
                (subst (λ made. IsGoing rs c.args.keep names all last made c.match-branch-4.behind (drop (i + 1) xs) (row ∷ [])) (sym made-are)
                (subst (λ b. IsGoing rs c.args.keep names all last (made ++ failed c.args.keep w.in-Err.why ∷ []) b (drop (i + 1) xs) (row ∷ [])) (sym w.behind-is)
                (lone-failed rs c.args.keep all last made m x (drop (i + 1) xs) row w.in-Err.why first tried-is going)));
            own = own;
            fit = subst (λ (r : Row). row_fits rs r ≡ true) (sym w.row-is) c.loop-item.invariant.fit;
          }
    ]
