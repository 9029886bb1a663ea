use Rattle.std.proofs.Common.{◌≡◌, ◌<◌, ◌+◌, ◌++◌, ◌∷◌, [], true, false, Ok, Err, length, drop, slice_set, sym, ap, ◌∙◌, subst}
use Rattle.std.specs.List.{list_all}
use Rattle.std.proofs.lemmas.List.{length-set}
use Rattle.ax_rules.specs.Rules.{applied}
use Rattle.ax_basis.specs.declared.item.BasisItem.{BasisItem}
use Rattle.ax_basis.specs.Basis.{row_fits, member_names}
use Rattle.ax_basis.specs.Outcomes.{name_place, row_among, row_in_place, tried, failed, outcomes_of, rows_after}
use Rattle.ax_basis.specs.declared.outcome.Outcome.{Outcome}
use Rattle.ax_basis.proofs.OneItem.{IsGoing, going-here, own-rest, ok-fits, next-applied, next-failed}
use Rattle.ax_basis.proofs.Fitting.{fits-at, fits-set}
use Rattle.ax_basis.proofs.handling.outcomes.Goals as goal
use Rattle.ax_basis.proofs.handling.outcomes.Goals.{in-Ok+in_ok-push-in-Ok, in-Err+in_ok-push-in-Err}

pub tried-requires : goal.tried-requires
tried-requires c =
    let read = c.row_in.ensures ∙ ap (row_in_place c.place_of-place.result) c.deref.ensures.value in
    subst (λ row. row_fits c.args.rules.now row ≡ true) (sym read)
    (fits-at c.args.rules.now c.loop-item.rows.items c.place_of-place.result c.loop-item.invariant.fit (subst (λ n. c.place_of-place.result < n) (sym c.loop-item.invariant.long) c.place_of-place.ensures.within))

pub loop-item-preserved : goal.loop-item-preserved
loop-item-preserved c =
    let rs = c.args.rules.now in
    let ms = c.args.members.now in
    let names = member_names ms in
    let xs = c.args.items.now in
    let i = c.loop-item.item-index in
    let x = c.item-item.result in
    let all = outcomes_of rs c.args.keep names c.args.parked xs c.args.rows.now.items in
    let last = rows_after rs names xs all c.args.rows.now.items in
    let made = c.loop-item.outcomes.items in
    let rows = c.loop-item.rows.items in
    let place : c.place_of-place.result ≡ name_place x.item.name.aggregate names = c.place_of-place.ensures.value ∙ ap (λ (x : BasisItem). name_place x.item.name.aggregate names) c.item.view_is in
    let row-read : c.row_in.result.now ≡ row_among names x.item.name.aggregate rows =
    c.row_in.ensures ∙ ap (row_in_place c.place_of-place.result) c.deref.ensures.value ∙ ap (λ p. row_in_place p rows) place in
    let going = going-here rs c.args.keep names all last made c.loop-item.behind xs i x rows c.if-behind.false c.loop-item-test.true c.item-item.is c.loop-item.invariant.going in
    let own = own-rest ms xs i x c.loop-item-test.true c.item-item.is c.loop-item.invariant.own in
    elim c.match-branch-4.branch [
      | in-Ok+in_ok-push-in-Ok w ↦
          let tried-is : Ok w.in-Ok.row ≡ tried x.marked (applied rs (row_among names x.item.name.aggregate rows) x.item) =
          sym w.in-Ok.is ∙ c.in_ok-row.ensures.value ∙ ap (λ row. tried x.marked (applied rs row x.item)) row-read in
          let rows-are : c.match-branch-4.rows.items ≡ slice_set rows c.place_of-place.result w.in-Ok.row = ap (λ v. v.items) w.rows-is in
          let rows-placed : c.match-branch-4.rows.items ≡ slice_set rows (name_place x.item.name.aggregate names) w.in-Ok.row = rows-are ∙ ap (λ p. slice_set rows p w.in-Ok.row) place in
          let made-are = ap (λ v. v.items) w.outcomes-is ∙ w.in_ok-push-in-Ok.ensures.items in
          let front : c.match-branch-4.behind ≡ false = w.behind-is ∙ c.if-behind.false in
          record {
            going =
                subst (λ rows. IsGoing rs c.args.keep names all last c.match-branch-4.outcomes.items c.match-branch-4.behind (drop (i + 1) xs) rows) (sym rows-placed)
                (subst (λ made. IsGoing rs c.args.keep names all last made c.match-branch-4.behind (drop (i + 1) xs) (slice_set rows (name_place x.item.name.aggregate names) w.in-Ok.row)) (sym made-are)
                (subst (λ b. IsGoing rs c.args.keep names all last (made ++ Outcome.Applied ∷ []) b (drop (i + 1) xs) (slice_set rows (name_place x.item.name.aggregate names) w.in-Ok.row)) (sym front)
                (next-applied rs c.args.keep names all last made x (drop (i + 1) xs) rows w.in-Ok.row tried-is going)));
            long = ap length rows-are ∙ length-set rows c.place_of-place.result w.in-Ok.row ∙ c.loop-item.invariant.long;
            own = own;
            fit =
                subst (λ rows. list_all (row_fits rs) rows ≡ true) (sym rows-are)
                (fits-set rs rows c.place_of-place.result w.in-Ok.row c.loop-item.invariant.fit (ok-fits rs c.in_ok-row.field-0 w.in-Ok.row c.in_ok-row.ensures.fits w.in-Ok.is));
          }
      | in-Err+in_ok-push-in-Err w ↦
          let tried-is : Err w.in-Err.why ≡ tried x.marked (applied rs (row_among names x.item.name.aggregate rows) x.item) =
          sym w.in-Err.is ∙ c.in_ok-row.ensures.value ∙ ap (λ row. tried x.marked (applied rs row x.item)) row-read in
          let rows-are : c.match-branch-4.rows.items ≡ rows = ap (λ v. v.items) w.rows-is in
          let made-are = ap (λ v. v.items) w.outcomes-is ∙ w.in_ok-push-in-Err.ensures.items ∙ ap (λ o. made ++ o ∷ []) w.failed.ensures in
          record {
            going =
                subst (λ rows. IsGoing rs c.args.keep names all last c.match-branch-4.outcomes.items c.match-branch-4.behind (drop (i + 1) xs) rows) (sym rows-are)
                (subst (λ made. IsGoing rs c.args.keep names all last made c.match-branch-4.behind (drop (i + 1) xs) rows) (sym made-are)
                (subst (λ b. IsGoing rs c.args.keep names all last (made ++ failed c.args.keep w.in-Err.why ∷ []) b (drop (i + 1) xs) rows) (sym w.behind-is)
                (next-failed rs c.args.keep names all last made x (drop (i + 1) xs) rows w.in-Err.why tried-is going)));
            long = ap length rows-are ∙ c.loop-item.invariant.long;
            own = own;
            fit = subst (λ rows. list_all (row_fits rs) rows ≡ true) (sym rows-are) c.loop-item.invariant.fit;
          }
    ]
