use Rattle.std.proofs.Common.{◌≡◌, true, ap, sym, ◌∙◌, refl, subst}
use Rattle.ax_values.specs.Words.{rises}
use Rattle.ax_step_work.specs.Sharing.{member_read, share_below, HasShare, LacksShare}
use Rattle.ax_step_work.proofs.Singles.{singles-rise}
use Rattle.ax_step_work.proofs.Gathered.{on-ok-then, share-read, member-here, found-step, lacks-step}
use Rattle.ax_basis.specs.declared.item.BasisItem.{BasisItem}
use Rattle.ax_step_work.proofs.sharing.add_item.Goals as goal

pub place_of-requires : goal.place_of-requires
place_of-requires c =
    subst (λ ss. rises share_below ss ≡ true) (sym (c.deref.ensures.value ∙ c.requires.1)) (singles-rise (member_read c.args.rules.now c.args.kept.now.entries) c.requires.0)

pub push_to-requires : goal.push_to-requires
push_to-requires c =
    let here : HasShare c.args.item.item.name.aggregate c.args.shares.now.items c.in-Ok.place = subst (λ a. HasShare a c.args.shares.now.items c.in-Ok.place) (ap (λ (x : BasisItem). x.item.name.aggregate) c.item.view_is) (rw c.deref.ensures.value at c.in-Ok.ensures) in
    member-here (member_read c.args.rules.now c.args.kept.now.entries) (λ a. refl) c.args.item c.in-Ok.place c.requires.0 c.args.shares.now.items c.requires.1 here c.index_mut.result.now
    (share-read c.args.item.item.name.aggregate c.args.shares.now.items c.in-Ok.place here c.index_mut.result.now c.index_mut.ensures.value)

pub returns-in-Ok : goal.returns-in-Ok
returns-in-Ok c =
    let here : HasShare c.args.item.item.name.aggregate c.args.shares.now.items c.in-Ok.place = subst (λ a. HasShare a c.args.shares.now.items c.in-Ok.place) (ap (λ (x : BasisItem). x.item.name.aggregate) c.item.view_is) (rw c.deref.ensures.value at c.in-Ok.ensures) in
    on-ok-then c.push_to.result c.push_to.ensures
    (λ pushed done e. found-step (member_read c.args.rules.now c.args.kept.now.entries) (λ a. refl) c.args.item c.in-Ok.place c.args.shares.now.items here c.index_mut.result.now c.push_to.new.share
    (share-read c.args.item.item.name.aggregate c.args.shares.now.items c.in-Ok.place here c.index_mut.result.now c.index_mut.ensures.value) pushed done e)

pub returns-in_ok-insert-in-Err : goal.returns-in_ok-insert-in-Err
returns-in_ok-insert-in-Err c = λ done e.
    let none : LacksShare c.args.item.item.name.aggregate c.args.shares.now.items c.in-Err.place = subst (λ a. LacksShare a c.args.shares.now.items c.in-Err.place) (ap (λ (x : BasisItem). x.item.name.aggregate) c.item.view_is) (rw c.deref.ensures.value at c.in-Err.ensures) in
    c.in_ok-insert-in-Err.ensures.items
    ∙ lacks-step (member_read c.args.rules.now c.args.kept.now.entries) (λ a. refl) c.args.item c.in-Err.place c.args.shares.now.items none c.in_ok-share-in-Err.share c.in_ok-share-in-Err.ensures done e
