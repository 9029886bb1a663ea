use Rattle.std.proofs.Common.{IsSome, IsNone, true≢false, sym, ap, subst, ◌∙◌, arith, length, map}
use Rattle.std.proofs.lemmas.List.{length-map}
use Rattle.ax_projections.specs.Table.{TableView, entry, look_up, put_entry}
use Rattle.ax_projections.proofs.TableLaws.{lookup-look_up, insert_entry-put_entry, grown}
use Rattle.ax_projections.proofs.table.Table.put.Goals as goal

pub returns-in_err-insert-clause-there : goal.returns-in_err-insert-clause-there
returns-in_err-insert-clause-there c h =
    let none = sym (ap (λ (t : TableView). look_up c.args.aggregate t.entries) c.self.view_is) ∙ sym (lookup-look_up c.args.aggregate c.self.inside.rows.entries) ∙ c.in_err-insert.ensures.absent in
    absurd (true≢false (sym (subst IsSome none h)))

pub invariant_of-self-2 : goal.invariant_of-self-2
invariant_of-self-2 c =
    let same = ap (λ (t : TableView). length t.entries) c.self.view_is in
    let count = length-map c.self.inside.rows.entries entry in
    grown c.in_ok-insert.field-0 (length c.self.inside.rows.entries) (length c.insert.new.self.entries) c.in_ok-insert.ensures.len c.self.invariant
    (λ none. (let low = c.requires (subst IsNone (c.in_ok-insert.ensures.old ∙ lookup-look_up c.args.aggregate c.self.inside.rows.entries ∙ ap (λ (t : TableView). look_up c.args.aggregate t.entries) c.self.view_is) none) in omega (arith, low, same, count)))

pub returns-clause-ok : goal.returns-clause-ok
returns-clause-ok c =
    ap (map entry) c.in_ok-insert.ensures.entries ∙ insert_entry-put_entry c.args.aggregate c.args.value c.self.inside.rows.entries ∙ ap (λ (t : TableView). put_entry c.args.aggregate c.args.value t.entries) c.self.view_is
