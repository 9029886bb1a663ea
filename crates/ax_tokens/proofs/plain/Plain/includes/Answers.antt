use Rattle.std.proofs.Common.{◌∙◌, ◌≤◌, ◌<◌, ap, arith, not, false, ◌≡◌}
use Rattle.std.specs.List.{list_all}
use Rattle.std.specs.Prelude.{nat_le}
use Rattle.std.proofs.lemmas.Bool.Decides.{nat_tests}
use Rattle.ax_tokens.specs.Plain.{has}
use Rattle.ax_tokens.proofs.Gaps.{includes-long, includes-short, includes-sets}
use Rattle.ax_tokens.proofs.plain.Plain.includes.Goals as goal

pub returns-then-next : goal.returns-then-next
returns-then-next c =
    let le : c.args.other.now.next ≤ c.args.self.now.next = omega (arith, c.next.ensures.value, c.next-2.ensures.value) in
    let value = includes-long c.args.self.now c.args.other.now c.lack_all.result c.next.ensures.canonical le (c.lack_all.ensures ∙ ap (list_all (λ g. not (has c.args.other.now g))) c.gaps.ensures.value) in
    record { value = value; sets = includes-sets c.args.self.now c.args.other.now c.lack_all.result value }

pub returns-else-next : goal.returns-else-next
returns-else-next c =
    let lt : c.args.self.now.next < c.args.other.now.next = omega (arith, c.next.ensures.value, c.next-2.ensures.value) in
    let no : nat_le c.next.result c.next-2.result ≡ false = grind (arith, nat_tests) in
    let value = includes-short c.args.self.now c.args.other.now (nat_le c.next.result c.next-2.result) c.next.ensures.canonical lt no in
    record { value = value; sets = includes-sets c.args.self.now c.args.other.now (nat_le c.next.result c.next-2.result) value }
