use Rattle.std.proofs.Common.{◌≡◌, true, false, arith}
use Rattle.std.proofs.lemmas.Grind.{common_steps}
use Rattle.ax_upcast.specs.Upcast.{keeps_limit}
use Rattle.ax_upcast.proofs.Exact.{exact}
use Rattle.ax_upcast.proofs.few.keeps_limit.Goals as goal

pub returns-then-not-branch : goal.returns-then-not-branch
returns-then-not-branch c =
    let value : false ≡ keeps_limit c.args.rules.now = grind (arith, common_steps) in
    record { value = value; exact = exact c.args.rules.now false value }

pub returns : goal.returns
returns c =
    let value : true ≡ keeps_limit c.args.rules.now = grind (arith, common_steps) in
    record { value = value; exact = exact c.args.rules.now true value }
