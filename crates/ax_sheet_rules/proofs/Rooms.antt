-- An expression where there is room.
use Rattle.std.proofs.Common.{◌≡◌, ◌-◌, ◌<◌, ℕ, zero, suc, Bool, List, sym, ap, arith}
use Rattle.serde_json.specs.Data.{Data}
use Rattle.serde_json.specs.Find.{as_str, as_array}
use Rattle.ax_values.specs.Grammar.{Name}
use Rattle.ax_rules.specs.declared.rules.Initial.{Initial}
use Rattle.ax_sheet_rules.specs.Members.{int_of}
use Rattle.ax_sheet_rules.specs.Shape.{leaf_of, operation_of, expr_by, expr_of}

pub with_room : (fs : List Initial) (takes : Name → Bool) (room : ℕ) (d : Data) → 0 < room →
    expr_of fs takes room d ≡ expr_by (leaf_of fs takes) (operation_of (λ e. expr_of fs takes (room - 1) e)) (as_str d) (as_array d) (int_of d)
unfolding expr_of
with_room fs takes zero d h = absurd (omega (arith, h))
with_room fs takes (suc room) d h = let e : suc room - 1 ≡ room = omega arith in ap (λ n. expr_by (leaf_of fs takes) (operation_of (λ e. expr_of fs takes n e)) (as_str d) (as_array d) (int_of d)) (sym e)
