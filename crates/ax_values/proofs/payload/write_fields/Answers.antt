use Rattle.std.proofs.lemmas.Result.{on_err_weaker}
use Rattle.ax_values.specs.Words.{field_text}
use Rattle.ax_values.proofs.Lists.{front-inner}
use Rattle.ax_values.proofs.payload.write_fields.Goals as goal

pub returns-in_ok-write-in-len1-up-clause-front : goal.returns-in_ok-write-in-len1-up-clause-front
returns-in_ok-write-in-len1-up-clause-front c =
    on_err_weaker c.write_spaced.result (front-inner c.args.out.now.items (field_text c.first-item.result) c.write_spaced.new.out.items)
    (rw c.in_ok-write-in-len1-up.ensures.ok at c.write_spaced.ensures.front)
