-- what the parameters that are left make of the arguments so far is what all make
use Rattle.std.proofs.Common.{◌≡◌, IsTrue, [], drop}
use Rattle.ax_values.specs.Words.{rises, field_below}
use Rattle.ax_sagas.specs.Sagas.{args_with}
use Rattle.ax_sagas.proofs.args.args_of.Given as goal

abbrev pub invariant-loop-param : goal.invariant-loop-param
invariant-loop-param l = record {
  same : args_with (drop l.param-index l.params) l.payload l.fields.items ≡ args_with l.params l.payload [];
  rising : IsTrue (rises field_below l.fields.items);
}
