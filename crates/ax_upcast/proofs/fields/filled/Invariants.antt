use Rattle.std.proofs.Common.{◌≡◌, IsTrue, drop, fold}
use Rattle.ax_values.specs.Words.{rises, field_below}
use Rattle.ax_upcast.specs.Upcast.{put_given, filled}
use Rattle.ax_upcast.proofs.fields.filled.Given as goal

-- what the parts that are left put into the fields so far is what all put
abbrev pub invariant-loop-part : goal.invariant-loop-part
invariant-loop-part l = record {
  same : fold (put_given l.source) l.fields.items (drop l.part-index l.given) ≡ filled l.given l.source;
  rising : IsTrue (rises field_below l.fields.items);
}
