use Rattle.std.proofs.Common.{◌≡◌, ◌+◌, ◌≤◌, drop, map}
use Rattle.serde_json.specs.View.{view}
use Rattle.ax_sheet_rules.specs.Members.{count_of}
use Rattle.ax_sheet_rules.proofs.readers.count_of.Given as goal

-- those so far, and those of the keys that are left
abbrev pub invariant-loop-key : goal.invariant-loop-key
invariant-loop-key l = record {
  same : l.found + count_of (map (λ key. key.now) (drop l.key-index l.keys)) (view l.value) ≡ count_of (map (λ key. key.now) l.keys) (view l.value);
  bound : l.found ≤ l.key-index;
}
