use Rattle.std.proofs.Common.{◌≡◌, ◌<◌, true, false, length, drop}
use Rattle.fs_linearize_minimal.specs.Parts.{IsPartOf}
use Rattle.fs_linearize_minimal.specs.Minimal.{AreNeeded, IsRefuted}
use Rattle.fs_linearize_minimal.proofs.cutting.cut_each.Given as goal

abbrev pub invariant-loop-call : goal.invariant-loop-call
invariant-loop-call g l = record {
  part : IsPartOf l.entries.items l.fn.entries.items;
  refuted : IsRefuted l.start l.limit l.reason l.fn.entries.items → IsRefuted l.start l.limit l.reason l.entries.items;
  shorter : l.went ≡ true → length l.entries.items < length l.fn.entries.items;
  same : l.went ≡ false → l.entries.items ≡ l.fn.entries.items;
  needed : l.went ≡ false → AreNeeded l.start l.limit l.reason l.fn.entries.items (drop l.call-index l.call-items) → AreNeeded l.start l.limit l.reason l.fn.entries.items l.call-items;
}
