use Rattle.std.proofs.Common.{length}
use Rattle.fs_linearize_minimal.specs.Parts.{IsPartOf}
use Rattle.fs_linearize_minimal.specs.Minimal.{IsRefuted}
use Rattle.fs_linearize_minimal.proofs.cutting.cut_ones.Given as goal

abbrev pub invariant-passes : goal.invariant-passes
invariant-passes g l = record { part : IsPartOf l.entries.items l.fn.entries.items; refuted : IsRefuted l.start l.limit l.reason l.fn.entries.items → IsRefuted l.start l.limit l.reason l.entries.items }

abbrev pub decreases-passes : goal.decreases-passes
decreases-passes g l = length l.entries.items
