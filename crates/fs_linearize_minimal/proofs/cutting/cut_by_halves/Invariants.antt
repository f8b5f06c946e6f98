use Rattle.fs_linearize_minimal.specs.Parts.{IsPartOf}
use Rattle.fs_linearize_minimal.specs.Minimal.{IsRefuted}
use Rattle.fs_linearize_minimal.proofs.cutting.cut_by_halves.Given as goal

abbrev pub invariant-halves : goal.invariant-halves
invariant-halves g l = record { part : IsPartOf l.entries.items l.fn.entries.items; refuted : IsRefuted l.start l.limit l.reason l.fn.entries.items → IsRefuted l.start l.limit l.reason l.entries.items }

abbrev pub decreases-halves : goal.decreases-halves
decreases-halves g l = l.size
