use Rattle.std.proofs.Common.{◌≡◌, ◌++◌, drop}
use Rattle.fs_linearize_minimal.specs.Parts.{without}
use Rattle.fs_linearize_minimal.proofs.parts.without.Given as goal

abbrev pub invariant-loop-entry : goal.invariant-loop-entry
invariant-loop-entry l = l.left.items ++ without l.calls (drop l.entry-index l.entries) ≡ without l.calls l.entries
