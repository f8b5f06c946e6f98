use Rattle.std.proofs.Common.{◌≡◌, ◌++◌, drop}
use Rattle.fs_linearize_minimal.specs.Parts.{calls_in}
use Rattle.fs_linearize_minimal.proofs.parts.calls_in.Given as goal

abbrev pub invariant-loop-entry : goal.invariant-loop-entry
invariant-loop-entry l = l.calls.items ++ calls_in (drop l.entry-index l.entries) ≡ calls_in l.entries
