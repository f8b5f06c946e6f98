use Rattle.std.proofs.Common.{◌≡◌, drop}
use Rattle.fs_linearize_histories.specs.Histories.{recorded}
use Rattle.fs_linearize_configurations.proofs.heard.recorded.Given as goal

abbrev pub invariant-loop-entry : goal.invariant-loop-entry
invariant-loop-entry l = recorded l.number (drop l.entry-index l.history) ≡ recorded l.number l.history
