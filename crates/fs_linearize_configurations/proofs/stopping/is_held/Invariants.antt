use Rattle.std.proofs.Common.{◌≡◌, drop}
use Rattle.fs_linearize_configurations.specs.code.Stopping.{is_held}
use Rattle.fs_linearize_configurations.proofs.stopping.is_held.Given as goal

abbrev pub invariant-loop-reached : goal.invariant-loop-reached
invariant-loop-reached l = is_held l.number (drop l.reached-index l.layer) ≡ is_held l.number l.layer
