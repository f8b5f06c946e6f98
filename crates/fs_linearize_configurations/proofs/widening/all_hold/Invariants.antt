use Rattle.std.proofs.Common.{◌≡◌, true, take}
use Rattle.std.specs.List.{Contains}
use Rattle.fs_linearize_histories.specs.Configurations.{is_in}
use Rattle.fs_linearize_configurations.specs.declared.reached.Reached.{Reached}
use Rattle.fs_linearize_configurations.proofs.widening.all_hold.Given as goal

abbrev pub invariant-loop-reached : goal.invariant-loop-reached
invariant-loop-reached l = (r : Reached) → Contains (take l.reached-index l.layer) r → is_in l.number r.configuration.held ≡ true
