use Rattle.std.proofs.Common.{◌≡◌, take}
use Rattle.fs_script.specs.Limits.{calls_in}
use Rattle.fs_sched_shrink.proofs.moving.calls_before.Given as goal

abbrev pub invariant-loop-at : goal.invariant-loop-at
invariant-loop-at l = l.count ≡ calls_in (take l.at l.lists)
