use Rattle.std.proofs.Common.{◌≡◌, map, take}
use Rattle.fs_sched_shrink.specs.Kept.{picked}
use Rattle.fs_sched_shrink.proofs.thinning.pick.Given as goal

abbrev pub invariant-loop-at : goal.invariant-loop-at
invariant-loop-at l = map (λ w. w.now) l.left.items ≡ picked (take l.at (map (λ w. w.now) l.words)) l.kept
