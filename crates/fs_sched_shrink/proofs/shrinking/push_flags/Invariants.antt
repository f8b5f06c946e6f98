use Rattle.std.proofs.Common.{◌≡◌, ◌++◌, replicate, true}
use Rattle.fs_sched_shrink.proofs.shrinking.push_flags.Given as goal

abbrev pub invariant-loop-done : goal.invariant-loop-done
invariant-loop-done l = l.kept.items ≡ l.fn.kept.items ++ replicate l._done true
