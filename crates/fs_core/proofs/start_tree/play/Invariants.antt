use Rattle.std.proofs.Common.{◌≡◌, take}
use Rattle.fs_calls.specs.Outcomes.{next_start}
use Rattle.fs_timeline.specs.Timeline.{commits}
use Rattle.fs_core.proofs.start_tree.play.Given as goal

-- the commits so far, and nothing was refused
abbrev pub invariant-loop-i : goal.invariant-loop-i
invariant-loop-i l = record {
  so_far : l.tree ≡ next_start l.fn.tree (take l.i (commits l.timeline.entries));
  granted : l.memory ≡ l.fn.memory;
}
