use Rattle.std.proofs.Common.{◌≡◌, take}
use Rattle.fs_calls.specs.Outcomes.{next_start}
use Rattle.fs_calls.specs.Tree.{IsTree, look}
use Rattle.fs_trace_replay.specs.Changes.{IsLastChange}
use Rattle.fs_trace_replay.specs.code.Seen.{calls_in}
use Rattle.fs_trace_replay.specs.code.Sights.{node_in}
use Rattle.fs_trace_replay.proofs.changes.last_change.Given as goal

abbrev pub invariant-loop-index : goal.invariant-loop-index
invariant-loop-index l = record {
  tree : l.tree ≡ next_start l.fn.start (calls_in (take l.index l.calls));
  is_tree : IsTree l.tree.tree;
  sight : node_in l.sight ≡ look l.tree.tree l.path;
  last : IsLastChange l.fn.start (calls_in l.calls) l.path l.index l.last;
}
