-- Where no call is under way, a timeline can begin again.
use Rattle.std.proofs.Common.{◌≡◌, ℕ, ◌<◌, List, Option, Some, None, sym, ◌∙◌, ◌⊎◌, inl, inr, arith}
use Rattle.fs_names.specs.Shapes.{Dir}
use Rattle.fs_calls.specs.Outcomes.{next_start}
use Rattle.fs_calls.proofs.TreeLaws.{played_trees_are_trees}
use Rattle.fs_calls.specs.Graphs as graphs
use Rattle.fs_timeline.specs.Timeline.{commits}
use Rattle.fs_machine.specs.Records.{Record}
use Rattle.fs_machine.specs.Headline.{IsIdle}
use Rattle.fs_machine.specs.States.{State, Run, Starting, IsStart}
use Rattle.fs_laws.proofs.states.Headline.{run_keeps}
use Rattle.fs_laws.proofs.states.Agreement.{run_accounts}
use Rattle.fs_laws.proofs.states.GraphOfARun.{run_bounded}
use Rattle.fs_laws.proofs.journal.ViewOfTimeline.{linearizes, run_starts}
use Rattle.fs_laws.specs.Numbers.{IsReached, IsSpared}
use Rattle.fs_laws.specs.NumberLaws.{TimelinesBeginAgain}
use Rattle.fs_laws.proofs.Leaks.{numbers_kept}

reached : (s : State) → IsIdle s → (n : ℕ) → IsReached s.graph n ⊎ IsSpared s n → graphs.IsReached s.graph.child 0 n
reached s idle n (inl (key, e)) = (key, e)
reached s idle n (inr (c, op, is, h)) = let z : ◌≡◌ {A = Option Record} None (Some op) = sym (idle c) ∙ is in cc

pub begins_again : (s : State) → Run s → IsIdle s → IsStart s.limit (next_start s.start (commits s.timeline)) s.graph
begins_again s run idle = record {
  least = let root : (names : List (List ℕ)) × (s.graph.shape 0 ≡ Some (Dir names)) = (run_keeps s run).is_graph.root in let z : 0 < s.limit = (run_accounts s run).below 0 (Dir root.0) root.1 in omega (arith, z);
  tree = (played_trees_are_trees.1 s.start (commits s.timeline) (run_starts s run)).0;
  spelled = (linearizes s run).spelled idle;
  is_graph = (run_keeps s run).is_graph;
  bounded = run_bounded s run;
  rising = λ n names e. ((run_accounts s run).within n (Dir names) e).0;
  below = (run_accounts s run).below;
  reached = λ n shape e. reached s idle n ((numbers_kept s run).no_leak n (shape, e));
}

pub timelines_begin_again : TimelinesBeginAgain
timelines_begin_again s run idle = Starting s.limit (next_start s.start (commits s.timeline)) s.graph (begins_again s run idle)
