use Rattle.std.proofs.Common.{ℕ, ◌<◌, List, false, get_or}
use Rattle.fs_nodes.specs.Stores.{graph_of}
use Rattle.fs_sched_find.specs.What.{HasAll}
use Rattle.fs_sched_find.specs.declared.what.Clause.{Clause}
use Rattle.fs_sched_find.proofs.having.has.Given as goal

abbrev pub invariant-loop-clauses : goal.invariant-loop-clauses
invariant-loop-clauses l = (k : ℕ) (d : List Clause) → k < l.clauses-index → HasAll l.names l.lives (graph_of l.store) false (get_or l.what k d)
