use Rattle.std.proofs.Common.{ℕ, ◌<◌, true, get_or}
use Rattle.fs_nodes.specs.Stores.{graph_of}
use Rattle.fs_sched_find.specs.What.{IsClause}
use Rattle.fs_sched_find.specs.declared.what.Clause.{Clause}
use Rattle.fs_sched_find.proofs.having.has_all.Given as goal

abbrev pub invariant-loop-clause : goal.invariant-loop-clause
invariant-loop-clause l = (k : ℕ) (d : Clause) → k < l.clause-index → IsClause l.names l.lives (graph_of l.store) true (get_or l.clauses k d)
