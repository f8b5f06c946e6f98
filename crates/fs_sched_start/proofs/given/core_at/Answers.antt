use Rattle.std.proofs.Common.{ℕ, ◌≤◌, Ok, length, sym, ap, ◌∙◌, subst}
use Rattle.fs_names.specs.Limits.{node_limit}
use Rattle.fs_names.specs.declared.limits.Limits.{Limits}
use Rattle.fs_calls.specs.Starts.{Start}
use Rattle.fs_nodes.specs.Stores.{graph_of}
use Rattle.fs_seq.specs.Rows.{IsWithinLimits}
use Rattle.fs_machine.specs.States.{fresh}
use Rattle.fs_sched.proofs.Origins.{core_begins}
use Rattle.fs_sched_start.proofs.given.core_at.Goals as goal

pub returns-in-Ok-from_tree-clause-core : goal.returns-in-Ok-from_tree-clause-core
returns-in-Ok-from_tree-clause-core c =
    let core = c.in-Ok-from_tree.core in
    let graph = graph_of core.store in
    let start = c.in-Ok.start in
    let same = sym c.in-Ok-from_tree.ensures.start in
    let most = c.nodes.ensures ∙ ap (λ (limits : Limits). node_limit limits) (sym c.in-Ok.ensures.kept) in
    let is = c.in-Ok-from_tree.ensures.state ∙ ap (λ (limit : ℕ). fresh limit start graph) most ∙ ap (λ (start : Start). fresh (node_limit start.limits) start graph) same in
    record {
      start = c.in-Ok.ensures.tree ∙ ap Ok same;
      fresh = is;
      seats = c.in-Ok-from_tree.ensures.seats;
      begins = core_begins (node_limit core.start.limits) core is c.told.ensures.run;
      fits = record {
        kept = ap (λ (start : Start). start.limits) (sym same) ∙ c.in-Ok.ensures.kept;
        within = subst (λ (start : Start). IsWithinLimits start.limits start.tree) same c.in-Ok.ensures.within;
        nodes = subst (λ (start : Start). length start.tree ≤ node_limit start.limits) same (subst (λ (limit : ℕ). length start.tree ≤ limit) most c.in-Ok-from_tree.ensures.few);
      };
    }
