use Rattle.std.proofs.Common.{ℕ, sym, ap, ◌∙◌, subst}
use Rattle.fs_names.specs.Limits.{node_limit}
use Rattle.fs_calls.specs.Starts.{Start}
use Rattle.fs_nodes.specs.Stores.{graph_of}
use Rattle.fs_machine.specs.States.{fresh}
use Rattle.fs_core.specs.CoreValues.{state_of}
use Rattle.fs_sched.specs.Origins.{IsBefore}
use Rattle.fs_sched.specs.Runs.{before_all}
use Rattle.fs_sched.proofs.Origins.{before_core}
use Rattle.fs_sched.proofs.origin.tree_core.Goals as goal

pub returns-in-Ok-from_tree-clause-before : goal.returns-in-Ok-from_tree-clause-before
returns-in-Ok-from_tree-clause-before c threads =
    let core = c.in-Ok-from_tree.core in
    let graph = graph_of core.store in
    let tree = c.args.tree.now in
    let same = c.in-Ok-from_tree.ensures.start ∙ c.in-Ok.ensures in
    let most = c.nodes.ensures ∙ ap node_limit c.limits.ensures in
    let is = c.in-Ok-from_tree.ensures.state ∙ ap (λ (limit : ℕ). fresh limit c.in-Ok.start graph) most ∙ ap (λ (start : Start). fresh (node_limit tree.limits) start graph) c.in-Ok.ensures in
    let fresh_is = is ∙ ap (λ (start : Start). fresh (node_limit start.limits) start graph) (sym same) in
    subst (λ (start : Start). IsBefore start threads (before_all (state_of core) threads)) same (before_core core threads fresh_is c.told.ensures.run)
