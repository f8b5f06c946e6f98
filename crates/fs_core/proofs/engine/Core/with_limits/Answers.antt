use Rattle.std.proofs.Common.{ℕ, refl, sym, ap, subst}
use Rattle.fs_calls.specs.Starts.{Start}
use Rattle.fs_calls.specs.Tree.{root_tree}
use Rattle.fs_nodes.specs.Seen.{Seen}
use Rattle.fs_nodes.specs.Stores.{graph_of}
use Rattle.fs_machine.specs.States.{IsStart}
use Rattle.fs_core.proofs.Started.{root_starts}
use Rattle.fs_core.proofs.engine.Core.with_limits.Goals as goal

pub at-requires-clause-start : goal.at-requires-clause-start
at-requires-clause-start c =
    let graph = graph_of c.in_ok-store.store in
    let root : IsStart c.args.limit c.in_ok-start.start graph = subst (λ (s : Start). IsStart c.args.limit s graph) (sym c.in_ok-start.ensures) (root_starts c.args.limit c.args.limits root_tree graph c.requires.least refl (ap (λ (s : Seen). s.graph) c.in_ok-store.ensures)) in
    subst (λ (l : ℕ). IsStart l c.in_ok-start.start graph) (sym (ap (λ (s : Seen). s.limit) c.in_ok-store.ensures)) root
