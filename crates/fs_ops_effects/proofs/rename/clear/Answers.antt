use Rattle.std.proofs.Common.{ap, subst, ◌∙◌}
use Rattle.fs_nodes.specs.Graphs.{Graph, moved_in, IsReached}
use Rattle.fs_calls.proofs.CycleLemmas.{reached_less}
use Rattle.fs_nodes.specs.Seen.{Seen, seen}
use Rattle.fs_nodes.specs.Stores.{graph_of, child}
use Rattle.fs_ops_effects.proofs.MoveLemmas.{entry_gone, entry_stays, moves_again}
use Rattle.fs_ops_effects.proofs.rename.clear.Goals as goal

pub returns-then-is_there-clause-absent : goal.returns-then-is_there-clause-absent
returns-then-is_there-clause-absent c = ap (λ (g : Graph). g.child c.args.dir c.args.name.now) (ap (λ (s : Seen). s.graph) c.unlink.ensures.change) ∙ entry_gone (graph_of c.args.store.now) c.args.dir c.args.name.now

pub returns-then-is_there-clause-others : goal.returns-then-is_there-clause-others
returns-then-is_there-clause-others c d x apart = ap (λ (g : Graph). g.child d x) (ap (λ (s : Seen). s.graph) c.unlink.ensures.change) ∙ entry_stays (graph_of c.args.store.now) c.args.dir c.args.name.now d x apart

pub returns-then-is_there-clause-moves : goal.returns-then-is_there-clause-moves
returns-then-is_there-clause-moves c from x n = ap (moved_in from x c.args.dir c.args.name.now n) (ap (λ (s : Seen). s.graph) c.unlink.ensures.change) ∙ moves_again (seen c.args.store.now) c.requires.real from x c.args.dir c.args.name.now n

pub returns-then-is_there-clause-fewer : goal.returns-then-is_there-clause-fewer
returns-then-is_there-clause-fewer c n m way =
    reached_less (child c.args.store.now) c.args.dir c.args.name.now n m (subst (λ (g : Graph). IsReached g.child n m) (ap (λ (s : Seen). s.graph) c.unlink.ensures.change) way)
