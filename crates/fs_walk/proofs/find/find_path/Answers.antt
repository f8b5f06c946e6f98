use Rattle.std.proofs.Common.{ℕ, ◌+◌, Option, drop, sym, ap, ◌∙◌}
use Rattle.fs_nodes.specs.Graphs.{at, then_at}
use Rattle.fs_nodes.specs.Stores.{child}
use Rattle.fs_walk.proofs.FindLemmas.{leads_to}
use Rattle.fs_walk.proofs.find.find_path.Goals as goal

pub returns-in-None : goal.returns-in-None
returns-in-None c =
    sym (leads_to (child c.args.store.now) c.loop-i.node c.args.path.now c.loop-i.i c.name.result.now c.find.result c.name.ensures c.loop-i.invariant c.find.ensures.node
    ∙ ap (λ (o : Option ℕ). then_at o (λ m. at (child c.args.store.now) m (drop (c.loop-i.i + 1) c.args.path.now))) c.in-None.is)

pub loop-i-preserved : goal.loop-i-preserved
loop-i-preserved c =
    leads_to (child c.args.store.now) c.loop-i.node c.args.path.now c.loop-i.i c.name.result.now c.find.result c.name.ensures c.loop-i.invariant c.find.ensures.node
    ∙ ap (λ (o : Option ℕ). then_at o (λ m. at (child c.args.store.now) m (drop (c.loop-i.i + 1) c.args.path.now))) c.in-Some.is
