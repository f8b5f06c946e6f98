use Rattle.fs_nodes.specs.Seen.{seen}
use Rattle.fs_nodes.specs.Stores.{child}
use Rattle.check_nodes.proofs.AscentLemmas.{reaches_up, never_reached, differ_by}
use Rattle.check_nodes.proofs.calls.Plain.is_apart.Goals as goal

pub returns-in-None : goal.returns-in-None
returns-in-None c = λ _ r. never_reached (child c.args.self.now.store) c.args.node c.loop.at c.in-None.ensures (differ_by c.loop.at c.args.node c.if-eq.ensures) (c.loop.invariant r)

pub loop-preserved : goal.loop-preserved
loop-preserved c = λ r. reaches_up (seen c.args.self.now.store) c.requires c.args.node c.loop.at c.in-Some.parent c.in-Some.ensures (differ_by c.loop.at c.args.node c.if-eq.ensures) (c.loop.invariant r)
