use Rattle.fs_names.proofs.HeadLemmas.{head_same, head_front}
use Rattle.fs_nodes_places.proofs.label.Label.cmp.Goals as goal

pub returns-then-others-le-WIDTH : goal.returns-then-others-le-WIDTH
returns-then-others-le-WIDTH c = rw (← c.self.view_is) (head_same c.self.inside.head c.args.first c.self.inside.name c.args.name.now c.self.invariant c.requires c.len-own.ensures.named c.len-others.ensures.named (rw c.len-own.ensures.len at c.if-own-le-WIDTH.true) (rw c.len-others.ensures.len at c.if-others-le-WIDTH.true) c.if-self-first.false c.if-first-self.false)

pub cmp_behind-requires : goal.cmp_behind-requires
cmp_behind-requires c = head_front c.self.inside.head c.args.first c.self.inside.name c.args.name.now c.self.invariant c.requires c.len-own.ensures.named c.len-others.ensures.named c.if-self-first.false c.if-first-self.false
