use Rattle.std.proofs.Common.{[]}
use Rattle.fs_nodes.proofs.IndexLemmas.{grown}
use Rattle.fs_nodes.proofs.index.first_slots.Goals as goal

pub returns : goal.returns
returns c = grown c.in_ok-slots.slots.items [] c.in_ok-slots.ensures.ok
