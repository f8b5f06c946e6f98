use Rattle.fs_nodes.proofs.UnlinkLemmas.{name_before}
use Rattle.fs_nodes.proofs.siblings.take_out.Goals as goal

pub returns-clause-label : goal.returns-clause-label
returns-clause-label c = name_before c.args.dir c.args.node c.args.prev c.args.next c.args.places.now c.leave.result (rw (c.follow.ensures, c.lead.ensures, c.drop_entry.ensures) at c.leave.ensures.label)
