use Rattle.fs_seq.proofs.Removed.{detaches}
use Rattle.fs_seq.proofs.remove.detach.Goals as goal

pub returns : goal.returns
returns c = detaches c.args.nodes.now c.remove_link.new.nodes c.try_remove.new.self c.args.dir c.args.i c.args.node c.remove_link.ensures c.try_remove.ensures.updates
