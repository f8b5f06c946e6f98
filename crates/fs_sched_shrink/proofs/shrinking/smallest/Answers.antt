use Rattle.fs_sched_shrink.proofs.Starting.{all_stay}
use Rattle.fs_sched_shrink.proofs.shrinking.smallest.Goals as goal

pub shrunk_by-requires-clause-shrunk : goal.shrunk_by-requires-clause-shrunk
shrunk_by-requires-clause-shrunk c = all_stay c.args.from.now c.args.script.now c.args.what.now c.in_ok-kept.kept.items c.in_ok-kept.ensures c.requires.named c.requires.has
