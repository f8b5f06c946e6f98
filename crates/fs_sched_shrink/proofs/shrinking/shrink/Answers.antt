use Rattle.fs_sched_shrink.proofs.shrinking.shrink.Goals as goal

pub returns-in-Err-smallest-clause-fault : goal.returns-in-Err-smallest-clause-fault
returns-in-Err-smallest-clause-fault c = c.unshrunk.ensures c.args.from.now c.args.script.now
