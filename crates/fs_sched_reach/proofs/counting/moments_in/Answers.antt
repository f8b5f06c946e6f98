use Rattle.fs_sched_reach.proofs.Seeking.{moments_more, moments_end}
use Rattle.fs_sched_reach.proofs.counting.moments_in.Goals as goal

pub loop-word-preserved : goal.loop-word-preserved
loop-word-preserved c = moments_more c.args.words.now c.loop-word.word-index _ c.moments_of.result c.loop-word.moments c.in-Some.sum c.loop-word-test.true c.loop-word.invariant c.moments_of.ensures c.in-Some.ensures.1

pub returns : goal.returns
returns c = moments_end c.args.words.now c.loop-word.word-index c.loop-word.moments c.loop-word-test.false c.loop-word.invariant
