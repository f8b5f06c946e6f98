use Rattle.std.proofs.Common.{◌∙◌}
use Rattle.fs_trace_replay.proofs.CommitLemmas.{played_more}
use Rattle.fs_trace_replay.proofs.commits.played.Goals as goal

pub loop-call-preserved : goal.loop-call-preserved
loop-call-preserved c = c.in_ok-_reply.ensures.tree ∙ played_more c.args.start c.loop-call.tree c.args.calls.now c.loop-call.call-index c.call-item.result c.loop-call-test.true c.call-item.is c.loop-call.invariant
