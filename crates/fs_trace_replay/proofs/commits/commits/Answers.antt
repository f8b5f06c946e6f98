use Rattle.fs_trace_replay.proofs.CommitLemmas.{calls_more}
use Rattle.fs_trace_replay.proofs.commits.commits.Goals as goal

pub loop-entry-preserved : goal.loop-entry-preserved
loop-entry-preserved c = calls_more c.args.entries.now c.args.entries.now _ _ _ c.loop-entry.entry-index c.entry-item.result _ c.loop-entry-test.true c.entry-item.is (c.call_by.ensures c.args.entries.now c.in_ok-begun.ensures) c.in_ok-push_call.ensures c.loop-entry.invariant
