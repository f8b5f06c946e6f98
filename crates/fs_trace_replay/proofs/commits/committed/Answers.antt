use Rattle.fs_trace_replay.proofs.CommitLemmas.{numbers_more}
use Rattle.fs_trace_replay.proofs.commits.committed.Goals as goal

pub loop-entry-preserved : goal.loop-entry-preserved
loop-entry-preserved c = numbers_more c.args.entries.now c.args.entries.now _ _ _ c.loop-entry.entry-index c.entry-item.result _ c.loop-entry-test.true c.entry-item.is (c.number_by.ensures c.args.entries.now c.in_ok-begun.ensures) c.in_ok-push_number.ensures c.loop-entry.invariant
