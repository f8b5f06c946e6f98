use Rattle.std.proofs.Common.{sym, ◌∙◌, refl}
use Rattle.fs_trace_replay.proofs.CommitLemmas.{begun_new, begun_none, begun_old}
use Rattle.fs_trace_replay.proofs.commits.begun_in.Goals as goal
use Rattle.fs_trace_replay.proofs.commits.begun_in.Goals.{in-Begin+then-not-has+in_ok-insert, in-Begin+else-not-has, in_default}

pub loop-entry-preserved : goal.loop-entry-preserved
loop-entry-preserved c = elim c.match-entry.branch [
  | in-Begin+then-not-has+in_ok-insert w ↦ rw w.begun-is (begun_new c.loop-entry.begun w.insert.new.self c.args.entries.now c.loop-entry.entry-index w.get.result w.in-Begin.number w.in-Begin.field-1 _ w.in-Begin.call c.entry-item.result
      w.in_ok-insert.ensures.updates refl w.get.ensures c.loop-entry-test.true c.entry-item.is w.in-Begin.is (sym w.has.ensures ∙ w.if-not-has.true) c.loop-entry.invariant)
  | in-Begin+else-not-has w ↦ rw w.begun-is (begun_old c.loop-entry.begun c.args.entries.now c.loop-entry.entry-index w.in-Begin.number w.in-Begin.field-1 w.in-Begin.call c.entry-item.result
      c.loop-entry-test.true c.entry-item.is w.in-Begin.is (sym w.has.ensures ∙ w.if-not-has.false) c.loop-entry.invariant)
  | in_default w ↦ rw w.begun-is (begun_none c.loop-entry.begun c.args.entries.now c.loop-entry.entry-index c.entry-item.result c.loop-entry-test.true c.entry-item.is w.in_default.not-Begin c.loop-entry.invariant)
]
