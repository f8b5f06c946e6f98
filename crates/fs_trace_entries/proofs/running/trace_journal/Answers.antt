use Rattle.std.proofs.Common.{List, ℕ, sym, subst}
use Rattle.fs_sched.specs.declared.schedule.Schedule.TheVariants.{Given}
use Rattle.fs_trace_replay.specs.Replays.{IsReplayOf}
use Rattle.fs_trace_replay.specs.declared.asking.Question.TheVariants.{Whole}
use Rattle.fs_trace_entries.proofs.running.trace_journal.Goals as goal

pub returns-in-Ok-text_in : goal.returns-in-Ok-text_in
returns-in-Ok-text_in c = record {
  traced = c.in-Ok-text_in.ensures.traced c.in-Ok.tree.end.well (subst (λ (t : List ℕ). IsReplayOf Given c.args.text.now Whole c.in-Ok.tree.end.well t) (sym c.as_slice.ensures.value) c.in-Ok.ensures.replay);
  quiet = c.in-Ok.ensures.quiet;
  fault = tt;
}
