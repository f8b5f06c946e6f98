use Rattle.std.proofs.Common.{◌∙◌}
use Rattle.fs_sched_seen.specs.code.Meetings.{has_met}
use Rattle.fs_sched_seen.proofs.MeetLemmas.{thread_more}
use Rattle.fs_sched_seen.proofs.meetings.Meetings.note_beside.Goals as goal

pub loop-other-preserved : goal.loop-other-preserved
loop-other-preserved c = record {
  met = λ es heard p q order. thread_more es c.args.seat c.loop-other.other p q (has_met c.args.self.now p q) (has_met c.loop-other.self p q) (has_met c.note_both.new.self p q) (has_met c.note_both-in-loop-other.new.self p q) order
      (c.loop-other.invariant.met es heard p q order) (c.in_ok-note_both.ensures.met es heard p q) (c.in_ok-note_both-2.ensures.met es heard p q);
  threads = c.note_both-in-loop-other.ensures.threads ∙ c.note_both.ensures.threads ∙ c.loop-other.invariant.threads;
}
