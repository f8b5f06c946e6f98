use Rattle.std.proofs.Common.{◌-◌, replicate}
use Rattle.fs_sched.specs.Schedules.{one_event}
use Rattle.fs_sched.specs.code.Stages.{stage_of, IsMarked}
use Rattle.fs_sched.proofs.Noting.{NotesOf}
use Rattle.fs_sched.proofs.Stopping.{LeadsToStop}
use Rattle.fs_sched.proofs.play.Play.events.Given as goal

-- what is done and what is left is all
abbrev pub invariant-loop : goal.invariant-loop
invariant-loop g l = record {
  seats : IsMarked l.lists l.self;
  stop : LeadsToStop l.lists (stage_of l.fn.self) (replicate l.times l.seat) (stage_of l.self) (replicate (l.times - l.counter) l.seat);
  notes : NotesOf g.W.Witness.Told l.lists (stage_of l.fn.self) l.fn.witness (replicate l.times (one_event l.seat)) (stage_of l.self) l.witness (replicate (l.times - l.counter) (one_event l.seat));
}
