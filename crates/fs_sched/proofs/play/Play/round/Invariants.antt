use Rattle.std.proofs.Common.{◌-◌, length, map}
use Rattle.fs_sched.specs.Schedules.{one_event}
use Rattle.std.specs.List.{range_with_len}
use Rattle.fs_sched.specs.code.Stages.{stage_of, IsMarked}
use Rattle.fs_sched.proofs.Noting.{NotesOf}
use Rattle.fs_sched.proofs.Stopping.{LeadsToStop}
use Rattle.fs_sched.proofs.play.Play.round.Given as goal

-- what is done and what is left is all
abbrev pub invariant-loop-seat : goal.invariant-loop-seat
invariant-loop-seat g l = record {
  seats : IsMarked l.lists l.self;
  stop : LeadsToStop l.lists (stage_of l.fn.self) (range_with_len 0 (length l.lists)) (stage_of l.self) (range_with_len l.seat (length l.lists - l.seat));
  notes : NotesOf g.W.Witness.Told l.lists (stage_of l.fn.self) l.fn.witness (map one_event (range_with_len 0 (length l.lists))) (stage_of l.self) l.witness (map one_event (range_with_len l.seat (length l.lists - l.seat)));
}
