use Rattle.std.proofs.Common.{◌≡◌, ◌-◌, length, map}
use Rattle.fs_sched.specs.Schedules.{drawn_seats, one_event}
use Rattle.fs_sched.specs.declared.schedule.TheConstants.{DRAW_LIMIT}
use Rattle.fs_sched.specs.code.Ahead.{upcoming}
use Rattle.fs_sched.specs.code.Stages.{stage_of, IsMarked, AreOver}
use Rattle.fs_sched.proofs.Noting.{NotesOf}
use Rattle.fs_sched.proofs.Stopping.{LeadsToStop}
use Rattle.fs_sched.proofs.play.Play.drawn.Given as goal

-- what is done and what is left is all
abbrev pub invariant-loop : goal.invariant-loop
invariant-loop g l = record {
  threads : l.seats.threads ≡ length l.lists;
  over : AreOver l.lists (stage_of l.self) l.first;
  marked : IsMarked l.lists l.self;
  stop : LeadsToStop l.lists (stage_of l.fn.self) (drawn_seats l.seed (length l.lists) DRAW_LIMIT) (stage_of l.self) (upcoming (DRAW_LIMIT - l.counter) l.seats);
  notes : NotesOf g.W.Witness.Told l.lists (stage_of l.fn.self) l.fn.witness (map one_event (drawn_seats l.seed (length l.lists) DRAW_LIMIT)) (stage_of l.self) l.witness (map one_event (upcoming (DRAW_LIMIT - l.counter) l.seats));
}
