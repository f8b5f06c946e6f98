use Rattle.fs_sched.specs.code.Stages.{stage_of, IsMarked, AreOver}
use Rattle.fs_sched.proofs.Rounds.{left_over}
use Rattle.fs_sched.proofs.Noting.{NotesToEndOf}
use Rattle.fs_sched.proofs.Stopping.{LeadsToStopInRounds}
use Rattle.fs_sched.proofs.play.Play.finish.Given as goal

-- what leads to the end from here leads there from the start
abbrev pub invariant-rounds : goal.invariant-rounds
invariant-rounds g l = record {
  over : AreOver l.lists (stage_of l.self) l.first;
  seats : IsMarked l.lists l.self;
  stop : LeadsToStopInRounds l.lists (stage_of l.fn.self) (stage_of l.self);
  notes : NotesToEndOf g.W.Witness.Told l.lists (stage_of l.fn.self) l.fn.witness (stage_of l.self) l.witness;
}

-- what is left to do
abbrev pub decreases-rounds : goal.decreases-rounds
decreases-rounds g l = left_over l.lists (stage_of l.self)
