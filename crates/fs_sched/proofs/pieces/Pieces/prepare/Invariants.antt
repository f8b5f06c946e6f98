use Rattle.std.proofs.Common.{◌≡◌, true, take}
use Rattle.std.specs.List.{filter}
use Rattle.fs_sched.specs.Runs.{Words}
use Rattle.fs_sched.specs.Gives.{given_words}
use Rattle.fs_sched.specs.Schedules.{is_events, ends_drawn}
use Rattle.fs_sched.specs.code.Done.{HasDone}
use Rattle.fs_sched.specs.code.Notes.{Notes}
use Rattle.fs_sched.specs.code.Stages.{stage_of, IsMarked}
use Rattle.fs_sched.proofs.pieces.Pieces.prepare.Given as goal

-- the words so far that give events were done
abbrev pub invariant-loop-word : goal.invariant-loop-word
invariant-loop-word g l = record {
  ends : ends_drawn l.words ≡ true;
  seats : IsMarked l.lists l.self.play;
  notes : Notes g.W.Witness.Told l.lists (stage_of l.fn.self.play) l.fn.witness (given_words (filter is_events (take l.word-index l.words))) (stage_of l.self.play) l.witness;
  done : HasDone (Words l.lists (stage_of l.fn.self.play) (filter is_events (take l.word-index l.words))) l.fn.self l.self;
}
