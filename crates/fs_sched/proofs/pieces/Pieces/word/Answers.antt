use Rattle.std.proofs.Common.{sym, subst}
use Rattle.std.specs.Prelude.{OnOk, IfErr}
use Rattle.fs_script.specs.declared.script.Word.{Word}
use Rattle.fs_sched.specs.Gives.{single_words}
use Rattle.fs_sched.specs.Runs.{Does, StopsAt}
use Rattle.fs_sched.specs.code.Done.{HasDone}
use Rattle.fs_sched.specs.code.Notes.{Notes}
use Rattle.fs_sched.specs.code.Stages.{stage_of, IsWhy}
use Rattle.fs_sched.proofs.pieces.Pieces.word.Goals as goal

pub returns-in-Checkpoint-clause-notes : goal.returns-in-Checkpoint-clause-notes
returns-in-Checkpoint-clause-notes g c = subst (λ (w : Word). OnOk c.checkpoint.result (Notes g.W.Witness.Told c.args.lists.now (stage_of c.args.self.now.play) c.args.witness.now (single_words w) (stage_of c.checkpoint.new.self.play) c.checkpoint.new.witness)) (sym c.in-Checkpoint.is) (c.checkpoint.ensures.notes c.args.lists.now)

pub returns-in-Checkpoint-clause-done : goal.returns-in-Checkpoint-clause-done
returns-in-Checkpoint-clause-done g c = subst (λ (w : Word). OnOk c.checkpoint.result (HasDone (Does c.args.lists.now (stage_of c.args.self.now.play) w) c.args.self.now c.checkpoint.new.self)) (sym c.in-Checkpoint.is) (c.checkpoint.ensures.done c.args.lists.now)

pub returns-in-Checkpoint-clause-why : goal.returns-in-Checkpoint-clause-why
returns-in-Checkpoint-clause-why g c = subst (λ (w : Word). IfErr c.checkpoint.result (IsWhy (StopsAt c.args.lists.now (stage_of c.args.self.now.play) w))) (sym c.in-Checkpoint.is) (c.checkpoint.ensures.why c.args.lists.now)
