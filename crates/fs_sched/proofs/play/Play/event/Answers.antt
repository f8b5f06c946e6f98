use Rattle.std.proofs.lemmas.Result.{on_ok_weaker}
use Rattle.fs_sched.specs.code.Stages.{stage_of}
use Rattle.fs_sched.proofs.Noting.{notes_busy, notes_spent}
use Rattle.fs_sched.proofs.play.Play.event.Goals as goal

pub returns-then-branch-clause-notes : goal.returns-then-branch-clause-notes
returns-then-branch-clause-notes g c = notes_busy g.W.Witness.Told c.args.lists.now (stage_of c.args.self.now) (stage_of c.happen.new.self) c.args.witness.now c.happen.new.witness c.args.seat c.in_ok-happen.field-0 c.if-branch.true c.in_ok-happen.ensures.event

pub returns-clause-notes : goal.returns-clause-notes
returns-clause-notes g c = on_ok_weaker c.tell.result (λ hears. notes_spent g.W.Witness.Told c.args.lists.now (stage_of c.args.self.now) (stage_of c.happen.new.self) c.args.witness.now c.happen.new.witness c.tell.new.witness c.args.seat c.in_ok-happen.field-0 c.if-branch.false c.in_ok-happen.ensures.event hears) c.tell.ensures.told
