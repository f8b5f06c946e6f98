use Rattle.std.proofs.Common.{sym, ap, ◌∙◌}
use Rattle.fs_sched.specs.Schedules.{goes_on}
use Rattle.fs_sched.specs.code.Notes.{NotesRun}
use Rattle.fs_sched.specs.code.Stages.{stage_of}
use Rattle.fs_sched.specs.declared.pieces.Pieces.{Pieces}
use Rattle.fs_sched.proofs.Asking.{of_both}
use Rattle.fs_sched.proofs.Noting.{run_on, run_cut}
use Rattle.fs_sched.proofs.pieces.Pieces.run.Goals as goal
use Rattle.fs_sched.proofs.pieces.Pieces.run.Goals.{then-goes_on+in_ok-finish, else-goes_on}

pub returns-clause-notes : goal.returns-clause-notes
returns-clause-notes g c =
    let asked = sym (c.goes_on.ensures ∙ ap (goes_on c.args.schedule) c.as_slice.ensures) in
    elim c.if-goes_on.branch [
      | then-goes_on+in_ok-finish w ↦
          of_both (λ (p : Pieces) w. NotesRun g.W.Witness.Told c.args.schedule c.args.script.now (stage_of c.args.self.now.play) c.args.witness.now (stage_of p.play) w) c.if-goes_on.self _ c.if-goes_on.witness w.finish.new.witness w.self-is w.witness-is
          (run_on g.W.Witness.Told c.args.schedule c.args.script.now (stage_of c.args.self.now.play) (stage_of c.before-2.new.self.play) (stage_of w.finish.new.self) c.args.witness.now c.before-2.new.witness w.finish.new.witness (asked ∙ w.if-goes_on.true) c.in_ok-before.ensures.notes w.in_ok-finish.ensures.notes)
      | else-goes_on w ↦
          of_both (λ (p : Pieces) w. NotesRun g.W.Witness.Told c.args.schedule c.args.script.now (stage_of c.args.self.now.play) c.args.witness.now (stage_of p.play) w) c.if-goes_on.self c.before-2.new.self c.if-goes_on.witness c.before-2.new.witness w.self-is w.witness-is
          (run_cut g.W.Witness.Told c.args.schedule c.args.script.now (stage_of c.args.self.now.play) (stage_of c.before-2.new.self.play) c.args.witness.now c.before-2.new.witness (asked ∙ w.if-goes_on.false) c.in_ok-before.ensures.notes)
    ]
