use Rattle.std.proofs.Common.{◌≡◌, Result, Err, sym, subst, rules}
use Rattle.std.specs.Prelude.{IfErr}
use Rattle.fs_sched.specs.Runs.{StopsInWords}
use Rattle.fs_sched.specs.code.Stages.{stage_of, IsWhy}
use Rattle.fs_verdict.specs.declared.fault.RunFault.{RunFault}
use Rattle.fs_sched.proofs.Done.{done_more, why_here}
use Rattle.fs_sched.proofs.Noting.{notes_word}
use Rattle.fs_sched.proofs.pieces.Pieces.words.Goals as goal

pub loop-word-preserved : goal.loop-word-preserved
loop-word-preserved g c = record {
  seats = c.in_ok-word.ensures.seats;
  notes = notes_word g.W.Witness.Told c.args.lists.now (stage_of c.args.self.now.play) (stage_of c.loop-word.self.play) (stage_of c.word.new.self.play) c.args.witness.now c.loop-word.witness c.word.new.witness c.went_on.new.self c.args.words.now c.loop-word.word-index _ c.loop-word-test.true c.loop-word.invariant.notes c.in_ok-word.ensures.notes c.went_on.ensures.told;
  done = done_more c.args.lists.now c.args.words.now c.loop-word.word-index _ c.args.self.now c.loop-word.self c.word.new.self c.loop-word-test.true c.loop-word.invariant.done c.in_ok-word.ensures.done;
}

pub returns-in_err-word-clause-why : goal.returns-in_err-word-clause-why
returns-in_err-word-clause-why g c =
    let e : ◌≡◌ {A = Result (Unit {0}) RunFault} c.from_residual.result (Err c.in_err-word.field-0.0) = search rules in
    subst (λ (r : Result (Unit {0}) RunFault). IfErr r (IsWhy (StopsInWords c.args.lists.now (stage_of c.args.self.now.play) c.args.words.now))) (sym e)
    (why_here c.args.lists.now c.args.words.now c.loop-word.word-index _ c.args.self.now c.loop-word.self c.in_err-word.field-0.0 c.loop-word-test.true c.loop-word.invariant.done c.in_err-word.ensures.why)
