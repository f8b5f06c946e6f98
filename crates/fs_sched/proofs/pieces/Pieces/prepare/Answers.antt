use Rattle.std.proofs.Common.{◌≡◌, Result, Err, sym, subst, rules}
use Rattle.std.specs.Prelude.{IfErr}
use Rattle.fs_sched.specs.Runs.{StopsInWords}
use Rattle.fs_sched.specs.Schedules.{prepared}
use Rattle.fs_sched.specs.code.Stages.{stage_of, IsWhy}
use Rattle.fs_verdict.specs.declared.fault.RunFault.{RunFault}
use Rattle.fs_sched.proofs.Preparing.{notes_more_chosen, done_more_chosen, why_more_chosen}
use Rattle.fs_sched.proofs.pieces.Pieces.prepare.Goals as goal

pub loop-word-preserved : goal.loop-word-preserved
loop-word-preserved g c = record {
  ends = c.loop-word.invariant.ends;
  seats = c.in_ok-prepare_word.ensures.seats;
  notes = notes_more_chosen g.W.Witness.Told c.args.lists.now (stage_of c.args.self.now.play) (stage_of c.loop-word.self.play) (stage_of c.prepare_word.new.self.play) c.args.witness.now c.loop-word.witness c.prepare_word.new.witness c.args.words.now c.loop-word.word-index _ c.loop-word-test.true c.loop-word.invariant.notes c.in_ok-prepare_word.ensures.notes;
  done = done_more_chosen c.args.lists.now c.args.words.now c.loop-word.word-index _ c.args.self.now c.loop-word.self c.prepare_word.new.self c.loop-word-test.true c.loop-word.invariant.done c.in_ok-prepare_word.ensures.done;
}

pub returns-in_err-prepare_word-clause-why : goal.returns-in_err-prepare_word-clause-why
returns-in_err-prepare_word-clause-why g c =
    let e : ◌≡◌ {A = Result (Unit {0}) RunFault} c.from_residual.result (Err c.in_err-prepare_word.field-0.0) = search rules in
    subst (λ (r : Result (Unit {0}) RunFault). IfErr r (IsWhy (StopsInWords c.args.lists.now (stage_of c.args.self.now.play) (prepared c.args.words.now)))) (sym e)
    (why_more_chosen c.args.lists.now c.args.words.now c.loop-word.word-index _ c.args.self.now c.loop-word.self c.in_err-prepare_word.field-0.0 c.loop-word.invariant.ends c.loop-word-test.true c.loop-word.invariant.done c.in_err-prepare_word.ensures.why)
