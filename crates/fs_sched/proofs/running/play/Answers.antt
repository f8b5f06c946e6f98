use Rattle.std.proofs.Common.{[], length, sym, ap, ◌∙◌, subst}
use Rattle.std.proofs.lemmas.List.{length-map}
use Rattle.fs_core.specs.CoreValues.{state_of}
use Rattle.fs_sched.specs.Runs.{Stage, before_all, RunsFrom, StopsFrom}
use Rattle.fs_sched.specs.Moments.{TellsFrom}
use Rattle.fs_sched.specs.code.Stages.{stage_of, IsWhy}
use Rattle.fs_sched.proofs.running.play.Goals as goal

pub run-requires : goal.run-requires
run-requires g c = rw (c.make_room.ensures) (c.in-Ok.ensures.seats c.args.script.now.lists (sym (ap length c.as_slice.ensures) ∙ length-map c.as_slice.result.now (λ calls. calls.items)))

pub returns-in-Ok-run-clause-told : goal.returns-in-Ok-run-clause-told
returns-in-Ok-run-clause-told g c =
    let (ms, heard, tells) = rw (c.make_room.ensures) at c.in-Ok-run.ensures.notes in
    let threads = sym (ap length c.as_slice.ensures) ∙ length-map c.as_slice.result.now (λ calls. calls.items) in
    let first = c.in-Ok.ensures.start ∙ ap (before_all (state_of c.args.core)) (sym threads) in
    (ms, λ first before t. heard first before (c.begins.ensures.told first before t), subst (λ (s : Stage). TellsFrom c.args.schedule c.args.script.now s ms (stage_of c.run.new.self.play)) first tells)

pub returns-in-Ok-run-clause-runs : goal.returns-in-Ok-run-clause-runs
returns-in-Ok-run-clause-runs g c =
    let done = rw (c.make_room.ensures) at c.in-Ok-run.ensures.run in
    let threads = sym (ap length c.as_slice.ensures) ∙ length-map c.as_slice.result.now (λ calls. calls.items) in
    let first = c.in-Ok.ensures.start ∙ ap (before_all (state_of c.args.core)) (sym threads) in
    record {
      told = done.told;
      runs = subst (λ (s : Stage). RunsFrom c.args.schedule c.args.script.now s done.told (stage_of c.run.new.self.play)) first done.came;
      counted = done.counted [] c.in-Ok.ensures.told;
    }

pub returns-in-Err-clause-why : goal.returns-in-Err-clause-why
returns-in-Err-clause-why g c =
    let why = rw (c.make_room.ensures) at c.in-Err.ensures.why in
    let threads = sym (ap length c.as_slice.ensures) ∙ length-map c.as_slice.result.now (λ calls. calls.items) in
    let first = c.in-Ok.ensures.start ∙ ap (before_all (state_of c.args.core)) (sym threads) in
    subst (λ (s : Stage). IsWhy (StopsFrom c.args.schedule c.args.script.now s) c.in-Err.fault) first why
