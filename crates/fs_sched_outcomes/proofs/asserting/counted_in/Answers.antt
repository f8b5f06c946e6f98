use Rattle.std.proofs.Common.{◌≡◌, true, List, ℕ, subst, rules}
use Rattle.fs_sched_start.specs.code.Mades.{IsFaultOfPlanned, IsPlanned}
use Rattle.fs_sched_start.proofs.Starting.{of_planned, of_runs}
use Rattle.fs_sched_outcomes.specs.Asserts.{name_calls}
use Rattle.fs_sched_outcomes.proofs.asserting.counted_in.Goals as goal

pub returns-in-Ok-outcomes_of : goal.returns-in-Ok-outcomes_of
returns-in-Ok-outcomes_of g c =
    let script = c.in-Ok.planned.script in
    let drawn = c.in-Ok.planned.campaign in
    let read = subst (λ (text : List ℕ). IsPlanned c.args.tree c.args.by text c.in-Ok.planned) c.as_slice.ensures.value c.in-Ok.ensures.planned in
    let named : name_calls script c.args.asserts.now ≡ true = search rules in
    let (rows, are, seen, text) = c.in-Ok-outcomes_of.ensures.lines in
    record {
      asserted = (script, drawn, read, named, c.in-Ok-all_decided.ensures.decided, c.in-Ok-outcomes_of.ensures.lines);
      seen = (script, drawn, read, rows, are, seen);
      fault = tt;
    }

pub returns : goal.returns
returns g c =
    let read = subst (λ (text : List ℕ). IsPlanned c.args.tree c.args.by text c.in-Ok.planned) c.as_slice.ensures.value c.in-Ok.ensures.planned in
    record { asserted = tt; seen = tt; fault = of_runs c.args.tree c.args.by c.args.seed c.args.runs c.args.text.items c.in-Ok.planned.script c.in-Ok.planned.campaign c.in-Err-outcomes_of.fault read c.in-Err-outcomes_of.ensures.fault }

pub returns-in-Err-all_decided : goal.returns-in-Err-all_decided
returns-in-Err-all_decided g c =
    let read = subst (λ (text : List ℕ). IsPlanned c.args.tree c.args.by text c.in-Ok.planned) c.as_slice.ensures.value c.in-Ok.ensures.planned in
    record { asserted = tt; seen = tt; fault = of_runs c.args.tree c.args.by c.args.seed c.args.runs c.args.text.items c.in-Ok.planned.script c.in-Ok.planned.campaign c.in-Err-all_decided.fault read c.in-Err-all_decided.ensures.fault }

pub returns-in-Err : goal.returns-in-Err
returns-in-Err g c =
    let fault = subst (λ (text : List ℕ). IsFaultOfPlanned c.args.tree text c.in-Err.fault) c.as_slice.ensures.value c.in-Err.ensures.fault in
    record { asserted = tt; seen = tt; fault = of_planned c.args.tree c.args.by c.args.seed c.args.runs c.args.text.items c.in-Err.fault fault }
