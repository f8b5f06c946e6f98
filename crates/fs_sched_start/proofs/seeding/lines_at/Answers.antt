use Rattle.std.proofs.Common.{List, ℕ, subst}
use Rattle.fs_sched_start.specs.code.Mades.{IsFaultOfPlanned, IsPlanned}
use Rattle.fs_sched_start.proofs.Starting.{of_planned, of_runs}
use Rattle.fs_sched_start.proofs.seeding.lines_at.Goals as goal

pub returns-in-Ok-seeds_of : goal.returns-in-Ok-seeds_of
returns-in-Ok-seeds_of g c =
    let read = subst (λ (text : List ℕ). IsPlanned c.args.tree c.args.by text c.in-Ok.planned) c.as_slice.ensures.value c.in-Ok.ensures.planned in
    record {
      ran = (c.in-Ok.planned.script, c.in-Ok.planned.campaign, read, c.in-Ok-seeds_of.ensures.ok);
      lawful = c.in-Ok-seeds_of.ensures.lawful;
      fault = tt;
    }

pub returns : goal.returns
returns g c =
    let read = subst (λ (text : List ℕ). IsPlanned c.args.tree c.args.by text c.in-Ok.planned) c.as_slice.ensures.value c.in-Ok.ensures.planned in
    record { ran = tt; lawful = tt; fault = of_runs c.args.tree c.args.by c.args.seed c.args.runs c.args.text.items c.in-Ok.planned.script c.in-Ok.planned.campaign c.in-Err-seeds_of.fault read c.in-Err-seeds_of.ensures.fault }

pub returns-in-Err : goal.returns-in-Err
returns-in-Err g c =
    let fault = subst (λ (text : List ℕ). IsFaultOfPlanned c.args.tree text c.in-Err.fault) c.as_slice.ensures.value c.in-Err.ensures.fault in
    record { ran = tt; lawful = tt; fault = of_planned c.args.tree c.args.by c.args.seed c.args.runs c.args.text.items c.in-Err.fault fault }
