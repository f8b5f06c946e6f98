use Rattle.std.proofs.Common.{sym, subst}
use Rattle.fs_sched_start.proofs.Starting.{of_planned, of_runs}
use Rattle.fs_sched_find.specs.Faults.{IsFaultOfSearchAt}
use Rattle.fs_sched_find.specs.declared.fault.FindFault.{FindFault}
use Rattle.fs_sched_find.proofs.Founds.{again_at_root, of_found}
use Rattle.fs_sched_find.proofs.finding.found_in.Goals as goal

pub returns-in-Ok-text_of_found-clause-found : goal.returns-in-Ok-text_of_found-clause-found
returns-in-Ok-text_of_found-clause-found g c =
    let planned = c.in-Ok.planned in
    (planned.script, planned.campaign, c.in-Ok.ensures.planned, cc, c.in-Ok-first_seed.ensures.found, c.in-Ok-text_of_found.ensures.written)

pub returns-in-Ok-text_of_found-clause-again : goal.returns-in-Ok-text_of_found-clause-again
returns-in-Ok-text_of_found-clause-again g c root =
    let planned = c.in-Ok.planned in
    again_at_root c.args.tree c.args.by c.args.what.now c.args.seed c.args.runs c.args.text.now c.in-Ok-first_seed.found c.in-Ok-text_of_found.text.items root
    (planned.script, planned.campaign, c.in-Ok.ensures.planned, cc, c.in-Ok-first_seed.ensures.found, c.in-Ok-text_of_found.ensures.written)

pub returns-clause-fault : goal.returns-clause-fault
returns-clause-fault g c =
    let planned = c.in-Ok.planned in
    let fault = c.in-Err-text_of_found.fault in
    subst (λ (f : FindFault). IsFaultOfSearchAt c.args.tree c.args.by c.args.what.now c.args.seed c.args.runs c.args.text.now f) (sym c.find_fault.ensures)
    (of_found c.args.tree c.args.by c.args.what.now c.args.seed c.args.runs c.args.text.now planned.script planned.campaign c.in-Ok-first_seed.found fault c.in-Ok.ensures.planned c.in-Ok-first_seed.ensures.found c.in-Err-text_of_found.ensures.fault)

pub returns-in-Err-first_seed-clause-fault : goal.returns-in-Err-first_seed-clause-fault
returns-in-Err-first_seed-clause-fault g c =
    let planned = c.in-Ok.planned in
    of_runs c.args.tree c.args.by c.args.seed c.args.runs c.args.text.now planned.script planned.campaign c.in-Err-first_seed.fault c.in-Ok.ensures.planned c.in-Err-first_seed.ensures.fault

pub returns-in-Err-clause-fault : goal.returns-in-Err-clause-fault
returns-in-Err-clause-fault g c = of_planned c.args.tree c.args.by c.args.seed c.args.runs c.args.text.now c.in-Err.fault c.in-Err.ensures.fault
