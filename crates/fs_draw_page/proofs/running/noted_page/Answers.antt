use Rattle.std.proofs.Common.{◌≡◌, Bool, true, None, Result, Err, sym, subst, rules}
use Rattle.std.specs.Prelude.{IfErr}
use Rattle.fs_verdict.specs.declared.shell.Made.{Made}
use Rattle.fs_sched.specs.declared.schedule.Schedule.TheVariants.{Given}
use Rattle.fs_draw.specs.Faults.{IsFaultBy}
use Rattle.fs_draw.specs.declared.fault.DrawFault.{DrawFault}
use Rattle.fs_draw_page.proofs.running.noted_page.Goals as goal

pub returns-in_err-played-clause-fault : goal.returns-in_err-played-clause-fault
returns-in_err-played-clause-fault c =
    let e : ◌≡◌ {A = Result (Made Bool) DrawFault} c.from_residual.result (Err c.in_err-played.field-0.0) = search rules in
    subst (λ (r : Result (Made Bool) DrawFault). IfErr r (IsFaultBy true Given None c.args.journal.now)) (sym e) (c.in_err-played.ensures.fault Given)
