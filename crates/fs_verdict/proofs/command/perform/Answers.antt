use Rattle.std.proofs.Common.{Err, ap}
use Rattle.fs_verdict.proofs.Performing.{made_none, read_by, written, failed}
use Rattle.fs_verdict.proofs.command.perform.Goals as goal

pub returns-in-Ok : goal.returns-in-Ok
returns-in-Ok g c =
    let told = c.in-Ok.ensures.made in
    record { transforms = written _ _ _ _ _ _ _ _ _ _ _ told.1 (read_by _ _ (g.met.C.Command.honest c.args.command) _ _ _ told.2 told.4.1) told.5 told.6 (told.3 ((g.met.C.Command.honest c.args.command).short _ _ told.4.1)) }

pub returns-in-Err : goal.returns-in-Err
returns-in-Err g c = record {
  transforms = failed _ _ _ _ _ _ _ _ _ _ c.in-Err.failure _ c.between.ensures c.in-Err.ensures.devices
      (λ e is. let told = c.in-Err.ensures.unmade e (ap Err is) in made_none _ _ (g.met.C.Command.honest c.args.command) _ _ _ told.1 told.2.1)
      (λ is. let told = c.in-Err.ensures.beginning (ap Err is) in (told.1, read_by _ _ (g.met.C.Command.honest c.args.command) _ _ _ told.2 told.3.1, told.4));
}
