use Rattle.fs_core.specs.CoreValues.{state_of}
use Rattle.fs_core.proofs.ToReturns.{seated, alone_never_waits}
use Rattle.fs_core.proofs.engine.Core.call.Goals as goal

pub finish-requires-clause-under_way : goal.finish-requires-clause-under_way
finish-requires-clause-under_way c = seated c.args.seat c.in-Ok.number c.args.call.now (state_of c.args.self.now) (state_of c.begin.new.self) c.in-Ok.ensures.begins

pub returns-in-Err-finish-clause-never_waits : goal.returns-in-Err-finish-clause-never_waits
returns-in-Err-finish-clause-never_waits c rest number holder e =
    alone_never_waits c.args.seat c.in-Ok.number c.in-Err-finish.holder c.args.call.now (state_of c.args.self.now) (state_of c.begin.new.self) (state_of c.finish.new.self)
    c.told.ensures.run rest c.in-Ok.ensures.begins c.in-Err-finish.ensures.waits.0 c.in-Err-finish.ensures.waits.1
