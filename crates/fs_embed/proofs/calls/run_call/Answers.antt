use Rattle.fs_core.specs.CoreValues.{state_of}
use Rattle.fs_core.proofs.ToReturns.{seated}
use Rattle.fs_embed.proofs.calls.run_call.Goals as goal

pub finish-requires-clause-under_way : goal.finish-requires-clause-under_way
finish-requires-clause-under_way c = seated c.args.seat c.in-Ok.number c.in-Ok.ensures.begun.0.0 (state_of c.args.core.now) (state_of c.begin_call.new.core) c.in-Ok.ensures.begun.0.2
