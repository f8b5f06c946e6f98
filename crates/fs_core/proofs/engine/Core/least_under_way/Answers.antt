use Rattle.std.proofs.Common.{arith}
use Rattle.fs_core.proofs.Leasts.{least_of_listed}
use Rattle.fs_core.proofs.engine.Core.least_under_way.Goals as goal

pub returns : goal.returns
returns c = least_of_listed c.args.self.now c.first_seats-listed.result.now c.loop-i.i c.loop-i.least c.first_seats-listed.ensures (omega (arith, c.loop-i-test.false, c.loop-i.auto.i-end)) c.loop-i.invariant
