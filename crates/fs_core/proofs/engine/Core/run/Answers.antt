use Rattle.std.proofs.Common.{◌∙◌}
use Rattle.fs_core.specs.CoreValues.{state_of}
use Rattle.fs_core.proofs.Happening.{happen_more}
use Rattle.fs_core.proofs.engine.Core.run.Goals as goal

pub loop-i-preserved : goal.loop-i-preserved
loop-i-preserved c = record {
  so_far = happen_more (state_of c.args.self.now) (state_of c.loop-i.self) (state_of c.happen.new.self) c.args.events.now c.loop-i.i c.index-events-i.result c.loop-i-test.true c.index-events-i.is c.loop-i.invariant.so_far c.in-Ok.ensures.done;
  seats = c.in-Ok.ensures.seats ∙ c.loop-i.invariant.seats;
  refusals = c.in-Ok.ensures.granted (λ e. absurd (cc)) ∙ c.loop-i.invariant.refusals;
}
