use Rattle.std.proofs.Common.{◌≡◌, length, IsSome}
use Rattle.fs_laws.specs.StepsLeft.{steps_left}
use Rattle.fs_core.specs.CoreValues.{state_of}
use Rattle.fs_core.specs.Calls.{Steps}
use Rattle.fs_core.proofs.engine.Core.finish.Given as goal

-- steps of the seat led here, none of which returned, its call is under way, and no memory was refused
abbrev pub invariant-steps : goal.invariant-steps
invariant-steps l = record {
  seats : length l.self.seats ≡ length l.fn.self.seats;
  refusals : l.self.refusals ≡ l.fn.self.refusals;
  under_way : IsSome ((state_of l.self).on_seat l.fn.seat);
  steps : Steps l.fn.seat (state_of l.fn.self) (state_of l.self);
}

-- the steps that all calls under way have left
abbrev pub decreases-steps : goal.decreases-steps
decreases-steps l = steps_left (state_of l.self)
