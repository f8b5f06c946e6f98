use Rattle.std.proofs.Common.{take}
use Rattle.fs_linearize_configurations.specs.code.Walking.{IsWalked}
use Rattle.fs_linearize_configurations.proofs.walking.lead_through.Given as goal

abbrev pub invariant-loop-step : goal.invariant-loop-step
invariant-loop-step l = IsWalked l.start l.history (take l.step-index l.steps) l.walk
