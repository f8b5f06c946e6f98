use Rattle.std.proofs.Common.{◌≡◌, ◌+◌, ◌++◌, List}
use Rattle.fs_linearize_configurations.specs.code.Ways.{GoesBack}
use Rattle.fs_linearize_configurations.specs.declared.steps.Step.{Step}
use Rattle.fs_linearize_configurations.proofs.ways.steps_to.Given as goal

abbrev pub invariant-loop-step : goal.invariant-loop-step
invariant-loop-step l = (steps : List Step) → GoesBack l.links l.fn.at l.fn.last steps → (rest : List Step) × (steps ≡ l.way.items ++ rest) × GoesBack l.links l.here l.commit rest

abbrev pub decreases-loop-step : goal.decreases-loop-step
decreases-loop-step l = l.here + l.commit
