use Rattle.std.proofs.Common.{◌≡◌, drop}
use Rattle.atomfs_answers.specs.Statuses.{has_status}
use Rattle.atomfs_answers.proofs.status.has_status.Given as goal

abbrev pub invariant-loop-outcome : goal.invariant-loop-outcome
invariant-loop-outcome l = has_status l.status (drop l.outcome-index l.outcomes) ≡ has_status l.status l.outcomes
