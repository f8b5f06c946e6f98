use Rattle.std.proofs.Common.{◌≡◌, drop}
use Rattle.fs_sched_outcomes.specs.Asserts.{all_hold}
use Rattle.fs_sched_outcomes.proofs.assertion.all_hold.Given as goal

abbrev pub invariant-loop-at : goal.invariant-loop-at
invariant-loop-at l = all_hold (drop l.at l.asserts) (drop l.at l.decided) ≡ all_hold l.asserts l.decided
