use Rattle.std.proofs.Common.{◌≡◌, ◌≤◌, ◌-◌, length, drop}
use Rattle.fs_linearize_dialects.specs.Learning.{learned}
use Rattle.fs_linearize_dialects.proofs.LearnLemmas.{behind}
use Rattle.fs_linearize_dialects.proofs.learning.learn_calls.Given as goal

abbrev pub invariant-calls : goal.invariant-calls
invariant-calls l = record {
  within : l.at ≤ length l.history;
  left : behind l.rows.items (learned l.tree l.at (drop l.at l.history)) ≡ learned l.start 0 l.history;
}

abbrev pub decreases-calls : goal.decreases-calls
decreases-calls l = length l.history - l.at
