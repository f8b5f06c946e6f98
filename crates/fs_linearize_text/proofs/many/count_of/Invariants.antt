use Rattle.std.proofs.Common.{◌≡◌, ◌+◌, ◌≤◌, drop}
use Rattle.fs_linearize_text.specs.Many.{count_of}
use Rattle.fs_linearize_text.proofs.many.count_of.Given as goal

abbrev pub invariant-loop-outcome : goal.invariant-loop-outcome
invariant-loop-outcome l = record { all : l.count + count_of l.wanted (drop l.outcome-index l.outcomes) ≡ count_of l.wanted l.outcomes; few : l.count ≤ l.outcome-index }
