use Rattle.std.proofs.Common.{◌≡◌, ℕ, ◌<◌, length}
use Rattle.fs_core.specs.CoreValues.{state_of}
use Rattle.fs_embed.specs.Calls.{StandsStill}
use Rattle.fs_embed.proofs.calls.step_any.Given as goal

-- nothing changed, and the steps of the seats before this one let no call go on
abbrev pub invariant-loop-number : goal.invariant-loop-number
invariant-loop-number l = record {
  seats : length l.core.seats ≡ length l.fn.core.seats;
  same : state_of l.core ≡ state_of l.fn.core;
  still : (k : ℕ) → k < l.number → StandsStill (state_of l.fn.core) k;
}
