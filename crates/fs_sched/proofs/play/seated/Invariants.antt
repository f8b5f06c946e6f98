use Rattle.std.proofs.Common.{◌≡◌, length}
use Rattle.fs_core.specs.CoreValues.{state_of}
use Rattle.fs_sched.proofs.play.seated.Given as goal

abbrev pub invariant-loop : goal.invariant-loop
invariant-loop l = record {
  state : state_of l.core ≡ state_of l.fn.core;
  seats : length l.core.seats ≡ l.counter;
}
