use Rattle.std.proofs.Common.{◌≡◌, length, take}
use Rattle.fs_core.specs.Events.{AllHappen}
use Rattle.fs_core.specs.CoreValues.{state_of}
use Rattle.fs_core.proofs.engine.Core.run.Given as goal

-- the events so far
abbrev pub invariant-loop-i : goal.invariant-loop-i
invariant-loop-i l = record {
  so_far : AllHappen (state_of l.fn.self) (take l.i l.events) (state_of l.self);
  seats : length l.self.seats ≡ length l.fn.self.seats;
  refusals : l.self.refusals ≡ l.fn.self.refusals;
}
