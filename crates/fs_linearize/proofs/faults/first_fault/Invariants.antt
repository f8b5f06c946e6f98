use Rattle.std.proofs.Common.{◌≡◌, ◌+◌, take, drop}
use Rattle.fs_linearize_histories.specs.Heard.{entries}
use Rattle.fs_linearize_histories.specs.Faults.{fault_from, history_fault}
use Rattle.fs_linearize.specs.code.Knowing.{IsKnown}
use Rattle.fs_linearize.proofs.faults.first_fault.Given as goal

abbrev pub invariant-loop-place : goal.invariant-loop-place
invariant-loop-place l = record {
  known : IsKnown (entries (take l.place l.history)) l.known;
  left : fault_from (entries (take l.place l.history)) (l.place + 1) (drop l.place l.history) ≡ history_fault l.history;
}
