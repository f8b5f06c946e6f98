use Rattle.std.proofs.Common.{◌≡◌, ◌++◌, take}
use Rattle.std.specs.List.{flat_map}
use Rattle.fs_trace.specs.Objects.{thread_object}
use Rattle.fs_trace.proofs.objects.push_threads.Given as goal

-- the objects of the threads so far
abbrev pub invariant-loop-seat : goal.invariant-loop-seat
invariant-loop-seat l = record {
  before : l.text.before ≡ l.fn.text.before;
  lines : l.text.added ≡ l.fn.text.added ++ flat_map thread_object (take l.seat l.names);
}
