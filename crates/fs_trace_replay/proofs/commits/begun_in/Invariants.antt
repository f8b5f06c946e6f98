use Rattle.std.proofs.Common.{◌≡◌, ℕ, drop}
use Rattle.std.specs.Ordering.{nat_cmp}
use Rattle.std.specs.BTreeMap.{get}
use Rattle.fs_names.specs.Failures.{or_else}
use Rattle.fs_timeline.specs.Timeline.{call_of}
use Rattle.fs_trace_replay.specs.code.Seen.{call_in}
use Rattle.fs_trace_replay.proofs.commits.begun_in.Given as goal

abbrev pub invariant-loop-entry : goal.invariant-loop-entry
invariant-loop-entry l = (c : ℕ) → or_else (call_in (get nat_cmp l.begun c)) (call_of c (drop l.entry-index l.entries)) ≡ call_of c l.entries
