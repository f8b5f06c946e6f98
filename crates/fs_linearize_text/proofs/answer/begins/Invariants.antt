use Rattle.std.proofs.Common.{◌≡◌, ◌+◌, ◌≤◌, drop}
use Rattle.fs_timeline.specs.Timeline.{begins}
use Rattle.fs_linearize_text.proofs.answer.begins.Given as goal

abbrev pub invariant-loop-entry : goal.invariant-loop-entry
invariant-loop-entry l = record { all : l.count + begins (drop l.entry-index l.journal) ≡ begins l.journal; few : l.count ≤ l.entry-index }
