use Rattle.std.proofs.Common.{◌++◌, List, drop}
use Rattle.fs_linearize_histories.specs.declared.heard.Heard.{Heard}
use Rattle.fs_linearize_minimal.specs.Reasons.{AreOpen}
use Rattle.fs_linearize_minimal.proofs.reason.open_others.Given as goal

abbrev pub invariant-loop-entry : goal.invariant-loop-entry
invariant-loop-entry l = (rest : List Heard) → AreOpen l.call (drop l.entry-index l.entries) rest → AreOpen l.call l.entries (l.opened.items ++ rest)
