use Rattle.std.proofs.Common.{length}
use Rattle.fs_calls.specs.Starts.{Start}
use Rattle.fs_script.specs.Journals.{started_from}
use Rattle.fs_script.specs.code.Starts.{AreTaken}
use Rattle.fs_script.proofs.journal.take_rows.Given as goal

abbrev pub invariant-lines : goal.invariant-lines
invariant-lines l = AreTaken l.limits l.fn.lines l.fn.rows.items l.rows.items l.numbers.items (λ (s : Start). started_from s.limits s.tree l.lines.number l.lines.lines)

abbrev pub decreases-lines : goal.decreases-lines
decreases-lines l = length l.lines.lines
