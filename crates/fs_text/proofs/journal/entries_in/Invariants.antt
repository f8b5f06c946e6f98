use Rattle.std.proofs.Common.{◌≡◌, length}
use Rattle.fs_words.proofs.ReadLemmas.{with_front}
use Rattle.fs_text.specs.Journal.{entries_from}
use Rattle.fs_text.proofs.journal.entries_in.Given as goal

abbrev pub invariant-lines : goal.invariant-lines
invariant-lines l = entries_from l.limits l.fn.lines.number l.fn.lines.lines ≡ with_front l.entries.items (entries_from l.limits l.left.number l.left.lines)

abbrev pub decreases-lines : goal.decreases-lines
decreases-lines l = length l.left.lines
