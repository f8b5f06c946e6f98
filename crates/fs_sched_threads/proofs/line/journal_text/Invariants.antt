use Rattle.std.proofs.Common.{◌≡◌, ◌++◌, drop}
use Rattle.std.specs.List.{flat_map}
use Rattle.fs_text.specs.Journal.{entry_line}
use Rattle.fs_script.specs.Journals.{journal_text}
use Rattle.fs_sched_threads.proofs.line.journal_text.Given as goal

abbrev pub invariant-loop-entry : goal.invariant-loop-entry
invariant-loop-entry l = l.text.items ++ flat_map entry_line (drop l.entry-index l.entries) ≡ journal_text l.start l.entries
