-- The verdict on a journal text, and its line.
use Rattle.std.specs.Prelude.{ℕ, ◌==◌, Bool, true, false, List, ◌++◌, Result, Ok, Err, codes, decimal}
use Rattle.std.specs.List.{starts_with}
use Rattle.fs_calls.specs.Starts.{Start}
use Rattle.fs_timeline.specs.declared.entry.Entry.{Entry}
use Rattle.fs_timeline.specs.Verdicts.{verdict}
use Rattle.fs_timeline.specs.declared.verdict.Verdict.{Verdict}
use Rattle.fs_timeline.specs.declared.verdict.Verdict.TheVariants.{Lawful, Fault}
use Rattle.fs_timeline.specs.declared.verdict.FaultKind.{FaultKind}
use Rattle.fs_timeline.specs.declared.verdict.FaultKind.TheVariants as kind
use Rattle.fs_script.specs.Journals.{journal_of}
use Rattle.fs_words.specs.declared.fault.ScriptFault.{ScriptFault}

-- the word of a kind of fault
abbrev pub kind_word : FaultKind → List ℕ
kind_word kind.BeginTwice = codes "BeginTwice"
kind_word kind.SeatBusy = codes "SeatBusy"
kind_word kind.CommitUnbegun = codes "CommitUnbegun"
kind_word kind.CommitTwice = codes "CommitTwice"
kind_word kind.ReturnUncommitted = codes "ReturnUncommitted"
kind_word kind.ReturnTwice = codes "ReturnTwice"
kind_word kind.WrongReply = codes "WrongReply"

-- whether a text that may be a journal or a script is to be read as a journal: it has the first bytes of one
abbrev pub is_journal : List ℕ → Bool
is_journal input = starts_with (λ a b. a == b) input (codes "atomfs-journal")

-- whether a verdict is Lawful
abbrev pub is_lawful : Verdict → Bool
is_lawful Lawful = true
is_lawful (Fault place k) = false

-- how a verdict is written
abbrev pub verdict_line : Verdict → List ℕ
verdict_line Lawful = codes "lawful\n"
verdict_line (Fault place k) = codes "fault " ++ (decimal place ++ (codes " " ++ (kind_word k ++ codes "\n")))

-- the verdict on the entries of the journal that was read, from its start, or the fault of the text
abbrev pub judged : Result (Start × List Entry) ScriptFault → Result Verdict ScriptFault
judged (Ok journal) = Ok (verdict journal.0 journal.1)
judged (Err f) = Err f

-- the verdict on a journal text, or the text's first fault
abbrev pub verdict_of : List ℕ → Result Verdict ScriptFault
verdict_of text = judged (journal_of text)
