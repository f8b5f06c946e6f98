-- What is written of a script that threads ran.
use Rattle.std.specs.Prelude.{ℕ, ◌≡◌, Bool, true, false, List, ◌++◌, Ok, codes, decimal}
use Rattle.fs_names.specs.declared.limits.Limits.{Limits}
use Rattle.fs_calls.specs.Starts.{Start, root_start}
use Rattle.fs_calls.specs.declared.call.Call.{Call}
use Rattle.fs_timeline.specs.Timeline.{IsLawful}
use Rattle.fs_linearizable.specs.Linearizable.{history, IsLinearizable}
use Rattle.fs_timeline.specs.declared.entry.Entry.{Entry}
use Rattle.fs_timeline.specs.declared.verdict.Verdict.{Verdict}
use Rattle.fs_timeline.specs.declared.verdict.Verdict.TheVariants.{Lawful, Fault}
use Rattle.fs_script.specs.Journals.{journal_text}
use Rattle.fs_script.specs.Script.{script_of}
use Rattle.fs_script.specs.declared.script.Script.{Script}
use Rattle.fs_sched.specs.Checks.{verdict_line}
use Rattle.fs_sched.specs.Runs.{calls_in}
use Rattle.fs_sched.specs.RunTexts.{number_of}
use Rattle.fs_sched.specs.declared.run_texts.EntryKind.TheVariants as entry
use Rattle.fs_share.specs.Played.{ArePlayed}

-- the line of a lawful timeline in which so many calls returned
abbrev pub lawful_line : ℕ → List ℕ
lawful_line returned = codes "lawful calls " ++ (decimal returned ++ codes "\n")

-- the line of a verdict
abbrev pub line_of : ℕ → Verdict → List ℕ
line_of returned Lawful = lawful_line returned
line_of returned (Fault place kind) = verdict_line (Fault place kind)

-- what is written of a timeline: its journal, or the line that it is lawful
abbrev pub text_of : Bool → Start → List Entry → List ℕ
text_of true start es = journal_text start es
text_of false start es = lawful_line (number_of entry.Return es)

-- a timeline of lists of calls that threads played from the root alone, by these limits: it is lawful, and its history is linearizable; the calls of each list, and no others, began on the seat of its number, in order, and returned
pub record IsOfLists (limits : Limits) (lists : List (List Call)) (es : List Entry) : Type 0 where
  pub lawful : IsLawful (root_start limits) es
  pub linearizable : IsLinearizable (root_start limits) (history es)
  pub played : ArePlayed lists es
  pub returned : number_of entry.Return es ≡ calls_in lists

-- this is written of such a timeline
abbrev pub IsWrittenOf : Bool → Limits → List (List Call) → List ℕ → Type 0
IsWrittenOf journal limits lists text = (es : List Entry) × IsOfLists limits lists es × (text ≡ text_of journal (root_start limits) es)

-- the same of the script that a text has
abbrev pub IsTextOf : Bool → List ℕ → List ℕ → Type 0
IsTextOf journal input text = (script : Script) × (script_of input ≡ Ok script) × IsWrittenOf journal script.limits script.lists text
