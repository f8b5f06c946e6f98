-- What a picture is of, and whether that went well.
use Rattle.std.specs.Prelude.{ℕ, ◌≡◌, Bool, true, false, ◌==◌, List, ◌++◌, Ok, codes}
use Rattle.fs_timeline.specs.declared.verdict.Verdict.{Verdict}
use Rattle.fs_script.specs.Script.{script_of}
use Rattle.fs_script.specs.declared.script.Script.{Script}
use Rattle.fs_verdict.specs.Checks.{is_journal}
use Rattle.fs_sched.specs.Checks.{is_lawful, verdict_of}
use Rattle.fs_sched.specs.Runs.{Stage, end_of}
use Rattle.fs_sched.specs.declared.running.RunEnd.{RunEnd}
use Rattle.fs_sched.specs.declared.schedule.Schedule.{Schedule}
use Rattle.fs_sched_witness.specs.Moments.{entries_told}
use Rattle.fs_sched.specs.Moments.{TellsRun}
use Rattle.fs_sched_witness.specs.declared.moments.Moment.{Moment}

-- whether each call of a script returned
abbrev pub has_returned : RunEnd → Bool
has_returned end = end.returned == end.calls

-- a run of the script that an input has went well where each call returned, in whichever piece
abbrev pub IsOfRun : Schedule → List ℕ → Bool → Type 0
IsOfRun schedule input well =
    (script : Script) × (script_of input ≡ Ok script) × (ms : List Moment) × (last : Stage) × TellsRun schedule script ms last × (well ≡ has_returned (end_of script (entries_told ms ++ last.state.timeline)))

-- a journal that an input has went well where it is lawful
abbrev pub IsOfJournal : List ℕ → Bool → Type 0
IsOfJournal input well = (v : Verdict) × (verdict_of input ≡ Ok v) × (well ≡ is_lawful v)

-- a text that is one element of XML, and its line feed
abbrev pub IsPicture : List ℕ → Type 0
IsPicture text = (middle : List ℕ) × (text ≡ codes "<svg " ++ (middle ++ codes "</svg>\n"))

-- what an input shows: its journal, or a run of its script
abbrev pub IsOf : Bool → Schedule → List ℕ → Bool → Type 0
IsOf true schedule input well = IsOfJournal input well
IsOf false schedule input well = IsOfRun schedule input well

-- the picture of an input's journal, where it has the first bytes of one, and else of a run of its script; and whether that went well
abbrev pub IsPictureOf : Schedule → List ℕ → Bool → List ℕ → Type 0
IsPictureOf schedule input well text = IsOf (is_journal input) schedule input well × IsPicture text
