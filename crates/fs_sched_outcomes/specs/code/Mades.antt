-- What runs and lines come to, one after the other.
use Rattle.std.specs.Prelude.{ℕ, ◌≡◌, ◌++◌, ◌∷◌, [], List, length, map, IsPermutation}
use Rattle.fs_timeline.specs.declared.entry.Entry.{Entry}
use Rattle.std.specs.List.{sum_by}
use Rattle.fs_script.specs.declared.script.Script.{Script}
use Rattle.fs_sched.specs.declared.policy.Campaign.{Campaign}
use Rattle.fs_sched_outcomes.specs.Ends.{EndValue}
use Rattle.fs_sched_outcomes.specs.Lines.{added_line, added_text}
use Rattle.fs_sched_outcomes.specs.Outcomes.{AreDrawn, AreTimelines, EndsOn, IsTimeline}
use Rattle.fs_sched_outcomes.specs.Sums.{AddsUp, AreInOrder, times_of}
use Rattle.fs_sched_outcomes.specs.code.Adding.{with_row}
use Rattle.fs_sched_seen.specs.code.Meetings.{HaveMet}
use Rattle.fs_sched_seen.specs.declared.meetings.Meetings.{Meetings}
use Rattle.fs_sched_outcomes.specs.declared.lines.Form.{Form}
use Rattle.fs_sched_outcomes.specs.declared.rows.Row.{Row}

-- the row of one run
abbrev pub single : ℕ → EndValue → Row
single n end = record { times = 1; seed = n; end = end }

-- the run that is drawn from a number is added to rows
abbrev pub AddsRun : Campaign → Script → ℕ → List Row → List Row → Type 0
AddsRun drawn script n old new = (end : EndValue) × EndsOn drawn script n end × (new ≡ with_row old (single n end))

-- rows add up so many runs
pub record HasRuns (drawn : Campaign) (script : Script) (seed runs : ℕ) (rows : List Row) : Type 0 where
  pub singles : List Row
  pub are_drawn : AreDrawn drawn script seed singles
  pub count : length singles ≡ runs
  pub adds_up : AddsUp singles rows
  pub total : sum_by times_of rows ≡ runs

-- the calls that met in the run that is drawn from a number are noted beside those of these timelines
abbrev pub NotesRun : Campaign → Script → ℕ → List (List Entry) → Meetings → Type 0
NotesRun drawn script n timelines m = (es : List Entry) × IsTimeline drawn script n es × HaveMet m (timelines ++ es ∷ [])

-- those that met in so many runs are noted
abbrev pub NotesRuns : Campaign → Script → ℕ → ℕ → Meetings → Type 0
NotesRuns drawn script seed runs m = (timelines : List (List Entry)) × AreTimelines drawn script seed timelines × (length timelines ≡ runs) × HaveMet m timelines

-- ---- lines that are added up

-- a line is that of a row, which is added to rows
abbrev pub AddsLine : List (List ℕ) → List ℕ → List Row → List Row → Type 0
AddsLine labels line old new = (row : Row) × (line ≡ added_line labels row) × (new ≡ with_row old row)

-- rows add up those of lines
abbrev pub HasLines : List (List ℕ) → List (List ℕ) → List Row → Type 0
HasLines labels lines rows = (given : List Row) × (lines ≡ map (added_line labels) given) × AddsUp given rows

-- a text has the lines of rows in their order
abbrev pub AreOrdered : Form → List (List ℕ) → List Row → List ℕ → Type 0
AreOrdered form labels rows text = (ordered : List Row) × IsPermutation rows ordered × AreInOrder ordered × (text ≡ added_text form labels ordered)
