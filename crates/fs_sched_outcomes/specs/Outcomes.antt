-- The ends of drawn runs of a script.
use Rattle.std.specs.Prelude.{ℕ, ◌≡◌, ◌+◌, ◌-◌, ◌++◌, min, Bool, not, nat_lt, List, [], ◌∷◌, length, Option}
use Rattle.std.specs.List.{AllByRecursion, count_by, sum_by}
use Rattle.fs_timeline.specs.declared.entry.Entry.{Entry}
use Rattle.fs_script.specs.declared.script.Script.{Script}
use Rattle.fs_sched.specs.Origins.{DrawnOn}
use Rattle.fs_sched.specs.Runs.{Stage}
use Rattle.fs_sched.specs.declared.policy.Campaign.{Campaign}
use Rattle.fs_sched_seen.specs.Meetings.{pairs_in}
use Rattle.fs_sched_seen.specs.declared.meetings.Pairs.{Pairs}
use Rattle.fs_sched_seen.specs.declared.seen.Seen.{Seen}
use Rattle.fs_sched_outcomes.specs.Ends.{EndValue, IsEndOf, places_of}
use Rattle.fs_sched_outcomes.specs.Lines.{labels_of, rows_text, seen_text}
use Rattle.fs_sched_outcomes.specs.Sums.{AddsUp, AreInOrder, times_of}
use Rattle.fs_sched_outcomes.specs.declared.lines.Form.{Form}
use Rattle.fs_sched_outcomes.specs.declared.rows.Row.{Row}
use Rattle.fs_sched_outcomes.specs.declared.running.TheConstants.{LATELY}

-- the machine has the run of the script that is drawn from a number, and this is its end
abbrev pub EndsOn : Campaign → Script → ℕ → EndValue → Type 0
EndsOn drawn script n end = (last : Stage) × DrawnOn drawn n script [] last × IsEndOf (places_of script.lists) last.state end

-- a row is that of the run that is drawn from its number
abbrev pub IsOfItsRun : Campaign → Script → Row → Type 0
IsOfItsRun drawn script row = EndsOn drawn script row.seed row.end

-- rows of the runs that are drawn from a number, the next one, and so on: one for each
abbrev pub AreDrawn : Campaign → Script → ℕ → List Row → Type 0
AreDrawn drawn script n [] = Unit {0}
AreDrawn drawn script n (row ∷ rows) = (row.times ≡ 1) × (row.seed ≡ n) × IsOfItsRun drawn script row × AreDrawn drawn script (n + 1) rows

-- the ends of so many runs, drawn from a number, the next one, and so on
pub record AreOutcomes (drawn : Campaign) (script : Script) (seed runs : ℕ) (rows : List Row) : Type 0 where
  pub singles : List Row
  pub are_drawn : AreDrawn drawn script seed singles
  pub count : length singles ≡ runs
  pub adds_up : AddsUp singles rows
  pub of_runs : AllByRecursion (IsOfItsRun drawn script) rows
  pub total : sum_by times_of rows ≡ runs
  pub order : AreInOrder rows

-- ---- how much was seen

-- the timeline of the run that is drawn from a number
abbrev pub IsTimeline : Campaign → Script → ℕ → List Entry → Type 0
IsTimeline drawn script n es = (last : Stage) × DrawnOn drawn n script [] last × (es ≡ last.state.timeline)

-- those of the runs that are drawn from a number, the next one, and so on
abbrev pub AreTimelines : Campaign → Script → ℕ → List (List Entry) → Type 0
AreTimelines drawn script n [] = Unit {0}
AreTimelines drawn script n (es ∷ more) = IsTimeline drawn script n es × AreTimelines drawn script (n + 1) more

-- no run before that of this number had the end of a row
abbrev pub is_new : ℕ → Row → Bool
is_new n row = not (nat_lt row.seed n)

-- how much was seen in so many runs from a number on, by the rows of their ends and the pairs of calls
abbrev pub seen_in : List Row → ℕ → ℕ → Option Pairs → Seen
seen_in rows seed runs pairs =
    record { runs = runs; outcomes = length rows; new = count_by (is_new ((seed + runs) - min runs LATELY)) rows; lately = min runs LATELY; pairs = pairs }

-- this was seen in the runs of a script with these rows: a pair of calls met if it did in the timeline of one of the runs
abbrev pub IsSeen : Campaign → Script → ℕ → ℕ → List Row → Seen → Type 0
IsSeen drawn script seed runs rows seen =
    (timelines : List (List Entry)) × AreTimelines drawn script seed timelines × (length timelines ≡ runs) × (seen ≡ seen_in rows seed runs (pairs_in script.lists timelines))

-- the lines of the ends of these runs, and how much was seen in them
abbrev pub AreLinesOn : Campaign → Script → ℕ → ℕ → Form → Seen → List ℕ → Type 0
AreLinesOn drawn script seed runs form seen text =
    (rows : List Row) × AreOutcomes drawn script seed runs rows × IsSeen drawn script seed runs rows seen × (text ≡ rows_text form (labels_of script.names (places_of script.lists)) rows ++ seen_text form seen)
