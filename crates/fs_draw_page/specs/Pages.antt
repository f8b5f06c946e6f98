-- The page that plays a run or a journal.
use Rattle.std.specs.Prelude.{ℕ, ◌≡◌, Bool, true, false, List, [], ◌++◌, Ok, Some, codes}
use Rattle.fs_timeline.specs.declared.verdict.Verdict.{Verdict}
use Rattle.fs_sched.specs.Checks.{is_lawful, verdict_line, verdict_of}
use Rattle.fs_sched.specs.declared.running.RunEnd.{RunEnd}
use Rattle.fs_sched.specs.declared.schedule.Schedule.{Schedule}
use Rattle.fs_sched.specs.declared.schedule.Schedule.TheVariants.{Given}
use Rattle.fs_trace.specs.Traces.{IsTraceOf}
use Rattle.fs_verdict.specs.Checks.{is_journal}
use Rattle.fs_draw.specs.Pictures.{IsPictureOf, has_returned}
use Rattle.fs_draw_page.specs.Html.{printed, read_html}
use Rattle.fs_draw_page.specs.declared.template.TheConstants.{BEFORE, BETWEEN, AFTER}

-- a page with a picture and a text: they are in the page without a run, and what a browser reads of the text is this text
pub record IsPage (picture played page : List ℕ) : Type 0 where
  pub written : List ℕ
  pub parts : page ≡ BEFORE.now ++ (picture ++ (BETWEEN.now ++ (written ++ AFTER.now)))
  pub reads : read_html written ≡ Some (printed played)

-- the trace of a run of the script that an input has, which went well where each call returned
abbrev pub IsPlayedRun : Schedule → List ℕ → Bool → List ℕ → Type 0
IsPlayedRun schedule input well played = (end : RunEnd) × IsTraceOf schedule false input end played × (well ≡ has_returned end)

-- a journal with notes before it, and a line that has the verdict; it went well where it is lawful
abbrev pub IsPlayedJournal : List ℕ → List ℕ → Bool → List ℕ → Type 0
IsPlayedJournal notes input well played = (v : Verdict) × (verdict_of input ≡ Ok v) × (well ≡ is_lawful v) × (played ≡ notes ++ (codes "# " ++ (verdict_line v ++ input)))

-- what is played of an input: its journal, or a run of its script
abbrev pub IsPlayedAs : Bool → Schedule → List ℕ → Bool → List ℕ → Type 0
IsPlayedAs true schedule input well played = IsPlayedJournal [] input well played
IsPlayedAs false schedule input well played = IsPlayedRun schedule input well played

-- the page of an input's journal, where it has the first bytes of one, and else of a run of its script; and whether that went well
abbrev pub IsPageOf : Schedule → List ℕ → Bool → List ℕ → Type 0
IsPageOf schedule input well page = (played picture : List ℕ) × (shown : Bool) × IsPlayedAs (is_journal input) schedule input well played × IsPictureOf schedule input shown picture × IsPage picture played page

-- the page of a journal with notes on it
abbrev pub IsNotedPage : List ℕ → List ℕ → Bool → List ℕ → Type 0
IsNotedPage notes journal well page = (played picture : List ℕ) × (shown : Bool) × IsPlayedJournal notes journal well played × IsPictureOf Given journal shown picture × IsPage picture played page
