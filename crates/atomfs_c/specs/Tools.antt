-- What exports say of tools over texts.
use Rattle.std.specs.Prelude.{◌≡◌, ◌<◌, ◌⊎◌, ℕ, List, [], Option, Some, None}
use Rattle.fs_script.specs.Script.{script_of}
use Rattle.fs_sched.specs.declared.schedule.Schedule.{Schedule}
use Rattle.fs_sched.specs.declared.seeding.TheConstants.{SEED_LIMIT, RUN_LIMIT}
use Rattle.fs_linearize_text.specs.Texts.{history_of}
use Rattle.fs_linearize_text.specs.declared.linearizing.TheConstants.{CONFIGURATION_LIMIT}
use Rattle.fs_trace.specs.Faults.{IsFaultOfSchedule}
use Rattle.fs_trace.specs.declared.fault.ScheduleFault.{ScheduleFault}
use Rattle.fs_draw.specs.Faults.{IsFaultOfPicture}
use Rattle.fs_draw.specs.declared.fault.DrawFault.{DrawFault}
use Rattle.fs_embed.specs.Statuses.{TellsFault, TellsNoRun}
use Rattle.fs_embed.specs.declared.status.TheConstants.{BAD_CHOICE}
use Rattle.atomfs_c.specs.ToolTexts.{IsToldNoPicture, IsToldNoSchedule}
use Rattle.atomfs_c.specs.declared.found.TheConstants.{WORDS}

-- a status and a line tell why there is no trace: no schedule has the number, or the run has no text
abbrev pub TellsNoTrace : Option Schedule → List ℕ → ℕ → ℕ → Type 0
TellsNoTrace None script status line = status ≡ BAD_CHOICE
TellsNoTrace (Some schedule) script status line = TellsNoRun schedule script status line

-- a status and a line tell why there is no picture: no schedule has the number, or nothing of the text is drawn
abbrev pub TellsNoPicture : Option Schedule → Option ℕ → List ℕ → ℕ → ℕ → Type 0
TellsNoPicture None call text status line = status ≡ BAD_CHOICE
TellsNoPicture (Some schedule) call text status line = (why : DrawFault) × IsFaultOfPicture schedule call text why × IsToldNoPicture why status line

-- a status and a line tell why a script does not get the events of a run as its words
abbrev pub TellsNoSchedule : Option Schedule → List ℕ → ℕ → ℕ → Type 0
TellsNoSchedule None script status line = status ≡ BAD_CHOICE
TellsNoSchedule (Some schedule) script status line = (why : ScheduleFault) × IsFaultOfSchedule schedule script why × IsToldNoSchedule why status line

-- the numbers of drawn runs are outside their ranges
abbrev pub AreOutside : ℕ → ℕ → Type 0
AreOutside seed runs = (SEED_LIMIT < seed) ⊎ (runs ≡ 0) ⊎ (RUN_LIMIT < runs)

-- a status and a line tell why no runs are drawn
abbrev pub TellsNoSeeds : ℕ → ℕ → List ℕ → ℕ → ℕ → Type 0
TellsNoSeeds seed runs script status line = (AreOutside seed runs × (status ≡ BAD_CHOICE)) ⊎ TellsFault (script_of script) status line

-- the limit of a search is outside its range, or no form has the number
abbrev pub IsNoSearch : ℕ → ℕ → Type 0
IsNoSearch limit form = (limit ≡ 0) ⊎ (CONFIGURATION_LIMIT < limit) ⊎ (WORDS < form)

-- a status and a line tell why nothing is found of a history
abbrev pub TellsNothingFound : ℕ → ℕ → List ℕ → ℕ → ℕ → Type 0
TellsNothingFound limit form history status line = (IsNoSearch limit form × (status ≡ BAD_CHOICE)) ⊎ TellsFault (history_of [] history) status line
