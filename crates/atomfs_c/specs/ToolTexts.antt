-- What tools over texts tell, by numbers.
use Rattle.std.specs.Prelude.{◌≡◌, ℕ, eqb, if◌then◌else◌, List, [], ◌∷◌, ◌++◌, Ok, Option, Some, None, codes}
use Rattle.fs_calls.specs.Starts.{Start}
use Rattle.fs_linearize_histories.specs.declared.heard.Heard.{Heard}
use Rattle.fs_linearize.specs.declared.linearizing.Found.{Found}
use Rattle.fs_linearize_text.specs.Answers.{outcome_of}
use Rattle.fs_linearize_text.specs.Texts.{history_of}
use Rattle.fs_linearize_text.specs.Findings.{IsFoundOf}
use Rattle.fs_linearize_text.specs.declared.answer.Outcome.{Outcome}
use Rattle.fs_linearize_text.specs.declared.answer.Outcome.TheVariants.{Lawful, NoOrder, Fault, Unknown}
use Rattle.fs_trace.specs.declared.fault.ScheduleFault.{ScheduleFault}
use Rattle.fs_trace.specs.declared.fault.ScheduleFault.TheVariants as unscheduled
use Rattle.fs_draw.specs.declared.fault.DrawFault.{DrawFault}
use Rattle.fs_draw.specs.declared.fault.DrawFault.TheVariants as undrawn
use Rattle.fs_embed.specs.Statuses.{IsToldFault}
use Rattle.fs_embed.specs.declared.status.TheConstants.{TOO_LARGE, NO_CALL}
use Rattle.atomfs_c.specs.declared.pictures.TheConstants.{WHOLE}
use Rattle.atomfs_c.specs.declared.found.TheConstants.{FRONT, WORDS}

-- ---- pictures and schedules

-- the call around which is drawn, but by the one number by which all is
abbrev pub around_of : ℕ → Option ℕ
around_of number = if eqb number WHOLE then None else Some number

-- a status and a line tell the fault of a picture
abbrev pub IsToldNoPicture : DrawFault → ℕ → ℕ → Type 0
IsToldNoPicture (undrawn.Run fault) status line = IsToldFault fault status line
IsToldNoPicture (undrawn.NoCall number) status line = status ≡ NO_CALL

-- of a schedule that is written: 0 is the line of no script
abbrev pub IsToldNoSchedule : ScheduleFault → ℕ → ℕ → Type 0
IsToldNoSchedule (unscheduled.Run fault) status line = IsToldFault fault status line
IsToldNoSchedule unscheduled.TooManyEvents status line = (status ≡ TOO_LARGE) × (line ≡ 0)
IsToldNoSchedule unscheduled.TooLong status line = (status ≡ TOO_LARGE) × (line ≡ 0)

-- ---- histories

-- the number of what came of a history
abbrev pub found_number : Outcome → ℕ
found_number Lawful = 0
found_number NoOrder = 1
found_number Fault = 2
found_number Unknown = 3

-- words as a line; no words are no line
abbrev pub line_of : List ℕ → List ℕ
line_of [] = []
line_of (byte ∷ bytes) = (byte ∷ bytes) ++ codes "\n"

-- the line of words, where the number asks for it
abbrev pub words_line : ℕ → List ℕ → List ℕ
words_line form words = if eqb form WORDS then line_of words else []

-- a number and a text tell what is found of the history that a text has, as it is written, and behind it words where they are asked for; of a journal that explains it there are none
pub record IsFoundText (history : List ℕ) (limit form number : ℕ) (text : List ℕ) : Type 0 where
  pub h : Start × List Heard
  pub f : Found
  pub written : List ℕ
  pub words : List ℕ
  pub read : history_of [] history ≡ Ok h
  pub found : IsFoundOf h limit (eqb form FRONT) f written
  pub number_is : number ≡ found_number (outcome_of f)
  pub quiet : outcome_of f ≡ Lawful → words ≡ []
  pub text_is : text ≡ written ++ words_line form words
