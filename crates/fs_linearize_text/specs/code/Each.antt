-- Histories that are read one after the other.
use Rattle.std.specs.Prelude.{◌≡◌, ◌+◌, ◌<◌, suc, ℕ, length, List, [], ◌∷◌, ◌++◌, map, Result, Ok, Err, if◌then◌else◌}
use Rattle.std.specs.List.{flat_map}
use Rattle.fs_calls.specs.Starts.{Start}
use Rattle.fs_linearize_histories.specs.declared.heard.Heard.{Heard}
use Rattle.fs_linearize.specs.declared.linearizing.Found.{Found}
use Rattle.fs_words.specs.declared.fault.ScriptFault.{ScriptFault}
use Rattle.fs_verdict.specs.declared.fault.RunFault.{RunFault}
use Rattle.fs_verdict.specs.declared.fault.RunFault.TheVariants.{Input, Read, Write, OutOfMemory, Full, UnderWay}
use Rattle.fs_linearize_text.specs.Many.{is_header, pieces_of, further, found_line}
use Rattle.fs_linearize_text.specs.Answers.{outcome_of}
use Rattle.fs_linearize_text.specs.declared.answer.Outcome.{Outcome}
use Rattle.fs_linearize_text.specs.Makes.{Given, IsFoundFor, AreFoundFor}

-- how many lines stand before the first header line
abbrev pub lines_before : List (List ℕ) → ℕ
lines_before [] = 0
lines_before (line ∷ lines) = if is_header line then 0 else suc (lines_before lines)

-- the first piece is cut from lines, of which others are left
pub record IsPieceCut (lines piece left : List (List ℕ)) : Type 0 where
  pub pieces : pieces_of lines ≡ piece ∷ pieces_of left
  pub all : length lines ≡ length piece + length left
  pub some : 0 < length piece

-- a fault is that of lines, of which so many stand before
abbrev pub IsFurther : ℕ → RunFault → RunFault → Type 0
IsFurther before (Input f) fault = fault ≡ Input (further before f)
IsFurther before Read fault = fault ≡ Read
IsFurther before Write fault = fault ≡ Write
IsFurther before OutOfMemory fault = fault ≡ OutOfMemory
IsFurther before Full fault = fault ≡ Full
IsFurther before (UnderWay c) fault = fault ≡ UnderWay c

-- what is found of a history that was read is true of it
abbrev pub IsFoundIn : Result (Start × List Heard) ScriptFault → ℕ → Found → Type 0
IsFoundIn (Ok h) limit f = IsFoundFor limit h f
IsFoundIn (Err fault) limit f = ⊥

-- what is found of a history that was read is added
pub record AddsPiece (given : Result (Start × List Heard) ScriptFault) (limit : ℕ) (old new : List Outcome) (text longer : List ℕ) : Type 0 where
  pub found : Found
  pub true_of : IsFoundIn given limit found
  pub outcomes : new ≡ old ++ outcome_of found ∷ []
  pub text_is : longer ≡ text ++ found_line found

-- what came of histories, and a line of each
pub record AreTold (given : Given) (limit : ℕ) (outcomes : List Outcome) (text : List ℕ) : Type 0 where
  pub histories : List (Start × List Heard)
  pub found : List Found
  pub read : given ≡ Ok histories
  pub true_of : AreFoundFor limit histories found
  pub outcomes_are : outcomes ≡ map outcome_of found
  pub text_is : text ≡ flat_map found_line found
