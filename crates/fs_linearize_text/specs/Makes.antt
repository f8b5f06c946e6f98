-- What commands make of histories: what is written, and what is answered.
use Rattle.std.specs.Prelude.{◌≡◌, ℕ, Bool, List, [], ◌∷◌, map, Result, Ok, IfOk, IfErr}
use Rattle.fs_calls.specs.Starts.{Start}
use Rattle.fs_linearize_histories.specs.declared.heard.Heard.{Heard}
use Rattle.fs_linearize_histories.specs.Faults.{history_fault}
use Rattle.fs_linearize.specs.Results.{IsAnswerFor, fault_in}
use Rattle.fs_linearize.specs.declared.linearizing.Found.{Found}
use Rattle.fs_words.specs.declared.fault.ScriptFault.{ScriptFault}
use Rattle.fs_verdict.specs.declared.shell.Made.{Made}
use Rattle.fs_verdict.specs.declared.fault.RunFault.{RunFault}
use Rattle.fs_verdict.specs.InputFaults.{IsFaultOf}
use Rattle.fs_linearize_text.specs.Answers.{outcome_of}
use Rattle.fs_linearize_text.specs.Findings.{IsFoundOf}
use Rattle.fs_linearize_text.specs.Many.{many_text}
use Rattle.fs_linearize_text.specs.Learnings.{IsLearning}
use Rattle.fs_linearize_text.specs.declared.answer.Linearized.{Linearized}
use Rattle.fs_linearize_text.specs.declared.answer.Outcome.TheVariants.{Lawful}
use Rattle.fs_linearize_text.specs.declared.many.Histories.{Histories}
use Rattle.fs_linearize_text.specs.declared.learning.Learned.{Learned}

-- ---- of a history

-- what is answered of what is found of a history
pub record IsAnswered (f : Found) (told : Linearized) : Type 0 where
  -- what came of it
  pub outcome : told.outcome ≡ outcome_of f
  -- of a lawful one nothing is said in words
  pub quiet : told.outcome ≡ Lawful → told.reason.items ≡ []

-- what is found of a history, as it is written and answered
pub record IsMadeOf (h : Start × List Heard) (limit : ℕ) (front : Bool) (f : Found) (made : Made Linearized) : Type 0 where
  -- it is true of the history, and its text is written
  pub found : IsFoundOf h limit front f made.text.items
  -- and this is answered of it
  pub end : IsAnswered f made.end

-- the text of what is found of the history that was read; or why there is none
pub record MakesFound (given : Result (Start × List Heard) ScriptFault) (limit : ℕ) (front : Bool) (result : Result (Made Linearized) RunFault) : Type 0 where
  -- a text is made only of a history: the one that was read
  pub ok : IfOk result (λ made. (h : Start × List Heard) × (f : Found) × (given ≡ Ok h) × IsMadeOf h limit front f made)
  -- the fault is that of what was read, or memory ran out
  pub fault : IfErr result (IsFaultOf given)

-- ---- of several

-- histories that were read, or the fault of their text
abbrev pub Given : Type 0
Given = Result (List (Start × List Heard)) ScriptFault

-- what is found of a history is true of it, and its faults come first
pub record IsFoundFor (limit : ℕ) (h : Start × List Heard) (f : Found) : Type 0 where
  pub answer : IsAnswerFor h.0 h.1 limit f
  pub fault : fault_in f ≡ history_fault h.1

-- the same of each history
abbrev pub AreFoundFor : ℕ → List (Start × List Heard) → List Found → Type 0
AreFoundFor limit [] [] = Unit {0}
AreFoundFor limit [] (f ∷ fs) = ⊥
AreFoundFor limit (h ∷ hs) [] = ⊥
AreFoundFor limit (h ∷ hs) (f ∷ fs) = IsFoundFor limit h f × AreFoundFor limit hs fs

-- what is found of each history that was read, as it is answered and written
pub record IsManyOf (given : Given) (limit : ℕ) (told : Histories) (text : List ℕ) : Type 0 where
  pub histories : List (Start × List Heard)
  pub found : List Found
  -- these histories were read
  pub read : given ≡ Ok histories
  -- and this is found of each
  pub true_of : AreFoundFor limit histories found
  -- what came of each is answered, in order
  pub outcomes : told.outcomes.items ≡ map outcome_of found
  -- a line of each is written, and how many came to what
  pub text_is : text ≡ many_text found

-- the text of what is found of each history that was read; or why there is none
pub record MakesMany (given : Given) (limit : ℕ) (result : Result (Made Histories) RunFault) : Type 0 where
  -- a text is made only of histories: those that were read
  pub ok : IfOk result (λ made. IsManyOf given limit made.end made.text.items)
  -- the fault is that of what was read, or memory ran out
  pub fault : IfErr result (IsFaultOf given)

-- ---- a table that explains them

-- the table of what is learned of the histories that were read; or why there is none
pub record MakesLearned (given : Given) (result : Result (Made Learned) RunFault) : Type 0 where
  -- a table is made only of histories: those that were read
  pub ok : IfOk result (λ made. IsLearning given made.end made.text.items)
  -- the fault is that of what was read, or memory ran out
  pub fault : IfErr result (IsFaultOf given)
