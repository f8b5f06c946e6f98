-- What is made of the text of a history: what is written, and what is answered.
use Rattle.std.specs.Prelude.{◌≡◌, ℕ, List, Result, Ok, IfOk, IfErr}
use Rattle.fs_calls.specs.Starts.{Start}
use Rattle.fs_linearize_histories.specs.declared.heard.Heard.{Heard}
use Rattle.fs_words.specs.declared.fault.ScriptFault.{ScriptFault}
use Rattle.fs_verdict.specs.declared.shell.Made.{Made}
use Rattle.fs_verdict.specs.declared.fault.RunFault.{RunFault}
use Rattle.fs_verdict.specs.InputFaults.{IsFaultOf}
use Rattle.fs_linearize_minimal.specs.Minimizing.{IsMinimizing}
use Rattle.fs_linearize_minimal.specs.declared.minimizing.Minimized.{Minimized}

-- what is left of the history that was read, as it is answered and written
abbrev pub IsMinimizingOf : ℕ → Minimized → List ℕ → Result (Start × List Heard) ScriptFault → Type 0
IsMinimizingOf limit told text given = (h : Start × List Heard) × (given ≡ Ok h) × IsMinimizing h.0 h.1 limit told text

-- the text of what is left of the history that was read; or why there is none
pub record MakesMinimal (given : Result (Start × List Heard) ScriptFault) (limit : ℕ) (result : Result (Made Minimized) RunFault) : Type 0 where
  -- a text is made only of a history: the one that was read
  pub ok : IfOk result (λ made. IsMinimizingOf limit made.end made.text.items given)
  -- the fault is that of what was read, or memory ran out
  pub fault : IfErr result (IsFaultOf given)
