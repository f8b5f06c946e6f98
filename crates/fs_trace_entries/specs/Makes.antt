-- What is made of an input.
use Rattle.std.specs.Prelude.{◌≡◌, ℕ, Bool, true, List, [], Result, IfOk, IfErr}
use Rattle.fs_verdict.specs.Checks.{is_journal}
use Rattle.fs_verdict.specs.declared.shell.Made.{Made}
use Rattle.fs_sched.specs.declared.schedule.Schedule.{Schedule}
use Rattle.fs_verdict.specs.declared.fault.RunFault.{RunFault}
use Rattle.fs_trace_replay.specs.Replays.{IsUntold}
use Rattle.fs_trace_entries.specs.Entries.{IsTraceAs}
use Rattle.fs_trace_entries.specs.declared.running.Notation.{Notation}
use Rattle.fs_trace_entries.specs.declared.running.Traced.{Traced}

-- the trace of an input that is read as a journal or as a script; or why there is none
pub record MakesTraceAs (notation : Notation) (journal : Bool) (schedule : Schedule) (every : Bool) (input : List ℕ) (result : Result (Made Traced) RunFault) : Type 0 where
  -- the text is that trace, and it went well where each call of the script returned, or the journal is lawful
  pub traced : IfOk result (λ made. IsTraceAs notation journal schedule every input made.end.well made.text.items)
  -- where it went well nothing is wrong, in words
  pub quiet : IfOk result (λ made. made.end.well ≡ true → made.end.reason.items ≡ [])
  -- the input is no such text, or the script's run has no end
  pub fault : IfErr result (IsUntold journal schedule input)

-- an input is read as a journal where it has the first bytes of one, and else as a script
abbrev pub MakesTrace : Notation → Schedule → Bool → List ℕ → Result (Made Traced) RunFault → Type 0
MakesTrace notation schedule every input result = MakesTraceAs notation (is_journal input) schedule every input result
