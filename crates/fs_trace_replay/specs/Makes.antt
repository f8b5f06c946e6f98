-- What is made of an input.
use Rattle.std.specs.Prelude.{◌≡◌, true, List, [], ℕ, Result, IfOk, IfErr}
use Rattle.fs_verdict.specs.declared.shell.Made.{Made}
use Rattle.fs_sched.specs.declared.schedule.Schedule.{Schedule}
use Rattle.fs_trace_replay.specs.Replays.{IsFaultOfReplay, IsReplayOf}
use Rattle.fs_trace_replay.specs.declared.fault.ReplayFault.{ReplayFault}
use Rattle.fs_trace_replay.specs.declared.asking.Question.{Question}
use Rattle.fs_trace_replay.specs.declared.running.Replayed.{Replayed}

-- the answer to a question on an input; or why there is none
pub record MakesReplay (schedule : Schedule) (question : Question) (input : List ℕ) (result : Result (Made Replayed) ReplayFault) : Type 0 where
  -- the text answers the question, and it went well where what is asked for was found and all is lawful
  pub answer : IfOk result (λ made. IsReplayOf schedule input question made.end.well made.text.items)
  -- where it went well nothing is wrong, in words
  pub quiet : IfOk result (λ made. made.end.well ≡ true → made.end.reason.items ≡ [])
  -- the input is no journal and no script, its run has no end, or what is asked for is not there
  pub fault : IfErr result (IsFaultOfReplay schedule input question)
