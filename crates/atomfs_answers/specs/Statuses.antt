-- The exit statuses.
use Rattle.std.specs.List.{list_any}
use Rattle.std.specs.Prelude.{ℕ, List, Bool, ◌==◌, if◌then◌else◌, Result, Ok, Err, Option, Some, None}
use Rattle.fs_linearize_dialects.specs.declared.fault.DialectFault.{DialectFault}
use Rattle.fs_linearize_dialects.specs.declared.fault.TableFault.{TableFault}
use Rattle.fs_linearize_dialects.specs.declared.fault.TableFault.TheVariants as table
use Rattle.fs_sched.specs.declared.running.RunEnd.{RunEnd}
use Rattle.fs_sched.specs.Faults.{status_of_fault}
use Rattle.fs_verdict.specs.declared.checking.Checked.{Checked}
use Rattle.fs_verdict.specs.declared.fault.RunFault.{RunFault}
use Rattle.fs_linearize_text.specs.declared.answer.Linearized.{Linearized}
use Rattle.fs_linearize_text.specs.declared.answer.Outcome.{Outcome}
use Rattle.fs_linearize_text.specs.declared.answer.Outcome.TheVariants as outcome
use Rattle.fs_linearize_text.specs.declared.many.Histories.{Histories}
use Rattle.fs_linearize_text.specs.declared.learning.Learned.{Learned}
use Rattle.fs_linearize_text.specs.declared.learning.Learning.{Learning}
use Rattle.fs_linearize_text.specs.declared.learning.Learning.TheVariants as learning
use Rattle.fs_trace_replay.specs.Faults.{status_of_replay}
use Rattle.fs_trace_replay.specs.declared.fault.ReplayFault.{ReplayFault}
use Rattle.fs_trace_replay.specs.declared.running.Replayed.{Replayed}
use Rattle.fs_trace_entries.specs.declared.running.Traced.{Traced}
use Rattle.fs_sched_threads.specs.declared.fault.ThreadsFault.{ThreadsFault}
use Rattle.fs_sched_threads.specs.declared.fault.ThreadsFault.TheVariants.{Run, Lists}
use Rattle.fs_draw.specs.Faults.{status_of_draw}
use Rattle.fs_draw.specs.declared.fault.DrawFault.{DrawFault}
use Rattle.fs_sched_start.specs.Faults.{status_of_start}
use Rattle.fs_sched_start.specs.declared.fault.StartFault.{StartFault}
use Rattle.fs_sched_find.specs.Faults.{status_of_find}
use Rattle.fs_sched_shrink.specs.Faults.{status_of_shrink}
use Rattle.fs_sched_shrink.specs.declared.fault.ShrinkFault.{ShrinkFault}
use Rattle.fs_sched_outcomes.specs.Faults.{status_of_outcomes_fault}
use Rattle.fs_sched_outcomes.specs.declared.fault.OutcomesFault.{OutcomesFault}
use Rattle.fs_sched_outcomes.specs.declared.asserting.Counted.{Counted}
use Rattle.fs_sched_find.specs.declared.fault.FindFault.{FindFault}
use Rattle.fs_sched_find.specs.declared.reading.WhatFault.{WhatFault}
use Rattle.fs_sched_find.specs.declared.reading.WhatFault.TheVariants as words
use Rattle.fs_sched_outcomes.specs.Asserts.{all_hold}
use Rattle.fs_sched_outcomes.specs.declared.assertion.Assertion.{Assertion}
use Rattle.fs_linearize_minimal.specs.declared.minimizing.Minimized.{Minimized}
use Rattle.fs_linearize_minimal.specs.declared.minimizing.Minimized.TheVariants as minimized
use Rattle.fs_sched_shrink.specs.declared.shrinking.Shrunk.{Shrunk}
use Rattle.fs_trace.specs.Faults.{status_of_schedule}
use Rattle.fs_trace.specs.declared.fault.ScheduleFault.{ScheduleFault}

-- success where what was checked is lawful, else 1
abbrev pub status_of_verdict : Bool → ℕ
status_of_verdict lawful = if lawful then 0 else 1

-- the status that a command came to, or that of its fault: 4 where there was no worker
abbrev pub status_of : Result ℕ ThreadsFault → ℕ
status_of (Ok status) = status
status_of (Err (Run fault)) = status_of_fault fault
status_of (Err (Lists fault)) = 4

-- the status of a check, or of its fault
abbrev pub status_of_checked : Result Checked RunFault → ℕ
status_of_checked (Ok checked) = status_of_verdict checked.lawful
status_of_checked (Err fault) = status_of_fault fault

-- the status of what came of a history: success where a journal explains it, 4 where the limit was reached, else 1
abbrev pub status_of_outcome : Outcome → ℕ
status_of_outcome outcome.Lawful = 0
status_of_outcome outcome.NoOrder = 1
status_of_outcome outcome.Fault = 1
status_of_outcome outcome.Unknown = 4

abbrev pub status_of_linearized : Result Linearized RunFault → ℕ
status_of_linearized (Ok told) = status_of_outcome told.outcome
status_of_linearized (Err fault) = status_of_fault fault

-- success where the calls are written that show that a history has no order, 4 where the limit was reached, else 1
abbrev pub status_of_minimized : Result Minimized RunFault → ℕ
status_of_minimized (Ok (minimized.Core calls all trials)) = 0
status_of_minimized (Ok minimized.Lawful) = 2
status_of_minimized (Ok (minimized.Fault place kind)) = 1
status_of_minimized (Ok (minimized.Unknown place)) = 4
status_of_minimized (Err fault) = status_of_fault fault

-- success if rows explain each history, 2 if calls of one overlap, else 1
abbrev pub status_of_learning : Learning → ℕ
status_of_learning learning.Explained = 0
status_of_learning learning.Unexplained = 1
status_of_learning learning.Overlapping = 2

abbrev pub status_of_learned : Result Learned RunFault → ℕ
status_of_learned (Ok told) = status_of_learning told.outcome
status_of_learned (Err fault) = status_of_fault fault

-- whether one of them came to this status
abbrev pub has_status : ℕ → List Outcome → Bool
has_status status outcomes = list_any (λ o. status_of_outcome o == status) outcomes

-- the status of histories: 1 where no journal explains one of them, else 4 where the limit was reached, else success
abbrev pub status_of_outcomes : List Outcome → ℕ
status_of_outcomes outcomes = if has_status 1 outcomes then 1 else (if has_status 4 outcomes then 4 else 0)

-- the status of a text that is no table of errors: 3, or 4 where there is no memory
abbrev pub status_of_table_fault : TableFault → ℕ
status_of_table_fault table.OutOfMemory = 4
status_of_table_fault k = 3

abbrev pub status_of_table : DialectFault → ℕ
status_of_table fault = status_of_table_fault fault.kind

-- the status that histories came to
abbrev pub status_of_many : Result Histories RunFault → ℕ
status_of_many (Ok told) = status_of_outcomes told.outcomes.items
status_of_many (Err fault) = status_of_fault fault

-- the same of a run from a tree
abbrev pub status_of_started : Result ℕ StartFault → ℕ
status_of_started (Ok status) = status
status_of_started (Err fault) = status_of_start fault

-- the same of a schedule that is written
abbrev pub status_of_scheduled : Result ℕ ScheduleFault → ℕ
status_of_scheduled (Ok status) = status
status_of_scheduled (Err fault) = status_of_schedule fault

-- success where a run was found, 1 where none was
abbrev pub status_of_seed : Option ℕ → ℕ
status_of_seed (Some seed) = 0
status_of_seed None = 1

abbrev pub status_of_found : Result (Option ℕ) FindFault → ℕ
status_of_found (Ok found) = status_of_seed found
status_of_found (Err fault) = status_of_find fault

-- success where all assertions hold, by the first runs that decide them, else 1
abbrev pub status_of_counted : List Assertion → Result Counted OutcomesFault → ℕ
status_of_counted asserts (Ok counted) = status_of_verdict (all_hold asserts counted.decided.items)
status_of_counted asserts (Err fault) = status_of_outcomes_fault fault

-- success where a script was shrunk, 1 where its run has not what is said
abbrev pub status_of_left : Option Shrunk → ℕ
status_of_left (Some shrunk) = 0
status_of_left None = 1

abbrev pub status_of_shrunk : Result (Option Shrunk) ShrinkFault → ℕ
status_of_shrunk (Ok shrunk) = status_of_left shrunk
status_of_shrunk (Err fault) = status_of_shrink fault

-- words that say nothing of a run are a usage error
abbrev pub status_of_words : WhatFault → ℕ
status_of_words words.OutOfMemory = 4
status_of_words f = 2

-- the same of a picture
abbrev pub status_of_drawn : Result ℕ DrawFault → ℕ
status_of_drawn (Ok status) = status
status_of_drawn (Err fault) = status_of_draw fault

-- the same of what was asked of trees: 1 where it was not found, or a journal is not lawful
abbrev pub status_of_replayed : Result Replayed ReplayFault → ℕ
status_of_replayed (Ok replayed) = status_of_verdict replayed.well
status_of_replayed (Err fault) = status_of_replay fault

-- the same of a trace: 1 where calls are left, or a journal is not lawful
abbrev pub status_of_traced : Result Traced RunFault → ℕ
status_of_traced (Ok traced) = status_of_verdict traced.well
status_of_traced (Err fault) = status_of_fault fault

-- success where every call of the script returned, else 1
abbrev pub status_of_run : RunEnd → ℕ
status_of_run end = if end.returned == end.calls then 0 else 1
