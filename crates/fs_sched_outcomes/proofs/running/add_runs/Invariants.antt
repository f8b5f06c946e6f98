use Rattle.std.proofs.Common.{List}
use Rattle.fs_calls.specs.declared.call.Call.{Call}
use Rattle.fs_sched_seen.specs.code.Meetings.{IsOf}
use Rattle.fs_sched_outcomes.specs.code.Adding.{AreKept}
use Rattle.fs_sched_outcomes.specs.code.Mades.{HasRuns, NotesRuns}
use Rattle.fs_sched_outcomes.proofs.running.add_runs.Given as goal

abbrev pub invariant-loop-run : goal.invariant-loop-run
invariant-loop-run g l = record {
  kept : AreKept l.rows;
  has : HasRuns l.campaign l.script l.seed l.run l.rows.rows.items;
  met : NotesRuns l.campaign l.script l.seed l.run l.meetings;
  script : (lists : List (List Call)) → IsOf l.fn.meetings lists → IsOf l.meetings lists;
}
