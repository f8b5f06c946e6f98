-- Runs from a tree: what is said of one is said of each.
use Rattle.std.proofs.Common.{◌≡◌, ◌≢◌, ◌<◌, ◌^◌, ℕ, true, List, length, Option, Some, None, Result, Ok, sym, ap, ◌∙◌, subst}
use Rattle.std.specs.List.{list_any}
use Rattle.fs_calls.specs.Starts.{Start}
use Rattle.fs_nodes.specs.Stores.{graph_of}
use Rattle.fs_timeline.specs.declared.entry.Entry.{Entry}
use Rattle.fs_core.specs.CoreValues.{CoreValue, state_of}
use Rattle.fs_machine.specs.States.{State, Run}
use Rattle.fs_laws.proofs.journal.ViewOfTimeline.{linearizes}
use Rattle.fs_linearizable.proofs.LawfulLemmas.{lawful_is_linearizable}
use Rattle.fs_words.specs.declared.fault.ScriptFault.{ScriptFault}
use Rattle.fs_script.specs.Journals.{start_of}
use Rattle.fs_script.specs.Script.{script_of}
use Rattle.fs_script.specs.declared.script.Script.{Script}
use Rattle.fs_sched.specs.Devices.{IsFaultOf}
use Rattle.fs_sched.specs.EachRun.{HasShortNames, SomeIsReadAgain}
use Rattle.fs_sched.specs.Laws.{AreOneRun}
use Rattle.fs_sched.specs.Runs.{Stage, before_all, StopsFrom, AreOfRun, IsOutputFrom, IsWhole, HasFinish}
use Rattle.fs_sched.specs.Schedules.{is_finish, schedule_by}
use Rattle.fs_sched.specs.code.Mades.{IsRead}
use Rattle.fs_sched.specs.code.Stages.{IsWhy}
use Rattle.fs_sched.specs.declared.origin.Origin.{Origin}
use Rattle.fs_sched.specs.declared.running.RunEnd.{RunEnd}
use Rattle.fs_sched.specs.declared.policy.Campaign.{Campaign}
use Rattle.fs_sched.specs.declared.policy.Policy.{Policy}
use Rattle.fs_sched.specs.declared.schedule.Schedule.{Schedule}
use Rattle.fs_sched.specs.declared.schedule.Schedule.TheVariants.{Given}
use Rattle.fs_sched.proofs.OneText.{one_from, of_one, one_again}
use Rattle.fs_sched.proofs.Whole.{last_keeps, whole_end, always_goes_on, finish_goes_on}
use Rattle.fs_verdict.specs.declared.fault.RunFault.{RunFault}
use Rattle.fs_verdict.specs.declared.fault.RunFault.TheVariants as run
use Rattle.fs_sched_start.specs.Laws.{OneRunFrom}
use Rattle.fs_sched.specs.Origins.{FillsBy, IsBefore, RunsAt, LacksRun}
use Rattle.fs_sched_start.specs.Starts.{AreGiven, ArePlanned, IsRunAt, AreOfEachRunAt, AreOfTheRunAt, IsLinearizableRunAt, EachIsReadAgainAt, IsFaultAt, IsFaultOfRunsAt, SomeFillsAt}
use Rattle.fs_sched_start.specs.code.Mades.{IsCoreAt, IsFaultOfGiven, IsFaultOfPlanned, IsNoCore}
use Rattle.fs_sched_start.specs.declared.fault.StartFault.{StartFault}
use Rattle.fs_sched_start.specs.declared.fault.StartFault.TheVariants.{Run as Runs, Tree}
use Rattle.fs_sched.proofs.Origins.{kept_first, same_before}
use Rattle.fs_sched.specs.declared.origin.Origin.TheVariants.{Tree as At}
use Rattle.fs_script.proofs.StartNames.{short_start}

-- ---- two runs

pub one_run_from : OneRunFrom
one_run_from schedule script start told other a b (first, is, runs) (second, is_second, runs_second) = one_from schedule script first second told other a b (same_before start (length script.lists) first second is is_second) runs runs_second

-- the script and the tree are one
script_is : (script other : Script) → ◌≡◌ {A = Result Script ScriptFault} (Ok other) (Ok script) → other ≡ script
script_is script other e = cc

start_is : (start other : Start) → ◌≡◌ {A = Result Start ScriptFault} (Ok other) (Ok start) → other ≡ start
start_is start other e = cc

record AreSame (script other : Script) (start begin : Start) : Type 0 where
  scripts : other ≡ script
  starts : begin ≡ start

given_same : (tree input : List ℕ) (script other : Script) (start begin : Start) → AreGiven tree input script start → AreGiven tree input other begin → AreSame script other start begin
given_same tree input script other start begin (is, at) (is_other, at_other) =
    let y : other ≡ script = script_is script other (sym is_other ∙ is) in
    record { scripts = y; starts = start_is start begin (sym at_other ∙ ap (λ (s : Script). start_of s.limits tree) y ∙ at) }

moved : (schedule : Schedule) (script other : Script) (start begin : Start) (told : List Entry) (last : Stage) → AreSame script other start begin → RunsAt schedule other begin told last → RunsAt schedule script start told last
moved schedule script other start begin told last same runs = subst (λ (t : Start). RunsAt schedule script t told last) same.starts (subst (λ (s : Script). RunsAt schedule s begin told last) same.scripts runs)

pub of_each_at : (schedule : Schedule) (tree input : List ℕ) (end : RunEnd) (text : List ℕ) → IsRunAt schedule tree input end text → AreOfTheRunAt schedule tree input end text
of_each_at schedule tree input end text (script, start, given, told, a, runs, are) = record { some = (script, start, given, told, a, runs, are); each = each }
  where
    each : AreOfEachRunAt schedule tree input end text
    each other begin more b given_other runs_other =
        let same : AreSame script other start begin = given_same tree input script other start begin given given_other in
        let one : AreOneRun told more a b = one_run_from schedule script start told more a b runs (moved schedule script other start begin more b same runs_other) in
        subst (λ (s : Script). AreOfRun s more b end text) (sym same.scripts) (of_one script told more a b end text one are)

each_again_at : (schedule : Schedule) (tree input : List ℕ) (script : Script) (start : Start) (first : Stage) → AreGiven tree input script start → IsBefore start (length script.lists) first → SomeIsReadAgain schedule script first → EachIsReadAgainAt schedule tree input
each_again_at schedule tree input script start first given before (told, a, runs, again) other begin more b given_other runs_other =
    let same : AreSame script other start begin = given_same tree input script other start begin given given_other in
    one_again told more a b (one_run_from schedule script start told more a b (first, before, runs) (moved schedule script other start begin more b same runs_other)) again

-- ---- from a core

module _ (schedule : Schedule) (tree input : List ℕ) (script : Script) (core : CoreValue) (is : script_of input ≡ Ok script) (at : IsCoreAt script.limits tree core) where
  are_given : AreGiven tree input script core.start
  are_given = (is, at.start)

  pub before_at : IsBefore core.start (length script.lists) (before_all (state_of core) (length script.lists))
  before_at = (graph_of core.store, at.begins, ap (λ (s : State). before_all s (length script.lists)) at.fresh)

  pub output_at : (end : RunEnd) (text : List ℕ) → IsOutputFrom schedule script (before_all (state_of core) (length script.lists)) end text → IsRunAt schedule tree input end text
  output_at end text (told, last, runs, are) = (script, core.start, are_given, told, last, (before_all (state_of core) (length script.lists), before_at, runs), are)

  pub again_at : (IsRead script → core.start.limits ≡ script.limits → HasShortNames script.limits core.start.tree → SomeIsReadAgain schedule script (before_all (state_of core) (length script.lists))) → EachIsReadAgainAt schedule tree input
  again_at again =
      let keeps : (core.start.limits ≡ script.limits) × HasShortNames script.limits core.start.tree = short_start script.limits tree core.start at.start in
      each_again_at schedule tree input script core.start (before_all (state_of core) (length script.lists)) are_given before_at (again (input, is) keeps.0 keeps.1)

  pub stop_at : (fault : RunFault) → IsWhy (StopsFrom schedule script (before_all (state_of core) (length script.lists))) fault → IsFaultAt schedule tree input (Runs fault)
  stop_at (run.Input f) why = absurd why
  stop_at run.Read why = absurd why
  stop_at run.Write why = absurd why
  stop_at run.OutOfMemory why = tt
  stop_at run.Full why = (script, core.start, are_given, (before_all (state_of core) (length script.lists), before_at, why))
  stop_at (run.UnderWay c) why = (script, core.start, are_given, (before_all (state_of core) (length script.lists), before_at, why))

-- there is no script, or no tree
pub of_input : (schedule : Schedule) (tree input : List ℕ) (fault : RunFault) → IsFaultOf (script_of input) fault → IsFaultAt schedule tree input (Runs fault)
of_input schedule tree input (run.Input f) is = is
of_input schedule tree input run.Read is = is
of_input schedule tree input run.Write is = is
of_input schedule tree input run.OutOfMemory is = is
of_input schedule tree input run.Full is = absurd is
of_input schedule tree input (run.UnderWay c) is = absurd is

pub of_tree : (schedule : Schedule) (tree input : List ℕ) (script : Script) (fault : StartFault) → script_of input ≡ Ok script → IsNoCore script.limits tree fault → IsFaultAt schedule tree input fault
of_tree schedule tree input script (Runs (run.Input f)) is none = absurd none
of_tree schedule tree input script (Runs run.Read) is none = absurd none
of_tree schedule tree input script (Runs run.Write) is none = absurd none
of_tree schedule tree input script (Runs run.OutOfMemory) is none = tt
of_tree schedule tree input script (Runs run.Full) is none = absurd none
of_tree schedule tree input script (Runs (run.UnderWay c)) is none = absurd none
of_tree schedule tree input script (Tree f) is none = (script, is, none)

-- ---- where rounds to the end follow

pub whole_at : (schedule : Schedule) (tree input : List ℕ) (end : RunEnd) (text : List ℕ) → IsRunAt schedule tree input end text → end.begun < 2 ^ 64 → schedule ≢ Given → IsWhole end
whole_at schedule tree input end text (script, start, both, told, last, (first, before, runs), (ended, spelled)) fits other =
    whole_end schedule script first told last end (kept_first (At start) script first before) runs ended (always_goes_on schedule script.words other) fits

pub finish_at : (schedule : Schedule) (tree input : List ℕ) (end : RunEnd) (text : List ℕ) → IsRunAt schedule tree input end text → end.begun < 2 ^ 64 → HasFinish input → IsWhole end
finish_at schedule tree input end text (script, start, (is, at), told, last, (first, before, runs), (ended, spelled)) fits (other, is_other, has) =
    let y : other ≡ script = script_is script other (sym is_other ∙ is) in
    whole_end schedule script first told last end (kept_first (At start) script first before) runs ended (finish_goes_on schedule script.words (subst (λ (s : Script). list_any is_finish s.words ≡ true) y has)) fits

-- ---- the history of a run is linearizable

pub linearizable_at : (schedule : Schedule) (tree input : List ℕ) (end : RunEnd) (text : List ℕ) → IsRunAt schedule tree input end text → IsLinearizableRunAt schedule tree input text
linearizable_at schedule tree input end text (script, start, given, told, last, (first, before, runs), (ended, spelled)) =
    let run : Run last.state = (last_keeps schedule script first told last (kept_first (At start) script first before) runs).run in
    (script, start, given, told, last, (first, before, runs), spelled, lawful_is_linearizable last.state.start last.state.timeline (linearizes last.state run).lawful)

-- ---- drawn runs

pub of_planned : (tree : Option (List ℕ)) (by : Policy) (seed runs : ℕ) (input : List ℕ) (fault : StartFault) → IsFaultOfPlanned tree input fault → IsFaultOfRunsAt tree by seed runs input fault
of_planned tree by seed runs input (Runs (run.Input f)) is = is
of_planned tree by seed runs input (Runs run.Read) is = absurd is
of_planned tree by seed runs input (Runs run.Write) is = absurd is
of_planned tree by seed runs input (Runs run.OutOfMemory) is = tt
of_planned tree by seed runs input (Runs run.Full) is = absurd is
of_planned tree by seed runs input (Runs (run.UnderWay c)) is = absurd is
of_planned tree by seed runs input (Tree f) is = is

-- a call of one of the runs begins when all numbers are in use: not from the root alone
fills_at : (tree : Option (List ℕ)) (by : Policy) (seed runs : ℕ) (input : List ℕ) (script : Script) (drawn : Campaign) → ArePlanned tree by input script drawn → LacksRun drawn script seed runs run.Full → SomeFillsAt tree by seed runs input
fills_at None by seed runs input script drawn planned (n, least, below, fills) = subst (λ (from : Origin). FillsBy from (schedule_by drawn.by n) script) planned.1 fills
fills_at (Some tree) by seed runs input script drawn planned lacks = (script, drawn, planned, lacks)

pub of_runs : (tree : Option (List ℕ)) (by : Policy) (seed runs : ℕ) (input : List ℕ) (script : Script) (drawn : Campaign) (fault : RunFault) → ArePlanned tree by input script drawn → LacksRun drawn script seed runs fault → IsFaultOfRunsAt tree by seed runs input (Runs fault)
of_runs tree by seed runs input script drawn (run.Input f) planned (n, least, below, is) = absurd is
of_runs tree by seed runs input script drawn run.Read planned (n, least, below, is) = absurd is
of_runs tree by seed runs input script drawn run.Write planned (n, least, below, is) = absurd is
of_runs tree by seed runs input script drawn run.OutOfMemory planned lacks = tt
of_runs tree by seed runs input script drawn run.Full planned lacks = fills_at tree by seed runs input script drawn planned lacks
of_runs tree by seed runs input script drawn (run.UnderWay c) planned (n, least, below, is) = absurd is

-- ---- the script and how its runs are drawn

-- from the root alone there is no text of a tree
pub root_planned : (input : List ℕ) (fault : RunFault) → IsFaultOf (script_of input) fault → IsFaultOfPlanned None input (Runs fault)
root_planned input (run.Input f) is = is
root_planned input run.Read is = absurd is
root_planned input run.Write is = absurd is
root_planned input run.OutOfMemory is = tt
root_planned input run.Full is = absurd is
root_planned input (run.UnderWay c) is = absurd is

pub tree_planned : (tree input : List ℕ) (fault : StartFault) → IsFaultOfGiven tree input fault → IsFaultOfPlanned (Some tree) input fault
tree_planned tree input (Runs (run.Input f)) is = is
tree_planned tree input (Runs run.Read) is = absurd is
tree_planned tree input (Runs run.Write) is = absurd is
tree_planned tree input (Runs run.OutOfMemory) is = tt
tree_planned tree input (Runs run.Full) is = absurd is
tree_planned tree input (Runs (run.UnderWay c)) is = absurd is
tree_planned tree input (Tree f) is = is

-- ---- the script and the tree that were read

pub none_given : (tree input : List ℕ) (script : Script) (fault : StartFault) → script_of input ≡ Ok script → IsNoCore script.limits tree fault → IsFaultOfGiven tree input fault
none_given tree input script (Runs (run.Input f)) is none = absurd none
none_given tree input script (Runs run.Read) is none = absurd none
none_given tree input script (Runs run.Write) is none = absurd none
none_given tree input script (Runs run.OutOfMemory) is none = tt
none_given tree input script (Runs run.Full) is none = absurd none
none_given tree input script (Runs (run.UnderWay c)) is none = absurd none
none_given tree input script (Tree f) is none = (script, is, none)

pub no_script : (tree input : List ℕ) (fault : RunFault) → IsFaultOf (script_of input) fault → IsFaultOfGiven tree input (Runs fault)
no_script tree input (run.Input f) is = is
no_script tree input run.Read is = absurd is
no_script tree input run.Write is = absurd is
no_script tree input run.OutOfMemory is = tt
no_script tree input run.Full is = absurd is
no_script tree input (run.UnderWay c) is = absurd is
