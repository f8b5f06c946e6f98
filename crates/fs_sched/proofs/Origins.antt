-- Runs from where a script's runs begin.
use Rattle.std.proofs.Common.{◌≡◌, ℕ, ◌+◌, ◌≤◌, ◌<◌, List, [], length, refl, sym, ap, ◌∙◌, subst}
use Rattle.fs_names.specs.Limits.{node_limit}
use Rattle.fs_calls.specs.Starts.{Start}
use Rattle.fs_nodes.specs.Stores.{graph_of}
use Rattle.fs_timeline.specs.declared.entry.Entry.{Entry}
use Rattle.fs_core.specs.CoreValues.{CoreValue, state_of}
use Rattle.fs_machine.specs.States.{State, Run, Starting, IsStart, fresh}
use Rattle.fs_laws.proofs.Again.{begins_again}
use Rattle.fs_script.specs.Limits.{call_limit}
use Rattle.fs_script.specs.declared.script.Script.{Script}
use Rattle.fs_sched_witness.specs.Moments.{entries_told}
use Rattle.fs_sched_witness.specs.declared.moments.Moment.{Moment}
use Rattle.fs_sched.specs.Moments.{TellsFrom}
use Rattle.fs_sched.specs.Origins.{IsBefore, IsFirst, RunsOn, TellsOn, StopsAtSome, DrawnOn, HasNoRun, HasNoRunBy, LacksRun, from_root, tree_at}
use Rattle.fs_sched.specs.Runs.{Stage, before_all, start, calls_in, RunsFrom, StopsFrom}
use Rattle.fs_sched.specs.code.Done.{IsStop, IsStopOn}
use Rattle.fs_sched.specs.code.Stages.{IsWhy}
use Rattle.fs_sched.specs.declared.origin.Origin.{Origin}
use Rattle.fs_sched.specs.declared.origin.Origin.TheVariants.{Root, Tree}
use Rattle.fs_sched.specs.declared.schedule.Schedule.{Schedule}
use Rattle.fs_sched.specs.declared.policy.Campaign.{Campaign}
use Rattle.fs_sched.specs.declared.policy.Policy.{Policy}
use Rattle.fs_sched.specs.Schedules.{schedule_by}
use Rattle.fs_sched.proofs.Done.{why_weaker}
use Rattle.fs_sched.proofs.Drawn.{drawn_from, never_from}
use Rattle.fs_sched.proofs.Filling.{is_stop}
use Rattle.fs_sched.specs.Laws.{AreOneRun}
use Rattle.fs_sched.proofs.OneText.{Same, same_start, one_from}
use Rattle.fs_sched.proofs.SameStarts.{starts_alike}
use Rattle.fs_sched.proofs.Telling.{run_told}
use Rattle.fs_sched.proofs.Whole.{ListFacts, kept_fresh, kept_start}
use Rattle.fs_verdict.specs.declared.fault.RunFault.{RunFault}
use Rattle.fs_verdict.specs.declared.fault.RunFault.TheVariants as faults

-- where nothing has begun, the tree is one at which a timeline can begin
pub core_begins : (limit : ℕ) (core : CoreValue) → state_of core ≡ fresh limit core.start (graph_of core.store) → Run (state_of core) → IsStart limit core.start (graph_of core.store)
core_begins limit core is run = begins_again (fresh limit core.start (graph_of core.store)) (subst Run is run) (λ c. refl)

-- so a core on which nothing has begun stands before the first event at its tree
pub before_core : (core : CoreValue) (threads : ℕ) → state_of core ≡ fresh (node_limit core.start.limits) core.start (graph_of core.store) → Run (state_of core) → IsBefore core.start threads (before_all (state_of core) threads)
before_core core threads is run = (graph_of core.store, core_begins (node_limit core.start.limits) core is run, ap (λ (s : State). before_all s threads) is)

-- two first stages at one tree are one but for the numbers of nodes
pub same_before : (tree : Start) (threads : ℕ) (a b : Stage) → IsBefore tree threads a → IsBefore tree threads b → Same a b
same_before tree threads a b (g, is_g, e) (h, is_h, f) =
    subst (λ (x : Stage). Same x b) (sym e)
    (subst (λ (x : Stage). Same (before_all (fresh (node_limit tree.limits) tree g) threads) x) (sym f) (record {
      run = Starting (node_limit tree.limits) tree g is_g;
      other = Starting (node_limit tree.limits) tree h is_h;
      alike = starts_alike (node_limit tree.limits) tree g h is_g is_h;
      begun = refl;
    }))

pub same_first : (from : Origin) (script : Script) (a b : Stage) → IsFirst from script a → IsFirst from script b → Same a b
same_first Root script a b e f = subst (λ (x : Stage). Same x b) (sym e) (subst (Same (start script.limits (length script.lists))) (sym f) (same_start script.limits (length script.lists)))
same_first (Tree tree) script a b e f = same_before tree (length script.lists) a b e f

-- what the first stage keeps
pub kept_first : (from : Origin) (script : Script) (first : Stage) → IsFirst from script first → ListFacts script.lists [] first
kept_first Root script first is = subst (ListFacts script.lists []) (sym is) (kept_start script.limits script.lists)
kept_first (Tree tree) script first (graph, begins, is) = subst (ListFacts script.lists []) (sym is) (kept_fresh script.lists (node_limit tree.limits) tree graph (Starting (node_limit tree.limits) tree graph begins))

-- the tree of the first stage
pub first_tree : (from : Origin) (script : Script) (first : Stage) → IsFirst from script first → first.state.start ≡ tree_at from script.limits
first_tree Root script first is = ap (λ (s : Stage). s.state.start) is
first_tree (Tree tree) script first (graph, begins, is) = ap (λ (s : Stage). s.state.start) is

-- a run from a first stage is one from there, and so are its moments
pub runs_on : (from : Origin) (schedule : Schedule) (script : Script) (first : Stage) (told : List Entry) (last : Stage) → IsFirst from script first → RunsFrom schedule script first told last → RunsOn from schedule script told last
runs_on Root schedule script first told last is runs = subst (λ (s : Stage). RunsFrom schedule script s told last) is runs
runs_on (Tree tree) schedule script first told last is runs = (first, is, runs)

pub tells_on : (from : Origin) (schedule : Schedule) (script : Script) (first : Stage) (ms : List Moment) (last : Stage) → IsFirst from script first → TellsFrom schedule script first ms last → TellsOn from schedule script ms last
tells_on Root schedule script first ms last is tells = subst (λ (s : Stage). TellsFrom schedule script s ms last) is tells
tells_on (Tree tree) schedule script first ms last is tells = (first, is, tells)

-- and each has a first stage
pub run_first : (from : Origin) (schedule : Schedule) (script : Script) (told : List Entry) (last : Stage) → RunsOn from schedule script told last → (first : Stage) × IsFirst from script first × RunsFrom schedule script first told last
run_first Root schedule script told last runs = (start script.limits (length script.lists), refl, runs)
run_first (Tree tree) schedule script told last runs = runs

-- what the moments tell is the run
pub told_on : (from : Origin) (schedule : Schedule) (script : Script) (last : Stage) (ms : List Moment) → TellsOn from schedule script ms last → RunsOn from schedule script (entries_told ms) last
told_on Root schedule script last ms tells = run_told schedule script (start script.limits (length script.lists)) last ms tells
told_on (Tree tree) schedule script last ms (first, is, tells) = (first, is, run_told schedule script first last ms tells)

-- two runs of one script by one schedule from there are one
pub one_run_on : (from : Origin) (schedule : Schedule) (script : Script) (told other : List Entry) (a b : Stage) → RunsOn from schedule script told a → RunsOn from schedule script other b → AreOneRun told other a b
one_run_on from schedule script told other a b runs others =
    let (first, is, one) = run_first from schedule script told a runs in
    let (second, is_second, two) = run_first from schedule script other b others in
    one_from schedule script first second told other a b (same_first from script first second is is_second) one two

-- why a run stops
pub stop_on : (from : Origin) (schedule : Schedule) (script : Script) (first : Stage) (fault : RunFault) → IsFirst from script first → calls_in script.lists ≤ call_limit script.limits → IsWhy (StopsFrom schedule script first) fault → IsStopOn from schedule script fault
stop_on Root schedule script first fault is few why = is_stop schedule script fault few (subst (λ (s : Stage). IsWhy (StopsFrom schedule script s) fault) is why)
stop_on (Tree tree) schedule script first fault is few why = why_weaker (StopsFrom schedule script first) (StopsAtSome schedule script tree) (λ f stops. (first, is, stops)) fault why

-- a drawn run is one piece, from its tree
pub drawn_on : (drawn : Campaign) (n : ℕ) (script : Script) (told : List Entry) (last : Stage) → DrawnOn drawn n script told last → DrawnOn drawn n script [] last × (last.state.start ≡ tree_at drawn.from script.limits)
drawn_on drawn n script told last runs =
    let (first, is, one) = run_first drawn.from (schedule_by drawn.by n) script told last runs in
    let once : RunsFrom (schedule_by drawn.by n) script first [] last × (last.state.start ≡ first.state.start) = drawn_from drawn.by n script first told last one in
    (runs_on drawn.from (schedule_by drawn.by n) script first [] last is once.0, once.1 ∙ first_tree drawn.from script first is)

root_none : (by : Policy) (n : ℕ) (script : Script) (fault : RunFault) → IsStop (schedule_by by n) script fault → HasNoRunBy Root (schedule_by by n) script fault
root_none by n script (faults.Input f) stop = absurd stop
root_none by n script faults.Read stop = absurd stop
root_none by n script faults.Write stop = absurd stop
root_none by n script faults.OutOfMemory stop = tt
root_none by n script faults.Full stop = absurd stop
root_none by n script (faults.UnderWay c) stop = absurd (never_from by n script (start script.limits (length script.lists)) c stop)

tree_none : (tree : Start) (by : Policy) (n : ℕ) (script : Script) (fault : RunFault) → IsWhy (StopsAtSome (schedule_by by n) script tree) fault → HasNoRunBy (Tree tree) (schedule_by by n) script fault
tree_none tree by n script (faults.Input f) why = absurd why
tree_none tree by n script faults.Read why = absurd why
tree_none tree by n script faults.Write why = absurd why
tree_none tree by n script faults.OutOfMemory why = tt
tree_none tree by n script faults.Full why = why
tree_none tree by n script (faults.UnderWay c) (first, is, stops) = absurd (never_from by n script first c stops)

none_by : (from : Origin) (by : Policy) (n : ℕ) (script : Script) (fault : RunFault) → IsStopOn from (schedule_by by n) script fault → HasNoRunBy from (schedule_by by n) script fault
none_by Root by n script fault stop = root_none by n script fault stop
none_by (Tree tree) by n script fault stop = tree_none tree by n script fault stop

-- why there is no drawn run, and so one of many is missing
pub no_run : (drawn : Campaign) (n : ℕ) (script : Script) (fault : RunFault) → IsStopOn drawn.from (schedule_by drawn.by n) script fault → HasNoRun drawn script n fault
no_run drawn n script fault stop = none_by drawn.from drawn.by n script fault stop

pub lacks_run : (drawn : Campaign) (script : Script) (seed runs n : ℕ) (fault : RunFault) → seed ≤ n → n < seed + runs → HasNoRun drawn script n fault → LacksRun drawn script seed runs fault
lacks_run drawn script seed runs n (faults.Input f) least below none = (n, least, below, none)
lacks_run drawn script seed runs n faults.Read least below none = (n, least, below, none)
lacks_run drawn script seed runs n faults.Write least below none = (n, least, below, none)
lacks_run drawn script seed runs n faults.OutOfMemory least below none = tt
lacks_run drawn script seed runs n faults.Full least below none = (n, least, below, none)
lacks_run drawn script seed runs n (faults.UnderWay c) least below none = (n, least, below, none)

-- from the root alone only memory can be wanting
pub only_memory : (script : Script) (seed runs : ℕ) (fault : RunFault) → LacksRun from_root script seed runs fault → fault ≡ faults.OutOfMemory
only_memory script seed runs (faults.Input f) (n, least, below, none) = absurd none
only_memory script seed runs faults.Read (n, least, below, none) = absurd none
only_memory script seed runs faults.Write (n, least, below, none) = absurd none
only_memory script seed runs faults.OutOfMemory lacks = refl
only_memory script seed runs faults.Full (n, least, below, none) = absurd none
only_memory script seed runs (faults.UnderWay c) (n, least, below, none) = absurd none
