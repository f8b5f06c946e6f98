-- What a witness was told of a run is what the run's moments tell.
use Rattle.std.proofs.Common.{◌≡◌, Bool, List, [], ◌∷◌, ◌++◌, Result, Ok, Err, OnOk, sym, ap, ◌∙◌, subst}
use Rattle.std.proofs.lemmas.Grind.{fold-append}
use Rattle.fs_machine.specs.States.{State}
use Rattle.fs_nodes.specs.Graphs.{Graph}
use Rattle.fs_nodes.specs.Stores.{graph_of}
use Rattle.fs_script.specs.declared.script.Script.{Script}
use Rattle.fs_sched.specs.Watching.{WatchesOn}
use Rattle.fs_sched.specs.declared.origin.Origin.{Origin}
use Rattle.fs_sched.specs.declared.schedule.Schedule.{Schedule}
use Rattle.fs_sched.specs.declared.watching.Ran.{Ran}
use Rattle.fs_sched_witness.specs.declared.moments.Moment.{Moment}
use Rattle.fs_sched_find.specs.Finds.{RunHasOn}
use Rattle.fs_sched_find.specs.Lives.{Lived, unlived, with_moment, lived}
use Rattle.fs_sched_find.specs.What.{Has}
use Rattle.fs_sched_find.specs.declared.what.Clause.{Clause}

-- a moment more
pub moment_more : {X E : Type 0} (r : Result X E) (old new : Lived) (before : List Moment) (m : Moment) → old ≡ lived before → OnOk r (new ≡ with_moment old m) → OnOk r (new ≡ lived (before ++ m ∷ []))
moment_more (Ok x) old new before m told is = is ∙ ap (λ (l : Lived). with_moment l m) told ∙ sym (fold-append with_moment unlived before (m ∷ []))
moment_more (Err e) old new before m told is = tt

-- what is said of what was told is said of the run
pub run_answers : (from : Origin) (schedule : Schedule) (script : Script) (what : List (List Clause)) (b : Bool) (old new : Lived) (ran : Ran) → old ≡ unlived
    → WatchesOn (λ (first : Lived) l ms. l ≡ lived ms) from schedule script old ran new → Has script.names new (graph_of ran.core.store) what b → RunHasOn from schedule script what b
run_answers from schedule script what b old new ran none w has =
    let told : new ≡ lived w.moments = w.hears old [] none in
    let graph : w.last.state.graph ≡ graph_of ran.core.store = ap (λ (s : State). s.graph) w.core in
    let of_run : Has script.names (lived w.moments) (graph_of ran.core.store) what b = subst (λ (l : Lived). Has script.names l (graph_of ran.core.store) what b) told has in
    (w.moments, w.last, w.tells, subst (λ (g : Graph). Has script.names (lived w.moments) g what b) (sym graph) of_run)
