-- A core at the root alone: what is said of a run from there is said of a run of the script.
use Rattle.std.proofs.Common.{◌≡◌, ◌≤◌, ℕ, length, List, sym, ap, ap₂, ◌∙◌, subst, Ok}
use Rattle.fs_names.specs.Limits.{node_limit}
use Rattle.fs_calls.specs.Starts.{Start}
use Rattle.fs_nodes.specs.Graphs.{Graph}
use Rattle.fs_nodes.specs.Stores.{graph_of}
use Rattle.fs_core.specs.CoreValues.{CoreValue, state_of}
use Rattle.fs_machine.specs.States.{State, empty, fresh}
use Rattle.fs_script.specs.Script.{script_of}
use Rattle.fs_script.specs.Limits.{call_limit}
use Rattle.fs_script.specs.declared.script.Script.{Script}
use Rattle.fs_sched.specs.EachRun.{HasShortNames, SomeIsReadAgain, EachIsReadAgain}
use Rattle.fs_sched.specs.Runs.{before_all, calls_in, StopsFrom, IsOutputFrom, IsOutput}
use Rattle.fs_sched.specs.code.Done.{IsStop}
use Rattle.fs_sched.specs.code.Mades.{IsRead}
use Rattle.fs_sched.specs.code.Stages.{IsWhy}
use Rattle.fs_sched.specs.declared.running.RunEnd.{RunEnd}
use Rattle.fs_sched.specs.declared.schedule.Schedule.{Schedule}
use Rattle.fs_sched.proofs.Filling.{is_stop}
use Rattle.fs_sched.proofs.OneText.{each_again, script_again}
use Rattle.fs_verdict.specs.declared.fault.RunFault.{RunFault}

module _ (schedule : Schedule) (script : Script) (core : CoreValue) (root : state_of core ≡ empty script.limits (node_limit script.limits)) where
  -- nothing has begun there
  pub root_fresh : state_of core ≡ fresh (node_limit core.start.limits) core.start (graph_of core.store)
  root_fresh = root ∙ sym (ap₂ (λ (start : Start) (graph : Graph). fresh (node_limit start.limits) start graph) (ap (λ (s : State). s.start) root) (ap (λ (s : State). s.graph) root))

  pub root_output : (end : RunEnd) (text : List ℕ) → IsOutputFrom schedule script (before_all (state_of core) (length script.lists)) end text → IsOutput schedule script end text
  root_output end text output = subst (λ (s : State). IsOutputFrom schedule script (before_all s (length script.lists)) end text) root output

  -- its tree has no names
  pub root_again : (input : List ℕ) → script_of input ≡ Ok script
      → (IsRead script → core.start.limits ≡ script.limits → HasShortNames script.limits core.start.tree → SomeIsReadAgain schedule script (before_all (state_of core) (length script.lists))) → EachIsReadAgain schedule input
  root_again input is again =
      let start : core.start ≡ (empty script.limits (node_limit script.limits)).start = ap (λ (s : State). s.start) root in
      let names : HasShortNames script.limits core.start.tree = subst (λ (t : Start). HasShortNames script.limits t.tree) (sym start) (tt, tt) in
      let some : SomeIsReadAgain schedule script (before_all (state_of core) (length script.lists)) = again (input, is) (ap (λ (t : Start). t.limits) start) names in
      script_again schedule input script is (each_again schedule script (subst (λ (s : State). SomeIsReadAgain schedule script (before_all s (length script.lists))) root some))

  pub root_stop : (fault : RunFault) → calls_in script.lists ≤ call_limit script.limits → IsWhy (StopsFrom schedule script (before_all (state_of core) (length script.lists))) fault → IsStop schedule script fault
  root_stop fault few why = is_stop schedule script fault few (subst (λ (s : State). IsWhy (StopsFrom schedule script (before_all s (length script.lists))) fault) root why)
