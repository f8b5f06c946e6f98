-- What is made of scripts is honest.
use Rattle.std.proofs.Common.{◌≡◌, ℕ, Bool, true, false, List, Option, Some, None, Ok, Err, refl, sym, ◌∙◌, ap, subst}
use Rattle.fs_words.specs.Headers.{is_too_long}
use Rattle.fs_words.specs.declared.fault.ScriptFault.{ScriptFault}
use Rattle.fs_script.specs.Script.{script_of}
use Rattle.fs_script.specs.declared.script.Script.{Script}
use Rattle.fs_script.proofs.HeaderLemmas.{long_script}
use Rattle.fs_sched.proofs.RunLemmas.{script_short}
use Rattle.fs_sched.specs.declared.policy.Policy.{Policy}
use Rattle.fs_sched.specs.declared.schedule.Schedule.{Schedule}
use Rattle.fs_verdict.specs.Commands.{IsHonest, wrapped}
use Rattle.fs_verdict.specs.code.CommandLaws.{memory_of}
use Rattle.fs_verdict.specs.declared.fault.RunFault.{RunFault}
use Rattle.fs_verdict.specs.declared.fault.RunFault.TheVariants as run
use Rattle.fs_sched_start.specs.Makes.{MakesRunAt, MakesRunsAt}
use Rattle.fs_sched_start.specs.Starts.{HasTreeFaultAt, IsFaultAt, IsFaultOfRunsAt, SomeFillsAt}
use Rattle.fs_sched_start.specs.declared.fault.StartFault.{StartFault}
use Rattle.fs_sched_start.specs.declared.fault.StartFault.TheVariants.{Run, Tree}

-- ---- of a text that is too long there is no script

abbrev IsShort : Bool → Type 0
IsShort true = ⊥
IsShort false = Unit {0}

pub unread : (text : List ℕ) (script : Script) → is_too_long text ≡ true → script_of text ≡ Ok script → ⊥
unread text script long is = subst IsShort (sym (script_short text text script refl is) ∙ long) tt

-- and all of these have one fault
pub one_fault : (text input : List ℕ) (f : ScriptFault) → is_too_long text ≡ true → is_too_long input ≡ true → script_of text ≡ Err f → script_of input ≡ Err f
one_fault text input f long too is = long_script input too ∙ sym (long_script text long) ∙ is

-- ---- each fault of a run is wrapped as one of its own

abbrev pub run_in : RunFault → StartFault → RunFault
run_in other (Run fault) = fault
run_in other (Tree f) = other

pub runs_apart : (a b : RunFault) → Run a ≡ Run b → a ≡ b
runs_apart a b same = ap (run_in a) same

-- ---- a run from a tree

pub long_run : (schedule : Schedule) (tree text input : List ℕ) (fault : StartFault) → is_too_long text ≡ true → is_too_long input ≡ true → IsFaultAt schedule tree text fault → IsFaultAt schedule tree input fault
long_run schedule tree text input (Run (run.Input f)) long too is = one_fault text input f long too is
long_run schedule tree text input (Run run.Read) long too is = is
long_run schedule tree text input (Run run.Write) long too is = is
long_run schedule tree text input (Run run.OutOfMemory) long too is = tt
long_run schedule tree text input (Run run.Full) long too (script, start, given, stops) = absurd (unread text script long given.0)
long_run schedule tree text input (Run (run.UnderWay c)) long too (script, start, given, stops) = absurd (unread text script long given.0)
long_run schedule tree text input (Tree f) long too (script, is, none) = absurd (unread text script long is)

pub run_honest : (schedule : Schedule) (tree : List ℕ) → IsHonest (MakesRunAt schedule tree) (wrapped Run)
run_honest schedule tree = record {
  short = λ text made is. script_short text text is.ran.some.0 refl is.ran.some.2.0;
  long = λ text input fault long too is. record { ran = tt; linearizable = tt; again = tt; whole = tt; finish = tt; fault = long_run schedule tree text input fault long too is.fault };
  unblamed = λ text fault is. record { read = λ e. subst (IsFaultAt schedule tree text) e is.fault; write = λ e. subst (IsFaultAt schedule tree text) e is.fault };
  memory = memory_of Run runs_apart;
}

-- ---- drawn runs

long_fills : (tree : Option (List ℕ)) (by : Policy) (seed runs : ℕ) (text input : List ℕ) → is_too_long text ≡ true → SomeFillsAt tree by seed runs text → SomeFillsAt tree by seed runs input
long_fills None by seed runs text input long fills = fills
long_fills (Some tree) by seed runs text input long (script, drawn, planned, lacks) = absurd (unread text script long planned.0)

long_tree : (tree : Option (List ℕ)) (text input : List ℕ) (f : ScriptFault) → is_too_long text ≡ true → HasTreeFaultAt tree text (Tree f) → HasTreeFaultAt tree input (Tree f)
long_tree None text input f long has = has
long_tree (Some tree) text input f long (script, is, none) = absurd (unread text script long is)

pub long_runs : (tree : Option (List ℕ)) (by : Policy) (seed runs : ℕ) (text input : List ℕ) (fault : StartFault) → is_too_long text ≡ true → is_too_long input ≡ true → IsFaultOfRunsAt tree by seed runs text fault → IsFaultOfRunsAt tree by seed runs input fault
long_runs tree by seed runs text input (Run (run.Input f)) long too is = one_fault text input f long too is
long_runs tree by seed runs text input (Run run.Read) long too is = is
long_runs tree by seed runs text input (Run run.Write) long too is = is
long_runs tree by seed runs text input (Run run.OutOfMemory) long too is = tt
long_runs tree by seed runs text input (Run run.Full) long too is = long_fills tree by seed runs text input long is
long_runs tree by seed runs text input (Run (run.UnderWay c)) long too is = is
long_runs tree by seed runs text input (Tree f) long too is = long_tree tree text input f long is

pub seeds_honest : (tree : Option (List ℕ)) (by : Policy) (seed runs : ℕ) → IsHonest (MakesRunsAt tree by seed runs) (wrapped Run)
seeds_honest tree by seed runs = record {
  short = λ text made is. script_short text text is.ran.0 refl is.ran.2.0;
  long = λ text input fault long too is. record { ran = tt; lawful = tt; fault = long_runs tree by seed runs text input fault long too is.fault };
  unblamed = λ text fault is. record { read = λ e. subst (IsFaultOfRunsAt tree by seed runs text) e is.fault; write = λ e. subst (IsFaultOfRunsAt tree by seed runs text) e is.fault };
  memory = memory_of Run runs_apart;
}
