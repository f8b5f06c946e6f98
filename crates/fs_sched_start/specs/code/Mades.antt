-- What is read of the texts of a script and of a tree.
use Rattle.std.specs.Prelude.{◌≡◌, ℕ, [], List, Option, Ok, Err}
use Rattle.fs_names.specs.Limits.{node_limit}
use Rattle.fs_names.specs.declared.limits.Limits.{Limits}
use Rattle.fs_calls.specs.Starts.{Start}
use Rattle.fs_nodes.specs.Stores.{graph_of}
use Rattle.fs_core.specs.CoreValues.{CoreValue, state_of}
use Rattle.fs_machine.specs.States.{IsStart, fresh}
use Rattle.fs_script.specs.Journals.{start_of}
use Rattle.fs_script.specs.Script.{script_of}
use Rattle.fs_sched.specs.Origins.{Fits}
use Rattle.fs_sched.specs.declared.origin.Origin.TheVariants as origin
use Rattle.fs_sched.specs.declared.policy.Policy.{Policy}
use Rattle.fs_verdict.specs.declared.fault.RunFault.TheVariants as run
use Rattle.fs_sched_start.specs.Faults.{IsTreeFault}
use Rattle.fs_sched_start.specs.Starts.{AreGiven, ArePlanned, HasTreeFault, HasTreeFaultAt}
use Rattle.fs_sched_start.specs.declared.given.Given.{Given}
use Rattle.fs_sched_start.specs.declared.planned.Planned.{Planned}
use Rattle.fs_sched_start.specs.declared.fault.StartFault.{StartFault}
use Rattle.fs_sched_start.specs.declared.fault.StartFault.TheVariants.{Run, Tree}

-- a core at the tree that a text has by these limits, on which nothing has begun
pub record IsCoreAt (limits : Limits) (text : List ℕ) (core : CoreValue) : Type 0 where
  pub start : start_of limits text ≡ Ok core.start
  pub fresh : state_of core ≡ fresh (node_limit core.start.limits) core.start (graph_of core.store)
  pub seats : core.seats ≡ []
  pub begins : IsStart (node_limit core.start.limits) core.start (graph_of core.store)
  pub fits : Fits limits core.start

-- why there is none: the text's fault, or out of memory
abbrev pub IsNoCore : Limits → List ℕ → StartFault → Type 0
IsNoCore limits text (Run run.OutOfMemory) = Unit {0}
IsNoCore limits text (Run f) = ⊥
IsNoCore limits text (Tree f) = IsTreeFault limits text f

-- a script and where its runs begin, by two texts
abbrev pub IsGiven : List ℕ → List ℕ → Given → Type 0
IsGiven tree input given = (start : Start) × AreGiven tree input given.script start × (given.from ≡ origin.Tree start)

-- why there are none: the input's fault, the tree's, or out of memory
abbrev pub IsFaultOfGiven : List ℕ → List ℕ → StartFault → Type 0
IsFaultOfGiven tree input (Run (run.Input f)) = script_of input ≡ Err f
IsFaultOfGiven tree input (Run run.OutOfMemory) = Unit {0}
IsFaultOfGiven tree input (Run f) = ⊥
IsFaultOfGiven tree input (Tree f) = HasTreeFault tree input (Tree f)

-- a script and the campaign of its runs, by two texts and a policy
abbrev pub IsPlanned : Option (List ℕ) → Policy → List ℕ → Planned → Type 0
IsPlanned tree by input planned = ArePlanned tree by input planned.script planned.campaign

-- why there are none: the input's fault, the tree's, or out of memory
abbrev pub IsFaultOfPlanned : Option (List ℕ) → List ℕ → StartFault → Type 0
IsFaultOfPlanned tree input (Run (run.Input f)) = script_of input ≡ Err f
IsFaultOfPlanned tree input (Run run.OutOfMemory) = Unit {0}
IsFaultOfPlanned tree input (Run f) = ⊥
IsFaultOfPlanned tree input (Tree f) = HasTreeFaultAt tree input (Tree f)
