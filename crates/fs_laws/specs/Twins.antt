-- Two runs by the same seats and calls.
use Rattle.std.specs.Prelude.{ℕ, ◌≡◌, ◌≤◌, Ok}
use Rattle.fs_calls.specs.declared.call.Call.{Call}
use Rattle.fs_names.specs.declared.limits.Limits.{Limits}
use Rattle.fs_calls.specs.Graphs.{graph_shapes}
use Rattle.fs_machine.specs.Headline.{IsIdle}
use Rattle.fs_machine.specs.States.{State, empty, begun_again, Begins, Step}
use Rattle.fs_machine.specs.declared.answers.Stepped.{Stepped}

-- both begin at the root alone, with the same limits; each event is of one seat and, where a call begins, of one call; and where no call is under way, both timelines may begin again; what the machine answers and which number it reserves may differ
pub data Twins : State → State → Type 0 where
  Started : (limits : Limits) (limit : ℕ) → 1 ≤ limit → Twins (empty limits limit) (empty limits limit)
  Again : {first second : State} → Twins first second → IsIdle first → IsIdle second → Twins (begun_again first) (begun_again second)
  Began : {first second : State} (seat c d : ℕ) (call : Call) (new other : State) → Twins first second → Begins first seat call (Ok c) new → Begins second seat call (Ok d) other → Twins new other
  Went : {first second : State} (seat : ℕ) (answer reply : Stepped) (new other : State) → Twins first second → Step first seat answer new → Step second seat reply other → Twins new other

-- they have one timeline and one spelled tree
pub record AreOne (a b : State) : Type 0 where
  pub timeline : b.timeline ≡ a.timeline
  pub spelled : graph_shapes b.graph ≡ graph_shapes a.graph
