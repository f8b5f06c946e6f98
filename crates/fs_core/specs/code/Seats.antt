-- Moves of the call on a seat.
use Rattle.std.specs.Prelude.{ℕ, ◌≡◌, Option, Some, slice_get}
use Rattle.fs_nodes.specs.Seen.{seen}
use Rattle.fs_nodes.specs.Stores.{graph_of}
use Rattle.fs_ops_effects.specs.declared.plan.Plan.{Plan}
use Rattle.fs_machine.specs.declared.moves.Move.{Move}
use Rattle.fs_machine.specs.OpValues.{next_of}
use Rattle.fs_ops.specs.PlanOf.{IsPlan}
use Rattle.fs_core_seats.specs.declared.seat.Running.{Running}
use Rattle.fs_core.specs.CoreValues.{CoreValue}

-- the call on a seat, its number, and its next move
pub record MovesOn (machine : CoreValue) (seat call : ℕ) (move : Move) : Type 0 where
  pub running : Running
  pub on : slice_get machine.seats seat ≡ Some (Some running)
  pub number : running.call ≡ call
  pub next : next_of (graph_of machine.store) running.op ≡ move

-- whether another call gave it its place
abbrev pub PlacedOn : CoreValue → ℕ → Option ℕ → Type 0
PlacedOn machine seat place = (running : Running) → slice_get machine.seats seat ≡ Some (Some running) → running.place ≡ place

-- what its finish does, in the store as it is
abbrev pub PlansOn : CoreValue → ℕ → Plan → Type 0
PlansOn machine seat plan = (running : Running) → slice_get machine.seats seat ≡ Some (Some running) → IsPlan (seen machine.store) running.op plan
