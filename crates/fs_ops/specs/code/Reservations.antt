-- What a begin reserves.
use Rattle.std.specs.Prelude.{ℕ, ◌≡◌, ◌<◌, Option, Some, None}
use Rattle.fs_names.specs.Shapes.{Shape}
use Rattle.fs_nodes.specs.Graphs.{Graph, reserved_in}
use Rattle.fs_machine.specs.OpValues.{SpareIf}

-- a number that was not in use and that some new node has now
pub record IsReserved (graph : Graph) (limit : ℕ) (shape : Shape) (n : ℕ) (new : Graph) : Type 0 where
  pub within : n < limit
  pub free : graph.shape n ≡ None
  pub added : new ≡ reserved_in n shape graph

-- a number for a new node, if there may be one; it may be given back
abbrev pub Reserves : Graph → ℕ → Option Shape → Option ℕ → Graph → Type 0
Reserves graph limit None None new = new ≡ graph
Reserves graph limit None (Some n) new = ⊥
Reserves graph limit (Some shape) None new = ⊥
Reserves graph limit (Some shape) (Some n) new = IsReserved graph limit shape n new

-- a number was reserved where one is wanted, and it may be linked or released
pub record HasReserved (graph : Graph) (limit : ℕ) (shape : Option Shape) (number : Option ℕ) (new : Graph) : Type 0 where
  pub reserves : Reserves graph limit shape number new
  pub spare : SpareIf new number
