-- The record after a let go and after a finish, and the graph after a let go and a return.
use Rattle.std.specs.Prelude.{ℕ, Bool, true, false, eqb, Option, Some, None}
use Rattle.fs_calls.specs.Graphs.{Graph, released_in}
use Rattle.fs_machine.specs.Finishes.{Effect}
use Rattle.fs_machine.specs.Moves.{left_holdings}
use Rattle.fs_machine.specs.Records.{Finished, Record}

-- whether a node is the one that a call removed
abbrev pub is_removed : Option ℕ → ℕ → Bool
is_removed None n = false
is_removed (Some m) n = eqb m n

-- a node that the call removed leaves the graph when it is let go
abbrev pub releasing : Bool → ℕ → Graph → Graph
releasing true n graph = released_in n graph
releasing false n graph = graph

-- and is then no longer noted as removed
abbrev pub cleared : Bool → Option ℕ → Option ℕ
cleared true removed = None
cleared false removed = removed

-- the record of a call that lets a node go
abbrev pub let_go : Record → ℕ → Record
let_go op n = record op { holdings = left_holdings op.phase op.holdings; removed = cleared (is_removed op.removed n) op.removed }

-- the record of a call that finishes
abbrev pub finished_op : Record → Effect → Record
finished_op op made = record op { phase = Finished made.reply; reserved = made.reserved; removed = made.removed }

-- a reserved number that was not used leaves the graph when the call returns
abbrev pub unreserved : Option ℕ → Graph → Graph
unreserved None graph = graph
unreserved (Some n) graph = released_in n graph
