-- What a core is to its callers, and the state of the machine that it is.
use Rattle.std.specs.Prelude.{ℕ, ◌≡◌, List, Option, None}
use Rattle.fs_calls.specs.Starts.{Start}
use Rattle.fs_nodes.specs.Stores.{Places}
use Rattle.fs_nodes.specs.Seen.{seen}
use Rattle.fs_nodes.specs.Stores.{graph_of}
use Rattle.fs_locks.specs.Holding.{holder}
use Rattle.fs_timeline.specs.declared.entry.Entry.{Entry}
use Rattle.fs_machine.specs.States.{State}
use Rattle.fs_core_seats.specs.declared.seat.Running.{Running}
pub use Rattle.fs_core_seats.specs.Seats.{running_on, number_of, number_on, record_from, records}

-- the tree at which the timeline begins, the nodes, who holds them, the call under way on each seat, the entries, the refusals
pub record CoreValue : Type 0 where
  pub start : Start
  pub store : Places
  pub holding : List (Option ℕ)
  pub seats : List (Option Running)
  pub timeline : List Entry
  pub refusals : ℕ

-- no call is under way: no seat has one
abbrev pub IsAtRest : CoreValue → Type 0
IsAtRest machine = (seat : ℕ) → number_on machine.seats seat ≡ None

-- the state that a core is in
abbrev pub state_of : CoreValue → State
state_of machine = record {
  limit = (seen machine.store).limit;
  start = machine.start;
  graph = graph_of machine.store;
  holder = holder machine.holding;
  ops = records machine.seats;
  on_seat = number_on machine.seats;
  timeline = machine.timeline;
}
