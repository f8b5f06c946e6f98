-- What a core keeps beside its state: counters, room for holders, and places for the entries that are owed.
use Rattle.std.specs.Prelude.{ℕ, ◌≡◌, ◌+◌, ◌<◌, ◌≤◌, List, Option, Some, slice_get}
use Rattle.fs_names.specs.Limits.{in_blocks}
use Rattle.fs_names.specs.declared.limits.Limits.{Limits}
use Rattle.fs_names.specs.declared.limits.TheConstants.{NODE_LIMIT}
use Rattle.fs_nodes.specs.Seen.{seen}
use Rattle.fs_nodes.specs.Stores.{graph_of}
use Rattle.fs_locks.specs.Holding.{room}
use Rattle.fs_locks.specs.declared.word.TheConstants.{CALL_LIMIT}
use Rattle.fs_timeline.specs.Timeline.{begins, commit_count}
use Rattle.fs_machine.specs.States.{Run}
use Rattle.fs_core_seats.specs.declared.seat.Running.{Running}
use Rattle.fs_core_seats.specs.code.Owed.{walking, owed}
use Rattle.fs_core_seats.specs.code.Searches.{AreBelow}
use Rattle.fs_core.specs.CoreValues.{CoreValue, state_of}

-- each call under way keeps these limits
abbrev pub AllKeep : Limits → List (Option Running) → Type 0
AllKeep limits seats = (seat : ℕ) (running : Running) → slice_get seats seat ≡ Some (Some running) → running.op.limits ≡ limits

-- a state that a run gives, a limit on numbers that a core may have, files in blocks as the limits of the start say, which each call
-- under way keeps, a holder's place for each number in use, exact counters, no call whose number cannot hold a node, a place for each entry that is owed
pub record IsKept (machine : CoreValue) (begun commits reserved : ℕ) : Type 0 where
  pub run : Run (state_of machine)
  pub limited : (seen machine.store).limit ≤ NODE_LIMIT
  pub form : (seen machine.store).in_blocks ≡ in_blocks machine.start.limits
  pub limits : AllKeep machine.start.limits machine.seats
  pub roomy : AreBelow (graph_of machine.store) (room machine.holding)
  pub begun_is : begun ≡ begins machine.timeline
  pub few : begun < CALL_LIMIT
  pub commits_is : commits ≡ commit_count machine.timeline
  pub within : commits + walking machine.seats ≤ begun
  pub owed_is : owed machine.seats ≤ reserved
