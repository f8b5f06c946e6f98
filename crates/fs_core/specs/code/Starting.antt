-- The calls that hold nothing yet.
use Rattle.std.specs.Prelude.{ℕ, ◌≡◌, List, Option, Some, None, length, slice_get}
use Rattle.fs_calls.specs.Forms.{by_paths}
use Rattle.fs_core_seats.specs.declared.seat.Running.{Running}

-- the call of this number, which holds nothing and is not decided by its paths: it goes for the root, whatever the nodes are
pub record IsStarting (running : Running) (call : ℕ) : Type 0 where
  pub number : running.call ≡ call
  pub unfinished : running.op.reply ≡ None
  pub nothing : running.op.holdings ≡ None
  pub undecided : by_paths running.op.call ≡ None

-- a place for each seat, and the call that is noted there is on the seat
pub record AreStarting (starting : List (Option ℕ)) (seats : List (Option Running)) : Type 0 where
  pub places : length starting ≡ length seats
  pub on_seat : (seat call : ℕ) → slice_get starting seat ≡ Some (Some call) → (running : Running) × (slice_get seats seat ≡ Some (Some running)) × IsStarting running call
