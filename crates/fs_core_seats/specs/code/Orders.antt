-- The order of the seats in which those with a call under way come first.
use Rattle.std.specs.Prelude.{ℕ, ◌≡◌, ◌<◌, List, Option, Some, length, slice_get, slice_index}
use Rattle.fs_core_seats.specs.declared.seat.Running.{Running}

-- each seat stands at its place, and at each place stands the seat whose place it is
pub record AreOrdered (seats places : List ℕ) : Type 0 where
  pub same : length seats ≡ length places
  pub seat_within : (s : ℕ) → s < length places → slice_index places s < length seats
  pub seat_at : (s : ℕ) → s < length places → slice_index seats (slice_index places s) ≡ s
  pub place_within : (i : ℕ) → i < length seats → slice_index seats i < length places
  pub place_at : (i : ℕ) → i < length seats → slice_index places (slice_index seats i) ≡ i

-- a seat is among the first so many
abbrev pub IsAmong : List ℕ → ℕ → ℕ → Type 0
IsAmong places count seat = slice_index places seat < count

-- a list has this seat
abbrev pub IsListed : List ℕ → ℕ → Type 0
IsListed listed seat = (i : ℕ) × (i < length listed) × (slice_index listed i ≡ seat)

-- a place for each seat, and each seat with a call under way is among the first
pub record AreAmong (seats : List (Option Running)) (places : List ℕ) (count : ℕ) : Type 0 where
  pub places_are : length places ≡ length seats
  pub among : (seat : ℕ) (running : Running) → slice_get seats seat ≡ Some (Some running) → IsAmong places count seat

-- seats that are there, and each of those with a call under way
pub record AreListed (seats : List (Option Running)) (listed : List ℕ) : Type 0 where
  pub inside : (i : ℕ) → i < length listed → slice_index listed i < length seats
  pub each : (seat : ℕ) (running : Running) → slice_get seats seat ≡ Some (Some running) → IsListed listed seat
