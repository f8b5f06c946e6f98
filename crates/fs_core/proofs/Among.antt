-- Each seat with a call under way stays among those that come first if that call goes on, or is helped.
use Rattle.std.proofs.Common.{ℕ, List, Option}
use Rattle.std.specs.Prelude.{slice_set}
use Rattle.fs_machine.specs.declared.moves.Move.{Move}
use Rattle.fs_machine.specs.declared.moves.Moved.{Moved}
use Rattle.fs_core_seats.specs.declared.seat.Running.{Running}
use Rattle.fs_core_seats.specs.code.Orders.{AreAmong}
use Rattle.fs_core_seats.proofs.Among.{changed}
use Rattle.fs_core.specs.CoreValues.{CoreValue}
use Rattle.fs_core.specs.code.Helping.{Helps}
use Rattle.fs_core.specs.code.Seats.{MovesOn}

pub among_moved : (m : CoreValue) (places : List ℕ) (count seat call : ℕ) (move : Move) (new : Option Running) → AreAmong m.seats places count → MovesOn m seat call move → AreAmong (slice_set m.seats seat new) places count
among_moved m places count seat call move new a x = changed m.seats places count seat x.running new a x.on

pub among_helped : (m : CoreValue) (moved : Moved) (places : List ℕ) (count seat : ℕ) (new : Option Running) → Helps m moved seat → AreAmong m.seats places count → AreAmong (slice_set m.seats seat new) places count
among_helped m moved places count seat new h a = changed m.seats places count seat h.running new a h.on
