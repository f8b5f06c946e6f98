use Rattle.std.proofs.Common.{◌≡◌}
use Rattle.std.specs.List.{flat_map, range_with_len}
use Rattle.fs_sched_seen.specs.Calls.{places_at}
use Rattle.fs_sched_seen.proofs.places.places_of.Given as goal

abbrev pub invariant-loop-seat : goal.invariant-loop-seat
invariant-loop-seat l = l.places.items ≡ flat_map (places_at l.lists) (range_with_len 0 l.seat)
