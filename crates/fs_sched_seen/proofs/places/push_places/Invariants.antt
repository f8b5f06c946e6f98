use Rattle.std.proofs.Common.{◌≡◌, ◌++◌}
use Rattle.fs_sched_seen.specs.Calls.{places_on}
use Rattle.fs_sched_seen.proofs.places.push_places.Given as goal

abbrev pub invariant-loop-turn : goal.invariant-loop-turn
invariant-loop-turn l = l.places.items ≡ l.fn.places.items ++ places_on l.seat l.turn
