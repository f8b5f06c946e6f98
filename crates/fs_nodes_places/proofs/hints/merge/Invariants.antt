use Rattle.std.proofs.Common.{◌≡◌}
use Rattle.fs_nodes_places.specs.code.Hints.{bared}
use Rattle.fs_nodes_places.proofs.hints.merge.Given as goal

abbrev pub invariant-loop : goal.invariant-loop
invariant-loop l = bared l.places ≡ bared l.fn.places
