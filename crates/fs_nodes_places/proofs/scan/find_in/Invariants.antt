use Rattle.std.proofs.Common.{◌≡◌, drop}
use Rattle.fs_nodes_places.specs.Stores.{child_in, child_from}
use Rattle.fs_nodes_places.proofs.scan.find_in.Given as goal

abbrev pub invariant-loop-i : goal.invariant-loop-i
invariant-loop-i l = child_from l.i (drop l.i l.places) l.dir l.name ≡ child_in l.places l.dir l.name
