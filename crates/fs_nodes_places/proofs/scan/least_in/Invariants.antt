use Rattle.std.proofs.Common.{◌≡◌, drop}
use Rattle.std.specs.Option.{option_copied}
use Rattle.std.specs.List.{find}
use Rattle.fs_nodes_places.specs.Stores.{names_in, is_above}
use Rattle.fs_nodes_places.specs.code.Picks.{lesser}
use Rattle.fs_nodes_places.proofs.scan.least_in.Given as goal

abbrev pub invariant-loop-i : goal.invariant-loop-i
invariant-loop-i l = lesser (option_copied l.best) (find (is_above (option_copied l.low)) (names_in (drop l.i l.places) l.dir)) ≡ find (is_above (option_copied l.low)) (names_in l.places l.dir)
