use Rattle.fs_nodes.specs.Stores.{child}
use Rattle.fs_core_seats.specs.code.Searches.{HasLeastOf}
use Rattle.fs_core_seats.proofs.helping.to_help.Given as goal

-- of the listed seats so far
abbrev pub invariant-loop-i : goal.invariant-loop-i
invariant-loop-i l = HasLeastOf (child l.store) l.seats l.fn.moved l.listed l.i l.chosen
