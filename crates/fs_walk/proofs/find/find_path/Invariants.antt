use Rattle.std.proofs.Common.{◌≡◌, drop}
use Rattle.fs_nodes.specs.Graphs.{at}
use Rattle.fs_nodes.specs.Stores.{child}
use Rattle.fs_walk.proofs.find.find_path.Given as goal

-- what is left of the path leads on from the node that was found
abbrev pub invariant-loop-i : goal.invariant-loop-i
invariant-loop-i l = at (child l.store) 0 l.path ≡ at (child l.store) l.node (drop l.i l.path)
