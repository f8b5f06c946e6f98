use Rattle.std.proofs.Common.{◌≡◌, drop}
use Rattle.fs_nodes.specs.Graphs.{at}
use Rattle.fs_nodes.specs.Stores.{child}
use Rattle.fs_core.proofs.filling.reached.Given as goal

-- what is left of the names leads on from the node that was found
abbrev pub invariant-loop-name : goal.invariant-loop-name
invariant-loop-name l = at (child l.store) 0 l.names ≡ at (child l.store) l.node (drop l.name-index l.names)
