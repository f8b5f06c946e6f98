use Rattle.std.proofs.Common.{◌≡◌, take, Some}
use Rattle.fs_seq_nodes.specs.code.Nodes.{graph}
use Rattle.fs_seq_nodes.specs.code.Slots.{walk}
use Rattle.fs_seq_nodes.proofs.nodes.resolve.Given as goal

-- the names so far lead to the node
abbrev pub invariant-loop-i : goal.invariant-loop-i
invariant-loop-i l = walk (graph l.nodes) (take l.i l.path) ≡ Some l.at
