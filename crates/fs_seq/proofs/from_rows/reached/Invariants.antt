use Rattle.std.proofs.Common.{◌≡◌, take, Some}
use Rattle.fs_seq_nodes.specs.code.Nodes.{graph}
use Rattle.fs_seq_nodes.specs.code.Slots.{walk}
use Rattle.fs_seq.proofs.from_rows.reached.Given as goal

-- the names so far lead to the node
abbrev pub invariant-loop-name : goal.invariant-loop-name
invariant-loop-name l = walk (graph l.nodes) (take l.name-index l.names) ≡ Some l.at
