use Rattle.std.proofs.Common.{take}
use Rattle.fs_nodes_places.specs.Plains.{plains}
use Rattle.fs_nodes_places.specs.code.Keys.{keys_of}
use Rattle.fs_nodes.specs.code.Indexes.{IsIndex}
use Rattle.fs_nodes.proofs.index.put_all.Given as goal

abbrev pub invariant-loop-node : goal.invariant-loop-node
invariant-loop-node l = IsIndex l.slots (take l.node (keys_of (plains l.places)))
