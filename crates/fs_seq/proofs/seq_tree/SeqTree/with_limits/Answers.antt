use Rattle.std.proofs.Common.{ap}
use Rattle.fs_names.specs.Limits.{in_blocks}
use Rattle.fs_calls.specs.Tree.{Tree}
use Rattle.fs_seq_nodes.specs.code.Nodes.{graph}
use Rattle.fs_seq.proofs.Root.{first_node, forest_root, form_root, tree_root}
use Rattle.fs_seq.proofs.seq_tree.SeqTree.with_limits.Goals as goal

pub invariant_of-result : goal.invariant_of-result
invariant_of-result c =
    let first = first_node c.new-nodes.result c.insert.new.self c.in-Ok.field-0 c.new.result c.new-nodes.ensures.empty c.new-nodes.ensures.first_key c.in-Ok.ensures.key c.in-Ok.ensures.updates c.new.ensures in
    (forest_root (graph c.insert.new.self) first.0 first.1, form_root (graph c.insert.new.self) first.0 first.1 (in_blocks c.args.limits))

pub returns-in-Ok : goal.returns-in-Ok
returns-in-Ok c =
    let first = first_node c.new-nodes.result c.insert.new.self c.in-Ok.field-0 c.new.result c.new-nodes.ensures.empty c.new-nodes.ensures.first_key c.in-Ok.ensures.key c.in-Ok.ensures.updates c.new.ensures in
    ap (λ (t : Tree). record { limits = c.args.limits; tree = t }) (tree_root (graph c.insert.new.self) first.0 first.1)
