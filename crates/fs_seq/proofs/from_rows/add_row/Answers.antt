use Rattle.fs_seq_nodes.specs.code.Nodes.{graph}
use Rattle.fs_seq.proofs.Appended.{forest_added, tree_added}
use Rattle.fs_seq_nodes.proofs.FormLemmas.{form_attached}
use Rattle.fs_seq.proofs.from_rows.add_row.Goals as goal

pub returns-clause-forest : goal.returns-clause-forest
returns-clause-forest c =
    forest_added c.args.limits (graph c.args.nodes.now) (graph c.attach.new.nodes) c.requires.forest c.args.row.now c.in-Some.dir c.in-Some.i c.in-Some.name.now c.in_ok-node.node c.in_ok-node.ensures.bare c.in-Some.ensures c.in_ok-attach.ensures.ok

pub returns-clause-tree : goal.returns-clause-tree
returns-clause-tree c = λ fit.
    tree_added c.args.limits (graph c.args.nodes.now) (graph c.attach.new.nodes) c.requires.forest c.args.row.now c.in-Some.dir c.in-Some.i c.in-Some.name.now c.in_ok-node.node c.in_ok-node.ensures.bare c.in-Some.ensures c.in_ok-attach.ensures.ok c.in_ok-node.ensures.node

pub returns-clause-form : goal.returns-clause-form
returns-clause-form c = form_attached c.args.limits (graph c.args.nodes.now) (graph c.attach.new.nodes) c.in-Some.dir c.in-Some.i c.in-Some.name.now _ c.in_ok-node.ensures.form c.in_ok-attach.ensures.ok
