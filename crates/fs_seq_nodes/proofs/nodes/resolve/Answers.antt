use Rattle.std.proofs.Common.{◌∙◌, ap, take, drop, suc, add-one}
use Rattle.fs_seq_nodes.specs.code.Nodes.{graph}
use Rattle.fs_seq_nodes.specs.code.Slots.{walk, tree_of}
use Rattle.fs_calls.specs.Outcomes.{resolution}
use Rattle.fs_seq_nodes.proofs.NodeLemmas.{has_key, take_snoc, take_around}
use Rattle.fs_seq_nodes.proofs.Resolving.{walk_on, resolution_stuck}
use Rattle.fs_seq_nodes.proofs.nodes.resolve.Goals as goal

pub step-requires-clause-there : goal.step-requires-clause-there
step-requires-clause-there c = has_key c.args.nodes.now c.loop-i.at (c.requires.forest.inside _ _ c.loop-i.invariant)

pub returns-in-Err : goal.returns-in-Err
returns-in-Err c =
    let g = graph c.args.nodes.now in
    let p = c.args.path.now in
    let stuck = c.in-Err.ensures in
    ap (resolution (tree_of g)) (take_around p c.args.count c.loop-i.i c.name.result.now c.loop-i-test.true c.name.ensures)
    ∙ resolution_stuck g (take c.loop-i.i p) c.loop-i.at c.name.result.now (drop (suc c.loop-i.i) (take c.args.count p)) c.in-Err.errno c.requires.forest c.loop-i.invariant stuck.0 stuck.1

pub loop-i-preserved : goal.loop-i-preserved
loop-i-preserved c =
    let g = graph c.args.nodes.now in
    let p = c.args.path.now in
    rw add-one (ap (walk g) (take_snoc p c.loop-i.i c.name.result.now c.name.ensures) ∙ walk_on g (take c.loop-i.i p) c.loop-i.at c.name.result.now c.in-Ok.next c.loop-i.invariant c.in-Ok.ensures)
