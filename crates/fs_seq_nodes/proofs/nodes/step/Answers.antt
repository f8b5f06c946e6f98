use Rattle.std.proofs.Common.{ap, sym, subst, ◌∙◌, Some, Err, refl}
use Rattle.fs_seq_nodes.specs.code.Nodes.{graph, pairs, Steps}
use Rattle.fs_seq_nodes.proofs.NodeLemmas.{place_got, rising_got, child_got, step_missing, step_file}
use Rattle.fs_seq_nodes.proofs.nodes.step.Goals as goal

pub node-requires : goal.node-requires
node-requires c =
    let at = place_got c.args.nodes.now c.args.at _ (c.index.ensures ∙ ap Some c.in-Dir.is) in
    rising_got (graph c.args.nodes.now) c.args.at _ (pairs c.in-Dir.links) c.requires.rising at refl

pub returns-in-File : goal.returns-in-File
returns-in-File c =
    let g = graph c.args.nodes.now in
    subst (λ e. Steps g c.args.at c.args.name.now (Err e)) (sym c.step_error.ensures) (step_file g c.args.at c.args.name.now _ (place_got c.args.nodes.now c.args.at _ (c.index.ensures ∙ ap Some c.in-File.is)))

pub returns-in-Some : goal.returns-in-Some
returns-in-Some c =
    let at = place_got c.args.nodes.now c.args.at _ (c.index.ensures ∙ ap Some c.in-Dir.is) in
    child_got (graph c.args.nodes.now) c.args.at c.args.name.now _ at ∙ sym c.node.ensures ∙ c.in-Some.is

pub returns-in-None : goal.returns-in-None
returns-in-None c =
    let at = place_got c.args.nodes.now c.args.at _ (c.index.ensures ∙ ap Some c.in-Dir.is) in
    let g = graph c.args.nodes.now in
    subst (λ e. Steps g c.args.at c.args.name.now (Err e)) (sym c.step_error-in-None.ensures) (step_missing g c.args.at c.args.name.now _ at (sym c.node.ensures ∙ c.in-None.is))
