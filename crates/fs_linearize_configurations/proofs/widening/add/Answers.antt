use Rattle.fs_linearize_configurations.proofs.SearchLemmas.{adds_if_new}
use Rattle.fs_linearize_configurations.proofs.widening.add.Goals as goal

pub returns : goal.returns
returns c = λ h each.
    adds_if_new h c.args.reached c.in_ok-settled.settled c.args.links.now.items c.settle.new.links.items c.args.layer.now c.add.new.self (c.in_ok-settled.ensures h each) c.in_ok-add.ensures
