use Rattle.std.proofs.Common.{sym}
use Rattle.fs_linearize_configurations.proofs.SearchLemmas.{adds_none, adds_one_more, adds_all}
use Rattle.fs_linearize_configurations.proofs.widening.add_commits.Goals as goal

pub loop-call-init : goal.loop-call-init
loop-call-init c = λ h all each. adds_none h c.args.reached.now c.args.links.now.items c.args.layer.now

pub loop-call-preserved : goal.loop-call-preserved
loop-call-preserved c = λ h all each.
    let i = c.loop-call.call-index in
    let call = c.call-item.result in
    adds_one_more h c.args.reached.now c.args.near.now i call c.args.links.now.items c.loop-call.links.items c.add_commit.new.links.items c.args.layer.now c.loop-call.layer c.add_commit.new.layer
    c.loop-call-test.true c.call-item.is (c.loop-call.invariant h all each) (c.in_ok-add_commit.ensures h all (each call (i, c.loop-call-test.true, sym c.call-item.is)))

pub returns : goal.returns
returns c = λ h all each. adds_all h c.args.reached.now c.args.near.now c.loop-call.call-index c.args.links.now.items c.loop-call.links.items c.args.layer.now c.loop-call.layer c.loop-call-test.false (c.loop-call.invariant h all each)
