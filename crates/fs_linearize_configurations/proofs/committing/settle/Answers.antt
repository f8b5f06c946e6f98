use Rattle.std.proofs.Common.{sym, subst}
use Rattle.fs_linearize_configurations.specs.code.Calls.{IsUnderWay}
use Rattle.fs_linearize_configurations.proofs.SearchLemmas.{settles_same, settles_then, same_place}
use Rattle.fs_linearize_configurations.proofs.committing.settle.Goals as goal

pub loop-call-init : goal.loop-call-init
loop-call-init c = λ h each. settles_same h c.args.links.now.items c.args.reached

pub loop-call-preserved : goal.loop-call-preserved
loop-call-preserved c = λ h each.
    let so_far = c.loop-call.invariant h each in
    let call = c.call-item.result in
    let place = same_place h c.args.links.now.items c.loop-call.links.items c.args.reached c.loop-call.now so_far in
    settles_then h c.args.links.now.items c.loop-call.links.items c.settle_met.new.links.items c.args.reached c.loop-call.now c.in_ok-now.now so_far
    (c.in_ok-now.ensures h (subst (λ n. IsUnderWay h n call) (sym place) (each call (c.loop-call.call-index, c.loop-call-test.true, sym c.call-item.is))))
