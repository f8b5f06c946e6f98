use Rattle.std.proofs.Common.{sym, ◌∙◌}
use Rattle.fs_linearize_configurations.proofs.SearchLemmas.{hold_none, hold_more, hold_all}
use Rattle.fs_linearize_configurations.proofs.widening.all_hold.Goals as goal

pub loop-reached-init : goal.loop-reached-init
loop-reached-init c = hold_none c.args.number c.args.layer.now

pub loop-reached-preserved : goal.loop-reached-preserved
loop-reached-preserved c =
    hold_more c.args.number c.args.layer.now c.loop-reached.reached-index c.reached-item.result c.loop-reached-test.true c.reached-item.is (sym c.holds.ensures ∙ c.if-not-holds.false) c.loop-reached.invariant

pub returns : goal.returns
returns c = λ yes. hold_all c.args.number c.args.layer.now c.loop-reached.reached-index c.loop-reached-test.false c.loop-reached.invariant
