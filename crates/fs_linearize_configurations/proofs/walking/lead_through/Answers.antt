use Rattle.std.proofs.Common.{refl}
use Rattle.fs_linearize_configurations.specs.declared.walking.Walk.{Walk}
use Rattle.fs_linearize_configurations.proofs.WalkLemmas.{walked_first, walked_on, walked_all}
use Rattle.fs_linearize_configurations.proofs.walking.lead_through.Goals as goal

pub loop-step-init : goal.loop-step-init
loop-step-init c =
    let w : Walk = record { at = 0; tree = c.in_ok-copy.field-0; held = c.new.result; calls = c.new-2.result } in
    walked_first c.args.start.now c.args.history.now c.args.steps.now w c.in_ok-copy.ensures c.new.ensures.items c.new-2.ensures.items refl

pub loop-step-preserved : goal.loop-step-preserved
loop-step-preserved c = walked_on c.args.start.now c.args.history.now c.args.steps.now c.loop-step.step-index _ c.loop-step.walk c.in-Some.next c.in_ok-next.field-0 c.requires c.loop-step-test.true c.in-Some.is c.in_ok-next.ensures c.loop-step.invariant

pub returns : goal.returns
returns c = λ whole. walked_all c.args.start.now c.args.history.now c.args.steps.now c.loop-step.step-index c.loop-step.walk c.loop-step-test.false whole c.loop-step.invariant
