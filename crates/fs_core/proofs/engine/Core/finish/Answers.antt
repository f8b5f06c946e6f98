use Rattle.std.proofs.Common.{◌∙◌, is_some, refl, ap}
use Rattle.fs_core.specs.CoreValues.{state_of}
use Rattle.fs_laws.specs.OneCall.{Returns}
use Rattle.fs_core.specs.Calls.{Still, Then}
use Rattle.fs_core.proofs.ToReturns.{steps_to, waits, keeps, less, no_return, goes}
use Rattle.fs_core.proofs.engine.Core.finish.Goals as goal

pub steps-init : goal.steps-init
steps-init c = record { seats = refl; refusals = refl; under_way = c.requires.under_way; steps = Still }

pub returns-in-Returned-clause-returned : goal.returns-in-Returned-clause-returned
returns-in-Returned-clause-returned c = steps_to c.args.seat c.in-Returned.reply (state_of c.step.new.self) c.steps.invariant.steps (Returns c.in-Returned.ensures.step)

pub returns-in-Busy-clause-waits : goal.returns-in-Busy-clause-waits
returns-in-Busy-clause-waits c = waits c.args.seat c.in-Busy.field-0 c.in-Busy.holder (state_of c.args.self.now) (state_of c.steps.self) (state_of c.step.new.self) c.steps.invariant.steps c.in-Busy.ensures.step

pub steps-smaller : goal.steps-smaller
steps-smaller c = less c.args.seat c.step.result (state_of c.steps.self) (state_of c.step.new.self) c.told.ensures.run
    (goes c.args.seat c.step.result (state_of c.steps.self) (state_of c.step.new.self) c.steps.invariant.under_way c.step.ensures.step c.in_default.not-Busy c.in_default.not-Returned) c.step.ensures.step

pub steps-preserved : goal.steps-preserved
steps-preserved c = let on = no_return c.step.result c.in_default.not-Returned in record {
  seats = c.step.ensures.seats ∙ c.steps.invariant.seats;
  refusals = c.step.ensures.refusals ∙ c.steps.invariant.refusals;
  under_way = ap is_some (keeps c.args.seat c.args.seat c.step.result (state_of c.steps.self) (state_of c.step.new.self) on c.step.ensures.step) ∙ c.steps.invariant.under_way;
  steps = Then c.step.result on c.steps.invariant.steps c.step.ensures.step;
}
