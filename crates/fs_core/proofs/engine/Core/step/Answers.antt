use Rattle.std.proofs.Common.{sym, ◌∙◌}
use Rattle.fs_core.proofs.Doing.{busy_by_some, busy_told}
use Rattle.fs_core.proofs.engine.Core.step.Goals as goal

pub unreachable-requires : goal.unreachable-requires
unreachable-requires c = busy_by_some c.args.self.now c.act.new.self _ _ c.in-Busy.ensures.step (rw (← c.self.view_is) (sym c.holder.ensures ∙ c.in-None.is))

pub returns-in-Some-clause-step : goal.returns-in-Some-clause-step
returns-in-Some-clause-step c = rw (← c.get-at.ensures) (busy_told c.args.self.now c.act.new.self _ _ _ c.in-Busy.ensures.step (rw (← c.self.view_is) (sym c.holder.ensures ∙ c.in-Some.is)))
