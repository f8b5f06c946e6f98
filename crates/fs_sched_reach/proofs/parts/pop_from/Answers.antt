use Rattle.std.proofs.Common.{◌∙◌, arith, ap, take, ◌-◌, ℕ}
use Rattle.fs_sched_reach.proofs.Joining.{popped, unpopped}
use Rattle.fs_sched_reach.proofs.parts.pop_from.Goals as goal

pub returns-then-len-start : goal.returns-then-len-start
returns-then-len-start c front byte parts start is = unpopped front byte parts c.args.text.now.items is (omega (arith, start, c.if-len-start.true))

pub returns : goal.returns
returns c front byte parts start is =
    c.pop.ensures.rest ∙ ap (λ (n : ℕ). take (n - 1) c.args.text.now.items) c.args.text.now.ok.0 ∙ popped front byte parts c.args.text.now.items is (omega (arith, start, c.if-len-start.false))
