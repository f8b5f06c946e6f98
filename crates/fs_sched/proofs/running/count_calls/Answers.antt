use Rattle.std.proofs.Common.{◌∙◌, ◌^◌, ◌-◌, min, ap, sym}
use Rattle.fs_sched.proofs.CountLemmas.{calls_next, capped_more}
use Rattle.fs_sched.proofs.running.count_calls.Goals as goal

pub loop-calls-preserved : goal.loop-calls-preserved
loop-calls-preserved c =
    let next = calls_next (λ v. v.items) c.args.lists.now c.loop-calls.calls-index c.calls-item.result c.len.result c.loop-calls-test.true c.calls-item.is (c.len.ensures ∙ c.calls-item.result.ok.0) in
    c.saturating_add-count.ensures ∙ capped_more (2 ^ 64 - 1) _ c.len.result c.loop-calls.count c.loop-calls.invariant ∙ ap (min (2 ^ 64 - 1)) (sym next)
