use Rattle.std.proofs.Common.{[], ◌∷◌, ◌++◌, map, ap, ◌∙◌}
use Rattle.fs_sched_outcomes.proofs.ListLemmas.{replies_more}
use Rattle.fs_sched_outcomes.proofs.ends.End.text.Goals as goal

pub loop-reply-preserved : goal.loop-reply-preserved
loop-reply-preserved c =
    let view = ap (map (λ v. v.items)) c.deref-reply-items.ensures.value ∙ ap (λ e. e.replies) c.self.view_is in
    replies_more (λ v. v.items) c.deref-reply-items.result.now c.args.self.now.replies c.loop-reply.reply-index c.reply-item.result c.loop-reply.text.items c.push.new.self.items c.loop-reply-test.true view c.reply-item.is c.loop-reply.invariant
    (c.in_ok-push.ensures.items ∙ ap (λ l. l ++ 10 ∷ []) (c.in_ok-extend_from_slice.ensures.items ∙ ap (λ l. c.loop-reply.text.items ++ l) c.deref.ensures.value))
