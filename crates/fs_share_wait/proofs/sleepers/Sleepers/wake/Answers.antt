use Rattle.std.proofs.Common.{ℕ, List, sym, subst, ◌∙◌, arith}
use Rattle.std.proofs.lemmas.Option.{slice_get-get_or}
use Rattle.fs_share_wait.specs.declared.sleepers.Queue.{Queue}
use Rattle.fs_share_wait.specs.declared.sleepers.Wake.{Wake}
use Rattle.fs_share_wait.specs.Sleeping.{Notes, Covers, woken_for}
use Rattle.fs_share_wait.proofs.Covering.{covers_set, woken_here, woken_elsewhere}
use Rattle.fs_share_wait.proofs.sleepers.Sleepers.wake.Goals as goal

pub returns-clause-left : goal.returns-clause-left
returns-clause-left c sleeping covers =
    let wake : Wake = c.woken-wake.result.0 in
    let node : ℕ = c.args.node in
    covers_set c.self.inside.queues c.queue_of-queue.result _ c.woken-wake.result.1 sleeping (woken_for wake node sleeping)
    (subst (λ (l : List Queue). Covers l sleeping) (sym c.self.view_is) covers)
    (slice_get-get_or c.self.inside.queues c.queue_of-queue.result c.index-self-queue.result (omega arith))
    (λ other is notes. subst (Notes c.woken-wake.result.1 other) (sym (woken_here wake node other sleeping (is ∙ c.queue_of-queue.ensures.number))) (c.woken-wake.ensures.left other (sleeping other) notes))
    (λ other apart. woken_elsewhere wake node other sleeping (λ is. apart (is ∙ sym c.queue_of-queue.ensures.number)))
