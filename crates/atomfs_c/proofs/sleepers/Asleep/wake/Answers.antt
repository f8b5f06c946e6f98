use Rattle.std.proofs.Common.{◌≡◌, ℕ, Some, slice_get, ap, sym, subst, ◌∙◌, ◌%◌, arith}
use Rattle.std.proofs.lemmas.Option.{slice_get-get_or}
use Rattle.fs_share_wait.specs.declared.sleepers.Queue.{Queue}
use Rattle.fs_share_wait.specs.declared.sleepers.Wake.{Wake}
use Rattle.fs_share_wait.specs.Sleeping.{Notes, woken_for, IsDue}
use Rattle.fs_share_wait.proofs.Covering.{woken_here, woken_elsewhere}
use Rattle.atomfs_c.specs.Sleepers.{queues_in}
use Rattle.atomfs_c.proofs.Noting.{noted_set, queue_at}
use Rattle.atomfs_c.proofs.sleepers.Asleep.wake.Goals as goal

pub returns-clause-due : goal.returns-clause-due
returns-clause-due c queue found =
    let at : slice_get (queues_in c.args.self.now.queues) (c.args.node % 64) ≡ Some c.queue.result = queue_at c.args.self.now.queues c.queue_of-at.result (c.args.node % 64) _ c.queue.result c.queue_of-at.ensures.number c.queue.ensures (omega arith) in
    let same : c.queue.result ≡ queue = cc in
    subst (λ (q : Queue). IsDue c.woken-wake.result.0 q c.args.node) same c.woken-wake.ensures.due

pub returns-clause-enough : goal.returns-clause-enough
returns-clause-enough c sleeping covers other is =
    let at : slice_get (queues_in c.args.self.now.queues) (c.args.node % 64) ≡ Some c.queue.result = queue_at c.args.self.now.queues c.queue_of-at.result (c.args.node % 64) _ c.queue.result c.queue_of-at.ensures.number c.queue.ensures (omega arith) in
    c.woken-wake.ensures.enough other (sleeping other) (covers other c.queue.result (ap (slice_get (queues_in c.args.self.now.queues)) is ∙ at))

pub returns-clause-left : goal.returns-clause-left
returns-clause-left c sleeping covers =
    let wake : Wake = c.woken-wake.result.0 in
    let node : ℕ = c.args.node in
    noted_set c.args.self.now.queues c.queue_of-at.result _ c.of.result sleeping (woken_for wake node sleeping) covers
    (slice_get-get_or c.args.self.now.queues c.queue_of-at.result _ (omega arith))
    (λ other is notes. c.of.ensures other _ (subst (Notes c.woken-wake.result.1 other) (sym (woken_here wake node other sleeping (is ∙ c.queue_of-at.ensures.number)))
    (c.woken-wake.ensures.left other (sleeping other) (subst (λ (q : Queue). Notes q other (sleeping other)) (sym c.queue.ensures) notes))))
    (λ other apart. woken_elsewhere wake node other sleeping (λ is. apart (is ∙ sym c.queue_of-at.ensures.number)))
