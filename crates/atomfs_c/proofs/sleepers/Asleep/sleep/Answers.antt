use Rattle.std.proofs.Common.{ℕ, ap, sym, subst, ◌∙◌, ◌%◌, arith}
use Rattle.std.proofs.lemmas.Option.{slice_get-get_or}
use Rattle.fs_share_wait.specs.declared.sleepers.Queue.{Queue}
use Rattle.fs_share_wait.specs.Sleeping.{Notes, one_more}
use Rattle.fs_share_wait.proofs.Covering.{one_more_elsewhere}
use Rattle.atomfs_c.proofs.Noting.{noted_set}
use Rattle.atomfs_c.proofs.sleepers.Asleep.sleep.Goals as goal

pub returns-clause-noted : goal.returns-clause-noted
returns-clause-noted c sleeping covers =
    noted_set c.args.self.now.queues c.queue_of-at.result _ c.of.result sleeping (λ other. one_more c.args.node other (sleeping other)) covers
    (slice_get-get_or c.args.self.now.queues c.queue_of-at.result _ (omega arith))
    (λ node is notes. c.of.ensures node _ (c.joined-joined.ensures node (sleeping node) (subst (λ (q : Queue). Notes q node (sleeping node)) (sym c.queue.ensures) notes)))
    (λ node apart. one_more_elsewhere c.args.node node (sleeping node) (λ is. apart (ap (λ (n : ℕ). n % 64) is ∙ sym c.queue_of-at.ensures.number)))
