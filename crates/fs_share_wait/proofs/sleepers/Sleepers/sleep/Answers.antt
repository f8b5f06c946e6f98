use Rattle.std.proofs.Common.{ℕ, List, ap, sym, subst, ◌∙◌, ◌%◌, arith}
use Rattle.std.proofs.lemmas.Option.{slice_get-get_or}
use Rattle.fs_share_wait.specs.declared.sleepers.Queue.{Queue}
use Rattle.fs_share_wait.specs.Sleeping.{Covers, one_more}
use Rattle.fs_share_wait.proofs.Covering.{covers_set, one_more_elsewhere}
use Rattle.fs_share_wait.proofs.sleepers.Sleepers.sleep.Goals as goal

pub returns : goal.returns
returns c sleeping covers =
    covers_set c.self.inside.queues c.queue_of-queue.result _ c.joined.result sleeping (λ other. one_more c.args.node other (sleeping other))
    (subst (λ (l : List Queue). Covers l sleeping) (sym c.self.view_is) covers)
    (slice_get-get_or c.self.inside.queues c.queue_of-queue.result c.index-self-queue.result (omega arith))
    (λ node is. c.joined.ensures node (sleeping node))
    (λ node apart. one_more_elsewhere c.args.node node (sleeping node) (λ is. apart (ap (λ (n : ℕ). n % 64) is ∙ sym c.queue_of-queue.ensures.number)))
