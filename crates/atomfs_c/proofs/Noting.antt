-- What is noted of the queues once one of them is noted anew.
use Rattle.std.proofs.Common.{◌≡◌, ℕ, ◌<◌, ◌%◌, List, Some, length, slice_get, get_or, option_map, set, sym, ap, subst, ◌∙◌}
use Rattle.std.proofs.lemmas.List.{map-set}
use Rattle.std.proofs.lemmas.Option.{slice_get-map, slice_get-get_or}
use Rattle.fs_share_wait.specs.declared.sleepers.Queue.{Queue}
use Rattle.fs_share_wait.specs.Sleeping.{Notes, Covers}
use Rattle.fs_share_wait.proofs.Covering.{covers_set}
use Rattle.atomfs_c.specs.declared.sleepers.Noted.{Noted}
use Rattle.atomfs_c.specs.Sleepers.{queue_in, queues_in}

-- one queue is noted anew, in which each of its nodes has its sleepers; those of other queues have as many as before
pub noted_set : (notes : List Noted) (q : ℕ) (old new : Noted) (before after : ℕ → ℕ) → Covers (queues_in notes) before → slice_get notes q ≡ Some old
    → ((node : ℕ) → node % 64 ≡ q → Notes (queue_in old) node (before node) → Notes (queue_in new) node (after node))
    → ((node : ℕ) → (node % 64 ≡ q → ⊥) → after node ≡ before node)
    → Covers (queues_in (set notes q new)) after
noted_set notes q old new before after covers at here others =
    subst (λ (l : List Queue). Covers l after) (sym (map-set queue_in notes q new))
    (covers_set (queues_in notes) q (queue_in old) (queue_in new) before after covers (slice_get-map queue_in notes q ∙ ap (option_map queue_in) at) here others)

-- the queue at a place
pub queue_at : (notes : List Noted) (q p : ℕ) (d : Noted) (queue : Queue) → q ≡ p → queue ≡ queue_in (get_or notes q d) → q < length notes → slice_get (queues_in notes) p ≡ Some queue
queue_at notes q p d queue same is within =
    ap (slice_get (queues_in notes)) (sym same) ∙ slice_get-map queue_in notes q ∙ ap (option_map queue_in) (slice_get-get_or notes q d within) ∙ ap Some (sym is)
