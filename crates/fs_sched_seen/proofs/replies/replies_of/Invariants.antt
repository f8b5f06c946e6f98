use Rattle.std.proofs.Common.{◌≡◌, map, take}
use Rattle.fs_sched_seen.specs.Calls.{reply_at}
use Rattle.fs_sched_seen.proofs.replies.replies_of.Given as goal

abbrev pub invariant-loop-place : goal.invariant-loop-place
invariant-loop-place l = map (λ reply. reply.items) l.replies.items ≡ map (reply_at l.entries) (take l.place-index l.places)
