use Rattle.std.proofs.Common.{◌≡◌, sum_by, take, vec_len}
use Rattle.fs_share.proofs.lists.start_all.Given as goal

abbrev pub invariant-loop-list : goal.invariant-loop-list
invariant-loop-list g l = record { count : vec_len l.workers ≡ l.list-index; calls : sum_by (λ worker. worker.promise.0) l.workers.items ≡ sum_by vec_len (take l.list-index l.lists) }
