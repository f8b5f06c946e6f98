use Rattle.std.proofs.Common.{◌≡◌, length, sum_by, vec_len}
use Rattle.fs_share.proofs.lists.join_all.Given as goal

abbrev pub invariant-loop-worker : goal.invariant-loop-worker
invariant-loop-worker g l = record { count : vec_len l.tallies ≡ length l.yielded; calls : sum_by (λ tally. tally.count) l.tallies.items ≡ sum_by (λ worker. worker.promise.0) l.yielded }
