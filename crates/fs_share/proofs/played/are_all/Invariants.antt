use Rattle.std.proofs.Common.{◌≡◌, ◌<◌, ℕ, [], length, map, get_or}
use Rattle.fs_share.proofs.played.are_all.Given as goal

abbrev pub invariant-loop-seat : goal.invariant-loop-seat
invariant-loop-seat l = (k : ℕ) → k < l.seat → get_or l.begun k 0 ≡ length (get_or (map (λ calls. calls.items) l.lists) k [])
