use Rattle.std.proofs.Common.{◌≡◌, ◌+◌, drop, length}
use Rattle.fs_sched.specs.Gives.{given_words}
use Rattle.fs_sched_reach.proofs.counting.moments_in.Given as goal

-- the moments so far, and those of the words that are left
abbrev pub invariant-loop-word : goal.invariant-loop-word
invariant-loop-word l = length (given_words l.words) ≡ l.moments + length (given_words (drop l.word-index l.words))
