use Rattle.std.proofs.Common.{◌≡◌, ◌++◌, drop, map}
use Rattle.fs_sched_reach.specs.Words.{plain_word}
use Rattle.fs_sched_reach.specs.code.Joined.{closed}
use Rattle.fs_sched_reach.proofs.plain.push_plain_words.Given as goal

-- the words so far and those that are left
abbrev pub invariant-loop-word : goal.invariant-loop-word
invariant-loop-word l = l.fn.text.items ++ closed 32 (map plain_word (map (λ w. w.now) l.words)) ≡ l.text.items ++ closed 32 (map plain_word (map (λ w. w.now) (drop l.word-index l.words)))
