use Rattle.std.proofs.Common.{drop, map}
use Rattle.fs_sched_reach.proofs.Adding.{WordsSoFar}
use Rattle.fs_sched_reach.proofs.writing.push_words.Given as goal

-- what is written so far, and the words that are left
abbrev pub invariant-loop-word : goal.invariant-loop-word
invariant-loop-word l = WordsSoFar l.from l.limits (map (λ w. w.now) l.words) (map (λ w. w.now) (drop l.word-index l.words)) l.fn.text.items l.text.items
