use Rattle.std.proofs.Common.{◌≡◌, length, map}
use Rattle.fs_words.proofs.ReadLemmas.{with_front}
use Rattle.fs_sched_find.specs.Reading.{alternatives_of}
use Rattle.fs_sched_find.proofs.reading.alternatives_of.Given as goal

abbrev pub invariant-alternatives : goal.invariant-alternatives
invariant-alternatives l = alternatives_of (map (λ w. w.now) l.words) ≡ with_front l.what.items (alternatives_of (map (λ w. w.now) l.rest))

abbrev pub decreases-alternatives : goal.decreases-alternatives
decreases-alternatives l = length l.rest
