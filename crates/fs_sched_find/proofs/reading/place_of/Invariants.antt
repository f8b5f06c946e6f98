use Rattle.std.proofs.Common.{◌≡◌, ℕ, ◌<◌, [], false, get_or}
use Rattle.fs_words.proofs.ReadLemmas.{words_in}
use Rattle.fs_sched_find.specs.Reading.{is_same}
use Rattle.fs_sched_find.proofs.reading.place_of.Given as goal

abbrev pub invariant-loop-at : goal.invariant-loop-at
invariant-loop-at l = (k : ℕ) → k < l.at → is_same l.wanted (get_or (words_in l.words) k []) ≡ false
