use Rattle.std.proofs.Common.{◌≡◌, length, map}
use Rattle.fs_words.proofs.ReadLemmas.{with_front}
use Rattle.fs_sched_find.specs.Reading.{clauses_of}
use Rattle.fs_sched_find.proofs.reading.clauses_of.Given as goal

abbrev pub invariant-clauses : goal.invariant-clauses
invariant-clauses l = clauses_of (map (λ w. w.now) l.words) ≡ with_front l.clauses.items (clauses_of (map (λ w. w.now) l.rest))

abbrev pub decreases-clauses : goal.decreases-clauses
decreases-clauses l = length l.rest
