use Rattle.std.proofs.Common.{◌≡◌, ◌-◌, length, drop}
use Rattle.fs_text.specs.Journal.{names_at}
use Rattle.fs_words.proofs.ReadLemmas.{with_front, words_in}
use Rattle.fs_text.proofs.replies.name_list_at.Given as goal

abbrev pub invariant-names : goal.invariant-names
invariant-names l = names_at l.limits (words_in l.words) ≡ with_front l.names.names (names_at l.limits (words_in (drop l.at l.words)))

abbrev pub decreases-names : goal.decreases-names
decreases-names l = length l.words - l.at
