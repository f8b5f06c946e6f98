use Rattle.std.proofs.Common.{◌≡◌, ◌-◌, length, drop}
use Rattle.fs_script.specs.Script.{schedule_line}
use Rattle.fs_words.proofs.ReadLemmas.{words_in}
use Rattle.fs_script.proofs.draft.Draft.take_schedule_line.Given as goal

abbrev pub invariant-words : goal.invariant-words
invariant-words l = schedule_line l.fn.self.script (words_in l.words) ≡ schedule_line l.self.script (words_in (drop l.at l.words))

abbrev pub decreases-words : goal.decreases-words
decreases-words l = length l.words - l.at
