use Rattle.std.proofs.Common.{◌≡◌, ◌++◌, drop}
use Rattle.fs_names.specs.Keys.{names_text}
use Rattle.fs_words.specs.Words.{escaped}
use Rattle.fs_words.proofs.addition.Addition.push_steps.Given as goal

abbrev pub invariant-loop-i : goal.invariant-loop-i
invariant-loop-i l = record {
  added : l.self.added ++ escaped (names_text (drop l.i l.path)) ≡ l.fn.self.added ++ escaped (names_text l.path);
  before : l.self.before ≡ l.fn.self.before;
}
