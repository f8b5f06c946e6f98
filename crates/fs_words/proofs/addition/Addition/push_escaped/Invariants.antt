use Rattle.std.proofs.Common.{◌≡◌, ◌++◌, take}
use Rattle.fs_words.specs.Words.{escaped}
use Rattle.fs_words.proofs.addition.Addition.push_escaped.Given as goal

abbrev pub invariant-loop-byte : goal.invariant-loop-byte
invariant-loop-byte l = record {
  added : l.self.added ≡ l.fn.self.added ++ escaped (take l.byte-index l.bytes);
  before : l.self.before ≡ l.fn.self.before;
}
