use Rattle.std.proofs.Common.{◌≡◌, ◌++◌, take}
use Rattle.std.specs.List.{flat_map}
use Rattle.std.specs.Prelude.{codes}
use Rattle.fs_words.specs.Json.{char_text}
use Rattle.fs_words.proofs.json_strings.push_string.Given as goal

abbrev pub invariant-loop-byte : goal.invariant-loop-byte
invariant-loop-byte l = record {
  before : l.text.before ≡ l.fn.text.before;
  bytes : l.text.added ≡ l.fn.text.added ++ (codes "\"" ++ flat_map char_text (take l.byte-index l.bytes));
}
