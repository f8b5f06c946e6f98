use Rattle.std.proofs.Common.{◌≡◌, ◌<◌, ◌^◌, true, take}
use Rattle.std.specs.Str.{all_ascii_digits}
use Rattle.std.specs.Str.Parse.{digits_value}
use Rattle.fs_words.proofs.words.value_of.Given as goal

-- the bytes before this one are digits, and the number is theirs
abbrev pub invariant-loop-i : goal.invariant-loop-i
invariant-loop-i l = record {
  digits : all_ascii_digits (take l.i l.word) ≡ true;
  small : l.number < 2 ^ 64;
  value : l.number ≡ digits_value 10 (take l.i l.word);
}
