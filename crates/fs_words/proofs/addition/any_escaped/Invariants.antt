use Rattle.std.proofs.Common.{◌≡◌, take}
use Rattle.std.specs.List.{list_any}
use Rattle.fs_words.specs.Words.{is_escaped}
use Rattle.fs_words.proofs.addition.any_escaped.Given as goal

-- whether one of the bytes before this one is escaped
abbrev pub invariant-loop-i : goal.invariant-loop-i
invariant-loop-i l = l.any ≡ list_any is_escaped (take l.i l.bytes)
