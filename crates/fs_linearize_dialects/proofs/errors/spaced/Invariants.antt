use Rattle.std.proofs.Common.{◌≡◌, map, take}
use Rattle.fs_linearize_dialects.specs.Errors.{spaced_byte}
use Rattle.fs_linearize_dialects.proofs.errors.spaced.Given as goal

abbrev pub invariant-loop-byte : goal.invariant-loop-byte
invariant-loop-byte l = l.line.items ≡ map spaced_byte (take l.byte-index l.word)
