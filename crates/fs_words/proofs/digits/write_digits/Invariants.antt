use Rattle.std.proofs.Common.{◌≡◌, ◌*◌, ◌++◌, take, drop}
use Rattle.hex.specs.Hex.{encode_lower}
use Rattle.fs_words.proofs.digits.write_digits.Given as goal

-- the digits of the bytes before this one stand in the text
abbrev pub invariant-bytes : goal.invariant-bytes
invariant-bytes l = take (2 * l.i) l.text ++ encode_lower (drop l.i l.bytes) ≡ encode_lower l.bytes
