-- Numbers, bytes of files, names and paths as words of a line, both ways.
use Rattle.std.specs.Prelude.{ℕ, ◌^◌, Bool, false, ◌&&◌, ◌||◌, ◌==◌, nat_lt, List, [], ◌∷◌, length, Result, Ok, Err, Option, Some, None, if◌then◌else◌, codes}
use Rattle.std.specs.Str.{all_ascii_digits, bytes_eq}
use Rattle.std.specs.Str.Parse.{digits_value}
use Rattle.std.specs.List.{flat_map}
use Rattle.hex.specs.Hex.{encode_lower, decode_of}
use Rattle.percent_encoding.specs.Percent.{percent_encode_byte, percent_decode}
use Rattle.fs_names.specs.Keys.{Key, path_text}
use Rattle.fs_names.specs.Reading.{reading}
use Rattle.fs_names.specs.declared.fault.PathFault.{PathFault}
use Rattle.fs_names.specs.declared.limits.Limits.{Limits}

-- a word is its bytes
abbrev pub Word : Type 0
Word = List ℕ

-- ---- numbers: written by `decimal`

-- `0`, or digits of which the first is not `0`
abbrev pub is_number_text : Word → Bool
is_number_text [] = false
is_number_text (c ∷ []) = all_ascii_digits (c ∷ [])
is_number_text (c ∷ d ∷ more) = all_ascii_digits (c ∷ d ∷ more) && nat_lt 48 c

-- the number that a word spells, where it is one below 2 ^ 64
unfoldable pub number_of : Word → Option ℕ
number_of word = if is_number_text word && nat_lt (digits_value 10 word) (2 ^ 64) then Some (digits_value 10 word) else None

-- ---- bytes of files

-- what is found, if it is no error
abbrev pub found_bytes : {E : Type 0} → Result (List ℕ) E → Option (List ℕ)
found_bytes (Ok bytes) = Some bytes
found_bytes (Err e) = None

-- `-` for no bytes, or an even number of digits of either case, at least two
unfoldable pub hex_of : Word → Option (List ℕ)
hex_of word = if bytes_eq word (codes "-") then Some [] else (if length word == 0 then None else found_bytes (decode_of word))

-- `-`, or digits in lower case
unfoldable pub hex_word : List ℕ → Word
hex_word bytes = if length bytes == 0 then codes "-" else encode_lower bytes

-- ---- names and paths

-- 0x00 to 0x20, `%`, and 0x7F and above
abbrev pub is_escaped : ℕ → Bool
is_escaped b = nat_lt b 33 || (b == 37 || nat_lt 126 b)

-- what one byte is written as: `%` and two digits in upper case, or the byte itself
abbrev pub escaped_byte : ℕ → Word
escaped_byte b = if is_escaped b then percent_encode_byte b else b ∷ []

-- what the bytes of a name are written as
unfoldable pub escaped : List ℕ → Word
escaped bytes = flat_map escaped_byte bytes

-- what a path is written as: a slash is not escaped, so it is escaped as a whole
abbrev pub path_word : Key → Word
path_word key = escaped (path_text key)

-- the path that a word spells once it is decoded, by these limits, or the first check that it fails
abbrev pub path_of : Limits → Word → Result Key PathFault
path_of limits word = reading limits (percent_decode word)
