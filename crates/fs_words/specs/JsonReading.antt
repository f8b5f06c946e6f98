-- What is read of a string of JSON (RFC 8259, section 7), where each character is a byte.
use Rattle.std.specs.Prelude.{ℕ, zero, suc, ◌+◌, ◌*◌, ◌==◌, nat_lt, List, [], ◌∷◌, Option, Some, None, if◌then◌else◌}
use Rattle.hex.specs.Hex.{hex_digit_value}

-- where in a string: among its characters; after a backslash; or before a digit, with so many more to come, after digits of this value
pub data Place : Type 0 where
  Plain : Place
  Escaped : Place
  Digit : ℕ → Option ℕ → Place

-- the character of a letter after a backslash
abbrev pub escape_of : ℕ → Option ℕ
escape_of c =
    if c == 34 then Some 34
    else if c == 92 then Some 92
    else if c == 47 then Some 47
    else if c == 98 then Some 8
    else if c == 102 then Some 12
    else if c == 110 then Some 10
    else if c == 114 then Some 13
    else if c == 116 then Some 9
    else None

-- the value of digits, with one more
abbrev pub with_digit : Option ℕ → Option ℕ → Option ℕ
with_digit (Some value) (Some digit) = Some (value * 16 + digit)
with_digit (Some value) None = None
with_digit None digit = None

-- a character that is read before others, with what is left behind these
abbrev pub before : Option ℕ → Option (List ℕ × List ℕ) → Option (List ℕ × List ℕ)
before (Some c) (Some read) = Some (c ∷ read.0, read.1)
before (Some c) None = None
before None read = None

-- the characters from a place on up to the next quotation mark, and what is left behind that
unfoldable pub read_on : Place → List ℕ → Option (List ℕ × List ℕ)
read_on Plain [] = None
read_on Plain (c ∷ text) = if c == 34 then Some ([], text) else (if c == 92 then read_on Escaped text else (if nat_lt c 32 then None else before (Some c) (read_on Plain text)))
read_on Escaped [] = None
read_on Escaped (c ∷ text) = if c == 117 then read_on (Digit 3 (Some 0)) text else before (escape_of c) (read_on Plain text)
read_on (Digit n value) [] = None
read_on (Digit zero value) (c ∷ text) = before (with_digit value (hex_digit_value c)) (read_on Plain text)
read_on (Digit (suc n) value) (c ∷ text) = read_on (Digit n (with_digit value (hex_digit_value c))) text

-- the string at the front of a text, and what is left behind it
abbrev pub read_string : List ℕ → Option (List ℕ × List ℕ)
read_string [] = None
read_string (c ∷ text) = if c == 34 then read_on Plain text else None
