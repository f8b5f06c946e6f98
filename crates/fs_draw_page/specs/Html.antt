-- What a browser reads of a text that is in a page.
use Rattle.std.specs.Prelude.{ℕ, Bool, ◌&&◌, ◌||◌, ◌==◌, nat_lt, List, [], ◌∷◌, ◌++◌, Option, Some, None, if◌then◌else◌, codes}
use Rattle.std.specs.List.{flat_map}
use Rattle.std.specs.Str.{bytes_eq}
use Rattle.percent_encoding.specs.Percent.{percent_encode_byte}

-- a line feed, or a printable character of ASCII
abbrev pub is_printable : ℕ → Bool
is_printable b = (b == 10) || (nat_lt 31 b && nat_lt b 127)

-- a byte as a printable text has it: itself, or escaped as in a name
abbrev pub printed_byte : ℕ → List ℕ
printed_byte b = if is_printable b then b ∷ [] else percent_encode_byte b

-- a text in which each byte that is not printable is escaped
unfoldable pub printed : List ℕ → List ℕ
printed text = flat_map printed_byte text

-- the sign that has this name
abbrev pub sign_of : List ℕ → Option ℕ
sign_of name = if bytes_eq name (codes "lt") then Some 60 else (if bytes_eq name (codes "gt") then Some 62 else (if bytes_eq name (codes "amp") then Some 38 else None))

-- a byte that is read before others
abbrev pub before : Option ℕ → Option (List ℕ) → Option (List ℕ)
before (Some b) (Some text) = Some (b ∷ text)
before None text = None
before (Some b) None = None

-- what is read of these bytes, where there is no name of a sign, or one that has begun with these bytes
unfoldable pub read_on : Option (List ℕ) → List ℕ → Option (List ℕ)
read_on None [] = Some []
read_on (Some name) [] = None
read_on None (b ∷ bytes) = if b == 60 then None else (if b == 38 then read_on (Some []) bytes else before (Some b) (read_on None bytes))
read_on (Some name) (b ∷ bytes) = if b == 59 then before (sign_of name) (read_on None bytes) else read_on (Some (name ++ b ∷ [])) bytes

-- what a browser reads of a text: `&lt;`, `&gt;` and `&amp;` as `<`, `>` and `&`, and each other byte as itself. Nothing is read of a text in which a tag or a comment begins, or an `&` with no such name
abbrev pub read_html : List ℕ → Option (List ℕ)
read_html bytes = read_on None bytes
