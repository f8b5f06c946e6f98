-- Strings of JSON.
use Rattle.std.specs.Prelude.{ℕ, Bool, ◌==◌, ◌&&◌, nat_le, if◌then◌else◌, List, [], ◌∷◌, ◌++◌, codes}
use Rattle.std.specs.List.{flat_map}
use Rattle.fs_words.specs.Words.{hex_word}

-- a byte that stands for itself: from the space to the tilde
abbrev pub is_printable : ℕ → Bool
is_printable b = nat_le 32 b && nat_le b 126

-- a byte as it stands in a string: the character of its number
abbrev pub char_text : ℕ → List ℕ
char_text b =
    if b == 34 then codes "\\\""
    else if b == 92 then codes "\\\\"
    else if b == 10 then codes "\\n"
    else if is_printable b then b ∷ []
    else codes "\\u00" ++ hex_word (b ∷ [])

-- bytes as a string
abbrev pub string_text : List ℕ → List ℕ
string_text bytes = codes "\"" ++ (flat_map char_text bytes ++ codes "\"")
