-- What is left of a text without its escape sequences.
use Rattle.std.specs.Prelude.{ℕ, Bool, true, false, ◌==◌, List, [], ◌∷◌, if◌then◌else◌}
use Rattle.std.specs.List.{list_any}

-- the bytes of a text without those from an escape on up to the next `m`; whether such a sequence has begun
unfoldable pub plain_on : Bool → List ℕ → List ℕ
plain_on within [] = []
plain_on false (b ∷ text) = if b == 27 then plain_on true text else b ∷ plain_on false text
plain_on true (b ∷ text) = if b == 109 then plain_on false text else plain_on true text

-- a text without its escape sequences
abbrev pub plain : List ℕ → List ℕ
plain text = plain_on false text

-- whether there is an escape in a text
abbrev pub has_escape : List ℕ → Bool
has_escape text = list_any (λ b. b == 27) text
