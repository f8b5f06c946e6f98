-- How a text is written in a page.
use Rattle.std.specs.Prelude.{ℕ, ◌==◌, List, [], ◌∷◌, if◌then◌else◌, codes}
use Rattle.std.specs.List.{flat_map}

-- a sign of HTML by its name, and each other byte as itself
abbrev pub marked_byte : ℕ → List ℕ
marked_byte b = if b == 60 then codes "&lt;" else (if b == 62 then codes "&gt;" else (if b == 38 then codes "&amp;" else b ∷ []))

unfoldable pub marked : List ℕ → List ℕ
marked text = flat_map marked_byte text
