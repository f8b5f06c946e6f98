-- A piece of text for each entry.
use Rattle.std.specs.Prelude.{ℕ, ◌≡◌, ◌+◌, List, [], ◌∷◌, ◌++◌}
use Rattle.fs_timeline.specs.declared.entry.Entry.{Entry}

-- a piece of text for each entry, from this place on, of which this holds by its place and its entry
abbrev pub AreEach : (ℕ → Entry → List ℕ → Type 0) → ℕ → List Entry → List ℕ → Type 0
AreEach Is n [] text = text ≡ []
AreEach Is n (e ∷ es) text = (line rest : List ℕ) × Is n e line × AreEach Is (n + 1) es rest × (text ≡ line ++ rest)
