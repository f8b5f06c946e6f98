-- What an observer's seat knows.
use Rattle.std.specs.Prelude.{◌≡◌, List, ◌∷◌}
use Rattle.logbook.specs.Pages.{Book}
use Rattle.logbook.specs.declared.tokens.Seen.{Seen}

-- some token of this book
abbrev pub Knows : {E A P : Type 0} → Book → List (Seen E A P) → Type 0
Knows {E} {A} {P} b ks = (k : Seen E A P) × (rest : List (Seen E A P)) × (ks ≡ k ∷ rest) × (k.book ≡ b)
