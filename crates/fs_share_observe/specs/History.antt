-- The history of a tree: its start tree and its calls. One word holds its length.
use Rattle.std.specs.Prelude.{ℕ, ◌≡◌, ◌==◌, true, List, [], ◌∷◌, ◌++◌, length, MatchBool}
use Rattle.logbook.specs.Pages.{Cell, Step, View, Book, Named}
use Rattle.fs_share_observe.specs.declared.history.Noted.{Noted}

-- the first word is the length of the history. A book has two words, of which this one leaves the second at 0
pub record IsKept (cells : List Cell) (log : List Noted) : Type 0 where
  pub words : cells ≡ (length log, true) ∷ (0, true) ∷ []

-- the first word of a book
abbrev pub head_of : Book → Named
head_of b = record { tracked = true; key = 0; book = b }

-- the entry was added to all that had been seen; or the history was longer, and was seen
abbrev pub Adds : Step Noted → View Noted ℕ → ℕ → View Noted ℕ → Type 0
Adds s v found w = MatchBool (found == s.old) (w.0 ≡ v.0 ++ s.ask ∷ []) (length w.0 ≡ found)
