-- The lines of a text that are left to be read.
use Rattle.std.specs.Prelude.{◌≡◌, ℕ, ◌+◌, false, List, [], ◌∷◌, if◌then◌else◌}
use Rattle.fs_words.specs.Lines.{is_passed_over}
use Rattle.fs_words.specs.declared.numbered.Line.{Line}

-- the lines, and the number of the first of them
pub record LinesLeft : Type 0 where
  pub number : ℕ
  pub lines : List (List ℕ)

-- the same from the first line on that is not passed over
abbrev pub from_next : ℕ → List (List ℕ) → LinesLeft
from_next n [] = record { number = n; lines = [] }
from_next n (line ∷ more) = if is_passed_over line then from_next (n + 1) more else record { number = n; lines = line ∷ more }

-- the first line that is not passed over is given, and those behind it are left
pub record IsNext (old : LinesLeft) (line : Line) (new : LinesLeft) : Type 0 where
  pub taken : is_passed_over line.text.now ≡ false
  pub left : from_next old.number old.lines ≡ record { number = line.number; lines = line.text.now ∷ new.lines }
  pub number : new.number ≡ line.number + 1

-- no line is left that is not passed over
pub record AreOver (old new : LinesLeft) : Type 0 where
  pub left : from_next old.number old.lines ≡ new
  pub none : new.lines ≡ []
