-- What is learned of histories of single threads, one after the other.
use Rattle.std.specs.Prelude.{◌≡◌, List, [], ◌∷◌, ◌++◌, Result, Ok}
use Rattle.std.specs.List.{list_any}
use Rattle.fs_calls.specs.Starts.{Start}
use Rattle.fs_linearize_histories.specs.declared.heard.Heard.{Heard}
use Rattle.fs_words.specs.declared.fault.ScriptFault.{ScriptFault}
use Rattle.fs_linearize_text.specs.Learnings.{rows_in, overlaps, stays_unexplained}
use Rattle.fs_linearize_text.specs.declared.learning.Piece.{Piece}
use Rattle.fs_linearize_text.specs.declared.learning.Lessons.{Lessons}

-- the history of a piece
abbrev pub of_piece : Piece → Start × List Heard
of_piece p = (p.start, p.entries.items)

-- a history that was read is added
pub record ReadsPiece (given : Result (Start × List Heard) ScriptFault) (old new : List Piece) : Type 0 where
  pub piece : Piece
  pub read : given ≡ Ok (of_piece piece)
  pub pushed : new ≡ old ++ piece ∷ []

-- what was learned of histories so far
pub record AreLearned (hs : List (Start × List Heard)) (lessons : Lessons) : Type 0 where
  pub rows : lessons.rows.items ≡ rows_in hs
  pub overlaps_is : lessons.overlaps ≡ list_any overlaps hs
  pub unexplained_is : lessons.unexplained ≡ list_any stays_unexplained hs
