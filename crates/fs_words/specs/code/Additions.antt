-- A text, and what was appended to it.
use Rattle.std.specs.Prelude.{ℕ, List}

-- the text as it was, and what was appended
pub record AddedText : Type 0 where
  pub before : List ℕ
  pub added : List ℕ
