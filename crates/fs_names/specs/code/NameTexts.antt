-- The text in which the names of a list stand.
use Rattle.std.specs.Prelude.{◌≡◌, ℕ, List}
use Rattle.std.specs.List.{AllByRecursion}
use Rattle.fs_names.specs.Names.{IsName}
use Rattle.fs_names.specs.Keys.{names_text}
use Rattle.fs_names.specs.Reading.{names}

-- each name after one slash, and nothing else
pub record IsNameText (text : List ℕ) : Type 0 where
  pub written : names_text (names text) ≡ text
  pub named : AllByRecursion IsName (names text)
