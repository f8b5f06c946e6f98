-- Configurations that differ.
use Rattle.std.specs.Prelude.{◌≡◌, List, [], ◌∷◌, Contains}
use Rattle.fs_linearize_histories.specs.Configurations.{Configuration}

-- no configuration is there twice
abbrev pub AreApart : List Configuration → Type 0
AreApart [] = Unit {0}
AreApart (x ∷ xs) = (Contains xs x → ⊥) × AreApart xs
