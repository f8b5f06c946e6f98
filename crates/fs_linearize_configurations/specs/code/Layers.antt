-- Layers of the search.
use Rattle.std.specs.Prelude.{◌≡◌, ℕ, List, map}
use Rattle.fs_linearize_histories.specs.Apart.{AreApart}
use Rattle.fs_linearize_configurations.specs.code.Keys.{key_of}
use Rattle.fs_linearize_configurations.specs.code.Ways.{configurations}
use Rattle.fs_linearize_configurations.specs.declared.reached.Reached.{Reached}
use Rattle.fs_linearize_configurations.specs.declared.layer.Layer.TheInside.{Inside}

-- the keys of what was reached, by the calls that are held
abbrev pub keys : List Reached → List ℕ
keys rs = map (λ (r : Reached). key_of r.configuration.held) rs

-- what was reached is found by its keys, and no configuration is there twice
pub record IsLayer (l : Inside) : Type 0 where
  pub keyed : l.chains ≡ keys l.reached.items
  pub apart : AreApart (configurations l.reached.items)
