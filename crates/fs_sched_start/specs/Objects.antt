-- The verdicts on drawn runs, as objects of JSON.
use Rattle.std.specs.Prelude.{ℕ, List, ◌++◌, codes, decimal}
use Rattle.std.specs.List.{flat_map, range_with_len}

-- a drawn run that is lawful
abbrev pub seed_text : ℕ → List ℕ
seed_text n = codes "{\"seed\":" ++ (decimal n ++ codes ",\"lawful\":true}\n")

-- so many of them from a number on, a line for each
abbrev pub seeds_text : ℕ → ℕ → List ℕ
seeds_text seed runs = flat_map seed_text (range_with_len seed runs)
