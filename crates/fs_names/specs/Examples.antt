-- Worked examples of reading a path.
use Rattle.std.specs.Prelude.{◌≡◌, ℕ, zero, suc, List, [], ◌∷◌, ◌++◌, replicate, codes, Ok, Err}
use Rattle.fs_names.specs.Reading.{reading}
use Rattle.fs_names.specs.declared.limits.Limits.TheVariants.{V1, V2, V3}
use Rattle.fs_names.specs.declared.fault.PathFault.TheVariants.{NotAbsolute, Nul, NameTooLong, TooManyNames, Dot, TrailingSlash}

-- "/n", so many times
abbrev pub repeated : ℕ → List ℕ
repeated zero = []
repeated (suc n) = 47 ∷ 110 ∷ repeated n

-- what bytes are read as, and with which fault
pub record PathExamples : Type 0 where
  pub root : reading V1 (codes "/") ≡ Ok []
  pub slashes : reading V1 (codes "///") ≡ Ok []
  pub two_names : reading V1 (codes "//a///b") ≡ Ok (codes "a" ∷ codes "b" ∷ [])
  pub any_bytes : reading V1 (47 ∷ 255 ∷ 32 ∷ 10 ∷ []) ≡ Ok ((255 ∷ 32 ∷ 10 ∷ []) ∷ [])
  pub dotted : reading V1 (codes "/.a/...") ≡ Ok (codes ".a" ∷ codes "..." ∷ [])
  pub empty : reading V1 [] ≡ Err NotAbsolute
  pub relative : reading V1 (codes "a") ≡ Err NotAbsolute
  pub relative_before_zero : reading V1 (97 ∷ 0 ∷ []) ≡ Err NotAbsolute
  pub zero_byte : reading V1 (47 ∷ 97 ∷ 0 ∷ []) ≡ Err Nul
  pub zero_before_dots : reading V1 (codes "/../" ++ 0 ∷ []) ≡ Err Nul
  pub trailing : reading V1 (codes "/a/") ≡ Err TrailingSlash
  pub dot : reading V1 (codes "/./a") ≡ Err Dot
  pub dots : reading V1 (codes "/a/../b") ≡ Err Dot
  pub dots_before_trailing : reading V1 (codes "/../") ≡ Err Dot
  pub most_names : reading V1 (repeated 64) ≡ Ok (replicate 64 (codes "n"))
  pub too_many_names : reading V1 (repeated 65) ≡ Err TooManyNames
  pub too_many_before_dots : reading V1 (repeated 64 ++ codes "/..") ≡ Err TooManyNames
  pub dots_before_too_many : reading V1 (codes "/.." ++ repeated 65) ≡ Err Dot
  pub longest_name : reading V1 (47 ∷ replicate 32 110) ≡ Ok (replicate 32 110 ∷ [])
  pub too_long_name : reading V1 (47 ∷ replicate 33 110) ≡ Err NameTooLong
  pub longer_name : reading V2 (47 ∷ replicate 33 110) ≡ Ok (replicate 33 110 ∷ [])
  pub longest_of_the_second : reading V2 (47 ∷ replicate 64 110) ≡ Ok (replicate 64 110 ∷ [])
  pub too_long_for_both : reading V2 (47 ∷ replicate 65 110) ≡ Err NameTooLong
  pub too_many_for_both : reading V2 (repeated 65) ≡ Err TooManyNames
  pub most_names_of_the_third : reading V3 (repeated 2048) ≡ Ok (replicate 2048 (codes "n"))
  pub too_many_for_all : reading V3 (repeated 2049) ≡ Err TooManyNames
  pub too_many_before_too_long : reading V1 (repeated 64 ++ 47 ∷ replicate 33 110) ≡ Err TooManyNames
