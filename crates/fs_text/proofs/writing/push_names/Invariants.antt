use Rattle.std.proofs.Common.{◌≡◌, ◌++◌, ◌∷◌, length}
use Rattle.std.specs.List.{AllByRecursion, flat_map}
use Rattle.fs_names.specs.Limits.{largest}
use Rattle.fs_text.specs.Fits.{FitsName}
use Rattle.fs_words.specs.Words.{escaped}
use Rattle.fs_text.proofs.writing.push_names.Given as goal

abbrev pub invariant-names : goal.invariant-names
invariant-names l = record {
  added : l.line.added ++ flat_map (λ n. 32 ∷ escaped n) l.left ≡ l.fn.line.added ++ flat_map (λ n. 32 ∷ escaped n) l.names;
  before : l.line.before ≡ l.fn.line.before;
  fits : AllByRecursion (FitsName largest) l.left → AllByRecursion (FitsName largest) l.names;
}

abbrev pub decreases-names : goal.decreases-names
decreases-names l = length l.left
