use Rattle.std.proofs.Common.{◌≡◌, ◌++◌, ◌∷◌, take}
use Rattle.std.specs.List.{AllByRecursion, flat_map}
use Rattle.fs_names.specs.Limits.{largest}
use Rattle.fs_text.specs.Fits.{FitsName}
use Rattle.fs_words.specs.Words.{escaped}
use Rattle.fs_script.proofs.node_line.push_names.Given as goal

abbrev pub invariant-loop-name : goal.invariant-loop-name
invariant-loop-name l = record {
  added : l.line.added ≡ l.fn.line.added ++ flat_map (λ n. 47 ∷ escaped n) (take l.name-index l.names);
  fits : AllByRecursion (FitsName largest) (take l.name-index l.names);
  before : l.line.before ≡ l.fn.line.before;
}
