use Rattle.std.proofs.Common.{refl}
use Rattle.fs_words.specs.Words.{number_of}
use Rattle.fs_text.proofs.examples.numbers.Goals as goal

pub returns : goal.returns
unfolding number_of
returns c = record {
  zero = refl;
  largest = refl;
  too_large = refl;
  two_zeros = refl;
  signed = refl;
  nothing = refl;
  largest_count = refl;
  too_large_count = refl;
}
