use Rattle.std.proofs.Common.{refl}
use Rattle.fs_names.specs.Reading.{reading}
use Rattle.fs_names.proofs.examples.paths.Goals as goal

pub returns : goal.returns
unfolding reading
returns c = record {
  root = refl;
  slashes = refl;
  two_names = refl;
  any_bytes = refl;
  dotted = refl;
  empty = refl;
  relative = refl;
  relative_before_zero = refl;
  zero_byte = refl;
  zero_before_dots = refl;
  trailing = refl;
  dot = refl;
  dots = refl;
  dots_before_trailing = refl;
  most_names = refl;
  too_many_names = refl;
  too_many_before_dots = refl;
  dots_before_too_many = refl;
  longest_name = refl;
  too_long_name = refl;
  longer_name = refl;
  longest_of_the_second = refl;
  too_long_for_both = refl;
  too_many_for_both = refl;
  most_names_of_the_third = refl;
  too_many_for_all = refl;
  too_many_before_too_long = refl;
}
