use Rattle.std.proofs.Common.{refl}
use Rattle.std.specs.Fmt.{digits}
use Rattle.fs_script.specs.Journals.{opening}
use Rattle.fs_words.specs.Words.{escaped, hex_word}
use Rattle.percent_encoding.proofs.OnLiterals.{percent_encoding_on_literals}
use Rattle.hex.proofs.OnLiterals.{hex_on_literals}
use Rattle.fs_calls.specs.Tree.{look, inserted, removed, renamed}
use Rattle.fs_calls.specs.Outcomes.{fault, reply, after}
use Rattle.fs_script.proofs.examples.journals_written.Goals as goal

pub returns : goal.returns
unfolding opening digits escaped hex_word percent_encoding_on_literals hex_on_literals look inserted removed renamed fault reply after
returns c = record {
  from_the_root = refl;
  nothing = refl;
  from_a_directory = refl;
  by_the_second = refl;
  by_the_third = refl;
  from_a_file = refl;
}
