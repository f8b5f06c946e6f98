use Rattle.std.proofs.Common.{refl}
use Rattle.std.specs.Fmt.{digits}
use Rattle.fs_words.specs.Words.{escaped, hex_word}
use Rattle.percent_encoding.proofs.OnLiterals.{percent_encoding_on_literals}
use Rattle.hex.proofs.OnLiterals.{hex_on_literals}
use Rattle.fs_text.proofs.examples.texts_written.Goals as goal

pub returns : goal.returns
unfolding digits escaped hex_word percent_encoding_on_literals hex_on_literals
returns c = record {
  first_mkdir = refl;
  failed = refl;
  crowded = refl;
  name_with_escapes = refl;
  name_beyond_ascii = refl;
  ends_of_escapes = refl;
  names = refl;
  root = refl;
  list = refl;
  bytes = refl;
}
