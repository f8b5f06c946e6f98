use Rattle.std.proofs.Common.{refl}
use Rattle.fs_text.specs.Journal.{entries_of, entries_from, entry_of, reply_of}
use Rattle.fs_text.specs.Calls.{call_of}
use Rattle.fs_names.specs.Reading.{reading}
use Rattle.fs_words.specs.Words.{number_of, hex_of}
use Rattle.percent_encoding.proofs.OnLiterals.{percent_encoding_on_literals}
use Rattle.hex.proofs.OnLiterals.{hex_on_literals}
use Rattle.fs_text.proofs.examples.journals.Goals as goal

pub returns : goal.returns
unfolding entries_of entries_from entry_of call_of reply_of reading number_of hex_of percent_encoding_on_literals hex_on_literals
returns c = record {
  no_entries = refl;
  first_mkdir = refl;
  replies = refl;
}
