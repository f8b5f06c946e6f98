use Rattle.std.proofs.Common.{refl}
use Rattle.fs_text.specs.Journal.{entries_of, entries_from, entry_of, reply_of}
use Rattle.fs_text.specs.Calls.{call_of}
use Rattle.fs_names.specs.Reading.{reading}
use Rattle.fs_words.specs.Words.{number_of, hex_of}
use Rattle.percent_encoding.proofs.OnLiterals.{percent_encoding_on_literals}
use Rattle.hex.proofs.OnLiterals.{hex_on_literals}
use Rattle.fs_text.proofs.examples.journal_faults.Goals as goal

pub returns : goal.returns
unfolding entries_of entries_from entry_of call_of reply_of reading number_of hex_of percent_encoding_on_literals hex_on_literals
returns c = record {
  empty = refl;
  script_header = refl;
  commit_nothing = refl;
  commit_two = refl;
  begin_few = refl;
  return_few = refl;
  list_in_the_first = refl;
  list_before_number = refl;
  relative_path = refl;
  no_reply = refl;
  dots = refl;
  number_in_reply = refl;
  bytes_in_reply = refl;
  call_number_first = refl;
  form_before_number = refl;
}
