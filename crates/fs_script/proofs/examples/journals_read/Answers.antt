use Rattle.std.proofs.Common.{refl}
use Rattle.fs_script.specs.Journals.{journal_of, behind_line, started_from}
use Rattle.fs_text.specs.Journal.{entries_of, entries_from, entry_of, reply_of}
use Rattle.fs_text.specs.Calls.{call_of}
use Rattle.fs_names.specs.Reading.{reading}
use Rattle.fs_words.specs.Words.{number_of, hex_of, escaped, hex_word}
use Rattle.percent_encoding.proofs.OnLiterals.{percent_encoding_on_literals}
use Rattle.hex.proofs.OnLiterals.{hex_on_literals}
use Rattle.fs_calls.specs.Tree.{look, inserted, removed, renamed}
use Rattle.fs_calls.specs.Outcomes.{fault, reply, after}
use Rattle.fs_script.proofs.examples.journals_read.Goals as goal

pub returns : goal.returns
unfolding journal_of behind_line started_from entries_of entries_from entry_of call_of reply_of reading number_of hex_of escaped hex_word percent_encoding_on_literals hex_on_literals look inserted removed renamed fault reply after
returns c = record {
  root_alone = refl;
  first_version = refl;
  third_version = refl;
  fourth_version = refl;
  small = refl;
}
