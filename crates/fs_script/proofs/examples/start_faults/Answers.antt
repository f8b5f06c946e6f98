use Rattle.std.proofs.Common.{refl}
use Rattle.fs_script.specs.Journals.{journal_of, behind_line, started_from}
use Rattle.fs_text.specs.Journal.{entries_of, entries_from, entry_of, reply_of}
use Rattle.fs_text.specs.Calls.{call_of}
use Rattle.fs_names.specs.Reading.{reading}
use Rattle.fs_words.specs.Words.{number_of, hex_of, escaped, hex_word}
use Rattle.percent_encoding.proofs.OnLiterals.{percent_encoding_on_literals}
use Rattle.hex.proofs.OnLiterals.{hex_on_literals}
use Rattle.fs_calls.specs.Tree.{look, inserted, removed, renamed}
use Rattle.fs_calls.specs.Outcomes.{fault, reply, after}
use Rattle.fs_script.proofs.examples.start_faults.Goals as goal

pub returns : goal.returns
unfolding journal_of behind_line started_from entries_of entries_from entry_of call_of reply_of reading number_of hex_of escaped hex_word percent_encoding_on_literals hex_on_literals look inserted removed renamed fault reply after
returns c = record {
  nothing = refl;
  entries_alone = refl;
  no_nodes = refl;
  no_root = refl;
  root_file = refl;
  unended = refl;
  out_of_order = refl;
  twice = refl;
  after_its_entry = refl;
  in_a_file = refl;
  two_slashes = refl;
  needless_escape = refl;
  upper_digit = refl;
  space_at_the_end = refl;
  no_bytes = refl;
  dot = refl;
  long_name = refl;
  tree_line = refl;
  counted = refl;
  second_entries = refl;
  third_alone = refl;
  third_without_start = refl;
  fourth_without_start = refl;
  list_in_the_third = refl;
  other_version = refl;
  first_version_alone = refl;
  tree_alone = refl;
  tree_without_root = refl;
  tree_of_entries = refl;
  tree_with_entries = refl;
  tree_with_a_journal = refl;
  tree_at_fault_before = refl;
  tree_without_end = refl;
}
