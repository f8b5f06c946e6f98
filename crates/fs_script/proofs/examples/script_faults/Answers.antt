use Rattle.std.proofs.Common.{refl}
use Rattle.fs_script.specs.Script.{script_of, blocks_from, schedule_from, block_line, schedule_word}
use Rattle.fs_text.specs.Calls.{call_of}
use Rattle.fs_names.specs.Reading.{reading}
use Rattle.fs_words.specs.Words.{number_of, hex_of}
use Rattle.percent_encoding.proofs.OnLiterals.{percent_encoding_on_literals}
use Rattle.hex.proofs.OnLiterals.{hex_on_literals}
use Rattle.fs_script.proofs.examples.script_faults.Goals as goal

pub returns : goal.returns
unfolding script_of blocks_from schedule_from block_line schedule_word call_of reading number_of hex_of percent_encoding_on_literals hex_on_literals
returns c = record {
  empty = refl;
  other_header = refl;
  spaced_second = refl;
  second_unended = refl;
  third_unended = refl;
  list_in_the_second = refl;
  few_words_of_a_list = refl;
  large_count_of_a_list = refl;
  spaced_header = refl;
  upper_thread = refl;
  thread_finish = refl;
  call_first = refl;
  thread_twice = refl;
  two_spaces = refl;
  few_words = refl;
  zero_byte = refl;
  trailing_slash = refl;
  leading_zero = refl;
  large_number = refl;
  odd_digits = refl;
  unknown_thread = refl;
  no_times = refl;
  many_times = refl;
  two_stars = refl;
  after_finish = refl;
  after_finish_below = refl;
  timed_checkpoint = refl;
  other_sign = refl;
  checkpoint_after_finish = refl;
  after_drawn = refl;
  finish_after_drawn = refl;
  drawn_twice = refl;
  timed_drawn = refl;
  thread_checkpoint = refl;
  many_events = refl;
  many_events_with_checkpoints = refl;
  no_schedule = refl;
  counted_lines = refl;
}
