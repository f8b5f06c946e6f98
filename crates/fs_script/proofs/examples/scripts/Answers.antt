use Rattle.std.proofs.Common.{refl}
use Rattle.fs_script.specs.Script.{script_of, blocks_from, schedule_from, block_line, schedule_word}
use Rattle.fs_text.specs.Calls.{call_of}
use Rattle.fs_names.specs.Reading.{reading}
use Rattle.fs_words.specs.Words.{number_of, hex_of}
use Rattle.percent_encoding.proofs.OnLiterals.{percent_encoding_on_literals}
use Rattle.hex.proofs.OnLiterals.{hex_on_literals}
use Rattle.fs_script.proofs.examples.scripts.Goals as goal

pub returns : goal.returns
unfolding script_of blocks_from schedule_from block_line schedule_word call_of reading number_of hex_of percent_encoding_on_literals hex_on_literals
returns c = record {
  empty_script = refl;
  second_version = refl;
  third_version = refl;
  first_mkdir = refl;
  helped_mkdir = refl;
  waiting_victim = refl;
  checkpoints = refl;
  drawn_race = refl;
  empty_block = refl;
}
