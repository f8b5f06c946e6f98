use Rattle.std.proofs.Common.{[], ◌∷◌, refl}
use Rattle.fs_script.specs.Script.{script_of, blocks_from, schedule_from, block_line, schedule_word}
use Rattle.fs_script.specs.declared.script.Word.TheVariants.{Events}
use Rattle.fs_words.specs.Words.{number_of}
use Rattle.fs_trace.proofs.examples.schedules.Goals as goal

pub returns : goal.returns
unfolding script_of blocks_from schedule_from block_line schedule_word number_of
returns c = record {
  idle_turns = refl;
  one_word = (Events 1 2 ∷ Events 0 1 ∷ [], refl, refl);
  each_event = (Events 1 1 ∷ Events 1 1 ∷ Events 0 1 ∷ [], refl, refl);
  none = ([], refl, refl);
}
