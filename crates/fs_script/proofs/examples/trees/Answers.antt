use Rattle.std.proofs.Common.{refl}
use Rattle.fs_script.specs.TreeText.{tree_text}
use Rattle.fs_words.specs.Words.{escaped, hex_word}
use Rattle.percent_encoding.proofs.OnLiterals.{percent_encoding_on_literals}
use Rattle.hex.proofs.OnLiterals.{hex_on_literals}
use Rattle.fs_calls.specs.Tree.{look, inserted, removed, renamed}
use Rattle.fs_calls.specs.Outcomes.{fault, reply, after}
use Rattle.fs_script.proofs.examples.trees.Goals as goal

pub returns : goal.returns
unfolding tree_text escaped hex_word percent_encoding_on_literals hex_on_literals look inserted removed renamed fault reply after
returns c = record {
  root = refl;
  helped_mkdir = refl;
  helped_rename = refl;
  renames_in_sequence = refl;
}
