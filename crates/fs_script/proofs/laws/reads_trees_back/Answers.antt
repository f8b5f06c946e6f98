use Rattle.fs_script.proofs.TreeTexts.{reads_trees_back}
use Rattle.fs_script.proofs.laws.reads_trees_back.Goals as goal

pub returns : goal.returns
returns c = reads_trees_back
