use Rattle.fs_seq.proofs.Fitting.{fitting_rows_are_trees}
use Rattle.fs_seq.proofs.row_laws.fitting_rows_are_trees.Goals as goal

pub returns : goal.returns
returns c = fitting_rows_are_trees
