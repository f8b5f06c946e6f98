use Rattle.fs_linearize_flat.proofs.SeenLemmas.{seen_nowhere}
use Rattle.fs_linearize_flat.proofs.searching.find.Goals as goal

pub returns-in-Err : goal.returns-in-Err
returns-in-Err c = seen_nowhere c.args.cells.now c.args.key.now c.in-Err.field-0 c.in-Err.ensures
