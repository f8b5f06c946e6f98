use Rattle.std.proofs.Common.{length}
use Rattle.fs_names.proofs.PaddedLemmas.{padded, zeros_left}
use Rattle.fs_names.proofs.name.in_place.Goals as goal

pub returns-clause-placed : goal.returns-clause-placed
returns-clause-placed c = (c.requires, padded c.args.bytes.now _ _ c.copy_from_slice.ensures.after (zeros_left (length c.args.bytes.now) 64))
