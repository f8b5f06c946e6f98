use Rattle.std.proofs.Common.{arith}
use Rattle.fs_names.proofs.ParentLemmas.{parent_length}
use Rattle.fs_names.proofs.path.Path.parent_len.Goals as goal

pub returns-clause-len : goal.returns-clause-len
returns-clause-len c = omega (arith, parent_length c.args.self.now)
