use Rattle.std.proofs.Common.{arith}
use Rattle.fs_names.proofs.ParentLemmas.{common_length}
use Rattle.fs_ops.proofs.begin.common_len.Goals as goal

pub returns-clause-len : goal.returns-clause-len
returns-clause-len c = omega (arith, common_length c.args.path.now c.args.other.now)
