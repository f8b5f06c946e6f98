use Rattle.std.proofs.Common.{sym, arith}
use Rattle.fs_blocks.proofs.CountLemmas.{parts_of-some}
use Rattle.fs_blocks.proofs.spare.parts_of.Goals as goal

pub returns : goal.returns
returns c = sym (parts_of-some c.args.size c.args.place c.args.count (omega arith))
