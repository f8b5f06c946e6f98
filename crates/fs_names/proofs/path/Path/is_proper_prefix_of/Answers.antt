use Rattle.std.proofs.Common.{arith, ◌∙◌}
use Rattle.fs_names.proofs.PrefixLemmas.{above_by_length, below_by_length}
use Rattle.fs_names.proofs.path.Path.is_proper_prefix_of.Goals as goal

pub returns-then-len : goal.returns-then-len
returns-then-len c = below_by_length c.args.self.now c.args.other.now (omega arith)

pub returns : goal.returns
returns c = c.is_prefix_of.ensures ∙ above_by_length c.args.self.now c.args.other.now (omega arith)
