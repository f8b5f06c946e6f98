use Rattle.std.proofs.Common.{arith, ◌∙◌}
use Rattle.fs_names.proofs.PrefixLemmas.{same_by_length, other_by_length}
use Rattle.fs_names.proofs.path.Path.same.Goals as goal

pub returns-then-len : goal.returns-then-len
returns-then-len c = other_by_length c.args.self.now c.args.other.now (λ e. absurd (omega arith))

pub returns : goal.returns
returns c = c.is_prefix_of.ensures ∙ same_by_length c.args.self.now c.args.other.now (omega arith)
