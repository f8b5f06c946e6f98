use Rattle.std.proofs.Common.{arith, ◌∙◌, ap₂}
use Rattle.std.specs.Prelude.{nat_le}
use Rattle.fs_names.specs.Keys.{parent_of}
use Rattle.fs_names.proofs.PrefixLemmas.{other_by_length, one_parent}
use Rattle.fs_names.proofs.path.Path.has_parent_of.Goals as goal

pub returns-then-parent_len : goal.returns-then-parent_len
returns-then-parent_len c = other_by_length (parent_of c.args.self.now) (parent_of c.args.other.now) (λ e. absurd (omega arith))

pub returns : goal.returns
returns c = ap₂ nat_le c.parent_len-3.ensures.len c.common.ensures ∙ one_parent c.args.self.now c.args.other.now (omega arith)
