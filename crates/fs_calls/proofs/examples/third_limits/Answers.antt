use Rattle.std.proofs.Common.{refl}
use Rattle.fs_calls.specs.Tree.{look, inserted, removed, renamed}
use Rattle.fs_calls.specs.Outcomes.{fault, reply, after}
use Rattle.fs_calls.proofs.examples.third_limits.Goals as goal

pub returns : goal.returns
unfolding look inserted removed renamed fault reply after
returns c = refl
