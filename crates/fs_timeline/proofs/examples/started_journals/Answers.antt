use Rattle.std.proofs.Common.{refl}
use Rattle.fs_calls.specs.Tree.{look, inserted, removed, renamed}
use Rattle.fs_calls.specs.Outcomes.{fault, reply, after}
use Rattle.fs_timeline.proofs.examples.started_journals.Goals as goal

pub returns : goal.returns
unfolding look inserted removed renamed fault reply after
returns c = record { there_already = refl; from_the_start = refl }
