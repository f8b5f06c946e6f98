use Rattle.std.proofs.Common.{refl}
use Rattle.fs_sched_reach.proofs.examples.calls.Goals as goal

pub returns : goal.returns
returns c = record { not_begun = refl; begun = refl; not_helped = refl; by_help = refl; not_committed = refl; by_itself = refl }
