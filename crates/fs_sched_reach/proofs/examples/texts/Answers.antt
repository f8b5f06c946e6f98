use Rattle.std.proofs.Common.{refl}
use Rattle.memchr.specs.Find.{first_of, matches_from}
use Rattle.fs_sched_reach.proofs.examples.texts.Goals as goal

pub returns : goal.returns
unfolding first_of matches_from
returns c = record { named = refl; some = refl; none = refl }
