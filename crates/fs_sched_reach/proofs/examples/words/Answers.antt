use Rattle.std.proofs.Common.{refl}
use Rattle.std.specs.Fmt.{digits}
use Rattle.fs_words.specs.Words.{number_of}
use Rattle.fs_sched_reach.proofs.examples.words.Goals as goal

pub returns : goal.returns
unfolding number_of digits
returns c = record { begin = refl; commit = refl; no_number = refl; count = refl; some = refl; none = refl }
