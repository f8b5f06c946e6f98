use Rattle.fs_timeline.proofs.TimelineLemmas.{lawful_without_the_last}
use Rattle.fs_timeline.proofs.laws.lawful_without_the_last.Goals as goal

pub returns : goal.returns
returns c = lawful_without_the_last
