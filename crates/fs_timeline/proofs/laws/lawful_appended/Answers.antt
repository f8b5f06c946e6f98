use Rattle.fs_timeline.proofs.TimelineLemmas.{lawful_appended}
use Rattle.fs_timeline.proofs.laws.lawful_appended.Goals as goal

pub returns : goal.returns
returns c = lawful_appended
