use Rattle.fs_timeline.proofs.TimelineLemmas.{well_formed_appended}
use Rattle.fs_timeline.proofs.laws.well_formed_appended.Goals as goal

pub returns : goal.returns
returns c = well_formed_appended
