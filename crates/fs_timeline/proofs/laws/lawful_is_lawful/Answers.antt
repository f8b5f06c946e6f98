use Rattle.fs_timeline.proofs.VerdictLemmas.{lawful_is_lawful}
use Rattle.fs_timeline.proofs.laws.lawful_is_lawful.Goals as goal

pub returns : goal.returns
returns c = lawful_is_lawful
