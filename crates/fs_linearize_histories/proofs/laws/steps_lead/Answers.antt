use Rattle.fs_linearize_histories.proofs.PathLemmas.{steps_lead}
use Rattle.fs_linearize_histories.proofs.laws.steps_lead.Goals as goal

pub returns : goal.returns
returns c = steps_lead
