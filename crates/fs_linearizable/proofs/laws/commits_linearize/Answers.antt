use Rattle.fs_linearizable.proofs.LawfulLemmas.{commits_linearize}
use Rattle.fs_linearizable.proofs.laws.commits_linearize.Goals as goal

pub returns : goal.returns
returns c = commits_linearize
