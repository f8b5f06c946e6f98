use Rattle.fs_script.proofs.JournalLemmas.{reads_journals_back}
use Rattle.fs_script.proofs.laws.reads_journals_back.Goals as goal

pub returns : goal.returns
returns c = reads_journals_back
