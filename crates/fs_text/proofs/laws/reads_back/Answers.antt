use Rattle.fs_text.proofs.EntryLemmas.{reads_back}
use Rattle.fs_text.proofs.laws.reads_back.Goals as goal

pub returns : goal.returns
returns c = reads_back
