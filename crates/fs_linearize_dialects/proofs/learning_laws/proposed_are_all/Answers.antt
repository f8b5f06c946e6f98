use Rattle.fs_linearize_dialects.proofs.TableLemmas as table
use Rattle.fs_linearize_dialects.proofs.learning_laws.proposed_are_all.Goals as goal

pub returns : goal.returns
returns c = table.proposed_are_all
