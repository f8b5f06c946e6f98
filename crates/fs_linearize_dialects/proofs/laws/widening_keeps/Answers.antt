use Rattle.fs_linearize_dialects.proofs.WideLemmas as wide
use Rattle.fs_linearize_dialects.proofs.laws.widening_keeps.Goals as goal

pub returns : goal.returns
returns c = wide.widening_keeps
