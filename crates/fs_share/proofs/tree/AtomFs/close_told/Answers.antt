use Rattle.fs_linearizable.proofs.LawfulLemmas.{lawful_is_linearizable}
use Rattle.fs_share.proofs.tree.AtomFs.close_told.Goals as goal

pub returns-clause-linearizable : goal.returns-clause-linearizable
returns-clause-linearizable g c = lawful_is_linearizable _ _ c.close.ensures.lawful
