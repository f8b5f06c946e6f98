use Rattle.fs_ops.proofs.end.give_back.Goals as goal

pub release-requires-clause-unlinked : goal.release-requires-clause-unlinked
release-requires-clause-unlinked c = (c.requires c.in-Some.node c.in-Some.is).unlinked

pub release-requires-clause-not_root : goal.release-requires-clause-not_root
release-requires-clause-not_root c = (c.requires c.in-Some.node c.in-Some.is).not_root
