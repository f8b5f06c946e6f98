use Rattle.fs_journal.proofs.checker.Checker.take_in.Goals as goal

pub returns-in-Return : goal.returns-in-Return
returns-in-Return c = rw c.in-Return.is (c.end.ensures c.in-Return.field-1)
