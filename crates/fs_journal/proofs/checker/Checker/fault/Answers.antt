use Rattle.fs_journal.proofs.checker.Checker.fault.Goals as goal

pub returns-in-Begin : goal.returns-in-Begin
returns-in-Begin c = rw c.in-Begin.is (c.begin_fault.ensures c.in-Begin.field-2)
