use Rattle.fs_journal.proofs.CheckerLemmas.{knows_end, begun_if_due}
use Rattle.fs_journal.proofs.checker.Checker.end.Goals as goal

pub returns : goal.returns
returns c r =
    let number = c.get.ensures in
    let ends = rw number at c.end.ensures in
    knows_end c.args.self.now.calls c.end.new.self c.args.self.now.last c.args.self.now.tree c.args.number r (begun_if_due c.args.self.now.calls c.args.number c.requires) ends
