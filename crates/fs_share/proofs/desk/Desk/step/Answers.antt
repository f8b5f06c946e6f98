use Rattle.std.proofs.Common.{arith}
use Rattle.fs_share.proofs.Counting.{returns_le}
use Rattle.fs_share.proofs.desk.Desk.step.Goals as goal

pub returns-clause-room : goal.returns-clause-room
returns-clause-room g c =
    let s = c.args.self.now in
    let core = c.step-stepped.new.self.core in
    omega (arith, s.counted, c.step-stepped.ensures.returns, c.count_of.ensures, c.add.ensures.total, c.audit.ensures.bound, c.audit.ensures.amount, c.entry_count-room.ensures.count, c.entry_count-room.ensures.bound, returns_le core.timeline)
