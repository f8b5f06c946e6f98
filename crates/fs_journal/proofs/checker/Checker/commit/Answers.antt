use Rattle.std.proofs.Common.{sym}
use Rattle.fs_journal.proofs.CheckerLemmas.{knows_commit}
use Rattle.fs_journal.proofs.checker.Checker.commit.Goals as goal

pub returns-in_ok-reply : goal.returns-in_ok-reply
returns-in_ok-reply c =
    let number = c.get.ensures in
    let again = c.get-in-Some.ensures in
    let due = c.in_ok-reply.ensures.reply in
    let commits = rw (again, due) at c.commit.ensures in
    knows_commit c.args.self.now.calls c.commit.new.self c.args.self.now.last c.args.self.now.tree c.args.number c.in-Some.begun.now (rw number at (sym c.in-Some.ensures)) commits _ c.in_ok-reply.ensures.tree
