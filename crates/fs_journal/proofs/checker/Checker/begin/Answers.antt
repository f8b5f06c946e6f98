use Rattle.std.proofs.Common.{refl, None, false}
use Rattle.fs_journal.proofs.CheckerLemmas.{knows_begin}
use Rattle.fs_journal.proofs.checker.Checker.begin.Goals as goal

pub returns : goal.returns
returns c =
    let number = c.get.ensures in
    let seat = c.get-2.ensures in
    let again = c.get-3.ensures in
    let begins = rw number at c.in_ok-begin.ensures in
    let seats = rw (seat, again) at c.in_ok-insert.ensures.updates in
    knows_begin c.args.self.now.calls c.begin.new.self c.args.self.now.last c.insert.new.self c.args.self.now.tree c.args.number c.args.seat
    (record { call = c.args.call; due = None; returned = false }) refl refl c.requires begins seats
