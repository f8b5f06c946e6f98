use Rattle.std.proofs.Common.{ap, length}
use Rattle.fs_core.proofs.Readiness.{start_kept}
use Rattle.fs_core.proofs.Starting.{none_starts}
use Rattle.fs_core_seats.proofs.Among.{none_among}
use Rattle.fs_core.proofs.engine.Core.at.Goals as goal

pub invariant_of-result : goal.invariant_of-result
invariant_of-result c = rw (c.new.ensures.items, c.new-2.ensures, c.new-6.ensures, c.new-7.ensures)
    ((start_kept c.args.start c.args.store c.args.holders c.requires.start c.requires.most c.requires.form c.requires.free c.requires.room).1, ap length c.new-3.ensures.items, rw c.new-4.ensures.items none_starts, rw c.new-5.ensures.places (none_among _))

pub returns-clause-state : goal.returns-clause-state
returns-clause-state c = rw (c.new.ensures.items, c.new-2.ensures, c.new-6.ensures)
    (start_kept c.args.start c.args.store c.args.holders c.requires.start c.requires.most c.requires.form c.requires.free c.requires.room).0
