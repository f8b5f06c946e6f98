use Rattle.std.proofs.Common.{refl}
use Rattle.fs_linearize.specs.declared.faults.Known.{Known}
use Rattle.fs_linearize.proofs.KnownLemmas.{knows_begin}
use Rattle.fs_linearize.proofs.faults.Known.begin.Goals as goal

pub returns : goal.returns
returns c = λ before call k.
    let new : Known = record { begun = c.insert.new.self; returned = c.args.self.now.returned; last = c.insert-2.new.self } in
    knows_begin before c.args.self.now new c.args.number c.args.seat call c.in_ok-insert.ensures.updates c.in_ok-insert-2.ensures.updates refl k
