use Rattle.std.proofs.Common.{refl}
use Rattle.fs_linearize.specs.declared.faults.Known.{Known}
use Rattle.fs_linearize.proofs.KnownLemmas.{knows_return}
use Rattle.fs_linearize.proofs.faults.Known.end.Goals as goal

pub returns : goal.returns
returns c = λ before k.
    let new : Known = record { begun = c.args.self.now.begun; returned = c.insert.new.self; last = c.args.self.now.last } in
    knows_return before c.args.self.now new c.args.number _ refl c.in_ok-insert.ensures.updates refl refl k
