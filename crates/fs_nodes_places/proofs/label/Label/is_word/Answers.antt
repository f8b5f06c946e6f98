use Rattle.std.proofs.Common.{◌≡◌, ◌≤◌, length, sym, arith}
use Rattle.fs_names.proofs.Lemmas.{name_exact}
use Rattle.fs_names.proofs.HeadLemmas.{head_same}
use Rattle.fs_nodes_places.proofs.label.Label.is_word.Goals as goal

pub returns-then-own-le-WIDTH-clause-same : goal.returns-then-own-le-WIDTH-clause-same
returns-then-own-le-WIDTH-clause-same c = λ h.
    let own : length c.self.inside.name ≤ 8 = rw c.len-own.ensures.len at c.if-own-le-WIDTH.true.1 in
    let others : c.len-others.result ≤ 8 = grind arith in
    let same : c.self.inside.head ≡ c.args.first = c.if-own-le-WIDTH.true.0 in
    rw (← c.self.view_is) (name_exact c.self.inside.name c.args.name.now (sym (head_same c.self.inside.head c.args.first c.self.inside.name c.args.name.now c.self.invariant c.requires c.len-own.ensures.named c.len-others.ensures.named own (rw c.len-others.ensures.len at others) (omega arith) (omega arith))))
