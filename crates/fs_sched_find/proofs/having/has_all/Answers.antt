use Rattle.std.proofs.Common.{◌≡◌, true, get_or, rules, subst}
use Rattle.fs_nodes.specs.Stores.{graph_of}
use Rattle.fs_sched_find.specs.What.{IsClause}
use Rattle.fs_sched_find.proofs.Steps.{all_more}
use Rattle.fs_sched_find.proofs.having.has_all.Goals as goal

pub loop-clause-preserved : goal.loop-clause-preserved
loop-clause-preserved c =
    let item = c.clause-item.result in
    let is : get_or c.args.clauses.now c.loop-clause.clause-index item ≡ item = cc in
    let held : c.in_ok-holds.field-0 ≡ true = search rules in
    all_more (IsClause c.args.names.now c.args.lives.now (graph_of c.args.store.now) true) c.args.clauses.now c.loop-clause.clause-index item c.loop-clause-test.true is c.loop-clause.invariant
    (subst (λ b. IsClause c.args.names.now c.args.lives.now (graph_of c.args.store.now) b item) held c.in_ok-holds.ensures)
