use Rattle.std.proofs.Common.{◌≡◌, false, get_or, rules, subst}
use Rattle.fs_nodes.specs.Stores.{graph_of}
use Rattle.fs_sched_find.specs.What.{HasAll}
use Rattle.fs_sched_find.proofs.Steps.{all_more}
use Rattle.fs_sched_find.proofs.having.has.Goals as goal

pub loop-clauses-preserved : goal.loop-clauses-preserved
loop-clauses-preserved c =
    let item = c.clauses-item.result in
    let is : get_or c.args.what.now c.loop-clauses.clauses-index item ≡ item = cc in
    let not : c.in_ok-has_all.field-0 ≡ false = search rules in
    let none = subst (λ b. HasAll c.args.names.now c.args.lives.now (graph_of c.args.store.now) b c.as_slice.result.now) not c.in_ok-has_all.ensures in
    all_more (HasAll c.args.names.now c.args.lives.now (graph_of c.args.store.now) false) c.args.what.now c.loop-clauses.clauses-index item c.loop-clauses-test.true is c.loop-clauses.invariant
    (subst (HasAll c.args.names.now c.args.lives.now (graph_of c.args.store.now) false) c.as_slice.ensures none)
