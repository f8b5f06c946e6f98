use Rattle.std.proofs.Common.{subst}
use Rattle.fs_nodes.specs.Stores.{Places, graph_of}
use Rattle.fs_sched_find.specs.What.{Has}
use Rattle.fs_sched_find.proofs.Living.{run_answers}
use Rattle.fs_sched_find.proofs.finding.run_has_at.Goals as goal

pub returns-in-Ok-has-clause-has : goal.returns-in-Ok-has-clause-has
returns-in-Ok-has-clause-has c =
    let has = subst (λ (places : Places). Has c.args.script.now.names c.watch_at.new.witness (graph_of places) c.args.what.now c.in-Ok-has.has) c.store.ensures c.in-Ok-has.ensures in
    run_answers c.args.from.now c.args.schedule c.args.script.now c.args.what.now c.in-Ok-has.has c.new-lives.result c.watch_at.new.witness c.in-Ok.ran c.new-lives.ensures c.in-Ok.ensures.watches has
