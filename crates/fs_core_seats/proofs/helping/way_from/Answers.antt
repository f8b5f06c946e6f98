use Rattle.fs_nodes.specs.Stores.{graph_of}
use Rattle.fs_locks.specs.Holding.{room}
use Rattle.fs_core_seats.proofs.Below.{key_within}
use Rattle.fs_core_seats.proofs.Ways.{way_start, way_looked, way_more, way_top, way_below}
use Rattle.fs_core_seats.proofs.helping.way_from.Goals as goal

pub loop-step-init : goal.loop-step-init
loop-step-init c =
    let root = c.requires.can.rooted c.args.seat c.args.position c.requires.position in
    way_start (graph_of c.args.store.now) c.args.seats.now (room c.args.holders.now) c.args.moved.now c.args.seat c.args.position root.0 root.1
    (key_within (graph_of c.args.store.now) (room c.args.holders.now) c.requires.can.graph c.requires.can.within root.0 c.args.position root.1)

pub returns-in-None-clause-below : goal.returns-in-None-clause-below
returns-in-None-clause-below c =
    way_below (graph_of c.args.store.now) c.args.moved.now c.args.position c.loop-step.above c.loop-step.below c.passes-below.result c.loop-step.invariant.from c.loop-step.invariant.found c.loop-step.invariant.ahead c.passes-below.ensures c.in-None.ensures

pub returns-in-None-clause-above : goal.returns-in-None-clause-above
returns-in-None-clause-above c =
    let looked = way_looked (graph_of c.args.store.now).child c.args.seats.now c.args.seat c.args.position c.loop-step.above c.loop-step.met c.met_with-met.result c.loop-step.invariant.from c.loop-step.invariant.passed c.met_with-met.ensures in
    way_top (graph_of c.args.store.now) c.args.seats.now c.args.seat c.args.position c.loop-step.above c.met_with-met.result c.in-None.ensures looked

pub loop-step-preserved : goal.loop-step-preserved
loop-step-preserved c =
    let looked = way_looked (graph_of c.args.store.now).child c.args.seats.now c.args.seat c.args.position c.loop-step.above c.loop-step.met c.met_with-met.result c.loop-step.invariant.from c.loop-step.invariant.passed c.met_with-met.ensures in
    way_more (graph_of c.args.store.now) c.requires.can.graph c.args.seats.now (room c.args.holders.now) c.args.moved.now c.args.seat c.args.position c.loop-step.above c.loop-step._step c.loop-step.met c.met_with-met.result c.loop-step.below c.passes-below.result c.in-Some.parent c.loop-step.invariant looked
    c.passes-below.ensures c.in-Some.ensures
