use Rattle.std.proofs.Common.{◌≡◌, ◌<◌, ◌∙◌, sym, arith, Some}
use Rattle.fs_names.specs.declared.limits.TheConstants.{NODE_LIMIT}
use Rattle.fs_nodes.specs.code.Linked.{graph_of_places, next_child}
use Rattle.fs_nodes.proofs.StepLemmas.{passed_more, passed_smaller, passed_gap, passed_end, next_within, next_below}
use Rattle.fs_nodes.proofs.BehindLemmas.{lesser_is_entry}
use Rattle.fs_nodes.proofs.siblings.gap.Goals as goal

at_some : (c : goal.In-Some) → next_child (graph_of_places c.args.places.now) c.args.dir c.loop-n.invariant.low ≡ Some c.in-Some.n
at_some c = sym c.loop-n.invariant.next_is ∙ sym c.get.ensures ∙ c.in-Some.is

pub start-prev-requires-clause-after : goal.start-prev-requires-clause-after
start-prev-requires-clause-after c = lesser_is_entry (graph_of_places c.args.places.now) c.args.dir c.args.name.now c.args.after c.requires.after

pub loop-n-init : goal.loop-n-init
loop-n-init c = c.start-prev.ensures.stands c.args.name.now c.requires.after

pub offset_bounds-places-n : goal.offset_bounds-places-n
offset_bounds-places-n c = let h : c.in-Some.n < NODE_LIMIT = next_below c.args.places.now c.args.dir c.loop-n.invariant.low c.in-Some.n c.requires.places (at_some c) in omega arith

pub bounds-places-n : goal.bounds-places-n
bounds-places-n c = next_within c.args.places.now c.args.dir c.loop-n.invariant.low c.in-Some.n (at_some c)

pub returns-in_default-cmp : goal.returns-in_default-cmp
returns-in_default-cmp c = passed_gap c.args.places.now c.args.dir c.args.name.now c.loop-n.prev c.loop-n.next c.in-Some.n c.index-places-n.result c.requires.places c.loop-n.invariant (sym c.get.ensures ∙ c.in-Some.is) c.index-places-n.is c.requires.absent (λ e. c.in_default-cmp.not-Less (c.cmp.ensures ∙ e))

pub loop-n-smaller : goal.loop-n-smaller
loop-n-smaller c = passed_smaller c.args.places.now c.args.dir c.args.name.now c.loop-n.prev c.loop-n.next c.in-Some.n c.index-places-n.result c.requires.places c.loop-n.invariant (sym c.get.ensures ∙ c.in-Some.is) c.index-places-n.is

pub loop-n-preserved : goal.loop-n-preserved
loop-n-preserved c = passed_more c.args.places.now c.args.dir c.args.name.now c.loop-n.prev c.loop-n.next c.in-Some.n c.index-places-n.result c.requires.places c.loop-n.invariant (sym c.get.ensures ∙ c.in-Some.is) c.index-places-n.is (sym c.cmp.ensures ∙ c.in-Less.is)

pub returns : goal.returns
returns c = passed_end c.args.places.now c.args.dir c.args.name.now c.loop-n.prev c.loop-n.next c.requires.places c.loop-n.invariant (sym c.get.ensures ∙ c.in_default.is)
