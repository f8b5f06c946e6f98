use Rattle.std.proofs.Common.{◌≡◌, ◌<◌, ◌∙◌, ℕ, Option, IfSome, ap, sym, subst, arith, Some}
use Rattle.std.specs.Option.{option_copied}
use Rattle.fs_names.specs.declared.limits.TheConstants.{NODE_LIMIT}
use Rattle.fs_names.specs.Names.{Name}
use Rattle.fs_nodes.specs.code.Linked.{graph_of_places, next_child, IsEntry, IsLesser, IsPassed}
use Rattle.fs_nodes.proofs.StepLemmas.{IsAsked, asked_first, asked_more, asked_found, asked_end, rank_smaller, next_within, next_below}
use Rattle.fs_nodes.proofs.BehindLemmas.{lesser_is_entry, asked_passed}
use Rattle.fs_nodes.proofs.siblings.least_above.Goals as goal
use Rattle.fs_nodes.proofs.siblings.least_above.Goals.{In-Some-next, in-Some, in-None}

at_some : (c : goal.In-Some-next) → next_child (graph_of_places c.args.places.now) c.args.dir c.loop-next.invariant.base ≡ Some c.in-Some-next.n
at_some c = sym c.loop-next.invariant.next_is ∙ c.in-Some-next.is

pub start-requires-clause-after : goal.start-requires-clause-after
start-requires-clause-after c = elim c.match-low.branch [
  | in-Some w ↦ subst (λ (o : Option ℕ). IfSome o (IsEntry (graph_of_places c.args.places.now) c.args.dir)) (sym w.after-is) (lesser_is_entry (graph_of_places c.args.places.now) c.args.dir w.in-Some.name.now w.lesser_told-after.result w.lesser_told-after.ensures.lesser)
  | in-None w ↦ subst (λ (o : Option ℕ). IfSome o (IsEntry (graph_of_places c.args.places.now) c.args.dir)) (sym w.after-is) tt
]

pub loop-next-init : goal.loop-next-init
loop-next-init c = elim c.match-low.branch [
  | in-Some w ↦ subst (λ (o : Option Name). IsAsked c.args.places.now c.args.dir o c.get-next.result) (sym (ap option_copied w.in-Some.is)) (asked_passed c.args.places.now c.args.dir w.in-Some.name.now c.start.result.0 c.get-next.result (subst (IsPassed c.args.places.now c.args.dir w.in-Some.name.now c.start.result.0) (sym c.get-next.ensures) (c.start.ensures.stands w.in-Some.name.now (subst (λ (o : Option ℕ). IfSome o (IsLesser (graph_of_places c.args.places.now) c.args.dir w.in-Some.name.now)) (sym w.after-is) w.lesser_told-after.ensures.lesser))))
  | in-None w ↦ asked_first c.args.places.now c.args.dir (option_copied c.args.low) c.get-next.result (c.get-next.ensures ∙ c.start.ensures.first w.after-is)
]

pub offset_bounds-places-n : goal.offset_bounds-places-n
offset_bounds-places-n c = let h : c.in-Some-next.n < NODE_LIMIT = next_below c.args.places.now c.args.dir c.loop-next.invariant.base c.in-Some-next.n c.requires (at_some c) in omega arith

pub bounds-places-n : goal.bounds-places-n
bounds-places-n c = next_within c.args.places.now c.args.dir c.loop-next.invariant.base c.in-Some-next.n (at_some c)

pub loop-next-smaller : goal.loop-next-smaller
loop-next-smaller c = rw c.get-next-in-Some-next.ensures (rank_smaller c.args.places.now c.args.dir c.loop-next.invariant.base c.loop-next.next c.in-Some-next.n c.index-places-n.result c.requires c.loop-next.invariant.next_is c.in-Some-next.is c.index-places-n.is)

pub loop-next-preserved : goal.loop-next-preserved
loop-next-preserved c = asked_more c.args.places.now c.args.dir (option_copied c.args.low) c.loop-next.next c.get-next-in-Some-next.result c.in-Some-next.n c.index-places-n.result c.requires c.loop-next.invariant c.in-Some-next.is c.index-places-n.is (sym (rw c.name.ensures at c.is_higher.ensures) ∙ c.if-is_higher.false) c.get-next-in-Some-next.ensures

pub returns-then-is_higher : goal.returns-then-is_higher
returns-then-is_higher c = asked_found c.args.places.now c.args.dir (option_copied c.args.low) c.loop-next.next c.in-Some-next.n c.index-places-n.result c.requires c.loop-next.invariant c.in-Some-next.is c.index-places-n.is (sym (rw c.name.ensures at c.is_higher.ensures) ∙ c.if-is_higher.true)

pub returns : goal.returns
returns c = asked_end c.args.places.now c.args.dir (option_copied c.args.low) c.loop-next.next c.requires c.loop-next.invariant c.in_default.is
