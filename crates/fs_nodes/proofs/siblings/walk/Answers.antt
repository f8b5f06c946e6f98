use Rattle.std.proofs.Common.{◌<◌, ◌≤◌, ◌+◌, ◌∙◌, ℕ, Option, IfSome, length, sym, subst, arith}
use Rattle.fs_names.specs.Shapes.{names_of}
use Rattle.fs_names.specs.declared.limits.TheConstants.{NODE_LIMIT}
use Rattle.fs_nodes.specs.code.Linked.{graph_of_places, IsLesser}
use Rattle.fs_nodes_places.specs.code.Spots.{one_of}
use Rattle.fs_nodes.proofs.StepLemmas.{dir_length, next_below}
use Rattle.fs_nodes.proofs.BehindLemmas.{lesser_within, lesser_below}
use Rattle.fs_nodes.proofs.WalkLemmas.{walk_first, walk_after, walk_more, walk_smaller, walk_within, walk_looks, walk_found, walk_past, walk_ends, walk_none, number_is, number_is_not}
use Rattle.fs_nodes.proofs.siblings.walk.Goals as goal
use Rattle.fs_nodes.proofs.siblings.walk.Goals.{in-Some, in-None}

lesser : (c : goal.In-Some) → IsLesser (graph_of_places c.args.places.now) c.args.dir c.args.name.now c.in-Some.n
lesser c = subst (λ (o : Option ℕ). IfSome o (IsLesser (graph_of_places c.args.places.now) c.args.dir c.args.name.now)) c.in-Some.is c.requires.after

pub offset_bounds-places-n : goal.offset_bounds-places-n
offset_bounds-places-n c = let h : c.in-Some.n < NODE_LIMIT = lesser_below c.args.places.now c.args.dir c.args.name.now c.in-Some.n c.requires.places (lesser c) in omega arith

pub bounds-places-n : goal.bounds-places-n
bounds-places-n c = lesser_within c.args.places.now c.args.dir c.args.name.now c.in-Some.n (lesser c)

pub loop-next-init : goal.loop-next-init
loop-next-init c = elim c.match-after.branch [
  | in-Some w ↦ walk_after c.args.places.now c.args.dir c.args.name.now c.args.after c.match-after.next w.in-Some.n w.index-places-n.result c.requires.places w.in-Some.is (subst (λ (o : Option ℕ). IfSome o (IsLesser (graph_of_places c.args.places.now) c.args.dir c.args.name.now)) w.in-Some.is c.requires.after) w.index-places-n.is (w.next-is ∙ w.get-next.ensures)
  | in-None w ↦ walk_first c.args.places.now c.args.dir c.args.name.now c.args.after c.match-after.next c.requires.places w.in-None.is (w.next-is ∙ w.first_of-next.ensures)
]

pub returns-then-is_number-clause-child : goal.returns-then-is_number-clause-child
returns-then-is_number-clause-child c = (walk_ends c.args.places.now c.args.dir c.args.name.now c.args.after c.args.end c.loop-next.next c.loop-next.steps c.in-Some-next.n c.requires.places c.loop-next.invariant c.in-Some-next.is c.requires.end (number_is c.args.end c.in-Some-next.n (sym c.is_number.ensures ∙ c.if-is_number.true))).0

pub returns-then-is_number-clause-steps : goal.returns-then-is_number-clause-steps
returns-then-is_number-clause-steps c = (walk_ends c.args.places.now c.args.dir c.args.name.now c.args.after c.args.end c.loop-next.next c.loop-next.steps c.in-Some-next.n c.requires.places c.loop-next.invariant c.in-Some-next.is c.requires.end (number_is c.args.end c.in-Some-next.n (sym c.is_number.ensures ∙ c.if-is_number.true))).1

pub offset_bounds-places-n-in-Some-next : goal.offset_bounds-places-n-in-Some-next
offset_bounds-places-n-in-Some-next c = let h : c.in-Some-next.n < NODE_LIMIT = next_below c.args.places.now c.args.dir c.loop-next.invariant.passed.low c.in-Some-next.n c.requires.places (sym c.loop-next.invariant.passed.next_is ∙ c.in-Some-next.is) in omega arith

pub bounds-places-n-in-Some-next : goal.bounds-places-n-in-Some-next
bounds-places-n-in-Some-next c = walk_within c.args.places.now c.args.dir c.args.name.now c.args.after c.loop-next.next c.loop-next.steps c.in-Some-next.n c.loop-next.invariant c.in-Some-next.is

looks : (c : goal.After-index-places-n-in-Some-next) → c.loop-next.steps + 1 + one_of c.args.after + one_of c.args.end ≤ length (names_of ((graph_of_places c.args.places.now).shape c.args.dir))
looks c = walk_looks c.args.places.now c.args.dir c.args.name.now c.args.after c.args.end c.loop-next.next c.loop-next.steps c.in-Some-next.n c.index-places-n-in-Some-next.result c.requires.places c.loop-next.invariant c.in-Some-next.is c.index-places-n-in-Some-next.is c.requires.end (number_is_not c.args.end c.in-Some-next.n (sym c.is_number.ensures ∙ c.if-is_number.false))

pub overflow_add-steps : goal.overflow_add-steps
overflow_add-steps c =
    let h : c.loop-next.steps + 1 + one_of c.args.after + one_of c.args.end ≤ length (names_of ((graph_of_places c.args.places.now).shape c.args.dir)) = looks c in
    let k : length (names_of ((graph_of_places c.args.places.now).shape c.args.dir)) ≤ NODE_LIMIT = dir_length c.args.places.now c.args.dir c.requires.places in
    omega arith

pub loop-next-smaller : goal.loop-next-smaller
loop-next-smaller c = walk_smaller c.args.places.now c.args.dir c.args.name.now c.args.after c.loop-next.next c.get-next-in-Less.result c.loop-next.steps c.in-Some-next.n c.index-places-n-in-Some-next.result c.requires.places c.loop-next.invariant c.in-Some-next.is c.index-places-n-in-Some-next.is c.get-next-in-Less.ensures

pub loop-next-preserved : goal.loop-next-preserved
loop-next-preserved c = walk_more c.args.places.now c.args.dir c.args.name.now c.args.after c.loop-next.next c.get-next-in-Less.result c.loop-next.steps c.in-Some-next.n c.index-places-n-in-Some-next.result c.requires.places c.loop-next.invariant c.in-Some-next.is c.index-places-n-in-Some-next.is (sym c.cmp.ensures ∙ c.in-Less.is) c.get-next-in-Less.ensures

pub returns-in-Equal-clause-child : goal.returns-in-Equal-clause-child
returns-in-Equal-clause-child c = walk_found c.args.places.now c.args.dir c.args.name.now c.args.after c.loop-next.next c.loop-next.steps c.in-Some-next.n c.index-places-n-in-Some-next.result c.requires.places c.loop-next.invariant c.in-Some-next.is c.index-places-n-in-Some-next.is (sym c.cmp.ensures ∙ c.in-Equal.is)

pub returns-in-Equal-clause-steps : goal.returns-in-Equal-clause-steps
returns-in-Equal-clause-steps c = walk_looks c.args.places.now c.args.dir c.args.name.now c.args.after c.args.end c.loop-next.next c.loop-next.steps c.in-Some-next.n c.index-places-n-in-Some-next.result c.requires.places c.loop-next.invariant c.in-Some-next.is c.index-places-n-in-Some-next.is c.requires.end (number_is_not c.args.end c.in-Some-next.n (sym c.is_number.ensures ∙ c.if-is_number.false))

pub returns-in-Greater-clause-child : goal.returns-in-Greater-clause-child
returns-in-Greater-clause-child c = walk_past c.args.places.now c.args.dir c.args.name.now c.args.after c.loop-next.next c.loop-next.steps c.in-Some-next.n c.index-places-n-in-Some-next.result c.requires.places c.loop-next.invariant c.in-Some-next.is c.index-places-n-in-Some-next.is (sym c.cmp.ensures ∙ c.in-Greater.is)

pub returns-in-Greater-clause-steps : goal.returns-in-Greater-clause-steps
returns-in-Greater-clause-steps c = walk_looks c.args.places.now c.args.dir c.args.name.now c.args.after c.args.end c.loop-next.next c.loop-next.steps c.in-Some-next.n c.index-places-n-in-Some-next.result c.requires.places c.loop-next.invariant c.in-Some-next.is c.index-places-n-in-Some-next.is c.requires.end (number_is_not c.args.end c.in-Some-next.n (sym c.is_number.ensures ∙ c.if-is_number.false))

pub returns-clause-child : goal.returns-clause-child
returns-clause-child c = (walk_none c.args.places.now c.args.dir c.args.name.now c.args.after c.args.end c.loop-next.next c.loop-next.steps c.requires.places c.loop-next.invariant c.in_default.is c.requires.end).0

pub returns-clause-steps : goal.returns-clause-steps
returns-clause-steps c = (walk_none c.args.places.now c.args.dir c.args.name.now c.args.after c.args.end c.loop-next.next c.loop-next.steps c.requires.places c.loop-next.invariant c.in_default.is c.requires.end).1
