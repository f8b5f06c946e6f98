use Rattle.std.proofs.Common.{◌<◌, ◌≤◌, ◌∙◌, length, sym, arith}
use Rattle.fs_names.specs.declared.limits.TheConstants.{NODE_LIMIT}
use Rattle.fs_nodes.proofs.BehindLemmas.{below_read, told_lesser, places_few}
use Rattle.fs_nodes.proofs.siblings.lesser.Goals as goal

within : (c : goal.In-Some) → c.in-Some.n < length c.args.places.now
within c = (below_read (length c.args.places.now) c.args.told c.in-Some.n (sym c.below.ensures ∙ c.in-Some.is)).1

pub offset_bounds-places-n : goal.offset_bounds-places-n
offset_bounds-places-n c =
    let h : c.in-Some.n < length c.args.places.now = within c in
    let k : length c.args.places.now ≤ NODE_LIMIT = places_few c.args.places.now c.requires.places in
    omega arith

pub bounds-places-n : goal.bounds-places-n
bounds-places-n c = within c

pub returns-then-is_lesser : goal.returns-then-is_lesser
returns-then-is_lesser c = told_lesser c.args.places.now c.args.dir c.args.name.now c.in-Some.n c.index-places-n.result c.requires.places (below_read (length c.args.places.now) c.args.told c.in-Some.n (sym c.below.ensures ∙ c.in-Some.is)).1 c.index-places-n.is (sym c.is_lesser.ensures ∙ c.if-is_lesser.true)
