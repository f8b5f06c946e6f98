use Rattle.std.proofs.Common.{◌<◌, ◌≤◌, ◌∙◌, length, sym, arith}
use Rattle.fs_names.specs.Shapes.{names_of}
use Rattle.fs_names.specs.declared.limits.TheConstants.{NODE_LIMIT}
use Rattle.fs_names.proofs.Lemmas.{name_exact}
use Rattle.fs_nodes.specs.code.Linked.{graph_of_places}
use Rattle.fs_nodes.proofs.StepLemmas.{dir_length}
use Rattle.fs_nodes.proofs.WalkLemmas.{entry_place, entry_below, lesser_by, greater_by, named_child, some_entry}
use Rattle.fs_nodes.proofs.siblings.search.Goals as goal

pub offset_bounds-places-other : goal.offset_bounds-places-other
offset_bounds-places-other c = let h : c.args.other < NODE_LIMIT = entry_below c.args.places.now c.args.dir c.args.other c.requires.places c.requires.other in omega arith

pub bounds-places-other : goal.bounds-places-other
bounds-places-other c = entry_place c.args.places.now c.args.dir c.args.other c.requires.other

pub lesser_told-after-requires-clause-given : goal.lesser_told-after-requires-clause-given
lesser_told-after-requires-clause-given c = lesser_by c.args.places.now c.args.dir c.args.name.now c.args.other c.index-places-other.result c.index-places-other.is c.requires.other (sym c.cmp.ensures ∙ c.in-Less.is)

pub with_one-requires : goal.with_one-requires
with_one-requires c = let k : length (names_of ((graph_of_places c.args.places.now).shape c.args.dir)) ≤ NODE_LIMIT = dir_length c.args.places.now c.args.dir c.requires.places in omega (arith, c.walk.ensures.steps)

pub walk-requires-in-Greater-clause-end : goal.walk-requires-in-Greater-clause-end
walk-requires-in-Greater-clause-end c = greater_by c.args.places.now c.args.dir c.args.name.now c.args.other c.index-places-other.result c.index-places-other.is c.requires.other (sym c.cmp.ensures ∙ c.in-Greater.is)

pub with_one-requires-in-Greater : goal.with_one-requires-in-Greater
with_one-requires-in-Greater c = let k : length (names_of ((graph_of_places c.args.places.now).shape c.args.dir)) ≤ NODE_LIMIT = dir_length c.args.places.now c.args.dir c.requires.places in omega (arith, c.walk-in-Greater.ensures.steps)

pub returns-in-Equal-clause-child : goal.returns-in-Equal-clause-child
returns-in-Equal-clause-child c = named_child c.args.places.now c.args.dir c.args.name.now c.args.other c.index-places-other.result c.index-places-other.is c.requires.other (name_exact c.index-places-other.result.name c.args.name.now (sym c.cmp.ensures ∙ c.in-Equal.is))

pub returns-in-Equal-clause-steps : goal.returns-in-Equal-clause-steps
returns-in-Equal-clause-steps c = some_entry c.args.places.now c.args.dir c.args.other c.requires.places c.requires.other

pub returns-in-Less-clause-steps : goal.returns-in-Less-clause-steps
returns-in-Less-clause-steps c = omega (arith, c.walk.ensures.steps, c.with_one.ensures.steps, c.lesser_told-after.ensures.some)
