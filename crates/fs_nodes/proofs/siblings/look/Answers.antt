use Rattle.std.proofs.Common.{◌<◌, arith}
use Rattle.fs_names.specs.declared.limits.TheConstants.{NODE_LIMIT}
use Rattle.fs_nodes_places.specs.Plains.{plains}
use Rattle.fs_nodes_places.specs.code.Keys.{keys_of}
use Rattle.fs_nodes.proofs.KeyLemmas.{entry_key, no_entry}
use Rattle.fs_nodes.proofs.WalkLemmas.{entry_place, entry_below, named_child, some_entry}
use Rattle.fs_nodes.proofs.siblings.look.Goals as goal

pub offset_bounds-places-n : goal.offset_bounds-places-n
offset_bounds-places-n c = let h : c.in-Node.n < NODE_LIMIT = entry_below c.args.places.now c.args.key.dir c.in-Node.n c.requires.places (entry_key c.args.places.now c.in-Node.n c.args.key c.requires.places (c.in-Node.ensures (keys_of (plains c.args.places.now)) c.requires.slots)) in omega arith

pub bounds-places-n : goal.bounds-places-n
bounds-places-n c = entry_place c.args.places.now c.args.key.dir c.in-Node.n (entry_key c.args.places.now c.in-Node.n c.args.key c.requires.places (c.in-Node.ensures (keys_of (plains c.args.places.now)) c.requires.slots))

pub search-requires-clause-other : goal.search-requires-clause-other
search-requires-clause-other c = entry_key c.args.places.now c.in-Node.n c.args.key c.requires.places (c.in-Node.ensures (keys_of (plains c.args.places.now)) c.requires.slots)

pub returns-then-is_word-clause-child : goal.returns-then-is_word-clause-child
returns-then-is_word-clause-child c = named_child c.args.places.now c.args.key.dir c.args.name.now c.in-Node.n c.index-places-n.result c.index-places-n.is (entry_key c.args.places.now c.in-Node.n c.args.key c.requires.places (c.in-Node.ensures (keys_of (plains c.args.places.now)) c.requires.slots)) (c.is_word.ensures.same c.if-is_word.true)

pub returns-then-is_word-clause-steps : goal.returns-then-is_word-clause-steps
returns-then-is_word-clause-steps c = some_entry c.args.places.now c.args.key.dir c.in-Node.n c.requires.places (entry_key c.args.places.now c.in-Node.n c.args.key c.requires.places (c.in-Node.ensures (keys_of (plains c.args.places.now)) c.requires.slots))

pub returns-in-Nothing-clause-child : goal.returns-in-Nothing-clause-child
returns-in-Nothing-clause-child c = no_entry c.args.places.now c.args.key.dir c.args.name.now c.args.key c.requires.key (c.in-Nothing.ensures (keys_of (plains c.args.places.now)) c.requires.slots)
