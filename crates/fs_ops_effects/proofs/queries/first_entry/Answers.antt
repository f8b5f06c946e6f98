use Rattle.std.specs.Option.{option_copied}
use Rattle.fs_names.specs.Shapes.{names_of}
use Rattle.fs_nodes.specs.Stores.{shape}
use Rattle.fs_ops_effects.proofs.ListingLemmas.{above_some, above_none}
use Rattle.fs_ops_effects.proofs.queries.first_entry.Goals as goal

pub returns-in-Some-clause-above : goal.returns-in-Some-clause-above
returns-in-Some-clause-above c = above_some (option_copied c.args.low) (names_of (shape c.args.store.now c.args.dir)) c.in-Some.entry.0.now (c.next_name.ensures.real.ascend c.args.dir) c.in-Some.ensures.rest c.bytes.ensures.named

pub returns-in-None-clause-above : goal.returns-in-None-clause-above
returns-in-None-clause-above c = above_none (option_copied c.args.low) (names_of (shape c.args.store.now c.args.dir)) c.in-None.ensures.rest
