use Rattle.std.proofs.Common.{ap, arith}
use Rattle.std.specs.Option.{option_copied}
use Rattle.fs_nodes.specs.Stores.{graph_of, lent}
use Rattle.fs_ops_effects.proofs.ListingLemmas.{listing_pushed}
use Rattle.fs_ops_effects.proofs.queries.put_names.Goals as goal

pub loop-next-preserved : goal.loop-next-preserved
loop-next-preserved c =
    listing_pushed (graph_of c.args.store.now) c.args.dir (option_copied c.args.low) c.args.most c.loop-next.names c.push_reserved.new.self c.loop-next.left _ (lent c.loop-next.next) (lent c.next_entry_after-next.result) c.in-Some.entry.0.now c.in-Some.entry.1 c.loop-next.invariant (ap lent c.in-Some.is)
    (omega (arith, c.if-left-eq0.false)) c.push_reserved.ensures.names c.push_reserved.ensures.room c.next_entry_after-next.ensures.entry c.next_entry_after-next.ensures.rest
