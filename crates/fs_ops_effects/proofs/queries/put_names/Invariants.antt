use Rattle.std.specs.Option.{option_copied}
use Rattle.fs_nodes.specs.Stores.{graph_of, lent}
use Rattle.fs_ops_effects.proofs.Listing.{IsListing}
use Rattle.fs_ops_effects.proofs.queries.put_names.Given as goal

abbrev pub invariant-loop-next : goal.invariant-loop-next
invariant-loop-next l = IsListing (graph_of l.store) l.fn.dir (option_copied l.fn.low) l.fn.most l.names l.left (lent l.next)

abbrev pub decreases-loop-next : goal.decreases-loop-next
decreases-loop-next l = l.left
