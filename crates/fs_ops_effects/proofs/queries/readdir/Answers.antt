use Rattle.std.proofs.Common.{sym, ap, ◌∙◌}
use Rattle.fs_nodes.specs.Stores.{shape}
use Rattle.fs_calls.specs.declared.reply.Reply.TheVariants.{Names}
use Rattle.fs_ops_effects.proofs.ListingLemmas.{all_told}
use Rattle.fs_ops_effects.proofs.queries.readdir.Goals as goal

pub returns : goal.returns
returns c =
    let there = shape c.args.store.now c.args.node in
    c.new.ensures ∙ ap Names c.names.ensures.told ∙ all_told there (sym (c.error.ensures there (sym c.sight_of.ensures)) ∙ c.in_default-error.is)
