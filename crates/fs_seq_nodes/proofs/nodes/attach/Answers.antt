use Rattle.std.proofs.Common.{ap, sym, subst, ◌∙◌, Some}
use Rattle.slab.specs.Slab.{Updates}
use Rattle.fs_seq_nodes.specs.code.Nodes.{graph}
use Rattle.fs_seq_nodes.proofs.SlabLemmas.{attaches}
use Rattle.fs_seq_nodes.proofs.nodes.attach.Goals as goal

pub returns-clause-ok : goal.returns-clause-ok
returns-clause-ok c =
    let key = c.insert_reserved.ensures.key ∙ c.in_ok-add_link.ensures.key ∙ sym c.vacant_key-number.ensures.value in
    attaches c.args.nodes.now c.reserve_keys.new.slab c.add_link.new.nodes c.insert_reserved.new.self c.args.dir c.args.i c.vacant_key-number.result c.args.name.now c.in_ok-held.held c.args.node
    (ap graph c.in_ok-reserve_keys.ensures.rest) c.vacant_key-number.ensures.vacant c.in_ok-held.ensures.held c.in_ok-add_link.ensures.ok
    (subst (λ k. Updates c.add_link.new.nodes c.insert_reserved.new.self k (Some c.args.node)) key c.insert_reserved.ensures.updates)
