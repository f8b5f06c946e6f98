use Rattle.std.proofs.Common.{refl, sym, ap, ◌∙◌}
use Rattle.fs_nodes.specs.Graphs.{Graph, IsReached}
use Rattle.fs_nodes.specs.Seen.{Seen}
use Rattle.fs_nodes.specs.Stores.{child}
use Rattle.fs_ops_effects.proofs.MoveLemmas.{some_there, if_there, entry_moved}
use Rattle.fs_ops_effects.proofs.rename.rename.Goals as goal

pub relocate-requires-clause-there : goal.relocate-requires-clause-there
relocate-requires-clause-there c = some_there _ _ (c.clear.ensures.others c.args.moving.source c.args.name.now c.requires.apart ∙ c.requires.there)

pub relocate-requires-clause-apart : goal.relocate-requires-clause-apart
relocate-requires-clause-apart c =
    if_there _ _ (λ n. IsReached (child c.clear.new.store) n c.args.moving.dest → ⊥) (c.clear.ensures.others c.args.moving.source c.args.name.now c.requires.apart ∙ c.requires.there)
    (λ way. c.requires.below (c.clear.ensures.fewer c.args.moving.moved c.args.moving.dest way))

pub returns-clause-made : goal.returns-clause-made
returns-clause-made c =
    let moved = entry_moved c.args.store.now c.clear.new.store c.relocate.new.store c.args.moving c.args.name.now c.args.new_name.now (c.clear.ensures.others c.args.moving.source c.args.name.now c.requires.apart ∙ c.requires.there) c.clear.ensures.rest (c.clear.ensures.moves c.args.moving.source c.args.name.now c.args.moving.moved) c.relocate.ensures in
    record { reply = c.done.ensures; reserved = refl; removed = refl; graph_is = ap (λ (s : Seen). s.graph) moved }

pub returns-clause-rest : goal.returns-clause-rest
returns-clause-rest c =
    let moved = entry_moved c.args.store.now c.clear.new.store c.relocate.new.store c.args.moving c.args.name.now c.args.new_name.now (c.clear.ensures.others c.args.moving.source c.args.name.now c.requires.apart ∙ c.requires.there) c.clear.ensures.rest (c.clear.ensures.moves c.args.moving.source c.args.name.now c.args.moving.moved) c.relocate.ensures in
    moved ∙ ap (λ (g : Graph). record (Rattle.fs_nodes.specs.Seen.seen c.args.store.now) { graph = g }) (sym (ap (λ (s : Seen). s.graph) moved))
