use Rattle.std.proofs.Common.{ap, sym, subst, ◌∙◌, ◌<◌, length}
use Rattle.std.specs.Prelude.{remove}
use Rattle.fs_seq_nodes.specs.code.Lists.{IsIn, flat}
use Rattle.fs_seq_nodes.proofs.ListEdits.{taken_at, others_some, one_less}
use Rattle.fs_seq_nodes.proofs.many.Many.remove.Goals as goal

pub shrink-requires-clause-others : goal.shrink-requires-clause-others
shrink-requires-clause-others c = others_some c.self.inside.lists.items c.find-i.result.0 c.remove.new.self c.self.invariant.0

pub invariant_of-self : goal.invariant_of-self
invariant_of-self c =
    let ls = c.self.inside.lists.items in
    let is = subst (λ z. IsIn z c.args.place c.find-i.result.0 c.find-i.result.1) c.deref.ensures.value c.find-i.ensures in
    let went = c.shrink.ensures.same ∙ taken_at ls c.args.place c.find-i.result.0 c.find-i.result.1 c.index_mut.result.now c.remove.new.self is c.index_mut.ensures.value c.remove.ensures.links in
    (c.shrink.ensures.lists, one_less (flat ls) (flat c.shrink.new.lists.items) c.args.place c.self.inside.count (subst (λ z. c.args.place < length z) (sym c.self.view_is) c.requires) went c.self.invariant.1)

pub returns : goal.returns
returns c =
    let ls = c.self.inside.lists.items in
    let is = subst (λ z. IsIn z c.args.place c.find-i.result.0 c.find-i.result.1) c.deref.ensures.value c.find-i.ensures in
    c.shrink.ensures.same ∙ taken_at ls c.args.place c.find-i.result.0 c.find-i.result.1 c.index_mut.result.now c.remove.new.self is c.index_mut.ensures.value c.remove.ensures.links ∙ ap (λ z. remove z c.args.place) c.self.view_is
