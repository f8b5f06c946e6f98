use Rattle.std.proofs.Common.{◌≤◌, ap, sym, subst, ◌∙◌, length}
use Rattle.std.specs.Prelude.{insert}
use Rattle.fs_seq_nodes.specs.code.Lists.{IsGap, flat}
use Rattle.fs_seq_nodes.proofs.ListEdits.{put_at, still_some, grown_some, within_read, one_more}
use Rattle.fs_seq_nodes.proofs.many.Many.insert.Goals as goal

pub invariant_of-self-2 : goal.invariant_of-self-2
invariant_of-self-2 c =
    let old = c.self.inside.lists.items in
    let now = c.make_room.new.lists.items in
    let p = c.index_mut.result.now in
    let q = c.insert.new.self in
    let first = subst (λ z. IsGap z c.args.place c.gap-i.result.0 c.gap-i.result.1) c.deref.ensures.value c.gap-i.ensures in
    let gap = c.in_ok-i.ensures.place in
    let near = within_read now c.in_ok-i.i c.in_ok-i.at p gap.list c.index_mut.ensures.value gap.within in
    let came = put_at now c.in_ok-i.i c.in_ok-i.at c.args.link p q gap.list gap.within c.index_mut.ensures.value c.insert.ensures
    ∙ ap (λ n. insert (flat now) n c.args.link) (sym gap.counted ∙ sym first.counted) ∙ ap (λ z. insert z c.args.place c.args.link) c.in_ok-i.ensures.same in (
      still_some now c.in_ok-i.i q c.in_ok-i.ensures.lists (grown_some p q c.in_ok-i.at c.args.link near c.insert.ensures),
      one_more (flat old) _ c.args.place c.self.inside.count c.in-Some.count c.args.link (subst (λ z. c.args.place ≤ length z) (sym c.self.view_is) c.requires.place) came c.self.invariant.1 c.in-Some.ensures.1,
    )

pub returns-clause-ok : goal.returns-clause-ok
returns-clause-ok c =
    let old = c.self.inside.lists.items in
    let now = c.make_room.new.lists.items in
    let first = subst (λ z. IsGap z c.args.place c.gap-i.result.0 c.gap-i.result.1) c.deref.ensures.value c.gap-i.ensures in
    let gap = c.in_ok-i.ensures.place in
    put_at now c.in_ok-i.i c.in_ok-i.at c.args.link c.index_mut.result.now c.insert.new.self gap.list gap.within c.index_mut.ensures.value c.insert.ensures
    ∙ ap (λ n. insert (flat now) n c.args.link) (sym gap.counted ∙ sym first.counted) ∙ ap (λ z. insert z c.args.place c.args.link) (c.in_ok-i.ensures.same ∙ c.self.view_is)
