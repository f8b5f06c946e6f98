use Rattle.std.proofs.Common.{◌≡◌, ◌+◌, ◌≤◌, ap, sym, subst, ◌∙◌}
use Rattle.std.specs.FinMap.{is_sorted}
use Rattle.fs_names.specs.Names.{name_cmp}
use Rattle.fs_seq_nodes.specs.code.Entries.{pairs}
use Rattle.fs_seq_nodes.specs.code.Lists.{IsCut, IsListOf, before}
use Rattle.fs_seq_nodes.proofs.ListEdits.{got}
use Rattle.fs_seq_nodes.proofs.ListSearch.{cut_whole, sorted_at}
use Rattle.fs_seq_nodes.proofs.many.Many.above.Goals as goal

pub above-at-requires : goal.above-at-requires
above-at-requires c =
    let ls = c.self.inside.lists.items in
    let sorted = ap (λ z. is_sorted name_cmp (pairs z)) c.self.view_is ∙ c.requires.rising in
    let of = subst (λ z. IsListOf c.args.bytes.now z c.list_of-i.result) c.deref.ensures.value c.list_of-i.ensures in
    ap (λ z. is_sorted name_cmp (pairs z)) (c.as_slice.ensures.links ∙ got ls c.list_of-i.result c.index.result.now of.list c.index.ensures) ∙ sorted_at ls c.list_of-i.result of.list sorted

pub place_of-requires-clause-most : goal.place_of-requires-clause-most
place_of-requires-clause-most c =
    let ls = c.self.inside.lists.items in
    let i = c.list_of-i.result in
    let at = c.above-at.result in
    let sorted = ap (λ z. is_sorted name_cmp (pairs z)) c.self.view_is ∙ c.requires.rising in
    let of = subst (λ z. IsListOf c.args.bytes.now z i) c.deref.ensures.value c.list_of-i.ensures in
    let there = subst (λ z. IsCut c.args.bytes.now z at) (c.as_slice.ensures.links ∙ got ls i c.index.result.now of.list c.index.ensures) c.above-at.ensures in
    let whole = cut_whole c.args.bytes.now ls i at sorted c.self.invariant.0 of there in
    subst (λ z. before z i + at ≤ c.self.inside.count) (sym c.deref-2.ensures.value) (subst (λ n. before ls i + at ≤ n) (sym c.self.invariant.1) whole.within)

pub returns : goal.returns
returns c =
    let ls = c.self.inside.lists.items in
    let i = c.list_of-i.result in
    let at = c.above-at.result in
    let sorted = ap (λ z. is_sorted name_cmp (pairs z)) c.self.view_is ∙ c.requires.rising in
    let of = subst (λ z. IsListOf c.args.bytes.now z i) c.deref.ensures.value c.list_of-i.ensures in
    let there = subst (λ z. IsCut c.args.bytes.now z at) (c.as_slice.ensures.links ∙ got ls i c.index.result.now of.list c.index.ensures) c.above-at.ensures in
    let whole = cut_whole c.args.bytes.now ls i at sorted c.self.invariant.0 of there in
    let place : before ls i + at ≡ c.place_of.result = sym (c.place_of.ensures ∙ ap (λ z. before z i + at) c.deref-2.ensures.value) in
    subst (λ n. IsCut c.args.bytes.now c.args.self.now n) place (subst (λ z. IsCut c.args.bytes.now z (before ls i + at)) c.self.view_is whole)
