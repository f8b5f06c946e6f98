use Rattle.std.proofs.Common.{◌≡◌, ap, subst, ◌∙◌}
use Rattle.std.specs.FinMap.{is_sorted}
use Rattle.fs_names.specs.Names.{name_cmp}
use Rattle.fs_seq_nodes.specs.code.Entries.{pairs}
use Rattle.fs_seq_nodes.specs.code.Lists.{Bisects, list_at, IsListOf}
use Rattle.fs_seq_nodes.proofs.ListEdits.{got}
use Rattle.fs_seq_nodes.proofs.ListSearch.{sorted_at, whole_place}
use Rattle.fs_seq_nodes.proofs.many.locate.Goals as goal

pub bisect-requires : goal.bisect-requires
bisect-requires c =
    let ls = c.args.lists.now in
    let i = c.list_of-i.result in
    let of = c.list_of-i.ensures in
    let same : c.as_slice.result.now ≡ list_at ls i = cc (got ls i c.index-lists-i.result of.list c.index-lists-i.is, c.as_slice.ensures.links, c.index-lists-i.is) in
    ap (λ z. is_sorted name_cmp (pairs z)) same ∙ sorted_at ls i of.list c.requires.rising

pub returns-clause-place : goal.returns-clause-place
returns-clause-place c =
    let ls = c.args.lists.now in
    let i = c.list_of-i.result in
    let of = c.list_of-i.ensures in
    let same : c.as_slice.result.now ≡ list_at ls i = cc (got ls i c.index-lists-i.result of.list c.index-lists-i.is, c.as_slice.ensures.links, c.index-lists-i.is) in
    subst (λ z. Bisects c.args.name.now z c.bisect.result) same c.bisect.ensures

pub returns-clause-whole : goal.returns-clause-whole
returns-clause-whole c =
    let ls = c.args.lists.now in
    let i = c.list_of-i.result in
    let of = c.list_of-i.ensures in
    let same : c.as_slice.result.now ≡ list_at ls i = cc (got ls i c.index-lists-i.result of.list c.index-lists-i.is, c.as_slice.ensures.links, c.index-lists-i.is) in
    let there = subst (λ z. Bisects c.args.name.now z c.bisect.result) same c.bisect.ensures in
    whole_place c.args.name.now ls i c.bisect.result c.requires.rising c.requires.lists (subst (λ x. IsListOf x ls i) c.bytes.ensures.bytes of) there
