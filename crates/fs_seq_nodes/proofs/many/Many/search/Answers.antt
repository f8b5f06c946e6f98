use Rattle.std.proofs.Common.{◌≡◌, ◌+◌, ◌<◌, Some, get_or, slice_get, ap, sym, subst, ◌∙◌, length}
use Rattle.std.specs.FinMap.{is_sorted}
use Rattle.fs_names.specs.Names.{name_cmp}
use Rattle.fs_seq_nodes.specs.declared.nodes.Link.{Link}
use Rattle.fs_seq_nodes.specs.code.Entries.{pairs, number_of, IsNameAt, BelongsAt}
use Rattle.fs_seq_nodes.specs.code.Lists.{Bisects, shifted, before, flat, list_at}
use Rattle.fs_seq_nodes.proofs.ListEdits.{got}
use Rattle.fs_seq_nodes.proofs.SearchLemmas.{parted}
use Rattle.fs_seq_nodes.proofs.ListSearch.{looked_at}
use Rattle.fs_seq_nodes.proofs.many.Many.search.Goals as goal

pub returns-in-Ok : goal.returns-in-Ok
returns-in-Ok c =
    let ls = c.self.inside.lists.items in
    let x = c.args.name.now in
    let i = c.locate-i.result.0 in
    let at = c.in-Ok.at in
    let l = c.index-as_slice-at.result in
    let sorted = ap (λ z. is_sorted name_cmp (pairs z)) c.self.view_is ∙ c.requires.rising in
    let list : i < length ls = subst (λ z. i < length z) c.deref.ensures.value c.locate-i.ensures.list in
    let near = subst (λ r. Bisects x (list_at ls i) r) c.in-Ok.is (subst (λ z. Bisects x (list_at z i) c.locate-i.result.1) c.deref.ensures.value c.locate-i.ensures.place) in
    let found = subst (λ r. Bisects x (flat ls) (shifted (before ls i) r)) c.in-Ok.is (subst (λ z. Bisects x (flat z) (shifted (before z i) c.locate-i.result.1)) c.deref.ensures.value c.locate-i.ensures.whole) in
    let read : l ≡ get_or (list_at ls i) at l = c.index-as_slice-at.is ∙ ap (λ z. get_or z at l) (c.as_slice.ensures.links ∙ got ls i c.index.result.now list c.index.ensures) in
    let told = looked_at x ls i at l sorted list near.within found read in
    let place : before ls i + at ≡ c.place_of-place.result = sym (c.place_of-place.ensures ∙ ap (λ z. before z i + at) c.deref-in-Ok.ensures.value) in (
      subst (λ n. IsNameAt (pairs c.args.self.now) x n) place (subst (λ z. IsNameAt (pairs z) x (before ls i + at)) c.self.view_is told.0),
      ap (λ n. number_of (slice_get (pairs c.args.self.now) n)) (sym place) ∙ ap (λ z. number_of (slice_get (pairs z) (before ls i + at))) (sym c.self.view_is) ∙ told.1 ∙ ap (λ (z : Link). Some z.node) c.index-as_slice-at.is,
    )

pub returns-in-Err : goal.returns-in-Err
returns-in-Err c =
    let ls = c.self.inside.lists.items in
    let x = c.args.name.now in
    let i = c.locate-i.result.0 in
    let at = c.in-Err.at in
    let found = subst (λ r. Bisects x (flat ls) (shifted (before ls i) r)) c.in-Err.is (subst (λ z. Bisects x (flat z) (shifted (before z i) c.locate-i.result.1)) c.deref.ensures.value c.locate-i.ensures.whole) in
    let place : before ls i + at ≡ c.place_of.result = sym (c.place_of.ensures ∙ ap (λ z. before z i + at) c.deref-in-Err.ensures.value) in
    subst (λ n. BelongsAt (pairs c.args.self.now) x n) place (subst (λ z. BelongsAt (pairs z) x (before ls i + at)) c.self.view_is (parted x (flat ls) (before ls i + at) found))
