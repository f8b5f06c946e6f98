use Rattle.std.proofs.Common.{◌+◌, ap, sym, subst, ◌∙◌}
use Rattle.std.specs.Prelude.{insert, slice_set}
use Rattle.fs_seq_nodes.specs.code.Lists.{IsGap, before, flat}
use Rattle.fs_seq_nodes.proofs.ListEdits.{put_at, put_links, put_count}
use Rattle.fs_seq_nodes.proofs.many.put_in.Goals as goal

pub returns-then-len-lt-MOST-clause-links : goal.returns-then-len-lt-MOST-clause-links
returns-then-len-lt-MOST-clause-links c =
    let ls = c.args.lists.now.items in
    let i = c.belongs-i.result.0 in
    let at = c.belongs-i.result.1 in
    let gap = subst (λ z. IsGap z (before z i + at) i at) c.deref.ensures.value c.belongs-i.ensures.gap in
    let came = put_at ls i at c.args.link c.index_mut.result.now c.insert-then-len-lt-MOST.new.self gap.list gap.within c.index_mut.ensures.value c.insert-then-len-lt-MOST.ensures in
    put_links ls c.deref.result.now (slice_set ls i c.insert-then-len-lt-MOST.new.self) i at c.args.link c.name.result.now c.deref.ensures.value c.name.ensures c.belongs-i.ensures.name came

pub returns-clause-links : goal.returns-clause-links
returns-clause-links c =
    let ls = c.args.lists.now.items in
    let now = c.split-i.new.lists.items in
    let i = c.belongs-i.result.0 in
    let at = c.belongs-i.result.1 in
    let gap = subst (λ z. IsGap z (before z i + at) i at) c.deref.ensures.value c.belongs-i.ensures.gap in
    let there = c.split-i.ensures.place in
    let came = put_at now c.split-i.result.0 c.split-i.result.1 c.args.link c.index_mut-2.result.now c.insert-2.new.self there.list there.within c.index_mut-2.ensures.value c.insert-2.ensures
    ∙ ap (λ n. insert (flat now) n c.args.link) (sym there.counted) ∙ ap (λ z. insert z (before ls i + at) c.args.link) c.split-i.ensures.same in
    put_links ls c.deref.result.now (slice_set now c.split-i.result.0 c.insert-2.new.self) i at c.args.link c.name.result.now c.deref.ensures.value c.name.ensures c.belongs-i.ensures.name came

pub returns-then-len-lt-MOST-clause-len : goal.returns-then-len-lt-MOST-clause-len
returns-then-len-lt-MOST-clause-len c =
    let ls = c.args.lists.now.items in
    let i = c.belongs-i.result.0 in
    let at = c.belongs-i.result.1 in
    let gap = subst (λ z. IsGap z (before z i + at) i at) c.deref.ensures.value c.belongs-i.ensures.gap in
    let came = put_at ls i at c.args.link c.index_mut.result.now c.insert-then-len-lt-MOST.new.self gap.list gap.within c.index_mut.ensures.value c.insert-then-len-lt-MOST.ensures in
    put_count ls (slice_set ls i c.insert-then-len-lt-MOST.new.self) i at c.args.link gap.list gap.within came

pub returns-clause-len : goal.returns-clause-len
returns-clause-len c =
    let ls = c.args.lists.now.items in
    let now = c.split-i.new.lists.items in
    let i = c.belongs-i.result.0 in
    let at = c.belongs-i.result.1 in
    let gap = subst (λ z. IsGap z (before z i + at) i at) c.deref.ensures.value c.belongs-i.ensures.gap in
    let there = c.split-i.ensures.place in
    let came = put_at now c.split-i.result.0 c.split-i.result.1 c.args.link c.index_mut-2.result.now c.insert-2.new.self there.list there.within c.index_mut-2.ensures.value c.insert-2.ensures
    ∙ ap (λ n. insert (flat now) n c.args.link) (sym there.counted) ∙ ap (λ z. insert z (before ls i + at) c.args.link) c.split-i.ensures.same in
    put_count ls (slice_set now c.split-i.result.0 c.insert-2.new.self) i at c.args.link gap.list gap.within came
