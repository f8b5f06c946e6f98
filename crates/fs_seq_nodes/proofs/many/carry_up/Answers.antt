use Rattle.std.proofs.Common.{◌≡◌, ◌+◌, ◌<◌, ap, sym, subst, ◌∙◌, arith, append-nil, length}
use Rattle.std.specs.Prelude.{insert}
use Rattle.fs_seq_nodes.specs.code.Lists.{flat, before}
use Rattle.fs_seq_nodes.proofs.FlatLemmas.{length_set}
use Rattle.fs_seq_nodes.proofs.ListEdits.{put_at, carried_up, still_some, grown_some, moved_up_some, is_other, still_room, read_some, within_read}
use Rattle.fs_seq_nodes.proofs.many.carry_up.Goals as goal

pub returns-in_default-clause-links : goal.returns-in_default-clause-links
returns-in_default-clause-links c =
    put_at c.args.lists.now.items c.args.i c.args.at c.args.link c.index_mut.result.now c.insert_up.new.self c.requires.place.list c.requires.place.within c.index_mut.ensures.value
    (sym (append-nil c.insert_up.new.self) ∙ c.in_default.ensures.links)

pub loop-k-init : goal.loop-k-init
loop-k-init c =
    let ls = c.args.lists.now.items in
    let i = c.args.i in
    let p = c.index_mut.result.now in
    let q = c.insert_up.new.self in
    let h = c.requires.place.list in
    let e = c.index_mut.ensures.value in
    let other = is_other ls i c.args.room c.in-Some.last p h e c.requires.room c.in-Some.ensures.room in
    let up = c.requires.up in
    let near = within_read ls i c.args.at p h e c.requires.place.within in record {
      whole = carried_up ls i c.args.at c.args.link c.in-Some.last p q h c.requires.place.within e c.in-Some.ensures.links;
      up = omega (arith, other, up);
      list = subst (λ n. c.args.room < n) (sym (length_set ls i q)) c.requires.list;
      room = still_room ls i c.args.room q other c.requires.room;
      lists = still_some ls i q c.requires.lists (moved_up_some p q c.args.at c.args.link c.in-Some.last near (read_some ls i p c.requires.lists h e) c.in-Some.ensures.links);
    }

pub returns-in-None-clause-links : goal.returns-in-None-clause-links
returns-in-None-clause-links c =
    let ls = c.loop-k.lists.items in
    let k = c.loop-k.k in
    let up = c.loop-k.invariant.up in
    let list = c.loop-k.invariant.list in
    let here : k + 0 ≡ k = omega arith in
    let count : before ls k + 0 ≡ before ls k = omega arith in
    put_at ls k 0 c.loop-k.carried c.index_mut-in-loop-k.result.now c.insert_up-in-loop-k.new.self (omega (arith, up, list)) (omega arith) c.index_mut-in-loop-k.ensures.value
    (sym (append-nil c.insert_up-in-loop-k.new.self) ∙ c.in-None.ensures.links)
    ∙ ap (λ n. insert (flat ls) n c.loop-k.carried) count ∙ c.loop-k.invariant.whole

pub returns-in-None-clause-lists : goal.returns-in-None-clause-lists
returns-in-None-clause-lists c =
    still_some c.loop-k.lists.items c.loop-k.k c.insert_up-in-loop-k.new.self c.loop-k.invariant.lists
    (grown_some c.index_mut-in-loop-k.result.now c.insert_up-in-loop-k.new.self 0 c.loop-k.carried (omega arith) (sym (append-nil c.insert_up-in-loop-k.new.self) ∙ c.in-None.ensures.links))

pub loop-k-preserved : goal.loop-k-preserved
loop-k-preserved c =
    let ls = c.loop-k.lists.items in
    let k = c.loop-k.k in
    let p = c.index_mut-in-loop-k.result.now in
    let q = c.insert_up-in-loop-k.new.self in
    let last = c.in-Some-insert_up.last in
    let up = c.loop-k.invariant.up in
    let list = c.loop-k.invariant.list in
    let h : k < length ls = omega (arith, up, list) in
    let e = c.index_mut-in-loop-k.ensures.value in
    let other = is_other ls k c.args.room last p h e c.loop-k.invariant.room c.in-Some-insert_up.ensures.room in
    let count : before ls k + 0 ≡ before ls k = omega arith in record {
      whole = carried_up ls k 0 c.loop-k.carried last p q h (omega arith) e c.in-Some-insert_up.ensures.links ∙ ap (λ n. insert (flat ls) n c.loop-k.carried) count ∙ c.loop-k.invariant.whole;
      up = omega (arith, other, up);
      list = subst (λ n. c.args.room < n) (sym (length_set ls k q)) c.loop-k.invariant.list;
      room = still_room ls k c.args.room q other c.loop-k.invariant.room;
      lists = still_some ls k q c.loop-k.invariant.lists (moved_up_some p q 0 c.loop-k.carried last (omega arith) (read_some ls k p c.loop-k.invariant.lists h e) c.in-Some-insert_up.ensures.links);
    }
