use Rattle.std.proofs.Common.{◌≡◌, ◌+◌, ◌-◌, ◌<◌, ◌≤◌, suc, ap, sym, subst, ◌∙◌, arith, length}
use Rattle.std.specs.Prelude.{insert}
use Rattle.fs_seq_nodes.specs.code.Lists.{flat, before, list_at}
use Rattle.fs_seq_nodes.proofs.FlatLemmas.{length_set, before_next}
use Rattle.fs_seq_nodes.proofs.ListEdits.{got, put_at, carried_down, still_some, grown_some, moved_down_some, is_other, still_room, read_some, within_read}
use Rattle.fs_seq_nodes.proofs.many.carry_down.Goals as goal

pub returns-in_default-clause-links : goal.returns-in_default-clause-links
returns-in_default-clause-links c =
    put_at c.args.lists.now.items c.args.i c.args.at c.args.link c.index_mut.result.now c.insert_down.new.self c.requires.place.list c.requires.place.within c.index_mut.ensures.value c.in_default.ensures.links

pub loop-k-init : goal.loop-k-init
loop-k-init c =
    let ls = c.args.lists.now.items in
    let i = c.args.i in
    let p = c.index_mut.result.now in
    let q = c.insert_down.new.self in
    let h = c.requires.place.list in
    let e = c.index_mut.ensures.value in
    let other = is_other ls i c.args.room c.in-Some.first p h e c.requires.room c.in-Some.ensures.room in
    let down = c.requires.down in
    let near = within_read ls i c.args.at p h e c.requires.place.within in record {
      whole = carried_down ls i c.args.at c.args.link c.in-Some.first p q h c.requires.place.within e c.in-Some.ensures.links;
      down = omega (arith, other, down);
      within = subst (λ n. i ≤ n) (sym (length_set ls i q)) (omega arith);
      list = subst (λ n. c.args.room < n) (sym (length_set ls i q)) (omega arith);
      room = still_room ls i c.args.room q other c.requires.room;
      lists = still_some ls i q c.requires.lists (moved_down_some p q c.args.at c.args.link c.in-Some.first near (read_some ls i p c.requires.lists h e) c.in-Some.ensures.links);
    }

pub returns-in-None-clause-links : goal.returns-in-None-clause-links
returns-in-None-clause-links c =
    let ls = c.loop-k.lists.items in
    let k = c.loop-k.k - 1 in
    let down = c.loop-k.invariant.down in
    let within = c.loop-k.invariant.within in
    let h : k < length ls = omega (arith, down, within) in
    let next : suc k ≡ c.loop-k.k = omega (arith, down) in
    let long : c.len-end.result ≡ length (list_at ls k) = c.len-end.ensures.len ∙ ap length (got ls k c.index.result.now h c.index.ensures) in
    let count : before ls k + c.len-end.result ≡ before ls c.loop-k.k = ap (λ n. before ls k + n) long ∙ sym (before_next ls k h) ∙ ap (before ls) next in
    put_at ls k c.len-end.result c.loop-k.carried c.index_mut-in-loop-k.result.now c.insert_down-in-loop-k.new.self h (omega (arith, long)) c.index_mut-in-loop-k.ensures.value c.in-None.ensures.links
    ∙ ap (λ n. insert (flat ls) n c.loop-k.carried) count ∙ c.loop-k.invariant.whole

pub returns-in-None-clause-lists : goal.returns-in-None-clause-lists
returns-in-None-clause-lists c =
    let ls = c.loop-k.lists.items in
    let k = c.loop-k.k - 1 in
    let down = c.loop-k.invariant.down in
    let within = c.loop-k.invariant.within in
    let h : k < length ls = omega (arith, down, within) in
    let long : c.len-end.result ≡ length (list_at ls k) = c.len-end.ensures.len ∙ ap length (got ls k c.index.result.now h c.index.ensures) in
    let near = within_read ls k c.len-end.result c.index_mut-in-loop-k.result.now h c.index_mut-in-loop-k.ensures.value (omega (arith, long)) in
    still_some ls k c.insert_down-in-loop-k.new.self c.loop-k.invariant.lists
    (grown_some c.index_mut-in-loop-k.result.now c.insert_down-in-loop-k.new.self c.len-end.result c.loop-k.carried near c.in-None.ensures.links)

pub loop-k-preserved : goal.loop-k-preserved
loop-k-preserved c =
    let ls = c.loop-k.lists.items in
    let k = c.loop-k.k - 1 in
    let p = c.index_mut-in-loop-k.result.now in
    let q = c.insert_down-in-loop-k.new.self in
    let first = c.in-Some-insert_down.first in
    let down = c.loop-k.invariant.down in
    let within = c.loop-k.invariant.within in
    let h : k < length ls = omega (arith, down, within) in
    let next : suc k ≡ c.loop-k.k = omega (arith, down) in
    let e = c.index_mut-in-loop-k.ensures.value in
    let long : c.len-end.result ≡ length (list_at ls k) = c.len-end.ensures.len ∙ ap length (got ls k c.index.result.now h c.index.ensures) in
    let count : before ls k + c.len-end.result ≡ before ls c.loop-k.k = ap (λ n. before ls k + n) long ∙ sym (before_next ls k h) ∙ ap (before ls) next in
    let inside : c.len-end.result ≤ length (list_at ls k) = omega (arith, long) in
    let near = within_read ls k c.len-end.result p h e inside in
    let other = is_other ls k c.args.room first p h e c.loop-k.invariant.room c.in-Some-insert_down.ensures.room in record {
      whole = carried_down ls k c.len-end.result c.loop-k.carried first p q h inside e c.in-Some-insert_down.ensures.links ∙ ap (λ n. insert (flat ls) n c.loop-k.carried) count ∙ c.loop-k.invariant.whole;
      down = omega (arith, other, down);
      within = subst (λ n. k ≤ n) (sym (length_set ls k q)) (omega (arith, h));
      list = subst (λ n. c.args.room < n) (sym (length_set ls k q)) c.loop-k.invariant.list;
      room = still_room ls k c.args.room q other c.loop-k.invariant.room;
      lists = still_some ls k q c.loop-k.invariant.lists (moved_down_some p q c.len-end.result c.loop-k.carried first near (read_some ls k p c.loop-k.invariant.lists h e) c.in-Some-insert_down.ensures.links);
    }
