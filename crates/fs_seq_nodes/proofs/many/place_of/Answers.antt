use Rattle.std.proofs.Common.{◌≡◌, ◌<◌, ◌+◌, ◌≤◌, suc, arith, ap, length}
use Rattle.fs_seq_nodes.specs.code.Lists.{before, list_at}
use Rattle.fs_seq_nodes.proofs.FlatLemmas.{before_next}
use Rattle.fs_seq_nodes.proofs.ListSearch.{before_up}
use Rattle.fs_seq_nodes.proofs.ListEdits.{got}
use Rattle.fs_seq_nodes.proofs.many.place_of.Goals as goal

pub overflow_add-place : goal.overflow_add-place
overflow_add-place c =
    let ls = c.args.lists.now in
    let j = c.loop-j.j in
    let bound = c.requires.list in
    let h : j < length ls = omega (arith, bound) in
    let here : c.len-place.result ≡ length (list_at ls j) = cc (c.len-place.ensures.len, ap length (got ls j c.index-lists-j.result h c.index-lists-j.is), ap length c.index-lists-j.is) in
    let next = before_next ls j h in
    let up : before ls (suc j) ≤ before ls c.args.i = before_up ls (suc j) c.args.i (omega arith) in
    let most = c.requires.most in
    let place = c.loop-j.invariant in
    omega (arith, here, next, up, most, place)

pub loop-j-preserved : goal.loop-j-preserved
loop-j-preserved c =
    let ls = c.args.lists.now in
    let j = c.loop-j.j in
    let bound = c.requires.list in
    let h : j < length ls = omega (arith, bound) in
    let here : c.len-place.result ≡ length (list_at ls j) = cc (c.len-place.ensures.len, ap length (got ls j c.index-lists-j.result h c.index-lists-j.is), ap length c.index-lists-j.is) in
    let next = before_next ls j h in
    let one : before ls (j + 1) ≡ before ls (suc j) = let e : j + 1 ≡ suc j = omega arith in ap (before ls) e in
    let place = c.loop-j.invariant in
    omega (arith, here, next, one, place)
