use Rattle.std.proofs.Common.{rules, ◌≡◌, ◌<◌, true, [], List, map, length, get_or, slice_get, Some, sym, ◌∙◌, subst, arith}
use Rattle.fs_calls.specs.declared.call.Call.{Call}
use Rattle.fs_share.proofs.Beginning.{one_begun, list_at}
use Rattle.fs_share.proofs.played.count_begin.Goals as goal

pub returns-clause-next : goal.returns-clause-next
returns-clause-next c is es number before =
    let seat = c.args.seat in
    let begun = c.args.begun.now in
    let same : length begun ≡ length c.args.lists.now = c.requires in
    let less : seat < length c.args.lists.now = omega arith in
    let within : seat < length begun = omega arith in
    let item = c.index-lists-seat.result in
    let at : get_or (map (λ v. v.items) c.args.lists.now) seat [] ≡ item.items = list_at (λ v. v.items) c.args.lists.now seat item less c.index-lists-seat.is in
    let yes : c.is_next.result ≡ true = search rules in
    let next = subst (λ (l : List Call). slice_get l (get_or begun seat 0) ≡ Some c.args.call.now) (c.as_slice.ensures.value ∙ sym at) (c.is_next.ensures yes) in
    one_begun (map (λ v. v.items) c.args.lists.now) begun es number seat c.args.call.now within next before
