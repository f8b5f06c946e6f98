use Rattle.std.proofs.Common.{◌≡◌, ◌<◌, ◌≤◌, true, false, nat_le, List, length, sym, subst, arith}
use Rattle.std.specs.List.{Contains}
use Rattle.std.proofs.lemmas.Bool.{leb-false}
use Rattle.fs_linearize_histories.specs.Configurations.{is_in}
use Rattle.fs_linearize_configurations.specs.code.Calls.{AreNear}
use Rattle.fs_linearize_configurations.specs.declared.reached.Reached.{Reached}
use Rattle.fs_linearize_configurations.specs.declared.under_way.UnderWay.{UnderWay}
use Rattle.fs_linearize_configurations.proofs.SearchLemmas.{widens_held, widens_none, widens_one_more, widens_whole, widens_limited}
use Rattle.fs_linearize_configurations.proofs.widening.widen_before.Goals as goal

pub returns-then-all_hold-clause-widens : goal.returns-then-all_hold-clause-widens
returns-then-all_hold-clause-widens c = λ h at there each.
    let layer = c.args.layer.now in
    let most = c.args.most in
    let whole = nat_le c.len.result most in
    let held = subst (λ (rs : List Reached). (r : Reached) → Contains rs r → is_in c.args.number r.configuration.held ≡ true) c.as_slice.ensures (c.all_hold.ensures c.if-all_hold.true) in
    let many : whole ≡ false → most ≤ length layer = λ less. omega (arith, leb-false c.len.result most less, c.len.ensures) in
    widens_held h c.args.number at c.args.calls.now most whole c.args.links.now.items layer held many there

pub loop-place-init : goal.loop-place-init
loop-place-init c = λ h at there each. widens_none h c.args.number at c.args.calls.now c.args.links.now.items c.args.layer.now there

pub returns-then-place-len-clause-widens : goal.returns-then-place-len-clause-widens
returns-then-place-len-clause-widens c = λ h at there each.
    let past : length c.loop-place.layer ≤ c.loop-place.place = omega (arith, c.len-in-loop-place.ensures) in
    widens_whole h c.args.number at c.args.calls.now c.loop-place.place c.args.most c.args.links.now.items c.loop-place.links.items c.args.layer.now c.loop-place.layer past (c.loop-place.invariant h at there each)

pub returns-then-place-len-clause-room : goal.returns-then-place-len-clause-room
returns-then-place-len-clause-room c = λ yes. omega (arith, c.len-in-loop-place.ensures)

pub loop-place-preserved : goal.loop-place-preserved
loop-place-preserved c = λ h at there each.
    let near = subst (λ (us : List UnderWay). AreNear c.args.number false c.args.calls.now us) (sym c.deref.ensures.value) c.in_ok-near.ensures in
    let small : c.loop-place.place < length c.loop-place.layer = omega (arith, c.len-in-loop-place.ensures) in
    widens_one_more h c.args.number at c.args.calls.now c.loop-place.place c.args.links.now.items c.loop-place.links.items c.follow.new.links.items c.args.layer.now c.loop-place.layer c.follow.new.layer small each
    (λ g r is all. c.in_ok-follow.ensures g r is all near) (c.loop-place.invariant h at there each)

pub returns-clause-widens : goal.returns-clause-widens
returns-clause-widens c = λ h at there each.
    widens_limited h c.args.number at c.args.calls.now c.loop-place.place c.args.most c.args.links.now.items c.loop-place.links.items c.args.layer.now c.loop-place.layer c.loop-place-test.false (c.loop-place.invariant h at there each)
