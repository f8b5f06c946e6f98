use Rattle.std.proofs.Common.{◌≡◌, ◌≤◌, not, List, length, subst, arith}
use Rattle.std.specs.List.{filter}
use Rattle.fs_linearize_configurations.specs.declared.under_way.UnderWay.{UnderWay}
use Rattle.fs_linearize_configurations.proofs.NearLemmas.{is_met, near_first, near_more, near_all, near_end}
use Rattle.fs_linearize_configurations.proofs.meeting.near.Goals as goal

pub loop-place-init : goal.loop-place-init
loop-place-init c =
    near_first c.args.number c.args.siblings c.args.calls.now c.in_ok-some.field-0.some.items c.in_ok-some.field-0.others.items c.in_ok-some.ensures.some c.in_ok-some.ensures.others

pub loop-place-preserved : goal.loop-place-preserved
loop-place-preserved c =
    let v = c.index.result.now in
    let near = c.loop-place.near.items in
    let some = c.in_ok-parted.parted.some.items in
    let others = c.in_ok-parted.parted.others.items in
    let met = subst (λ (us : List UnderWay). some ≡ filter (is_met c.args.siblings v.call.now) us) c.deref.ensures.value c.in_ok-parted.ensures.some in
    let other = subst (λ (us : List UnderWay). others ≡ filter (λ u. not (is_met c.args.siblings v.call.now u)) us) c.deref.ensures.value c.in_ok-parted.ensures.others in
    near_more c.args.number c.args.siblings c.args.calls.now c.loop-place.place v near c.loop-place.rest.items some others c.append.new.self.items (omega (arith, c.len.ensures, c.if-len-place.false, c.loop-place.near.ok.0)) c.index.ensures met other
    c.in_ok-append.ensures.items c.loop-place.invariant

pub returns-then-len-place : goal.returns-then-len-place
returns-then-len-place c =
    let past : length c.loop-place.near.items ≤ c.loop-place.place = omega (arith, c.len.ensures, c.if-len-place.true, c.loop-place.near.ok.0) in
    near_all c.args.number c.args.siblings c.args.calls.now c.loop-place.place c.loop-place.near.items c.loop-place.rest.items past c.loop-place.invariant

pub returns : goal.returns
returns c = near_end c.args.number c.args.siblings c.args.calls.now c.loop-place.place c.loop-place.near.items c.loop-place.rest.items c.loop-place-test.false c.loop-place.invariant
