use Rattle.std.proofs.Common.{◌≡◌, ◌≤◌, ◌+◌, ◌-◌, ◌++◌, true, false, List, [], length, slice_get, Some, None, option_copied, refl, sym, ap, subst, ◌∙◌, arith}
use Rattle.std.specs.List.{Contains}
use Rattle.fs_linearize_configurations.specs.code.Calls.{AreEach}
use Rattle.fs_linearize_configurations.specs.code.Stopping.{is_held, Returns, CanPass}
use Rattle.fs_linearize_configurations.specs.code.Ways.{GoesBack, configurations}
use Rattle.fs_linearize_configurations.specs.declared.reached.Reached.{Reached}
use Rattle.fs_linearize_configurations.specs.declared.steps.Link.{Link}
use Rattle.fs_linearize_configurations.specs.declared.under_way.UnderWay.{UnderWay}
use Rattle.fs_linearize.proofs.FindingLemmas.{stands_first, stands_on, widened, here_at, rest_at, never_none, was_limited, explains_at_end}
use Rattle.fs_linearize.proofs.StoppingLemmas.{no_order_here, passes_some}
use Rattle.fs_linearize_configurations.proofs.SearchLemmas.{contains_got}
use Rattle.fs_linearize.proofs.search.search_layers.Goals as goal

pub loop-place-init : goal.loop-place-init
loop-place-init g c = ([], stands_first c.args.start.now c.args.history.now c.args.limit c.new-calls.result.items c.new-links.result.items c.in_ok-layer.layer c.is_a_tree.ensures c.new-calls.ensures.items c.in_ok-layer.ensures)

pub returns-then-not-whole : goal.returns-then-not-whole
returns-then-not-whole g c =
    let start = c.args.start.now in
    let h = c.args.history.now in
    let place = c.loop-place.place in
    let e = c.index-history-place.result in
    let us = c.loop-place.calls.items in
    let links = c.loop-place.links.items in
    let mid = c.widen.new.links.items in
    let layer = c.loop-place.layer in
    let wide = c.widen.new.layer in
    let most = c.loop-place.most in
    let gone = c.loop-place.invariant.0 in
    let s = c.loop-place.invariant.1 in
    was_limited start h c.args.limit place e us links mid layer wide most gone s
    (widened start h c.args.limit place e us c.deref.result.now links mid layer wide most gone c.in_ok-whole.whole false c.deref.ensures.value c.if-not-whole.true s (c.in_ok-whole.ensures.widens h)) c.is_apart.ensures

pub overflow_sub-most : goal.overflow_sub-most
overflow_sub-most g c = let room = c.in_ok-whole.ensures.room c.if-not-whole.false in omega (arith, room, c.len-most.ensures)

pub returns-in-Some : goal.returns-in-Some
returns-in-Some g c =
    let start = c.args.start.now in
    let h = c.args.history.now in
    let place = c.loop-place.place in
    let e = c.index-history-place.result in
    let us = c.loop-place.calls.items in
    let links = c.loop-place.links.items in
    let mid = c.widen.new.links.items in
    let layer = c.loop-place.layer in
    let wide = c.widen.new.layer in
    let most = c.loop-place.most in
    let gone = c.loop-place.invariant.0 in
    let s = c.loop-place.invariant.1 in
    let here = here_at h place e c.loop-place-test.true c.index-history-place.is in
    let w = widened start h c.args.limit place e us c.deref.result.now links mid layer wide most gone c.in_ok-whole.whole true c.deref.ensures.value c.if-not-whole.false s (c.in_ok-whole.ensures.widens h) in
    let number = c.in-Some.number in
    let returns : Returns e number = c.in-Some.ensures.some.0 in
    let none : is_held number wide ≡ false = subst (λ (rs : List Reached). is_held number rs ≡ false) c.as_slice.ensures c.in-Some.ensures.some.1 in
    let at : place + 1 - 1 ≡ place = omega arith in (
      no_order_here start h c.args.limit place number e us links mid layer wide most gone here returns none s w,
      (returns.0, ap (slice_get h) at ∙ here ∙ ap Some returns.1),
    )

pub loop-place-preserved : goal.loop-place-preserved
loop-place-preserved g c =
    let start = c.args.start.now in
    let h = c.args.history.now in
    let place = c.loop-place.place in
    let e = c.index-history-place.result in
    let us = c.loop-place.calls.items in
    let links = c.loop-place.links.items in
    let mid = c.widen.new.links.items in
    let new = c.pass.new.links.items in
    let layer = c.loop-place.layer in
    let wide = c.widen.new.layer in
    let behind = c.in_ok-layer-2.layer in
    let most = c.loop-place.most in
    let gone = c.loop-place.invariant.0 in
    let s = c.loop-place.invariant.1 in
    let here = here_at h place e c.loop-place-test.true c.index-history-place.is in
    let w = widened start h c.args.limit place e us c.deref.result.now links mid layer wide most gone c.in_ok-whole.whole true c.deref.ensures.value c.if-not-whole.false s (c.in_ok-whole.ensures.widens h) in
    let calls = c.in_ok-calls.ensures h place c.requires here (rest_at h place) s.calls in
    let p = c.in_ok-layer-2.ensures h place c.requires here refl w.widens.there (subst (λ (ws : List UnderWay). AreEach h (place + 1) ws) (sym c.deref-in-loop-place.ensures.value) calls.each) in
    let can : CanPass e wide = subst (CanPass e) c.as_slice.ensures c.in_default.ensures.none in
    let some = passes_some start h c.args.limit place e us links mid new layer wide behind most gone can s w p in
    let left = most - c.len-most.result in
    let room : most ≤ left + length wide = omega (arith, c.len-most.ensures) in
    (gone ++ configurations wide, stands_on start h c.args.limit place e us c.in_ok-calls.calls.items links mid new layer wide behind most left gone here s w p calls room some c.is_apart.ensures)

pub unreachable-requires : goal.unreachable-requires
unreachable-requires g c =
    let s = c.loop-place.invariant.1 in
    never_none c.loop-place.layer s.some (subst (λ (rs : List Reached). slice_get rs 0 ≡ None) c.as_slice-2.ensures (sym c.first.ensures.value ∙ ap option_copied c.in_default-first.is))

pub returns : goal.returns
returns g c =
    let h = c.args.history.now in
    let layer = c.loop-place.layer in
    let links = c.loop-place.links.items in
    let r = c.in-Some-first.reached.now in
    let past : c.loop-place.place ≡ length h = omega (arith, c.loop-place-test.false, c.loop-place.auto.place-end) in
    let there = subst (λ (rs : List Reached). Contains rs r) c.as_slice-2.ensures (contains_got c.as_slice-2.result.now 0 r c.in-Some-first.ensures.value) in
    explains_at_end c.args.start.now h c.args.limit c.loop-place.place c.loop-place.calls.items links layer c.loop-place.most c.loop-place.invariant.0 r c.in_ok-steps.steps.items c.loop-place.invariant.1 past there
    (λ ss k. c.in_ok-steps.ensures ss (subst (λ (ls : List Link). GoesBack ls (length h) r.last ss) (sym c.deref-2.ensures.value) k))
