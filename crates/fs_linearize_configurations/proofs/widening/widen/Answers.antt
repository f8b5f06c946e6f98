use Rattle.std.proofs.Common.{◌≡◌, ◌≤◌, false, nat_le, length, sym, subst, arith}
use Rattle.std.proofs.lemmas.Bool.{leb-false}
use Rattle.fs_linearize_histories.specs.declared.heard.Heard.{Heard}
use Rattle.fs_linearize_configurations.specs.code.Searching.{WidensBefore, WidensFor}
use Rattle.fs_linearize_configurations.proofs.SearchLemmas.{widens_begin, widens_return}
use Rattle.fs_linearize_configurations.proofs.widening.widen.Goals as goal

pub returns-in-Begin-clause-widens : goal.returns-in-Begin-clause-widens
returns-in-Begin-clause-widens c = λ h at there each.
    let us = c.args.calls.now in
    let links = c.args.links.now.items in
    let layer = c.args.layer.now in
    let most = c.args.most in
    let many : nat_le c.len.result most ≡ false → most ≤ length layer = λ less. omega (arith, leb-false c.len.result most less, c.len.ensures) in
    subst (λ (e : Heard). WidensFor h e at us links links layer layer (nat_le c.len.result most) most) (sym c.in-Begin.is)
    (widens_begin h c.in-Begin.field-0 c.in-Begin.field-1 at c.in-Begin.field-2 us most (nat_le c.len.result most) links layer many there)

pub returns-in_ok-widen_before-in-Return-clause-widens : goal.returns-in_ok-widen_before-in-Return-clause-widens
returns-in_ok-widen_before-in-Return-clause-widens c = λ h at there each.
    let us = c.args.calls.now in
    let old = c.args.links.now.items in
    let new = c.widen_before.new.links.items in
    let before = c.args.layer.now in
    let behind = c.widen_before.new.layer in
    let n = c.in-Return.number in
    let whole = c.in_ok-widen_before-in-Return.field-0 in
    let k = subst (λ m. WidensBefore h m at us old new before behind whole c.args.most) c.get.ensures (c.in_ok-widen_before-in-Return.ensures.widens h at there each) in
    subst (λ (e : Heard). WidensFor h e at us old new before behind whole c.args.most) (sym c.in-Return.is) (widens_return h n at c.in-Return.field-1 us old new before behind whole c.args.most k)
