use Rattle.std.proofs.Common.{◌≡◌, false, Some, refl, sym, ap, subst, ◌∙◌}
use Rattle.fs_linearize_histories.specs.declared.heard.Heard.{Heard}
use Rattle.fs_linearize_histories.specs.Configurations.{without, passed, returned}
use Rattle.fs_linearize_configurations.specs.code.Calls.{AreEach}
use Rattle.fs_linearize_configurations.specs.code.Searching.{PassesTo, waits}
use Rattle.fs_linearize_configurations.specs.declared.reached.Reached.{Reached}
use Rattle.fs_linearize_configurations.proofs.SearchLemmas.{passes_to_begin, passes_to_return}
use Rattle.fs_linearize_configurations.proofs.passing.behind.Goals as goal

pub returns-in_ok-settle_newest-in-Begin : goal.returns-in_ok-settle_newest-in-Begin
returns-in_ok-settle_newest-in-Begin c = λ h history here at each goes.
    let r = c.args.reached in
    let old = c.args.links.now.items in
    let new = c.settle_newest.new.links.items in
    let next = c.in_ok-settle_newest-in-Begin.field-0 in
    let s : Reached = record { configuration = c.passed.result; last = r.last } in
    let place : c.passed.result.at ≡ c.args.at = ap (λ z. z.at) c.passed.ensures in
    let is : s.configuration ≡ passed r.configuration = c.passed.ensures ∙ ap (λ n. record r.configuration { at = n }) at in
    let k = c.in_ok-settle_newest-in-Begin.ensures h (subst (λ n. AreEach h n c.args.calls.now) (sym place) each) in
    subst (λ (e : Heard). PassesTo h e r old new next) (sym c.in-Begin.is)
    (passes_to_begin h c.in-Begin.field-0 c.in-Begin.field-1 c.in-Begin.field-2 r s next old new history (here ∙ ap Some c.in-Begin.is) is refl k)

pub returns-in_ok-configuration-in-Return : goal.returns-in_ok-configuration-in-Return
returns-in_ok-configuration-in-Return c = λ h history here at each goes.
    let r = c.args.reached in
    let links = c.args.links.now.items in
    let n = c.in-Return.number in
    let s : Reached = record { configuration = c.in_ok-configuration-in-Return.configuration; last = r.last } in
    let is : s.configuration ≡ returned r.configuration n =
    c.in_ok-configuration-in-Return.ensures
    ∙ ap (λ k. record r.configuration { at = c.args.at; held = without k r.configuration.held }) c.get.ensures
    ∙ ap (λ m. record r.configuration { at = m; held = without n r.configuration.held }) at in
    subst (λ (e : Heard). PassesTo h e r links links s) (sym c.in-Return.is)
    (passes_to_return h n c.in-Return.field-1 r s links history (here ∙ ap Some c.in-Return.is) (subst (λ (e : Heard). waits r.configuration e ≡ false) c.in-Return.is goes) is refl)
