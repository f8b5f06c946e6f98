use Rattle.std.proofs.Common.{◌≡◌, List, refl, sym, ap, subst, ◌∙◌, false, option_copied}
use Rattle.std.specs.List.{Contains}
use Rattle.fs_calls.specs.Starts.{Start}
use Rattle.fs_calls.specs.Outcomes.{called}
use Rattle.fs_calls.specs.declared.reply.Reply.{Reply}
use Rattle.fs_linearize_histories.specs.Configurations.{is_in, placed, committed}
use Rattle.fs_linearize_configurations.specs.code.Calls.{FitsKnown, CanCommitNow}
use Rattle.fs_linearize_configurations.specs.code.Walking.{reached_by}
use Rattle.fs_linearize_configurations.specs.declared.under_way.UnderWay.{UnderWay}
use Rattle.fs_linearize_configurations.specs.declared.walking.Walk.{Walk}
use Rattle.fs_linearize_configurations.proofs.WalkLemmas.{walked_commit}
use Rattle.fs_linearize_configurations.proofs.walking.commit.Goals as goal

pub returns : goal.returns
returns c = λ start h ss k.
    let v = c.args.from in
    let u : UnderWay = c.in-Some.call in
    let held = v.held.items in
    let w : Walk = record { at = v.at; tree = c.apply.new.self; held = c.in_ok-held.held; calls = v.calls } in
    let there : Contains v.calls.items u = subst (λ (us : List UnderWay). Contains us u) c.deref.ensures.value c.in-Some.ensures.0 in
    let number : u.number ≡ c.args.number = c.in-Some.ensures.1 in
    let tree = c.in_ok-reply.ensures.tree in
    let free : is_in u.number held ≡ false = ap (λ n. is_in n held) number ∙ ap (is_in c.args.number) (sym c.deref-2.ensures.value) ∙ sym c.is_in.ensures ∙ c.if-is_in.false in
    let more : c.in_ok-held.held.items ≡ placed u.number held = c.in_ok-held.ensures ∙ ap (placed c.args.number) c.deref-3.ensures.value ∙ ap (λ n. placed n held) (sym number) in
    let can : CanCommitNow (reached_by v) u = record { not_yet = free; fits = subst (FitsKnown (option_copied u.known)) c.in_ok-reply.ensures.reply (c.fits.ensures.0 c.if-not-fits.false) } in
    let is : reached_by w ≡ committed (reached_by v) u.number u.call.now =
    ap (λ t. record (reached_by w) { now = t }) tree ∙ ap (λ ns. record (reached_by v) { now = called v.tree u.call.now; held = ns }) more in
    walked_commit start h ss v w u c.args.number there number can is refl k
