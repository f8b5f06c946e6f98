use Rattle.std.proofs.Common.{◌≡◌, ◌+◌, List, Some, drop, slice_get, sym, ap, subst, ◌∙◌, option_copied}
use Rattle.fs_linearize_histories.specs.declared.heard.Heard.TheVariants.{Begin, Return}
use Rattle.fs_linearize_histories.specs.Histories.{recorded}
use Rattle.fs_linearize_configurations.specs.code.Calls.{AreUnderWay, without_call}
use Rattle.fs_linearize_configurations.specs.declared.under_way.UnderWay.{UnderWay}
use Rattle.fs_linearize_configurations.proofs.CallLemmas.{under_way_begin, under_way_return}
use Rattle.fs_linearize_configurations.proofs.under_way.after.Goals as goal

pub returns-in-Begin : goal.returns-in-Begin
returns-in-Begin c = λ h place history here rest all.
    let number : c.get-in-Begin.result ≡ c.in-Begin.number = c.get-in-Begin.ensures in
    let seat = c.in-Begin.field-1 in
    let k = c.in_ok-push-in-Begin.ensures.items in
    let known : option_copied c.recorded-known.result ≡ recorded c.get-in-Begin.result (drop place h) =
    c.recorded-known.ensures ∙ ap (λ n. recorded n c.args.left.now) (c.get.ensures ∙ sym number) ∙ ap (recorded c.get-in-Begin.result) rest in
    under_way_begin h place seat c.args.calls.items c.push.new.self.items _ history (here ∙ ap Some (c.in-Begin.is ∙ ap (λ n. Begin n seat c.in-Begin.call) (sym number))) known k all

pub returns : goal.returns
returns c = λ h place history here rest all.
    let n = c.in-Return.number in
    let is : slice_get h place ≡ Some (Return n c.in-Return.field-1) = here ∙ ap Some c.in-Return.is in
    let left : c.in_ok-without-in-Return.field-0.items ≡ without_call n c.args.calls.items =
    c.in_ok-without-in-Return.ensures ∙ ap (λ m. without_call m c.deref.result.now) c.get-in-Return.ensures ∙ ap (without_call n) c.deref.ensures.value in
    subst (λ (us : List UnderWay). AreUnderWay h (place + 1) us) (sym left) (under_way_return h place n c.in-Return.field-1 c.args.calls.items is all)
