use Rattle.std.proofs.Common.{◌≡◌, None, subst, sym, ap, ◌∙◌}
use Rattle.fs_linearize_histories.specs.Faults.{history_fault}
use Rattle.fs_linearize_histories.specs.Histories.{IsHistory}
use Rattle.fs_linearize_histories.proofs.FaultLemmas.{faults_are_first}
use Rattle.fs_linearize.proofs.PlaceLemmas.{cut_whole, limited_above}
use Rattle.fs_linearize.proofs.LinearizableLemmas.{fault_refuses, searched_tells}
use Rattle.fs_linearize.proofs.linearizing.linearize.Goals as goal

pub find_way-requires : goal.find_way-requires
find_way-requires g c =
    let h = c.args.history.items in
    let none : history_fault h ≡ None = sym (ap history_fault c.deref.ensures.value) ∙ sym c.in_ok-place.ensures ∙ c.in_default.is in
    subst IsHistory (sym c.deref-2.ensures.value) ((faults_are_first.none h).0 none)

pub returns-in-Some-clause-linearizable : goal.returns-in-Some-clause-linearizable
returns-in-Some-clause-linearizable g c =
    fault_refuses c.args.start.now c.args.history.items _ (sym (ap history_fault c.deref.ensures.value) ∙ sym c.in_ok-place.ensures ∙ c.in-Some.is)

pub returns-in_ok-tell-in-Ends-clause-linearizable : goal.returns-in_ok-tell-in-Ends-clause-linearizable
returns-in_ok-tell-in-Ends-clause-linearizable g c =
    searched_tells c.args.start.now c.args.history.items _ c.args.limit _ _ c.deref-2.ensures.value c.in_ok-steps.ensures c.in-Ends.is

pub refused-requires-clause-history : goal.refused-requires-clause-history
refused-requires-clause-history g c =
    let h = c.args.history.items in
    let none : history_fault h ≡ None = sym (ap history_fault c.deref.ensures.value) ∙ sym c.in_ok-place.ensures ∙ c.in_default.is in
    (faults_are_first.none h).0 none

pub returns-in-Limited-clause-answer : goal.returns-in-Limited-clause-answer
returns-in-Limited-clause-answer g c = cut_whole c.args.start.now c.args.history.items _ c.args.limit _ _ c.deref-2.ensures.value c.in_ok-steps.ensures c.in-Limited.is

pub returns-in-Limited-clause-known : goal.returns-in-Limited-clause-known
returns-in-Limited-clause-known g c = limited_above c.args.start.now c.args.history.items c.args.limit _ (cut_whole c.args.start.now c.args.history.items _ c.args.limit _ _ c.deref-2.ensures.value c.in_ok-steps.ensures c.in-Limited.is)
