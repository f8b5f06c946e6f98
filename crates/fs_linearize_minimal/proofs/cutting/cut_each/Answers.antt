use Rattle.std.proofs.Common.{◌≡◌, ℕ, ◌+◌, ◌<◌, List, [], ◌∷◌, length, get_or, drop, refl, sym, ap, ◌∙◌, subst, drop-cons, add-one}
use Rattle.std.proofs.lemmas.List.{drop_all}
use Rattle.fs_linearize_histories.specs.declared.heard.Heard.{Heard}
use Rattle.fs_linearize_minimal.specs.Parts.{without, calls_in}
use Rattle.fs_linearize_minimal.specs.Minimal.{AreNeeded, IsMinimal}
use Rattle.fs_linearize_minimal.proofs.PartLemmas.{itself, part_of_part, goes}
use Rattle.fs_linearize_minimal.proofs.EachLemmas.{each_next}
use Rattle.fs_linearize_minimal.proofs.cutting.cut_each.Goals as goal

pub loop-call-init : goal.loop-call-init
loop-call-init g c = record { part = itself c.args.entries.now.items; refuted = λ known. known; shorter = λ e. absurd (cc); same = λ e. refl; needed = λ e known. known }

pub loop-call-preserved : goal.loop-call-preserved
loop-call-preserved g c =
    let h : List Heard = c.args.entries.now.items in
    let calls : List ℕ = c.as_slice-call-items.result.now in
    let at = c.loop-call.call-index in
    let call = get_or calls at 0 in
    let before = c.loop-call.invariant in
    let rest : drop at calls ≡ call ∷ drop (at + 1) calls = rw add-one (drop-cons calls at 0 c.loop-call-test.true) in
    let are : calls ≡ calls_in h = c.as_slice-call-items.ensures.value ∙ c.in_ok-calls.ensures ∙ ap calls_in c.as_slice.ensures.value in
    let less : length (without (call ∷ []) h) < length h = subst (λ (l : List ℕ). length (without (get_or l at 0 ∷ []) h) < length h) (sym are) (goes h at (subst (λ (l : List ℕ). at < length l) are c.loop-call-test.true)) in
    let told =
    each_next c.args.start.now c.args.limit c.args.reason.now h c.loop-call.entries.items c.cut.new.entries.items c.loop-call.went c.in_ok-goes.goes c.either-went.result call (drop (at + 1) calls) calls
    c.either-went.ensures before.part before.shorter before.same
    (λ e known. before.needed e (subst (AreNeeded c.args.start.now c.args.limit c.args.reason.now h) (sym rest) known))
    c.in_ok-goes.ensures.went c.in_ok-goes.ensures.stays c.in_ok-goes.ensures.needed less
    in
    record {
      part = part_of_part c.cut.new.entries.items c.loop-call.entries.items h c.in_ok-goes.ensures.part before.part;
      refuted = λ known. c.in_ok-goes.ensures.refuted (before.refuted known);
      shorter = told.0;
      same = told.1;
      needed = told.2;
    }

pub returns-clause-part : goal.returns-clause-part
returns-clause-part g c = c.loop-call.invariant.part

pub returns-clause-refuted : goal.returns-clause-refuted
returns-clause-refuted g c = c.loop-call.invariant.refuted

pub returns-clause-went : goal.returns-clause-went
returns-clause-went g c = c.loop-call.invariant.shorter

pub returns-clause-minimal : goal.returns-clause-minimal
returns-clause-minimal g c e =
    let h : List Heard = c.args.entries.now.items in
    let calls : List ℕ = c.as_slice-call-items.result.now in
    let are : calls ≡ calls_in h = c.as_slice-call-items.ensures.value ∙ c.in_ok-calls.ensures ∙ ap calls_in c.as_slice.ensures.value in
    let none = subst (AreNeeded c.args.start.now c.args.limit c.args.reason.now h) (sym (drop_all c.loop-call.call-index calls c.loop-call-test.false)) tt in
    let each = subst (AreNeeded c.args.start.now c.args.limit c.args.reason.now h) are (c.loop-call.invariant.needed e none) in
    subst (IsMinimal c.args.start.now c.args.limit c.args.reason.now) (sym (c.loop-call.invariant.same e)) each
