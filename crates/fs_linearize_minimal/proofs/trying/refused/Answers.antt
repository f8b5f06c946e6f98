use Rattle.std.proofs.Common.{◌≡◌, List, take, sym, ap, subst, ◌∙◌}
use Rattle.fs_linearize_histories.specs.declared.heard.Heard.{Heard}
use Rattle.fs_linearize_histories.specs.Faults.{history_fault}
use Rattle.fs_linearize.specs.Results.{IsAnswerFor}
use Rattle.fs_linearize_minimal.specs.Parts.{IsPartOf}
use Rattle.fs_linearize_minimal.specs.Minimal.{IsRefuted}
use Rattle.fs_linearize_minimal.specs.code.Tries.{IsKept}
use Rattle.fs_linearize_minimal.proofs.PartLemmas.{part_take}
use Rattle.fs_linearize_minimal.proofs.RefusedLemmas.{refused_for}
use Rattle.fs_linearize_minimal.proofs.trying.refused.Goals as goal

pub returns-then-branch-clause-some : goal.returns-then-branch-clause-some
returns-then-branch-clause-some g c =
    let h : List Heard = c.args.entries.items in
    let place = c.in-Some.place in
    let same : c.in_ok-tried.tried.items ≡ h = c.in_ok-tried.ensures ∙ c.as_slice.ensures.value in
    let front : c.truncate.new.self.items ≡ take place h = c.truncate.ensures.items in
    let race = subst (IsKept c.args.start.now c.args.reason.now) (c.as_slice-2.ensures.value ∙ front) (c.in_ok-is_race.ensures.kept c.if-branch.true) in
    let answer = subst (λ (l : List Heard). IsAnswerFor c.args.start.now l c.args.limit c.in_ok-found.found) same c.in_ok-found.ensures.answer in (
      subst (λ (l : List Heard). IsPartOf l h) (sym front) (part_take place h),
      subst (IsRefuted c.args.start.now c.args.limit c.args.reason.now) (sym front)
          (refused_for c.args.start.now h c.args.limit place c.args.reason.now c.in_ok-found.found answer (c.in_ok-found.ensures.fault ∙ ap history_fault same) (sym c.place_in.ensures ∙ c.in-Some.is) race),
    )
