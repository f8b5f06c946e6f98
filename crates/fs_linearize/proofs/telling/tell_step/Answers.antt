use Rattle.std.proofs.Common.{◌≡◌, ◌++◌, ◌∷◌, [], subst, sym, ap, ◌∙◌}
use Rattle.fs_linearize_configurations.specs.declared.steps.Step.{Step}
use Rattle.fs_linearize.specs.code.Tellings.{TellsOn}
use Rattle.fs_linearize.proofs.TellingLemmas.{tells_pass}
use Rattle.fs_linearize.proofs.telling.tell_step.Goals as goal

pub returns-in_ok-with_heard-in-Some : goal.returns-in_ok-with_heard-in-Some
returns-in_ok-with_heard-in-Some c =
    let old = c.args.telling in
    let new = c.in_ok-with_heard-in-Some.field-0 in
    let heard = c.in-Some.heard in
    let told = c.in_ok-with_heard-in-Some.ensures in
    let next = told.journal in
    let popped : old.rest.items ≡ new.rest.items ++ heard ∷ [] = c.in-Some.ensures.items ∙ ap (λ xs. xs ++ heard ∷ []) (sym told.rest) in
    subst (λ (s : Step). TellsOn c.args.start.now old s new) (sym c.in-Passes.is)
    (tells_pass c.args.start.now old new heard next.0 popped next.2 next.1 told.tree told.kept)
