use Rattle.std.proofs.Common.{rules, ◌≡◌, ◌+◌, ◌++◌, ◌∷◌, [], List, Option, ℕ, take, sym, subst, ap, ◌∙◌, get_or}
use Rattle.std.proofs.lemmas.List.{take_more}
use Rattle.fs_sched_outcomes.specs.Asserts.{AreDecidedOn}
use Rattle.fs_sched_outcomes.specs.declared.assertion.Assertion.{Assertion}
use Rattle.fs_sched_outcomes.proofs.Deciding.{decided_more}
use Rattle.fs_sched_outcomes.proofs.asserting.all_decided.Goals as goal

pub loop-assertion-preserved : goal.loop-assertion-preserved
loop-assertion-preserved g c =
    let at = c.loop-assertion.assertion-index in
    let item = c.assertion-item.result in
    let here : get_or c.args.asserts.now at item ≡ item = cc in
    let more = take_more c.args.asserts.now at item c.loop-assertion-test.true ∙ ap (λ (a : Assertion). take at c.args.asserts.now ++ a ∷ []) here in
    let pushed : c.push_decided.new.all.items ≡ c.loop-assertion.all.items ++ c.in-Ok.one ∷ [] = search rules in
    subst (λ (ds : List (Option ℕ)). AreDecidedOn c.args.campaign.now c.args.script.now c.args.seed c.args.runs (take (at + 1) c.args.asserts.now) ds) (sym pushed)
    (subst (λ (these : List Assertion). AreDecidedOn c.args.campaign.now c.args.script.now c.args.seed c.args.runs these (c.loop-assertion.all.items ++ c.in-Ok.one ∷ [])) (sym more)
    (decided_more c.args.campaign.now c.args.script.now c.args.seed c.args.runs (take at c.args.asserts.now) item c.loop-assertion.all.items c.in-Ok.one c.loop-assertion.invariant c.in-Ok.ensures.decided))
