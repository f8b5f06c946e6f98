-- An assertion that holds is so of all runs, and one that does not is broken.
use Rattle.std.proofs.Common.{ℕ, ◌≡◌, true, false, List, Option, Some, None}
use Rattle.fs_script.specs.declared.script.Script.{Script}
use Rattle.fs_sched.specs.declared.policy.Campaign.{Campaign}
use Rattle.fs_sched_outcomes.specs.Asserts.{deciding, holds, HoldsAsSaid, IsBroken, IsSo}
use Rattle.fs_sched_find.specs.Finds.{IsFoundOn}
use Rattle.fs_sched_outcomes.specs.declared.assertion.Quantifier.{Quantifier}
use Rattle.fs_sched_outcomes.specs.declared.assertion.Quantifier.TheVariants.{Never, Always, Sometimes}
use Rattle.fs_sched_find.specs.declared.what.Clause.{Clause}

said : (drawn : Campaign) (q : Quantifier) (script : Script) (what : List (List Clause)) (seed runs : ℕ) (decided : Option ℕ) → IsFoundOn drawn (deciding q) script what seed runs decided
    → (holds q decided ≡ true → IsSo drawn q script what seed runs) × (holds q decided ≡ false → IsBroken drawn q script what seed runs)
said drawn Never script what seed runs None is = (λ h. is, λ h. absurd cc)
said drawn Never script what seed runs (Some n) is = (λ h. absurd cc, λ h. (n, is.from, is.below, is.has))
said drawn Always script what seed runs None is = (λ h. is, λ h. absurd cc)
said drawn Always script what seed runs (Some n) is = (λ h. absurd cc, λ h. (n, is.from, is.below, is.has))
said drawn Sometimes script what seed runs None is = (λ h. absurd cc, λ h. is)
said drawn Sometimes script what seed runs (Some n) is = (λ h. (n, is.from, is.below, is.has), λ h. absurd cc)

pub holds_as_said : HoldsAsSaid
holds_as_said drawn script seed runs a decided is = said drawn a.quantifier script a.what.items seed runs decided is
