-- An assertion more that is decided, or that holds.
use Rattle.std.proofs.Common.{ℕ, ◌≡◌, ◌+◌, ◌<◌, ◌&&◌, true, List, [], ◌∷◌, ◌++◌, Option, length, drop, get_or, refl, ap₂}
use Rattle.std.proofs.lemmas.List.{drop_more}
use Rattle.fs_script.specs.declared.script.Script.{Script}
use Rattle.fs_sched.specs.declared.policy.Campaign.{Campaign}
use Rattle.fs_sched_outcomes.specs.Asserts.{all_hold, holds, AreDecidedOn, IsDecidedOn}
use Rattle.fs_sched_outcomes.specs.declared.assertion.Assertion.{Assertion}

pub decided_more : (drawn : Campaign) (script : Script) (seed runs : ℕ) (asserts : List Assertion) (a : Assertion) (ds : List (Option ℕ)) (d : Option ℕ)
    → AreDecidedOn drawn script seed runs asserts ds → IsDecidedOn drawn script seed runs a d → AreDecidedOn drawn script seed runs (asserts ++ a ∷ []) (ds ++ d ∷ [])
decided_more drawn script seed runs [] a [] d all one = (one, tt)
decided_more drawn script seed runs [] a (e ∷ ds) d all one = absurd all
decided_more drawn script seed runs (b ∷ asserts) a [] d all one = absurd all
decided_more drawn script seed runs (b ∷ asserts) a (e ∷ ds) d all one = (all.0, decided_more drawn script seed runs asserts a ds d all.1 one)

-- one that holds and the others
pub hold_next : (asserts : List Assertion) (ds : List (Option ℕ)) (at : ℕ) (a : Assertion) (d : Option ℕ) → at < length asserts → at < length ds
    → all_hold (drop at asserts) (drop at ds) ≡ (holds (get_or asserts at a).quantifier (get_or ds at d) && all_hold (drop (at + 1) asserts) (drop (at + 1) ds))
hold_next asserts ds at a d less lesser = ap₂ all_hold (drop_more asserts at a less) (drop_more ds at d lesser)

pub hold_none : (asserts : List Assertion) → all_hold asserts [] ≡ true
hold_none [] = refl
hold_none (a ∷ more) = refl
