-- One more drawn run, and the runs of what was read.
use Rattle.std.proofs.Common.{◌≡◌, ℕ, zero, suc, ◌+◌, ◌≤◌, ◌<◌, ⊎_elim, List, [], ◌∷◌, ◌++◌, Option, Some, None, sym, ap, ◌∙◌, subst, append-nil, arith}
use Rattle.std.proofs.Math.Nat.{eq-or-lt_of_le}
use Rattle.std.specs.Prelude.{IfSome}
use Rattle.std.specs.List.{flat_map, range_with_len}
use Rattle.std.proofs.lemmas.Grind.{flat_map-append}
use Rattle.fs_script.specs.Script.{script_of}
use Rattle.fs_script.specs.declared.script.Script.{Script}
use Rattle.fs_sched.specs.Devices.{IsFaultOf, IsSameText}
use Rattle.fs_sched.specs.Origins.{LacksRun, from_root}
use Rattle.fs_sched.specs.Seeds.{lawful_line, IsLawfulOn, AreRunsOf}
use Rattle.fs_sched.specs.declared.policy.Campaign.{Campaign}
use Rattle.fs_verdict.specs.declared.fault.RunFault.{RunFault}
use Rattle.fs_sched.proofs.Origins.{only_memory}
use Rattle.fs_sched.proofs.RunLemmas.{script_same}

pub range_last : (a n : ℕ) → range_with_len a (suc n) ≡ range_with_len a n ++ (a + n) ∷ []
range_last a zero = let same : a ≡ a + 0 = omega arith in ap (λ k. k ∷ []) same
range_last a (suc n) = let same : (a + 1) + n ≡ a + suc n = omega arith in ap (λ l. a ∷ l) (range_last (a + 1) n ∙ ap (λ k. range_with_len (a + 1) n ++ k ∷ []) same)

-- the lines with the next one
pub lines_more : (seed run : ℕ) (lines more : List ℕ) → lines ≡ flat_map lawful_line (range_with_len seed run) → more ≡ lines ++ lawful_line (seed + run) → more ≡ flat_map lawful_line (range_with_len seed (run + 1))
lines_more seed run lines more e m =
    let on : run + 1 ≡ suc run = omega arith in
    let one : flat_map lawful_line ((seed + run) ∷ []) ≡ lawful_line (seed + run) = append-nil (lawful_line (seed + run)) in
    m ∙ ap (λ l. l ++ lawful_line (seed + run)) e ∙ sym (ap (flat_map lawful_line) (ap (range_with_len seed) on ∙ range_last seed run) ∙ flat_map-append lawful_line (range_with_len seed run) ((seed + run) ∷ []) ∙ ap (λ l. flat_map lawful_line (range_with_len seed run) ++ l) one)

-- the runs with the next one
pub each_more : (drawn : Campaign) (script : Script) (seed run : ℕ) → ((n : ℕ) → seed ≤ n → n < seed + run → IsLawfulOn drawn script n) → IsLawfulOn drawn script (seed + run) → (n : ℕ) → seed ≤ n → n < seed + (run + 1) → IsLawfulOn drawn script n
each_more drawn script seed run each next n least below = ⊎_elim (λ e. subst (IsLawfulOn drawn script) (sym e) next) (λ l. each n least l) (eq-or-lt_of_le (omega (arith, below)))

-- from the root alone only memory can be wanting
pub root_fault : (input : List ℕ) (script : Script) (seed runs : ℕ) (fault : RunFault) → LacksRun from_root script seed runs fault → IsFaultOf (script_of input) fault
root_fault input script seed runs fault lacks = subst (IsFaultOf (script_of input)) (sym (only_memory script seed runs fault lacks)) tt

pub known_runs : (r : Option (List ℕ)) (text items out : List ℕ) (seed runs : ℕ) → text ≡ items → IfSome r (IsSameText items) → AreRunsOf seed runs text out → IfSome r (λ input. AreRunsOf seed runs input out)
known_runs None text items out seed runs e s h = tt
known_runs (Some input) text items out seed runs e s h = (h.0, sym (script_same items input s) ∙ sym (ap script_of e) ∙ h.1, h.2)
