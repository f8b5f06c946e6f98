-- The first drawn run that has something.
use Rattle.std.proofs.Common.{◌≡◌, ℕ, ◌+◌, ◌≤◌, ◌<◌, ltb, Bool, true, false, not, List, Option, Some, None, Result, Ok, Err, IfOk, IfSome, refl, subst, arith}
use Rattle.std.proofs.Math.Bool.{beq}
use Rattle.std.proofs.lemmas.Bool.{ltb-true, ltb-false}
use Rattle.fs_script.specs.declared.script.Script.{Script}
use Rattle.fs_sched.specs.Schedules.{schedule_by}
use Rattle.fs_sched.specs.declared.origin.Origin.{Origin}
use Rattle.fs_sched.specs.declared.origin.Origin.TheVariants.{Root}
use Rattle.fs_sched.specs.declared.policy.Campaign.{Campaign}
use Rattle.fs_sched.specs.declared.policy.Policy.{Policy}
use Rattle.fs_sched.proofs.Origins.{lacks_run, no_run}
use Rattle.fs_sched_start.specs.Starts.{ArePlanned}
use Rattle.fs_sched_start.proofs.Starting.{of_runs}
use Rattle.fs_trace.specs.Traces.{IsReadBack, IsReadBackOn}
use Rattle.fs_trace.proofs.Playing.{same_text}
use Rattle.fs_trace.specs.declared.fault.ScheduleFault.{ScheduleFault}
use Rattle.fs_trace.specs.declared.fault.ScheduleFault.TheVariants.{Run, TooManyEvents, TooLong}
use Rattle.fs_sched_find.specs.Faults.{IsFaultOfSearchAt, find_fault_of}
use Rattle.fs_sched_find.specs.Finds.{DrawnHas, IsFoundOn, IsSearchAt}
use Rattle.fs_sched_find.specs.code.Mades.{IsNotWrittenOn}
use Rattle.fs_sched_find.specs.declared.what.Clause.{Clause}

-- one run more that is so
pub each_more : (drawn : Campaign) (b : Bool) (script : Script) (what : List (List Clause)) (seed run : ℕ) → ((k : ℕ) → seed ≤ k → k < seed + run → DrawnHas drawn k script what b) → DrawnHas drawn (seed + run) script what b
    → (k : ℕ) → seed ≤ k → k < seed + (run + 1) → DrawnHas drawn k script what b
each_more drawn b script what seed run each this k low high = go (ltb k (seed + run)) refl
  where
    go : (less : Bool) → ltb k (seed + run) ≡ less → DrawnHas drawn k script what b
    go true t = each k low (ltb-true _ _ t)
    go false f = let here : seed + run ≡ k = omega (arith, ltb-false _ _ f, high) in subst (λ (n : ℕ). DrawnHas drawn n script what b) here this

-- what a test answers is as wanted, or the contrary is so
pub as_wanted : (P : Bool → Type 0) (a b : Bool) → beq a b ≡ true → P a → P b
as_wanted P true true same p = p
as_wanted P true false same p = absurd cc
as_wanted P false true same p = absurd cc
as_wanted P false false same p = p

pub unwanted : (P : Bool → Type 0) (a b : Bool) → beq a b ≡ false → P a → P (not b)
unwanted P true true other p = absurd cc
unwanted P true false other p = p
unwanted P false true other p = p
unwanted P false false other p = absurd cc

-- two things that are said of what was made
pub both_ok : {X F : Type 0} (P Q : X → Type 0) (r : Result X F) → IfOk r P → IfOk r Q → IfOk r (λ x. P x × Q x)
both_ok P Q (Ok x) p q = (p, q)
both_ok P Q (Err fault) p q = tt

-- the run that was found is not written
pub of_found : (tree : Option (List ℕ)) (by : Policy) (what : List (List Clause)) (seed runs : ℕ) (input : List ℕ) (script : Script) (drawn : Campaign) (found : Option ℕ) (fault : ScheduleFault) → ArePlanned tree by input script drawn → IsFoundOn drawn true script what seed runs found
    → IsNotWrittenOn drawn script input found fault → IsFaultOfSearchAt tree by what seed runs input (find_fault_of fault)
of_found tree by what seed runs input script drawn None fault planned first none = absurd none
of_found tree by what seed runs input script drawn (Some n) (Run fault) planned first none = of_runs tree by seed runs input script drawn fault planned (lacks_run drawn script seed runs n fault first.from first.below (no_run drawn n script fault none))
of_found tree by what seed runs input script drawn (Some n) TooManyEvents planned first none = (script, drawn, planned, n, first, none)
of_found tree by what seed runs input script drawn (Some n) TooLong planned first none = (script, drawn, planned, n, first, none)

-- from the root alone the script that was found has the text of that run
pub again_at_root : (tree : Option (List ℕ)) (by : Policy) (what : List (List Clause)) (seed runs : ℕ) (input : List ℕ) (found : Option ℕ) (text : List ℕ) → tree ≡ None → IsSearchAt tree by what seed runs input found text → IfSome found (λ n. IsReadBack (schedule_by by n) input text)
again_at_root None by what seed runs input None text root search = tt
again_at_root None by what seed runs input (Some n) text root (script, drawn, planned, names, first, written) =
    same_text (schedule_by by n) input text script planned.0
    (subst (λ (p : Policy). IsReadBackOn Root (schedule_by p n) script text) planned.2 (subst (λ (at : Origin). IsReadBackOn at (schedule_by drawn.by n) script text) planned.1 written.1))
again_at_root (Some given) by what seed runs input found text root search = absurd (cc)
