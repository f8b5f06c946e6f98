-- The steps of calls under way are few, and lead to the ends of all.
use Rattle.std.proofs.Common.{◌≡◌, ℕ, zero, suc, ◌+◌, ◌<◌, ◌≤◌, ltb, Bool, true, false, ◌⊎◌, inl, inr, Option, Some, None, refl, sym, subst, arith}
use Rattle.std.proofs.lemmas.Bool.{ltb-true, ltb-false}
use Rattle.fs_timeline.specs.Timeline.{begins}
use Rattle.fs_machine.specs.Headline.{IsIdle}
use Rattle.fs_machine.specs.Records.{Record}
use Rattle.fs_machine.specs.States.{State, Run, Stepping}
use Rattle.fs_laws.specs.Progress.{SomebodyGoesOn}
use Rattle.fs_laws.specs.StepsLeft.{steps_left}
use Rattle.fs_laws.proofs.states.GraphOfARun.{begun_before}
use Rattle.fs_laws.proofs.states.StepsTakeWork.{takes_work}
use Rattle.fs_laws.proofs.states.Waiters.{never_stuck}
use Rattle.fs_laws.specs.Endings.{Steps, NoStep, OneMore, HasFewSteps, CanEnd}

few_before : (new s : State) → Run s → (n : ℕ) → Steps new n s → n ≤ steps_left s
few_before new s run _ NoStep = omega arith
few_before new s run _ (OneMore seat answer middle n step goes_on rest) =
    let one : steps_left middle + 1 ≤ steps_left s = takes_work s run seat answer middle step goes_on in
    let more : n ≤ steps_left middle = few_before new middle (Stepping seat answer middle run step) n rest in
    omega (arith, one, more)

pub few_steps : (s : State) → Run s → HasFewSteps s
few_steps s run n new steps = few_before new s run n steps

-- a call under way
record UnderWay (s : State) : Type 0 where
  call : ℕ
  op : Record
  is : s.ops call ≡ Some op

last_or_below : (c n : ℕ) → c ≤ suc n → (c ≤ n) ⊎ (c ≡ suc n)
last_or_below c n less = by (ltb n c) refl
  where
    by : (b : Bool) → ltb n c ≡ b → (c ≤ n) ⊎ (c ≡ suc n)
    by true e = let above : n < c = ltb-true n c e in inr (omega (arith, above, less))
    by false e = inl (ltb-false n c e)

-- of the calls up to a number one is under way, or none
look_up_to : (s : State) (n : ℕ) → UnderWay s ⊎ ((c : ℕ) → c ≤ n → s.ops c ≡ None)
look_up_to s zero = at (s.ops 0) refl
  where
    at : (o : Option Record) → s.ops 0 ≡ o → UnderWay s ⊎ ((c : ℕ) → c ≤ 0 → s.ops c ≡ None)
    at (Some op) e = inl (record { call = 0; op = op; is = e })
    at None e = inr (λ c less. let same : c ≡ 0 = omega (arith, less) in subst (λ (k : ℕ). s.ops k ≡ None) (sym same) e)
look_up_to s (suc n) = at (look_up_to s n) (s.ops (suc n)) refl
  where
    at : UnderWay s ⊎ ((c : ℕ) → c ≤ n → s.ops c ≡ None) → (o : Option Record) → s.ops (suc n) ≡ o → UnderWay s ⊎ ((c : ℕ) → c ≤ suc n → s.ops c ≡ None)
    at (inl found) o e = inl found
    at (inr none) (Some op) e = inl (record { call = suc n; op = op; is = e })
    at (inr none) None e = inr (λ c less. split c (last_or_below c n less))
      where
        split : (c : ℕ) → (c ≤ n) ⊎ (c ≡ suc n) → s.ops c ≡ None
        split c (inl below) = none c below
        split c (inr same) = subst (λ (k : ℕ). s.ops k ≡ None) (sym same) e

-- in a state of a run one is under way, or none
under_way : (s : State) → Run s → UnderWay s ⊎ IsIdle s
under_way s run = at (look_up_to s (begins s.timeline))
  where
    at : UnderWay s ⊎ ((c : ℕ) → c ≤ begins s.timeline → s.ops c ≡ None) → UnderWay s ⊎ IsIdle s
    at (inl found) = inl found
    at (inr none) = inr (λ c. idle c (s.ops c) refl)
      where
        idle : (c : ℕ) (o : Option Record) → s.ops c ≡ o → s.ops c ≡ None
        idle c None e = e
        idle c (Some op) e = none c (begun_before s c op run e)

-- so many steps are enough
ends_within : (most : ℕ) (s : State) → Run s → steps_left s ≤ most → UnderWay s ⊎ IsIdle s → CanEnd s
ends_within most s run within (inr idle) = record { count = 0; new = s; steps = NoStep; idle = idle }
ends_within zero s run within (inl found) =
    let go : SomebodyGoesOn s = never_stuck s run found.call found.op found.is in
    let one : steps_left go.new + 1 ≤ steps_left s = takes_work s run go.seat go.answer go.new go.step go.goes_on in
    absurd (omega (arith, one, within))
ends_within (suc most) s run within (inl found) =
    let go : SomebodyGoesOn s = never_stuck s run found.call found.op found.is in
    let one : steps_left go.new + 1 ≤ steps_left s = takes_work s run go.seat go.answer go.new go.step go.goes_on in
    let later : Run go.new = Stepping go.seat go.answer go.new run go.step in
    let rest : CanEnd go.new = ends_within most go.new later (omega (arith, one, within)) (under_way go.new later) in
    record { count = suc rest.count; new = rest.new; steps = OneMore go.seat go.answer go.new rest.count go.step go.goes_on rest.steps; idle = rest.idle }

pub can_end : (s : State) → Run s → CanEnd s
can_end s run = ends_within (steps_left s) s run (omega arith) (under_way s run)
