-- Steps by which calls go on to their ends.
use Rattle.std.specs.Prelude.{ℕ, suc, ◌≤◌}
use Rattle.fs_machine.specs.Headline.{IsIdle}
use Rattle.fs_machine.specs.States.{State, Step}
use Rattle.fs_machine.specs.declared.answers.Stepped.{Stepped}
use Rattle.fs_laws.specs.Progress.{GoesOn}
use Rattle.fs_laws.specs.StepsLeft.{steps_left}

-- so many steps, each of some seat, by each of which a call goes on; no call begins meanwhile
pub data Steps (new : State) : ℕ → State → Type 0 where
  NoStep : Steps new 0 new
  OneMore : {s : State} (seat : ℕ) (answer : Stepped) (middle : State) (n : ℕ) → Step s seat answer middle → GoesOn answer → Steps new n middle → Steps new (suc n) s

-- whichever seats are chosen, there are no more steps than the bound on those that are left
abbrev pub HasFewSteps : State → Type 0
HasFewSteps s = (n : ℕ) (new : State) → Steps new n s → n ≤ steps_left s

-- some steps lead where no call is under way
pub record CanEnd (s : State) : Type 0 where
  pub count : ℕ
  pub new : State
  pub steps : Steps new count s
  pub idle : IsIdle new
