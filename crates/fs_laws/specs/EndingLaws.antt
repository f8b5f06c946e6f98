-- What holds of the end of calls: laws, each proved as the contract of a function of the module `endings`.
use Rattle.fs_machine.specs.States.{State, Run}
use Rattle.fs_laws.specs.Endings.{HasFewSteps, CanEnd}

-- over every run: whoever steps calls on, of whichever seats and in whatever order, comes to an end within the bound
abbrev pub StepsAreFew : Type 0
StepsAreFew = (s : State) → Run s → HasFewSteps s

-- over every run: some steps lead to the ends of all calls under way
abbrev pub CallsCanEnd : Type 0
CallsCanEnd = (s : State) → Run s → CanEnd s
