-- What holds up to a renaming of node numbers: laws, each proved as the contract of a function of the module `numbers`.
use Rattle.std.specs.Prelude.{ℕ, ◌+◌, ◌≤◌, length}
use Rattle.fs_calls.specs.Graphs.{used_below}
use Rattle.fs_timeline.specs.Timeline.{begins}
use Rattle.fs_machine.specs.States.{State, Run, Step, begun_again}
use Rattle.fs_machine.specs.Headline.{IsIdle}
use Rattle.fs_machine.specs.declared.answers.Stepped.{Stepped}
use Rattle.fs_laws.specs.Agreement.{PartsAgree}
use Rattle.fs_laws.specs.Holdings.{HoldsFour}
use Rattle.fs_laws.specs.Numbers.{NumbersAreKept}
use Rattle.fs_laws.specs.Twins.{Twins, AreOne}
use Rattle.fs_laws.specs.Renamings.{Renaming, renamed, renamed_answer}

-- in every state, of a run or not: a step, with all numbers renamed, is a step
abbrev pub StepsRename : Type 0
StepsRename = (r : Renaming) (s new : State) (seat : ℕ) (answer : Stepped) → Step s seat answer new → Step (renamed r s) seat (renamed_answer r answer) (renamed r new)

-- over every run no number leaks
abbrev pub NoNumberLeaks : Type 0
NoNumberLeaks = (s : State) → Run s → NumbersAreKept s

-- two runs by the same seats and calls have one timeline and one spelled tree
abbrev pub TwinsAreOne : Type 0
TwinsAreOne = (a b : State) → Twins a b → AreOne a b

-- over every run no more numbers are in use than the start tree has nodes, and one for each call that began
abbrev pub NumbersAreCounted : Type 0
NumbersAreCounted = (s : State) → Run s → used_below s.graph.shape s.limit ≤ begins s.timeline + length s.start.tree

-- where no call is under way, a timeline can begin again at the tree that it plays, by the same limits
abbrev pub TimelinesBeginAgain : Type 0
TimelinesBeginAgain = (s : State) → Run s → IsIdle s → Run (begun_again s)

-- over every run each call holds at most four nodes
abbrev pub FourAreHeld : Type 0
FourAreHeld = (s : State) → Run s → HoldsFour s

-- over every run the parts of a state agree
abbrev pub StatesAgree : Type 0
StatesAgree = (s : State) → Run s → PartsAgree s
