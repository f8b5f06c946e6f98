-- What holds of the machine: laws, each proved as the contract of a function of the module `laws`.
use Rattle.std.specs.Prelude.{◌≡◌, ℕ, List}
use Rattle.fs_names.specs.Keys.{Key}
use Rattle.fs_names.specs.Shapes.{Shape}
use Rattle.fs_names.specs.declared.limits.Limits.{Limits}
use Rattle.fs_calls.specs.Forms.{form, Form, Fits}
use Rattle.fs_laws.specs.Maps.{Map}
use Rattle.fs_laws.specs.Changes.{Change, outcome, changed, reply, after}
use Rattle.fs_calls.specs.Outcomes as tree
use Rattle.fs_calls.specs.Sights.{tree_shapes}
use Rattle.fs_calls.specs.Tree.{Tree, IsTree}
use Rattle.fs_calls.specs.declared.call.Call.{Call}
use Rattle.fs_laws.specs.Below.{NoWalkingBelow, NoLaterBelow, NobodyBetween, Settles, PlacesAreCounted, NeverWaitsToFinish, HelpsAreFew}
use Rattle.fs_laws.specs.Placed.{InPlace, Passes, PastAll, rekey_all}
use Rattle.fs_laws.specs.Progress.{HasStep, WaitsBelow, IsNeverStuck}
use Rattle.fs_laws.specs.StepsLeft.{TakesWork, AddsWork}
use Rattle.fs_laws.specs.OneCall.{MeetsTreeAlone}
use Rattle.fs_machine.specs.States.{State, Run}
use Rattle.fs_machine.specs.Headline.{Linearizes}

-- a call that finishes goes past all placed calls
abbrev pub GoesPastAll : Type 0
GoesPastAll = (tree : Map Shape) (w : Form) (ch : Change) (ps : List (Key × Form))
    → (outcome tree w).1 ≡ ch → Fits w → InPlace tree ps → Passes tree w ch ps
    → InPlace (changed ch tree) (rekey_all ch ps) → PastAll tree w ch ps

-- a tree that is seen as a map answers each call as the map does, and leaves what the map leaves
abbrev pub TreesAsMaps : Type 0
TreesAsMaps = (limits : Limits) (t : Tree) (call : Call) → IsTree t → (tree.reply limits t call ≡ reply (tree_shapes t) (form limits call)) × (tree_shapes (tree.after limits t call) ≡ after (tree_shapes t) (form limits call))

-- the linearization theorem: over every run the timeline is lawful, and at rest the nodes spell the tree that it plays
abbrev pub Linearization : Type 0
Linearization = (s : State) → Run s → Linearizes s

-- over every run: no walking call is below a placed one
abbrev pub PlacedGoFirst : Type 0
PlacedGoFirst = (s : State) → Run s → NoWalkingBelow s

-- no placed call is below one placed earlier
abbrev pub EarlierGoFirst : Type 0
EarlierGoFirst = (s : State) → Run s → NoLaterBelow s

-- no other call holds a node between a rename's or an exchange's common directory and its heads
abbrev pub HeadsStandClear : Type 0
HeadsStandClear = (s : State) → Run s → NobodyBetween s

-- the placed calls, each gone on alone in the order of their commits, leave nodes that spell the tree that the commits play, and each replies what is due to its place
abbrev pub PlacedSettle : Type 0
PlacedSettle = (s : State) → Run s → Settles s

-- the place that a placed call's phase tells is the number of commits before its own in the timeline
abbrev pub PlacesAreTold : Type 0
PlacesAreTold = (s : State) → Run s → PlacesAreCounted s

-- in every state, of a run or not: a step of a walking call that is to finish helps, or commits
abbrev pub FinishNeverWaits : Type 0
FinishNeverWaits = (s : State) → NeverWaitsToFinish s

-- while a rename or an exchange is about to move nodes, no event brings a walking call below them, and each call that it helps is helped once: there are at most as many as walked below the nodes at first
abbrev pub HelpsAreBounded : Type 0
HelpsAreBounded = (s : State) → Run s → HelpsAreFew s

-- over every run each seat has a step
abbrev pub EachSeatSteps : Type 0
EachSeatSteps = (s : State) → Run s → (seat : ℕ) → HasStep s seat

-- who waits for a call that waits itself stands above it
abbrev pub WaitersStandAbove : Type 0
WaitersStandAbove = (s : State) → Run s → WaitsBelow s

-- and so, where a call is under way, some seat's step neither waits nor idles
abbrev pub SomeCallGoesOn : Type 0
SomeCallGoesOn = (s : State) → Run s → IsNeverStuck s

-- each step by which a call goes on takes one or more from a bound on the steps that are left; the other steps leave the state
abbrev pub StepsTakeWork : Type 0
StepsTakeWork = (s : State) → Run s → TakesWork s

-- a begin adds to it what the call's names ask
abbrev pub BeginsAddWork : Type 0
BeginsAddWork = (s : State) → Run s → AddsWork s

-- a call that is begun with no other under way, and stepped to its end, replies and changes as the sequential tree says
abbrev pub CallsMeetTheTree : Type 0
CallsMeetTheTree = (s : State) → Run s → MeetsTreeAlone s
