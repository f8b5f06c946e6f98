-- What is told of helping and of waiting calls beside the laws.
use Rattle.std.specs.Prelude.{ℕ, ◌≡◌, ◌≢◌, ◌+◌, ◌≤◌, ◌⊎◌, None, Some, length}
use Rattle.fs_names.specs.Keys.{Key}
use Rattle.fs_nodes.specs.Graphs.{numbers}
use Rattle.fs_timeline.specs.Timeline.{due}
use Rattle.fs_machine.specs.Records.{Placed, Holdings, Record}
use Rattle.fs_machine.specs.States.{State, Step}
use Rattle.fs_machine.specs.declared.answers.Stepped.{Stepped}
use Rattle.fs_machine.specs.declared.answers.Stepped.TheVariants.{Busy}
use Rattle.fs_laws.specs.Progress.{WaitsFor, GoesOn}

-- what a placed call is to reply stays what it is through each step, whoever's it is
abbrev pub RepliesStay : State → Type 0
RepliesStay s = (c i seat : ℕ) (op : Record) (answer : Stepped) (new : State) → s.ops c ≡ Some op → op.phase ≡ Placed i → Step s seat answer new → due new.start c new.timeline ≡ due s.start c s.timeline

-- a call whose node is held is told of another call, not of itself
abbrev pub NamesAnother : State → Type 0
NamesAnother s = (seat n d : ℕ) (new : State) → Step s seat (Busy n d) new → s.on_seat seat ≢ Some d

-- how deep a call stands: above all where it holds nothing, else below as many names as lead to its position
abbrev pub StandsAt : State → Record → ℕ → Type 0
StandsAt s op depth = ((op.holdings ≡ None) × (depth ≡ 0)) ⊎ ((st : Holdings) × (key : Key) × (op.holdings ≡ Some st) × (numbers s.graph key ≡ Some st.node) × (depth ≡ length key + 1))

-- a call that waits for another one, and how deep it stands
pub record WaitsAt (s : State) (c d depth : ℕ) : Type 0 where
  pub op : Record
  pub waits : WaitsFor s c d op
  pub stands : StandsAt s op depth

-- a call's next step lets it go on
pub record CanGoOn (s : State) (d : ℕ) : Type 0 where
  pub op : Record
  pub is : s.ops d ≡ Some op
  pub answer : Stepped
  pub new : State
  pub step : Step s op.seat answer new
  pub goes_on : GoesOn answer

-- a call that waits, and no waiting call stands deeper, waits for one that can go on
abbrev pub DeepestWaitsForOneThatGoesOn : State → Type 0
DeepestWaitsForOneThatGoesOn s = (c d depth : ℕ) → WaitsAt s c d depth → ((e f other : ℕ) → WaitsAt s e f other → other ≤ depth) → CanGoOn s d
