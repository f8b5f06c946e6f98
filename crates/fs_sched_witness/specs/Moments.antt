-- Moments, and who was told of them.
use Rattle.std.specs.Prelude.{ℕ, List, [], ◌++◌}
use Rattle.std.specs.List.{flat_map}
use Rattle.fs_timeline.specs.declared.entry.Entry.{Entry}
use Rattle.fs_sched_witness.specs.declared.moments.Answer.{Answer}
use Rattle.fs_sched_witness.specs.declared.moments.Answer.TheVariants.{Spent}
use Rattle.fs_sched_witness.specs.declared.moments.Moment.{Moment}
use Rattle.fs_sched_witness.specs.declared.moments.Moment.TheVariants.{Event, Checkpoint}

-- an event of a thread, answered this
abbrev pub event_of : ℕ → Answer → Moment
event_of seat answer = Event (record { seat = seat; answer = answer })

-- one of a thread that has nothing to do any more
abbrev pub spent_of : ℕ → Moment
spent_of seat = event_of seat Spent

-- the entries that end at a moment
abbrev pub entries_of : Moment → List Entry
entries_of (Event t) = []
entries_of (Checkpoint entries) = entries.items

-- those of the pieces that end at these moments
abbrev pub entries_told : List Moment → List Entry
entries_told ms = flat_map entries_of ms

-- who was told some moments was then told these
abbrev pub Hears : {A : Type 0} → (A → A → List Moment → Type 0) → A → List Moment → A → Type 0
Hears told old ms new = (first : _) (before : List Moment) → told first old before → told first new (before ++ ms)
