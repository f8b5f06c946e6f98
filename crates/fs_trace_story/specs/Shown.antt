-- Which moments of a run are shown: each event, or those that tell something new; and each checkpoint.
use Rattle.std.specs.Prelude.{ℕ, map, Bool, true, false, ◌==◌, ◌&&◌, ◌||◌, not, ◌+◌, List, [], ◌∷◌, ◌++◌, Option, Some, None, if◌then◌else◌}
use Rattle.fs_machine.specs.declared.answers.Stepped.{Stepped}
use Rattle.fs_machine.specs.declared.answers.Stepped.TheVariants as step
use Rattle.fs_trace_story.specs.declared.page.Deed.{Deed}
use Rattle.fs_trace_story.specs.declared.page.Deed.TheVariants as deed
use Rattle.fs_trace_story.specs.declared.page.Line.{Line}
use Rattle.fs_trace_story.specs.declared.story.Story.{Story}
use Rattle.fs_sched_witness.specs.declared.moments.Answer.{Answer}
use Rattle.fs_sched_witness.specs.declared.moments.Answer.TheVariants.{Spent, Begun, Stepped as OfStep}
use Rattle.fs_sched_witness.specs.declared.moments.Moment.{Moment}
use Rattle.fs_sched_witness.specs.declared.moments.Moment.TheVariants.{Event, Checkpoint}
use Rattle.fs_sched_witness.specs.declared.moments.Told.{Told}

-- what an event waited for, where it waited: the node, and the call that holds it
abbrev pub wait_of : Answer → Option (ℕ × ℕ)
wait_of (OfStep (step.Busy node holder)) = Some (node, holder)
wait_of answer = None

-- what the last event of a thread waited for, of events that are listed from the latest to the first
abbrev pub last_wait : List Told → ℕ → Option (ℕ × ℕ)
last_wait [] seat = None
last_wait (t ∷ before) seat = if t.seat == seat then wait_of t.answer else last_wait before seat

-- whether a wait is for this node, which this call holds
abbrev pub is_wait_for : ℕ → ℕ → Option (ℕ × ℕ) → Bool
is_wait_for node holder (Some wait) = (wait.0 == node) && (wait.1 == holder)
is_wait_for node holder None = false

-- whether an event tells something new, whose thread waited last for this: it is no idle turn, and no repeated wait
abbrev pub is_news : Option (ℕ × ℕ) → Answer → Bool
is_news last Spent = false
is_news last (OfStep (step.Busy node holder)) = not (is_wait_for node holder last)
is_news last answer = true

-- a moment, where it is shown, with the number that an event has there: each event where every one is asked for, else one that tells something new
abbrev pub shown_one : Bool → List Told → ℕ → Moment → List (ℕ × Moment)
shown_one every before number (Event t) = if every || is_news (last_wait before t.seat) t.answer then (number, Event t) ∷ [] else []
shown_one every before number (Checkpoint entries) = (number, Checkpoint entries) ∷ []

-- the events up to a moment, from the latest to the first
abbrev pub with_moment : List Told → Moment → List Told
with_moment before (Event t) = t ∷ before
with_moment before (Checkpoint entries) = before

-- the number of the next event behind a moment
abbrev pub number_after : ℕ → Moment → ℕ
number_after number (Event t) = number + 1
number_after number (Checkpoint entries) = number

-- the moments that are shown behind others, with their numbers
abbrev pub shown_from : Bool → List Told → ℕ → List Moment → List (ℕ × Moment)
shown_from every before number [] = []
shown_from every before number (m ∷ ms) = shown_one every before number m ++ shown_from every (with_moment before m) (number_after number m) ms

-- the moments of a run that are shown; events are numbered from 1
abbrev pub shown : Bool → List Moment → List (ℕ × Moment)
shown every ms = shown_from every [] 1 ms

-- what a step did
abbrev pub deed_of_step : Stepped → Deed
deed_of_step step.Idle = deed.Idles
deed_of_step (step.Took node) = deed.Takes node
deed_of_step (step.Busy node holder) = deed.Waits node holder
deed_of_step (step.LetGo node) = deed.LetsGo node
deed_of_step (step.Helped call) = deed.Helps call
deed_of_step step.Committed = deed.Commits
deed_of_step step.CarriedOut = deed.CarriesOut
deed_of_step (step.Returned reply) = deed.Returns

-- what an event did
abbrev pub deed_of : Answer → Deed
deed_of Spent = deed.Idles
deed_of (Begun call) = deed.Begins
deed_of (OfStep answer) = deed_of_step answer

-- what a moment did
abbrev pub deed_at : Moment → Deed
deed_at (Event t) = deed_of t.answer
deed_at (Checkpoint entries) = deed.Checkpoint

-- the seat of its thread, of an event
abbrev pub seat_at : Moment → Option ℕ
seat_at (Event t) = Some t.seat
seat_at (Checkpoint entries) = None

-- what is told of a moment that is shown: its number, the seat of its thread, and what it did
abbrev pub Saying : Type 0
Saying = ℕ × (Option ℕ × Deed)

-- the same of a numbered moment
abbrev pub deed_told : ℕ × Moment → Saying
deed_told event = (event.0, (seat_at event.1, deed_at event.1))

-- what a line says of its moment
abbrev pub deed_shown : Line → Saying
deed_shown line = (line.number, (line.seat, line.deed))

-- what has something told has this told besides
abbrev pub Adds : {P : Type 0} → (P → P → List Saying → Type 0) → P → List Saying → P → Type 0
Adds has old more new = (start : _) (told : List Saying) → has start old told → has start new (told ++ more)

-- a story's page has told what is to be shown of moments, and nothing else
abbrev pub Tells : {P : Type 0} → (P → P → List Saying → Type 0) → Bool → P → Story P → List Moment → Type 0
Tells has every start story ms = has start story.page (map deed_told (shown every ms))
