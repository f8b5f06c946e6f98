-- What a run told of its threads' calls.
use Rattle.std.specs.Prelude.{ℕ, ◌+◌, ◌-◌, ◌==◌, Bool, true, false, List, [], ◌∷◌, ◌++◌, length, Option, Some, None, fold, slice_index, if◌then◌else◌}
use Rattle.fs_calls.specs.declared.reply.Reply.{Reply}
use Rattle.fs_machine.specs.declared.answers.Stepped.{Stepped}
use Rattle.fs_machine.specs.declared.answers.Stepped.TheVariants as step
use Rattle.fs_sched_witness.specs.declared.moments.Answer.{Answer}
use Rattle.fs_sched_witness.specs.declared.moments.Answer.TheVariants.{Spent, Begun, Stepped as StepOf}
use Rattle.fs_sched_witness.specs.declared.moments.Moment.{Moment}
use Rattle.fs_sched_witness.specs.declared.moments.Moment.TheVariants.{Event, Checkpoint}

-- of the calls that began since the last checkpoint the seats, in order: a call's number is its place among them;
-- of all begins the seats, and how many calls had returned then; of all commits whose seats' calls they are, and whether another call's step was it;
-- of all waits the seat, and how many calls had returned then; of all returns the seats, and the replies
pub record Lived : Type 0 where
  pub owners : List ℕ
  pub begin_seats : List ℕ
  pub returned_before : List ℕ
  pub waits : List (ℕ × ℕ)
  pub commit_seats : List ℕ
  pub helped : List Bool
  pub reply_seats : List ℕ
  pub replies : List Reply

-- before the first moment
abbrev pub unlived : Lived
unlived = record { owners = []; begin_seats = []; returned_before = []; waits = []; commit_seats = []; helped = []; reply_seats = []; replies = [] }

-- behind a commit of the call on a seat
abbrev pub with_commit : Lived → ℕ → Bool → Lived
with_commit l seat helped = record l { commit_seats = l.commit_seats ++ seat ∷ []; helped = l.helped ++ helped ∷ [] }

-- behind a begin on a seat
abbrev pub with_begin : Lived → ℕ → Lived
with_begin l seat = record l { owners = l.owners ++ seat ∷ []; begin_seats = l.begin_seats ++ seat ∷ []; returned_before = l.returned_before ++ length l.replies ∷ [] }

-- behind a step of the call on a seat
abbrev pub with_step : Lived → ℕ → Stepped → Lived
with_step l seat step.Idle = l
with_step l seat (step.Took n) = l
with_step l seat (step.Busy n c) = record l { waits = l.waits ++ (seat, length l.replies) ∷ [] }
with_step l seat (step.LetGo n) = l
with_step l seat (step.Helped c) = with_commit l (slice_index l.owners (c - 1)) true
with_step l seat step.Committed = with_commit l seat false
with_step l seat step.CarriedOut = l
with_step l seat (step.Returned r) = record l { reply_seats = l.reply_seats ++ seat ∷ []; replies = l.replies ++ r ∷ [] }

-- behind an event of the thread on a seat
abbrev pub with_answer : Lived → ℕ → Answer → Lived
with_answer l seat Spent = l
with_answer l seat (Begun c) = with_begin l seat
with_answer l seat (StepOf s) = with_step l seat s

-- behind a moment: at a checkpoint the numbers of calls begin again
abbrev pub with_moment : Lived → Moment → Lived
with_moment l (Event t) = with_answer l t.seat t.answer
with_moment l (Checkpoint entries) = record l { owners = [] }

-- behind all moments of a run
abbrev pub lived : List Moment → Lived
lived ms = fold with_moment unlived ms

-- from an index on, where a seat stands in a list for the so-manieth time
unfoldable pub nth_from : ℕ → ℕ → ℕ → List ℕ → Option ℕ
nth_from at seat place [] = None
nth_from at seat place (s ∷ seats) = if s == seat then (if place == 1 then Some at else nth_from (at + 1) seat (place - 1) seats) else nth_from (at + 1) seat place seats
