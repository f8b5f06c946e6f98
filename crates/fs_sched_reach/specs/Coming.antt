-- How far the moments of a run bring a call of a thread.
use Rattle.std.specs.Prelude.{ℕ, ◌-◌, ◌==◌, Bool, true, false, List, [], ◌∷◌, Option, Some, None, if◌then◌else◌}
use Rattle.std.specs.List.{list_any}
use Rattle.fs_machine.specs.declared.answers.Stepped.{Stepped}
use Rattle.fs_machine.specs.declared.answers.Stepped.TheVariants as step
use Rattle.fs_sched_witness.specs.declared.moments.Answer.{Answer}
use Rattle.fs_sched_witness.specs.declared.moments.Answer.TheVariants.{Spent, Begun, Stepped as StepOf}
use Rattle.fs_sched_witness.specs.declared.moments.Moment.{Moment}
use Rattle.fs_sched_witness.specs.declared.moments.Moment.TheVariants.{Event, Checkpoint}
use Rattle.fs_sched_reach.specs.declared.target.Target.{Target}

-- the number that a call gets when an event is answered so, if one begins
abbrev pub number_begun : Answer → Option ℕ
number_begun Spent = None
number_begun (Begun c) = Some c
number_begun (StepOf s) = None

-- the number of the call of a thread that begins at a moment, if one does
abbrev pub begun_at : ℕ → Moment → Option ℕ
begun_at seat (Event t) = if t.seat == seat then number_begun t.answer else None
begun_at seat (Checkpoint entries) = None

-- a step of its own call, or of another's, is the commit of the call with this number
abbrev pub is_commit_step : Bool → ℕ → Stepped → Bool
is_commit_step own c step.Idle = false
is_commit_step own c (step.Took n) = false
is_commit_step own c (step.Busy n d) = false
is_commit_step own c (step.LetGo n) = false
is_commit_step own c (step.Helped d) = d == c
is_commit_step own c step.Committed = own
is_commit_step own c step.CarriedOut = false
is_commit_step own c (step.Returned r) = false

abbrev pub is_commit_answer : Bool → ℕ → Answer → Bool
is_commit_answer own c Spent = false
is_commit_answer own c (Begun d) = false
is_commit_answer own c (StepOf s) = is_commit_step own c s

-- a moment is the commit of the call of a thread that is under way with this number: by a step of its own, or of a call that helped it
abbrev pub is_commit : ℕ → ℕ → Moment → Bool
is_commit seat c (Event t) = is_commit_answer (t.seat == seat) c t.answer
is_commit seat c (Checkpoint entries) = false

-- the number that the k-th call of a thread gets, and the moments after its begin, if it begins
abbrev pub begin_of : ℕ → ℕ → List Moment → Option (ℕ × List Moment)
begin_of seat k [] = None
begin_of seat k (m ∷ ms) = elim (begun_at seat m) [ None ↦ begin_of seat k ms | Some c ↦ if k == 1 then Some (c, ms) else begin_of seat (k - 1) ms ]

-- a call that began so has come as far as it is to
abbrev pub has_come_from : Target → Option (ℕ × List Moment) → Bool
has_come_from target None = false
has_come_from target (Some begun) = if target.to_commit then list_any (is_commit target.seat begun.0) begun.1 else true

-- by these moments the call has begun; or it has its commit, if it is to come to that
abbrev pub has_come : Target → List Moment → Bool
has_come target ms = has_come_from target (begin_of target.seat target.call ms)
