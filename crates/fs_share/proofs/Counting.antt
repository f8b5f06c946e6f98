-- How the number of returns in a timeline changes.
use Rattle.std.proofs.Common.{◌≡◌, ℕ, ◌+◌, ◌≤◌, List, [], ◌∷◌, ◌++◌, length, Option, Some, None, Result, Ok, Err, arith, ap}
use Rattle.fs_names.specs.Shapes.{Shape}
use Rattle.fs_calls.specs.Forms.{reserved_by}
use Rattle.fs_calls.specs.declared.call.Call.{Call}
use Rattle.fs_timeline.specs.declared.entry.Entry.{Entry}
use Rattle.fs_timeline.specs.declared.entry.Entry.TheVariants.{Begin, Commit, Return}
use Rattle.fs_machine.specs.States.{State, Begins, Reserves, Step}
use Rattle.fs_machine.specs.declared.answers.Refusal.TheVariants.{OutOfMemory, Full, SeatBusy}
use Rattle.fs_machine.specs.declared.answers.Stepped.{Stepped}
use Rattle.fs_machine.specs.declared.answers.Stepped.TheVariants.{Idle, Took, Busy, LetGo, Helped, Committed, CarriedOut, Returned}
use Rattle.fs_machine.specs.declared.answers.Refusal.{Refusal}
use Rattle.fs_share.specs.Returns.{returns, answered}

pub returns_append : (xs ys : List Entry) → returns (xs ++ ys) ≡ returns xs + returns ys
returns_append [] ys = omega arith
returns_append (Begin c s call ∷ es) ys = returns_append es ys
returns_append (Commit c ∷ es) ys = returns_append es ys
returns_append (Return c r ∷ es) ys = omega (arith, returns_append es ys)

pub returns_le : (xs : List Entry) → returns xs ≤ length xs
returns_le [] = omega arith
returns_le (Begin c s call ∷ es) = omega (arith, returns_le es)
returns_le (Commit c ∷ es) = omega (arith, returns_le es)
returns_le (Return c r ∷ es) = omega (arith, returns_le es)

-- the returns of a state
abbrev count : State → ℕ
count s = returns s.timeline

-- a step adds a return exactly where it answers one
pub step_counts : (s t : State) (seat : ℕ) (a : Stepped) → Step s seat a t → returns t.timeline ≡ returns s.timeline + answered a
step_counts s t seat Idle h = omega (arith, ap count h.1)
step_counts s t seat (Took n) (c, op, moves, free, same) = omega (arith, ap count same)
step_counts s t seat (Busy n d) (c, op, moves, held, same) = omega (arith, ap count same)
step_counts s t seat (LetGo n) (c, op, moves, same) = omega (arith, ap count same)
step_counts s t seat (Helped d) (c, op, m, moves, walking, chosen, q, is, same) = omega (arith, ap count same, returns_append s.timeline (Commit d ∷ []))
step_counts s t seat Committed (c, op, m, moves, walking, none, same) = omega (arith, ap count same, returns_append s.timeline (Commit c ∷ []))
step_counts s t seat CarriedOut (c, op, m, i, moves, placed, same) = omega (arith, ap count same)
step_counts s t seat (Returned r) (c, op, moves, finished, same) = omega (arith, ap count same, returns_append s.timeline (Return c r ∷ []))

reserve_counts : (s t : State) (seat : ℕ) (call : Call) (c : ℕ) (shape : Option Shape) → Reserves s seat call c shape t → returns t.timeline ≡ returns s.timeline
reserve_counts s t seat call c None same = omega (arith, ap count same, returns_append s.timeline (Begin c seat call ∷ []))
reserve_counts s t seat call c (Some shape) (n, less, free, same) = omega (arith, ap count same, returns_append s.timeline (Begin c seat call ∷ []))

-- a begin adds none
pub begin_counts : (s t : State) (seat : ℕ) (call : Call) (r : Result ℕ Refusal) → Begins s seat call r t → returns t.timeline ≡ returns s.timeline
begin_counts s t seat call (Ok c) (free, number, made) = reserve_counts s t seat call c (reserved_by call) made
begin_counts s t seat call (Err OutOfMemory) (free, full, same) = ap count same
begin_counts s t seat call (Err Full) (free, full, same) = ap count same
begin_counts s t seat call (Err SeatBusy) (c, on, same) = ap count same
