-- Calls that are named, where earlier ones of their blocks went.
use Rattle.std.specs.Prelude.{ℕ, zero, suc, ◌+◌, ◌-◌, ◌==◌, Bool, false, ◌||◌, List, take, drop, map, get_or, Option, Some, None, if◌then◌else◌}
use Rattle.std.specs.List.{list_any}
use Rattle.fs_calls.specs.declared.call.Call.{Call}
use Rattle.fs_script.specs.Limits.{calls_in}
use Rattle.fs_script.specs.Script.{seat_named}
use Rattle.fs_script.specs.declared.script.Script.{Script}
use Rattle.fs_sched_find.specs.declared.what.CallName.{CallName}
use Rattle.fs_sched_find.specs.declared.what.Condition.{Condition}
use Rattle.fs_sched_find.specs.declared.what.Condition.TheVariants.{Reply, Fails, Line, Helped, Waits, Before, Overlap}
use Rattle.fs_sched_find.specs.declared.what.Clause.{Clause}

-- how many of the first so many flags are true
abbrev pub kept_count : ℕ → List Bool → ℕ
kept_count zero kept = 0
kept_count (suc n) kept = (if get_or kept 0 false then 1 else 0) + kept_count n (drop 1 kept)

-- how many calls stand before the block on a seat
abbrev pub calls_before : List (List Call) → ℕ → ℕ
calls_before lists seat = calls_in (take seat lists)

-- ---- the new place of a call

-- among the calls of its block that stay
abbrev pub place_at : List Bool → List (List Call) → ℕ → Option ℕ → ℕ
place_at kept lists place None = place
place_at kept lists place (Some seat) = kept_count place (drop (calls_before lists seat) kept)

-- a call of a script, by its new place
abbrev pub moved_call : List Bool → Script → CallName → CallName
moved_call kept script call = record call { place = place_at kept script.lists call.place (seat_named script.names call.thread) }

abbrev pub moved_condition : List Bool → Script → Condition → Condition
moved_condition kept script (Reply call r) = Reply (moved_call kept script call) r
moved_condition kept script (Fails call) = Fails (moved_call kept script call)
moved_condition kept script (Line line) = Line line
moved_condition kept script (Helped call) = Helped (moved_call kept script call)
moved_condition kept script (Waits call) = Waits (moved_call kept script call)
moved_condition kept script (Before call other) = Before (moved_call kept script call) (moved_call kept script other)
moved_condition kept script (Overlap call other) = Overlap (moved_call kept script call) (moved_call kept script other)

abbrev pub moved_clause : List Bool → Script → Clause → Clause
moved_clause kept script clause = record clause { condition = moved_condition kept script clause.condition }

abbrev pub moved_clauses : List Bool → Script → List Clause → List Clause
moved_clauses kept script clauses = map (moved_clause kept script) clauses

-- what is said, with its calls by their new places
abbrev pub moved : List Bool → Script → List (List Clause) → List (List Clause)
moved kept script what = map (moved_clauses kept script) what

-- ---- which calls are named

-- a call's index among all calls, in the order of the blocks, where this is its block
abbrev pub index_at : List (List Call) → ℕ → Option ℕ → Option ℕ
index_at lists place None = None
index_at lists place (Some seat) = Some (calls_before lists seat + (place - 1))

abbrev pub is_index : ℕ → Option ℕ → Bool
is_index at None = false
is_index at (Some index) = index == at

-- whether this is the index of a call
abbrev pub is_call : Script → ℕ → CallName → Bool
is_call script at call = is_index at (index_at script.lists call.place (seat_named script.names call.thread))

-- of one that a condition names
abbrev pub is_named_by : Script → ℕ → Condition → Bool
is_named_by script at (Reply call r) = is_call script at call
is_named_by script at (Fails call) = is_call script at call
is_named_by script at (Line line) = false
is_named_by script at (Helped call) = is_call script at call
is_named_by script at (Waits call) = is_call script at call
is_named_by script at (Before call other) = is_call script at call || is_call script at other
is_named_by script at (Overlap call other) = is_call script at call || is_call script at other

-- of one that a clause names
abbrev pub is_named_in : Script → ℕ → List Clause → Bool
is_named_in script at clauses = list_any (λ (clause : Clause). is_named_by script at clause.condition) clauses

-- of one that is named
abbrev pub is_named : Script → List (List Clause) → ℕ → Bool
is_named script what at = list_any (is_named_in script at) what
