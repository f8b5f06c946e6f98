-- Calls that meet: both are pending at once.
use Rattle.std.specs.Prelude.{ℕ, ◌==◌, Bool, true, false, ◌&&◌, ◌||◌, nat_lt, List, [], ◌∷◌, ◌++◌, length, Option, Some, None, if◌then◌else◌}
use Rattle.std.specs.List.{count_by, list_any, sum_by}
use Rattle.fs_calls.specs.declared.call.Call.{Call}
use Rattle.fs_timeline.specs.Timeline.{is_busy}
use Rattle.fs_timeline.specs.declared.entry.Entry.{Entry}
use Rattle.fs_sched_seen.specs.Calls.{calls_on, places_of}
use Rattle.fs_sched_seen.specs.declared.meetings.Pairs.{Pairs}
use Rattle.fs_sched_seen.specs.declared.meetings.TheConstants.{PAIRED_LIMIT}
use Rattle.fs_sched_seen.specs.declared.places.Place.{Place}

-- the call at a place is pending after these entries: it is the last that its thread has begun, and it has not returned
abbrev pub is_pending : List Entry → Place → Bool
is_pending es p = (p.turn == length (calls_on p.seat es)) && is_busy p.seat es

-- both are
abbrev pub are_pending : List Entry → Place → Place → Bool
are_pending es p q = is_pending es p && is_pending es q

-- after one of the last entries of a timeline, behind those before, both calls are pending
abbrev pub meet_from : List Entry → List Entry → Place → Place → Bool
meet_from before [] p q = false
meet_from before (e ∷ es) p q = are_pending (before ++ e ∷ []) p q || meet_from (before ++ e ∷ []) es p q

-- after one of its entries they are
abbrev pub meet : List Entry → Place → Place → Bool
meet es p q = meet_from [] es p q

-- they meet in one of these timelines
abbrev pub meet_in : List (List Entry) → Place → Place → Bool
meet_in timelines p q = list_any (λ es. meet es p q) timelines

-- the second call is of a later thread, and they are so
abbrev pub is_pair : (Place → Place → Bool) → Place → Place → Bool
is_pair so p q = nat_lt p.seat q.seat && so p q

-- how many pairs of these calls are of two threads, and so
abbrev pub count_pairs : (Place → Place → Bool) → List Place → ℕ
count_pairs so places = sum_by (λ p. count_by (is_pair so p) places) places

-- the pairs of the calls of a script, and those that meet; they are not counted if the calls are too many
abbrev pub pairs_in : List (List Call) → List (List Entry) → Option Pairs
pairs_in lists timelines =
    if nat_lt PAIRED_LIMIT (length (places_of lists)) then None else Some (record { met = count_pairs (meet_in timelines) (places_of lists); all = count_pairs (λ p q. true) (places_of lists) })
