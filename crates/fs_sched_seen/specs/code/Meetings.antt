-- The pairs of calls that are noted.
use Rattle.std.specs.Prelude.{ℕ, ◌≡◌, ◌≤◌, ◌<◌, ◌==◌, Bool, ◌&&◌, ◌||◌, nat_lt, List, length, is_some, Option, Some, None, if◌then◌else◌}
use Rattle.std.specs.List.{list_any}
use Rattle.fs_calls.specs.declared.call.Call.{Call}
use Rattle.fs_timeline.specs.Timeline.{begun_on, is_busy}
use Rattle.fs_timeline.specs.declared.entry.Entry.{Entry}
use Rattle.fs_sched_seen.specs.Calls.{calls_on, places_of}
use Rattle.fs_sched_seen.specs.Meetings.{are_pending, meet_in}
use Rattle.fs_sched_seen.specs.declared.meetings.Meetings.{Meetings}
use Rattle.fs_sched_seen.specs.declared.meetings.TheConstants.{PAIRED_LIMIT}
use Rattle.fs_sched_seen.specs.declared.places.Place.{Place}

-- the call of a thread that is pending
abbrev pub pending_on : List Entry → ℕ → Option Place
pending_on es seat = if is_busy seat es then Some (record { seat = seat; turn = length (calls_on seat es) }) else None

-- two places are one
abbrev pub same_place : Place → Place → Bool
same_place p q = (p.seat == q.seat) && (p.turn == q.turn)

-- it is noted that the calls at these places met
abbrev pub has_met : Meetings → Place → Place → Bool
has_met m p q = list_any (λ pair. same_place p pair.0 && same_place q pair.1) m.met.keys

-- the calls are of these two threads, of which the second is later, and they are pending
abbrev pub both_on : List Entry → ℕ → ℕ → Place → Place → Bool
both_on es first second p q = nat_lt first second && (((p.seat == first) && (q.seat == second)) && are_pending es p q)

-- one of the calls is of this thread
abbrev pub beside : ℕ → Place → Place → Bool
beside seat p q = (p.seat == seat) || (q.seat == seat)

-- the same, and the thread of the other one is among the first ones
abbrev pub near : ℕ → ℕ → Place → Place → Bool
near seat threads p q = ((p.seat == seat) && nat_lt q.seat threads) || ((q.seat == seat) && nat_lt p.seat threads)

-- an entry begins a call of the thread of one of these calls
abbrev pub begins_at : Entry → Place → Place → Bool
begins_at e p q = is_some (begun_on p.seat e) || is_some (begun_on q.seat e)

-- of the calls of so many threads exactly those are noted that met in one of these timelines
abbrev pub HaveMet : Meetings → List (List Entry) → Type 0
HaveMet m timelines = (p q : Place) → p.seat < q.seat → q.seat < m.threads → has_met m p q ≡ meet_in timelines p q

-- the threads are those of a script, if its calls are not too many
abbrev pub IsOf : Meetings → List (List Call) → Type 0
IsOf m lists = length (places_of lists) ≤ PAIRED_LIMIT → m.threads ≡ length lists
