-- Calls as they are seen through what refers to them.
use Rattle.std.specs.Borrow.{Bor}
use Rattle.std.specs.Prelude.{◌≡◌, ◌<◌, ℕ, List, [], ◌∷◌, length, map, Option, Some, None, slice_get}
use Rattle.fs_calls.specs.declared.call.Call.{Call}
use Rattle.fs_timeline.specs.Timeline.{call_of}
use Rattle.fs_timeline.specs.declared.entry.Entry.{Entry}
use Rattle.fs_timeline.specs.declared.entry.Entry.TheVariants.{Begin, Commit, Return}
use Rattle.fs_trace_replay.specs.declared.commits.Begun.{Begun}

-- the call that was found
abbrev pub call_in : Option Begun → Option Call
call_in None = None
call_in (Some begun) = Some begun.call.now

-- calls that are referred to
abbrev pub calls_in : List (Bor Call) → List Call
calls_in calls = map (λ c. c.now) calls

-- the call that an entry commits; the Begins stand in `whole`
abbrev pub call_by : List Entry → Entry → Option Call
call_by whole (Begin c seat call) = None
call_by whole (Commit c) = call_of c whole
call_by whole (Return c r) = None

-- what may be there, as a list
abbrev pub listed : {A : Type 0} → Option A → List A
listed None = []
listed (Some a) = a ∷ []

-- a number is not among the first of a list
abbrev pub IsNotAmong : List ℕ → ℕ → ℕ → Type 0
IsNotAmong numbers c most = (n : ℕ) → n < most → slice_get numbers n ≡ Some c → ⊥

-- the place of a number in a list: none where it is not there
abbrev pub IsPlace : List ℕ → ℕ → Option ℕ → Type 0
IsPlace numbers c None = IsNotAmong numbers c (length numbers)
IsPlace numbers c (Some n) = slice_get numbers n ≡ Some c
