-- What is wrong with a list of entries that is no history: the place and the kind of the first entry that cannot come next.
use Rattle.std.specs.Prelude.{ℕ, ◌+◌, List, [], ◌∷◌, ◌++◌, not, Option, Some, None}
use Rattle.fs_names.specs.Failures.{or_else, check, first_failure}
use Rattle.fs_timeline.specs.Timeline.{has_begun, has_returned, is_busy}
use Rattle.fs_timeline.specs.declared.entry.Entry.{Entry}
use Rattle.fs_linearize_histories.specs.Heard.{entry_of}
use Rattle.fs_linearize_histories.specs.declared.heard.Heard.{Heard}
use Rattle.fs_linearize_histories.specs.declared.heard.Heard.TheVariants.{Begin, Return}
use Rattle.fs_linearize_histories.specs.declared.fault.HistoryFault.{HistoryFault}
use Rattle.fs_linearize_histories.specs.declared.fault.HistoryFault.TheVariants.{BeginTwice, SeatBusy, ReturnUnbegun, ReturnTwice}

-- what is wrong with an entry after those before it, the first kind that holds
abbrev pub heard_fault : List Entry → Heard → Option HistoryFault
heard_fault before (Begin c seat call) = first_failure
    (check (has_begun c before) BeginTwice
    ∷ check (is_busy seat before) SeatBusy
    ∷ [])
heard_fault before (Return c p) = first_failure
    (check (not (has_begun c before)) ReturnUnbegun
    ∷ check (has_returned c before) ReturnTwice
    ∷ [])

-- a kind of fault with its place
abbrev pub fault_at : ℕ → Option HistoryFault → Option (ℕ × HistoryFault)
fault_at place None = None
fault_at place (Some kind) = Some (place, kind)

-- the first fault of entries of which the first has this place, after those before it
abbrev pub fault_from : List Entry → ℕ → List Heard → Option (ℕ × HistoryFault)
fault_from before place [] = None
fault_from before place (x ∷ h) = or_else (fault_at place (heard_fault before x)) (fault_from (before ++ entry_of x ∷ []) (place + 1) h)

-- the first fault, with its place, counted from 1
abbrev pub history_fault : List Heard → Option (ℕ × HistoryFault)
history_fault h = fault_from [] 1 h
