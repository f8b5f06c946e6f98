-- What the checker says of a timeline: the place and the kind of the first entry that does not fit.
use Rattle.std.specs.Prelude.{ℕ, ◌+◌, Bool, false, List, [], ◌∷◌, ◌++◌, not, Option, Some, None}
use Rattle.fs_names.specs.Failures.{check, first_failure}
use Rattle.fs_calls.specs.Starts.{Start}
use Rattle.fs_calls.specs.Replies.{same_reply}
use Rattle.fs_calls.specs.declared.reply.Reply.{Reply}
use Rattle.fs_timeline.specs.Timeline.{has_begun, has_committed, has_returned, is_busy, due}
use Rattle.fs_timeline.specs.declared.entry.Entry.{Entry}
use Rattle.fs_timeline.specs.declared.entry.Entry.TheVariants.{Begin, Commit, Return}
use Rattle.fs_timeline.specs.declared.verdict.Verdict.{Verdict}
use Rattle.fs_timeline.specs.declared.verdict.Verdict.TheVariants.{Lawful, Fault}
use Rattle.fs_timeline.specs.declared.verdict.FaultKind.{FaultKind}
use Rattle.fs_timeline.specs.declared.verdict.FaultKind.TheVariants.{BeginTwice, SeatBusy, CommitUnbegun, CommitTwice, ReturnUncommitted, ReturnTwice, WrongReply}

-- whether a reply is the one that is due
abbrev pub is_due : Option Reply → Reply → Bool
is_due None r = false
is_due (Some due) r = same_reply due r

-- what is wrong with an entry after those before it, the first kind that holds
abbrev pub entry_fault : Start → List Entry → Entry → Option FaultKind
entry_fault start before (Begin c seat call) = first_failure
    (check (has_begun c before) BeginTwice
    ∷ check (is_busy seat before) SeatBusy
    ∷ [])
entry_fault start before (Commit c) = first_failure
    (check (not (has_begun c before)) CommitUnbegun
    ∷ check (has_committed c before) CommitTwice
    ∷ [])
entry_fault start before (Return c r) = first_failure
    (check (not (has_committed c before)) ReturnUncommitted
    ∷ check (has_returned c before) ReturnTwice
    ∷ check (not (is_due (due start c before) r)) WrongReply
    ∷ [])

-- a fault at this place, or the verdict on what comes later
abbrev pub fault_or : ℕ → Option FaultKind → Verdict → Verdict
fault_or place None later = later
fault_or place (Some kind) later = Fault place kind

-- the verdict on entries of which the first has this place, after those before it
abbrev pub verdict_from : Start → List Entry → ℕ → List Entry → Verdict
verdict_from start before place [] = Lawful
verdict_from start before place (e ∷ es) = fault_or place (entry_fault start before e) (verdict_from start (before ++ e ∷ []) (place + 1) es)

-- the verdict on a timeline, from a start tree
abbrev pub verdict : Start → List Entry → Verdict
verdict start es = verdict_from start [] 1 es
