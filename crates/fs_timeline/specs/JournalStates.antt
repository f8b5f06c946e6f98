-- What a checker knows of the entries so far, and when it is true.
use Rattle.std.specs.Prelude.{◌≡◌, ℕ, Bool, true, false, List, [], ◌∷◌, not, Option, Some, None, is_some, if◌then◌else◌, ◌==◌}
use Rattle.fs_names.specs.Failures.{check, first_failure}
use Rattle.fs_calls.specs.Starts.{Start}
use Rattle.fs_calls.specs.Outcomes.{reply_at, called, next_start}
use Rattle.fs_calls.specs.declared.call.Call.{Call}
use Rattle.fs_calls.specs.declared.reply.Reply.{Reply}
use Rattle.fs_timeline.specs.Timeline.{has_begun, has_committed, has_returned, last_on, call_of, commits, due}
use Rattle.fs_timeline.specs.Verdicts.{is_due}
use Rattle.fs_timeline.specs.declared.entry.Entry.{Entry}
use Rattle.fs_timeline.specs.declared.entry.Entry.TheVariants.{Begin, Commit, Return}
use Rattle.fs_timeline.specs.declared.verdict.FaultKind.{FaultKind}
use Rattle.fs_timeline.specs.declared.verdict.FaultKind.TheVariants.{BeginTwice, SeatBusy, CommitUnbegun, CommitTwice, ReturnUncommitted, ReturnTwice, WrongReply}

-- the begun calls, the replies that are due to the committed ones, who has returned, the last call on each seat, and the start that the commits leave
pub record JournalState : Type 0 where
  pub calls : ℕ → Option Call
  pub replies : ℕ → Option Reply
  pub returned : ℕ → Bool
  pub last : ℕ → Option ℕ
  pub now : Start

-- whether the last call on a seat, if any, has not returned
abbrev pub is_waiting : (ℕ → Bool) → Option ℕ → Bool
is_waiting returned None = false
is_waiting returned (Some c) = not (returned c)

-- what is wrong with a Return, by what is known of the call
abbrev pub return_fault : Option Reply → Bool → Reply → Option FaultKind
return_fault due returned r = first_failure
    (check (not (is_some due)) ReturnUncommitted
    ∷ check returned ReturnTwice
    ∷ check (not (is_due due r)) WrongReply
    ∷ [])

-- what is wrong with an entry, by what is known of those before it
abbrev pub known_fault : JournalState → Entry → Option FaultKind
known_fault k (Begin c seat call) = first_failure
    (check (is_some (k.calls c)) BeginTwice
    ∷ check (is_waiting k.returned (k.last seat)) SeatBusy
    ∷ [])
known_fault k (Commit c) = first_failure
    (check (not (is_some (k.calls c))) CommitUnbegun
    ∷ check (is_some (k.replies c)) CommitTwice
    ∷ [])
known_fault k (Return c r) = return_fault (k.replies c) (k.returned c) r

-- a function with one value changed
abbrev pub changed : {A : Type 0} → (ℕ → A) → ℕ → A → ℕ → A
changed f n a m = if n == m then a else f m

-- what is known once a call has committed: its reply, and the start that it leaves
abbrev pub played : JournalState → ℕ → Option Call → JournalState
played k c None = k
played k c (Some call) = record k { replies = changed k.replies c (Some (reply_at k.now call)); now = called k.now call }

-- what is known once an entry is taken in
abbrev pub taken_in : JournalState → Entry → JournalState
taken_in k (Begin c seat call) = record k { calls = changed k.calls c (Some call); last = changed k.last seat (Some c) }
taken_in k (Commit c) = played k c (k.calls c)
taken_in k (Return c r) = record k { returned = changed k.returned c true }

-- the reply that is due to a call that has committed
abbrev pub committed_reply : Start → ℕ → List Entry → Option Reply
committed_reply start c es = if has_committed c es then due start c es else None

-- what is known is true of the entries, from a start tree
pub record IsTrueOf (start : Start) (k : JournalState) (es : List Entry) : Type 0 where
  pub calls_are : (c : ℕ) → k.calls c ≡ call_of c es
  pub replies_are : (c : ℕ) → k.replies c ≡ committed_reply start c es
  pub returned_are : (c : ℕ) → k.returned c ≡ has_returned c es
  pub last_are : (s : ℕ) → k.last s ≡ last_on s es
  pub now_is : k.now ≡ next_start start (commits es)
  pub begun_first : (c : ℕ) → has_committed c es ≡ true → has_begun c es ≡ true
