-- Worked examples of verdicts.
use Rattle.std.specs.Prelude.{◌≡◌, ℕ, [], ◌∷◌, codes}
use Rattle.fs_names.specs.declared.limits.Limits.TheVariants.{V1}
use Rattle.fs_calls.specs.Tree.{Tree, Dir}
use Rattle.fs_calls.specs.Starts.{root_start}
use Rattle.fs_calls.specs.declared.call.Call.TheVariants.{Mkdir}
use Rattle.fs_calls.specs.declared.reply.Reply.TheVariants.{Done, Wrote, Failed}
use Rattle.fs_calls.specs.declared.errno.Errno.TheVariants.{Eexist}
use Rattle.fs_timeline.specs.Verdicts.{verdict}
use Rattle.fs_timeline.specs.declared.entry.Entry.{Entry}
use Rattle.fs_timeline.specs.declared.entry.Entry.TheVariants.{Begin, Commit, Return}
use Rattle.fs_timeline.specs.declared.verdict.Verdict.TheVariants.{Lawful, Fault}
use Rattle.fs_timeline.specs.declared.verdict.FaultKind.TheVariants.{BeginTwice, SeatBusy, CommitUnbegun, CommitTwice, ReturnUncommitted, ReturnTwice, WrongReply}

-- a mkdir of /a begins under this number, on this seat
abbrev pub begins : ℕ → ℕ → Entry
begins call seat = Begin call seat (Mkdir (codes "a" ∷ []))

pub record VerdictExamples : Type 0 where
  pub empty : verdict (root_start V1) [] ≡ Lawful
  pub unreturned : verdict (root_start V1) (begins 9 3 ∷ Commit 9 ∷ []) ≡ Lawful
  pub seat_busy : verdict (root_start V1) (begins 1 0 ∷ begins 2 0 ∷ []) ≡ Fault 2 SeatBusy
  pub begin_twice : verdict (root_start V1) (begins 1 0 ∷ begins 1 0 ∷ []) ≡ Fault 2 BeginTwice
  pub commit_unbegun : verdict (root_start V1) (Commit 7 ∷ []) ≡ Fault 1 CommitUnbegun
  pub commit_twice : verdict (root_start V1) (begins 1 0 ∷ Commit 1 ∷ Commit 1 ∷ []) ≡ Fault 3 CommitTwice
  pub return_uncommitted : verdict (root_start V1) (Return 9 Done ∷ []) ≡ Fault 1 ReturnUncommitted
  pub return_twice : verdict (root_start V1) (begins 1 0 ∷ Commit 1 ∷ Return 1 Done ∷ Return 1 (Wrote 3) ∷ []) ≡ Fault 4 ReturnTwice
  pub any_order : verdict (root_start V1) (begins 7 0 ∷ begins 2 1 ∷ Commit 2 ∷ Commit 7 ∷ Return 7 (Failed Eexist) ∷ begins 1 0 ∷ Return 2 Done ∷ []) ≡ Lawful

pub record CheckedJournals : Type 0 where
  pub first_mkdir : verdict (root_start V1) (begins 1 0 ∷ Commit 1 ∷ Return 1 Done ∷ []) ≡ Lawful
  pub wrong_reply : verdict (root_start V1) (begins 1 0 ∷ Commit 1 ∷ Return 1 (Failed Eexist) ∷ []) ≡ Fault 3 WrongReply
  pub exchanged : verdict (root_start V1) (begins 1 0 ∷ Return 1 Done ∷ Commit 1 ∷ []) ≡ Fault 2 ReturnUncommitted

-- the tree of the root and the directory /a
abbrev pub with_a : Tree
with_a = ([], Dir) ∷ (codes "a" ∷ [], Dir) ∷ []

-- from a start tree that has /a already
pub record StartedJournals : Type 0 where
  pub there_already : verdict (record { limits = V1; tree = with_a }) (begins 1 0 ∷ Commit 1 ∷ Return 1 (Failed Eexist) ∷ []) ≡ Lawful
  pub from_the_start : verdict (record { limits = V1; tree = with_a }) (begins 1 0 ∷ Commit 1 ∷ Return 1 Done ∷ []) ≡ Fault 3 WrongReply
