-- Worked examples: histories with timelines that explain them, and lists of entries that are no histories.
use Rattle.std.specs.Prelude.{◌≡◌, List, [], ◌∷◌, ◌++◌, length, codes, Some, None}
use Rattle.fs_names.specs.declared.kind.Kind.TheVariants as kinds
use Rattle.fs_names.specs.declared.limits.Limits.TheVariants.{V1, V2}
use Rattle.fs_names.specs.Keys.{Key}
use Rattle.fs_calls.specs.Tree as tree
use Rattle.fs_calls.specs.Tree.{Tree}
use Rattle.fs_calls.specs.Starts.{Start, root_start}
use Rattle.fs_calls.specs.declared.call.Call.TheVariants.{Mkdir, Stat, Exchange}
use Rattle.fs_calls.specs.declared.reply.Reply.TheVariants as answer
use Rattle.fs_calls.specs.declared.errno.Errno.TheVariants.{Enoent, Eexist}
use Rattle.fs_timeline.specs.Verdicts.{verdict}
use Rattle.fs_timeline.specs.declared.entry.Entry.{Entry}
use Rattle.fs_timeline.specs.declared.entry.Entry.TheVariants.{Begin, Commit, Return}
use Rattle.fs_timeline.specs.declared.verdict.Verdict.TheVariants.{Lawful, Fault}
use Rattle.fs_timeline.specs.declared.verdict.FaultKind.TheVariants.{WrongReply}
use Rattle.fs_linearizable.specs.Linearizable.{history}
use Rattle.fs_linearize_histories.specs.declared.heard.Heard.{Heard}
use Rattle.fs_linearize_histories.specs.declared.heard.Heard.TheVariants as heard
use Rattle.fs_linearize_histories.specs.declared.heard.Pattern.TheVariants.{Exactly, AnyError, OneOf, AnyDirectory, Anything}
use Rattle.fs_linearize_histories.specs.Heard.{AreHeardIn}
use Rattle.fs_linearize_histories.specs.Faults.{history_fault}
use Rattle.fs_linearize_histories.specs.declared.fault.HistoryFault.TheVariants.{BeginTwice, SeatBusy, ReturnUnbegun, ReturnTwice}

-- the path of one name, a or f
abbrev pub at_a : Key
at_a = codes "a" ∷ []

abbrev pub at_f : Key
at_f = codes "f" ∷ []

-- a mkdir of /a on seat 0 and a stat of /a on seat 1, which overlap: they begin, and the stat returns first
abbrev pub both_begin : List Entry
both_begin = Begin 1 0 (Mkdir at_a) ∷ Begin 2 1 (Stat at_a) ∷ []

abbrev pub both_heard : List Heard
both_heard = heard.Begin 1 0 (Mkdir at_a) ∷ heard.Begin 2 1 (Stat at_a) ∷ []

-- a tree with the directory /a and the file /f of one byte
abbrev pub with_both : Tree
with_both = ([], tree.Dir) ∷ (at_a, tree.Dir) ∷ (at_f, tree.File (7 ∷ [])) ∷ []

-- a timeline that is lawful, and is a history once its commits are taken out
pub record IsExplained (start : Start) (es : List Entry) (h : List Heard) : Type 0 where
  pub lawful : verdict start es ≡ Lawful
  pub heard_as : AreHeardIn (history es) h
  pub whole : length (history es) ≡ length h

pub record ExplainedHistories : Type 0 where
  pub stat_first : IsExplained (root_start V1)
      (both_begin ++ Commit 2 ∷ Return 2 (answer.Failed Enoent) ∷ Commit 1 ∷ Return 1 answer.Done ∷ [])
      (both_heard ++ heard.Return 2 (Exactly (answer.Failed Enoent)) ∷ heard.Return 1 (Exactly answer.Done) ∷ [])
  pub mkdir_first : IsExplained (root_start V1)
      (both_begin ++ Commit 1 ∷ Commit 2 ∷ Return 2 (answer.Stat kinds.Dir 0) ∷ Return 1 answer.Done ∷ [])
      (both_heard ++ heard.Return 2 AnyDirectory ∷ heard.Return 1 (Exactly answer.Done) ∷ [])
  pub never_returned : IsExplained (root_start V2)
      (both_begin ++ Commit 1 ∷ Commit 2 ∷ Return 2 (answer.Stat kinds.Dir 0) ∷ [])
      (both_heard ++ heard.Return 2 (Exactly (answer.Stat kinds.Dir 0)) ∷ [])
  pub from_a_tree : IsExplained (record { limits = V1; tree = with_both })
      (Begin 1 0 (Mkdir at_a) ∷ Commit 1 ∷ Return 1 (answer.Failed Eexist) ∷ [])
      (heard.Begin 1 0 (Mkdir at_a) ∷ heard.Return 1 AnyError ∷ [])
  pub one_of_two : IsExplained (record { limits = V1; tree = with_both })
      (Begin 1 0 (Mkdir at_a) ∷ Commit 1 ∷ Return 1 (answer.Failed Eexist) ∷ [])
      (heard.Begin 1 0 (Mkdir at_a) ∷ heard.Return 1 (OneOf (Enoent ∷ Eexist ∷ [])) ∷ [])
  pub any_reply : IsExplained (record { limits = V1; tree = with_both })
      (Begin 1 0 (Mkdir at_a) ∷ Commit 1 ∷ Return 1 (answer.Failed Eexist) ∷ [])
      (heard.Begin 1 0 (Mkdir at_a) ∷ heard.Return 1 Anything ∷ [])
  pub exchanged : IsExplained (record { limits = V2; tree = with_both })
      (Begin 1 0 (Exchange at_a at_f) ∷ Begin 2 1 (Stat at_a) ∷ Commit 1 ∷ Commit 2 ∷ Return 2 (answer.Stat kinds.File 1) ∷ Return 1 answer.Done ∷ [])
      (heard.Begin 1 0 (Exchange at_a at_f) ∷ heard.Begin 2 1 (Stat at_a) ∷ heard.Return 2 (Exactly (answer.Stat kinds.File 1)) ∷ heard.Return 1 (Exactly answer.Done) ∷ [])
  pub wrong_order : verdict (root_start V1) (both_begin ++ Commit 2 ∷ Commit 1 ∷ Return 2 (answer.Stat kinds.Dir 0) ∷ []) ≡ Fault 5 WrongReply

pub record FaultExamples : Type 0 where
  pub empty : history_fault [] ≡ None
  pub overlapping : history_fault (both_heard ++ heard.Return 2 AnyError ∷ heard.Return 1 (Exactly answer.Done) ∷ []) ≡ None
  pub begin_twice : history_fault (both_heard ++ heard.Begin 1 2 (Mkdir at_f) ∷ []) ≡ Some (3, BeginTwice)
  pub seat_busy : history_fault (both_heard ++ heard.Begin 3 1 (Mkdir at_f) ∷ []) ≡ Some (3, SeatBusy)
  pub return_unbegun : history_fault (heard.Return 9 AnyError ∷ both_heard) ≡ Some (1, ReturnUnbegun)
  pub return_twice : history_fault (both_heard ++ heard.Return 1 AnyError ∷ heard.Return 1 AnyError ∷ []) ≡ Some (4, ReturnTwice)
