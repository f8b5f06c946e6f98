-- What is known after some entries of a timeline, and which entry may come next.
use Rattle.std.specs.Prelude.{ℕ, ◌≡◌, Bool, true, false, List, [], ◌∷◌, Option, Some, None}
use Rattle.fs_names.specs.Shapes.{Shape}
use Rattle.fs_names.specs.declared.limits.Limits.{Limits}
use Rattle.fs_laws.specs.Changes.{reply, after}
use Rattle.fs_calls.specs.Forms.{form}
use Rattle.fs_calls.specs.Sights.{tree_shapes}
use Rattle.fs_calls.specs.Starts.{Start}
use Rattle.fs_calls.specs.declared.call.Call.{Call}
use Rattle.fs_timeline.specs.declared.entry.Entry.{Entry}
use Rattle.fs_timeline.specs.declared.entry.Entry.TheVariants.{Begin, Commit, Return}
use Rattle.fs_calls.specs.Graphs.{set_at}
use Rattle.fs_laws.specs.Maps.{Map}
use Rattle.fs_calls.specs.declared.reply.Reply.{Reply}

-- a list with one call more in front, if there is one
abbrev pub with_call : Option Call → List Call → List Call
with_call None calls = calls
with_call (Some call) calls = call ∷ calls

-- the calls of the Commit entries, in order, by the calls that began before
abbrev pub commits_of : (ℕ → Option Call) → List Entry → List Call
commits_of call [] = []
commits_of call (Begin n seat c ∷ es) = commits_of (set_at n (Some c) call) es
commits_of call (Commit n ∷ es) = with_call (call n) (commits_of call es)
commits_of call (Return n r ∷ es) = commits_of call es

-- what is known after some entries: the limits, the played tree, each call that began, the reply due to each that committed, whether it returned, and the call under way on each seat
pub record JournalView : Type 0 where
  pub limits : Limits
  pub tree : Map Shape
  pub call : ℕ → Option Call
  pub seat_of : ℕ → Option ℕ
  pub due : ℕ → Option Reply
  pub back : ℕ → Bool
  pub busy : ℕ → Option ℕ

-- before the first entry
abbrev pub start : Start → JournalView
start first = record { limits = first.limits; tree = tree_shapes first.tree; call = λ n. None; seat_of = λ n. None; due = λ n. None; back = λ n. false; busy = λ n. None }

-- after the Commit of a call: the tree after it, and the reply that is due to it
abbrev pub commit_of : JournalView → ℕ → Option Call → JournalView
commit_of view n None = view
commit_of view n (Some call) = record view { tree = after view.tree (form view.limits call); due = set_at n (Some (reply view.tree (form view.limits call))) view.due }

-- who is on each seat, where a call on this one returned
abbrev pub free_seat : JournalView → Option ℕ → ℕ → Option ℕ
free_seat view None s = view.busy s
free_seat view (Some seat) s = set_at seat None view.busy s

-- after one more entry
abbrev pub noted : JournalView → Entry → JournalView
noted view (Begin n seat call) = record view { call = set_at n (Some call) view.call; seat_of = set_at n (Some seat) view.seat_of; busy = set_at seat (Some n) view.busy }
noted view (Commit n) = commit_of view n (view.call n)
noted view (Return n r) = record view { back = set_at n true view.back; busy = free_seat view (view.seat_of n) }

-- the entry may come next: well formed, and a returned reply is the one that is due
abbrev pub IsNext : JournalView → Entry → Type 0
IsNext view (Begin n seat call) = (view.call n ≡ None) × (view.busy seat ≡ None)
IsNext view (Commit n) = ((call : Call) × (view.call n ≡ Some call)) × (view.due n ≡ None)
IsNext view (Return n r) = (view.due n ≡ Some r) × (view.back n ≡ false)

-- after several entries
abbrev pub view_after : JournalView → List Entry → JournalView
view_after view [] = view
view_after view (e ∷ es) = view_after (noted view e) es

-- each entry may come next
abbrev pub IsLawful : JournalView → List Entry → Type 0
IsLawful view [] = Unit {0}
IsLawful view (e ∷ es) = IsNext view e × IsLawful (noted view e) es
