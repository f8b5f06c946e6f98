-- Histories, and which timelines explain one.
use Rattle.std.specs.Prelude.{◌≡◌, ◌<◌, ◌≤◌, ◌+◌, ◌-◌, ℕ, true, false, List, [], ◌∷◌, ◌++◌, map, length, take, ◌==◌, if◌then◌else◌, Option, Some, None}
use Rattle.fs_names.specs.Failures.{first_failure}
use Rattle.fs_calls.specs.Starts.{Start}
use Rattle.fs_calls.specs.declared.reply.Reply.{Reply}
use Rattle.fs_timeline.specs.Timeline.{has_begun, has_committed, has_returned, is_busy, due, IsLawful}
use Rattle.fs_timeline.specs.declared.entry.Entry.{Entry}
use Rattle.fs_timeline.specs.declared.entry.Entry.TheVariants.{Begin, Commit, Return}
use Rattle.fs_linearizable.specs.Linearizable.{history}
use Rattle.fs_linearize_histories.specs.Heard.{Matches, AreHeardIn, entry_of}
use Rattle.fs_linearize_histories.specs.declared.heard.Heard.{Heard}
use Rattle.fs_linearize_histories.specs.declared.heard.Heard.TheVariants as heard
use Rattle.fs_linearize_histories.specs.declared.heard.Pattern.{Pattern}
use Rattle.fs_linearize_histories.specs.declared.heard.Pattern.TheVariants.{Exactly}

-- the entry may come next in a history: a call begins once, on a seat whose last call has returned, and returns once, after its Begin
abbrev pub IsNextHeard : List Entry → Heard → Type 0
IsNextHeard before (heard.Begin c seat call) = (has_begun c before ≡ false) × (is_busy seat before ≡ false)
IsNextHeard before (heard.Return c p) = (has_begun c before ≡ true) × (has_returned c before ≡ false)

-- each entry may come next after those before it
abbrev pub AreNextHeard : List Entry → List Heard → Type 0
AreNextHeard before [] = Unit {0}
AreNextHeard before (x ∷ h) = IsNextHeard before x × AreNextHeard (before ++ entry_of x ∷ []) h

abbrev pub IsHistory : List Heard → Type 0
IsHistory h = AreNextHeard [] h

-- what an entry tells of the reply of the call of a number
abbrev pub returned_as : ℕ → Heard → Option Pattern
returned_as c (heard.Begin d seat call) = None
returned_as c (heard.Return d p) = if c == d then Some p else None

-- what a history tells of the reply of a call, by its first Return
abbrev pub recorded : ℕ → List Heard → Option Pattern
recorded c h = first_failure (map (returned_as c) h)

-- a reply of a call matches what the history tells of it, if anything
abbrev pub FitsIn : List Heard → ℕ → Reply → Type 0
FitsIn h c r = (p : Pattern) → recorded c h ≡ Some p → Matches p r

-- a timeline explains a history: it is lawful, and without its commits it is heard as the history
pub record Explains (start : Start) (h : List Heard) (es : List Entry) : Type 0 where
  pub lawful : IsLawful start es
  pub heard_as : AreHeardIn (history es) h
  pub whole : length (history es) ≡ length h

-- a timeline explains the front of a history, and each call that it commits gets a reply that fits in the whole history
pub record ExplainsFront (start : Start) (h : List Heard) (es : List Entry) : Type 0 where
  pub lawful : IsLawful start es
  pub heard_as : AreHeardIn (history es) h
  pub held_to : (c : ℕ) (r : Reply) → has_committed c es ≡ true → due start c es ≡ Some r → FitsIn h c r

-- no timeline explains the history, nor its entries up to this place, and one explains those before it
pub record HasNoOrder (start : Start) (h : List Heard) (place : ℕ) : Type 0 where
  pub whole : (es : List Entry) → Explains start h es → ⊥
  pub front : (es : List Entry) → Explains start (take place h) es → ⊥
  pub before : (es : List Entry) × Explains start (take (place - 1) h) es

-- where each call gets the very reply that the history records of it, even later, no timeline explains the front up to the entry of this place, and one explains the front before it
pub record HasNoFront (start : Start) (h : List Heard) (place : ℕ) : Type 0 where
  pub within : place ≤ length h
  pub whole : (es : List Entry) → Explains start h es → ⊥
  pub front : (es : List Entry) → ExplainsFront start h es → length (history es) < place
  pub before : (es : List Entry) × ExplainsFront start h es × (length (history es) + 1 ≡ place)

-- behind these entries the call could return this reply: some timeline explains them with that return
abbrev pub CouldReply : Start → List Heard → ℕ → Reply → Type 0
CouldReply start before c r = (es : List Entry) × Explains start (before ++ heard.Return c (Exactly r) ∷ []) es
