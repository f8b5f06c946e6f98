-- What the last event of each thread waited for, and what a teller has shown.
use Rattle.std.specs.Prelude.{ℕ, ◌≡◌, Bool, List, [], ◌∷◌, None, get_or, map}
use Rattle.fs_trace_story.specs.Shown.{deed_told, last_wait, number_after, shown, with_moment, Saying}
use Rattle.fs_trace_story.specs.declared.shown.Waits.{Waits}
use Rattle.fs_trace_story.specs.declared.story.Teller.{Teller}
use Rattle.fs_sched_witness.specs.declared.moments.Moment.{Moment}
use Rattle.fs_sched_witness.specs.declared.moments.Told.{Told}

-- at each thread's place stands what its last event waited for, of events that are listed from the latest to the first
abbrev pub AreWaits : Waits → List Told → Type 0
AreWaits waits before = (seat : ℕ) → get_or waits.last.items seat None ≡ last_wait before seat

-- the events up to moments, from the latest to the first
abbrev pub with_moments : List Told → List Moment → List Told
with_moments before [] = before
with_moments before (m ∷ ms) = with_moments (with_moment before m) ms

-- the number of the next event behind moments
abbrev pub number_behind : ℕ → List Moment → ℕ
number_behind number [] = number
number_behind number (m ∷ ms) = number_behind (number_after number m) ms

-- a teller has shown what is to be shown of moments, on a page that was this one at the start
pub record HasShown {P : Type 0} (has : P → P → List Saying → Type 0) (every : Bool) (start : P) (teller : Teller P) (ms : List Moment) : Type 0 where
  pub every_is : teller.every ≡ every
  pub number : teller.number ≡ number_behind 1 ms
  pub waits : AreWaits teller.waits (with_moments [] ms)
  pub page : has start teller.page (map deed_told (shown every ms))

-- a teller has shown them that began as another one
abbrev pub GoesOn : {P : Type 0} → (P → P → List Saying → Type 0) → Teller P → Teller P → List Moment → Type 0
GoesOn has first teller ms = (every : Bool) (start : _) → HasShown has every start first [] → HasShown has every start teller ms
