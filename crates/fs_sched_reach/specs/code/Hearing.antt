-- What a lookout knows of the moments that it got.
use Rattle.std.specs.Prelude.{ℕ, ◌≡◌, ◌+◌, ◌≤◌, ◌<◌, ◌-◌, true, false, nat_lt, List, ◌++◌, length, take, Option, Some, None, if◌then◌else◌}
use Rattle.std.specs.List.{list_any}
use Rattle.fs_sched_witness.specs.declared.moments.Moment.{Moment}
use Rattle.fs_sched_reach.specs.Coming.{begin_of, begun_at, has_come, is_commit}
use Rattle.fs_sched_reach.specs.declared.lookout.Lookout.{Lookout}
use Rattle.fs_sched_reach.specs.declared.lookout.Stand.{Stand}
use Rattle.fs_sched_reach.specs.declared.lookout.Stand.TheVariants.{Ahead, Pending, Come}
use Rattle.fs_sched_reach.specs.declared.target.Target.{Target}

-- where the call stands after a begin of its thread by this number, where so many were ahead
abbrev pub stand_begun : Target → ℕ → ℕ → ℕ → Stand
stand_begun target left c seen = if nat_lt 1 left then Ahead (left - 1) else (if target.to_commit then Pending c else Come seen)

abbrev pub stand_by : Target → ℕ → ℕ → Option ℕ → Stand
stand_by target left seen None = Ahead left
stand_by target left seen (Some c) = stand_begun target left c seen

-- where it stands after one moment more, by which there are so many
abbrev pub stand_after : Target → Stand → Moment → ℕ → Stand
stand_after target (Ahead left) m seen = stand_by target left seen (begun_at target.seat m)
stand_after target (Pending c) m seen = if is_commit target.seat c m then Come seen else Pending c
stand_after target (Come n) m seen = Come n

-- so many of its thread's calls begin up to it; or it has begun by this number, and lacks its commit; or it came as far as it is to by so many moments
abbrev pub StandsAt : Target → Stand → List Moment → Type 0
StandsAt target (Ahead left) ms = (1 ≤ left) × ((more : List Moment) → begin_of target.seat target.call (ms ++ more) ≡ begin_of target.seat left more)
StandsAt target (Pending c) ms =
    (target.to_commit ≡ true) × (later : List Moment) × ((more : List Moment) → begin_of target.seat target.call (ms ++ more) ≡ Some (c, later ++ more)) × (list_any (is_commit target.seat c) later ≡ false)
StandsAt target (Come n) ms = (n ≤ length ms) × (has_come target (take n ms) ≡ true)

-- by how many of the moments it had not come yet: by all fewer than this
abbrev pub not_before : Stand → ℕ → ℕ
not_before (Ahead left) seen = seen + 1
not_before (Pending c) seen = seen + 1
not_before (Come n) seen = n

-- the call had not come so far by fewer of the moments
abbrev pub NoneBefore : Target → List Moment → ℕ → Type 0
NoneBefore target ms n = (j : ℕ) → j < n → has_come target (take j ms) ≡ false

-- what a lookout knows
pub record HasHeard (l : Lookout) (ms : List Moment) : Type 0 where
  pub seen : l.seen ≡ length ms
  pub stands : StandsAt l.target l.stand ms
  pub none : NoneBefore l.target ms (not_before l.stand (length ms))

-- it looks out for the same call, and knows that of it
abbrev pub Follows : Lookout → Lookout → List Moment → Type 0
Follows first l ms = (l.target ≡ first.target) × HasHeard l ms

-- what a lookout answers: by how many moments after the first ones the call had come so far, if it had
abbrev pub Answers : Target → List Moment → ℕ → Option ℕ → Type 0
Answers target ms before None = has_come target ms ≡ false
Answers target ms before (Some n) = (has_come target (take (before + n) ms) ≡ true) × ((m : ℕ) → m < n → has_come target (take (before + m) ms) ≡ false)
