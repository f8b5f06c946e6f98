-- The commits of entries, and the calls of a seat.
use Rattle.std.specs.Prelude.{◌≡◌, ℕ, ◌-◌, ◌≤◌, ◌==◌, List, [], ◌∷◌, Some, slice_get, take, if◌then◌else◌}
use Rattle.std.specs.List.{flat_map}
use Rattle.fs_calls.specs.Tree.{Tree}
use Rattle.fs_calls.specs.Starts.{Start}
use Rattle.fs_calls.specs.Outcomes.{play}
use Rattle.fs_timeline.specs.Timeline.{has_begun, commits}
use Rattle.fs_timeline.specs.declared.verdict.Verdict.{Verdict}
use Rattle.fs_timeline.specs.declared.verdict.Verdict.TheVariants.{Lawful, Fault}
use Rattle.fs_timeline.specs.declared.entry.Entry.{Entry}
use Rattle.fs_timeline.specs.declared.entry.Entry.TheVariants.{Begin, Commit, Return}

-- the entries that hold, by the verdict on them: all, or those before the first fault
abbrev pub front_by : Verdict → List Entry → List Entry
front_by Lawful es = es
front_by (Fault place kind) es = take (place - 1) es

-- the number of the call that an entry commits; the Begins stand in `whole`
abbrev pub committed_by : List Entry → Entry → List ℕ
committed_by whole (Begin c seat call) = []
committed_by whole (Commit c) = if has_begun c whole then c ∷ [] else []
committed_by whole (Return c r) = []

-- the numbers of the calls that entries commit, in the order of `commits`
abbrev pub committed : List Entry → List ℕ
committed es = flat_map (committed_by es) es

-- the tree behind the first commits, from a start
abbrev pub tree_after : Start → List Entry → ℕ → Tree
tree_after start es n = play start (take n (commits es))

-- the number of the call that an entry begins on a seat
abbrev pub begun_on_seat : ℕ → Entry → List ℕ
begun_on_seat seat (Begin c s call) = if s == seat then c ∷ [] else []
begun_on_seat seat (Commit c) = []
begun_on_seat seat (Return c r) = []

-- the numbers of the calls that begin on a seat, in order
abbrev pub calls_on : ℕ → List Entry → List ℕ
calls_on seat es = flat_map (begun_on_seat seat) es

-- the call of this number is the one with this place, counted from 1, among those of a seat
abbrev pub IsTurn : List Entry → ℕ → ℕ → ℕ → Type 0
IsTurn es seat turn c = (1 ≤ turn) × (slice_get (calls_on seat es) (turn - 1) ≡ Some c)

-- it commits behind so many others
abbrev pub CommitsBehind : List Entry → ℕ → ℕ → Type 0
CommitsBehind es c n = slice_get (committed es) n ≡ Some c
