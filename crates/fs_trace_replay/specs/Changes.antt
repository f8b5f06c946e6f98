-- Which call last changed what stands at a path.
use Rattle.std.specs.Prelude.{◌≢◌, ◌<◌, ◌≤◌, ◌-◌, ℕ, List, Option, Some, None, take}
use Rattle.fs_names.specs.Keys.{Key}
use Rattle.fs_calls.specs.Tree.{Node, look}
use Rattle.fs_calls.specs.Starts.{Start}
use Rattle.fs_calls.specs.Outcomes.{play}
use Rattle.fs_calls.specs.declared.call.Call.{Call}

-- what stands at a key behind the first calls of a list: nothing, a directory, or a file with its bytes
abbrev pub look_behind : Start → List Call → Key → ℕ → Option Node
look_behind start calls key n = look (play start (take n calls)) key

-- the call with this place, counted from 1, changes what stands at a key
abbrev pub Changes : Start → List Call → Key → ℕ → Type 0
Changes start calls key n = look_behind start calls key (n - 1) ≢ look_behind start calls key n

-- of the first calls the last one that changes it, counted from 1; none where none does
abbrev pub IsLastChange : Start → List Call → Key → ℕ → Option ℕ → Type 0
IsLastChange start calls key most None = (n : ℕ) → 1 ≤ n → n ≤ most → Changes start calls key n → ⊥
IsLastChange start calls key most (Some last) = (1 ≤ last) × (last ≤ most) × Changes start calls key last × ((n : ℕ) → last < n → n ≤ most → Changes start calls key n → ⊥)
