-- What the steps of learning do.
use Rattle.std.specs.Prelude.{◌≡◌, ℕ, Bool, true, false, List, [], ◌∷◌, ◌++◌, Option, Some, None}
use Rattle.fs_calls.specs.Starts.{Start}
use Rattle.fs_calls.specs.declared.call.Call.{Call}
use Rattle.fs_linearize_histories.specs.declared.heard.Heard.{Heard}
use Rattle.fs_linearize_histories.specs.declared.heard.Heard.TheVariants.{Begin, Return}
use Rattle.fs_linearize_histories.specs.declared.heard.Pattern.{Pattern}
use Rattle.fs_linearize_dialects.specs.declared.dialect.Row.{Row}
use Rattle.fs_linearize_dialects.specs.Learning.{end_at, learned}

-- the rows that explain a return are added; or none do, and nothing is
abbrev pub Adds : Option (List Row) → List Row → List Row → Bool → Type 0
Adds (Some rows) old new known = (known ≡ true) × (new ≡ old ++ rows)
Adds None old new known = (known ≡ false) × (new ≡ old)

-- entries begin with a call
abbrev pub IsCallAt : List Heard → Call → Pattern → Type 0
IsCallAt h call known = (c seat : ℕ) × (rest : List Heard) × (h ≡ Begin c seat call ∷ Return c known ∷ rest)

-- they do not, and learning ends there
abbrev pub IsNoCallAt : List Heard → Type 0
IsNoCallAt h = (now : Start) (n : ℕ) → learned now n h ≡ ([], end_at n h)
