-- A row added to rows.
use Rattle.std.specs.Prelude.{◌≡◌, ◌+◌, Bool, nat_lt, if◌then◌else◌, List, [], ◌∷◌, map}
use Rattle.fs_sched_outcomes.specs.Ends.{end_text}
use Rattle.fs_sched_outcomes.specs.Sums.{same_end}
use Rattle.fs_sched_outcomes.specs.declared.rows.Row.{Row}
use Rattle.fs_sched_outcomes.specs.declared.rows.Rows.{Rows}

-- the texts of the ends are kept beside rows
abbrev pub AreKept : Rows → Type 0
AreKept rows = map (λ text. text.items) rows.texts.keys ≡ map (λ row. end_text row.end) rows.rows.items

-- a row with one more of the same end, by whether that has the lesser number
abbrev pub merged_by : Bool → Row → Row → Row
merged_by less row more = record { times = row.times + more.times; seed = if less then more.seed else row.seed; end = if less then more.end else row.end }

-- a row with one more of the same end
abbrev pub merged : Row → Row → Row
merged row more = merged_by (nat_lt more.seed row.seed) row more

-- rows with one more: to that of the same end, where there is one
abbrev pub with_row : List Row → Row → List Row
with_row [] more = more ∷ []
with_row (row ∷ rows) more = if same_end more row then merged row more ∷ rows else row ∷ with_row rows more
