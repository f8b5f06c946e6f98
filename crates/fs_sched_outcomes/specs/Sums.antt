-- Rows that add up others: each end once, with how often it came.
use Rattle.std.specs.Prelude.{ℕ, ◌≡◌, ◌≤◌, Bool, true, if◌then◌else◌, List}
use Rattle.std.specs.List.{AllByRecursion, Contains, IsDistinct, list_any, sum_by}
use Rattle.std.specs.List.Sorted.{IsSortedBy}
use Rattle.std.specs.Ordering.{is_lt, nat_cmp, ordering_then}
use Rattle.std.specs.Str.{bytes_eq}
use Rattle.fs_sched_outcomes.specs.Ends.{end_text}
use Rattle.fs_sched_outcomes.specs.declared.rows.Row.{Row}

-- two rows have one end
abbrev pub same_end : Row → Row → Bool
same_end a b = bytes_eq (end_text a.end) (end_text b.end)

abbrev pub times_of : Row → ℕ
times_of row = row.times

-- how often a row came, where it has the end of another
abbrev pub times_with : Row → Row → ℕ
times_with row given = if same_end row given then given.times else 0

-- a row adds up those of the given ones that have its end: it is the one with the least number, and came as often as they together
pub record IsSum (given : List Row) (row : Row) : Type 0 where
  pub times : row.times ≡ sum_by (times_with row) given
  pub one : Row
  pub among : Contains given one
  pub seed : row.seed ≡ one.seed
  pub end : row.end ≡ one.end
  pub least : AllByRecursion (λ other. same_end row other ≡ true → row.seed ≤ other.seed) given

-- a row has one of these ends
abbrev pub IsAmongEnds : List Row → Row → Type 0
IsAmongEnds rows row = list_any (same_end row) rows ≡ true

-- rows add up the given ones: each adds up those of its end, each end is there, none of them twice, and all came as often
pub record AddsUp (given rows : List Row) : Type 0 where
  pub each : AllByRecursion (IsSum given) rows
  pub every : AllByRecursion (IsAmongEnds rows) given
  pub once : IsDistinct same_end rows
  pub total : sum_by times_of rows ≡ sum_by times_of given

-- a row stands before another: it came more often, or as often and its number is less
abbrev pub comes_before : Row → Row → Bool
comes_before a b = is_lt (ordering_then (nat_cmp b.times a.times) (nat_cmp a.seed b.seed))

-- the rows are in this order
abbrev pub AreInOrder : List Row → Type 0
AreInOrder rows = IsSortedBy comes_before rows
