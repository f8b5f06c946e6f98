-- What entries tell of calls and of seats.
use Rattle.std.specs.Prelude.{◌≡◌, ℕ, Bool, false, not, List, Option, Some, None, is_some}
use Rattle.std.specs.Ordering.{nat_cmp}
use Rattle.std.specs.BTreeMap.{get}
use Rattle.fs_timeline.specs.Timeline.{has_begun, has_returned, last_on}
use Rattle.fs_timeline.specs.declared.entry.Entry.{Entry}
use Rattle.fs_linearize.specs.declared.faults.Known.{Known}

-- what is known is what the entries tell
pub record IsKnown (before : List Entry) (k : Known) : Type 0 where
  pub begun : (c : ℕ) → is_some (get nat_cmp k.begun c) ≡ has_begun c before
  pub returned : (c : ℕ) → is_some (get nat_cmp k.returned c) ≡ has_returned c before
  pub last : (s : ℕ) → get nat_cmp k.last s ≡ last_on s before

-- whether such a call is known to have begun, and not to have returned
abbrev pub is_left : Known → Option ℕ → Bool
is_left k None = false
is_left k (Some c) = not (is_some (get nat_cmp k.returned c))
