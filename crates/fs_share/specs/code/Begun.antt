-- So many calls of each list have begun.
use Rattle.std.specs.Prelude.{◌≡◌, ℕ, Bool, true, false, List, [], take, get_or}
use Rattle.fs_calls.specs.declared.call.Call.{Call}
use Rattle.fs_timeline.specs.declared.entry.Entry.{Entry}
use Rattle.fs_timeline.specs.declared.entry.Entry.TheVariants.{Begin, Commit, Return}
use Rattle.fs_share.specs.Played.{calls_begun}

-- on the seat of each number so many calls of its list began, in order, and no others
abbrev pub AreBegun : List (List Call) → List ℕ → List Entry → Type 0
AreBegun lists begun es = (seat : ℕ) → calls_begun seat es ≡ take (get_or begun seat 0) (get_or lists seat [])

-- whether an entry begins a call
abbrev pub begins_one : Entry → Bool
begins_one (Begin c seat call) = true
begins_one (Commit c) = false
begins_one (Return c r) = false

-- whether it returns one
abbrev pub returns_one : Entry → Bool
returns_one (Begin c seat call) = false
returns_one (Commit c) = false
returns_one (Return c r) = true
