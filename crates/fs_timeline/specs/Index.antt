-- Which entries an indexed timeline takes, and where a call's commit stands.
use Rattle.std.specs.Prelude.{◌≡◌, ℕ, ◌+◌, true, false, List, length, if◌then◌else◌, Option, Some, None}
use Rattle.fs_timeline.specs.Timeline.{has_begun, has_committed, begins, commits, before_commit}
use Rattle.fs_timeline.specs.declared.entry.Entry.{Entry}
use Rattle.fs_timeline.specs.declared.entry.Entry.TheVariants.{Begin, Commit, Return}

-- the entry may come next: a call's number is the number of begins with it; a call commits once, after its Begin
abbrev pub Fits : List Entry → Entry → Type 0
Fits before (Begin c seat call) = c ≡ begins before + 1
Fits before (Commit c) = (has_begun c before ≡ true) × (has_committed c before ≡ false)
Fits before (Return c r) = Unit {0}

-- how many calls commit before a call does, if it has committed
abbrev pub place_of : ℕ → List Entry → Option ℕ
place_of c es = if has_committed c es then Some (length (commits (before_commit c es))) else None
