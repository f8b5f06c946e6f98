-- How many calls have returned, and when all have.
use Rattle.std.specs.Prelude.{ℕ, ◌≡◌, ◌+◌, true, List, [], ◌∷◌}
use Rattle.fs_timeline.specs.Timeline.{has_begun, has_returned}
use Rattle.fs_timeline.specs.declared.entry.Entry.{Entry}
use Rattle.fs_timeline.specs.declared.entry.Entry.TheVariants.{Begin, Commit, Return}
use Rattle.fs_machine.specs.declared.answers.Stepped.{Stepped}
use Rattle.fs_machine.specs.declared.answers.Stepped.TheVariants.{Returned}

-- how many Return entries there are
abbrev pub returns : List Entry → ℕ
returns [] = 0
returns (Begin c seat call ∷ es) = returns es
returns (Commit c ∷ es) = returns es
returns (Return c r ∷ es) = returns es + 1

-- 1 where a step's call returned
abbrev pub answered : Stepped → ℕ
answered (Returned r) = 1
answered s = 0

-- every call that began has returned
abbrev pub AllReturned : List Entry → Type 0
AllReturned es = (c : ℕ) → has_begun c es ≡ true → has_returned c es ≡ true
