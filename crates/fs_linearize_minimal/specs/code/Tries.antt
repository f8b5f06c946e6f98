-- What trying a part of a history comes to.
use Rattle.std.specs.Prelude.{◌≡◌, ℕ, true, List}
use Rattle.fs_calls.specs.Starts.{Start}
use Rattle.fs_linearize_histories.specs.declared.heard.Heard.{Heard}
use Rattle.fs_linearize_minimal.specs.Reasons.{CouldBeRight, IsNotRight}
use Rattle.fs_linearize_minimal.specs.declared.reason.Reason.{Reason}

-- the reply could still be right, if it could before
abbrev pub IsKept : Start → Reason → List Heard → Type 0
IsKept start reason h = reason.race ≡ true → CouldBeRight start reason.call h

-- it could before, and it is not found that it could now
abbrev pub IsLost : Start → ℕ → Reason → List Heard → Type 0
IsLost start limit reason h = (reason.race ≡ true) × IsNotRight start limit reason.call h
