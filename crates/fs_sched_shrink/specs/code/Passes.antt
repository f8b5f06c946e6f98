-- What trying one after the other comes to.
use Rattle.std.specs.Prelude.{ℕ, ◌≡◌, ◌<◌, ◌≤◌, Bool, true, false, List, get_or, slice_set, length}
use Rattle.fs_script.specs.declared.script.Script.{Script}
use Rattle.fs_sched.specs.declared.origin.Origin.{Origin}
use Rattle.fs_sched_find.specs.declared.what.Clause.{Clause}
use Rattle.fs_sched_shrink.specs.Moves.{is_named}
use Rattle.fs_sched_shrink.specs.Shrinks.{IsKeptOn, IsShrunkOn, IsSmallestOn}
use Rattle.fs_sched_shrink.specs.declared.cutting.Pass.{Pass}
use Rattle.fs_sched_shrink.specs.declared.cutting.Pass.TheVariants as pass
use Rattle.fs_sched_shrink.specs.declared.limits.TheConstants.{TRIAL_LIMIT}

-- calls that are named, and stay by the first flags, stay by the others
abbrev pub KeepsNamed : Script → List (List Clause) → List Bool → List Bool → Type 0
KeepsNamed script what kept left = (at : ℕ) → is_named script what at ≡ true → get_or kept at false ≡ true → get_or left at false ≡ true

-- of those before an index none can go
abbrev pub NoneGoes : Origin → Script → List (List Clause) → List Bool → ℕ → Type 0
NoneGoes from script what kept end = (at : ℕ) → at < end → get_or kept at false ≡ true → is_named script what at ≡ false → IsKeptOn from script what (slice_set kept at false) false

-- so far: one went, and a run was played for it; or none of these can go
abbrev pub IsPassTo : Origin → Script → List (List Clause) → List Bool → ℕ → ℕ → ℕ → Pass → Type 0
IsPassTo from script what kept end first last pass.Cut = first < last
IsPassTo from script what kept end first last pass.Smallest = NoneGoes from script what kept end
IsPassTo from script what kept end first last pass.Stopped = ⊥

-- before the next one is tried
pub record IsTrying (from : Origin) (script : Script) (what : List (List Clause)) (old kept : List Bool) (end first last : ℕ) (p : Pass) : Type 0 where
  pub shrunk : IsShrunkOn from script what kept
  pub sized : length kept ≡ length old
  pub low : first ≤ last
  pub high : last ≤ TRIAL_LIMIT
  pub pass : IsPassTo from script what kept end first last p

-- at the end: one went, or none can go, or no more runs are played
abbrev pub IsPass : Origin → Script → List (List Clause) → List Bool → ℕ → ℕ → Pass → Type 0
IsPass from script what kept first last pass.Cut = (first < last) × (last ≤ TRIAL_LIMIT)
IsPass from script what kept first last pass.Smallest = IsSmallestOn from script what kept
IsPass from script what kept first last pass.Stopped = last ≡ TRIAL_LIMIT
