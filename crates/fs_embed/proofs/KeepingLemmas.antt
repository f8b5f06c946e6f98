-- What a core forgets by itself.
use Rattle.std.proofs.Common.{◌≡◌, ◌≢◌, ℕ, Option, Some, None, Result, Ok, Err, OnOk, IfErr, OnErr, inl, inr, refl, sym, ap, ◌∙◌}
use Rattle.fs_machine.specs.States.{begun_again}
use Rattle.fs_core.specs.Checkpoints.{IsWhyNot}
use Rattle.fs_core.specs.CoreValues.{CoreValue, state_of, IsAtRest}
use Rattle.fs_core.specs.declared.checkpoint.NoCheckpoint.{NoCheckpoint}
use Rattle.fs_core.specs.declared.checkpoint.NoCheckpoint.TheVariants.{UnderWay, OutOfMemory}
use Rattle.fs_embed.specs.Keeping.{IsOver, Keeps}

some_none : (c : ℕ) → ◌≡◌ {A = Option ℕ} (Some c) None → ⊥
some_none c e = cc

pub keeps_by : (most : Option ℕ) (old new : CoreValue) (result : Result ℕ NoCheckpoint) → IsOver most old → OnOk result (IsAtRest old) → OnOk result (state_of new ≡ begun_again (state_of old)) → new.seats ≡ old.seats
    → IfErr result (IsWhyNot old) → OnErr result (new ≡ record old { refusals = new.refusals }) → (result ≢ Err OutOfMemory → new.refusals ≡ old.refusals) → (result ≡ Err OutOfMemory → new.refusals ≢ old.refusals) → Keeps most old new
keeps_by most old new (Ok count) over rest again seats why same granted refused = inr (over, inl (record { rest = rest; again = again; seats = seats; refusals = granted (λ e. cc) }))
keeps_by most old new (Err (UnderWay c)) over rest again seats why same granted refused =
    inl (same ∙ ap (λ (n : ℕ). record old { refusals = n }) (granted (λ e. cc)), λ more at_rest. some_none c (sym why.under_way ∙ at_rest why.seat))
keeps_by most old new (Err OutOfMemory) over rest again seats why same granted refused = inr (over, inr (record { rest = why; counted = refused refl; same = same }))
