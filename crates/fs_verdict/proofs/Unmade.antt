-- The faults of runners between a reader and a writer.
use Rattle.std.proofs.Common.{◌≡◌, ◌≢◌, refl, ap, sym, ◌∙◌, subst}
use Rattle.fs_verdict.specs.declared.failure.Failure.{Failure}
use Rattle.fs_verdict.specs.declared.failure.Failure.TheVariants as failure
use Rattle.fs_verdict.specs.Faults.{IsBetween}
use Rattle.fs_verdict.specs.declared.fault.RunFault.{RunFault}
use Rattle.fs_verdict.specs.declared.fault.RunFault.TheVariants.{Read, Write, OutOfMemory}

-- a fault that no device and no lack of memory gives is why no text was made
pub unmade : {E : Type 0} (gives : RunFault → E → Type 0) (g : Failure E) (x f : E) → IsBetween gives g x → x ≡ f → (gives Read f → ⊥) → (gives Write f → ⊥) → (gives OutOfMemory f → ⊥) → g ≡ failure.Unmade f
unmade gives failure.Read x f is e no_read no_write no_memory = absurd (no_read (subst (gives Read) e is))
unmade gives failure.Write x f is e no_read no_write no_memory = absurd (no_write (subst (gives Write) e is))
unmade gives failure.OutOfMemory x f is e no_read no_write no_memory = absurd (no_memory (subst (gives OutOfMemory) e is))
unmade gives (failure.Unmade h) x f is e no_read no_write no_memory = ap failure.Unmade (sym is ∙ e)

-- the writer failed, where no reader and no lack of memory gives the fault, and what makes a text does not either
pub unwritten : {E : Type 0} (gives : RunFault → E → Type 0) (g : Failure E) (x f : E) → IsBetween gives g x → x ≡ f → (gives Read f → ⊥) → (gives OutOfMemory f → ⊥) → ((h : E) → g ≡ failure.Unmade h → h ≢ f) → g ≡ failure.Write
unwritten gives failure.Read x f is e no_read no_memory never = absurd (no_read (subst (gives Read) e is))
unwritten gives failure.Write x f is e no_read no_memory never = refl
unwritten gives failure.OutOfMemory x f is e no_read no_memory never = absurd (no_memory (subst (gives OutOfMemory) e is))
unwritten gives (failure.Unmade h) x f is e no_read no_memory never = absurd (never h refl (sym is ∙ e))
