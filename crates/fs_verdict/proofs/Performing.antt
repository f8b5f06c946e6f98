-- What a command does between a source and a sink, from the way between them.
use Rattle.std.proofs.Common.{◌≡◌, ℕ, List, Option, Some, None, Result, Ok, Err, IfSome, inl, inr, refl, subst, sym, ◌∙◌}
use Rattle.std.proofs.lemmas.Bool.{true≢false}
use Rattle.std.specs.Io.KnownBytes.{Appends, IsAtEnd}
use Rattle.fs_verdict.specs.declared.shell.Made.{Made}
use Rattle.fs_verdict.specs.declared.failure.Failure.{Failure}
use Rattle.fs_verdict.specs.declared.failure.Failure.TheVariants as failure
use Rattle.fs_verdict.specs.Devices.{IsSameText, KeepsDevices, WritesBeginning}
use Rattle.fs_verdict.specs.Commands.{IsHonest, IsMade, IsNoDevice, Transforms}
use Rattle.fs_verdict.specs.Faults.{IsBetween}
use Rattle.fs_verdict.specs.declared.fault.RunFault.{RunFault}
use Rattle.fs_verdict.specs.declared.fault.RunFault.TheVariants.{Read, Write, OutOfMemory}

-- what was made of what was read was made of the input
pub read_by : {T E : Type 0} (makes : List ℕ → Result (Made T) E → Type 0) (gives : RunFault → E → Type 0) → IsHonest makes gives → (known : Option (List ℕ)) (text : List ℕ) (result : Result (Made T) E) → IfSome known (IsSameText text) → makes text result → IsMade makes known result
read_by makes gives honest None text result same is = record { input = text; read = tt; makes_it = is }
read_by makes gives honest (Some given) text result (inl e) is = record { input = given; read = refl; makes_it = subst (λ t. makes t result) e is }
read_by makes gives honest (Some given) text (Ok made) (inr both) is = absurd (true≢false (sym both.0 ∙ honest.short text made is))
read_by makes gives honest (Some given) text (Err fault) (inr both) is = record { input = given; read = refl; makes_it = honest.long text given fault both.0 both.1 is }

-- so was nothing, and no device is blamed for that
pub made_none : {T E : Type 0} (makes : List ℕ → Result (Made T) E → Type 0) (gives : RunFault → E → Type 0) → IsHonest makes gives → (known : Option (List ℕ)) (text : List ℕ) (fault : E) → IfSome known (IsSameText text) → makes text (Err fault) → IsMade makes known (Err fault) × IsNoDevice gives fault
made_none makes gives honest known text fault same is = (read_by makes gives honest known text (Err fault) same is, honest.unblamed text fault is)

-- all was written
pub written : {R W T E : Type 0} (makes : List ℕ → Result (Made T) E → Type 0) (gives : RunFault → E → Type 0) (remaining : R → Option (List ℕ)) (reads : R → ℕ) (contents : W → Option (List ℕ)) (writes : W → ℕ) (reader reader' : R) (writer writer' : W) (end : T) (made : Made T)
    → IsMade makes (remaining reader) (Ok made) → end ≡ made.end → Appends (contents writer) (contents writer') made.text.items → IsAtEnd (remaining reader') → Transforms makes gives remaining reads contents writes reader reader' writer writer' (Ok end)
written makes gives remaining reads contents writes reader reader' writer writer' end made is same appends at_end = record {
  ok = (made, is, same, appends);
  end = at_end;
  unmade = λ f no a b. absurd (cc);
  read = λ f no a b d. absurd (cc);
  write = λ f no a b d. absurd (cc);
  nothing = λ f no a. absurd (cc);
  beginning = λ f no a b d. absurd (cc);
}

-- not all was written, by this failure of the way
pub failed : {R W T E : Type 0} (makes : List ℕ → Result (Made T) E → Type 0) (gives : RunFault → E → Type 0) (remaining : R → Option (List ℕ)) (reads : R → ℕ) (contents : W → Option (List ℕ)) (writes : W → ℕ) (reader reader' : R) (writer writer' : W) (g : Failure E) (x : E)
    → IsBetween gives g x → KeepsDevices {T = T} reads writes reader reader' writer writer' failure.Read failure.Write (Err g)
    → ((e : E) → g ≡ failure.Unmade e → IsMade makes (remaining reader) (Err e) × IsNoDevice gives e)
    → (g ≡ failure.Write → (made : Made T) × IsMade makes (remaining reader) (Ok made) × WritesBeginning made.text.items (contents writer) (contents writer'))
    → Transforms {T = T} makes gives remaining reads contents writes reader reader' writer writer' (Err x)
failed makes gives remaining reads contents writes reader reader' writer writer' failure.Read x is keeps unmade begun = record {
  ok = tt;
  end = tt;
  unmade = λ f e no no_memory. let same : x ≡ f = cc in absurd (no.read (subst (gives Read) same is));
  read = λ f e a b d. keeps.read refl;
  write = λ f e a no d. let same : x ≡ f = cc in absurd (no (subst (gives Read) same is));
  nothing = λ f e a. keeps.nothing (λ z. cc);
  beginning = λ f e a no d. let same : x ≡ f = cc in absurd (no (subst (gives Read) same is));
}
failed makes gives remaining reads contents writes reader reader' writer writer' failure.Write x is keeps unmade begun = record {
  ok = tt;
  end = tt;
  unmade = λ f e no no_memory. let same : x ≡ f = cc in absurd (no.write (subst (gives Write) same is));
  read = λ f e a no d. let same : x ≡ f = cc in absurd (no (subst (gives Write) same is));
  write = λ f e a b d. keeps.write refl;
  nothing = λ f e no. let same : x ≡ f = cc in absurd (no (subst (gives Write) same is));
  beginning = λ f e a b d. begun refl;
}
failed makes gives remaining reads contents writes reader reader' writer writer' failure.OutOfMemory x is keeps unmade begun = record {
  ok = tt;
  end = tt;
  unmade = λ f e a no. let same : x ≡ f = cc in absurd (no (subst (gives OutOfMemory) same is));
  read = λ f e a b no. let same : x ≡ f = cc in absurd (no (subst (gives OutOfMemory) same is));
  write = λ f e a b no. let same : x ≡ f = cc in absurd (no (subst (gives OutOfMemory) same is));
  nothing = λ f e a. keeps.nothing (λ z. cc);
  beginning = λ f e a b no. let same : x ≡ f = cc in absurd (no (subst (gives OutOfMemory) same is));
}
failed makes gives remaining reads contents writes reader reader' writer writer' (failure.Unmade h) x is keeps unmade begun = record {
  ok = tt;
  end = tt;
  unmade = λ f e a b. let same : h ≡ f = cc in subst (λ z. IsMade makes (remaining reader) (Err z)) same (unmade h refl).0;
  read = λ f e wrong b d. let same : f ≡ h = cc in absurd ((unmade h refl).1.read (subst (gives Read) same wrong));
  write = λ f e wrong b d. let same : f ≡ h = cc in absurd ((unmade h refl).1.write (subst (gives Write) same wrong));
  nothing = λ f e a. keeps.nothing (λ z. cc);
  beginning = λ f e wrong b d. let same : f ≡ h = cc in absurd ((unmade h refl).1.write (subst (gives Write) same wrong));
}
