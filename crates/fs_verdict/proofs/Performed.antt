-- What a command whose faults wrap those of a run says of its input and of the devices.
use Rattle.std.proofs.Common.{◌≡◌, ◌≢◌, ℕ, List, Option, Some, None, Result, Ok, Err, IfSome, IsErrOf, OnErr, refl, ap, sym, subst}
use Rattle.fs_verdict.specs.declared.shell.Made.{Made}
use Rattle.fs_verdict.specs.Devices.{KeepsDevices, WritesBeginning}
use Rattle.fs_verdict.specs.Commands.{IsMade, Transforms, wrapped}
use Rattle.fs_verdict.specs.declared.fault.RunFault.{RunFault}
use Rattle.fs_verdict.specs.declared.fault.RunFault.TheVariants.{Read, Write, OutOfMemory}

-- what holds of the input that something was made of holds of what the source gave
pub of_known : (P : List ℕ → Type 0) (known : Option (List ℕ)) (input : List ℕ) → IfSome known (λ given. given ≡ input) → P input → IfSome known P
of_known P None input same holds = tt
of_known P (Some given) input same holds = subst P (sym same) holds

-- each fault of a run is wrapped as one of its own
abbrev pub Apart : {E : Type 0} → (RunFault → E) → Type 0
Apart wrap = (a b : RunFault) → wrap a ≡ wrap b → a ≡ b

pub apart_itself : Apart {E = RunFault} (λ run. run)
apart_itself a b same = same

-- a fault that is of no device, and not want of memory, is why nothing was made of the input
pub unmade : {R W T E : Type 0} (wrap : RunFault → E) (makes : List ℕ → Result (Made T) E → Type 0) (remaining : R → Option (List ℕ)) (reads : R → ℕ) (contents : W → Option (List ℕ)) (writes : W → ℕ) (reader reader' : R) (writer writer' : W) (result : Result T E)
    → Transforms makes (wrapped wrap) remaining reads contents writes reader reader' writer writer' result → (f : E) → result ≡ Err f → f ≢ wrap Read → f ≢ wrap Write → f ≢ wrap OutOfMemory → IsMade makes (remaining reader) (Err f)
unmade wrap makes remaining reads contents writes reader reader' writer writer' result done f is no_read no_write no_memory = done.unmade f is (record { read = no_read; write = no_write }) no_memory

nothing_written : {W T E : Type 0} (unwritten : E) (writer writer' : W) (result : Result T E) → ((f : E) → result ≡ Err f → (f ≡ unwritten → ⊥) → writer' ≡ writer) → result ≢ Err unwritten → OnErr result (writer' ≡ writer)
nothing_written unwritten writer writer' (Ok end) kept other = tt
nothing_written unwritten writer writer' (Err f) kept other = kept f refl (λ is. other (ap Err is))

pub keeps_devices : {R W T E : Type 0} (wrap : RunFault → E) → Apart wrap → (makes : List ℕ → Result (Made T) E → Type 0) (remaining : R → Option (List ℕ)) (reads : R → ℕ) (contents : W → Option (List ℕ)) (writes : W → ℕ) (reader reader' : R) (writer writer' : W) (result : Result T E)
    → Transforms makes (wrapped wrap) remaining reads contents writes reader reader' writer writer' result → KeepsDevices reads writes reader reader' writer writer' (wrap Read) (wrap Write) result
keeps_devices wrap apart makes remaining reads contents writes reader reader' writer writer' result done = record {
  read = λ is. done.read (wrap Read) is refl (λ z. let same = apart _ _ z in absurd (cc)) (λ z. let same = apart _ _ z in absurd (cc));
  write = λ is. done.write (wrap Write) is refl (λ z. let same = apart _ _ z in absurd (cc)) (λ z. let same = apart _ _ z in absurd (cc));
  nothing = nothing_written (wrap Write) writer writer' result done.nothing;
}

-- after a failed write a beginning of what was made stands
pub beginning : {R W T E : Type 0} (wrap : RunFault → E) → Apart wrap → (makes : List ℕ → Result (Made T) E → Type 0) (remaining : R → Option (List ℕ)) (reads : R → ℕ) (contents : W → Option (List ℕ)) (writes : W → ℕ) (reader reader' : R) (writer writer' : W) (result : Result T E)
    → Transforms makes (wrapped wrap) remaining reads contents writes reader reader' writer writer' result → IsErrOf result (wrap Write) → (made : Made T) × IsMade makes (remaining reader) (Ok made) × WritesBeginning made.text.items (contents writer) (contents writer')
beginning wrap apart makes remaining reads contents writes reader reader' writer writer' result done is = done.beginning (wrap Write) is refl (λ z. let same = apart _ _ z in absurd (cc)) (λ z. let same = apart _ _ z in absurd (cc))
