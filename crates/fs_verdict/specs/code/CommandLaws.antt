-- The laws of a command that reads its input by a definition which refuses what is too long.
use Rattle.std.proofs.Common.{◌≡◌, ℕ, List, Result, Ok, Err, true, sym, ◌∙◌, subst}
use Rattle.std.proofs.lemmas.Bool.{false_from_ne_true}
use Rattle.fs_words.specs.Headers.{is_too_long}
use Rattle.fs_words.specs.Reading.{fault_at}
use Rattle.fs_words.specs.declared.fault.ScriptFault.{ScriptFault}
use Rattle.fs_words.specs.declared.fault.FaultKind.TheVariants.{TooLarge}
use Rattle.fs_verdict.specs.declared.shell.Made.{Made}
use Rattle.fs_verdict.specs.declared.fault.RunFault.{RunFault}
use Rattle.fs_verdict.specs.declared.fault.RunFault.TheVariants.{Input, Read, Write, OutOfMemory, Full, UnderWay}
use Rattle.fs_verdict.specs.Commands.{IsHonest, IsNoDevice, itself, wrapped}
use Rattle.fs_verdict.specs.InputFaults.{IsFaultOf}

-- a text that is too long is refused
abbrev pub Refuses : {X : Type 0} → (List ℕ → Result X ScriptFault) → Type 0
Refuses read = (text : List ℕ) → is_too_long text ≡ true → read text ≡ Err (fault_at 1 TooLarge)

-- a fault of the input, or want of memory, is of no device
pub no_device : {X : Type 0} (given : Result X ScriptFault) (fault : RunFault) → IsFaultOf given fault → IsNoDevice itself fault
no_device given fault is = record { read = λ e. subst (IsFaultOf given) e is; write = λ e. subst (IsFaultOf given) e is }

abbrev pub IsMemory : RunFault → Type 0
IsMemory (Input f) = ⊥
IsMemory Read = ⊥
IsMemory Write = ⊥
IsMemory OutOfMemory = Unit {0}
IsMemory Full = ⊥
IsMemory (UnderWay c) = ⊥

-- want of memory is of no device, where each fault of a run is wrapped as one of its own
pub memory_of : {E : Type 0} (wrap : RunFault → E) → ((a b : RunFault) → wrap a ≡ wrap b → a ≡ b) → (fault : E) → wrapped wrap OutOfMemory fault → IsNoDevice (wrapped wrap) fault
memory_of wrap apart fault is = record { read = λ e. subst IsMemory (apart _ _ (sym is ∙ e)) tt; write = λ e. subst IsMemory (apart _ _ (sym is ∙ e)) tt }

-- what is made of what is read is honest, where no text is made of what is refused, and the faults are those of the input
pub by_reading : {X T : Type 0} (read : List ℕ → Result X ScriptFault) → Refuses read → (makes : Result X ScriptFault → Result (Made T) RunFault → Type 0)
    → ((f : ScriptFault) (made : Made T) → makes (Err f) (Ok made) → ⊥) → ((given : Result X ScriptFault) (fault : RunFault) → makes given (Err fault) → IsFaultOf given fault)
    → IsHonest (λ input. makes (read input)) itself
by_reading read refuses makes none faults = record {
  short = λ text made is. false_from_ne_true _ (λ long. none _ made (subst (λ given. makes given (Ok made)) (refuses text long) is));
  long = λ text input fault long too is. subst (λ given. makes given (Err fault)) (refuses text long ∙ sym (refuses input too)) is;
  unblamed = λ text fault is. no_device (read text) fault (faults (read text) fault is);
  memory = memory_of (λ run. run) (λ a b same. same);
}
