-- What a command does between a source and a sink.
use Rattle.std.specs.Prelude.{◌≡◌, ◌+◌, ℕ, List, true, false, Option, Result, Ok, Err, IfOk, OnOk, IfSome}
use Rattle.std.specs.Io.KnownBytes.{Appends, IsAtEnd}
use Rattle.fs_words.specs.Headers.{is_too_long}
use Rattle.fs_verdict.specs.declared.shell.Made.{Made}
use Rattle.fs_verdict.specs.Devices.{WritesBeginning}
use Rattle.fs_verdict.specs.declared.fault.RunFault.{RunFault}
use Rattle.fs_verdict.specs.declared.fault.RunFault.TheVariants.{Read, Write, OutOfMemory}

-- no device gives this fault
pub record IsNoDevice {E : Type 0} (gives : RunFault → E → Type 0) (fault : E) : Type 0 where
  pub read : gives Read fault → ⊥
  pub write : gives Write fault → ⊥

-- of what is too long no text is made, and for the same faults; and no device is blamed for that
pub record IsHonest {T E : Type 0} (makes : List ℕ → Result (Made T) E → Type 0) (gives : RunFault → E → Type 0) : Type 0 where
  pub short : (text : List ℕ) (made : Made T) → makes text (Ok made) → is_too_long text ≡ false
  pub long : (text input : List ℕ) (fault : E) → is_too_long text ≡ true → is_too_long input ≡ true → makes text (Err fault) → makes input (Err fault)
  pub unblamed : (text : List ℕ) (fault : E) → makes text (Err fault) → IsNoDevice gives fault
  pub memory : (fault : E) → gives OutOfMemory fault → IsNoDevice gives fault

-- this was made of an input, which is what the source gave where that is known
pub record IsMade {T E : Type 0} (makes : List ℕ → Result (Made T) E → Type 0) (known : Option (List ℕ)) (result : Result (Made T) E) : Type 0 where
  pub input : List ℕ
  pub read : IfSome known (λ given. given ≡ input)
  pub makes_it : makes input result

-- what was made of what was read is answered and written, the whole of the input was read, and a device is blamed only where it failed
pub record Transforms {R W T E : Type 0} (makes : List ℕ → Result (Made T) E → Type 0) (gives : RunFault → E → Type 0) (remaining : R → Option (List ℕ)) (reads : R → ℕ) (contents : W → Option (List ℕ)) (writes : W → ℕ) (reader reader' : R) (writer writer' : W) (result : Result T E) : Type 0 where
  pub ok : IfOk result (λ end. (made : Made T) × IsMade makes (remaining reader) (Ok made) × (end ≡ made.end) × Appends (contents writer) (contents writer') made.text.items)
  pub end : OnOk result (IsAtEnd (remaining reader'))
  -- a fault of no device is why nothing was made, unless memory ran out
  pub unmade : (f : E) → result ≡ Err f → IsNoDevice gives f → (gives OutOfMemory f → ⊥) → IsMade makes (remaining reader) (Err f)
  pub read : (f : E) → result ≡ Err f → gives Read f → (gives Write f → ⊥) → (gives OutOfMemory f → ⊥) → reads reader' ≡ reads reader + 1
  pub write : (f : E) → result ≡ Err f → gives Write f → (gives Read f → ⊥) → (gives OutOfMemory f → ⊥) → writes writer' ≡ writes writer + 1
  pub nothing : (f : E) → result ≡ Err f → (gives Write f → ⊥) → writer' ≡ writer
  pub beginning : (f : E) → result ≡ Err f → gives Write f → (gives Read f → ⊥) → (gives OutOfMemory f → ⊥) → (made : Made T) × IsMade makes (remaining reader) (Ok made) × WritesBeginning made.text.items (contents writer) (contents writer')

-- the faults of runs, each wrapped as one of these
abbrev pub wrapped : {E : Type 0} → (RunFault → E) → RunFault → E → Type 0
wrapped wrap run fault = fault ≡ wrap run

-- as they are
abbrev pub itself : RunFault → RunFault → Type 0
itself = wrapped (λ run. run)
