-- What is read from a source and written to a sink.
use Rattle.std.specs.Prelude.{◌≡◌, ◌≢◌, true, ◌<◌, ◌+◌, ◌⊎◌, ℕ, List, length, take, Option, Result, Ok, Err, IsErrOf, OnErr}
use Rattle.std.specs.Io.KnownBytes.{Appends}
use Rattle.fs_words.specs.Headers.{is_too_long}
use Rattle.fs_verdict.specs.declared.failure.Failure.{Failure}
use Rattle.fs_verdict.specs.declared.failure.Failure.TheVariants.{Read, Write, OutOfMemory, Unmade}

-- the text is the input, or both are longer than their first line allows
abbrev pub IsSameText : List ℕ → List ℕ → Type 0
IsSameText text input = (text ≡ input) ⊎ ((is_too_long text ≡ true) × (is_too_long input ≡ true))

-- the source failed once more, or an allocation failed
abbrev pub FailsToRead : {E : Type 0} → ℕ → ℕ → Failure E → Type 0
FailsToRead before after Read = after ≡ before + 1
FailsToRead before after Write = ⊥
FailsToRead before after OutOfMemory = Unit {0}
FailsToRead before after (Unmade e) = ⊥

-- a beginning of the text was written, and not all of it
abbrev pub WritesBeginning : List ℕ → Option (List ℕ) → Option (List ℕ) → Type 0
WritesBeginning text old new = (n : ℕ) × (n < length text) × Appends old new (take n text)

-- the same of the text of what the input gives
abbrev pub WritesBeginningOf : {X F : Type 0} → (X → List ℕ) → Result X F → Option (List ℕ) → Option (List ℕ) → Type 0
WritesBeginningOf text_of (Ok x) old new = WritesBeginning (text_of x) old new
WritesBeginningOf text_of (Err f) old new = ⊥

-- a device is blamed, by these faults, only where it failed in this call; and after every error but that of the writer nothing was written
pub record KeepsDevices {R W T E : Type 0} (reads : R → ℕ) (writes : W → ℕ) (reader reader' : R) (writer writer' : W) (unread unwritten : E) (result : Result T E) : Type 0 where
  pub read : IsErrOf result unread → reads reader' ≡ reads reader + 1
  pub write : IsErrOf result unwritten → writes writer' ≡ writes writer + 1
  pub nothing : result ≢ Err unwritten → OnErr result (writer' ≡ writer)
