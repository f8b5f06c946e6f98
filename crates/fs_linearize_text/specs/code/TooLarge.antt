-- A text that is too long.
use Rattle.std.specs.Prelude.{◌≡◌, ◌⊎◌, ℕ, true, List}
use Rattle.fs_words.specs.Headers.{is_too_long}
use Rattle.fs_words.specs.Reading.{fault_at}
use Rattle.fs_words.specs.declared.fault.FaultKind.TheVariants.{TooLarge}
use Rattle.fs_verdict.specs.declared.fault.RunFault.{RunFault}
use Rattle.fs_verdict.specs.declared.fault.RunFault.TheVariants.{Input, OutOfMemory}

-- the fault of a text that is too long, or out of memory
abbrev pub IsTooLarge : List ℕ → RunFault → Type 0
IsTooLarge text fault = (fault ≡ OutOfMemory) ⊎ ((is_too_long text ≡ true) × (fault ≡ Input (fault_at 1 TooLarge)))
