-- A command, what it made written in another form.
use Rattle.std.specs.Prelude.{◌≡◌, ◌⊎◌, ℕ, List, Result, Ok, Err}
use Rattle.fs_verdict.specs.declared.shell.Made.{Made}
use Rattle.fs_verdict.specs.declared.fault.RunFault.{RunFault}
use Rattle.fs_verdict.specs.declared.fault.RunFault.TheVariants.{OutOfMemory}

-- what the command answers is answered, and the text is another one of what it made; without memory there is none
abbrev pub WritesAs : {T E : Type 0} → (List ℕ → Result (Made T) E → Type 0) → (RunFault → E → Type 0) → (Made T → List ℕ) → List ℕ → Result (Made T) E → Type 0
WritesAs {T} makes gives text_of input (Ok made) = (plain : Made T) × makes input (Ok plain) × (made.end ≡ plain.end) × (made.text.items ≡ text_of plain)
WritesAs makes gives text_of input (Err fault) = makes input (Err fault) ⊎ gives OutOfMemory fault
