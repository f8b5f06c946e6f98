-- A command is as honest in another form.
use Rattle.std.proofs.Common.{⊎_elim, inl, inr, ℕ, List, Result}
use Rattle.fs_verdict.specs.declared.shell.Made.{Made}
use Rattle.fs_verdict.specs.declared.fault.RunFault.{RunFault}
use Rattle.fs_verdict.specs.Commands.{IsHonest}
use Rattle.fs_verdict.specs.Forms.{WritesAs}

pub form_honest : {T E : Type 0} (makes : List ℕ → Result (Made T) E → Type 0) (gives : RunFault → E → Type 0) (text_of : Made T → List ℕ) → IsHonest makes gives → IsHonest (WritesAs makes gives text_of) gives
form_honest makes gives text_of honest = record {
  short = λ text made is. honest.short text is.0 is.1;
  long = λ text input fault long too is. ⊎_elim (λ made. inl (honest.long text input fault long too made)) (λ none. inr none) is;
  unblamed = λ text fault is. ⊎_elim (λ made. honest.unblamed text fault made) (λ none. honest.memory fault none) is;
  memory = honest.memory;
}
