-- What was made of the journal that was read is what the clauses say of the input.
use Rattle.std.proofs.Common.{◌≡◌, ℕ, List, [], Option, Result, Ok, Err, IfOk, IfSome, true, sym, ap, ◌∙◌, subst}
use Rattle.std.specs.Io.KnownBytes.{Appends}
use Rattle.fs_timeline.specs.declared.verdict.Verdict.{Verdict}
use Rattle.fs_verdict.specs.declared.shell.Made.{Made}
use Rattle.fs_verdict.specs.Checks.{is_lawful, verdict_of, verdict_line}
use Rattle.fs_verdict.specs.Commands.{IsMade}
use Rattle.fs_verdict.specs.Devices.{WritesBeginning, WritesBeginningOf}
use Rattle.fs_verdict.specs.Judged.{MakesVerdict}
use Rattle.fs_verdict.specs.declared.checking.Checked.{Checked}
use Rattle.fs_verdict.specs.declared.fault.RunFault.{RunFault}
use Rattle.fs_verdict.proofs.Performed.{of_known}

abbrev pub Makes : List ℕ → Result (Made Checked) RunFault → Type 0
Makes input result = MakesVerdict (verdict_of input) result

pub checked : (known old new : Option (List ℕ)) (result : Result Checked RunFault) → IfOk result (λ end. (made : Made Checked) × IsMade Makes known (Ok made) × (end ≡ made.end) × Appends old new made.text.items)
    → IfOk result (λ checked. (v : Verdict) × IfSome known (λ input. verdict_of input ≡ Ok v) × (checked.lawful ≡ is_lawful v) × Appends old new (verdict_line v))
checked known old new (Ok end) told =
    let judged = told.1.makes_it.ok in
    (judged.0, of_known (λ input. verdict_of input ≡ Ok judged.0) known told.1.input told.1.read judged.1, ap (λ (a : Checked). a.lawful) told.2 ∙ judged.2.end.lawful, subst (Appends old new) judged.2.text told.3)
checked known old new (Err f) told = tt

pub quiet : (known old new : Option (List ℕ)) (result : Result Checked RunFault) → IfOk result (λ end. (made : Made Checked) × IsMade Makes known (Ok made) × (end ≡ made.end) × Appends old new made.text.items)
    → IfOk result (λ checked. checked.lawful ≡ true → checked.reason.items ≡ [])
quiet known old new (Ok end) told = λ lawful. ap (λ (a : Checked). a.reason.items) told.2 ∙ told.1.makes_it.ok.2.end.quiet (sym (ap (λ (a : Checked). a.lawful) told.2) ∙ lawful)
quiet known old new (Err f) told = tt

pub begun : (known old new : Option (List ℕ)) → (made : Made Checked) × IsMade Makes known (Ok made) × WritesBeginning made.text.items old new → IfSome known (λ input. WritesBeginningOf verdict_line (verdict_of input) old new)
begun known old new told =
    let judged = told.1.makes_it.ok in
    of_known (λ input. WritesBeginningOf verdict_line (verdict_of input) old new) known told.1.input told.1.read
    (subst (λ given. WritesBeginningOf verdict_line given old new) (sym judged.1) (subst (λ text. WritesBeginning text old new) judged.2.text told.2))
