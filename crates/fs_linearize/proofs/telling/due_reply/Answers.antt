use Rattle.std.proofs.Common.{◌≡◌, Option, subst}
use Rattle.std.specs.Prelude.{IfSome}
use Rattle.fs_linearize.specs.code.Tellings.{IsDueTo}
use Rattle.fs_linearize.specs.declared.telling.Kept.{Kept}
use Rattle.fs_linearize.proofs.TellingLemmas.{kept_filled}
use Rattle.fs_linearize.proofs.telling.due_reply.Goals as goal

pub returns-in-Some : goal.returns-in-Some
returns-in-Some c = λ p is.
    let number = c.args.number in
    let start = c.args.start.now in
    let journal = c.args.journal.now in
    let same = subst (λ (o : Option Kept). IfSome o (λ one. one.number ≡ number)) c.in-Some.is c.requires in
    let owed = subst (λ (o : Option Kept). IfSome o (IsDueTo start journal)) c.in-Some.is is in
    kept_filled start journal number p c.in-Some.one same owed
