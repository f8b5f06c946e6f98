-- The check of a journal is honest.
use Rattle.std.proofs.Common.{OnErr, ap, subst, sym}
use Rattle.fs_script.proofs.HeaderLemmas.{long_journal}
use Rattle.fs_verdict.specs.Checks.{judged, verdict_of}
use Rattle.fs_verdict.specs.Commands.{IsHonest, itself}
use Rattle.fs_verdict.specs.code.CommandLaws.{by_reading}
use Rattle.fs_verdict.specs.Judged.{MakesVerdict}

pub check_honest : IsHonest (λ input. MakesVerdict (verdict_of input)) itself
check_honest = by_reading verdict_of (λ text long. ap judged (long_journal text long)) MakesVerdict
    (λ f made is. subst (λ given. OnErr given ⊥) (sym is.ok.1) tt) (λ given fault is. is.fault)
