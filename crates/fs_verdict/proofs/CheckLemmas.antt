-- What has a verdict.
use Rattle.std.proofs.Common.{◌≡◌, ℕ, false, List, Ok, Err, ap, subst}
use Rattle.std.proofs.lemmas.Bool.{false_from_ne_true}
use Rattle.fs_timeline.specs.declared.verdict.Verdict.{Verdict}
use Rattle.fs_words.specs.Headers.{is_too_long}
use Rattle.fs_words.specs.Reading.{fault_at}
use Rattle.fs_script.proofs.HeaderLemmas.{long_journal}
use Rattle.fs_words.specs.declared.fault.FaultKind.TheVariants as kind
use Rattle.fs_verdict.specs.Checks.{judged, verdict_of}

-- what has a verdict is not too long
pub verdict_short : (text items : List ℕ) (v : Verdict) → text ≡ items → verdict_of text ≡ Ok v → is_too_long items ≡ false
verdict_short text items v e h = subst (λ (l : List ℕ). is_too_long l ≡ false) e (false_from_ne_true _ (λ t. let long : verdict_of text ≡ Err (fault_at 1 kind.TooLarge) = ap judged (long_journal text t) in absurd (cc)))
