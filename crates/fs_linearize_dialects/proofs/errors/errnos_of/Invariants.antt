use Rattle.std.proofs.Common.{◌≡◌, map, drop}
use Rattle.fs_linearize_dialects.specs.Errors.{errnos_of}
use Rattle.fs_linearize_dialects.proofs.ErrorLemmas.{before_found}
use Rattle.fs_linearize_dialects.proofs.errors.errnos_of.Given as goal

abbrev pub invariant-loop-word : goal.invariant-loop-word
invariant-loop-word l = before_found l.errors (errnos_of (map (λ w. w.now) (drop l.word-index l.words))) ≡ errnos_of (map (λ w. w.now) l.words)
