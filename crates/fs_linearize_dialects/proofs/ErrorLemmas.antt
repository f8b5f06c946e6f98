-- Errors in one word.
use Rattle.std.proofs.Common.{◌≡◌, ℕ, List, [], ◌∷◌, ◌++◌, Option, Some, None, refl, sym, ap, ◌∙◌, append_assoc}
use Rattle.fs_calls.specs.declared.errno.Errno.{Errno}
use Rattle.fs_linearize_dialects.specs.Errors.{with_errno}

-- errors before those that are found
abbrev pub before_found : List Errno → Option (List Errno) → Option (List Errno)
before_found errors None = None
before_found errors (Some more) = Some (errors ++ more)

pub one_before : (errors : List Errno) (e : Errno) (more : Option (List Errno)) → before_found errors (with_errno (Some e) more) ≡ before_found (errors ++ e ∷ []) more
one_before errors e None = refl
one_before errors e (Some more) = ap Some (sym (append_assoc errors (e ∷ []) more))

pub none_before : (errors : List Errno) (more : Option (List Errno)) → before_found errors (with_errno None more) ≡ None
none_before errors more = refl
