-- Lemmas on checks in order.
use Rattle.std.proofs.Common.{◌≡◌, Bool, true, false, Option, Some, None, refl}
use Rattle.fs_names.specs.Failures.{check, or_else}

-- where two checks find nothing, neither does
pub or_else-none : {F : Type 0} (a b : Option F) → or_else a b ≡ None → (a ≡ None) × (b ≡ None)
or_else-none None b e = (refl, e)
or_else-none (Some f) b e = absurd (cc)

-- a check that finds nothing has a test that fails
pub check-none : {F : Type 0} (b : Bool) (f : F) → check b f ≡ None → b ≡ false
check-none true f e = absurd (cc)
check-none false f e = refl

-- checks in order may be put together in any way
pub or_else-assoc : {F : Type 0} (a b c : Option F) → or_else a (or_else b c) ≡ or_else (or_else a b) c
or_else-assoc None b c = refl
or_else-assoc (Some f) b c = refl
