-- Checks in order, of which the first that fails is the answer.
use Rattle.std.specs.Prelude.{Bool, true, false, List, [], ◌∷◌, Option, Some, None}

-- a check: what is wrong where the test holds
abbrev pub check : {F : Type 0} → Bool → F → Option F
check true fault = Some fault
check false fault = None

-- the first of two
abbrev pub or_else : {F : Type 0} → Option F → Option F → Option F
or_else None later = later
or_else (Some fault) later = Some fault

-- the first of several
abbrev pub first_failure : {F : Type 0} → List (Option F) → Option F
first_failure [] = None
first_failure (one ∷ others) = or_else one (first_failure others)
