-- Parts of a history.
use Rattle.std.specs.Prelude.{◌≡◌, ◌⊎◌, ℕ, List, [], ◌∷◌, ◌++◌, if◌then◌else◌}
use Rattle.fs_linearize_histories.specs.declared.heard.Heard.{Heard}
use Rattle.fs_linearize_histories.specs.declared.heard.Heard.TheVariants.{Begin, Return}
use Rattle.fs_linearize_histories.specs.Configurations.{is_in}

-- some of these entries, in their order
abbrev pub IsPartOf : List Heard → List Heard → Type 0
IsPartOf part [] = part ≡ []
IsPartOf part (x ∷ h) = IsPartOf part h ⊎ ((more : List Heard) × (part ≡ x ∷ more) × IsPartOf more h)

-- the number of the call of an entry
abbrev pub number_of : Heard → ℕ
number_of (Begin c seat call) = c
number_of (Return c p) = c

-- the entries of other calls than these
abbrev pub without : List ℕ → List Heard → List Heard
without calls [] = []
without calls (x ∷ h) = if is_in (number_of x) calls then without calls h else x ∷ without calls h

-- the number of the call that an entry begins, if it begins one
abbrev pub begun_in : Heard → List ℕ
begun_in (Begin c seat call) = c ∷ []
begun_in (Return c p) = []

-- the numbers of the calls that begin, in order
abbrev pub calls_in : List Heard → List ℕ
calls_in [] = []
calls_in (x ∷ h) = begun_in x ++ calls_in h
