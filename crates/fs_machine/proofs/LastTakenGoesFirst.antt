-- A call whose reply is fixed lets go of what it took last.
use Rattle.std.proofs.Common.{◌≡◌, ℕ, [], ◌∷◌, ◌++◌, Option, Some, None, refl, sym, ap, ap₂, ◌∙◌}
use Rattle.fs_names.specs.Keys.{Key}
use Rattle.fs_calls.specs.Forms.{by_paths}
use Rattle.fs_machine.specs.Laws.{TheLastTakenGoesFirst}
use Rattle.fs_machine.specs.Moves.{next_by, last_held, left_last, left_holdings}
use Rattle.fs_machine.specs.Records.{Holdings, taken, taken_if}

-- the holdings with these fields
abbrev stands : ℕ → Option ℕ → Key → ℕ → Key → ℕ → Option ℕ → Holdings
stands n behind source a dest b victim = record { node = n; behind = behind; source = record { walked = source; node = a }; dest = record { walked = dest; node = b }; victim = victim }

popped_by : (n : ℕ) (behind : Option ℕ) (source : Key) (a : ℕ) (dest : Key) (b : ℕ) (victim : Option ℕ)
    → taken (stands n behind source a dest b victim) ≡ taken_if (left_last (stands n behind source a dest b victim) victim) ++ last_held (stands n behind source a dest b victim) victim ∷ []
popped_by n behind [] a [] b None = refl
popped_by n behind (x ∷ source) a [] b None = refl
popped_by n behind [] a (y ∷ dest) b None = refl
popped_by n behind (x ∷ source) a (y ∷ dest) b None = refl
popped_by n behind [] a [] b (Some v) = refl
popped_by n behind (x ∷ source) a [] b (Some v) = refl
popped_by n behind [] a (y ∷ dest) b (Some v) = refl
popped_by n behind (x ∷ source) a (y ∷ dest) b (Some v) = refl

pub popped : (st : Holdings) → taken st ≡ taken_if (left_last st st.victim) ++ last_held st st.victim ∷ []
popped st = popped_by st.node st.behind st.source.walked st.source.node st.dest.walked st.dest.node st.victim

pub last_goes : TheLastTakenGoesFirst
last_goes graph op r st fixed on =
    (last_held st st.victim, ap₂ (next_by graph op (by_paths op.call)) fixed on, popped st ∙ ap (λ (o : Option Holdings). taken_if o ++ last_held st st.victim ∷ []) (sym (ap₂ left_holdings fixed on)))
