-- Events up to a begin that finds no number free, as loops do them.
use Rattle.std.proofs.Common.{◌≡◌, ℕ, List, [], ◌∷◌, ◌++◌, inl, inr, sym, subst}
use Rattle.fs_calls.specs.declared.call.Call.{Call}
use Rattle.fs_sched.specs.Runs.{Stage, Event, Events, Round, IsUnfinished, IsRefused, Stops, StopsInRounds, InLater}

-- a stop in what is left is one in all
abbrev pub LeadsToStop : List (List Call) → Stage → List ℕ → Stage → List ℕ → Type 0
LeadsToStop lists old all now rest = Stops lists now rest → Stops lists old all

pub stop_more : (lists : List (List Call)) (old now new : Stage) (all rest more : List ℕ) (seat : ℕ) → rest ≡ seat ∷ more → LeadsToStop lists old all now rest → Event lists now seat new → LeadsToStop lists old all new more
stop_more lists old now new all rest more seat e lead event stops = lead (subst (λ (r : List ℕ). Stops lists now r) (sym e) (inr (new, event, stops)))

-- the event that comes next is refused
pub stop_here : (lists : List (List Call)) (old now : Stage) (all rest more : List ℕ) (seat : ℕ) → rest ≡ seat ∷ more → LeadsToStop lists old all now rest → IsRefused lists now seat → Stops lists old all
stop_here lists old now all rest more seat e lead refused = lead (subst (λ (r : List ℕ). Stops lists now r) (sym e) (inl refused))

pub stop_after : (lists : List (List Call)) (old now : Stage) (xs ys : List ℕ) → Events lists old xs now → Stops lists now ys → Stops lists old (xs ++ ys)
stop_after lists old now [] ys e stops = subst (λ (s : Stage). Stops lists s ys) e stops
stop_after lists old now (x ∷ xs) ys (middle, event, rest) stops = inr (middle, event, stop_after lists middle now xs ys rest stops)

-- rounds up to a stop
abbrev pub LeadsToStopInRounds : List (List Call) → Stage → Stage → Type 0
LeadsToStopInRounds lists old now = StopsInRounds lists now → StopsInRounds lists old

pub stop_round : (lists : List (List Call)) (old now new : Stage) → LeadsToStopInRounds lists old now → IsUnfinished lists now → Round lists now new → LeadsToStopInRounds lists old new
stop_round lists old now new lead more round stops = lead (InLater more round stops)
