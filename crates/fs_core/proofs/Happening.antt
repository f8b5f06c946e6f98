-- Events in order, with one more.
use Rattle.std.proofs.Common.{◌≡◌, ℕ, suc, ◌+◌, ◌<◌, List, [], ◌∷◌, ◌++◌, length, take, get_or, refl, sym, ap, ◌∙◌, arith, subst}
use Rattle.std.proofs.Math.Seq.{take-suc}
use Rattle.fs_machine.specs.States.{State}
use Rattle.fs_core.specs.declared.outcome.Event.{Event}
use Rattle.fs_core.specs.Events.{Happens, AllHappen}

happen_last : (old middle new : State) (events : List Event) (event : Event) → AllHappen old events middle → Happens middle event new → AllHappen old (events ++ event ∷ []) new
happen_last old middle new [] event same h = (new, subst (λ (s : State). Happens s event new) same h, refl)
happen_last old middle new (e ∷ events) event (next, first, rest) h = (next, first, happen_last next middle new events event rest h)

pub happen_more : (old middle new : State) (events : List Event) (i : ℕ) (event : Event) → i < length events → event ≡ get_or events i event → AllHappen old (take i events) middle → Happens middle event new → AllHappen old (take (i + 1) events) new
happen_more old middle new events i event less is all h =
    let z : i + 1 ≡ suc i = omega arith in
    let t : take (i + 1) events ≡ take i events ++ event ∷ [] = ap (λ (n : ℕ). take n events) z ∙ take-suc events i event less ∙ ap (λ (e : Event). take i events ++ e ∷ []) (sym is) in
    subst (λ (es : List Event). AllHappen old es new) (sym t) (happen_last old middle new (take i events) event all h)
