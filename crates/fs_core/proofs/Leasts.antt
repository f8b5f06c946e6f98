-- The least number of the calls on listed seats is the least of all.
use Rattle.std.proofs.Common.{◌≡◌, ℕ, ◌≤◌, List, Option, Some, None, length, refl, sym, ap, ◌∙◌, arith}
use Rattle.std.specs.Prelude.{slice_get}
use Rattle.std.specs.Option.{option_flatten}
use Rattle.fs_core_seats.specs.declared.seat.Running.{Running}
use Rattle.fs_core.specs.CoreValues.{CoreValue}
use Rattle.fs_core_seats.specs.Seats.{number_of, number_on}
use Rattle.fs_core.specs.code.Leasts.{IsLeastOf, IsLeast}
use Rattle.fs_core_seats.specs.code.Orders.{IsListed, AreListed}

-- a seat with a number has a call
has_call : (seats : List (Option Running)) (seat d : ℕ) → number_on seats seat ≡ Some d → (r : Running) × (slice_get seats seat ≡ Some (Some r))
has_call seats seat d e = go (slice_get seats seat) refl e
  where
    go : (o : Option (Option Running)) → slice_get seats seat ≡ o → number_of (option_flatten o) ≡ Some d → (r : Running) × (slice_get seats seat ≡ Some (Some r))
    go None f g = let z : ◌≡◌ {A = Option ℕ} None (Some d) = g in absurd (cc)
    go (Some None) f g = let z : ◌≡◌ {A = Option ℕ} None (Some d) = g in absurd (cc)
    go (Some (Some r)) f g = (r, f)

-- so it is listed
is_listed : (seats : List (Option Running)) (listed : List ℕ) (seat d : ℕ) → AreListed seats listed → number_on seats seat ≡ Some d → IsListed listed seat
is_listed seats listed seat d all e = let call = has_call seats seat d e in all.each seat call.0 call.1

pub least_of_listed : (m : CoreValue) (listed : List ℕ) (n : ℕ) (least : Option ℕ) → AreListed m.seats listed → n ≡ length listed → IsLeastOf m.seats listed n least → IsLeast m least
least_of_listed m listed n None all same h = λ seat. go seat (number_on m.seats seat) refl
  where
    go : (seat : ℕ) (o : Option ℕ) → number_on m.seats seat ≡ o → number_on m.seats seat ≡ None
    go seat None e = e
    go seat (Some d) e =
        let (k, inside, at) = is_listed m.seats listed seat d all e in
        ap (number_on m.seats) (sym at) ∙ h k (omega (arith, inside, same))
least_of_listed m listed n (Some c) all same h = record { seat = h.0.0; under_way = h.0.1; least = λ other d e. go other d e (is_listed m.seats listed other d all e) }
  where
    go : (other d : ℕ) → number_on m.seats other ≡ Some d → IsListed listed other → c ≤ d
    go other d e (k, inside, at) = h.1 k d (omega (arith, inside, same)) (ap (number_on m.seats) at ∙ e)
