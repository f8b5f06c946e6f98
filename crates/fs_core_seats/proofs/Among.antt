-- Each seat with a call under way is among those that come first.
use Rattle.std.proofs.Common.{◌≡◌, ℕ, zero, suc, ◌<◌, Bool, true, false, eqb, List, [], ◌∷◌, ◌++◌, Option, Some, None, length, length-set, get_or, refl, sym, ap, ◌∙◌, arith, subst}
use Rattle.std.specs.Prelude.{slice_get, slice_set}
use Rattle.std.proofs.lemmas.List.{get_or_append_left}
use Rattle.std.proofs.lemmas.Option.{slice_get_within}
use Rattle.fs_calls.proofs.ListLemmas.{slice_get-set_same, slice_get-set_other}
use Rattle.fs_laws.proofs.graphs.Walks.{eqb_refl, eqb_true}
use Rattle.fs_core_seats.specs.declared.seat.Running.{Running}
use Rattle.fs_core_seats.specs.code.Orders.{IsAmong, IsListed, AreAmong, AreListed}
use Rattle.fs_core_seats.proofs.SeatLemmas.{length_more}

apart : (i j : ℕ) → eqb i j ≡ false → i ≡ j → ⊥
apart i j f e = let z : true ≡ false = sym (eqb_refl i) ∙ ap (λ (n : ℕ). eqb i n) e ∙ f in cc

-- a seat with a call has a place
has_place : (seats : List (Option Running)) (places : List ℕ) (count : ℕ) → AreAmong seats places count → (i : ℕ) (r : Running) → slice_get seats i ≡ Some (Some r) → i < length places
has_place seats places count a i r e = let h : i < length seats = slice_get_within seats i (Some r) e in omega (arith, h, a.places_are)

-- another call on a seat that has one
pub changed : (seats : List (Option Running)) (places : List ℕ) (count seat : ℕ) (old : Running) (new : Option Running) → AreAmong seats places count → slice_get seats seat ≡ Some (Some old) → AreAmong (slice_set seats seat new) places count
changed seats places count seat old new a on = record { places_are = a.places_are ∙ sym (length-set seats seat new); among = λ i r e. go i r (eqb i seat) refl e }
  where
    go : (i : ℕ) (r : Running) (b : Bool) → eqb i seat ≡ b → slice_get (slice_set seats seat new) i ≡ Some (Some r) → IsAmong places count i
    go i r true f e = subst (IsAmong places count) (sym (eqb_true i seat f)) (a.among seat old on)
    go i r false f e = a.among i r (sym (slice_get-set_other seats seat i new (apart i seat f)) ∙ e)

-- a call on a seat that came among the first
pub among_begun : (seats : List (Option Running)) (places after : List ℕ) (count more seat : ℕ) (new : Option Running) → AreAmong seats places count → length after ≡ length places → IsAmong after more seat
    → ((s : ℕ) → s < length places → IsAmong places count s → IsAmong after more s) → AreAmong (slice_set seats seat new) after more
among_begun seats places after count more seat new a same here others = record { places_are = same ∙ a.places_are ∙ sym (length-set seats seat new); among = λ i r e. go i r (eqb i seat) refl e }
  where
    go : (i : ℕ) (r : Running) (b : Bool) → eqb i seat ≡ b → slice_get (slice_set seats seat new) i ≡ Some (Some r) → IsAmong after more i
    go i r true f e = subst (IsAmong after more) (sym (eqb_true i seat f)) here
    go i r false f e =
        let on : slice_get seats i ≡ Some (Some r) = sym (slice_get-set_other seats seat i new (apart i seat f)) ∙ e in
        others i (has_place seats places count a i r on) (a.among i r on)

-- no call on a seat that came behind them
pub among_ended : (seats : List (Option Running)) (places after : List ℕ) (count less seat : ℕ) (new : Option Running) → AreAmong seats places count → length after ≡ length places → seat < length seats → new ≡ None
    → ((s : ℕ) → s < length places → (s ≡ seat → ⊥) → IsAmong places count s → IsAmong after less s) → AreAmong (slice_set seats seat new) after less
among_ended seats places after count less seat new a same within none others = record { places_are = same ∙ a.places_are ∙ sym (length-set seats seat new); among = λ i r e. go i r (eqb i seat) refl e }
  where
    go : (i : ℕ) (r : Running) (b : Bool) → eqb i seat ≡ b → slice_get (slice_set seats seat new) i ≡ Some (Some r) → IsAmong after less i
    go i r true f e =
        let z : ◌≡◌ {A = Option (Option Running)} (Some None) (Some (Some r)) = ap (λ (o : Option Running). Some o) (sym none) ∙ sym (slice_get-set_same seats seat new within) ∙ ap (slice_get (slice_set seats seat new)) (sym (eqb_true i seat f)) ∙ e in
        absurd (cc)
    go i r false f e =
        let on : slice_get seats i ≡ Some (Some r) = sym (slice_get-set_other seats seat i new (apart i seat f)) ∙ e in
        others i (has_place seats places count a i r on) (apart i seat f) (a.among i r on)

-- one seat more
get_busy : (xs : List (Option Running)) (i : ℕ) (r : Running) → slice_get (xs ++ None ∷ []) i ≡ Some (Some r) → slice_get xs i ≡ Some (Some r)
get_busy [] zero r e = cc
get_busy [] (suc i) r e = cc
get_busy (x ∷ xs) zero r e = e
get_busy (x ∷ xs) (suc i) r e = get_busy xs i r e

pub among_more : (seats more : List (Option Running)) (places after : List ℕ) (count last : ℕ) → AreAmong seats places count → after ≡ places ++ last ∷ [] → more ≡ seats ++ None ∷ [] → AreAmong more after count
among_more seats more places after count last a e f = record { places_are = length_more places after seats more last None e f a.places_are; among = go }
  where
    go : (i : ℕ) (r : Running) → slice_get more i ≡ Some (Some r) → IsAmong after count i
    go i r h =
        let on : slice_get seats i ≡ Some (Some r) = get_busy seats i r (ap (λ (l : List (Option Running)). slice_get l i) (sym f) ∙ h) in
        let same : get_or after i 0 ≡ get_or places i 0 = ap (λ (l : List ℕ). get_or l i 0) e ∙ get_or_append_left places (last ∷ []) 0 i (has_place seats places count a i r on) in
        subst (λ (n : ℕ). n < count) (sym same) (a.among i r on)

pub none_among : (count : ℕ) → AreAmong [] [] count
none_among count = record { places_are = refl; among = λ i r e. absurd (nothing i r e) }
  where
    nothing : (i : ℕ) (r : Running) → ◌≡◌ {A = Option (Option Running)} (slice_get [] i) (Some (Some r)) → ⊥
    nothing zero r e = cc
    nothing (suc i) r e = cc

-- so a list of the first has each of them
pub listed_by : (seats : List (Option Running)) (places : List ℕ) (count : ℕ) (listed : List ℕ) → AreAmong seats places count → ((i : ℕ) → i < length listed → get_or listed i 0 < length places)
    → ((s : ℕ) → s < length places → IsAmong places count s → IsListed listed s) → AreListed seats listed
listed_by seats places count listed a inside each = record {
  inside = λ i less. (let h : get_or listed i 0 < length places = inside i less in omega (arith, h, a.places_are));
  each = λ seat r e. each seat (has_place seats places count a seat r e) (a.among seat r e);
}
