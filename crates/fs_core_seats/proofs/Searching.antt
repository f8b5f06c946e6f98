-- What a search among the seats finds.
use Rattle.std.proofs.Common.{◌≡◌, ℕ, ◌+◌, ◌<◌, ◌≤◌, Bool, true, false, List, Option, Some, None, length, get_or, sym, ap, ◌∙◌, arith, subst, ◌⊎◌, inl, inr}
use Rattle.std.specs.Prelude.{option_and_then, nat_lt, IsTrue}
use Rattle.std.proofs.lemmas.Option.{slice_get_within}
use Rattle.fs_nodes.specs.Graphs.{Children}
use Rattle.fs_machine.specs.declared.moves.Moved.{Moved}
use Rattle.fs_core_seats.specs.declared.seat.Running.{Running}
use Rattle.fs_core_seats.specs.Seats.{number_on}
use Rattle.fs_core_seats.specs.code.Orders.{IsListed, AreListed}
use Rattle.fs_core_seats.specs.code.Searches.{IsUnderMoved, IsLowestOn, HasLeast, HasLeastOf, is_lesser}
use Rattle.fs_core_seats.proofs.SeatLemmas.{number_read}

-- a seat with a walking call is there
pub under_within : (children : Children) (seats : List (Option Running)) (moved : Moved) (seat : ℕ) → IsUnderMoved children seats moved seat → seat < length seats
under_within children seats moved seat u = slice_get_within seats seat (Some u.running) u.on

-- tests of which the answer is known
pub true_is : (b : Bool) → b ≡ true → IsTrue b
true_is b e = e

pub false_is : (b : Bool) → b ≡ false → IsTrue b → ⊥
false_is b e h = cc

-- a listed seat more: its call is not lowest, or has the least number so far, or has not
pub least_same : (children : Children) (seats : List (Option Running)) (moved : Moved) (listed : List ℕ) (i : ℕ) (chosen : Option ℕ) → (IsLowestOn children seats moved (get_or listed i 0) → ⊥) → HasLeastOf children seats moved listed i chosen → HasLeastOf children seats moved listed (i + 1) chosen
least_same children seats moved listed i None not h = λ k less l. go k less l (grind arith)
  where
    go : (k : ℕ) → k < i + 1 → IsLowestOn children seats moved (get_or listed k 0) → (k < i) ⊎ (i ≡ k) → ⊥
    go k less l (inl m) = h k m l
    go k less l (inr e) = not (subst (λ (n : ℕ). IsLowestOn children seats moved (get_or listed n 0)) (sym e) l)
least_same children seats moved listed i (Some seat) not h = (h.0, h.1, λ k c d less l e f. go k c d l e f (grind arith))
  where
    go : (k c d : ℕ) → IsLowestOn children seats moved (get_or listed k 0) → number_on seats seat ≡ Some c → number_on seats (get_or listed k 0) ≡ Some d → (k < i) ⊎ (i ≡ k) → c ≤ d
    go k c d l e f (inl m) = h.2 k c d m l e f
    go k c d l e f (inr g) = absurd (not (subst (λ (n : ℕ). IsLowestOn children seats moved (get_or listed n 0)) (sym g) l))

-- the number of a lowest call
number_of_lowest : (children : Children) (seats : List (Option Running)) (moved : Moved) (seat : ℕ) → IsLowestOn children seats moved seat → (c : ℕ) × (number_on seats seat ≡ Some c)
number_of_lowest children seats moved seat l = (l.under.running.call, number_read seats seat (Some l.under.running) l.under.on)

same_number : (c d : ℕ) → ◌≡◌ {A = Option ℕ} (Some c) (Some d) → c ≡ d
same_number c d e = cc

lesser_less : (o p : Option ℕ) (b : Bool) (c d : ℕ) → o ≡ Some c → p ≡ Some d → b ≡ is_lesser o p → b ≡ true → c < d
lesser_less o p b c d e f g h = by (sym h ∙ g ∙ ap (λ (x : Option ℕ). is_lesser x p) e ∙ ap (λ (x : Option ℕ). is_lesser (Some c) x) f)
  where
    by : true ≡ nat_lt c d → c < d
    by e = grind arith

lesser_not : (o p : Option ℕ) (b : Bool) (c d : ℕ) → o ≡ Some c → p ≡ Some d → b ≡ is_lesser o p → b ≡ false → d ≤ c
lesser_not o p b c d e f g h = by (sym h ∙ g ∙ ap (λ (x : Option ℕ). is_lesser x p) e ∙ ap (λ (x : Option ℕ). is_lesser (Some c) x) f)
  where
    by : false ≡ nat_lt c d → d ≤ c
    by e = grind arith

pub least_new : (children : Children) (seats : List (Option Running)) (moved : Moved) (listed : List ℕ) (i : ℕ) (chosen : Option ℕ) (b : Bool) → IsLowestOn children seats moved (get_or listed i 0) → b ≡ is_lesser (number_on seats (get_or listed i 0)) (option_and_then (number_on seats) chosen) → b ≡ true
    → HasLeastOf children seats moved listed i chosen → HasLeastOf children seats moved listed (i + 1) (Some (get_or listed i 0))
least_new children seats moved listed i None b low e t h = (under_within children seats moved (get_or listed i 0) low.under, low, λ k c d less l f g. go k c d l f g (grind arith))
  where
    go : (k c d : ℕ) → IsLowestOn children seats moved (get_or listed k 0) → number_on seats (get_or listed i 0) ≡ Some c → number_on seats (get_or listed k 0) ≡ Some d → (k < i) ⊎ (i ≡ k) → c ≤ d
    go k c d l f g (inl m) = absurd (h k m l)
    go k c d l f g (inr j) = let z : c ≡ d = same_number c d (sym f ∙ ap (λ (n : ℕ). number_on seats (get_or listed n 0)) j ∙ g) in omega (arith, z)
least_new children seats moved listed i (Some seat) b low e t h = (under_within children seats moved (get_or listed i 0) low.under, low, λ k c d less l f g. go k c d l f g (grind arith))
  where
    go : (k c d : ℕ) → IsLowestOn children seats moved (get_or listed k 0) → number_on seats (get_or listed i 0) ≡ Some c → number_on seats (get_or listed k 0) ≡ Some d → (k < i) ⊎ (i ≡ k) → c ≤ d
    go k c d l f g (inl m) =
        let n : (x : ℕ) × (number_on seats seat ≡ Some x) = number_of_lowest children seats moved seat h.1 in
        let less : c < n.0 = lesser_less (number_on seats (get_or listed i 0)) (number_on seats seat) b c n.0 f n.1 e t in
        let more : n.0 ≤ d = h.2 k n.0 d m l n.1 g in
        omega (arith, less, more)
    go k c d l f g (inr j) = let z : c ≡ d = same_number c d (sym f ∙ ap (λ (n : ℕ). number_on seats (get_or listed n 0)) j ∙ g) in omega (arith, z)

pub least_old : (children : Children) (seats : List (Option Running)) (moved : Moved) (listed : List ℕ) (i : ℕ) (chosen : Option ℕ) (b : Bool) → IsLowestOn children seats moved (get_or listed i 0) → b ≡ is_lesser (number_on seats (get_or listed i 0)) (option_and_then (number_on seats) chosen) → b ≡ false
    → HasLeastOf children seats moved listed i chosen → HasLeastOf children seats moved listed (i + 1) chosen
least_old children seats moved listed i None b low e t h = go (number_on seats (get_or listed i 0)) (sym t ∙ e)
  where
    go : (o : Option ℕ) → false ≡ is_lesser o None → HasLeastOf children seats moved listed (i + 1) None
    go None f = cc
    go (Some c) f = cc
least_old children seats moved listed i (Some seat) b low e t h = (h.0, h.1, λ k c d less l f g. go k c d l f g (grind arith))
  where
    go : (k c d : ℕ) → IsLowestOn children seats moved (get_or listed k 0) → number_on seats seat ≡ Some c → number_on seats (get_or listed k 0) ≡ Some d → (k < i) ⊎ (i ≡ k) → c ≤ d
    go k c d l f g (inl m) = h.2 k c d m l f g
    go k c d l f g (inr j) = lesser_not (number_on seats (get_or listed i 0)) (number_on seats seat) b d c (ap (λ (n : ℕ). number_on seats (get_or listed n 0)) j ∙ g) f e t

-- each lowest call is on a listed seat
pub least_of_all : (children : Children) (seats : List (Option Running)) (moved : Moved) (listed : List ℕ) (n : ℕ) (chosen : Option ℕ) → AreListed seats listed → n ≡ length listed → HasLeastOf children seats moved listed n chosen → HasLeast children seats moved (length seats) chosen
least_of_all children seats moved listed n None all same h = λ j less l. go j l (all.each j l.under.running l.under.on)
  where
    go : (j : ℕ) → IsLowestOn children seats moved j → IsListed listed j → ⊥
    go j l (k, inside, at) = h k (omega (arith, inside, same)) (subst (IsLowestOn children seats moved) (sym at) l)
least_of_all children seats moved listed n (Some seat) all same h = (h.0, h.1, λ j c d less l f g. go j c d l f g (all.each j l.under.running l.under.on))
  where
    go : (j c d : ℕ) → IsLowestOn children seats moved j → number_on seats seat ≡ Some c → number_on seats j ≡ Some d → IsListed listed j → c ≤ d
    go j c d l f g (k, inside, at) = h.2 k c d (omega (arith, inside, same)) (subst (IsLowestOn children seats moved) (sym at) l) f (ap (number_on seats) at ∙ g)
