-- Where calls are under way, one has the least number.
use Rattle.std.proofs.Common.{◌≡◌, ℕ, zero, suc, ◌<◌, ◌≤◌, ltb, Bool, true, false, List, length, Option, Some, None, refl, sym, ◌∙◌, subst, ◌⊎◌, ⊎_elim, inl, inr, arith}
use Rattle.std.proofs.lemmas.Bool.{ltb-true, ltb-false}
use Rattle.std.proofs.Math.Nat.{eq-or-lt_of_le}
use Rattle.fs_calls.specs.declared.call.Call.{Call}
use Rattle.fs_timeline.specs.declared.entry.Entry.{Entry}
use Rattle.fs_core.specs.Checkpoints.{IsLeastUnderWay}
use Rattle.fs_machine.specs.Headline.{IsIdle}
use Rattle.fs_machine.specs.Records.{Record}
use Rattle.fs_laws.proofs.states.GraphOfARun.{call_seat}
use Rattle.fs_sched.specs.Runs.{Stage}
use Rattle.fs_sched.proofs.Rounds.{none_some}
use Rattle.fs_sched.proofs.Whole.{ListFacts}

-- no seat below has a call
abbrev NoneBelow : (ℕ → Option ℕ) → ℕ → Type 0
NoneBelow on_seat n = (seat : ℕ) → seat < n → on_seat seat ≡ None

-- a call on some seat, with a number that none on a seat below is less than
record LeastBelow (on_seat : ℕ → Option ℕ) (n : ℕ) : Type 0 where
  seat : ℕ
  c : ℕ
  there : on_seat seat ≡ Some c
  least : (other d : ℕ) → other < n → on_seat other ≡ Some d → c ≤ d

one_number : (o : Option ℕ) (c d : ℕ) → o ≡ Some c → o ≡ Some d → c ≡ d
one_number o c d e f = let z : ◌≡◌ {A = Option ℕ} (Some c) (Some d) = sym e ∙ f in cc

-- a seat below the next is the last or below
below_next : (P : ℕ → Type 0) (n : ℕ) → P n → ((seat : ℕ) → seat < n → P seat) → (seat : ℕ) → seat < suc n → P seat
below_next P n here below seat less = ⊎_elim (λ e. subst P (sym e) here) (λ l. below seat l) (eq-or-lt_of_le (let h : seat ≤ n = omega (arith, less) in h))

least_below : (on_seat : ℕ → Option ℕ) (n : ℕ) → NoneBelow on_seat n ⊎ LeastBelow on_seat n
least_below on_seat zero = inl (λ seat less. absurd (omega (arith, less)))
least_below on_seat (suc n) = by (on_seat n) refl (least_below on_seat n)
  where
    lesser : (d : ℕ) → on_seat n ≡ Some d → (l : LeastBelow on_seat n) (b : Bool) → ltb d l.c ≡ b → LeastBelow on_seat (suc n)
    lesser d e l true less = record {
      seat = n;
      c = d;
      there = e;
      least = λ other x within f. below_next (λ seat. (x : ℕ) → on_seat seat ≡ Some x → d ≤ x) n (λ x f. (let z : d ≡ x = one_number (on_seat n) d x e f in omega (arith, z))) (λ seat below x f. (let z : l.c ≤ x = l.least seat x below f in let y : d < l.c = ltb-true _ _ less in omega (arith, z, y))) other within x f;
    }
    lesser d e l false more = record {
      seat = l.seat;
      c = l.c;
      there = l.there;
      least = λ other x within f. below_next (λ seat. (x : ℕ) → on_seat seat ≡ Some x → l.c ≤ x) n (λ x f. (let z : d ≡ x = one_number (on_seat n) d x e f in let y : l.c ≤ d = ltb-false _ _ more in omega (arith, z, y))) (λ seat below x f. l.least seat x below f) other within x f;
    }

    by : (o : Option ℕ) → on_seat n ≡ o → NoneBelow on_seat n ⊎ LeastBelow on_seat n → NoneBelow on_seat (suc n) ⊎ LeastBelow on_seat (suc n)
    by None e (inl none) = inl (below_next (λ seat. on_seat seat ≡ None) n e none)
    by None e (inr l) = inr (record {
      seat = l.seat;
      c = l.c;
      there = l.there;
      least = λ other x within f. below_next (λ seat. (x : ℕ) → on_seat seat ≡ Some x → l.c ≤ x) n (λ x f. absurd (none_some (on_seat n) x e f)) (λ seat below x f. l.least seat x below f) other within x f;
    })
    by (Some d) e (inl none) = inr (record {
      seat = n;
      c = d;
      there = e;
      least = λ other x within f. below_next (λ seat. (x : ℕ) → on_seat seat ≡ Some x → d ≤ x) n (λ x f. (let z : d ≡ x = one_number (on_seat n) d x e f in omega (arith, z))) (λ seat below x f. absurd (none_some (on_seat seat) x (none seat below) f)) other within x f;
    })
    by (Some d) e (inr l) = inr (lesser d e l (ltb d l.c) refl)

pub rest_or_least : (lists : List (List Call)) (told : List Entry) (s : Stage) → ListFacts lists told s → IsIdle s.state ⊎ ((c : ℕ) × IsLeastUnderWay s.state.on_seat c)
rest_or_least lists told s k = go (least_below s.state.on_seat (length lists))
  where
    idle : NoneBelow s.state.on_seat (length lists) → IsIdle s.state
    idle none c = by (s.state.ops c) refl
      where
        by : (o : Option Record) → s.state.ops c ≡ o → s.state.ops c ≡ None
        by None e = e
        by (Some op) e =
            let on : s.state.on_seat op.seat ≡ Some c = call_seat s.state c op k.run e in
            absurd (none_some (s.state.on_seat op.seat) c (none op.seat (k.seats op.seat c on)) on)

    go : NoneBelow s.state.on_seat (length lists) ⊎ LeastBelow s.state.on_seat (length lists) → IsIdle s.state ⊎ ((c : ℕ) × IsLeastUnderWay s.state.on_seat c)
    go (inl none) = inl (idle none)
    go (inr l) = inr (l.c, record { seat = l.seat; under_way = l.there; least = λ other d on. l.least other d (k.seats other d on) on })
