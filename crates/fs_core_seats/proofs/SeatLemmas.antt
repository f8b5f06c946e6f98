-- Lists of seats: what is on each, the records by number, and what is owed, after one seat changed.
use Rattle.std.proofs.Common.{◌≡◌, ℕ, zero, suc, ◌+◌, ◌<◌, Bool, true, false, cond, eqb, List, [], ◌∷◌, ◌++◌, Option, Some, None, length, length-append, length-set, refl, sym, ap, ◌∙◌, arith, subst}
use Rattle.std.specs.Prelude.{slice_get, slice_set}
use Rattle.std.specs.Option.{option_flatten}
use mathlib.Core.Path.{fun_ext}
use Rattle.fs_nodes.specs.Graphs.{set_at}
use Rattle.fs_machine.specs.Records.{Record}
use Rattle.fs_machine.specs.OpValues.{record_of}
use Rattle.std.proofs.Math.Dec.{eqb-suc-zero, eqb-zero-suc, eqb-suc-suc}
use Rattle.fs_laws.proofs.graphs.Walks.{eqb_refl, eqb_true}
use Rattle.fs_core_seats.specs.declared.seat.Running.{Running}
use Rattle.fs_core_seats.specs.Seats.{number_of, number_on, record_from, records}
use Rattle.fs_core_seats.specs.code.Owed.{walking_at, walking, owed_at, owed}

-- no two seats have a call of one number
abbrev pub AreApart : List (Option Running) → Type 0
AreApart seats = (i j : ℕ) (r q : Running) → slice_get seats i ≡ Some (Some r) → slice_get seats j ≡ Some (Some q) → r.call ≡ q.call → i ≡ j

apart_tail : (slot : Option Running) (seats : List (Option Running)) → AreApart (slot ∷ seats) → AreApart seats
apart_tail slot seats a i j r q e f g = let h : suc i ≡ suc j = a (suc i) (suc j) r q e f g in cc

-- a call whose record changes, and keeps its number
changed_from : (k i s : ℕ) (seats : List (Option Running)) (r q : Running) (c : ℕ) → k + i ≡ s → slice_get seats i ≡ Some (Some r) → q.call ≡ r.call → AreApart seats
    → record_from k (slice_set seats i (Some q)) c ≡ set_at r.call (Some (record_of s q.place q.op)) (record_from k seats) c
changed_from k i s [] r q c at e same_number apart = cc
changed_from k zero s (slot ∷ seats) r q c at e same_number apart =
    let z : slot ≡ Some r = cc in
    let w : k ≡ s = omega arith in
    subst (λ (p : Option Running). record_from k (Some q ∷ seats) c ≡ set_at r.call (Some (record_of s q.place q.op)) (record_from k (p ∷ seats)) c) (sym z)
    (subst (λ (n : ℕ). cond (eqb c n) (Some (record_of k q.place q.op)) (record_from (k + 1) seats c) ≡ set_at r.call (Some (record_of s q.place q.op)) (record_from k (Some r ∷ seats)) c) (sym same_number)
    (subst (λ (n : ℕ). cond (eqb c r.call) (Some (record_of k q.place q.op)) (record_from (k + 1) seats c) ≡ set_at r.call (Some (record_of n q.place q.op)) (record_from k (Some r ∷ seats)) c) w (go (eqb c r.call))))
  where
    go : (b : Bool) → cond b (Some (record_of k q.place q.op)) (record_from (k + 1) seats c) ≡ cond b (Some (record_of k q.place q.op)) (cond b (Some (record_of k r.place r.op)) (record_from (k + 1) seats c))
    go true = refl
    go false = refl
changed_from k (suc i) s (None ∷ seats) r q c at e same_number apart = changed_from (k + 1) i s seats r q c (omega arith) e same_number (apart_tail None seats apart)
changed_from k (suc i) s (Some p ∷ seats) r q c at e same_number apart =
    go (eqb c p.call) (eqb c r.call) refl refl (changed_from (k + 1) i s seats r q c (omega arith) e same_number (apart_tail (Some p) seats apart))
  where
    go : (b d : Bool) → eqb c p.call ≡ b → eqb c r.call ≡ d
        → record_from (k + 1) (slice_set seats i (Some q)) c ≡ cond d (Some (record_of s q.place q.op)) (record_from (k + 1) seats c)
        → cond b (Some (record_of k p.place p.op)) (record_from (k + 1) (slice_set seats i (Some q)) c) ≡ cond d (Some (record_of s q.place q.op)) (cond b (Some (record_of k p.place p.op)) (record_from (k + 1) seats c))
    go true true f g h = let z : 0 ≡ suc i = apart 0 (suc i) p r refl e (sym (eqb_true c p.call f) ∙ eqb_true c r.call g) in cc
    go true false f g h = refl
    go false true f g h = h
    go false false f g h = h

-- no seat has a call of this number
abbrev pub IsAbsent : List (Option Running) → ℕ → Type 0
IsAbsent seats c = (j : ℕ) (q : Running) → slice_get seats j ≡ Some (Some q) → q.call ≡ c → ⊥

absent_from : (k : ℕ) (seats : List (Option Running)) (c : ℕ) → IsAbsent seats c → record_from k seats c ≡ None
absent_from k [] c a = refl
absent_from k (None ∷ seats) c a = absent_from (k + 1) seats c (λ j q e f. a (suc j) q e f)
absent_from k (Some p ∷ seats) c a = go (eqb c p.call) refl (absent_from (k + 1) seats c (λ j q e f. a (suc j) q e f))
  where
    go : (b : Bool) → eqb c p.call ≡ b → record_from (k + 1) seats c ≡ None → cond b (Some (record_of k p.place p.op)) (record_from (k + 1) seats c) ≡ None
    go true f h = absurd (a 0 p refl (sym (eqb_true c p.call f)))
    go false f h = h

-- a call that is under way no more
ended_from : (k i : ℕ) (seats : List (Option Running)) (r : Running) (c : ℕ) → slice_get seats i ≡ Some (Some r) → AreApart seats
    → record_from k (slice_set seats i None) c ≡ set_at r.call None (record_from k seats) c
ended_from k i [] r c e apart = cc
ended_from k zero (slot ∷ seats) r c e apart =
    let z : slot ≡ Some r = cc in
    subst (λ (p : Option Running). record_from (k + 1) seats c ≡ set_at r.call None (record_from k (p ∷ seats)) c) (sym z) (go (eqb c r.call) refl)
  where
    later : IsAbsent seats r.call
    later j q f g = let z : 0 ≡ suc j = apart 0 (suc j) r q e f (sym g) in cc

    go : (b : Bool) → eqb c r.call ≡ b → record_from (k + 1) seats c ≡ cond b None (cond b (Some (record_of k r.place r.op)) (record_from (k + 1) seats c))
    go true f = ap (record_from (k + 1) seats) (eqb_true c r.call f) ∙ absent_from (k + 1) seats r.call later
    go false f = refl
ended_from k (suc i) (None ∷ seats) r c e apart = ended_from (k + 1) i seats r c e (apart_tail None seats apart)
ended_from k (suc i) (Some p ∷ seats) r c e apart = go (eqb c p.call) (eqb c r.call) refl refl (ended_from (k + 1) i seats r c e (apart_tail (Some p) seats apart))
  where
    go : (b d : Bool) → eqb c p.call ≡ b → eqb c r.call ≡ d
        → record_from (k + 1) (slice_set seats i None) c ≡ cond d None (record_from (k + 1) seats c)
        → cond b (Some (record_of k p.place p.op)) (record_from (k + 1) (slice_set seats i None) c) ≡ cond d None (cond b (Some (record_of k p.place p.op)) (record_from (k + 1) seats c))
    go true true f g h = let z : 0 ≡ suc i = apart 0 (suc i) p r refl e (sym (eqb_true c p.call f) ∙ eqb_true c r.call g) in cc
    go true false f g h = refl
    go false true f g h = h
    go false false f g h = h

-- a call that begins on a free seat, under a number that none has
begun_from : (k i s : ℕ) (seats : List (Option Running)) (q : Running) (c : ℕ) → k + i ≡ s → slice_get seats i ≡ Some None → record_from k seats q.call ≡ None
    → record_from k (slice_set seats i (Some q)) c ≡ set_at q.call (Some (record_of s q.place q.op)) (record_from k seats) c
begun_from k i s [] q c at e none = cc
begun_from k zero s (slot ∷ seats) q c at e none =
    let z : slot ≡ None = cc in
    let w : k ≡ s = omega arith in
    subst (λ (p : Option Running). record_from k (Some q ∷ seats) c ≡ set_at q.call (Some (record_of s q.place q.op)) (record_from k (p ∷ seats)) c) (sym z)
    (subst (λ (n : ℕ). record_from k (Some q ∷ seats) c ≡ set_at q.call (Some (record_of n q.place q.op)) (record_from (k + 1) seats) c) w refl)
begun_from k (suc i) s (None ∷ seats) q c at e none = begun_from (k + 1) i s seats q c (omega arith) e none
begun_from k (suc i) s (Some p ∷ seats) q c at e none =
    first (eqb q.call p.call) refl none (λ h. begun_from (k + 1) i s seats q c (omega arith) e h)
  where
    V : Option Record
    V = Some (record_of s q.place q.op)

    go : (b d : Bool) → eqb c p.call ≡ b → eqb c q.call ≡ d → eqb q.call p.call ≡ false
        → record_from (k + 1) (slice_set seats i (Some q)) c ≡ cond d V (record_from (k + 1) seats c)
        → cond b (Some (record_of k p.place p.op)) (record_from (k + 1) (slice_set seats i (Some q)) c) ≡ cond d V (cond b (Some (record_of k p.place p.op)) (record_from (k + 1) seats c))
    go true true f g differs h = let z : true ≡ false = sym f ∙ ap (λ (n : ℕ). eqb n p.call) (eqb_true c q.call g) ∙ differs in cc
    go true false f g differs h = refl
    go false true f g differs h = h
    go false false f g differs h = h

    first : (b : Bool) → eqb q.call p.call ≡ b → cond b (Some (record_of k p.place p.op)) (record_from (k + 1) seats q.call) ≡ None
        → (record_from (k + 1) seats q.call ≡ None → record_from (k + 1) (slice_set seats i (Some q)) c ≡ set_at q.call V (record_from (k + 1) seats) c)
        → record_from k (slice_set (Some p ∷ seats) (suc i) (Some q)) c ≡ set_at q.call V (record_from k (Some p ∷ seats)) c
    first true f h rest = cc
    first false f h rest = go (eqb c p.call) (eqb c q.call) refl refl f (rest h)

-- the record of a call on a seat
found_from : (k i s : ℕ) (seats : List (Option Running)) (r : Running) → k + i ≡ s → slice_get seats i ≡ Some (Some r) → AreApart seats → record_from k seats r.call ≡ Some (record_of s r.place r.op)
found_from k i s [] r at e apart = cc
found_from k zero s (slot ∷ seats) r at e apart =
    let z : slot ≡ Some r = cc in
    let w : k ≡ s = omega arith in
    subst (λ (p : Option Running). record_from k (p ∷ seats) r.call ≡ Some (record_of s r.place r.op)) (sym z)
    (ap (λ (b : Bool). cond b (Some (record_of k r.place r.op)) (record_from (k + 1) seats r.call)) (eqb_refl r.call) ∙ ap (λ (n : ℕ). Some (record_of n r.place r.op)) w)
found_from k (suc i) s (None ∷ seats) r at e apart = found_from (k + 1) i s seats r (omega arith) e (apart_tail None seats apart)
found_from k (suc i) s (Some p ∷ seats) r at e apart = go (eqb r.call p.call) refl (found_from (k + 1) i s seats r (omega arith) e (apart_tail (Some p) seats apart))
  where
    go : (b : Bool) → eqb r.call p.call ≡ b → record_from (k + 1) seats r.call ≡ Some (record_of s r.place r.op) → cond b (Some (record_of k p.place p.op)) (record_from (k + 1) seats r.call) ≡ Some (record_of s r.place r.op)
    go true f h = let z : 0 ≡ suc i = apart 0 (suc i) p r refl e (sym (eqb_true r.call p.call f)) in cc
    go false f h = h

-- where the record of a number comes from
pub record Comes (k : ℕ) (seats : List (Option Running)) (c : ℕ) (op : Record) : Type 0 where
  pub seat : ℕ
  pub running : Running
  pub on : slice_get seats seat ≡ Some (Some running)
  pub number : running.call ≡ c
  pub is : op ≡ record_of (k + seat) running.place running.op

comes_from : (k : ℕ) (seats : List (Option Running)) (c : ℕ) (op : Record) → record_from k seats c ≡ Some op → Comes k seats c op
comes_from k [] c op e = cc
comes_from k (None ∷ seats) c op e = let h : Comes (k + 1) seats c op = comes_from (k + 1) seats c op e in
    record { seat = suc h.seat; running = h.running; on = h.on; number = h.number; is = h.is ∙ ap (λ (n : ℕ). record_of n h.running.place h.running.op) (omega arith) }
comes_from k (Some p ∷ seats) c op e = go (eqb c p.call) refl e (λ f. comes_from (k + 1) seats c op f)
  where
    go : (b : Bool) → eqb c p.call ≡ b → cond b (Some (record_of k p.place p.op)) (record_from (k + 1) seats c) ≡ Some op → (record_from (k + 1) seats c ≡ Some op → Comes (k + 1) seats c op) → Comes k (Some p ∷ seats) c op
    go true f g rest = record { seat = 0; running = p; on = refl; number = sym (eqb_true c p.call f); is = let z : record_of k p.place p.op ≡ op = cc in sym z ∙ ap (λ (n : ℕ). record_of n p.place p.op) (omega arith) }
    go false f g rest = let h : Comes (k + 1) seats c op = rest g in
        record { seat = suc h.seat; running = h.running; on = h.on; number = h.number; is = h.is ∙ ap (λ (n : ℕ). record_of n h.running.place h.running.op) (omega arith) }

-- the same of all seats
pub records_at : (seats : List (Option Running)) (seat : ℕ) (r : Running) → slice_get seats seat ≡ Some (Some r) → AreApart seats → records seats r.call ≡ Some (record_of seat r.place r.op)
records_at seats seat r e apart = found_from 0 seat seat seats r (omega arith) e apart

pub record_comes : (seats : List (Option Running)) (c : ℕ) (op : Record) → records seats c ≡ Some op → Comes 0 seats c op
record_comes seats c op e = comes_from 0 seats c op e

pub records_changed : (seats : List (Option Running)) (seat : ℕ) (r q : Running) (v : Option Running) → slice_get seats seat ≡ Some (Some r) → v ≡ Some q → q.call ≡ r.call → AreApart seats
    → records (slice_set seats seat v) ≡ set_at r.call (Some (record_of seat q.place q.op)) (records seats)
records_changed seats seat r q v e is same_number apart = fun_ext (λ c. ap (λ (p : Option Running). records (slice_set seats seat p) c) is ∙ changed_from 0 seat seat seats r q c (omega arith) e same_number apart)

pub records_ended : (seats : List (Option Running)) (seat : ℕ) (r : Running) (v : Option Running) → slice_get seats seat ≡ Some (Some r) → v ≡ None → AreApart seats
    → records (slice_set seats seat v) ≡ set_at r.call None (records seats)
records_ended seats seat r v e is apart = fun_ext (λ c. ap (λ (p : Option Running). records (slice_set seats seat p) c) is ∙ ended_from 0 seat seats r c e apart)

pub records_begun : (seats : List (Option Running)) (seat : ℕ) (q : Running) (v : Option Running) → slice_get seats seat ≡ Some None → v ≡ Some q → records seats q.call ≡ None
    → records (slice_set seats seat v) ≡ set_at q.call (Some (record_of seat q.place q.op)) (records seats)
records_begun seats seat q v e is none = fun_ext (λ c. ap (λ (p : Option Running). records (slice_set seats seat p) c) is ∙ begun_from 0 seat seat seats q c (omega arith) e none)

-- the numbers on the seats
number_at : (seats : List (Option Running)) (i : ℕ) (v : Option Running) (d : ℕ) → i < length seats → number_on (slice_set seats i v) d ≡ set_at i (number_of v) (number_on seats) d
number_at [] i v d h = absurd (omega arith)
number_at (slot ∷ seats) zero v zero h = refl
number_at (slot ∷ seats) zero v (suc d) h = ap (λ (b : Bool). cond b (number_of v) (number_on seats d)) (sym (eqb-suc-zero d))
number_at (slot ∷ seats) (suc i) v zero h = ap (λ (b : Bool). cond b (number_of v) (number_of slot)) (sym (eqb-zero-suc i))
number_at (slot ∷ seats) (suc i) v (suc d) h = number_at seats i v d (omega (arith, h)) ∙ ap (λ (b : Bool). cond b (number_of v) (number_on seats d)) (sym (eqb-suc-suc d i))

pub numbers_set : (seats : List (Option Running)) (seat : ℕ) (v w : Option Running) → seat < length seats → v ≡ w → number_on (slice_set seats seat v) ≡ set_at seat (number_of w) (number_on seats)
numbers_set seats seat v w within is = fun_ext (λ d. number_at seats seat v d within ∙ ap (λ (p : Option Running). set_at seat (number_of p) (number_on seats) d) is)

pub number_read : (seats : List (Option Running)) (seat : ℕ) (slot : Option Running) → slice_get seats seat ≡ Some slot → number_on seats seat ≡ number_of slot
number_read seats seat slot e = ap (λ (o : Option (Option Running)). number_of (option_flatten o)) e

-- a value that is there already
set_same : (f : ℕ → Option ℕ) (n : ℕ) (v : Option ℕ) → f n ≡ v → set_at n v f ≡ f
set_same f n v e = fun_ext (λ m. go m (eqb m n) refl)
  where
    go : (m : ℕ) (b : Bool) → eqb m n ≡ b → cond b v (f m) ≡ f m
    go m true h = sym e ∙ ap f (sym (eqb_true m n h))
    go m false h = refl

pub numbers_changed : (seats : List (Option Running)) (seat : ℕ) (r q : Running) (v : Option Running) → slice_get seats seat ≡ Some (Some r) → seat < length seats → v ≡ Some q → q.call ≡ r.call → number_on (slice_set seats seat v) ≡ number_on seats
numbers_changed seats seat r q v e within is same_number =
    numbers_set seats seat v (Some q) within is ∙ set_same (number_on seats) seat (Some q.call) (number_read seats seat (Some r) e ∙ ap (λ (n : ℕ). Some n) (sym same_number))

-- what is owed, and who walks, after one seat changed
pub owed_set : (seats : List (Option Running)) (seat : ℕ) (old v : Option Running) → slice_get seats seat ≡ Some old → owed (slice_set seats seat v) + owed_at old ≡ owed seats + owed_at v
owed_set [] seat old v e = cc
owed_set (slot ∷ seats) zero old v e = let z : slot ≡ old = cc in rw z (omega arith)
owed_set (slot ∷ seats) (suc seat) old v e = omega (arith, owed_set seats seat old v e)

pub walking_set : (seats : List (Option Running)) (seat : ℕ) (old v : Option Running) → slice_get seats seat ≡ Some old → walking (slice_set seats seat v) + walking_at old ≡ walking seats + walking_at v
walking_set [] seat old v e = cc
walking_set (slot ∷ seats) zero old v e = let z : slot ≡ old = cc in rw z (omega arith)
walking_set (slot ∷ seats) (suc seat) old v e = omega (arith, walking_set seats seat old v e)

-- a seat more, with no call
number_more : (seats : List (Option Running)) (d : ℕ) → number_on (seats ++ None ∷ []) d ≡ number_on seats d
number_more [] zero = refl
number_more [] (suc d) = refl
number_more (slot ∷ seats) zero = refl
number_more (slot ∷ seats) (suc d) = number_more seats d

record_more : (k : ℕ) (seats : List (Option Running)) (c : ℕ) → record_from k (seats ++ None ∷ []) c ≡ record_from k seats c
record_more k [] c = refl
record_more k (None ∷ seats) c = record_more (k + 1) seats c
record_more k (Some p ∷ seats) c = ap (cond (eqb c p.call) (Some (record_of k p.place p.op))) (record_more (k + 1) seats c)

pub numbers_more : (seats : List (Option Running)) → number_on (seats ++ None ∷ []) ≡ number_on seats
numbers_more seats = fun_ext (λ d. number_more seats d)

pub records_more : (seats : List (Option Running)) → records (seats ++ None ∷ []) ≡ records seats
records_more seats = fun_ext (λ c. record_more 0 seats c)

pub owed_more : (seats : List (Option Running)) → owed (seats ++ None ∷ []) ≡ owed seats
owed_more [] = refl
owed_more (slot ∷ seats) = ap (λ (n : ℕ). owed_at slot + n) (owed_more seats)

pub walking_more : (seats : List (Option Running)) → walking (seats ++ None ∷ []) ≡ walking seats
walking_more [] = refl
walking_more (slot ∷ seats) = ap (λ (n : ℕ). walking_at slot + n) (walking_more seats)

-- a change of one element leaves as many as another list has
pub length_after : {A B : Type 0} (xs : List A) (ys : List B) (i : ℕ) (y : B) → length xs ≡ length ys → length xs ≡ length (slice_set ys i y)
length_after xs ys i y e = e ∙ sym (length-set ys i y)

-- and one more in each too
pub length_more : {A B : Type 0} (xs new : List A) (ys after : List B) (x : A) (y : B) → new ≡ xs ++ x ∷ [] → after ≡ ys ++ y ∷ [] → length xs ≡ length ys → length new ≡ length after
length_more xs new ys after x y e f g = ap length e ∙ length-append xs (x ∷ []) ∙ ap (λ (n : ℕ). n + 1) g ∙ sym (length-append ys (y ∷ [])) ∙ sym (ap length f)
