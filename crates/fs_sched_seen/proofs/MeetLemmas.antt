-- Calls that meet: which calls are pending, one entry more, one thread more, one run more.
use Rattle.std.proofs.Common.{ℕ, zero, suc, ◌≡◌, ◌+◌, ◌-◌, ◌≤◌, ◌<◌, ◌==◌, Bool, true, false, not, ◌&&◌, ◌||◌, nat_lt, if◌then◌else◌, List, [], ◌∷◌, ◌++◌, length, get_or, map, Option, Some, None, is_some, refl, sym, ap, ap₂, ◌∙◌, inl, inr, arith, append_assoc}
use Rattle.std.specs.List.{AllByRecursion, cons_option, count_by, flat_map, range_with_len, sum_by}
use Rattle.std.proofs.lemmas.Bool.{and_parts, and_from, or_cases, or_parts, or_left, or_right, not-true, not_from_false, eqb-true, eq-eqb, ltb-true, lt-ltb, le-ltb, cases_lt}
use Rattle.std.proofs.lemmas.List.Folds.{list_any-append}
use Rattle.std.proofs.lemmas.List.Sums.{sum_by-cons}
use Rattle.fs_names.specs.Failures.{or_else}
use Rattle.fs_calls.specs.declared.call.Call.{Call}
use Rattle.fs_calls.specs.declared.reply.Reply.{Reply}
use Rattle.fs_timeline.specs.Timeline.{begun_on, has_returned, is_busy, is_open, is_return, last_on}
use Rattle.fs_timeline.specs.declared.entry.Entry.{Entry}
use Rattle.fs_timeline.specs.declared.entry.Entry.TheVariants.{Begin, Commit, Return}
use Rattle.fs_timeline.proofs.AppendLemmas.{or_else-nothing}
use Rattle.fs_sched_seen.specs.Calls.{calls_on, reply_of, returned_as, place_on, places_at, places_of}
use Rattle.fs_sched_seen.specs.Meetings.{is_pending, are_pending, meet_from, meet, meet_in, is_pair, count_pairs}
use Rattle.fs_sched_seen.specs.code.Heards.{IsReplyAt}
use Rattle.fs_sched_seen.specs.code.Meetings.{pending_on, same_place, both_on, beside, near, begins_at}
use Rattle.fs_sched_seen.specs.declared.places.Place.{Place}
use Rattle.fs_sched_seen.proofs.HeardLemmas.{others_heard}

-- ---- tests

same_tests : (x y : Bool) → (x ≡ true → y ≡ true) → (y ≡ true → x ≡ true) → x ≡ y
same_tests true y there back = sym (there refl)
same_tests false true there back = back refl
same_tests false false there back = refl

or_false : (x : Bool) → (x || false) ≡ x
or_false true = refl
or_false false = refl

or_true : (x : Bool) → (x || true) ≡ true
or_true true = refl
or_true false = refl

or_or : (x y z : Bool) → (x || (y || z)) ≡ ((x || y) || z)
or_or true y z = refl
or_or false y z = refl

and_swap : (a b c d : Bool) → ((a && c) && (b && d)) ≡ ((a && b) && (c && d))
and_swap true true c d = refl
and_swap true false true d = refl
and_swap true false false d = refl
and_swap false b c d = refl

and_false : (x : Bool) → (x && false) ≡ false
and_false true = refl
and_false false = refl

if_some : {A : Type 0} (b : Bool) (x : A) → is_some (if b then Some x else None) ≡ b
if_some true x = refl
if_some false x = refl

is_none : {A : Type 0} (o : Option A) → is_some o ≡ false → o ≡ None
is_none None e = refl
is_none (Some x) e = absurd cc

-- ---- the call of a thread that is pending

last_of : ℕ → List ℕ → ℕ
last_of x [] = x
last_of x (y ∷ l) = last_of y l

last_option : List ℕ → Option ℕ
last_option [] = None
last_option (x ∷ l) = Some (last_of x l)

last_step : (o : Option ℕ) (l : List ℕ) (last : Option ℕ) → last ≡ last_option l → or_else last o ≡ last_option (cons_option o l)
unfolding last_option last_of
last_step None l last e = or_else-nothing last ∙ e
last_step (Some c) [] last e = ap (λ o. or_else o (Some c)) e
last_step (Some c) (x ∷ l) last e = ap (λ o. or_else o (Some c)) e

last_is : (s : ℕ) (es : List Entry) → last_on s es ≡ last_option (calls_on s es)
unfolding last_option
last_is s [] = refl
last_is s (e ∷ es) = last_step (begun_on s e) (calls_on s es) (last_on s es) (last_is s es)

end_is : (x : ℕ) (l : List ℕ) (d : ℕ) → get_or (x ∷ l) (length l) d ≡ last_of x l
unfolding last_of
end_is x [] d = refl
end_is x (y ∷ l) d = end_is y l d

some_step : (o r : Option Reply) (b : Bool) → b ≡ is_some r → (b || is_some o) ≡ is_some (or_else o r)
some_step None r b e = or_false b ∙ e
some_step (Some x) r b e = or_true b

return_step : (c : ℕ) (e : Entry) → is_return c e ≡ is_some (returned_as c e)
return_step c (Begin d seat call) = refl
return_step c (Commit d) = refl
return_step c (Return d r) = sym (if_some (c == d) r)

returned_is : (c : ℕ) (es : List Entry) → has_returned c es ≡ is_some (reply_of c es)
returned_is c [] = refl
returned_is c (e ∷ es) = ap (λ b. is_return c e || b) (returned_is c es) ∙ some_step (reply_of c es) (returned_as c e) (is_return c e) (return_step c e)

answered : (es : List Entry) (reply : Option Reply) (at : Option ℕ) → IsReplyAt es reply at → is_some reply ≡ is_some at
answered es reply None is = ap (λ (o : Option Reply). is_some o) is
answered es reply (Some at) (d, r, there, is) = ap (λ (o : Option Reply). is_some o) is

busy_is : (s : ℕ) (es : List Entry) (o : Option ℕ) → last_option (calls_on s es) ≡ o → is_busy s es ≡ is_open o es
busy_is s es o e = ap (λ (l : Option ℕ). is_open l es) (last_is s es ∙ e)

pub pending_none : (es : List Entry) (s : ℕ) (calls : List ℕ) → calls ≡ calls_on s es → length calls ≡ 0 → pending_on es s ≡ None
unfolding last_option
pending_none es s [] is none = ap (λ b. if b then Some (record { seat = s; turn = length (calls_on s es) }) else None) (busy_is s es None (ap last_option (sym is)))
pending_none es s (x ∷ l) is none = absurd (let z : suc (length l) ≡ 0 = none in omega (arith, z))

pending_by : (b : Bool) (at : Option ℕ) (p : Place) → b ≡ not (is_some at) → (if b then Some p else None) ≡ (if is_some at then None else Some p)
pending_by b None p e = ap (λ t. if t then Some p else None) e
pending_by b (Some at) p e = ap (λ t. if t then Some p else None) e

pub pending_last : (es : List Entry) (s : ℕ) (calls : List ℕ) (call d : ℕ) (at : Option ℕ) → calls ≡ calls_on s es → 0 < length calls → call ≡ get_or calls (length calls - 1) d → IsReplyAt es (reply_of call es) at
    → pending_on es s ≡ (if is_some at then None else Some (record { seat = s; turn = length calls }))
unfolding last_option
pending_last es s [] call d at is some here reply = absurd (let z : 0 < 0 = some in omega (arith, z))
pending_last es s (x ∷ l) call d at is some here reply =
    let index : suc (length l) - 1 ≡ length l = omega arith in
    let last : call ≡ last_of x l = here ∙ ap (λ i. get_or (x ∷ l) i d) index ∙ end_is x l d in
    let opened : is_busy s es ≡ not (has_returned call es) = busy_is s es (Some call) (ap last_option (sym is) ∙ ap (λ (c : ℕ). Some c) (sym last)) in
    let busy : is_busy s es ≡ not (is_some at) = opened ∙ ap not (returned_is call es ∙ answered es (reply_of call es) at reply) in
    ap (λ (cs : List ℕ). if is_busy s es then Some (record { seat = s; turn = length cs }) else None) (sym is) ∙ pending_by (is_busy s es) at (record { seat = s; turn = length (x ∷ l) }) busy

-- ---- both calls of two threads

at_seat : (es : List Entry) (s : ℕ) (p : Place) (busy there : Bool) (a : Place) → is_busy s es ≡ busy → (p.seat == s) ≡ there → (if busy then Some (record { seat = s; turn = length (calls_on s es) }) else None) ≡ Some a
    → same_place p a ≡ (there && is_pending es p)
at_seat es s p true true a opened here is =
    let place : a ≡ record { seat = s; turn = length (calls_on s es) } = cc in
    let seat : p.seat ≡ s = eqb-true p.seat s here in
    ap (same_place p) place ∙ ap (λ b. b && (p.turn == length (calls_on s es))) here
    ∙ sym (ap (λ (k : ℕ). (p.turn == length (calls_on k es)) && is_busy k es) seat ∙ ap (λ b. (p.turn == length (calls_on s es)) && b) opened ∙ and_true (p.turn == length (calls_on s es)))
  where
    and_true : (x : Bool) → (x && true) ≡ x
    and_true true = refl
    and_true false = refl
at_seat es s p true false a opened here is =
    let place : a ≡ record { seat = s; turn = length (calls_on s es) } = cc in
    ap (same_place p) place ∙ ap (λ b. b && (p.turn == length (calls_on s es))) here
at_seat es s p false there a opened here is = absurd cc

pending_at : (es : List Entry) (s : ℕ) (a p : Place) → pending_on es s ≡ Some a → same_place p a ≡ ((p.seat == s) && is_pending es p)
pending_at es s a p is = at_seat es s p (is_busy s es) (p.seat == s) a refl refl is

not_at_seat : (es : List Entry) (s : ℕ) (p : Place) (busy there : Bool) → is_busy s es ≡ busy → (p.seat == s) ≡ there → ◌≡◌ {A = Option Place} (if busy then Some (record { seat = s; turn = length (calls_on s es) }) else None) None
    → (there && is_pending es p) ≡ false
not_at_seat es s p true there opened here is = absurd cc
not_at_seat es s p false false opened here is = refl
not_at_seat es s p false true opened here is =
    let seat : p.seat ≡ s = eqb-true p.seat s here in
    ap (λ (k : ℕ). (p.turn == length (calls_on k es)) && is_busy k es) seat ∙ ap (λ b. (p.turn == length (calls_on s es)) && b) opened ∙ and_false (p.turn == length (calls_on s es))

pending_not : (es : List Entry) (s : ℕ) (p : Place) → pending_on es s ≡ None → ((p.seat == s) && is_pending es p) ≡ false
pending_not es s p is = not_at_seat es s p (is_busy s es) (p.seat == s) refl refl is

both_parts : (es : List Entry) (s t : ℕ) (p q : Place) → s < t → (((p.seat == s) && is_pending es p) && ((q.seat == t) && is_pending es q)) ≡ both_on es s t p q
both_parts es s t p q less = and_swap (p.seat == s) (q.seat == t) (is_pending es p) (is_pending es q) ∙ ap (λ b. b && (((p.seat == s) && (q.seat == t)) && are_pending es p q)) (sym (lt-ltb s t less))

pub both_is : (es : List Entry) (s t : ℕ) (a b p q : Place) → s < t → pending_on es s ≡ Some a → pending_on es t ≡ Some b → (same_place p a && same_place q b) ≡ both_on es s t p q
both_is es s t a b p q less first second = ap₂ (λ x y. x && y) (pending_at es s a p first) (pending_at es t b q second) ∙ both_parts es s t p q less

pub first_not : (es : List Entry) (s t : ℕ) (p q : Place) → s < t → pending_on es s ≡ None → both_on es s t p q ≡ false
first_not es s t p q less none = sym (both_parts es s t p q less) ∙ ap (λ b. b && ((q.seat == t) && is_pending es q)) (pending_not es s p none)

pub second_not : (es : List Entry) (s t : ℕ) (p q : Place) → s < t → pending_on es t ≡ None → both_on es s t p q ≡ false
second_not es s t p q less none = sym (both_parts es s t p q less) ∙ ap (λ b. ((p.seat == s) && is_pending es p) && b) (pending_not es t q none) ∙ and_false ((p.seat == s) && is_pending es p)

pub order_not : (es : List Entry) (s t : ℕ) (p q : Place) → t ≤ s → both_on es s t p q ≡ false
order_not es s t p q most = ap (λ b. b && (((p.seat == s) && (q.seat == t)) && are_pending es p q)) (le-ltb s t most)

-- ---- one thread more

pub near_none : (s : ℕ) (p q : Place) → near s 0 p q ≡ false
near_none s p q = ap₂ (λ x y. x || y) (by (p.seat == s) q.seat) (by (q.seat == s) p.seat)
  where
    by : (b : Bool) (k : ℕ) → (b && nat_lt k 0) ≡ false
    by b k = ap (λ x. b && x) (le-ltb k 0 (omega arith)) ∙ and_false b

to_more : (s k a b : ℕ) → ((a == s) && nat_lt b k) ≡ true → ((a == s) && nat_lt b (k + 1)) ≡ true
to_more s k a b h =
    let parts : ((a == s) ≡ true) × (nat_lt b k ≡ true) = and_parts (a == s) (nat_lt b k) h in
    let less : b < k = ltb-true b k parts.1 in
    and_from (a == s) (nat_lt b (k + 1)) parts.0 (lt-ltb b (k + 1) (omega (arith, less)))

record IsBoth (s t a b : ℕ) (m : Bool) : Type 0 where
  less : s < t
  first : a ≡ s
  second : b ≡ t
  are : m ≡ true

both_read : (s t a b : ℕ) (m : Bool) → (nat_lt s t && (((a == s) && (b == t)) && m)) ≡ true → IsBoth s t a b m
both_read s t a b m h =
    let x : (nat_lt s t ≡ true) × ((((a == s) && (b == t)) && m) ≡ true) = and_parts (nat_lt s t) (((a == s) && (b == t)) && m) h in
    let y : (((a == s) && (b == t)) ≡ true) × (m ≡ true) = and_parts ((a == s) && (b == t)) m x.1 in
    let z : ((a == s) ≡ true) × ((b == t) ≡ true) = and_parts (a == s) (b == t) y.0 in
    record { less = ltb-true s t x.0; first = eqb-true a s z.0; second = eqb-true b t z.1; are = y.1 }

both_made : (s t a b : ℕ) (m : Bool) → IsBoth s t a b m → (nat_lt s t && (((a == s) && (b == t)) && m)) ≡ true
both_made s t a b m is =
    and_from (nat_lt s t) (((a == s) && (b == t)) && m) (lt-ltb s t is.less)
    (and_from ((a == s) && (b == t)) m (and_from (a == s) (b == t) (eq-eqb a s is.first) (eq-eqb b t is.second)) is.are)

module _ (s k a b : ℕ) (m : Bool) where
  abbrev was_near : Bool
  was_near = ((a == s) && nat_lt b k) || ((b == s) && nat_lt a k)

  abbrev is_near : Bool
  is_near = ((a == s) && nat_lt b (k + 1)) || ((b == s) && nat_lt a (k + 1))

  abbrev one : Bool
  one = nat_lt s k && (((a == s) && (b == k)) && m)

  abbrev other : Bool
  other = nat_lt k s && (((a == k) && (b == s)) && m)

  abbrev all : Bool
  all = ((was_near && m) || one) || other

  first : a ≡ s → b < k + 1 → is_near ≡ true
  first e less = or_left ((a == s) && nat_lt b (k + 1)) ((b == s) && nat_lt a (k + 1)) (and_from (a == s) (nat_lt b (k + 1)) (eq-eqb a s e) (lt-ltb b (k + 1) less))

  second : b ≡ s → a < k + 1 → is_near ≡ true
  second e less = or_right ((a == s) && nat_lt b (k + 1)) ((b == s) && nat_lt a (k + 1)) (and_from (b == s) (nat_lt a (k + 1)) (eq-eqb b s e) (lt-ltb a (k + 1) less))

  grown : was_near ≡ true → is_near ≡ true
  grown h = elim (or_cases ((a == s) && nat_lt b k) ((b == s) && nat_lt a k) h) [
    | inl x ↦ or_left ((a == s) && nat_lt b (k + 1)) ((b == s) && nat_lt a (k + 1)) (to_more s k a b x)
    | inr x ↦ or_right ((a == s) && nat_lt b (k + 1)) ((b == s) && nat_lt a (k + 1)) (to_more s k b a x)
  ]

  from_near : (was_near && m) ≡ true → (is_near && m) ≡ true
  from_near h = let x : (was_near ≡ true) × (m ≡ true) = and_parts was_near m h in and_from is_near m (grown x.0) x.1

  from_one : one ≡ true → (is_near && m) ≡ true
  from_one h = let is : IsBoth s k a b m = both_read s k a b m h in let g = is.second in and_from is_near m (first is.first (omega (arith, g))) is.are

  from_other : other ≡ true → (is_near && m) ≡ true
  from_other h = let is : IsBoth k s a b m = both_read k s a b m h in let f = is.first in and_from is_near m (second is.second (omega (arith, f))) is.are

  from_two : ((was_near && m) || one) ≡ true → (is_near && m) ≡ true
  from_two h = elim (or_cases (was_near && m) one h) [ inl x ↦ from_near x | inr x ↦ from_one x ]

  from_all : all ≡ true → (is_near && m) ≡ true
  from_all h = elim (or_cases ((was_near && m) || one) other h) [ inl x ↦ from_two x | inr x ↦ from_other x ]

  to_near : was_near ≡ true → m ≡ true → all ≡ true
  to_near h are = or_left ((was_near && m) || one) other (or_left (was_near && m) one (and_from was_near m h are))

  to_first : a < b → a ≡ s → b < k + 1 → m ≡ true → all ≡ true
  to_first order e less are = elim (cases_lt b k) [
    | inl x ↦ to_near (or_left ((a == s) && nat_lt b k) ((b == s) && nat_lt a k) (and_from (a == s) (nat_lt b k) (eq-eqb a s e) (lt-ltb b k x))) are
    | inr x ↦ or_left ((was_near && m) || one) other (or_right (was_near && m) one (both_made s k a b m (record { less = omega (arith, e, x, less, order); first = e; second = omega (arith, x, less); are = are })))
  ]

  to_second : a < b → b ≡ s → a < k + 1 → m ≡ true → all ≡ true
  to_second order e less are = elim (cases_lt a k) [
    | inl x ↦ to_near (or_right ((a == s) && nat_lt b k) ((b == s) && nat_lt a k) (and_from (b == s) (nat_lt a k) (eq-eqb b s e) (lt-ltb a k x))) are
    | inr x ↦ or_right ((was_near && m) || one) other (both_made k s a b m (record { less = omega (arith, e, x, less, order); first = omega (arith, x, less); second = e; are = are }))
  ]

  to_all : a < b → (is_near && m) ≡ true → all ≡ true
  to_all order h =
      let x : (is_near ≡ true) × (m ≡ true) = and_parts is_near m h in
      elim (or_cases ((a == s) && nat_lt b (k + 1)) ((b == s) && nat_lt a (k + 1)) x.0) [
        | inl y ↦ (let z : ((a == s) ≡ true) × (nat_lt b (k + 1) ≡ true) = and_parts (a == s) (nat_lt b (k + 1)) y in to_first order (eqb-true a s z.0) (ltb-true b (k + 1) z.1) x.1)
        | inr y ↦ (let z : ((b == s) ≡ true) × (nat_lt a (k + 1) ≡ true) = and_parts (b == s) (nat_lt a (k + 1)) y in to_second order (eqb-true b s z.0) (ltb-true a (k + 1) z.1) x.1)
      ]

  near_more : a < b → all ≡ (is_near && m)
  near_more order = same_tests all (is_near && m) from_all (to_all order)

-- two threads more that are noted
pub thread_more : (es : List Entry) (s k : ℕ) (p q : Place) (start old middle new : Bool) → p.seat < q.seat → old ≡ (start || (near s k p q && are_pending es p q)) → middle ≡ (old || both_on es s k p q) → new ≡ (middle || both_on es k s p q)
    → new ≡ (start || (near s (k + 1) p q && are_pending es p q))
thread_more es s k p q start old middle new order was one two =
    two ∙ ap (λ b. b || both_on es k s p q) (one ∙ ap (λ b. b || both_on es s k p q) was ∙ sym (or_or start (near s k p q && are_pending es p q) (both_on es s k p q)))
    ∙ sym (or_or start ((near s k p q && are_pending es p q) || both_on es s k p q) (both_on es k s p q))
    ∙ ap (λ b. start || b) (near_more s k p.seat q.seat (are_pending es p q) order)

pub near_all : (s n : ℕ) (p q : Place) → p.seat < q.seat → q.seat < n → near s n p q ≡ beside s p q
near_all s n p q order less = ap₂ (λ x y. x || y) (by (p.seat == s) q.seat less) (by (q.seat == s) p.seat (omega (arith, order, less)))
  where
    and_true : (x : Bool) → (x && true) ≡ x
    and_true true = refl
    and_true false = refl

    by : (b : Bool) (k : ℕ) → k < n → (b && nat_lt k n) ≡ b
    by b k under = ap (λ x. b && x) (lt-ltb k n under) ∙ and_true b

pub begins_beside : (c s : ℕ) (call : Call) (p q : Place) → begins_at (Begin c s call) p q ≡ beside s p q
begins_beside c s call p q = ap₂ (λ x y. x || y) (if_some (p.seat == s) c) (if_some (q.seat == s) c)

-- ---- one entry more

calls_same : (s : ℕ) (es : List Entry) (e : Entry) → begun_on s e ≡ None → calls_on s (es ++ e ∷ []) ≡ calls_on s es
calls_same s es e none = sym (others_heard s e (calls_on s es) (calls_on s es) es none refl refl)

last_same : (s : ℕ) (es : List Entry) (e : Entry) → begun_on s e ≡ None → last_on s (es ++ e ∷ []) ≡ last_on s es
last_same s es e none = last_is s (es ++ e ∷ []) ∙ ap last_option (calls_same s es e none) ∙ sym (last_is s es)

open_back : (o : Option ℕ) (es : List Entry) (e : Entry) → is_open o (es ++ e ∷ []) ≡ true → is_open o es ≡ true
open_back None es e h = h
open_back (Some c) es e h =
    let all : has_returned c (es ++ e ∷ []) ≡ (has_returned c es || has_returned c (e ∷ [])) = list_any-append (is_return c) es (e ∷ []) in
    let parts : (has_returned c es ≡ false) × (has_returned c (e ∷ []) ≡ false) = or_parts (has_returned c es) (has_returned c (e ∷ [])) (sym all ∙ not-true (has_returned c (es ++ e ∷ [])) h) in
    not_from_false (has_returned c es) parts.0

pending_back : (es : List Entry) (e : Entry) (p : Place) → begun_on p.seat e ≡ None → is_pending (es ++ e ∷ []) p ≡ true → is_pending es p ≡ true
pending_back es e p none h =
    let parts : ((p.turn == length (calls_on p.seat (es ++ e ∷ []))) ≡ true) × (is_busy p.seat (es ++ e ∷ []) ≡ true) = and_parts (p.turn == length (calls_on p.seat (es ++ e ∷ []))) (is_busy p.seat (es ++ e ∷ [])) h in
    let turn : (p.turn == length (calls_on p.seat es)) ≡ true = ap (λ (l : List ℕ). p.turn == length l) (sym (calls_same p.seat es e none)) ∙ parts.0 in
    let opened : is_open (last_on p.seat es) (es ++ e ∷ []) ≡ true = ap (λ (o : Option ℕ). is_open o (es ++ e ∷ [])) (sym (last_same p.seat es e none)) ∙ parts.1 in
    and_from (p.turn == length (calls_on p.seat es)) (is_busy p.seat es) turn (open_back (last_on p.seat es) es e opened)

both_back : (es : List Entry) (e : Entry) (p q : Place) → begins_at e p q ≡ false → are_pending (es ++ e ∷ []) p q ≡ true → are_pending es p q ≡ true
both_back es e p q apart h =
    let none : (is_some (begun_on p.seat e) ≡ false) × (is_some (begun_on q.seat e) ≡ false) = or_parts (is_some (begun_on p.seat e)) (is_some (begun_on q.seat e)) apart in
    let parts : (is_pending (es ++ e ∷ []) p ≡ true) × (is_pending (es ++ e ∷ []) q ≡ true) = and_parts (is_pending (es ++ e ∷ []) p) (is_pending (es ++ e ∷ []) q) h in
    and_from (is_pending es p) (is_pending es q) (pending_back es e p (is_none (begun_on p.seat e) none.0) parts.0) (pending_back es e q (is_none (begun_on q.seat e) none.1) parts.1)

pending_meets : (before : List Entry) (e : Entry) (es : List Entry) (p q : Place) → are_pending (before ++ e ∷ es) p q ≡ true → meet_from before (e ∷ es) p q ≡ true
pending_meets before e [] p q h = or_left (are_pending (before ++ e ∷ []) p q) (meet_from (before ++ e ∷ []) [] p q) h
pending_meets before e (f ∷ es) p q h =
    or_right (are_pending (before ++ e ∷ []) p q) (meet_from (before ++ e ∷ []) (f ∷ es) p q)
    (pending_meets (before ++ e ∷ []) f es p q (ap (λ (l : List Entry). are_pending l p q) (append_assoc before (e ∷ []) (f ∷ es)) ∙ h))

meet_now : (es : List Entry) (p q : Place) → are_pending es p q ≡ true → meet es p q ≡ true
meet_now [] p q h = absurd (by (and_parts (is_pending [] p) (is_pending [] q) h).0)
  where
    by : is_pending [] p ≡ true → ⊥
    by one = let z : false ≡ true = (and_parts (p.turn == length (calls_on p.seat [])) (is_busy p.seat []) one).1 in cc
meet_now (e ∷ es) p q h = pending_meets [] e es p q h

meet_more : (before es : List Entry) (e : Entry) (p q : Place) → meet_from before (es ++ e ∷ []) p q ≡ (meet_from before es p q || are_pending (before ++ (es ++ e ∷ [])) p q)
meet_more before [] e p q = or_false (are_pending (before ++ e ∷ []) p q)
meet_more before (f ∷ es) e p q =
    let here : Bool = are_pending (before ++ f ∷ []) p q in
    ap (λ b. are_pending (before ++ f ∷ []) p q || b) (meet_more (before ++ f ∷ []) es e p q ∙ ap (λ (l : List Entry). meet_from (before ++ f ∷ []) es p q || are_pending l p q) (append_assoc before (f ∷ []) (es ++ e ∷ [])))
    ∙ or_or (are_pending (before ++ f ∷ []) p q) (meet_from (before ++ f ∷ []) es p q) (are_pending (before ++ (f ∷ (es ++ e ∷ []))) p q)

by_begin : (begins pending meets : Bool) → (begins ≡ false → pending ≡ true → meets ≡ true) → (meets || (begins && pending)) ≡ (meets || pending)
by_begin true pending meets back = refl
by_begin false false meets back = refl
by_begin false true true back = refl
by_begin false true false back = absurd (let z : false ≡ true = back refl refl in cc)

meet_step : (es : List Entry) (e : Entry) (p q : Place) → (meet es p q || (begins_at e p q && are_pending (es ++ e ∷ []) p q)) ≡ meet (es ++ e ∷ []) p q
meet_step es e p q = by_begin (begins_at e p q) (are_pending (es ++ e ∷ []) p q) (meet es p q) (λ apart h. meet_now es p q (both_back es e p q apart h)) ∙ sym (meet_more [] es e p q)

pub entry_more : (es : List Entry) (e : Entry) (p q : Place) (start old new : Bool) → old ≡ (start || meet es p q) → new ≡ (old || (begins_at e p q && are_pending (es ++ e ∷ []) p q)) → new ≡ (start || meet (es ++ e ∷ []) p q)
entry_more es e p q start old new was adds =
    adds ∙ ap (λ b. b || (begins_at e p q && are_pending (es ++ e ∷ []) p q)) was ∙ sym (or_or start (meet es p q) (begins_at e p q && are_pending (es ++ e ∷ []) p q)) ∙ ap (λ b. start || b) (meet_step es e p q)

-- ---- one run more

pub run_more : (timelines : List (List Entry)) (es : List Entry) (p q : Place) (old new : Bool) → old ≡ meet_in timelines p q → new ≡ (old || meet es p q) → new ≡ meet_in (timelines ++ es ∷ []) p q
run_more timelines es p q old new was adds =
    adds ∙ ap₂ (λ x y. x || y) was (sym (or_false (meet es p q))) ∙ sym (list_any-append (λ (l : List Entry). meet l p q) timelines (es ∷ []))

-- ---- the pairs of a script

all_append : (P : Place → Type 0) (xs ys : List Place) → AllByRecursion P xs → AllByRecursion P ys → AllByRecursion P (xs ++ ys)
all_append P [] ys all others = others
all_append P (x ∷ xs) ys all others = (all.0, all_append P xs ys all.1 others)

all_on : (n seat : ℕ) (turns : List ℕ) → seat < n → AllByRecursion (λ (p : Place). p.seat < n) (map (place_on seat) turns)
all_on n seat [] less = tt
all_on n seat (t ∷ turns) less = (less, all_on n seat turns less)

all_from : (lists : List (List Call)) (n a k : ℕ) → a + k ≤ n → AllByRecursion (λ (p : Place). p.seat < n) (flat_map (places_at lists) (range_with_len a k))
all_from lists n a zero most = tt
all_from lists n a (suc k) most =
    let z : a + suc k ≤ n = most in
    all_append (λ (p : Place). p.seat < n) (places_at lists a) (flat_map (places_at lists) (range_with_len (a + 1) k)) (all_on n a (range_with_len 0 (length (get_or lists a []))) (omega (arith, z))) (all_from lists n (a + 1) k (omega (arith, z)))

pub all_seats : (lists : List (List Call)) → AllByRecursion (λ (p : Place). p.seat < length lists) (places_of lists)
all_seats lists = all_from lists (length lists) 0 (length lists) (omega arith)

pair_same : (so such : Place → Place → Bool) (p q : Place) (b : Bool) → nat_lt p.seat q.seat ≡ b → (p.seat < q.seat → so p q ≡ such p q) → is_pair so p q ≡ is_pair such p q
pair_same so such p q true e same = ap (λ b. nat_lt p.seat q.seat && b) (same (ltb-true p.seat q.seat e))
pair_same so such p q false e same = ap (λ b. b && so p q) e ∙ sym (ap (λ b. b && such p q) e)

module _ (so such : Place → Place → Bool) (n : ℕ) (same : (p q : Place) → p.seat < q.seat → q.seat < n → so p q ≡ such p q) where
  count_same : (p : Place) (qs : List Place) → AllByRecursion (λ (q : Place). q.seat < n) qs → count_by (is_pair so p) qs ≡ count_by (is_pair such p) qs
  count_same p [] all = refl
  count_same p (q ∷ qs) all =
      sum_by-cons (λ (x : Place). if is_pair so p x then 1 else 0) q qs
      ∙ ap₂ (λ x y. x + y) (ap (λ b. if b then 1 else 0) (pair_same so such p q (nat_lt p.seat q.seat) refl (λ less. same p q less all.0))) (count_same p qs all.1)
      ∙ sym (sum_by-cons (λ (x : Place). if is_pair such p x then 1 else 0) q qs)

  rows_same : (ps places : List Place) → AllByRecursion (λ (q : Place). q.seat < n) places → sum_by (λ (p : Place). count_by (is_pair so p) places) ps ≡ sum_by (λ (p : Place). count_by (is_pair such p) places) ps
  rows_same [] places all = refl
  rows_same (p ∷ ps) places all =
      sum_by-cons (λ (x : Place). count_by (is_pair so x) places) p ps ∙ ap₂ (λ x y. x + y) (count_same p places all) (rows_same ps places all) ∙ sym (sum_by-cons (λ (x : Place). count_by (is_pair such x) places) p ps)

  pub pairs_same : (places : List Place) → AllByRecursion (λ (q : Place). q.seat < n) places → count_pairs so places ≡ count_pairs such places
  pairs_same places all = rows_same places places all
