-- A call that waits commits before others that wait in front of it, where it meets none of them.
use Rattle.std.proofs.Common.{◌≡◌, ℕ, suc, ◌+◌, ◌≤◌, Bool, true, false, ◌||◌, ◌==◌, cond, inl, inr, List, [], ◌∷◌, ◌++◌, length, refl, sym, ap, ◌∙◌, subst, ⊎_elim, arith, length-append}
use Rattle.std.proofs.lemmas.Bool.{eqb-true, both_ways, or_cases}
use Rattle.fs_calls.specs.Tree.{IsTree}
use Rattle.fs_calls.specs.Starts.{Start, start_tree}
use Rattle.fs_calls.specs.Outcomes.{next_start, called}
use Rattle.fs_calls.specs.Forms.{form}
use Rattle.fs_calls.specs.declared.call.Call.{Call}
use Rattle.fs_calls.proofs.TreeLaws.{stays_a_tree}
use Rattle.fs_timeline.specs.Timeline.{commits}
use Rattle.fs_timeline.specs.declared.entry.Entry.{Entry}
use Rattle.fs_linearizable.specs.Linearizable.{history}
use Rattle.fs_linearize_histories.specs.declared.heard.Heard.{Heard}
use Rattle.fs_linearize_histories.specs.Histories.{FitsIn, ExplainsFront}
use Rattle.fs_linearize_histories.specs.Meeting.{calls_meet, HasRoom}
use Rattle.fs_linearize_histories.specs.Configurations.{Configuration, is_in, without, IsOpen, IsNear}
use Rattle.fs_linearize_histories.proofs.HistoryLemmas.{passed_call, passed_return}
use Rattle.fs_linearize_histories.proofs.Following.{without_other, AllOf, all_map, all_both, waits, Distinct, Replays, IsWaiting, Follows}
use Rattle.fs_linearize_histories.proofs.EarlyCommits.{eqb_flip}
use Rattle.fs_linearize_histories.proofs.ChangingLemmas.{after_is}
use Rattle.fs_linearize_histories.proofs.CountingLemmas.{after_adds}
use Rattle.fs_linearize_histories.proofs.CommutingLemmas.{apart_calls_commute}

-- ---- the first call that waits of a set

pub record FirstNear (near : ℕ → Bool) (p : List (ℕ × Call)) : Type 0 where
  pub before : List (ℕ × Call)
  pub first : ℕ × Call
  pub behind : List (ℕ × Call)
  pub is : p ≡ before ++ first ∷ behind
  pub left : AllOf (λ s. near s.0 ≡ false) before
  pub inside : near first.0 ≡ true

pub first_near : (near : ℕ → Bool) (c : ℕ) (p : List (ℕ × Call)) → near c ≡ true → waits c p ≡ true → FirstNear near p
first_near near c [] is w = absurd (cc)
first_near near c (q ∷ p) is w = by_test (λ later. first_near near c p is later) (near q.0) refl
  where
    more : near q.0 ≡ false → FirstNear near p → FirstNear near (q ∷ p)
    more out rest = record { before = q ∷ rest.before; first = rest.first; behind = rest.behind; is = ap (λ ss. q ∷ ss) rest.is; left = (out, rest.left); inside = rest.inside }

    by_test : (waits c p ≡ true → FirstNear near p) → (b : Bool) → near q.0 ≡ b → FirstNear near (q ∷ p)
    by_test rest true e = record { before = []; first = q; behind = p; is = refl; left = tt; inside = e }
    by_test rest false e = ⊎_elim
        (λ here. absurd (both_ways _ e (subst (λ n. near n ≡ true) (eqb-true c q.0 here) is)))
        (λ later. more e (rest later))
        (or_cases (c == q.0) (waits c p) w)

-- ---- lists in which one element comes first

all_brought : (P : ℕ × Call → Type 0) (before : List (ℕ × Call)) (q : ℕ × Call) (behind : List (ℕ × Call)) → AllOf P (before ++ q ∷ behind) → AllOf P (q ∷ (before ++ behind))
all_brought P [] q behind h = h
all_brought P (s ∷ before) q behind h = let rest = all_brought P before q behind h.1 in (rest.0, (h.0, rest.1))

distinct_brought : (before : List (ℕ × Call)) (q : ℕ × Call) (behind : List (ℕ × Call)) → Distinct (before ++ q ∷ behind) → Distinct (q ∷ (before ++ behind))
distinct_brought [] q behind h = h
distinct_brought (s ∷ before) q behind h =
    let rest = distinct_brought before q behind h.1 in
    let apart = all_brought (λ r. (r.0 == s.0) ≡ false) before q behind h.0 in
    ((eqb_flip q.0 s.0 apart.0, rest.0), (apart.1, rest.1))

waits-brought : (c : ℕ) (before : List (ℕ × Call)) (q : ℕ × Call) (behind : List (ℕ × Call)) → waits c (before ++ q ∷ behind) ≡ waits c (q ∷ (before ++ behind))
waits-brought c [] q behind = refl
waits-brought c (s ∷ before) q behind = ap (λ b. (c == s.0) || b) (waits-brought c before q behind) ∙ swapped (c == s.0) (c == q.0) (waits c (before ++ behind))
  where
    swapped : (a b k : Bool) → (a || (b || k)) ≡ (b || (a || k))
    swapped true true k = refl
    swapped true false k = refl
    swapped false true k = refl
    swapped false false k = refl

-- ---- replies and trees

-- the call q may go before the call s, from a tree with room for so many more
record MayPass (room : ℕ) (t : Start) (q s : ℕ × Call) : Type 0 where
  pub siblings : Bool
  pub apart : calls_meet siblings q.1 s.1 ≡ false
  pub few : siblings ≡ false → HasRoom t.limits room t.tree

passes_later : (n : ℕ) (t : Start) (s : Call) (q : ℕ × Call) (before : List (ℕ × Call)) → IsTree (start_tree t) → AllOf (MayPass (suc n) t q) before → AllOf (MayPass n (called t s) q) before
passes_later n t s q before is may = all_map (MayPass (suc n) t q) (MayPass n (called t s) q) before (λ r m. record {
  siblings = m.siblings;
  apart = m.apart;
  few = λ e.
      let room = m.few e in
      let same = ap length (after_is t.limits t.tree s) in
      let more = after_adds t.tree (form t.limits s) is in
      omega (arith, room, same, more);
}) may

replays_brought : (h : List Heard) (t end : Start) (before : List (ℕ × Call)) (q : ℕ × Call) (behind : List (ℕ × Call)) → IsTree (start_tree t) → AllOf (MayPass (length before + 1) t q) before
    → Replays h t (before ++ q ∷ behind) end → Replays h t (q ∷ (before ++ behind)) end
replays_brought h t end [] q behind is may so = so
replays_brought h t end (s ∷ before) q behind is may so =
    let both = apart_calls_commute t.limits t.tree may.0.siblings q.1 s.1 is may.0.apart (λ e. let room = may.0.few e in omega (arith, room)) in
    let count : suc (length before) + 1 ≡ suc (length before + 1) = omega arith in
    let passes = subst (λ n. AllOf (MayPass n t q) before) count may.1 in
    let rest = replays_brought h (called t s.1) end before q behind (stays_a_tree t.limits t.tree s.1 is) (passes_later (length before + 1) t s.1 q before is passes) so.1 in
    let tree : called (called t q.1) s.1 ≡ called (called t s.1) q.1 = ap (λ u. record { limits = t.limits; tree = u }) both.tree in (
      subst (FitsIn h q.0) both.first rest.0,
      (subst (FitsIn h s.0) (sym both.second) so.0, subst (λ u. Replays h u (before ++ behind) end) (sym tree) rest.1),
    )

-- ---- how many wait

without_less : (c : ℕ) (xs : List ℕ) → length (without c xs) ≤ length xs
without_less c [] = omega arith
without_less c (d ∷ xs) =
    let rest = without_less c xs in
    elim (c == d) as (λ b. length (cond b (without c xs) (d ∷ without c xs)) ≤ suc (length xs)) [ true ↦ omega (arith, rest) | false ↦ omega (arith, rest) ]

without_fewer : (c : ℕ) (xs : List ℕ) → is_in c xs ≡ true → length (without c xs) + 1 ≤ length xs
without_fewer c [] h = absurd (cc)
without_fewer c (d ∷ xs) h = by_test (λ later. without_fewer c xs later) (c == d) h
  where
    by_test : (is_in c xs ≡ true → length (without c xs) + 1 ≤ length xs) → (b : Bool) → (b || is_in c xs) ≡ true → length (cond b (without c xs) (d ∷ without c xs)) + 1 ≤ suc (length xs)
    by_test rest true k = let less = without_less c xs in omega (arith, less)
    by_test rest false k = let less = rest k in omega (arith, less)

-- calls of different numbers, which are all in a list, are no more than these
few_wait : (p : List (ℕ × Call)) (numbers : List ℕ) → Distinct p → AllOf (λ q. is_in q.0 numbers ≡ true) p → length p ≤ length numbers
few_wait [] numbers d all = omega arith
few_wait (q ∷ p) numbers d all =
    let less = without_fewer q.0 numbers all.0 in
    let rest = few_wait p (without q.0 numbers) d.1 (all_map (λ s. (is_in s.0 numbers ≡ true) × ((s.0 == q.0) ≡ false)) (λ s. is_in s.0 (without q.0 numbers) ≡ true) p (λ s both. without_other s.0 q.0 numbers both.1 both.0)
    (all_both (λ s. is_in s.0 numbers ≡ true) (λ s. (s.0 == q.0) ≡ false) p all.1 d.0)) in
    omega (arith, less, rest)

-- ---- the configuration

waiting_open : (start : Start) (h : List Heard) (x : Configuration) (es : List Entry) (q : ℕ × Call) → ExplainsFront start h es → x.at ≡ length (history es) → IsWaiting x es q → IsOpen h x q.0 q.1
waiting_open start h x es q explains place w = record {
  begun = passed_call start h es x.at q.0 explains place ∙ w.begun;
  open_still = passed_return start h es x.at q.0 explains place ∙ w.open_still;
  not_yet = w.not_held;
}

all_open : (start : Start) (h : List Heard) (x : Configuration) (es : List Entry) (p : List (ℕ × Call)) → ExplainsFront start h es → Follows start h x es p → AllOf (λ q. IsOpen h x q.0 q.1) p
all_open start h x es p explains f = all_map (IsWaiting x es) (λ q. IsOpen h x q.0 q.1) p (λ q w. waiting_open start h x es q explains f.place w) f.waiting

-- a call of a set passes each that waits before it and is not in the set
passes_left_out : (start : Start) (h : List Heard) (x : Configuration) (es : List Entry) (c : ℕ) (near : ℕ → Bool) (before : List (ℕ × Call)) (q : ℕ × Call) (behind : List (ℕ × Call)) → ExplainsFront start h es
    → IsNear h x c near → near q.0 ≡ true → AllOf (λ s. near s.0 ≡ false) before → Follows start h x es (before ++ q ∷ behind) → AllOf (λ s. IsTree (start_tree x.now) × MayPass (length before + 1) x.now q s) before
passes_left_out start h x es c near before q behind explains is inside left f =
    let open_all = all_open start h x es (before ++ q ∷ behind) explains f in
    let brought = all_brought (λ s. IsOpen h x s.0 s.1) before q behind open_all in
    let many : length (before ++ q ∷ behind) ≡ length before + suc (length behind) = length-append before (q ∷ behind) in
    all_map (λ s. IsOpen h x s.0 s.1 × (near s.0 ≡ false)) (λ s. IsTree (start_tree x.now) × MayPass (length before + 1) x.now q s) before
    (λ s both.
    let out = is.others s.0 s.1 both.0 both.1 in (
      out.tree,
      record {
        siblings = out.siblings;
        apart = out.apart q.0 q.1 brought.0 inside;
        few = λ e.
            let room = out.room e in
            let few = few_wait (before ++ q ∷ behind) room.numbers f.distinct (all_map (λ r. IsOpen h x r.0 r.1) (λ r. is_in r.0 room.numbers ≡ true) (before ++ q ∷ behind) (λ r open_now. room.all r.0 r.1 open_now) open_all) in
            let enough = room.room in
            omega (arith, few, enough, many);
      },
    ))
    (all_both (λ s. IsOpen h x s.0 s.1) (λ s. near s.0 ≡ false) before (all_front before (q ∷ behind) open_all) left)
  where
    all_front : (xs ys : List (ℕ × Call)) → AllOf (λ s. IsOpen h x s.0 s.1) (xs ++ ys) → AllOf (λ s. IsOpen h x s.0 s.1) xs
    all_front [] ys k = tt
    all_front (r ∷ xs) ys k = (k.0, all_front xs ys k.1)

-- the first call of a set waits before all others
pub follows_brought : (start : Start) (h : List Heard) (x : Configuration) (es : List Entry) (c : ℕ) (near : ℕ → Bool) (before : List (ℕ × Call)) (q : ℕ × Call) (behind : List (ℕ × Call)) → ExplainsFront start h es
    → IsNear h x c near → near q.0 ≡ true → AllOf (λ s. near s.0 ≡ false) before → Follows start h x es (before ++ q ∷ behind) → Follows start h x es (q ∷ (before ++ behind))
follows_brought start h x es c near before q behind explains is inside left f = record {
  place = f.place;
  replays = brought before (passes_left_out start h x es c near before q behind explains is inside left f) f.replays;
  waiting = all_brought (IsWaiting x es) before q behind f.waiting;
  distinct = distinct_brought before q behind f.distinct;
  covers = λ d done under_way. ⊎_elim (λ held. inl held) (λ w. inr (sym (waits-brought d before q behind) ∙ w)) (f.covers d done under_way);
  ahead = f.ahead;
}
  where
    end : Start
    end = next_start start (commits es)

    brought : (ss : List (ℕ × Call)) → AllOf (λ s. IsTree (start_tree x.now) × MayPass (length ss + 1) x.now q s) ss → Replays h x.now (ss ++ q ∷ behind) end → Replays h x.now (q ∷ (ss ++ behind)) end
    brought [] may so = so
    brought (s ∷ ss) may so =
        replays_brought h x.now end (s ∷ ss) q behind may.0.0 (all_map (λ r. IsTree (start_tree x.now) × MayPass (length (s ∷ ss) + 1) x.now q r) (MayPass (length (s ∷ ss) + 1) x.now q) (s ∷ ss) (λ r both. both.1) may) so
