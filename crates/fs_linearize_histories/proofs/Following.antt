-- A configuration that follows a timeline: it lags behind by the calls that wait, in the order of their commits.
use Rattle.std.proofs.Common.{◌≡◌, ℕ, ◌+◌, Bool, true, false, ◌||◌, ◌==◌, cond, nat_lt, List, [], ◌∷◌, ◌++◌, length, Some, is_some, refl, sym, ap, ◌∙◌, subst, ◌⊎◌, inl, inr, ⊎_elim, length-append}
use Rattle.std.proofs.lemmas.Bool.{eqb-true, eq-eqb, ne_eqb, or_left, or_right, or_parts, or_from, or_cases, both_ways, false_from_ne_true}
use Rattle.fs_calls.specs.Starts.{Start}
use Rattle.fs_calls.specs.Outcomes.{next_start, reply_at, called}
use Rattle.fs_calls.specs.declared.call.Call.{Call}
use Rattle.fs_calls.specs.declared.reply.Reply.{Reply}
use Rattle.fs_timeline.specs.Timeline.{is_commit, is_return, has_begun, has_committed, has_returned, call_of, commits, IsWellFormed}
use Rattle.fs_timeline.specs.declared.entry.Entry.{Entry}
use Rattle.fs_timeline.specs.declared.entry.Entry.TheVariants.{Begin, Commit, Return}
use Rattle.fs_timeline.proofs.AppendLemmas.{BegunFirst, begun_first, committed_first, list_any-push, is_some-call_of, call_of-kept}
use Rattle.fs_linearizable.specs.Linearizable.{history}
use Rattle.fs_linearizable.proofs.LawfulLemmas.{history-append}
use Rattle.fs_linearize_histories.specs.declared.heard.Heard.{Heard}
use Rattle.fs_linearize_histories.specs.declared.heard.Pattern.{Pattern}
use Rattle.fs_linearize_histories.specs.Heard.{Matches}
use Rattle.fs_linearize_histories.specs.Histories.{recorded, FitsIn}
use Rattle.fs_linearize_histories.specs.Configurations.{Configuration, is_in, placed, without, passed, returned, committed}
use Rattle.fs_linearize_histories.proofs.HistoryLemmas.{returned_of_other, committed_of_other, committed_still, commits_of_none, played_commit}

-- ---- lists of numbers

pub is_in-placed : (q c : ℕ) (xs : List ℕ) → is_in q (placed c xs) ≡ ((q == c) || is_in q xs)
is_in-placed q c [] = refl
is_in-placed q c (d ∷ xs) =
    elim (nat_lt c d) as (λ b. is_in q (cond b (c ∷ d ∷ xs) (d ∷ placed c xs)) ≡ ((q == c) || ((q == d) || is_in q xs))) [
      | true ↦ refl
      | false ↦ ap (λ b. (q == d) || b) (is_in-placed q c xs) ∙ swapped (q == d) (q == c) (is_in q xs)
    ]
  where
    swapped : (a b k : Bool) → (a || (b || k)) ≡ (b || (a || k))
    swapped true true k = refl
    swapped true false k = refl
    swapped false true k = refl
    swapped false false k = refl

-- what is left without a number was there
pub without_was : (q c : ℕ) (xs : List ℕ) → is_in q (without c xs) ≡ true → is_in q xs ≡ true
without_was q c [] h = h
without_was q c (d ∷ xs) h =
    elim (c == d) as (λ b. is_in q (cond b (without c xs) (d ∷ without c xs)) ≡ true → ((q == d) || is_in q xs) ≡ true) [
      | true ↦ λ k. or_right (q == d) _ (without_was q c xs k)
      | false ↦ λ k. ⊎_elim (λ here. or_left _ _ here) (λ later. or_right (q == d) _ (without_was q c xs later)) (or_cases (q == d) (is_in q (without c xs)) k)
    ] h

-- another number stays
pub without_other : (q c : ℕ) (xs : List ℕ) → (q == c) ≡ false → is_in q xs ≡ true → is_in q (without c xs) ≡ true
without_other q c [] apart h = h
without_other q c (d ∷ xs) apart h =
    elim (c == d) as (λ b. (c == d) ≡ b → is_in q (cond b (without c xs) (d ∷ without c xs)) ≡ true) [
      | true ↦ λ same.
          let not_here : (q == d) ≡ false = subst (λ n. (q == n) ≡ false) (eqb-true c d same) apart in
          ⊎_elim (λ here. absurd (both_ways _ not_here here)) (λ later. without_other q c xs apart later) (or_cases (q == d) (is_in q xs) h)
      | false ↦ λ other. ⊎_elim (λ here. or_left _ _ here) (λ later. or_right (q == d) _ (without_other q c xs apart later)) (or_cases (q == d) (is_in q xs) h)
    ] refl

-- ---- calls that wait, with their numbers

abbrev pub AllOf : (ℕ × Call → Type 0) → List (ℕ × Call) → Type 0
AllOf P [] = Unit {0}
AllOf P (q ∷ p) = P q × AllOf P p

pub all_map : (P Q : ℕ × Call → Type 0) (p : List (ℕ × Call)) → ((q : ℕ × Call) → P q → Q q) → AllOf P p → AllOf Q p
all_map P Q [] f h = tt
all_map P Q (q ∷ p) f h = (f q h.0, all_map P Q p f h.1)

pub all_both : (P Q : ℕ × Call → Type 0) (p : List (ℕ × Call)) → AllOf P p → AllOf Q p → AllOf (λ q. P q × Q q) p
all_both P Q [] h k = tt
all_both P Q (q ∷ p) h k = ((h.0, k.0), all_both P Q p h.1 k.1)

pub all_push : (P : ℕ × Call → Type 0) (p : List (ℕ × Call)) (q : ℕ × Call) → AllOf P p → P q → AllOf P (p ++ q ∷ [])
all_push P [] q h k = (k, tt)
all_push P (s ∷ p) q h k = (h.0, all_push P p q h.1 k)

abbrev pub waits : ℕ → List (ℕ × Call) → Bool
waits c [] = false
waits c (q ∷ p) = (c == q.0) || waits c p

pub waits-push : (c : ℕ) (p : List (ℕ × Call)) (q : ℕ × Call) → waits c (p ++ q ∷ []) ≡ (waits c p || (c == q.0))
waits-push c [] q = or_nothing (c == q.0)
  where
    or_nothing : (b : Bool) → (b || false) ≡ b
    or_nothing true = refl
    or_nothing false = refl
waits-push c (s ∷ p) q = ap (λ b. (c == s.0) || b) (waits-push c p q) ∙ regrouped (c == s.0) (waits c p) (c == q.0)
  where
    regrouped : (a b k : Bool) → (a || (b || k)) ≡ ((a || b) || k)
    regrouped true b k = refl
    regrouped false b k = refl

pub all_at : (P : ℕ × Call → Type 0) (c : ℕ) (p : List (ℕ × Call)) → AllOf P p → waits c p ≡ true → (q : ℕ × Call) × (c ≡ q.0) × P q
all_at P c [] h w = absurd (cc)
all_at P c (q ∷ p) h w = ⊎_elim (λ here. (q, eqb-true c q.0 here, h.0)) (λ later. all_at P c p h.1 later) (or_cases (c == q.0) (waits c p) w)

abbrev pub Distinct : List (ℕ × Call) → Type 0
Distinct [] = Unit {0}
Distinct (q ∷ p) = AllOf (λ s. (s.0 == q.0) ≡ false) p × Distinct p

pub distinct_push : (p : List (ℕ × Call)) (q : ℕ × Call) → Distinct p → AllOf (λ s. (q.0 == s.0) ≡ false) p → Distinct (p ++ q ∷ [])
distinct_push [] q h k = (tt, tt)
distinct_push (s ∷ p) q h k = (all_push _ p q h.0 k.0, distinct_push p q h.1 k.1)

-- a call gets a reply that fits in the history
abbrev pub FitsAt : List Heard → Start → ℕ × Call → Type 0
FitsAt h t q = FitsIn h q.0 (reply_at t q.1)

-- calls get their replies one after the other, and lead to a tree
abbrev pub Replays : List Heard → Start → List (ℕ × Call) → Start → Type 0
Replays h t [] end = t ≡ end
Replays h t (q ∷ p) end = FitsAt h t q × Replays h (called t q.1) p end

pub replays_push : (h : List Heard) (t : Start) (p : List (ℕ × Call)) (q : ℕ × Call) (end : Start) → Replays h t p end → FitsAt h end q → Replays h t (p ++ q ∷ []) (called end q.1)
replays_push h t [] q end same fits = (subst (λ u. FitsAt h u q) (sym same) fits, ap (λ u. called u q.1) same)
replays_push h t (s ∷ p) q end so_far fits = (so_far.0, replays_push h (called t s.1) p q end so_far.1 fits)

-- a call that waits: the timeline has committed it, and it has not returned
pub record IsWaiting (x : Configuration) (es : List Entry) (q : ℕ × Call) : Type 0 where
  pub begun : call_of q.0 es ≡ Some q.1
  pub open_still : has_returned q.0 es ≡ false
  pub not_held : is_in q.0 x.held ≡ false
  pub done : has_committed q.0 es ≡ true

-- a call that changes no tree on which it gets a reply that fits in the history
pub record IsQuiet (h : List Heard) (c : ℕ) (call : Call) : Type 0 where
  pub known : Pattern
  pub is : recorded c h ≡ Some known
  pub still : (t : Start) → Matches known (reply_at t call) → called t call ≡ t

abbrev pub IsAhead : List Heard → List Entry → ℕ → Type 0
IsAhead h es c = (call : Call) × (call_of c es ≡ Some call) × IsQuiet h c call

-- the configuration follows the timeline, and gets its tree by the calls that wait; where it holds a call that the timeline has not committed, that call is quiet
pub record Follows (start : Start) (h : List Heard) (x : Configuration) (es : List Entry) (p : List (ℕ × Call)) : Type 0 where
  pub place : x.at ≡ length (history es)
  pub replays : Replays h x.now p (next_start start (commits es))
  pub waiting : AllOf (IsWaiting x es) p
  pub distinct : Distinct p
  pub covers : (c : ℕ) → has_committed c es ≡ true → has_returned c es ≡ false → (is_in c x.held ≡ true) ⊎ (waits c p ≡ true)
  pub ahead : (c : ℕ) → is_in c x.held ≡ true → has_committed c es ≡ false → IsAhead h es c

begun_by : (c : ℕ) (es : List Entry) (call : Call) → call_of c es ≡ Some call → has_begun c es ≡ true
begun_by c es call is = sym (is_some-call_of c es) ∙ ap is_some is

call_still : (c : ℕ) (es : List Entry) (e : Entry) (call : Call) → call_of c es ≡ Some call → call_of c (es ++ e ∷ []) ≡ Some call
call_still c es e call is = call_of-kept c es e (begun_by c es call is) ∙ is

ahead_still : (h : List Heard) (es : List Entry) (e : Entry) (c : ℕ) → IsAhead h es c → IsAhead h (es ++ e ∷ []) c
ahead_still h es e c a = (a.0, call_still c es e a.0 a.1, a.2)

pub place_more : (n : ℕ) (es : List Entry) (e : Entry) → n ≡ length (history es) → history (e ∷ []) ≡ e ∷ [] → n + 1 ≡ length (history (es ++ e ∷ []))
place_more n es e h one =
    ap (λ k. k + 1) h ∙ sym (ap length (history-append es (e ∷ []) ∙ ap (λ xs. history es ++ xs) one) ∙ length-append (history es) (e ∷ []))

-- ---- entries

-- a call begins
pub follows_passed : (start : Start) (h : List Heard) (x : Configuration) (es : List Entry) (p : List (ℕ × Call)) (c seat : ℕ) (call : Call)
    → BegunFirst es → Follows start h x es p → Follows start h (passed x) (es ++ Begin c seat call ∷ []) p
follows_passed start h x es p c seat call begun f =
    let e = Begin c seat call in
    record {
      place = place_more x.at es e f.place refl;
      replays = subst (Replays h x.now p) (sym (ap (next_start start) (commits_of_none es e begun (λ whole. refl)))) f.replays;
      waiting = all_map (IsWaiting x es) (IsWaiting (passed x) (es ++ e ∷ [])) p (λ q w. record {
        begun = call_still q.0 es e q.1 w.begun;
        open_still = returned_of_other q.0 es e refl ∙ w.open_still;
        not_held = w.not_held;
        done = committed_still q.0 es e w.done;
      }) f.waiting;
      distinct = f.distinct;
      covers = λ d done under_way. f.covers d (sym (committed_of_other d es e refl) ∙ done) (sym (returned_of_other d es e refl) ∙ under_way);
      ahead = λ d held not_done. ahead_still h es e d (f.ahead d held (sym (committed_of_other d es e refl) ∙ not_done));
    }

not_returned_now : (q c : ℕ) (es : List Entry) (r : Reply) → has_returned q (es ++ Return c r ∷ []) ≡ false → (has_returned q es ≡ false) × ((q == c) ≡ false)
not_returned_now q c es r h = or_parts (has_returned q es) (q == c) (sym (list_any-push (is_return q) es (Return c r)) ∙ h)

-- a call that is held returns
pub follows_returned : (start : Start) (h : List Heard) (x : Configuration) (es : List Entry) (p : List (ℕ × Call)) (c : ℕ) (r : Reply)
    → BegunFirst es → is_in c x.held ≡ true → Follows start h x es p → Follows start h (returned x c) (es ++ Return c r ∷ []) p
follows_returned start h x es p c r begun held f =
    let e = Return c r in
    record {
      place = place_more x.at es e f.place refl;
      replays = subst (Replays h x.now p) (sym (ap (next_start start) (commits_of_none es e begun (λ whole. refl)))) f.replays;
      waiting = all_map (IsWaiting x es) (IsWaiting (returned x c) (es ++ e ∷ [])) p (λ q w.
          let apart : (q.0 == c) ≡ false = ne_eqb q.0 c (λ same. both_ways _ (subst (λ n. is_in n x.held ≡ false) same w.not_held) held) in
          record {
            begun = call_still q.0 es e q.1 w.begun;
            open_still = list_any-push (is_return q.0) es e ∙ or_from _ _ w.open_still apart;
            not_held = false_from_ne_true _ (λ now. both_ways _ w.not_held (without_was q.0 c x.held now));
            done = committed_still q.0 es e w.done;
          }) f.waiting;
      distinct = f.distinct;
      covers = λ d done under_way.
          let parts = not_returned_now d c es r under_way in
          ⊎_elim (λ in_held. inl (without_other d c x.held parts.1 in_held)) (λ w. inr w) (f.covers d (sym (committed_of_other d es e refl) ∙ done) parts.0);
      ahead = λ d in_held not_done. ahead_still h es e d (f.ahead d (without_was d c x.held in_held) (sym (committed_of_other d es e refl) ∙ not_done));
    }

committed_now : (q c : ℕ) (es : List Entry) → has_committed q (es ++ Commit c ∷ []) ≡ true → (has_committed q es ≡ true) ⊎ ((q == c) ≡ true)
committed_now q c es h = or_cases (has_committed q es) (q == c) (sym (list_any-push (is_commit q) es (Commit c)) ∙ h)

not_committed_now : (q c : ℕ) (es : List Entry) → has_committed q (es ++ Commit c ∷ []) ≡ false → (has_committed q es ≡ false) × ((q == c) ≡ false)
not_committed_now q c es h = or_parts (has_committed q es) (q == c) (sym (list_any-push (is_commit q) es (Commit c)) ∙ h)

waiting_commit : (x : Configuration) (es : List Entry) (p : List (ℕ × Call)) (c : ℕ) → AllOf (IsWaiting x es) p → AllOf (IsWaiting x (es ++ Commit c ∷ [])) p
waiting_commit x es p c w = all_map (IsWaiting x es) (IsWaiting x (es ++ Commit c ∷ [])) p (λ q v. record {
  begun = call_still q.0 es (Commit c) q.1 v.begun;
  open_still = returned_of_other q.0 es (Commit c) refl ∙ v.open_still;
  not_held = v.not_held;
  done = committed_still q.0 es (Commit c) v.done;
}) w

pub place_commit : (n c : ℕ) (es : List Entry) → n ≡ length (history es) → n ≡ length (history (es ++ Commit c ∷ []))
place_commit n c es h = h ∙ sym (ap length (history-append es (Commit c ∷ []) ∙ nothing (history es)))
  where
    nothing : (xs : List Entry) → xs ++ [] ≡ xs
    nothing [] = refl
    nothing (e ∷ xs) = ap (λ ys. e ∷ ys) (nothing xs)

pub same_call : (c : ℕ) (es : List Entry) (a b : Call) → call_of c es ≡ Some a → call_of c es ≡ Some b → a ≡ b
same_call c es a b h k = let both : Some a ≡ Some b = sym h ∙ k in cc

-- the timeline commits a call that is held: it was quiet
pub follows_commit_held : (start : Start) (h : List Heard) (x : Configuration) (es : List Entry) (p : List (ℕ × Call)) (c : ℕ) (call : Call)
    → BegunFirst es → call_of c es ≡ Some call → has_committed c es ≡ false → FitsAt h (next_start start (commits es)) (c, call) → is_in c x.held ≡ true
    → Follows start h x es p → Follows start h x (es ++ Commit c ∷ []) p
follows_commit_held start h x es p c call begun is not_done fits held f =
    let a = f.ahead c held not_done in
    let calls : a.0 ≡ call = same_call c es a.0 call a.1 is in
    let answered : Matches a.2.known (reply_at (next_start start (commits es)) a.0) = subst (λ (k : Call). Matches a.2.known (reply_at (next_start start (commits es)) k)) (sym calls) (fits a.2.known a.2.is) in
    let stays : called (next_start start (commits es)) call ≡ next_start start (commits es) = subst (λ (k : Call). called (next_start start (commits es)) k ≡ next_start start (commits es)) calls (a.2.still (next_start start (commits es)) answered) in
    record {
      place = place_commit x.at c es f.place;
      replays = subst (Replays h x.now p) (sym (played_commit start es c call begun is ∙ stays)) f.replays;
      waiting = waiting_commit x es p c f.waiting;
      distinct = f.distinct;
      covers = λ d done under_way. ⊎_elim
          (λ was. f.covers d was (sym (returned_of_other d es (Commit c) refl) ∙ under_way))
          (λ same. inl (subst (λ n. is_in n x.held ≡ true) (sym (eqb-true d c same)) held))
          (committed_now d c es done);
      ahead = λ d in_held now. ahead_still h es (Commit c) d (f.ahead d in_held (not_committed_now d c es now).0);
    }

-- the timeline commits a call that is not held: it waits
pub follows_commit : (start : Start) (h : List Heard) (x : Configuration) (es : List Entry) (p : List (ℕ × Call)) (c : ℕ) (call : Call)
    → IsWellFormed es → call_of c es ≡ Some call → has_committed c es ≡ false → FitsAt h (next_start start (commits es)) (c, call) → is_in c x.held ≡ false
    → Follows start h x es p → Follows start h x (es ++ Commit c ∷ []) (p ++ (c, call) ∷ [])
follows_commit start h x es p c call well is not_done fits not_held f =
    let q : ℕ × Call = (c, call) in
    let begun = begun_first es well in
    let under_way : has_returned c es ≡ false = false_from_ne_true _ (λ back. both_ways _ not_done (committed_first es well c back)) in
    record {
      place = place_commit x.at c es f.place;
      replays = subst (Replays h x.now (p ++ q ∷ [])) (sym (played_commit start es c call begun is)) (replays_push h x.now p q (next_start start (commits es)) f.replays fits);
      waiting = all_push (IsWaiting x (es ++ Commit c ∷ [])) p q (waiting_commit x es p c f.waiting) (record {
        begun = call_still c es (Commit c) call is;
        open_still = returned_of_other c es (Commit c) refl ∙ under_way;
        not_held = not_held;
        done = list_any-push (is_commit c) es (Commit c) ∙ or_right (has_committed c es) (c == c) (eq-eqb c c refl);
      });
      distinct = distinct_push p q f.distinct (all_map (IsWaiting x es) (λ s. (c == s.0) ≡ false) p (λ s w. ne_eqb c s.0 (λ same. both_ways _ (subst (λ n. has_committed n es ≡ false) same not_done) w.done)) f.waiting);
      covers = λ d done still. ⊎_elim
          (λ was. ⊎_elim (λ in_held. inl in_held) (λ w. inr (waits-push d p q ∙ or_left _ _ w)) (f.covers d was (sym (returned_of_other d es (Commit c) refl) ∙ still)))
          (λ same. inr (waits-push d p q ∙ or_right (waits d p) (d == c) same))
          (committed_now d c es done);
      ahead = λ d in_held now. ahead_still h es (Commit c) d (f.ahead d in_held (not_committed_now d c es now).0);
    }

-- the first call that waits commits
pub follows_committed : (start : Start) (h : List Heard) (x : Configuration) (es : List Entry) (p : List (ℕ × Call)) (q : ℕ × Call)
    → Follows start h x es (q ∷ p) → Follows start h (committed x q.0 q.1) es p
follows_committed start h x es p q f = record {
  place = f.place;
  replays = f.replays.1;
  waiting = all_map (λ s. IsWaiting x es s × ((s.0 == q.0) ≡ false)) (IsWaiting (committed x q.0 q.1) es) p (λ s w. record {
    begun = w.0.begun;
    open_still = w.0.open_still;
    not_held = is_in-placed s.0 q.0 x.held ∙ or_from _ _ w.1 w.0.not_held;
    done = w.0.done;
  }) (all_both (IsWaiting x es) (λ s. (s.0 == q.0) ≡ false) p f.waiting.1 f.distinct.0);
  distinct = f.distinct.1;
  covers = λ d done under_way. ⊎_elim
      (λ in_held. inl (is_in-placed d q.0 x.held ∙ or_right (d == q.0) _ in_held))
      (λ w. ⊎_elim (λ here. inl (is_in-placed d q.0 x.held ∙ or_left _ _ here)) (λ later. inr later) (or_cases (d == q.0) (waits d p) w))
      (f.covers d done under_way);
  ahead = λ d in_held not_done. ⊎_elim
      (λ here. absurd (both_ways _ not_done (subst (λ n. has_committed n es ≡ true) (sym (eqb-true d q.0 here)) f.waiting.0.done)))
      (λ was. f.ahead d was not_done)
      (or_cases (d == q.0) (is_in d x.held) (sym (is_in-placed d q.0 x.held) ∙ in_held));
}
