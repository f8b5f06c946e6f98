-- A quiet call commits early: the configuration still follows each timeline that it followed.
use Rattle.std.proofs.Common.{◌≡◌, ℕ, suc, ◌≤◌, Bool, true, false, not, ◌==◌, cond, List, [], ◌∷◌, length, Option, Some, None, refl, sym, ap, ◌∙◌, subst, ◌⊎◌, inl, inr, ⊎_elim, arith}
use Rattle.std.proofs.lemmas.Bool.{eqb-true, eqb-false, ne_eqb, or_left, or_right, or_from, or_cases}
use Rattle.fs_names.specs.declared.limits.Limits.{Limits}
use Rattle.fs_calls.specs.Tree.{Tree}
use Rattle.fs_calls.specs.Sights.{has_any}
use Rattle.fs_calls.specs.Starts.{Start}
use Rattle.fs_calls.specs.Outcomes.{next_start, reply, after, reply_at, called, fault, if_sound, change}
use Rattle.fs_calls.specs.declared.call.Call.{Call}
use Rattle.fs_calls.specs.declared.call.Call.TheVariants.{Mkdir, Mknod, Unlink, Rmdir, Rename, Exchange, Stat, Readdir, ListAfter, Read, Write, Truncate}
use Rattle.fs_calls.specs.declared.reply.Reply.{Reply}
use Rattle.fs_calls.specs.declared.reply.Reply.TheVariants as answer
use Rattle.fs_calls.specs.declared.errno.Errno.{Errno}
use Rattle.fs_calls.proofs.OutcomeLemmas.{errors_change_nothing}
use Rattle.fs_timeline.specs.Timeline.{call_of, commits}
use Rattle.fs_timeline.specs.declared.entry.Entry.{Entry}
use Rattle.fs_linearize_histories.specs.declared.heard.Heard.{Heard}
use Rattle.fs_linearize_histories.specs.declared.heard.Pattern.{Pattern}
use Rattle.fs_linearize_histories.specs.declared.heard.Pattern.TheVariants.{Exactly, AnyError, OneOf, AnyDirectory, Except, Anything}
use Rattle.fs_linearize_histories.specs.Heard.{Matches, is_error, is_one_of}
use Rattle.fs_linearize_histories.specs.Histories.{recorded, ExplainsFront}
use Rattle.fs_linearize_histories.specs.Configurations.{Configuration, is_in, committed}
use Rattle.fs_linearize_histories.specs.Early.{leaves_trees, tells_error, is_quiet, CanCommitEarly, SettlesBy}
use Rattle.fs_linearize_histories.proofs.HistoryLemmas.{passed_call}
use Rattle.fs_linearize_histories.proofs.Following.{is_in-placed, AllOf, all_map, waits, Distinct, Replays, IsWaiting, Follows, same_call}

-- ---- quiet calls

same_either_way : (o : Option Errno) (t : Tree) → if_sound o t t ≡ t
same_either_way None t = refl
same_either_way (Some e) t = refl

leaving_leaves : (limits : Limits) (t : Tree) (call : Call) → leaves_trees call ≡ true → change limits t call ≡ t
leaving_leaves limits t (Mkdir p) h = absurd (cc)
leaving_leaves limits t (Mknod p) h = absurd (cc)
leaving_leaves limits t (Unlink p) h = absurd (cc)
leaving_leaves limits t (Rmdir p) h = absurd (cc)
leaving_leaves limits t (Rename p q) h = rw h refl
leaving_leaves limits t (Exchange p q) h = rw h refl
leaving_leaves limits t (Stat p) h = refl
leaving_leaves limits t (Readdir p) h = refl
leaving_leaves limits t (ListAfter count p after) h = refl
leaving_leaves limits t (Read p off count) h = refl
leaving_leaves limits t (Write p off bytes) h =
    let nothing : has_any bytes ≡ false = nothing_any (has_any bytes) h in
    rw nothing refl
  where
    nothing_any : (b : Bool) → not b ≡ true → b ≡ false
    nothing_any true k = absurd (cc)
    nothing_any false k = refl
leaving_leaves limits t (Truncate p size) h = absurd (cc)

error_is : (r : Reply) → is_error r ≡ true → (e : Errno) × (r ≡ answer.Failed e)
error_is (answer.Failed e) is = (e, refl)
error_is _ is = absurd (cc)

one_of_errors : (errors : List Errno) (r : Reply) → is_one_of r errors ≡ true → is_error r ≡ true
one_of_errors errors (answer.Failed e) is = refl
one_of_errors errors _ is = absurd (cc)

told_error : (p : Pattern) (r : Reply) → tells_error p ≡ true → Matches p r → is_error r ≡ true
told_error (Exactly s) r tells is = ap is_error is ∙ tells
told_error AnyError r tells is = is
told_error (OneOf errors) r tells is = one_of_errors errors r is
told_error AnyDirectory r tells is = absurd (cc)
told_error (Except replies) r tells is = absurd (cc)
told_error Anything r tells is = absurd (cc)

failed_stays : (limits : Limits) (t : Tree) (call : Call) (p : Pattern) → tells_error p ≡ true → Matches p (reply limits t call) → after limits t call ≡ t
failed_stays limits t call p tells is =
    let failed = error_is (reply limits t call) (told_error p (reply limits t call) tells is) in
    errors_change_nothing limits t call failed.0 failed.1

left_stays : (limits : Limits) (t : Tree) (call : Call) → leaves_trees call ≡ true → after limits t call ≡ t
unfolding after
left_stays limits t call h = ap (if_sound (fault limits t call) t) (leaving_leaves limits t call h) ∙ same_either_way (fault limits t call) t

tree_stays : (limits : Limits) (t : Tree) (call : Call) (p : Pattern) → is_quiet call p ≡ true → Matches p (reply limits t call) → after limits t call ≡ t
tree_stays limits t call p quiet is = ⊎_elim (λ left. left_stays limits t call left) (λ failed. failed_stays limits t call p failed is) (or_cases (leaves_trees call) (tells_error p) quiet)

pub quiet_stays : (start : Start) (call : Call) (p : Pattern) → is_quiet call p ≡ true → Matches p (reply_at start call) → called start call ≡ start
quiet_stays start call p quiet is = ap (λ t. record { limits = start.limits; tree = t }) (tree_stays start.limits start.tree call p quiet is)

-- ---- the calls that wait, without one of them

dropped : ℕ → List (ℕ × Call) → List (ℕ × Call)
dropped c [] = []
dropped c (s ∷ p) = cond (c == s.0) (dropped c p) (s ∷ dropped c p)

all_dropped : (P : ℕ × Call → Type 0) (c : ℕ) (p : List (ℕ × Call)) → AllOf P p → AllOf P (dropped c p)
unfolding dropped
all_dropped P c [] h = tt
all_dropped P c (s ∷ p) h = elim (c == s.0) as (λ b. AllOf P (cond b (dropped c p) (s ∷ dropped c p))) [ true ↦ all_dropped P c p h.1 | false ↦ (h.0, all_dropped P c p h.1) ]

dropped_apart : (P : ℕ × Call → Type 0) (c : ℕ) (p : List (ℕ × Call)) → AllOf P p → AllOf (λ s. P s × ((c == s.0) ≡ false)) (dropped c p)
unfolding dropped
dropped_apart P c [] h = tt
dropped_apart P c (s ∷ p) h = elim (c == s.0) as (λ b. (c == s.0) ≡ b → AllOf (λ s. P s × ((c == s.0) ≡ false)) (cond b (dropped c p) (s ∷ dropped c p))) [
  | true ↦ λ here. dropped_apart P c p h.1
  | false ↦ λ apart. ((h.0, apart), dropped_apart P c p h.1)
] refl

distinct_dropped : (c : ℕ) (p : List (ℕ × Call)) → Distinct p → Distinct (dropped c p)
unfolding dropped
distinct_dropped c [] h = tt
distinct_dropped c (s ∷ p) h = elim (c == s.0) as (λ b. Distinct (cond b (dropped c p) (s ∷ dropped c p))) [
  | true ↦ distinct_dropped c p h.1
  | false ↦ (all_dropped (λ q. (q.0 == s.0) ≡ false) c p h.0, distinct_dropped c p h.1)
]

length_dropped : (c : ℕ) (p : List (ℕ × Call)) → length (dropped c p) ≤ length p
unfolding dropped
length_dropped c [] = omega arith
length_dropped c (s ∷ p) =
    let rest = length_dropped c p in
    elim (c == s.0) as (λ b. length (cond b (dropped c p) (s ∷ dropped c p)) ≤ suc (length p)) [ true ↦ omega (arith, rest) | false ↦ omega (arith, rest) ]

waits_dropped : (d c : ℕ) (p : List (ℕ × Call)) → waits d p ≡ true → ((d == c) ≡ true) ⊎ (waits d (dropped c p) ≡ true)
unfolding dropped
waits_dropped d c [] h = absurd (cc)
waits_dropped d c (s ∷ p) h =
    elim (c == s.0) as (λ b. (c == s.0) ≡ b → ((d == c) ≡ true) ⊎ (waits d (cond b (dropped c p) (s ∷ dropped c p)) ≡ true)) [
      | true ↦ λ same. ⊎_elim (λ here. inl (subst (λ n. (d == n) ≡ true) (sym (eqb-true c s.0 same)) here)) (λ later. waits_dropped d c p later) (or_cases (d == s.0) (waits d p) h)
      | false ↦ λ apart. ⊎_elim (λ here. inr (or_left _ _ here)) (λ later. ⊎_elim (λ is. inl is) (λ w. inr (or_right (d == s.0) _ w)) (waits_dropped d c p later)) (or_cases (d == s.0) (waits d p) h)
    ] refl

-- a call that changes nothing where it waits may be left out
replays_dropped : (h : List Heard) (es : List Entry) (x : Configuration) (t end : Start) (c : ℕ) (call : Call) (r : Pattern) (p : List (ℕ × Call))
    → call_of c es ≡ Some call → recorded c h ≡ Some r → is_quiet call r ≡ true → AllOf (IsWaiting x es) p → Replays h t p end → Replays h t (dropped c p) end
unfolding dropped
replays_dropped h es x t end c call r [] is told quiet w so = so
replays_dropped h es x t end c call r (s ∷ p) is told quiet w so =
    elim (c == s.0) as (λ b. (c == s.0) ≡ b → Replays h t (cond b (dropped c p) (s ∷ dropped c p)) end) [
      | true ↦ λ same.
          let number = eqb-true c s.0 same in
          let calls : s.1 ≡ call = same_call c es s.1 call (subst (λ n. call_of n es ≡ Some s.1) (sym number) w.0.begun) is in
          let answered : Matches r (reply_at t s.1) = so.0 r (subst (λ n. recorded n h ≡ Some r) number told) in
          let stays : called t s.1 ≡ t = quiet_stays t s.1 r (subst (λ (k : Call). is_quiet k r ≡ true) (sym calls) quiet) answered in
          subst (λ u. Replays h u (dropped c p) end) stays (replays_dropped h es x (called t s.1) end c call r p is told quiet w.1 so.1)
      | false ↦ λ apart. (so.0, replays_dropped h es x (called t s.1) end c call r p is told quiet w.1 so.1)
    ] refl

pub eqb_flip : (a b : ℕ) → (a == b) ≡ false → (b == a) ≡ false
eqb_flip a b h = ne_eqb b a (λ same. eqb-false a b h (sym same))

-- a quiet call commits early
pub follows_early : (start : Start) (h : List Heard) (es : List Entry) (x : Configuration) (p : List (ℕ × Call)) (c : ℕ) (call : Call) → ExplainsFront start h es → CanCommitEarly h x c call
    → Follows start h x es p → (lag : List (ℕ × Call)) × (length lag ≤ length p) × Follows start h (committed x c call) es lag
follows_early start h es x p c call explains early f =
    let is : call_of c es ≡ Some call = sym (passed_call start h es x.at c explains f.place) ∙ early.can.begun in
    let stays : called x.now call ≡ x.now = quiet_stays x.now call early.known early.quiet (early.can.fits early.known early.is) in (
      dropped c p,
      length_dropped c p,
      record {
        place = f.place;
        replays = subst (λ u. Replays h u (dropped c p) (next_start start (commits es))) (sym stays) (replays_dropped h es x x.now (next_start start (commits es)) c call early.known p is early.is early.quiet f.waiting f.replays);
        waiting = all_map (λ s. IsWaiting x es s × ((c == s.0) ≡ false)) (IsWaiting (committed x c call) es) (dropped c p) (λ s w. record {
          begun = w.0.begun;
          open_still = w.0.open_still;
          not_held = is_in-placed s.0 c x.held ∙ or_from _ _ (eqb_flip c s.0 w.1) w.0.not_held;
          done = w.0.done;
        }) (dropped_apart (IsWaiting x es) c p f.waiting);
        distinct = distinct_dropped c p f.distinct;
        covers = λ d done under_way. ⊎_elim
            (λ in_held. inl (is_in-placed d c x.held ∙ or_right (d == c) _ in_held))
            (λ w. ⊎_elim (λ here. inl (is_in-placed d c x.held ∙ or_left _ _ here)) (λ later. inr later) (waits_dropped d c p w))
            (f.covers d done under_way);
        ahead = λ d in_held not_done. ⊎_elim
            (λ here.
            let number = eqb-true d c here in (
              call,
              subst (λ n. call_of n es ≡ Some call) (sym number) is,
              record {
                known = early.known;
                is = subst (λ n. recorded n h ≡ Some early.known) (sym number) early.is;
                still = λ t answered. quiet_stays t call early.known early.quiet answered;
              },
            ))
            (λ was. f.ahead d was not_done)
            (or_cases (d == c) (is_in d x.held) (sym (is_in-placed d c x.held) ∙ in_held));
      },
    )

-- and so do several
pub follows_settled : (start : Start) (h : List Heard) (es : List Entry) (x y : Configuration) (qs p : List (ℕ × Call)) → ExplainsFront start h es → SettlesBy h x qs y
    → Follows start h x es p → (lag : List (ℕ × Call)) × (length lag ≤ length p) × Follows start h y es lag
follows_settled start h es x y [] p explains same f = (p, omega arith, subst (λ z. Follows start h z es p) same f)
follows_settled start h es x y (q ∷ qs) p explains settles f =
    let first = follows_early start h es x p q.0 q.1 explains settles.0 f in
    let rest = follows_settled start h es (committed x q.0 q.1) y qs first.0 explains settles.1 first.2 in
    (rest.0, omega (arith, first.1, rest.1), rest.2)
