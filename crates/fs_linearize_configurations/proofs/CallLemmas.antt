-- Calls under way.
use Rattle.std.proofs.Common.{◌≡◌, ℕ, zero, suc, ◌+◌, ◌<◌, Bool, true, false, ◌==◌, cond, List, [], ◌∷◌, ◌++◌, length, take, drop, get_or, slice_get, Option, Some, None, option_copied, refl, sym, ap, ◌∙◌, subst, ◌⊎◌, inl, inr, ⊎_elim, arith, append_assoc, append-nil}
use Rattle.std.specs.List.{Contains}
use Rattle.std.proofs.lemmas.Bool.{eqb-true, eqb-false, eq-eqb, ne_eqb, or_left, or_cases, or_parts, false_from_ne_true, both_ways}
use Rattle.std.proofs.lemmas.List.{take-append-drop, take_more}
use Rattle.std.proofs.lemmas.List.Elements.{Contains-append_left, Contains-push, Contains-push_cases}
use Rattle.std.proofs.lemmas.Option.{slice_get_within, get_or_from_slice_get}
use Rattle.fs_names.specs.Failures.{or_else}
use Rattle.fs_calls.specs.declared.call.Call.{Call}
use Rattle.fs_calls.specs.Outcomes.{reply_at}
use Rattle.fs_timeline.specs.Timeline.{has_begun, has_returned, call_of, begun_as, is_begin, is_return}
use Rattle.fs_timeline.specs.declared.entry.Entry.{Entry}
use Rattle.fs_timeline.specs.declared.entry.Entry.TheVariants.{Begin}
use Rattle.fs_timeline.proofs.AppendLemmas.{list_any-push, is_some-call_of, call_of-push, or_else-nothing}
use Rattle.fs_linearize_histories.specs.declared.heard.Heard.{Heard}
use Rattle.fs_linearize_histories.specs.declared.heard.Heard.TheVariants as heard
use Rattle.fs_linearize_histories.specs.declared.heard.Pattern.{Pattern}
use Rattle.fs_linearize_histories.specs.Heard.{entry_of, entries, Matches}
use Rattle.fs_linearize_histories.specs.Histories.{recorded, IsHistory, AreNextHeard, IsNextHeard}
use Rattle.fs_linearize_histories.specs.Configurations.{Configuration, committed, placed, CanCommit}
use Rattle.fs_linearize_histories.specs.Early.{CanCommitEarly}
use Rattle.fs_linearize_histories.proofs.EarlyCommits.{quiet_stays}
use Rattle.fs_linearize_histories.proofs.HistoryLemmas.{recorded-append, is_some_recorded, none_from, returned_of_other}
use Rattle.fs_linearize_configurations.specs.code.Calls.{IsUnderWay, AreUnderWay, without_call, CanCommitNow, CanCommitQuietly}
use Rattle.fs_linearize_configurations.specs.declared.under_way.UnderWay.{UnderWay}
use Rattle.fs_linearize_configurations.proofs.HeardLemmas.{entries-push}

-- ---- calls that commit

some_pattern : (a b : Pattern) → Some a ≡ Some b → a ≡ b
some_pattern a b same = cc

pub now_can : (h : List Heard) (x : Configuration) (u : UnderWay) → IsUnderWay h x.at u → CanCommitNow x u → CanCommit h x u.number u.call.now
now_can h x u way can = record { begun = way.begun; open_still = way.open_still; not_yet = can.not_yet; fits = λ p told. can.fits p (sym way.known ∙ told) }

pub can_now : (h : List Heard) (x : Configuration) (u : UnderWay) (c : ℕ) (call : Call) → IsUnderWay h x.at u → u.number ≡ c → CanCommit h x c call → CanCommitNow x u × (committed x u.number u.call.now ≡ committed x c call)
can_now h x u c call way number can =
    let mine : CanCommit h x u.number call = subst (λ n. CanCommit h x n call) (sym number) can in
    let calls : Some u.call.now ≡ Some call = sym way.begun ∙ mine.begun in
    let same : u.call.now ≡ call = cc in (
      record { not_yet = mine.not_yet; fits = λ p told. subst (λ (w : Call). Matches p (reply_at x.now w)) (sym same) (mine.fits p (way.known ∙ told)) },
      ap (λ (w : Call). committed x u.number w) same ∙ ap (λ n. committed x n call) number,
    )

pub quietly_early : (h : List Heard) (x : Configuration) (u : UnderWay) → IsUnderWay h x.at u → CanCommitQuietly x u → CanCommitEarly h x u.number u.call.now
quietly_early h x u way k = record {
  can = record {
    begun = way.begun;
    open_still = way.open_still;
    not_yet = k.not_yet;
    fits = λ q told. subst (λ (w : Pattern). Matches w (reply_at x.now u.call.now)) (some_pattern k.pattern q (sym k.known ∙ sym way.known ∙ told)) k.fits;
  };
  known = k.pattern;
  is = way.known ∙ k.known;
  quiet = k.quiet;
}

pub quietly_same : (x : Configuration) (u : UnderWay) → CanCommitQuietly x u → committed x u.number u.call.now ≡ record x { held = placed u.number x.held }
quietly_same x u k = ap (λ t. record x { now = t; held = placed u.number x.held }) (quiet_stays x.now u.call.now k.pattern k.quiet k.fits)

-- ---- one entry more

-- the front with one entry more
front_more : (h : List Heard) (n : ℕ) (x : Heard) → slice_get h n ≡ Some x → entries (take (n + 1) h) ≡ entries (take n h) ++ entry_of x ∷ []
front_more h n x is =
    ap entries (take_more h n x (slice_get_within h n x is) ∙ ap (λ y. take n h ++ y ∷ []) (get_or_from_slice_get h n x x is)) ∙ entries-push (take n h) x

some_heard : (a b : Heard) → Some a ≡ Some b → a ≡ b
some_heard a b same = cc

-- what a history says of its next entry
pub next_in : (before : List Entry) (h : List Heard) (n : ℕ) (x : Heard) → AreNextHeard before h → slice_get h n ≡ Some x → IsNextHeard (before ++ entries (take n h)) x
next_in before [] n x k is = absurd (cc)
next_in before (y ∷ h) zero x k is =
    subst (λ (b : List Entry). IsNextHeard b x) (sym (append-nil before)) (subst (IsNextHeard before) (some_heard y x is) k.0)
next_in before (y ∷ h) (suc n) x k is = subst (λ (b : List Entry). IsNextHeard b x) (append_assoc before (entry_of y ∷ []) (entries (take n h))) (next_in (before ++ entry_of y ∷ []) h n x k.1 is)

-- what has returned has begun
returned_begun : (before : List Entry) (h : List Heard) (n c : ℕ) → AreNextHeard before h → (has_returned c before ≡ true → has_begun c before ≡ true)
    → has_returned c (before ++ entries (take n h)) ≡ true → has_begun c (before ++ entries (take n h)) ≡ true
returned_begun before h zero c k so_far back = subst (λ (es : List Entry). has_begun c es ≡ true) (sym (append-nil before)) (so_far (ap (has_returned c) (sym (append-nil before)) ∙ back))
returned_begun before [] (suc n) c k so_far back = subst (λ (es : List Entry). has_begun c es ≡ true) (sym (append-nil before)) (so_far (ap (has_returned c) (sym (append-nil before)) ∙ back))
returned_begun before (x ∷ h) (suc n) c k so_far back =
    let apart = append_assoc before (entry_of x ∷ []) (entries (take n h)) in
    subst (λ (es : List Entry). has_begun c es ≡ true) apart
    (returned_begun (before ++ entry_of x ∷ []) h n c k.1 (λ here. begun_still before x c (one_returned before x c k.0 so_far here)) (ap (has_returned c) apart ∙ back))
  where
    begun_still : (es : List Entry) (y : Heard) (d : ℕ) → has_begun d es ≡ true → has_begun d (es ++ entry_of y ∷ []) ≡ true
    begun_still es y d was = list_any-push (is_begin d) es (entry_of y) ∙ or_left _ _ was

    one_returned : (es : List Entry) (y : Heard) (d : ℕ) → IsNextHeard es y → (has_returned d es ≡ true → has_begun d es ≡ true) → has_returned d (es ++ entry_of y ∷ []) ≡ true → has_begun d es ≡ true
    one_returned es (heard.Begin e s call) d next was here = was (sym (returned_of_other d es (Begin e s call) refl) ∙ here)
    one_returned es (heard.Return e p) d next was here = ⊎_elim
        (λ before. was before)
        (λ now. subst (λ m. has_begun m es ≡ true) (sym (eqb-true d e now)) next.0)
        (or_cases (has_returned d es) (d == e) (sym (list_any-push (is_return d) es (entry_of (heard.Return e p))) ∙ here))

-- a call that begins has not returned
not_returned : (h : List Heard) (n c seat : ℕ) (call : Call) → IsHistory h → slice_get h n ≡ Some (heard.Begin c seat call) → has_returned c (entries (take n h)) ≡ false
not_returned h n c seat call history is =
    let next = next_in [] h n (heard.Begin c seat call) history is in
    false_from_ne_true _ (λ back. both_ways _ next.0 (returned_begun [] h n c history (λ no. absurd (cc)) back))

-- what is known of its reply stands behind its Begin
pub recorded_later : (h : List Heard) (n c seat : ℕ) (call : Call) → IsHistory h → slice_get h n ≡ Some (heard.Begin c seat call) → recorded c h ≡ recorded c (drop n h)
recorded_later h n c seat call history is =
    let none : recorded c (take n h) ≡ None = none_from _ (is_some_recorded c (take n h) ∙ not_returned h n c seat call history is) in
    ap (recorded c) (sym (take-append-drop n h)) ∙ recorded-append c (take n h) (drop n h) ∙ ap (λ o. or_else o (recorded c (drop n h))) none

-- ---- the calls under way behind one entry more

other_begins : (h : List Heard) (n d c seat : ℕ) (call w : Call) → slice_get h n ≡ Some (heard.Begin c seat call) → call_of d (entries (take n h)) ≡ Some w → call_of d (entries (take (n + 1) h)) ≡ Some w
other_begins h n d c seat call w is was =
    ap (call_of d) (front_more h n (heard.Begin c seat call) is) ∙ call_of-push d (entries (take n h)) (Begin c seat call) ∙ ap (λ o. or_else o (begun_as d (Begin c seat call))) was

returned_still : (h : List Heard) (n d : ℕ) (x : Heard) → slice_get h n ≡ Some x → is_return d (entry_of x) ≡ false → has_returned d (entries (take (n + 1) h)) ≡ has_returned d (entries (take n h))
returned_still h n d x is other = ap (has_returned d) (front_more h n x is) ∙ returned_of_other d (entries (take n h)) (entry_of x) other

begins_each : (h : List Heard) (n c seat : ℕ) (call : Call) (u : UnderWay) → slice_get h n ≡ Some (heard.Begin c seat call) → IsUnderWay h n u → IsUnderWay h (n + 1) u
begins_each h n c seat call u is way = record {
  begun = other_begins h n u.number c seat call u.call.now is way.begun;
  open_still = returned_still h n u.number (heard.Begin c seat call) is refl ∙ way.open_still;
  known = way.known;
}

begins_new : (h : List Heard) (n seat : ℕ) (u : UnderWay) → IsHistory h → slice_get h n ≡ Some (heard.Begin u.number seat u.call.now) → option_copied u.known ≡ recorded u.number (drop n h) → IsUnderWay h (n + 1) u
begins_new h n seat u history is known =
    let c = u.number in
    let x = heard.Begin c seat u.call.now in
    let none : call_of c (entries (take n h)) ≡ None = none_from _ (is_some-call_of c (entries (take n h)) ∙ (next_in [] h n x history is).0) in
    let same = eq-eqb c c refl in
    let here : begun_as c (Begin c seat u.call.now) ≡ Some u.call.now = rw same refl in
    record {
      begun = ap (call_of c) (front_more h n x is) ∙ call_of-push c (entries (take n h)) (Begin c seat u.call.now) ∙ ap (λ o. or_else o (begun_as c (Begin c seat u.call.now))) none ∙ here;
      open_still = returned_still h n c x is refl ∙ not_returned h n c seat u.call.now history is;
      known = recorded_later h n c seat u.call.now history is ∙ sym known;
    }

-- a call that has begun was there, or begins
begun_split : (h : List Heard) (n d c seat : ℕ) (call w : Call) → slice_get h n ≡ Some (heard.Begin c seat call) → call_of d (entries (take (n + 1) h)) ≡ Some w → (call_of d (entries (take n h)) ≡ Some w) ⊎ (c ≡ d)
begun_split h n d c seat call w is now =
    either (call_of d (entries (take n h))) (sym (ap (call_of d) (front_more h n (heard.Begin c seat call) is) ∙ call_of-push d (entries (take n h)) (Begin c seat call)) ∙ now)
  where
    here : (b : Bool) → (d == c) ≡ b → cond b (Some call) None ≡ Some w → c ≡ d
    here true same is_it = sym (eqb-true d c same)
    here false apart is_it = absurd (cc)

    either : (o : Option Call) → or_else o (begun_as d (Begin c seat call)) ≡ Some w → (o ≡ Some w) ⊎ (c ≡ d)
    either None it = inr (here (d == c) refl it)
    either (Some v) it = inl it

pub under_way_begin : (h : List Heard) (n seat : ℕ) (us vs : List UnderWay) (u : UnderWay) → IsHistory h → slice_get h n ≡ Some (heard.Begin u.number seat u.call.now) → option_copied u.known ≡ recorded u.number (drop n h) → vs ≡ us ++ u ∷ []
    → AreUnderWay h n us → AreUnderWay h (n + 1) vs
under_way_begin h n seat us vs u history is known pushed all = subst (λ (ws : List UnderWay). AreUnderWay h (n + 1) ws) (sym pushed) (record {
  each = λ v there. ⊎_elim
      (λ was. begins_each h n u.number seat u.call.now v is (all.each v was))
      (λ here. subst (IsUnderWay h (n + 1)) here (begins_new h n seat u history is known))
      (Contains-push_cases us u v there);
  all = λ d call begun open_still. ⊎_elim
      (λ was.
      let found = all.all d call was (sym (returned_still h n d (heard.Begin u.number seat u.call.now) is refl) ∙ open_still) in
      (found.0, Contains-append_left us (u ∷ []) found.0 found.1, found.2))
      (λ here. (u, Contains-push us u, here))
      (begun_split h n d u.number seat u.call.now call is begun);
})

in_without_at : (c : ℕ) (us : List UnderWay) (u : UnderWay) (i : ℕ) → i < length (without_call c us) → get_or (without_call c us) i u ≡ u → Contains us u × ((c == u.number) ≡ false)
in_without_at c [] u i small is = absurd (omega (arith, small))
in_without_at c (v ∷ us) u i small is = first (in_without_at c us u) (c == v.number) refl i small is
  where
    later : ((k : ℕ) → k < length (without_call c us) → get_or (without_call c us) k u ≡ u → Contains us u × ((c == u.number) ≡ false)) → (k : ℕ) → k < length (without_call c us) → get_or (without_call c us) k u ≡ u
        → Contains (v ∷ us) u × ((c == u.number) ≡ false)
    later on k little same =
        let rest = on k little same in
        let deep = rest.0.1 in
        ((suc rest.0.0, omega (arith, deep), rest.0.2), rest.1)

    cons : ((k : ℕ) → k < length (without_call c us) → get_or (without_call c us) k u ≡ u → Contains us u × ((c == u.number) ≡ false)) → (k : ℕ) → (c == v.number) ≡ false → k < length (v ∷ without_call c us) → get_or (v ∷ without_call c us) k u ≡ u
        → Contains (v ∷ us) u × ((c == u.number) ≡ false)
    cons on zero apart little same = ((0, omega arith, same), subst (λ (w : UnderWay). (c == w.number) ≡ false) same apart)
    cons on (suc k) apart little same = later on k (omega (arith, little)) same

    first : ((k : ℕ) → k < length (without_call c us) → get_or (without_call c us) k u ≡ u → Contains us u × ((c == u.number) ≡ false)) → (b : Bool) → (c == v.number) ≡ b → (k : ℕ) → k < length (cond b (without_call c us) (v ∷ without_call c us))
        → get_or (cond b (without_call c us) (v ∷ without_call c us)) k u ≡ u → Contains (v ∷ us) u × ((c == u.number) ≡ false)
    first on true here k little same = later on k little same
    first on false apart k little same = cons on k apart little same

in_without : (c : ℕ) (us : List UnderWay) (u : UnderWay) → Contains (without_call c us) u → Contains us u × ((c == u.number) ≡ false)
in_without c us u there = in_without_at c us u there.0 there.1 there.2

left_without_at : (c : ℕ) (us : List UnderWay) (u : UnderWay) (i : ℕ) → i < length us → get_or us i u ≡ u → (c == u.number) ≡ false → Contains (without_call c us) u
left_without_at c [] u i small is apart = absurd (omega (arith, small))
left_without_at c (v ∷ us) u zero small is apart =
    let here : (c == v.number) ≡ false = ap (λ (w : UnderWay). c == w.number) is ∙ apart in
    subst (λ b. Contains (cond b (without_call c us) (v ∷ without_call c us)) u) (sym here) (0, omega arith, is)
left_without_at c (v ∷ us) u (suc i) small is apart = more (c == v.number) (left_without_at c us u i (omega (arith, small)) is apart)
  where
    more : (b : Bool) → Contains (without_call c us) u → Contains (cond b (without_call c us) (v ∷ without_call c us)) u
    more true k = k
    more false k = let deep = k.1 in (suc k.0, omega (arith, deep), k.2)

left_without : (c : ℕ) (us : List UnderWay) (u : UnderWay) → Contains us u → (c == u.number) ≡ false → Contains (without_call c us) u
left_without c us u there apart = left_without_at c us u there.0 there.1 there.2 apart

same_begun : (h : List Heard) (n d c : ℕ) (p : Pattern) → slice_get h n ≡ Some (heard.Return c p) → call_of d (entries (take (n + 1) h)) ≡ call_of d (entries (take n h))
same_begun h n d c p is = ap (call_of d) (front_more h n (heard.Return c p) is) ∙ call_of-push d (entries (take n h)) (entry_of (heard.Return c p)) ∙ or_else-nothing (call_of d (entries (take n h)))

pub under_way_return : (h : List Heard) (n c : ℕ) (p : Pattern) (us : List UnderWay) → slice_get h n ≡ Some (heard.Return c p) → AreUnderWay h n us → AreUnderWay h (n + 1) (without_call c us)
under_way_return h n c p us is all = record {
  each = λ u there.
      let parts = in_without c us u there in
      let way = all.each u parts.0 in
      record {
        begun = same_begun h n u.number c p is ∙ way.begun;
        open_still = returned_still h n u.number (heard.Return c p) is (turned u.number c parts.1) ∙ way.open_still;
        known = way.known;
      };
  all = λ d call begun open_still.
      let both = or_parts (has_returned d (entries (take n h))) (d == c) (sym (ap (has_returned d) (front_more h n (heard.Return c p) is) ∙ list_any-push (is_return d) (entries (take n h)) (entry_of (heard.Return c p))) ∙ open_still) in
      let found = all.all d call (sym (same_begun h n d c p is) ∙ begun) both.0 in
      (found.0, left_without c us found.0 found.1 (subst (λ m. (c == m) ≡ false) (sym found.2) (turned c d both.1)), found.2);
}
  where
    turned : (a b : ℕ) → (b == a) ≡ false → (a == b) ≡ false
    turned a b apart = ne_eqb a b (λ same. eqb-false b a apart (sym same))

pub none_under_way : (h : List Heard) (us : List UnderWay) → us ≡ [] → AreUnderWay h 0 us
none_under_way h us none = subst (λ (ws : List UnderWay). AreUnderWay h 0 ws) (sym none) (record {
  each = λ u there. absurd (let small = there.1 in omega (arith, small));
  all = λ c call begun open_still. absurd (cc);
})
