-- Each step of the search makes the timeline that leads to a configuration one entry longer.
use Rattle.std.proofs.Common.{zero, suc, take, ◌≡◌, ◌<◌, arith, ℕ, Bool, true, false, not, ◌||◌, ◌&&◌, ◌==◌, cond, nat_lt, List, [], ◌∷◌, ◌++◌, length, slice_get, Option, Some, None, is_some, refl, sym, ap, ◌∙◌, subst, ⊎_elim, append_assoc}
use Rattle.std.proofs.Math.Nat.{eq-or-lt_of_le}
use Rattle.std.proofs.lemmas.Bool.{eqb-true, eqb-false, eq-eqb, ltb-true, ltb-false, cases_Bool, both_ways, false_from_ne_true, and_parts, or_parts}
use Rattle.fs_names.specs.Failures.{or_else}
use Rattle.fs_calls.specs.Starts.{Start}
use Rattle.fs_calls.specs.Outcomes.{next_start, reply_at, called}
use Rattle.fs_calls.specs.declared.call.Call.{Call}
use Rattle.fs_calls.specs.declared.reply.Reply.{Reply}
use Rattle.fs_timeline.specs.Timeline.{is_commit, is_return, has_begun, has_committed, has_returned, begun_on, last_on, is_open, is_busy, call_of, commits, before_commit, reply_after, due}
use Rattle.fs_timeline.specs.declared.entry.Entry.{Entry}
use Rattle.fs_timeline.specs.declared.entry.Entry.TheVariants.{Begin, Commit, Return}
use Rattle.fs_timeline.proofs.AppendLemmas.{begun_first, list_any-push, or_false, is_some-call_of, due-kept, due-first}
use Rattle.fs_timeline.proofs.TimelineLemmas.{append_nil, lawful_appended}
use Rattle.fs_linearizable.specs.Linearizable.{history}
use Rattle.fs_linearizable.proofs.LawfulLemmas.{history-append, has_returned-history, has_begun-history, is_busy-history}
use Rattle.fs_linearize_histories.specs.declared.heard.Heard.{Heard}
use Rattle.fs_linearize_histories.specs.declared.heard.Heard.TheVariants as heard
use Rattle.fs_linearize_histories.specs.declared.heard.Pattern.{Pattern}
use Rattle.fs_linearize_histories.specs.Heard.{IsHeardAs, AreHeardIn, entry_of, entries}
use Rattle.fs_linearize_histories.specs.Histories.{recorded, FitsIn, IsNextHeard, AreNextHeard, IsHistory, ExplainsFront}
use Rattle.fs_linearize_histories.specs.Configurations.{Configuration, at_start, is_in, AreRising, placed, without, passed, returned, committed, CanCommit}
use Rattle.fs_linearize_histories.specs.Paths.{LeadsTo, StepsLead}
use Rattle.fs_linearize_histories.proofs.HistoryLemmas.{call_of-history, is_some-returned_as, none_from, some_from, returned_of_other, committed_of_other, commits_of_none, played_commit, blanks, call_of-blank, has_returned-blank, passed_front, passed_call, passed_return}
use Rattle.fs_linearize_histories.proofs.Following.{is_in-placed, without_was, without_other, place_commit, place_more}

-- ---- what the history says of the next entry

pub next_at : (before : List Entry) (h : List Heard) (n : ℕ) (x : Heard) → AreNextHeard before h → slice_get h n ≡ Some x → IsNextHeard (before ++ entries (take n h)) x
next_at before [] n x k is = absurd (cc)
next_at before (y ∷ h) zero x k is =
    let same : y ≡ x = some_is y x is in
    subst (λ (b : List Entry). IsNextHeard b x) (sym (append_nil before)) (subst (IsNextHeard before) same k.0)
  where
    some_is : (a b : Heard) → Some a ≡ Some b → a ≡ b
    some_is a b same = cc
next_at before (y ∷ h) (suc n) x k is = subst (λ (b : List Entry). IsNextHeard b x) (append_assoc before (entry_of y ∷ []) (entries (take n h))) (next_at (before ++ entry_of y ∷ []) h n x k.1 is)

-- what the history says of the entry behind the front
heard_here : (start : Start) (h : List Heard) (es : List Entry) (x : Configuration) (y : Heard) → IsHistory h → LeadsTo start h es x → slice_get h x.at ≡ Some y → IsNextHeard (entries (take x.at h)) y
heard_here start h es x y history l is = next_at [] h x.at y history is

-- the front with one entry more
heard_push : (es : List Entry) (h : List Heard) (e : Entry) (x : Heard) → AreHeardIn es h → slice_get h (length es) ≡ Some x → IsHeardAs e x → AreHeardIn (es ++ e ∷ []) h
heard_push [] [] e x k is like = absurd (cc)
heard_push [] (y ∷ h) e x k is like = (subst (IsHeardAs e) (sym (some_is y x is)) like, tt)
  where
    some_is : (a b : Heard) → Some a ≡ Some b → a ≡ b
    some_is a b same = cc
heard_push (d ∷ es) [] e x k is like = absurd k
heard_push (d ∷ es) (y ∷ h) e x k is like = (k.0, heard_push es h e x k.1 is like)

front_more : (start : Start) (h : List Heard) (es : List Entry) (x : Configuration) (e : Entry) (y : Heard) → history (e ∷ []) ≡ e ∷ [] → LeadsTo start h es x → slice_get h x.at ≡ Some y → IsHeardAs e y → AreHeardIn (history (es ++ e ∷ [])) h
front_more start h es x e y one l is like =
    let pushed : history (es ++ e ∷ []) ≡ history es ++ e ∷ [] = history-append es (e ∷ []) ∙ ap (λ xs. history es ++ xs) one in
    subst (λ (xs : List Entry). AreHeardIn xs h) (sym pushed) (heard_push (history es) h e y l.explains.heard_as (ap (slice_get h) (sym l.place) ∙ is) like)

last_on-blank : (s : ℕ) (es : List Entry) → last_on s (blanks es) ≡ last_on s es
last_on-blank s [] = refl
last_on-blank s (Begin c seat call ∷ es) = ap (λ o. or_else o (begun_on s (Begin c seat call))) (last_on-blank s es)
last_on-blank s (Commit c ∷ es) = ap (λ o. or_else o None) (last_on-blank s es)
last_on-blank s (Return c r ∷ es) = ap (λ o. or_else o None) (last_on-blank s es)

is_open-blank : (o : Option ℕ) (es : List Entry) → is_open o (blanks es) ≡ is_open o es
is_open-blank None es = refl
is_open-blank (Some c) es = ap not (has_returned-blank c es)

pub is_busy-blank : (s : ℕ) (es : List Entry) → is_busy s (blanks es) ≡ is_busy s es
is_busy-blank s es = ap (λ o. is_open o (blanks es)) (last_on-blank s es) ∙ is_open-blank (last_on s es) es

pub has_begun-blank : (c : ℕ) (es : List Entry) → has_begun c (blanks es) ≡ has_begun c es
has_begun-blank c es = sym (is_some-call_of c (blanks es)) ∙ ap is_some (call_of-blank c es) ∙ is_some-call_of c es

pub passed_begun : (start : Start) (h : List Heard) (es : List Entry) (n c : ℕ) → ExplainsFront start h es → n ≡ length (history es) → has_begun c (entries (take n h)) ≡ has_begun c es
passed_begun start h es n c x at = ap (has_begun c) (passed_front start h es n x at) ∙ has_begun-blank c (history es) ∙ has_begun-history c es

pub passed_busy : (start : Start) (h : List Heard) (es : List Entry) (n s : ℕ) → ExplainsFront start h es → n ≡ length (history es) → is_busy s (entries (take n h)) ≡ is_busy s es
passed_busy start h es n s x at = ap (is_busy s) (passed_front start h es n x at) ∙ is_busy-blank s (history es) ∙ is_busy-history s es

-- ---- numbers that rise

over_placed : (d c : ℕ) (xs : List ℕ) → d < c → ((e : ℕ) → is_in e xs ≡ true → d < e) → (e : ℕ) → is_in e (placed c xs) ≡ true → d < e
over_placed d c xs small over e there = ⊎_elim
    (λ same. subst (λ n. d < n) (sym (eqb-true e c same)) small)
    (λ apart. over e (sym (ap (λ b. b || is_in e xs) apart) ∙ sym (is_in-placed e c xs) ∙ there))
    (cases_Bool (e == c))

rising_placed : (c : ℕ) (xs : List ℕ) → is_in c xs ≡ false → AreRising xs → AreRising (placed c xs)
rising_placed c [] none k = (λ d there. absurd (cc), tt)
rising_placed c (d ∷ xs) none k =
    let apart = or_parts (c == d) (is_in c xs) none in
    elim (nat_lt c d) as (λ b. nat_lt c d ≡ b → AreRising (cond b (c ∷ d ∷ xs) (d ∷ placed c xs))) [
      | true ↦ λ less.
          let small : c < d = ltb-true c d less in (
            λ e there. ⊎_elim
                (λ same. subst (λ n. c < n) (sym (eqb-true e d same)) small)
                (λ other. let large = k.0 e (sym (ap (λ b. b || is_in e xs) other) ∙ there) in omega (arith, small, large))
                (cases_Bool (e == d)),
            k,
          )
      | false ↦ λ more.
          let large : d < c = ⊎_elim (λ same. absurd (eqb-false c d apart.0 (sym same))) (λ less. less) (eq-or-lt_of_le (ltb-false c d more)) in
          (over_placed d c xs large k.0, rising_placed c xs apart.1 k.1)
    ] refl

rising_without : (c : ℕ) (xs : List ℕ) → AreRising xs → AreRising (without c xs)
rising_without c [] k = k
rising_without c (d ∷ xs) k = elim (c == d) as (λ b. AreRising (cond b (without c xs) (d ∷ without c xs))) [
  | true ↦ rising_without c xs k.1
  | false ↦ (λ e there. k.0 e (without_was e c xs there), rising_without c xs k.1)
]

-- ---- steps

pub leads_start : (start : Start) (h : List Heard) → LeadsTo start h [] (at_start start)
leads_start start h = record {
  explains = record { lawful = record { well_formed = tt; replies = tt }; heard_as = tt; held_to = λ c r no_one is. absurd (cc) };
  place = refl;
  tree = refl;
  held = λ c. refl;
  rising = tt;
}

pub leads_begin : (start : Start) (h : List Heard) (es : List Entry) (x : Configuration) (c seat : ℕ) (call : Call) → IsHistory h → slice_get h x.at ≡ Some (heard.Begin c seat call) → LeadsTo start h es x → LeadsTo start h (es ++ Begin c seat call ∷ []) (passed x)
leads_begin start h es x c seat call history is l =
    let e = Begin c seat call in
    let next = heard_here start h es x (heard.Begin c seat call) history l is in
    let lawful = l.explains.lawful in
    let begun = begun_first es lawful.well_formed in
    record {
      explains = record {
        lawful = (lawful_appended start es e).1 (lawful, (sym (passed_begun start h es x.at c l.explains l.place) ∙ next.0, sym (passed_busy start h es x.at seat l.explains l.place) ∙ next.1), tt);
        heard_as = front_more start h es x e (heard.Begin c seat call) refl l is refl;
        held_to = λ d r done told.
            let was : has_committed d es ≡ true = sym (committed_of_other d es e refl) ∙ done in
            l.explains.held_to d r was (sym (due-kept start d es e begun was) ∙ told);
      };
      place = place_more x.at es e l.place refl;
      tree = l.tree ∙ sym (ap (next_start start) (commits_of_none es e begun (λ whole. refl)));
      held = λ d. l.held d ∙ sym (ap (λ b. b && not (has_returned d (es ++ e ∷ []))) (committed_of_other d es e refl) ∙ ap (λ b. has_committed d es && not b) (returned_of_other d es e refl));
      rising = l.rising;
    }

held_open : (a b : Bool) → b ≡ false → (a && not b) ≡ false → a ≡ false
held_open true true h k = absurd (cc)
held_open true false h k = absurd (cc)
held_open false b h k = refl

committed_held : (same was back : Bool) → (same ≡ true → back ≡ false) → (same || (was && not back)) ≡ ((was || same) && not back)
committed_held true true back h = let open_still = h refl in rw open_still refl
committed_held true false back h = let open_still = h refl in rw open_still refl
committed_held false true back h = refl
committed_held false false back h = refl

pub leads_commit : (start : Start) (h : List Heard) (es : List Entry) (x : Configuration) (c : ℕ) (call : Call) → CanCommit h x c call → LeadsTo start h es x → LeadsTo start h (es ++ Commit c ∷ []) (committed x c call)
leads_commit start h es x c call can l =
    let e = Commit c in
    let lawful = l.explains.lawful in
    let begun_before = begun_first es lawful.well_formed in
    let is : call_of c es ≡ Some call = sym (passed_call start h es x.at c l.explains l.place) ∙ can.begun in
    let under_way : has_returned c es ≡ false = sym (passed_return start h es x.at c l.explains l.place) ∙ can.open_still in
    let begun : has_begun c es ≡ true = sym (is_some-call_of c es) ∙ ap is_some is in
    let not_done : has_committed c es ≡ false = held_open _ _ under_way (sym (l.held c) ∙ can.not_yet) in
    let now = (lawful_appended start es e).1 (lawful, (begun, not_done), tt) in
    record {
      explains = record {
        lawful = now;
        heard_as = subst (λ (xs : List Entry). AreHeardIn xs h) (sym (history-append es (e ∷ []) ∙ append_nil (history es))) l.explains.heard_as;
        held_to = λ d r done told. ⊎_elim
            (λ same.
            let number = eqb-true d c same in
            let mine : due start c (es ++ e ∷ []) ≡ Some (reply_at x.now call) = due-first start c es begun not_done ∙ ap (reply_after start (commits es)) is ∙ ap (λ t. Some (reply_at t call)) (sym l.tree) in
            let both : Some (reply_at x.now call) ≡ Some r = sym mine ∙ subst (λ n. due start n (es ++ e ∷ []) ≡ Some r) number told in
            let answered : reply_at x.now call ≡ r = cc in
            subst (FitsIn h d) answered (subst (λ n. FitsIn h n (reply_at x.now call)) (sym number) can.fits))
            (λ apart.
            let was : has_committed d es ≡ true = sym (committed_of_other d es e apart) ∙ done in
            l.explains.held_to d r was (sym (due-kept start d es e begun_before was) ∙ told))
            (cases_Bool (d == c));
      };
      place = place_commit x.at c es l.place;
      tree = ap (λ t. called t call) l.tree ∙ sym (played_commit start es c call begun_before is);
      held = λ d.
          let back : has_returned d (es ++ e ∷ []) ≡ has_returned d es = returned_of_other d es e refl in
          let done : has_committed d (es ++ e ∷ []) ≡ (has_committed d es || (d == c)) = list_any-push (is_commit d) es e in
          is_in-placed d c x.held ∙ ap (λ b. (d == c) || b) (l.held d)
          ∙ committed_held (d == c) (has_committed d es) (has_returned d es) (λ same. subst (λ n. has_returned n es ≡ false) (sym (eqb-true d c same)) under_way)
          ∙ sym (ap (λ b. b && not (has_returned d (es ++ e ∷ []))) done ∙ ap (λ b. (has_committed d es || (d == c)) && not b) back);
      rising = rising_placed c x.held can.not_yet l.rising;
    }

without_same : (c : ℕ) (xs : List ℕ) → is_in c (without c xs) ≡ false
without_same c [] = refl
without_same c (d ∷ xs) = elim (c == d) as (λ b. (c == d) ≡ b → is_in c (cond b (without c xs) (d ∷ without c xs)) ≡ false) [
  | true ↦ λ here. without_same c xs
  | false ↦ λ apart. rw apart (without_same c xs)
] refl

is_in-without : (q c : ℕ) (xs : List ℕ) → (q == c) ≡ false → is_in q (without c xs) ≡ is_in q xs
is_in-without q c xs apart =
    ⊎_elim
    (λ there. without_other q c xs apart there ∙ sym there)
    (λ gone. false_from_ne_true _ (λ k. both_ways _ gone (without_was q c xs k)) ∙ sym gone)
    (cases_Bool (is_in q xs))

back_now : (a b : Bool) → (a && not (b || true)) ≡ false
back_now true true = refl
back_now true false = refl
back_now false b = refl

-- the first that is recorded of a call is what its first Return tells
recorded_at : (h : List Heard) (n c : ℕ) (p : Pattern) → has_returned c (entries (take n h)) ≡ false → slice_get h n ≡ Some (heard.Return c p) → recorded c h ≡ Some p
recorded_at [] n c p none is = absurd (cc)
recorded_at (x ∷ h) zero c p none is =
    let same : x ≡ heard.Return c p = some_is x (heard.Return c p) is in
    let here = eq-eqb c c refl in
    rw same (rw here refl)
  where
    some_is : (a b : Heard) → Some a ≡ Some b → a ≡ b
    some_is a b k = cc
recorded_at (x ∷ h) (suc n) c p none is =
    let parts = or_parts (is_return c (entry_of x)) (has_returned c (entries (take n h))) none in
    ap (λ o. or_else o (recorded c h)) (none_from _ (is_some-returned_as c x ∙ parts.0)) ∙ recorded_at h n c p parts.1 is

-- a reply is due to a call that is held
pub due_held : (start : Start) (h : List Heard) (es : List Entry) (x : Configuration) (c : ℕ) → is_in c x.held ≡ true → LeadsTo start h es x → (r : Reply) × (due start c es ≡ Some r)
due_held start h es x c held l =
    let done : has_committed c es ≡ true = (and_parts _ _ (sym (l.held c) ∙ held)).0 in
    let begun : has_begun c es ≡ true = begun_first es l.explains.lawful.well_formed c done in
    let found = some_from (call_of c es) (is_some-call_of c es ∙ begun) in
    (reply_at (next_start start (commits (before_commit c es))) found.0, ap (reply_after start (commits (before_commit c es))) found.1)

pub leads_return : (start : Start) (h : List Heard) (es : List Entry) (x : Configuration) (c : ℕ) (p : Pattern) (r : Reply) → IsHistory h → slice_get h x.at ≡ Some (heard.Return c p) → is_in c x.held ≡ true → due start c es ≡ Some r → LeadsTo start h es x → LeadsTo start h (es ++ Return c r ∷ []) (returned x c)
leads_return start h es x c p r history is held answer l =
    let e = Return c r in
    let next = heard_here start h es x (heard.Return c p) history l is in
    let lawful = l.explains.lawful in
    let begun = begun_first es lawful.well_formed in
    let back : has_returned c es ≡ false = sym (passed_return start h es x.at c l.explains l.place) ∙ next.1 in
    let done : has_committed c es ≡ true = (and_parts _ _ (sym (l.held c) ∙ held)).0 in
    let told : recorded c h ≡ Some p = recorded_at h x.at c p next.1 is in
    let now = (lawful_appended start es e).1 (lawful, (done, back), answer) in
    record {
      explains = record {
        lawful = now;
        heard_as = front_more start h es x e (heard.Return c p) refl l is (p, refl, l.explains.held_to c r done answer p told);
        held_to = λ d s done_now so.
            let was : has_committed d es ≡ true = sym (committed_of_other d es e refl) ∙ done_now in
            l.explains.held_to d s was (sym (due-kept start d es e begun was) ∙ so);
      };
      place = place_more x.at es e l.place refl;
      tree = l.tree ∙ sym (ap (next_start start) (commits_of_none es e begun (λ whole. refl)));
      held = λ d.
          let returns_now : has_returned d (es ++ e ∷ []) ≡ (has_returned d es || (d == c)) = list_any-push (is_return d) es e in
          let commits_still : has_committed d (es ++ e ∷ []) ≡ has_committed d es = committed_of_other d es e refl in
          let after_it : (has_committed d (es ++ e ∷ []) && not (has_returned d (es ++ e ∷ []))) ≡ (has_committed d es && not (has_returned d es || (d == c))) =
          ap (λ b. b && not (has_returned d (es ++ e ∷ []))) commits_still ∙ ap (λ b. has_committed d es && not b) returns_now in
          ⊎_elim
          (λ same. subst (λ n. is_in n (without c x.held) ≡ false) (sym (eqb-true d c same)) (without_same c x.held) ∙ sym (after_it ∙ ap (λ b. has_committed d es && not (has_returned d es || b)) same ∙ back_now _ _))
          (λ apart. is_in-without d c x.held apart ∙ l.held d ∙ sym (after_it ∙ ap (λ b. has_committed d es && not (has_returned d es || b)) apart ∙ ap (λ b. has_committed d es && not b) (or_false (has_returned d es))))
          (cases_Bool (d == c));
      rising = rising_without c x.held l.rising;
    }

pub steps_lead : StepsLead
steps_lead = record { starts = leads_start; begins = leads_begin; commits = leads_commit; returns = leads_return }
