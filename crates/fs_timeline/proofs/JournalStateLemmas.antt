-- What a checker knows, entry by entry.
use Rattle.std.proofs.Common.{◌≡◌, ℕ, Bool, true, false, not, ◌||◌, ◌==◌, cond, List, [], ◌∷◌, ◌++◌, Option, Some, None, is_some, refl, sym, ap, ◌∙◌, subst, ⊎_elim, suc, ◌+◌, ◌<◌, ◌≤◌, ◌↔◌, length, get_or, take, drop, add-one, drop-cons}
use Rattle.std.proofs.lemmas.List.{take_more, drop_all}
use Rattle.std.proofs.lemmas.Bool.{eqb-true, eq-eqb, ne_eqb, or_left, or_right, cases_Bool, cases_eq}
use Rattle.fs_names.specs.Failures.{check, first_failure, or_else}
use Rattle.fs_calls.specs.Starts.{Start}
use Rattle.fs_calls.specs.Outcomes.{reply_at, called, next_start}
use Rattle.fs_calls.specs.declared.call.Call.{Call}
use Rattle.fs_calls.specs.declared.reply.Reply.{Reply}
use Rattle.fs_timeline.specs.Timeline.{is_commit, is_return, has_begun, has_committed, has_returned, begun_on, last_on, is_open, begun_as, call_of, with_call, commits_of, commits, before_commit, reply_after, due, IsLawful}
use Rattle.fs_timeline.specs.Verdicts.{is_due, entry_fault, fault_or, verdict_from, verdict}
use Rattle.fs_timeline.specs.JournalStates.{JournalState, known_fault, is_waiting, changed, played, taken_in, committed_reply, IsTrueOf}
use Rattle.fs_timeline.specs.declared.entry.Entry.{Entry}
use Rattle.fs_timeline.specs.declared.entry.Entry.TheVariants.{Begin, Commit, Return}
use Rattle.fs_timeline.specs.declared.verdict.Verdict.{Verdict}
use Rattle.fs_timeline.specs.declared.verdict.Verdict.TheVariants.{Lawful, Fault}
use Rattle.fs_timeline.specs.declared.verdict.FaultKind.{FaultKind}
use Rattle.fs_timeline.specs.declared.verdict.FaultKind.TheVariants.{ReturnUncommitted, ReturnTwice, WrongReply}
use Rattle.fs_timeline.proofs.AppendLemmas.{BegunFirst, begun_first-push, or_false, list_any-push, or_else-nothing, last_on-push, call_of-push, is_some-call_of, call_of-kept, commits-push, due-kept, due-first, next_start-push}
use Rattle.fs_timeline.proofs.TimelineLemmas.{append_nil}
use Rattle.fs_timeline.proofs.VerdictLemmas.{fits_from_none, lawful_is_lawful}

is_some-told : (start : Start) (calls : List Call) (o : Option Call) → is_some (reply_after start calls o) ≡ is_some o
is_some-told start calls None = refl
is_some-told start calls (Some call) = refl

no_call : (o : Option Call) → is_some o ≡ false → o ≡ None
no_call None h = refl
no_call (Some call) h = absurd (cc)

-- a call has a reply that is due exactly where it has committed
is_some-committed_reply : (start : Start) (c : ℕ) (es : List Entry) → BegunFirst es → is_some (committed_reply start c es) ≡ has_committed c es
is_some-committed_reply start c es begun =
    elim (has_committed c es) as (λ b. has_committed c es ≡ b → is_some (cond b (due start c es) None) ≡ b) [
      | true ↦ λ h. is_some-told start (commits (before_commit c es)) (call_of c es) ∙ is_some-call_of c es ∙ begun c h
      | false ↦ λ h. refl
    ] refl

knows_begun : (start : Start) (k : JournalState) (es : List Entry) → IsTrueOf start k es → (c : ℕ) → is_some (k.calls c) ≡ has_begun c es
knows_begun start k es h c = ap is_some (h.calls_are c) ∙ is_some-call_of c es

knows_committed : (start : Start) (k : JournalState) (es : List Entry) → IsTrueOf start k es → (c : ℕ) → is_some (k.replies c) ≡ has_committed c es
knows_committed start k es h c = ap is_some (h.replies_are c) ∙ is_some-committed_reply start c es h.begun_first

is_waiting-is_open : (start : Start) (k : JournalState) (es : List Entry) → IsTrueOf start k es → (o : Option ℕ) → is_waiting k.returned o ≡ is_open o es
is_waiting-is_open start k es h None = refl
is_waiting-is_open start k es h (Some c) = ap not (h.returned_are c)

-- the last two checks of a Return, where the call has committed or not
return_checks : (committed returned : Bool) (due : Option Reply) (r : Reply)
    → first_failure (check (not committed) ReturnUncommitted ∷ check returned ReturnTwice ∷ check (not (is_due (cond committed due None) r)) WrongReply ∷ [])
    ≡ first_failure (check (not committed) ReturnUncommitted ∷ check returned ReturnTwice ∷ check (not (is_due due r)) WrongReply ∷ [])
return_checks true returned due r = refl
return_checks false returned due r = refl

-- what is known tells what is wrong with the next entry
pub known_fault-entry_fault : (start : Start) (k : JournalState) (es : List Entry) (e : Entry) → IsTrueOf start k es → known_fault k e ≡ entry_fault start es e
known_fault-entry_fault start k es (Begin c seat call) h =
    let begun = knows_begun start k es h c in
    let busy = ap (is_waiting k.returned) (h.last_are seat) ∙ is_waiting-is_open start k es h (last_on seat es) in
    rw (begun, busy) refl
known_fault-entry_fault start k es (Commit c) h =
    let begun = knows_begun start k es h c in
    let committed = knows_committed start k es h c in
    rw (begun, committed) refl
known_fault-entry_fault start k es (Return c r) h =
    let committed = knows_committed start k es h c in
    let returned = h.returned_are c in
    let replied = h.replies_are c in
    rw (committed, returned, replied) (return_checks (has_committed c es) (has_returned c es) (due start c es) r)

changed_here : {A : Type 0} (f : ℕ → A) (n : ℕ) (a : A) (m : ℕ) → m ≡ n → changed f n a m ≡ a
changed_here f n a m h = let same = eq-eqb n m (sym h) in rw same refl

changed_apart : {A : Type 0} (f : ℕ → A) (n : ℕ) (a : A) (m : ℕ) → (m ≡ n → ⊥) → changed f n a m ≡ f m
changed_apart f n a m h = let apart = ne_eqb n m (λ e. h (sym e)) in rw apart refl

committed_reply-yes : (start : Start) (c : ℕ) (es : List Entry) → has_committed c es ≡ true → committed_reply start c es ≡ due start c es
committed_reply-yes start c es h = ap (λ b. cond b (due start c es) None) h

committed_reply-no : (start : Start) (c : ℕ) (es : List Entry) → has_committed c es ≡ false → committed_reply start c es ≡ None
committed_reply-no start c es h = ap (λ b. cond b (due start c es) None) h

-- an entry that is no Commit of the call leaves the reply that is due to it
committed_reply-kept : (start : Start) (c : ℕ) (es : List Entry) (e : Entry) → BegunFirst es → is_commit c e ≡ false → committed_reply start c (es ++ e ∷ []) ≡ committed_reply start c es
committed_reply-kept start c es e begun apart =
    let more = list_any-push (is_commit c) es e in
    ⊎_elim
    (λ h.
    let now : has_committed c (es ++ e ∷ []) ≡ true = more ∙ or_left _ _ h in
    committed_reply-yes start c (es ++ e ∷ []) now ∙ due-kept start c es e begun h ∙ sym (committed_reply-yes start c es h))
    (λ h.
    let now : has_committed c (es ++ e ∷ []) ≡ false = more ∙ ap (λ b. b || is_commit c e) h ∙ apart in
    committed_reply-no start c (es ++ e ∷ []) now ∙ sym (committed_reply-no start c es h))
    (cases_Bool (has_committed c es))

committed_reply-first : (start : Start) (c : ℕ) (es : List Entry) (call : Call) → has_begun c es ≡ true → has_committed c es ≡ false → call_of c es ≡ Some call
    → committed_reply start c (es ++ Commit c ∷ []) ≡ Some (reply_at (next_start start (commits es)) call)
committed_reply-first start c es call begun h is =
    let now : has_committed c (es ++ Commit c ∷ []) ≡ true = list_any-push (is_commit c) es (Commit c) ∙ or_right _ _ (eq-eqb c c refl) in
    committed_reply-yes start c (es ++ Commit c ∷ []) now ∙ due-first start c es begun h ∙ ap (reply_after start (commits es)) is

no_commits-push : (es : List Entry) (e : Entry) → BegunFirst es → ((whole : List Entry) → commits_of whole (e ∷ []) ≡ []) → commits (es ++ e ∷ []) ≡ commits es
no_commits-push es e begun none = commits-push es e begun ∙ ap (λ xs. commits es ++ xs) (none (es ++ e ∷ [])) ∙ append_nil (commits es)

-- the parts that each entry changes
begin_call : (start : Start) (k : JournalState) (es : List Entry) (c seat : ℕ) (call : Call) → IsTrueOf start k es → has_begun c es ≡ false
    → (q : ℕ) → changed k.calls c (Some call) q ≡ call_of q (es ++ Begin c seat call ∷ [])
begin_call start k es c seat call h new q =
    ⊎_elim
    (λ same.
    let begins : begun_as q (Begin c seat call) ≡ Some call = (let e = eq-eqb q c same in rw e refl) in
    let none : call_of q es ≡ None = no_call (call_of q es) (is_some-call_of q es ∙ ap (λ n. has_begun n es) same ∙ new) in
    changed_here k.calls c (Some call) q same ∙ sym (call_of-push q es (Begin c seat call) ∙ ap (λ o. or_else o (begun_as q (Begin c seat call))) none ∙ begins))
    (λ apart.
    let other : begun_as q (Begin c seat call) ≡ None = (let e = ne_eqb q c apart in rw e refl) in
    changed_apart k.calls c (Some call) q apart ∙ h.calls_are q
    ∙ sym (call_of-push q es (Begin c seat call) ∙ ap (or_else (call_of q es)) other ∙ or_else-nothing (call_of q es)))
    (cases_eq q c)

begin_last : (start : Start) (k : JournalState) (es : List Entry) (c seat : ℕ) (call : Call) → IsTrueOf start k es
    → (q : ℕ) → changed k.last seat (Some c) q ≡ last_on q (es ++ Begin c seat call ∷ [])
begin_last start k es c seat call h q =
    ⊎_elim
    (λ same.
    let begins : begun_on q (Begin c seat call) ≡ Some c = (let e = eq-eqb q seat same in rw e refl) in
    changed_here k.last seat (Some c) q same ∙ sym (last_on-push q es (Begin c seat call) ∙ ap (λ o. or_else o (last_on q es)) begins))
    (λ apart.
    let other : begun_on q (Begin c seat call) ≡ None = (let e = ne_eqb q seat apart in rw e refl) in
    changed_apart k.last seat (Some c) q apart ∙ h.last_are q
    ∙ sym (last_on-push q es (Begin c seat call) ∙ ap (λ o. or_else o (last_on q es)) other))
    (cases_eq q seat)

commit_reply : (start : Start) (k : JournalState) (es : List Entry) (c : ℕ) (call : Call) → IsTrueOf start k es → has_begun c es ≡ true → has_committed c es ≡ false → call_of c es ≡ Some call
    → (q : ℕ) → changed k.replies c (Some (reply_at k.now call)) q ≡ committed_reply start q (es ++ Commit c ∷ [])
commit_reply start k es c call h begun first_time is q =
    ⊎_elim
    (λ same.
    changed_here k.replies c (Some (reply_at k.now call)) q same ∙ ap (λ (s : Start). Some (reply_at s call)) h.now_is
    ∙ sym (ap (λ n. committed_reply start n (es ++ Commit c ∷ [])) same ∙ committed_reply-first start c es call begun first_time is))
    (λ apart.
    changed_apart k.replies c (Some (reply_at k.now call)) q apart ∙ h.replies_are q
    ∙ sym (committed_reply-kept start q es (Commit c) h.begun_first (ne_eqb q c apart)))
    (cases_eq q c)

one_commit-push : (es : List Entry) (c : ℕ) (call : Call) → BegunFirst es → has_begun c es ≡ true → call_of c es ≡ Some call → commits (es ++ Commit c ∷ []) ≡ commits es ++ call ∷ []
one_commit-push es c call first_begun begun is =
    commits-push es (Commit c) first_begun ∙ ap (λ o. commits es ++ with_call o []) (call_of-kept c es (Commit c) begun ∙ is)

return_returned : (start : Start) (k : JournalState) (es : List Entry) (c : ℕ) (r : Reply) → IsTrueOf start k es
    → (q : ℕ) → changed k.returned c true q ≡ has_returned q (es ++ Return c r ∷ [])
return_returned start k es c r h q =
    ⊎_elim
    (λ same.
    changed_here k.returned c true q same
    ∙ sym (list_any-push (is_return q) es (Return c r) ∙ or_right (has_returned q es) (q == c) (eq-eqb q c same)))
    (λ apart.
    changed_apart k.returned c true q apart ∙ h.returned_are q
    ∙ sym (list_any-push (is_return q) es (Return c r) ∙ ap (λ b. has_returned q es || b) (ne_eqb q c apart) ∙ or_false (has_returned q es)))
    (cases_eq q c)

-- what is known stays true where a call begins
true_of_begin : (start : Start) (k : JournalState) (es : List Entry) (c seat : ℕ) (call : Call) → IsTrueOf start k es → has_begun c es ≡ false
    → IsTrueOf start (taken_in k (Begin c seat call)) (es ++ Begin c seat call ∷ [])
true_of_begin start k es c seat call h new = record {
  calls_are = λ q. begin_call start k es c seat call h new q;
  replies_are = λ q. h.replies_are q ∙ sym (committed_reply-kept start q es (Begin c seat call) h.begun_first refl);
  returned_are = λ q. h.returned_are q ∙ sym (list_any-push (is_return q) es (Begin c seat call) ∙ or_false (has_returned q es));
  last_are = λ q. begin_last start k es c seat call h q;
  now_is = h.now_is ∙ sym (ap (next_start start) (no_commits-push es (Begin c seat call) h.begun_first (λ whole. refl)));
  begun_first = begun_first-push es (Begin c seat call) h.begun_first (λ q no. absurd (cc));
}

-- what is known stays true where a call commits
true_of_commit : (start : Start) (k : JournalState) (es : List Entry) (c : ℕ) (call : Call) → IsTrueOf start k es → has_begun c es ≡ true → has_committed c es ≡ false → call_of c es ≡ Some call
    → IsTrueOf start (played k c (Some call)) (es ++ Commit c ∷ [])
true_of_commit start k es c call h begun first_time is = record {
  calls_are = λ q. h.calls_are q ∙ sym (call_of-push q es (Commit c) ∙ or_else-nothing (call_of q es));
  replies_are = λ q. commit_reply start k es c call h begun first_time is q;
  returned_are = λ q. h.returned_are q ∙ sym (list_any-push (is_return q) es (Commit c) ∙ or_false (has_returned q es));
  last_are = λ q. h.last_are q ∙ sym (last_on-push q es (Commit c));
  now_is = ap (λ (s : Start). called s call) h.now_is ∙ sym (ap (next_start start) (one_commit-push es c call h.begun_first begun is) ∙ next_start-push start (commits es) call);
  begun_first = begun_first-push es (Commit c) h.begun_first (λ q same. subst (λ n. has_begun n es ≡ true) (sym (eqb-true q c same)) begun);
}

-- what is known stays true where a call returns
true_of_return : (start : Start) (k : JournalState) (es : List Entry) (c : ℕ) (r : Reply) → IsTrueOf start k es → IsTrueOf start (taken_in k (Return c r)) (es ++ Return c r ∷ [])
true_of_return start k es c r h = record {
  calls_are = λ q. h.calls_are q ∙ sym (call_of-push q es (Return c r) ∙ or_else-nothing (call_of q es));
  replies_are = λ q. h.replies_are q ∙ sym (committed_reply-kept start q es (Return c r) h.begun_first refl);
  returned_are = λ q. return_returned start k es c r h q;
  last_are = λ q. h.last_are q ∙ sym (last_on-push q es (Return c r));
  now_is = h.now_is ∙ sym (ap (next_start start) (no_commits-push es (Return c r) h.begun_first (λ whole. refl)));
  begun_first = begun_first-push es (Return c r) h.begun_first (λ q no. absurd (cc));
}

known_call : (o : Option Call) → is_some o ≡ true → (call : Call) × (o ≡ Some call)
known_call None h = absurd (cc)
known_call (Some call) h = (call, refl)

-- what is known stays true with an entry in which nothing is wrong
pub true_of_taken_in : (start : Start) (k : JournalState) (es : List Entry) (e : Entry) → IsTrueOf start k es → entry_fault start es e ≡ None → IsTrueOf start (taken_in k e) (es ++ e ∷ [])
true_of_taken_in start k es (Begin c seat call) h none = true_of_begin start k es c seat call h (fits_from_none start es (Begin c seat call) none).0.0
true_of_taken_in start k es (Commit c) h none =
    let fits = (fits_from_none start es (Commit c) none).0 in
    let found = known_call (call_of c es) (is_some-call_of c es ∙ fits.0) in
    subst (λ o. IsTrueOf start (played k c o) (es ++ Commit c ∷ [])) (sym (h.calls_are c ∙ found.1)) (true_of_commit start k es c found.0 h fits.0 fits.1 found.1)
true_of_taken_in start k es (Return c r) h none = true_of_return start k es c r h

-- the entries from one on, and up to it
drop_at : (es : List Entry) (i : ℕ) (e : Entry) → i < length es → e ≡ get_or es i e → drop i es ≡ e ∷ drop (i + 1) es
drop_at es i e h is = rw (add-one) (drop-cons es i e h ∙ ap (λ x. x ∷ drop (suc i) es) (sym is))

take_at : (es : List Entry) (i : ℕ) (e : Entry) → i < length es → e ≡ get_or es i e → take (i + 1) es ≡ take i es ++ e ∷ []
take_at es i e h is = take_more es i e h ∙ ap (λ x. take i es ++ x ∷ []) (sym is)

-- a verdict one entry further
pub verdict_from-step : (start : Start) (es : List Entry) (i place : ℕ) (e : Entry) → i < length es → e ≡ get_or es i e
    → verdict_from start (take i es) place (drop i es) ≡ fault_or place (entry_fault start (take i es) e) (verdict_from start (take (i + 1) es) (place + 1) (drop (i + 1) es))
verdict_from-step start es i place e h is =
    ap (verdict_from start (take i es) place) (drop_at es i e h is)
    ∙ ap (λ before. fault_or place (entry_fault start (take i es) e) (verdict_from start before (place + 1) (drop (i + 1) es))) (sym (take_at es i e h is))

-- what a fault among the entries so far says of the verdict
pub fault_is_verdict : (start : Start) (es : List Entry) (i : ℕ) (e : Entry) (kind : FaultKind) → i < length es → e ≡ get_or es i e
    → verdict start es ≡ verdict_from start (take i es) (i + 1) (drop i es) → Some kind ≡ entry_fault start (take i es) e → Fault (i + 1) kind ≡ verdict start es
fault_is_verdict start es i e kind h is rest found =
    sym (rest ∙ verdict_from-step start es i (i + 1) e h is ∙ ap (λ o. fault_or (i + 1) o (verdict_from start (take (i + 1) es) (i + 1 + 1) (drop (i + 1) es))) (sym found))

-- an entry in which nothing is wrong leaves the verdict to the rest
pub verdict_goes_on : (start : Start) (es : List Entry) (i : ℕ) (e : Entry) → i < length es → e ≡ get_or es i e
    → verdict start es ≡ verdict_from start (take i es) (i + 1) (drop i es) → None ≡ entry_fault start (take i es) e → verdict start es ≡ verdict_from start (take (i + 1) es) (i + 1 + 1) (drop (i + 1) es)
verdict_goes_on start es i e h is rest none =
    rest ∙ verdict_from-step start es i (i + 1) e h is ∙ ap (λ o. fault_or (i + 1) o (verdict_from start (take (i + 1) es) (i + 1 + 1) (drop (i + 1) es))) (sym none)

-- what is known stays true, one entry further
pub true_of_more : (start : Start) (k : JournalState) (es : List Entry) (i : ℕ) (e : Entry) → i < length es → e ≡ get_or es i e
    → IsTrueOf start k (take i es) → None ≡ entry_fault start (take i es) e → IsTrueOf start (taken_in k e) (take (i + 1) es)
true_of_more start k es i e h is so_far none = rw (take_at es i e h is) (true_of_taken_in start k (take i es) e so_far (sym none))

-- where no entry is left, nothing is wrong
pub end_is_lawful : (start : Start) (es : List Entry) (i : ℕ) → length es ≤ i → verdict start es ≡ verdict_from start (take i es) (i + 1) (drop i es) → Lawful ≡ verdict start es
end_is_lawful start es i h rest = sym (rest ∙ ap (verdict_from start (take i es) (i + 1)) (drop_all i es h))

pub lawful_by_verdict : (start : Start) (es : List Entry) (v : Verdict) → v ≡ verdict start es → (v ≡ Lawful) ↔ IsLawful start es
lawful_by_verdict start es v h = subst (λ w. (w ≡ Lawful) ↔ IsLawful start es) (sym h) (lawful_is_lawful start es)
