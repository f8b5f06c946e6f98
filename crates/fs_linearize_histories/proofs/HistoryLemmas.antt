-- Timelines and their histories, entry by entry.
use Rattle.std.proofs.Common.{Bool, arith, map, if◌then◌else◌, Bor, option_copied, ◌≡◌, ℕ, true, false, ◌||◌, ◌==◌, cond, List, [], ◌∷◌, ◌++◌, Option, Some, None, is_some, refl, sym, ap, ◌∙◌, subst, append_assoc, length, take, get_or, ◌<◌, ◌+◌}
use Rattle.std.proofs.lemmas.List.{take_more}
use Rattle.std.proofs.lemmas.Bool.{eqb-true, or_left}
use Rattle.fs_names.specs.Failures.{or_else, first_failure}
use Rattle.fs_names.proofs.FailureLemmas.{or_else-assoc}
use Rattle.fs_calls.specs.Starts.{Start}
use Rattle.fs_calls.specs.Outcomes.{next_start, called}
use Rattle.fs_calls.specs.declared.call.Call.{Call}
use Rattle.fs_calls.specs.declared.reply.Reply.{Reply}
use Rattle.fs_calls.specs.declared.reply.Reply.TheVariants as answer
use Rattle.fs_timeline.specs.Timeline.{is_commit, is_return, has_begun, has_committed, has_returned, begun_as, call_of, with_call, commits_of, commits, due, IsNext, IsAnswered, Each, IsLawful}
use Rattle.fs_timeline.specs.declared.entry.Entry.{Entry}
use Rattle.fs_timeline.specs.declared.entry.Entry.TheVariants.{Begin, Commit, Return}
use Rattle.fs_calls.specs.Replies.{same_reply}
use Rattle.fs_timeline.proofs.ReplyLemmas.{same_reply_exact, same_reply_refl}
use Rattle.fs_timeline.proofs.AppendLemmas.{BegunFirst, begun_first, committed_first, or_false, list_any-push, is_some-call_of, call_of-kept, commits-push, due-kept, next_start-push}
use Rattle.fs_timeline.proofs.TimelineLemmas.{append_nil, lawful_appended}
use Rattle.fs_linearizable.specs.Linearizable.{history}
use Rattle.fs_linearizable.proofs.LawfulLemmas.{history-append, has_returned-history}
use Rattle.fs_linearize_histories.specs.declared.heard.Heard.{Heard}
use Rattle.fs_linearize_histories.specs.declared.heard.Heard.TheVariants as heard
use Rattle.fs_linearize_histories.specs.declared.heard.Pattern.{Pattern}
use Rattle.fs_linearize_histories.specs.Heard.{Matches, IsHeardAs, AreHeardIn, entry_of, entries}
use Rattle.fs_linearize_histories.specs.Histories.{returned_as, recorded, Explains, ExplainsFront}

-- ---- a history has what its timeline has

pub call_of-history : (c : ℕ) (es : List Entry) → call_of c (history es) ≡ call_of c es
call_of-history c [] = refl
call_of-history c (Begin d seat call ∷ es) = ap (or_else (begun_as c (Begin d seat call))) (call_of-history c es)
call_of-history c (Commit d ∷ es) = call_of-history c es
call_of-history c (Return d r ∷ es) = call_of-history c es

pub recorded-append : (c : ℕ) (xs ys : List Heard) → recorded c (xs ++ ys) ≡ or_else (recorded c xs) (recorded c ys)
recorded-append c [] ys = refl
recorded-append c (x ∷ xs) ys = ap (or_else (returned_as c x)) (recorded-append c xs ys) ∙ or_else-assoc (returned_as c x) (recorded c xs) (recorded c ys)

pub is_some-returned_as : (c : ℕ) (x : Heard) → is_some (returned_as c x) ≡ is_return c (entry_of x)
is_some-returned_as c (heard.Begin d seat call) = refl
is_some-returned_as c (heard.Return d p) = elim (c == d) as (λ b. is_some (cond b (Some p) None) ≡ b) [ true ↦ refl | false ↦ refl ]

is_some-either : {F : Type 0} (a b : Option F) → is_some (or_else a b) ≡ (is_some a || is_some b)
is_some-either None b = refl
is_some-either (Some x) b = refl

-- something is recorded of the reply of a call exactly where it has returned
pub is_some_recorded : (c : ℕ) (h : List Heard) → is_some (recorded c h) ≡ has_returned c (entries h)
is_some_recorded c [] = refl
is_some_recorded c (x ∷ h) =
    is_some-either (returned_as c x) (recorded c h)
    ∙ ap (λ b. b || is_some (recorded c h)) (is_some-returned_as c x)
    ∙ ap (λ b. is_return c (entry_of x) || b) (is_some_recorded c h)

pub none_from : {F : Type 0} (o : Option F) → is_some o ≡ false → o ≡ None
none_from None h = refl
none_from (Some x) h = absurd (cc)

pub some_from : {F : Type 0} (o : Option F) → is_some o ≡ true → (x : F) × (o ≡ Some x)
some_from None h = absurd (cc)
some_from (Some x) h = (x, refl)

-- ---- one entry more

pub returned_of_other : (c : ℕ) (es : List Entry) (e : Entry) → is_return c e ≡ false → has_returned c (es ++ e ∷ []) ≡ has_returned c es
returned_of_other c es e h = list_any-push (is_return c) es e ∙ ap (λ b. has_returned c es || b) h ∙ or_false (has_returned c es)

pub committed_of_other : (c : ℕ) (es : List Entry) (e : Entry) → is_commit c e ≡ false → has_committed c (es ++ e ∷ []) ≡ has_committed c es
committed_of_other c es e h = list_any-push (is_commit c) es e ∙ ap (λ b. has_committed c es || b) h ∙ or_false (has_committed c es)

pub committed_still : (c : ℕ) (es : List Entry) (e : Entry) → has_committed c es ≡ true → has_committed c (es ++ e ∷ []) ≡ true
committed_still c es e h = list_any-push (is_commit c) es e ∙ or_left _ _ h

pub commits_of_none : (es : List Entry) (e : Entry) → BegunFirst es → ((whole : List Entry) → commits_of whole (e ∷ []) ≡ []) → commits (es ++ e ∷ []) ≡ commits es
commits_of_none es e begun none = commits-push es e begun ∙ ap (λ xs. commits es ++ xs) (none (es ++ e ∷ [])) ∙ append_nil (commits es)

pub played_commit : (start : Start) (es : List Entry) (c : ℕ) (call : Call) → BegunFirst es → call_of c es ≡ Some call → next_start start (commits (es ++ Commit c ∷ [])) ≡ called (next_start start (commits es)) call
played_commit start es c call first_begun is =
    let begun : has_begun c es ≡ true = sym (is_some-call_of c es) ∙ ap is_some is in
    ap (next_start start) (commits-push es (Commit c) first_begun ∙ ap (λ o. commits es ++ with_call o []) (call_of-kept c es (Commit c) begun ∙ is))
    ∙ next_start-push start (commits es) call

-- ---- entries with no replies

abbrev pub blank : Entry → Entry
blank (Begin c seat call) = Begin c seat call
blank (Commit c) = Commit c
blank (Return c r) = Return c answer.Done

abbrev pub blanks : List Entry → List Entry
blanks es = map blank es

pub call_of-blank : (c : ℕ) (es : List Entry) → call_of c (blanks es) ≡ call_of c es
call_of-blank c [] = refl
call_of-blank c (Begin d seat call ∷ es) = ap (or_else (begun_as c (Begin d seat call))) (call_of-blank c es)
call_of-blank c (Commit d ∷ es) = call_of-blank c es
call_of-blank c (Return d r ∷ es) = call_of-blank c es

pub has_returned-blank : (c : ℕ) (es : List Entry) → has_returned c (blanks es) ≡ has_returned c es
has_returned-blank c [] = refl
has_returned-blank c (Begin d seat call ∷ es) = has_returned-blank c es
has_returned-blank c (Commit d ∷ es) = has_returned-blank c es
has_returned-blank c (Return d r ∷ es) = ap (λ b. (c == d) || b) (has_returned-blank c es)

pub heard_entry : (e : Entry) (x : Heard) → IsHeardAs e x → entry_of x ≡ blank e
heard_entry (Begin c seat call) x is = ap entry_of is
heard_entry (Commit c) x is = absurd is
heard_entry (Return c r) x is = ap entry_of is.1

-- what has passed in the history, but for its replies
pub heard_front : (es : List Entry) (h : List Heard) → AreHeardIn es h → entries (take (length es) h) ≡ blanks es
heard_front [] h k = refl
heard_front (e ∷ es) [] k = absurd k
heard_front (e ∷ es) (x ∷ h) k = ap (λ y. y ∷ entries (take (length es) h)) (heard_entry e x k.0) ∙ ap (λ ys. blank e ∷ ys) (heard_front es h k.1)

-- ---- fronts

pub heard_prefix : (xs ys : List Entry) (h : List Heard) → AreHeardIn (xs ++ ys) h → AreHeardIn xs h
heard_prefix [] ys h k = tt
heard_prefix (e ∷ xs) ys [] k = absurd k
heard_prefix (e ∷ xs) ys (x ∷ h) k = (k.0, heard_prefix xs ys h k.1)

-- a front that is explained is so without the last entry
pub explained_before : (start : Start) (h : List Heard) (es : List Entry) (e : Entry) → ExplainsFront start h (es ++ e ∷ []) → ExplainsFront start h es
explained_before start h es e x =
    let lawful : IsLawful start es = ((lawful_appended start es e).0 x.lawful).0 in
    record {
      lawful = lawful;
      heard_as = heard_prefix (history es) (history (e ∷ [])) h (subst (λ (xs : List Entry). AreHeardIn xs h) (history-append es (e ∷ [])) x.heard_as);
      held_to = λ c r done is. x.held_to c r (committed_still c es e done) (due-kept start c es e (begun_first es lawful.well_formed) done ∙ is);
    }

-- the reply that an entry returns to the call of a number
abbrev pub replied_as : ℕ → Entry → Option Reply
replied_as c (Begin d seat call) = None
replied_as c (Commit d) = None
replied_as c (Return d r) = if c == d then Some r else None

-- the reply that a call has in a timeline, by its first Return
abbrev pub replied : ℕ → List Entry → Option Reply
replied c es = first_failure (map (replied_as c) es)

pub replied-append : (c : ℕ) (xs ys : List Entry) → replied c (xs ++ ys) ≡ or_else (replied c xs) (replied c ys)
replied-append c [] ys = refl
replied-append c (e ∷ xs) ys = ap (or_else (replied_as c e)) (replied-append c xs ys) ∙ or_else-assoc (replied_as c e) (replied c xs) (replied c ys)

replied-history : (c : ℕ) (es : List Entry) → replied c (history es) ≡ replied c es
replied-history c [] = refl
replied-history c (Begin d seat call ∷ es) = replied-history c es
replied-history c (Commit d ∷ es) = replied-history c es
replied-history c (Return d r ∷ es) = ap (or_else (replied_as c (Return d r))) (replied-history c es)

is_some-replied_as : (c : ℕ) (e : Entry) → is_some (replied_as c e) ≡ is_return c e
is_some-replied_as c (Begin d seat call) = refl
is_some-replied_as c (Commit d) = refl
is_some-replied_as c (Return d r) = elim (c == d) as (λ b. is_some (cond b (Some r) None) ≡ b) [ true ↦ refl | false ↦ refl ]

is_some_replied : (c : ℕ) (es : List Entry) → is_some (replied c es) ≡ has_returned c es
is_some_replied c [] = refl
is_some_replied c (e ∷ es) =
    is_some-either (replied_as c e) (replied c es)
    ∙ ap (λ b. b || is_some (replied c es)) (is_some-replied_as c e)
    ∙ ap (λ b. is_return c e || b) (is_some_replied c es)

returned_here : (c d : ℕ) (r s : Reply) → or_else (replied_as c (Return d s)) None ≡ Some r → (c ≡ d) × (s ≡ r)
returned_here c d r s h =
    elim (c == d) as (λ b. (c == d) ≡ b → or_else (cond b (Some s) None) None ≡ Some r → (c ≡ d) × (s ≡ r)) [
      | true ↦ λ same is. (eqb-true c d same, cc)
      | false ↦ λ apart is. absurd (cc)
    ] refl h

-- each reply is the one that is due
abbrev pub AnswersAll : Start → List Entry → Type 0
AnswersAll start es = (c : ℕ) (r : Reply) → replied c es ≡ Some r → due start c es ≡ Some r

one_answer : (start : Start) (es : List Entry) (e : Entry) → IsLawful start es → IsNext es e → IsAnswered start es e → (c : ℕ) (r : Reply) → replied c (e ∷ []) ≡ Some r → due start c (es ++ e ∷ []) ≡ Some r
one_answer start es (Begin d seat call) lawful next answered c r h = absurd (cc)
one_answer start es (Commit d) lawful next answered c r h = absurd (cc)
one_answer start es (Return d s) lawful next answered c r h =
    let here = returned_here c d r s h in
    let done : has_committed c es ≡ true = subst (λ n. has_committed n es ≡ true) (sym here.0) next.0 in
    due-kept start c es (Return d s) (begun_first es lawful.well_formed) done ∙ subst (λ n. due start n es ≡ Some s) (sym here.0) answered ∙ ap Some here.1

answers_push : (start : Start) (es : List Entry) (e : Entry) → IsLawful start es → IsNext es e → IsAnswered start es e → AnswersAll start es → AnswersAll start (es ++ e ∷ [])
answers_push start es e lawful next answered so_far c r is =
    elim (replied c es) as (λ o. replied c es ≡ o → or_else o (replied c (e ∷ [])) ≡ Some r → due start c (es ++ e ∷ []) ≡ Some r) [
      | None ↦ λ none one. one_answer start es e lawful next answered c r one
      | Some s ↦ λ some one.
          let returned : has_returned c es ≡ true = sym (is_some_replied c es) ∙ ap is_some some in
          due-kept start c es e (begun_first es lawful.well_formed) (committed_first es lawful.well_formed c returned) ∙ so_far c s some ∙ one
    ] refl (sym (replied-append c es (e ∷ [])) ∙ is)

answers_along : (start : Start) (before es : List Entry) → IsLawful start before → Each IsNext before es → Each (IsAnswered start) before es → AnswersAll start before → AnswersAll start (before ++ es)
answers_along start before [] lawful next answered so_far = subst (AnswersAll start) (sym (append_nil before)) so_far
answers_along start before (e ∷ es) lawful next answered so_far =
    subst (AnswersAll start) (append_assoc before (e ∷ []) es)
    (answers_along start (before ++ e ∷ []) es ((lawful_appended start before e).1 (lawful, next.0, answered.0)) next.1 answered.1 (answers_push start before e lawful next.0 answered.0 so_far))

lawful_empty : (start : Start) → IsLawful start []
lawful_empty start = record { well_formed = tt; replies = tt }

-- a reply that is told of in a history is one of what is heard as it, and matches
IsTold : ℕ → Option Reply → Option Pattern → Type 0
IsTold c o q = (p : Pattern) → q ≡ Some p → (r : Reply) × (o ≡ Some r) × Matches p r

told_one : (c : ℕ) (e : Entry) (x : Heard) → IsHeardAs e x → (o : Option Reply) (q : Option Pattern) → IsTold c o q → IsTold c (or_else (replied_as c e) o) (or_else (returned_as c x) q)
unfolding IsTold
told_one c (Begin d seat call) x is o q later = subst (λ (y : Heard). IsTold c o (or_else (returned_as c y) q)) (sym is) later
told_one c (Commit d) x is o q later = absurd is
told_one c (Return d r) x is o q later =
    subst (λ (y : Heard). IsTold c (or_else (replied_as c (Return d r)) o) (or_else (returned_as c y) q)) (sym is.1)
    (elim (c == d) as (λ b. IsTold c (or_else (cond b (Some r) None) o) (or_else (cond b (Some is.0) None) q)) [
      | true ↦ λ p same. (r, refl, let one : is.0 ≡ p = some_is is.0 p same in subst (λ (k : Pattern). Matches k r) one is.2)
      | false ↦ later
    ])
  where
    some_is : (a b : Pattern) → Some a ≡ Some b → a ≡ b
    some_is a b k = cc

told_all : (c : ℕ) (es : List Entry) (h : List Heard) → AreHeardIn es h → length es ≡ length h → IsTold c (replied c es) (recorded c h)
unfolding IsTold
told_all c [] [] k same = λ p no. absurd (cc)
told_all c [] (x ∷ h) k same = absurd (cc)
told_all c (e ∷ es) [] k same = absurd k
told_all c (e ∷ es) (x ∷ h) k same = told_one c e x k.0 (replied c es) (recorded c h) (told_all c es h k.1 (omega (arith, same)))

pub explained_front : (start : Start) (h : List Heard) (es : List Entry) → Explains start h es → ExplainsFront start h es
unfolding IsTold
explained_front start h es x =
    let answers = answers_along start [] es (lawful_empty start) x.lawful.well_formed x.lawful.replies (λ c r no. absurd (cc)) in
    record {
      lawful = x.lawful;
      heard_as = x.heard_as;
      held_to = λ c r done is p told.
          let found = told_all c (history es) h x.heard_as x.whole p told in
          let both : Some r ≡ Some found.0 = sym is ∙ answers c found.0 (sym (replied-history c es) ∙ found.1) in
          let same : found.0 ≡ r = cc in
          subst (Matches p) same found.2;
    }

-- what has passed in the history, but for its replies
pub passed_front : (start : Start) (h : List Heard) (es : List Entry) (n : ℕ) → ExplainsFront start h es → n ≡ length (history es) → entries (take n h) ≡ blanks (history es)
passed_front start h es n x at = ap (λ k. entries (take k h)) at ∙ heard_front (history es) h x.heard_as

pub passed_call : (start : Start) (h : List Heard) (es : List Entry) (n c : ℕ) → ExplainsFront start h es → n ≡ length (history es) → call_of c (entries (take n h)) ≡ call_of c es
passed_call start h es n c x at = ap (call_of c) (passed_front start h es n x at) ∙ call_of-blank c (history es) ∙ call_of-history c es

pub passed_return : (start : Start) (h : List Heard) (es : List Entry) (n c : ℕ) → ExplainsFront start h es → n ≡ length (history es) → has_returned c (entries (take n h)) ≡ has_returned c es
passed_return start h es n c x at = ap (has_returned c) (passed_front start h es n x at) ∙ has_returned-blank c (history es) ∙ has_returned-history c es

-- ---- for the code

pub take_step : {A : Type 0} (es : List A) (i : ℕ) (e : A) → i < length es → e ≡ get_or es i e → take (i + 1) es ≡ take i es ++ e ∷ []
take_step es i e h is = take_more es i e h ∙ ap (λ x. take i es ++ x ∷ []) (sym is)

pub same_exact : (a b : Reply) (t : Bool) → t ≡ same_reply a b → (t ≡ true → a ≡ b) × (a ≡ b → t ≡ true)
same_exact a b t test = (λ h. same_reply_exact a b (sym test ∙ h), λ h. test ∙ subst (λ (k : Reply). same_reply a k ≡ true) h (same_reply_refl a))

pub is_some_copied : {A : Type 0} (o : Option (Bor A)) → is_some (option_copied o) ≡ is_some o
is_some_copied None = refl
is_some_copied (Some x) = refl
