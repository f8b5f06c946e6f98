-- How the journal of a history is told.
use Rattle.std.proofs.Common.{◌≡◌, ℕ, suc, ◌<◌, ◌≤◌, ⊎_elim, ◌+◌, true, false, ◌==◌, List, [], ◌∷◌, ◌++◌, length, take, drop, get_or, reverse, Option, Some, None, refl, sym, ap, ◌∙◌, subst, arith, append_assoc}
use Rattle.std.specs.Prelude.{Contains, IfSome}
use Rattle.std.proofs.lemmas.List.{take_more, take-append-drop, drop_all, reverse-append, reverse-reverse}
use Rattle.std.proofs.lemmas.List.Elements.{Contains-push_cases}
use Rattle.std.proofs.Math.Seq.{drop-cons}
use Rattle.std.proofs.lemmas.Bool.{eqb-true, eqb-false, eq-eqb, ne_eqb, cases_Bool, or_right}
use Rattle.fs_calls.specs.Starts.{Start}
use Rattle.fs_calls.specs.Outcomes.{next_start, reply_at, called}
use Rattle.fs_calls.specs.declared.call.Call.{Call}
use Rattle.fs_calls.specs.declared.reply.Reply.{Reply}
use Rattle.fs_timeline.specs.Timeline.{is_commit, has_committed, call_of, commits_of, commits, with_call, reply_after, due, IsNext, Each, IsAnswered, IsWellFormed, IsLawful}
use Rattle.fs_timeline.specs.declared.entry.Entry.{Entry}
use Rattle.fs_timeline.specs.declared.entry.Entry.TheVariants.{Begin, Commit, Return}
use Rattle.fs_timeline.proofs.AppendLemmas.{begun_first, is_some-call_of, list_any-push, due-kept, due-first}
use Rattle.fs_timeline.proofs.TimelineLemmas.{append_nil, lawful_appended, well_formed_appended}
use Rattle.fs_linearizable.proofs.LawfulLemmas.{none_there}
use Rattle.fs_linearize_histories.specs.declared.heard.Heard.{Heard}
use Rattle.fs_linearize_histories.specs.declared.heard.Heard.TheVariants as heard
use Rattle.fs_linearize_histories.specs.declared.heard.Pattern.{Pattern}
use Rattle.fs_linearize_histories.specs.declared.heard.Pattern.TheVariants.{Exactly}
use Rattle.fs_linearize_histories.specs.Heard.{IsHeardAs, Matches}
use Rattle.fs_linearize_histories.proofs.HistoryLemmas.{some_from, committed_still, committed_of_other, commits_of_none, played_commit}
use Rattle.fs_linearize_configurations.specs.code.Ways.{GoesBy}
use Rattle.fs_linearize.specs.code.Tellings.{IsPlayed, PlaysOn, IsFilledIn, IsEntryFor, IsDueTo, AreDue, IsKept, PlaysNext, IsTold, TellsOn}
use Rattle.fs_linearize.specs.declared.telling.Kept.{Kept}
use Rattle.fs_linearize.specs.declared.telling.Played.{Played}
use Rattle.fs_linearize.specs.declared.telling.Telling.{Telling}
use Rattle.fs_linearize_configurations.specs.declared.steps.Step.{Step}
use Rattle.fs_linearize_configurations.specs.declared.steps.Step.TheVariants.{Passes, Commits}

-- ---- replies that are due

still_played : (start : Start) (c : ℕ) (before : List Entry) (e : Entry) (p : Played) → IsWellFormed before → ((d : ℕ) → is_commit d e ≡ false) → ((whole : List Entry) → commits_of whole (e ∷ []) ≡ []) → IsPlayed start c before p → IsPlayed start c (before ++ e ∷ []) p
still_played start c before e p well other none so =
    let begun = begun_first before well in
    record {
      tree = so.tree ∙ sym (ap (next_start start) (commits_of_none before e begun none));
      due_to = λ done. let was : has_committed c before ≡ true = sym (committed_of_other c before e (other c)) ∙ done in so.due_to was ∙ sym (due-kept start c before e begun was);
    }

pub plays_other : (c : ℕ) (before : List Entry) (e : Entry) (p : Played) → ((d : ℕ) → e ≡ Commit d → ⊥) → PlaysOn c before e p p
plays_other c before (Begin d seat call) p other start well so = still_played start c before (Begin d seat call) p ((well_formed_appended before (Begin d seat call)).0 well).0 (λ n. refl) (λ whole. refl) so
plays_other c before (Commit d) p other start well so = absurd (other d refl)
plays_other c before (Return d r) p other start well so = still_played start c before (Return d r) p ((well_formed_appended before (Return d r)).0 well).0 (λ n. refl) (λ whole. refl) so

pub plays_commit : (c d : ℕ) (before : List Entry) (old new : Played) (reply : Option Reply) → reply ≡ reply_after old.tree [] (call_of d before) → new.tree ≡ next_start old.tree (with_call (call_of d before) [])
    → ((d == c) ≡ true → new.due ≡ reply) → ((d == c) ≡ false → new.due ≡ old.due) → PlaysOn c before (Commit d) old new
plays_commit c d before old new reply replied grown mine others start well so =
    let parts = (well_formed_appended before (Commit d)).0 well in
    let begun = begun_first before parts.0 in
    let found = some_from (call_of d before) (is_some-call_of d before ∙ parts.1.0) in
    record {
      tree = grown ∙ ap (λ o. next_start old.tree (with_call o [])) found.1 ∙ ap (λ t. called t found.0) so.tree ∙ sym (played_commit start before d found.0 begun found.1);
      due_to = λ done. ⊎_elim
          (λ same.
          let number = eqb-true d c same in
          mine same ∙ replied ∙ ap (reply_after old.tree []) found.1 ∙ ap (λ t. Some (reply_at t found.0)) so.tree
          ∙ sym (subst (λ n. due start n (before ++ Commit d ∷ []) ≡ Some (reply_at (next_start start (commits before)) found.0)) number
          (due-first start d before parts.1.0 parts.1.1 ∙ ap (reply_after start (commits before)) found.1)))
          (λ apart.
          let was : has_committed c before ≡ true = sym (committed_of_other c before (Commit d) (ne_eqb c d (λ same. eqb-false d c apart (sym same)))) ∙ done in
          others apart ∙ so.due_to was ∙ sym (due-kept start c before (Commit d) begun was))
          (cases_Bool (d == c));
    }

pub played_none : (start : Start) (c : ℕ) (p : Played) → p.tree ≡ start → IsPlayed start c [] p
played_none start c p is = record { tree = is; due_to = λ done. absurd (cc) }

pub each_front : (P : List Entry → Entry → Type 0) (before xs ys : List Entry) → Each P before (xs ++ ys) → Each P before xs
each_front P before [] ys k = tt
each_front P before (x ∷ xs) ys k = (k.0, each_front P (before ++ x ∷ []) xs ys k.1)

well_formed_take : (es : List Entry) (i : ℕ) → IsWellFormed es → IsWellFormed (take i es)
well_formed_take es i well = each_front IsNext [] (take i es) (drop i es) (subst IsWellFormed (sym (take-append-drop i es)) well)

pub plays_one_more : (start : Start) (c : ℕ) (es : List Entry) (i : ℕ) (e : Entry) (old new : Played) → i < length es → e ≡ get_or es i e → PlaysOn c (take i es) e old new → (IsWellFormed es → IsPlayed start c (take i es) old) → IsWellFormed es → IsPlayed start c (take (i + 1) es) new
plays_one_more start c es i e old new small is on so well =
    let pushed : take (i + 1) es ≡ take i es ++ e ∷ [] = take_more es i e small ∙ ap (λ y. take i es ++ y ∷ []) (sym is) in
    subst (λ (xs : List Entry). IsPlayed start c xs new) (sym pushed) (on start (subst IsWellFormed pushed (well_formed_take es (i + 1) well)) (so well))

-- ---- entries

pub exactly_filled : (start : Start) (es : List Entry) (c : ℕ) (r : Reply) → IsFilledIn start es c (Exactly r) r
exactly_filled start es c r s well done is matches = sym matches

pub due_filled : (start : Start) (es : List Entry) (c : ℕ) (p : Pattern) (r : Reply) (o : Option Reply) → (IsWellFormed es → has_committed c es ≡ true → o ≡ due start c es) → o ≡ Some r → IsFilledIn start es c p r
due_filled start es c p r o told some s well done is matches = let both : Some r ≡ Some s = sym some ∙ told well done ∙ is in cc

pub none_filled : (start : Start) (es : List Entry) (c : ℕ) (p : Pattern) (r : Reply) (o : Option Reply) → (IsWellFormed es → has_committed c es ≡ true → o ≡ due start c es) → o ≡ None → IsFilledIn start es c p r
none_filled start es c p r o told none s well done is matches = let both : None ≡ Some s = sym none ∙ told well done ∙ is in absurd (cc)

pub begin_for : (start : Start) (before : List Entry) (c seat : ℕ) (call : Call) → IsEntryFor start before (heard.Begin c seat call) (Begin c seat call)
begin_for start before c seat call (Begin d s k) lawful is = cc
begin_for start before c seat call (Commit d) lawful is = absurd is
begin_for start before c seat call (Return d r) lawful is = let never = is.1 in absurd (cc)

returns_same : (c d : ℕ) (p q : Pattern) → heard.Return c p ≡ heard.Return d q → (c ≡ d) × (p ≡ q)
returns_same c d p q k = (cc, cc)

pub return_for : (start : Start) (before : List Entry) (c : ℕ) (p : Pattern) (r : Reply) → IsFilledIn start before c p r → IsEntryFor start before (heard.Return c p) (Return c r)
return_for start before c p r filled (Begin d s k) lawful is = absurd (cc)
return_for start before c p r filled (Commit d) lawful is = absurd is
return_for start before c p r filled (Return d s) lawful is =
    let parts = (lawful_appended start before (Return d s)).0 lawful in
    let same = returns_same c d p is.0 is.1 in
    let here : r ≡ s = filled s parts.0.well_formed (subst (λ n. has_committed n before ≡ true) (sym same.0) parts.1.0) (subst (λ n. due start n before ≡ Some s) (sym same.0) parts.2) (subst (λ (q : Pattern). Matches q s) (sym same.1) is.2) in
    ap (Return c) here ∙ ap (λ n. Return n s) same.0

-- ---- steps

lawful_front : (start : Start) (xs ys : List Entry) → IsLawful start (xs ++ ys) → IsLawful start xs
lawful_front start xs ys l = record { well_formed = each_front IsNext [] xs ys l.well_formed; replies = each_front (IsAnswered start) [] xs ys l.replies }

-- ---- replies that are kept

kept_still : (start : Start) (es : List Entry) (e : Entry) (one : Kept) → IsWellFormed (es ++ e ∷ []) → IsDueTo start es one → IsDueTo start (es ++ e ∷ []) one
kept_still start es e one well is =
    let begun = begun_first es ((well_formed_appended es e).0 well).0 in
    (committed_still one.number es e is.0, due-kept start one.number es e begun is.0 ∙ is.1)

plays_nothing : (e : Entry) → ((d : ℕ) → e ≡ Commit d → ⊥) → (whole : List Entry) → commits_of whole (e ∷ []) ≡ []
plays_nothing (Begin d seat call) other whole = refl
plays_nothing (Commit d) other whole = absurd (other d refl)
plays_nothing (Return d r) other whole = refl

keeps_passing : (start : Start) (es : List Entry) (e : Entry) (tree : Start) (old new : List Kept) → ((d : ℕ) → e ≡ Commit d → ⊥) → IsWellFormed (es ++ e ∷ []) → ((one : Kept) → Contains new one → Contains old one)
    → IsKept start es tree old → IsKept start (es ++ e ∷ []) tree new
keeps_passing start es e tree old new other well fewer so = record {
  grown = so.grown ∙ sym (ap (next_start start) (commits_of_none es e (begun_first es ((well_formed_appended es e).0 well).0) (plays_nothing e other)));
  each = λ one there. kept_still start es e one well (so.each one (fewer one there));
}

pub keeps_commit : (c : ℕ) (es : List Entry) (tree grown : Start) (old : List Kept) (o : Option Call) (reply : Reply) → (IsWellFormed es → o ≡ call_of c es) → Some reply ≡ reply_after tree [] o → grown ≡ next_start tree (with_call o [])
    → PlaysNext c es tree old grown (old ++ record { number = c; reply = reply } ∷ [])
keeps_commit c es tree grown old o reply called_is replied grew start well so =
    let parts = (well_formed_appended es (Commit c)).0 well in
    let begun = begun_first es parts.0 in
    let found = some_from (call_of c es) (is_some-call_of c es ∙ parts.1.0) in
    let is : o ≡ Some found.0 = called_is parts.0 ∙ found.1 in
    let new : Kept = record { number = c; reply = reply } in
    let here : IsDueTo start (es ++ Commit c ∷ []) new = (
      list_any-push (is_commit c) es (Commit c) ∙ or_right _ _ (eq-eqb c c refl),
      due-first start c es parts.1.0 parts.1.1 ∙ ap (reply_after start (commits es)) found.1 ∙ sym (replied ∙ ap (reply_after tree []) is ∙ ap (λ t. Some (reply_at t found.0)) so.grown),
    ) in
    record {
      grown = grew ∙ ap (λ p. next_start tree (with_call p [])) is ∙ ap (λ t. called t found.0) so.grown ∙ sym (played_commit start es c found.0 begun found.1);
      each = λ one there. ⊎_elim
          (λ was. kept_still start es (Commit c) one well (so.each one was))
          (λ same. subst (IsDueTo start (es ++ Commit c ∷ [])) same here)
          (Contains-push_cases old new one there);
    }

-- a call that commits has a reply
pub keeps_nothing : (c : ℕ) (es : List Entry) (tree grown : Start) (old : List Kept) (o : Option Call) (reply : Option Reply) → (IsWellFormed es → o ≡ call_of c es) → reply ≡ reply_after tree [] o → ((r : Reply) → reply ≡ Some r → ⊥) → PlaysNext c es tree old grown old
keeps_nothing c es tree grown old o reply called_is replied none start well so =
    let parts = (well_formed_appended es (Commit c)).0 well in
    let found = some_from (call_of c es) (is_some-call_of c es ∙ parts.1.0) in
    absurd (none (reply_at tree found.0) (replied ∙ ap (reply_after tree []) (called_is parts.0 ∙ found.1)))

-- what is kept for a call is due
pub some_due : (start : Start) (es : List Entry) (kept : List Kept) (o : Option Kept) → IfSome o (λ one. Contains kept one) → AreDue start es kept → IfSome o (IsDueTo start es)
some_due start es kept None there due_each = tt
some_due start es kept (Some one) there due_each = due_each one there

pub kept_filled : (start : Start) (es : List Entry) (c : ℕ) (p : Pattern) (one : Kept) → one.number ≡ c → IsDueTo start es one → IsFilledIn start es c p one.reply
kept_filled start es c p one same is s well done due_is matches =
    let both : Some one.reply ≡ Some s = sym is.1 ∙ ap (λ n. due start n es) same ∙ due_is in
    cc

-- ---- steps

commit_on : (start : Start) (old new : Telling) (c : ℕ) (steps : List Step) (es : List Entry) → IsLawful start es → new.journal.items ≡ old.journal.items ++ Commit c ∷ [] → new.rest.items ≡ old.rest.items → PlaysNext c old.journal.items old.tree old.kept.items new.tree new.kept.items
    → (later : List Entry) → es ≡ old.journal.items ++ later → GoesBy (reverse old.rest.items) (Commits c ∷ steps) later → IsKept start old.journal.items old.tree old.kept.items → IsTold start steps es new
commit_on start old new c steps es lawful pushed same plays [] is goes kept = absurd goes
commit_on start old new c steps es lawful pushed same plays (e ∷ later) is goes kept =
    let whole : es ≡ (old.journal.items ++ Commit c ∷ []) ++ later = is ∙ ap (λ y. old.journal.items ++ y ∷ later) goes.0 ∙ sym (append_assoc old.journal.items (Commit c ∷ []) later) in
    let well = (lawful_front start (old.journal.items ++ Commit c ∷ []) later (subst (IsLawful start) whole lawful)).well_formed in
    record {
      later = later;
      whole = whole ∙ ap (λ xs. xs ++ later) (sym pushed);
      goes = subst (λ (xs : List Heard). GoesBy (reverse xs) steps later) (sym same) goes.1;
      kept = subst (λ (xs : List Entry). IsKept start xs new.tree new.kept.items) (sym pushed) (plays start well kept);
    }

pub tells_commit : (old new : Telling) (c : ℕ) → new.journal.items ≡ old.journal.items ++ Commit c ∷ [] → new.rest.items ≡ old.rest.items → PlaysNext c old.journal.items old.tree old.kept.items new.tree new.kept.items → (start : Start) → TellsOn start old (Commits c) new
tells_commit old new c pushed same plays start steps es lawful t = commit_on start old new c steps es lawful pushed same plays t.later t.whole t.goes t.kept

heard_no_commit : (f : Entry) (x : Heard) → IsHeardAs f x → (d : ℕ) → f ≡ Commit d → ⊥
heard_no_commit (Begin c seat call) x is d e = absurd (cc)
heard_no_commit (Commit c) x is d e = is
heard_no_commit (Return c r) x is d e = absurd (cc)

pass_on : (start : Start) (old new : Telling) (x : Heard) (e : Entry) (steps : List Step) (es : List Entry) → IsLawful start es → IsEntryFor start old.journal.items x e → new.journal.items ≡ old.journal.items ++ e ∷ []
    → new.tree ≡ old.tree → ((one : Kept) → Contains new.kept.items one → Contains old.kept.items one)
    → (later : List Entry) → es ≡ old.journal.items ++ later → GoesBy (x ∷ reverse new.rest.items) (Passes ∷ steps) later → IsKept start old.journal.items old.tree old.kept.items → IsTold start steps es new
pass_on start old new x e steps es lawful for_it pushed tree fewer [] is goes kept = absurd goes
pass_on start old new x e steps es lawful for_it pushed tree fewer (f ∷ later) is goes kept =
    let apart : es ≡ (old.journal.items ++ f ∷ []) ++ later = is ∙ sym (append_assoc old.journal.items (f ∷ []) later) in
    let front = lawful_front start (old.journal.items ++ f ∷ []) later (subst (IsLawful start) apart lawful) in
    let same : e ≡ f = for_it f front goes.0 in
    let now : new.journal.items ≡ old.journal.items ++ f ∷ [] = pushed ∙ ap (λ y. old.journal.items ++ y ∷ []) same in
    record {
      later = later;
      whole = apart ∙ ap (λ xs. xs ++ later) (sym now);
      goes = goes.1;
      kept = subst (λ (xs : List Entry). IsKept start xs new.tree new.kept.items) (sym now)
          (subst (λ (t : Start). IsKept start (old.journal.items ++ f ∷ []) t new.kept.items) (sym tree)
          (keeps_passing start old.journal.items f old.tree old.kept.items new.kept.items (heard_no_commit f x goes.0) front.well_formed fewer kept));
    }

pub tells_pass : (start : Start) (old new : Telling) (x : Heard) (e : Entry) → old.rest.items ≡ new.rest.items ++ x ∷ [] → (AreDue start old.journal.items old.kept.items → IsEntryFor start old.journal.items x e) → new.journal.items ≡ old.journal.items ++ e ∷ []
    → new.tree ≡ old.tree → ((one : Kept) → Contains new.kept.items one → Contains old.kept.items one) → TellsOn start old Passes new
tells_pass start old new x e popped for_it pushed tree fewer steps es lawful t =
    let back : reverse old.rest.items ≡ x ∷ reverse new.rest.items = ap reverse popped ∙ reverse-append new.rest.items (x ∷ []) in
    pass_on start old new x e steps es lawful (for_it t.kept.each) pushed tree fewer t.later t.whole (subst (λ (xs : List Heard). GoesBy xs (Passes ∷ steps) t.later) back t.goes) t.kept

no_more : (steps : List Step) (later : List Entry) → GoesBy [] (Passes ∷ steps) later → ⊥
no_more steps [] goes = goes
no_more steps (e ∷ later) goes = goes

pub tells_end : (start : Start) (t new : Telling) → t.rest.items ≡ [] → TellsOn start t Passes new
tells_end start t new none steps es lawful so = absurd (no_more steps so.later (subst (λ (xs : List Heard). GoesBy (reverse xs) (Passes ∷ steps) so.later) none so.goes))

-- what is told of a history by the first steps
abbrev pub TellsAlong : Start → List Heard → List Step → ℕ → Telling → Type 0
TellsAlong start h steps i t = (es : List Entry) → IsLawful start es → GoesBy h steps es → IsTold start (drop i steps) es t

none_kept : (start : Start) (es : List Entry) (kept : List Kept) → kept ≡ [] → AreDue start es kept
none_kept start es kept none one there = absurd (none_there one (subst (λ (xs : List Kept). Contains xs one) none there))

pub tells_none : (start : Start) (h : List Heard) (steps : List Step) (t : Telling) → t.journal.items ≡ [] → t.rest.items ≡ reverse h → t.tree ≡ start → t.kept.items ≡ [] → TellsAlong start h steps 0 t
tells_none start h steps t none back tree empty es lawful goes = record {
  later = es;
  whole = ap (λ xs. xs ++ es) (sym none);
  goes = subst (λ (xs : List Heard). GoesBy xs steps es) (sym (ap reverse back ∙ reverse-reverse h)) goes;
  kept = record { grown = tree ∙ sym (ap (λ xs. next_start start (commits xs)) none); each = none_kept start t.journal.items t.kept.items empty };
}

drop_more : (steps : List Step) (i : ℕ) (s : Step) → i < length steps → s ≡ get_or steps i s → drop i steps ≡ s ∷ drop (i + 1) steps
drop_more steps i s small is = let next : suc i ≡ i + 1 = omega arith in drop-cons steps i s small ∙ ap (λ y. y ∷ drop (suc i) steps) (sym is) ∙ ap (λ n. s ∷ drop n steps) next

pub tells_one_more : (start : Start) (h : List Heard) (steps : List Step) (i : ℕ) (s : Step) (old new : Telling) → i < length steps → s ≡ get_or steps i s → TellsOn start old s new → TellsAlong start h steps i old → TellsAlong start h steps (i + 1) new
tells_one_more start h steps i s old new small is on so es lawful goes =
    on (drop (i + 1) steps) es lawful (subst (λ (ss : List Step). IsTold start ss es old) (drop_more steps i s small is) (so es lawful goes))

pub told_all : (start : Start) (h : List Heard) (steps : List Step) (i : ℕ) (t : Telling) → length steps ≤ i → TellsAlong start h steps i t → (es : List Entry) → IsLawful start es → GoesBy h steps es → t.journal.items ≡ es
told_all start h steps i t past so es lawful goes =
    let told = subst (λ (ss : List Step). IsTold start ss es t) (drop_all i steps past) (so es lawful goes) in
    sym (told.whole ∙ ap (λ xs. t.journal.items ++ xs) told.goes ∙ append_nil t.journal.items)
