-- The reply of a call on the way of steps.
use Rattle.std.proofs.Common.{◌≡◌, ℕ, zero, suc, ◌+◌, ◌<◌, ◌≤◌, true, false, ◌==◌, List, [], ◌∷◌, ◌++◌, length, take, get_or, Option, refl, sym, ap, ◌∙◌, subst, append_assoc, arith}
use Rattle.std.proofs.lemmas.List.{take_all}
use Rattle.std.proofs.lemmas.Option.{slice_get-get_or, get_or_from_slice_get}
use Rattle.fs_names.specs.Failures.{or_else}
use Rattle.fs_calls.specs.Starts.{Start}
use Rattle.fs_calls.specs.Outcomes.{next_start}
use Rattle.fs_calls.specs.declared.reply.Reply.{Reply}
use Rattle.fs_timeline.specs.Timeline.{call_of, with_call, reply_after, has_committed, due, IsNext, Each, IsWellFormed}
use Rattle.fs_timeline.specs.declared.entry.Entry.{Entry}
use Rattle.fs_timeline.specs.declared.entry.Entry.TheVariants.{Begin, Commit, Return}
use Rattle.fs_timeline.proofs.AppendLemmas.{is_some-call_of}
use Rattle.fs_timeline.proofs.TimelineLemmas.{well_formed_appended}
use Rattle.fs_linearize_histories.specs.declared.heard.Heard.{Heard}
use Rattle.fs_linearize_histories.specs.Heard.{IsHeardAs, entries}
use Rattle.fs_linearize_histories.specs.Histories.{Explains}
use Rattle.fs_linearize_histories.proofs.HistoryLemmas.{some_from, explained_front, passed_call}
use Rattle.fs_linearize_configurations.specs.code.Ways.{GoesBy}
use Rattle.fs_linearize.specs.code.Tellings.{IsPlayed, IsOfStep, PlaysStep}
use Rattle.fs_linearize.specs.declared.telling.Played.{Played}
use Rattle.fs_linearize_configurations.specs.declared.steps.Step.{Step}
use Rattle.fs_linearize_configurations.specs.declared.steps.Step.TheVariants.{Passes, Commits}
use Rattle.fs_linearize.proofs.BeginLemmas.{call_append}
use Rattle.fs_linearize.proofs.TellingLemmas.{each_front, plays_other, plays_commit}

-- ---- the call that commits

well_here : (start : Start) (h : List Heard) (before later : List Entry) (e : Entry) → Explains start h (before ++ e ∷ later) → IsWellFormed (before ++ e ∷ [])
well_here start h before later e x = each_front IsNext [] (before ++ e ∷ []) later (subst (Each IsNext []) (sym (append_assoc before (e ∷ []) later)) x.lawful.well_formed)

-- the history has begun the call that commits next as what is before it has
committed_call : (start : Start) (h : List Heard) (before later : List Entry) (d : ℕ) → Explains start h (before ++ Commit d ∷ later) → call_of d (entries h) ≡ call_of d before
committed_call start h before later d x =
    let es = before ++ Commit d ∷ later in
    let front = explained_front start h es x in
    let whole : take (length h) h ≡ h = take_all (length h) h (omega arith) in
    let passed : call_of d (entries h) ≡ call_of d es = sym (ap (λ (k : List Heard). call_of d (entries k)) whole) ∙ passed_call start h es (length h) d front (sym x.whole) in
    let parts = (well_formed_appended before (Commit d)).0 (well_here start h before later (Commit d) x) in
    let found = some_from (call_of d before) (is_some-call_of d before ∙ parts.1.0) in
    passed ∙ call_append d before (Commit d ∷ later) ∙ ap (λ o. or_else o (call_of d (Commit d ∷ later))) found.1 ∙ sym found.1

-- ---- one step more

pub plays_not_commit : (c : ℕ) (h : List Heard) (s : Step) (p : Played) → ((d : ℕ) → s ≡ Commits d → ⊥) → PlaysStep c h s p p
plays_not_commit c h Passes p other start before later e x is so = plays_other c before e p is start (well_here start h before later e x) so
plays_not_commit c h (Commits d) p other start before later e x is so = absurd (other d refl)

pub plays_commit_of : (c d : ℕ) (h : List Heard) (old new : Played) (reply : Option Reply) → reply ≡ reply_after old.tree [] (call_of d (entries h)) → new.tree ≡ next_start old.tree (with_call (call_of d (entries h)) [])
    → ((d == c) ≡ true → new.due ≡ reply) → ((d == c) ≡ false → new.due ≡ old.due) → PlaysStep c h (Commits d) old new
plays_commit_of c d h old new reply replied grown mine others start before later e x is so =
    let y = subst (λ (f : Entry). Explains start h (before ++ f ∷ later)) is x in
    let same : call_of d (entries h) ≡ call_of d before = committed_call start h before later d y in
    subst (λ (f : Entry). IsPlayed start c (before ++ f ∷ []) new) (sym is)
    (plays_commit c d before old new reply (replied ∙ ap (reply_after old.tree []) same) (grown ∙ ap (λ o. next_start old.tree (with_call o [])) same) mine others start (well_here start h before later (Commit d) y) so)

-- ---- all steps

no_commit : (e : Entry) (x : Heard) → IsHeardAs e x → (d : ℕ) → e ≡ Commit d → ⊥
no_commit (Begin c seat call) x is d same = absurd (cc)
no_commit (Commit c) x is d same = absurd is
no_commit (Return c r) x is d same = absurd (cc)

-- the entry of a step
record Here (es : List Entry) (i : ℕ) (s : Step) : Type 0 where
  pub entry : Entry
  pub later : List Entry
  pub whole : es ≡ take i es ++ entry ∷ later
  pub more : take (suc i) es ≡ take i es ++ entry ∷ []
  pub of_step : IsOfStep s entry

goes_at : (h : List Heard) (steps : List Step) (es : List Entry) (i : ℕ) (s : Step) → GoesBy h steps es → i < length steps → s ≡ get_or steps i s → Here es i s
goes_at h [] es i s goes small is = absurd (omega (arith, small))
goes_at h (Passes ∷ ss) [] i s goes small is = absurd goes
goes_at [] (Passes ∷ ss) (e ∷ es) i s goes small is = absurd goes
goes_at (x ∷ h) (Passes ∷ ss) (e ∷ es) zero s goes small is = record { entry = e; later = es; whole = refl; more = refl; of_step = subst (λ (t : Step). IsOfStep t e) (sym is) (no_commit e x goes.0) }
goes_at (x ∷ h) (Passes ∷ ss) (e ∷ es) (suc i) s goes small is =
    let rest = goes_at h ss es i s goes.1 (omega (arith, small)) is in
    record { entry = rest.entry; later = rest.later; whole = ap (λ xs. e ∷ xs) rest.whole; more = ap (λ xs. e ∷ xs) rest.more; of_step = rest.of_step }
goes_at h (Commits d ∷ ss) [] i s goes small is = absurd goes
goes_at h (Commits d ∷ ss) (e ∷ es) zero s goes small is = record { entry = e; later = es; whole = refl; more = refl; of_step = subst (λ (t : Step). IsOfStep t e) (sym is) goes.0 }
goes_at h (Commits d ∷ ss) (e ∷ es) (suc i) s goes small is =
    let rest = goes_at h ss es i s goes.1 (omega (arith, small)) is in
    record { entry = rest.entry; later = rest.later; whole = ap (λ xs. e ∷ xs) rest.whole; more = ap (λ xs. e ∷ xs) rest.more; of_step = rest.of_step }

goes_long : (h : List Heard) (steps : List Step) (es : List Entry) → GoesBy h steps es → length es ≡ length steps
goes_long h [] es goes = ap length goes
goes_long h (Passes ∷ ss) [] goes = absurd goes
goes_long [] (Passes ∷ ss) (e ∷ es) goes = absurd goes
goes_long (x ∷ h) (Passes ∷ ss) (e ∷ es) goes = ap suc (goes_long h ss es goes.1)
goes_long h (Commits d ∷ ss) [] goes = absurd goes
goes_long h (Commits d ∷ ss) (e ∷ es) goes = ap suc (goes_long h ss es goes.1)

-- what is played by the first steps
abbrev pub PlaysAlong : Start → List Heard → List Step → ℕ → ℕ → Played → Type 0
PlaysAlong start h steps c i p = (es : List Entry) → Explains start h es → GoesBy h steps es → IsPlayed start c (take i es) p

plays_one_step : (start : Start) (h : List Heard) (steps : List Step) (c i : ℕ) (s : Step) (old new : Played) → i < length steps → s ≡ get_or steps i s → PlaysStep c h s old new → PlaysAlong start h steps c i old → PlaysAlong start h steps c (i + 1) new
plays_one_step start h steps c i s old new small is on so es x goes =
    let here = goes_at h steps es i s goes small is in
    let next : i + 1 ≡ suc i = omega arith in
    subst (λ (xs : List Entry). IsPlayed start c xs new) (sym (ap (λ n. take n es) next ∙ here.more))
    (on start (take i es) here.later here.entry (subst (Explains start h) here.whole x) here.of_step (so es x goes))

pub plays_step_at : (start : Start) (h : List Heard) (steps : List Step) (c i : ℕ) (d : Step) (old new : Played) → i < length steps → PlaysStep c h (get_or steps i d) old new → PlaysAlong start h steps c i old → PlaysAlong start h steps c (i + 1) new
plays_step_at start h steps c i d old new small on so =
    let s = get_or steps i d in
    plays_one_step start h steps c i s old new small (sym (get_or_from_slice_get steps i s s (slice_get-get_or steps i d small))) on so

pub played_due : (start : Start) (h : List Heard) (steps : List Step) (c i : ℕ) (p : Played) → length steps ≤ i → PlaysAlong start h steps c i p → (es : List Entry) → Explains start h es → GoesBy h steps es → has_committed c es ≡ true → p.due ≡ due start c es
played_due start h steps c i p past so es x goes done =
    let long = goes_long h steps es goes in
    let whole : take i es ≡ es = take_all i es (omega (arith, long, past)) in
    (subst (λ (xs : List Entry). IsPlayed start c xs p) whole (so es x goes)).due_to done
