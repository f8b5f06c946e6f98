-- What the words on timelines say once one more entry is appended.
use Rattle.std.proofs.Common.{◌≡◌, ℕ, Bool, true, false, ◌||◌, ◌==◌, cond, List, [], ◌∷◌, ◌++◌, Option, Some, None, is_some, refl, sym, ap, ◌∙◌, subst, ⊎_elim, append_assoc}
use Rattle.std.specs.List.{list_any}
use Rattle.std.proofs.lemmas.Bool.{eqb-true, eq-eqb, or_cases, or_left, or_right}
use Rattle.std.proofs.lemmas.List.Folds.{list_any-append}
use Rattle.fs_names.specs.Failures.{or_else}
use Rattle.fs_names.proofs.FailureLemmas.{or_else-assoc}
use Rattle.fs_calls.specs.Starts.{Start}
use Rattle.fs_calls.specs.Outcomes.{play, after, called, next_start}
use Rattle.fs_calls.specs.declared.call.Call.{Call}
use Rattle.fs_timeline.specs.Timeline.{is_begin, is_commit, is_return, has_begun, has_committed, begun_on, last_on, begun_as, call_of, with_call, commits_of, commits, before_commit, reply_after, due, IsNext, Each, IsWellFormed}
use Rattle.fs_timeline.specs.declared.entry.Entry.{Entry}
use Rattle.fs_timeline.specs.declared.entry.Entry.TheVariants.{Begin, Commit, Return}
use Rattle.fs_timeline.proofs.TimelineLemmas.{append_nil}

-- a call with the later kind of entry has the earlier kind
abbrev pub Precedes : (ℕ → Entry → Bool) → (ℕ → Entry → Bool) → List Entry → Type 0
Precedes earlier later es = (c : ℕ) → list_any (later c) es ≡ true → list_any (earlier c) es ≡ true

-- each committed call has begun, and each returned call has committed
abbrev pub BegunFirst : List Entry → Type 0
BegunFirst = Precedes is_begin is_commit

abbrev pub CommittedFirst : List Entry → Type 0
CommittedFirst = Precedes is_commit is_return

pub or_false : (b : Bool) → (b || false) ≡ b
or_false true = refl
or_false false = refl

-- a test of one more element
pub list_any-push : {A : Type 0} (p : A → Bool) (xs : List A) (x : A) → list_any p (xs ++ x ∷ []) ≡ (list_any p xs || p x)
list_any-push p xs x = list_any-append p xs (x ∷ []) ∙ ap (λ b. list_any p xs || b) (or_false (p x))

pub or_else-nothing : {A : Type 0} (a : Option A) → or_else a None ≡ a
or_else-nothing None = refl
or_else-nothing (Some x) = refl

or_else-some : {A : Type 0} (a b : Option A) → is_some a ≡ true → or_else a b ≡ a
or_else-some None b h = absurd (cc)
or_else-some (Some x) b h = refl

is_some-or_else : {A : Type 0} (a b : Option A) → is_some (or_else a b) ≡ (is_some a || is_some b)
is_some-or_else None b = refl
is_some-or_else (Some x) b = refl

-- the last call on a seat
pub last_on-push : (s : ℕ) (es : List Entry) (e : Entry) → last_on s (es ++ e ∷ []) ≡ or_else (begun_on s e) (last_on s es)
last_on-push s [] e = sym (or_else-nothing (begun_on s e))
last_on-push s (f ∷ es) e =
    ap (λ o. or_else o (begun_on s f)) (last_on-push s es e) ∙ sym (or_else-assoc (begun_on s e) (last_on s es) (begun_on s f))

-- the call of a number
pub call_of-push : (c : ℕ) (es : List Entry) (e : Entry) → call_of c (es ++ e ∷ []) ≡ or_else (call_of c es) (begun_as c e)
call_of-push c [] e = or_else-nothing (begun_as c e)
call_of-push c (f ∷ es) e =
    ap (or_else (begun_as c f)) (call_of-push c es e) ∙ or_else-assoc (begun_as c f) (call_of c es) (begun_as c e)

is_some-begun_as : (c : ℕ) (e : Entry) → is_some (begun_as c e) ≡ is_begin c e
is_some-begun_as c (Begin d seat call) =
    elim (c == d) as (λ b. is_some (cond b (Some call) None) ≡ b) [ true ↦ refl | false ↦ refl ]
is_some-begun_as c (Commit d) = refl
is_some-begun_as c (Return d r) = refl

-- a number has a call exactly where it has begun
pub is_some-call_of : (c : ℕ) (es : List Entry) → is_some (call_of c es) ≡ has_begun c es
is_some-call_of c [] = refl
is_some-call_of c (e ∷ es) =
    is_some-or_else (begun_as c e) (call_of c es)
    ∙ ap (λ b. b || is_some (call_of c es)) (is_some-begun_as c e)
    ∙ ap (λ b. is_begin c e || b) (is_some-call_of c es)

-- the call of a number that has begun stays
pub call_of-kept : (c : ℕ) (es : List Entry) (e : Entry) → has_begun c es ≡ true → call_of c (es ++ e ∷ []) ≡ call_of c es
call_of-kept c es e h = call_of-push c es e ∙ or_else-some (call_of c es) (begun_as c e) (is_some-call_of c es ∙ h)

with_call-append : (o : Option Call) (xs ys : List Call) → with_call o (xs ++ ys) ≡ with_call o xs ++ ys
with_call-append None xs ys = refl
with_call-append (Some call) xs ys = refl

commits_of-push : (whole es : List Entry) (e : Entry) → commits_of whole (es ++ e ∷ []) ≡ commits_of whole es ++ commits_of whole (e ∷ [])
commits_of-push whole [] e = refl
commits_of-push whole (Begin c seat call ∷ es) e = commits_of-push whole es e
commits_of-push whole (Commit c ∷ es) e =
    ap (with_call (call_of c whole)) (commits_of-push whole es e) ∙ with_call-append (call_of c whole) (commits_of whole es) (commits_of whole (e ∷ []))
commits_of-push whole (Return c r ∷ es) e = commits_of-push whole es e

-- the calls of Commit entries whose Begins stand in `whole` stay
commits_of-kept : (whole es : List Entry) (e : Entry) → ((c : ℕ) → has_committed c es ≡ true → has_begun c whole ≡ true)
    → commits_of (whole ++ e ∷ []) es ≡ commits_of whole es
commits_of-kept whole [] e h = refl
commits_of-kept whole (Begin c seat call ∷ es) e h = commits_of-kept whole es e h
commits_of-kept whole (Commit c ∷ es) e h =
    let begun : has_begun c whole ≡ true = h c (or_left (c == c) (has_committed c es) (eq-eqb c c refl)) in
    let rest = commits_of-kept whole es e (λ d k. h d (or_right (d == c) (has_committed d es) k)) in
    ap (λ o. with_call o (commits_of (whole ++ e ∷ []) es)) (call_of-kept c whole e begun) ∙ ap (with_call (call_of c whole)) rest
commits_of-kept whole (Return c r ∷ es) e h = commits_of-kept whole es e h

-- the commits of a timeline with one more entry
pub commits-push : (es : List Entry) (e : Entry) → BegunFirst es → commits (es ++ e ∷ []) ≡ commits es ++ commits_of (es ++ e ∷ []) (e ∷ [])
commits-push es e h =
    commits_of-push (es ++ e ∷ []) es e ∙ ap (λ xs. xs ++ commits_of (es ++ e ∷ []) (e ∷ [])) (commits_of-kept es es e h)

-- what stands before a Commit stays
pub before_commit-kept : (c : ℕ) (es : List Entry) (e : Entry) → has_committed c es ≡ true → before_commit c (es ++ e ∷ []) ≡ before_commit c es
before_commit-kept c [] e h = absurd (cc)
before_commit-kept c (f ∷ es) e h =
    elim (is_commit c f) as (λ b. (b || has_committed c es) ≡ true → cond b [] (f ∷ before_commit c (es ++ e ∷ [])) ≡ cond b [] (f ∷ before_commit c es)) [
      | true ↦ λ k. refl
      | false ↦ λ k. ap (λ xs. f ∷ xs) (before_commit-kept c es e k)
    ] h

-- all that came stands before a first Commit
pub before_commit-first : (c : ℕ) (es : List Entry) → has_committed c es ≡ false → before_commit c (es ++ Commit c ∷ []) ≡ es
before_commit-first c [] h = let same = eq-eqb c c refl in rw same refl
before_commit-first c (f ∷ es) h =
    elim (is_commit c f) as (λ b. (b || has_committed c es) ≡ false → cond b [] (f ∷ before_commit c (es ++ Commit c ∷ [])) ≡ f ∷ es) [
      | true ↦ λ k. absurd (cc)
      | false ↦ λ k. ap (λ xs. f ∷ xs) (before_commit-first c es k)
    ] h

-- the reply that is due to a call that has committed stays
pub due-kept : (start : Start) (c : ℕ) (es : List Entry) (e : Entry) → BegunFirst es → has_committed c es ≡ true → due start c (es ++ e ∷ []) ≡ due start c es
due-kept start c es e begun h =
    ap (λ b. reply_after start (commits b) (call_of c (es ++ e ∷ []))) (before_commit-kept c es e h)
    ∙ ap (reply_after start (commits (before_commit c es))) (call_of-kept c es e (begun c h))

-- the reply that is due to a call that commits now
pub due-first : (start : Start) (c : ℕ) (es : List Entry) → has_begun c es ≡ true → has_committed c es ≡ false → due start c (es ++ Commit c ∷ []) ≡ reply_after start (commits es) (call_of c es)
due-first start c es begun h =
    ap (λ b. reply_after start (commits b) (call_of c (es ++ Commit c ∷ []))) (before_commit-first c es h)
    ∙ ap (reply_after start (commits es)) (call_of-kept c es (Commit c) begun)

-- the tree after one more call
pub play-push : (start : Start) (calls : List Call) (call : Call) → play start (calls ++ call ∷ []) ≡ after start.limits (play start calls) call
play-push start [] call = refl
play-push start (first ∷ calls) call = play-push (called start first) calls call

-- and the start that it leaves
pub next_start-push : (start : Start) (calls : List Call) (call : Call) → next_start start (calls ++ call ∷ []) ≡ called (next_start start calls) call
next_start-push start calls call = ap (λ t. record { limits = start.limits; tree = t }) (play-push start calls call)

precedes-push : (earlier later : ℕ → Entry → Bool) (es : List Entry) (e : Entry) → Precedes earlier later es
    → ((c : ℕ) → later c e ≡ true → list_any (earlier c) es ≡ true) → Precedes earlier later (es ++ e ∷ [])
precedes-push earlier later es e so_far here c h =
    let was : list_any (earlier c) es ≡ true = ⊎_elim (so_far c) (here c) (or_cases (list_any (later c) es) (later c e) (sym (list_any-push (later c) es e) ∙ h)) in
    list_any-push (earlier c) es e ∙ or_left _ _ was

-- calls that had begun before they committed still have, whatever comes next
pub begun_first-push : (es : List Entry) (e : Entry) → BegunFirst es → ((c : ℕ) → is_commit c e ≡ true → has_begun c es ≡ true) → BegunFirst (es ++ e ∷ [])
begun_first-push es e = precedes-push is_begin is_commit es e

precedes_along : (earlier later : ℕ → Entry → Bool) → ((before : List Entry) (e : Entry) → IsNext before e → (c : ℕ) → later c e ≡ true → list_any (earlier c) before ≡ true)
    → (before es : List Entry) → Precedes earlier later before → Each IsNext before es → Precedes earlier later (before ++ es)
precedes_along earlier later here before [] so_far h = subst (Precedes earlier later) (sym (append_nil before)) so_far
precedes_along earlier later here before (e ∷ es) so_far h =
    subst (Precedes earlier later) (append_assoc before (e ∷ []) es)
    (precedes_along earlier later here (before ++ e ∷ []) es (precedes-push earlier later before e so_far (here before e h.0)) h.1)

commits_begun : (before : List Entry) (e : Entry) → IsNext before e → (c : ℕ) → is_commit c e ≡ true → has_begun c before ≡ true
commits_begun before (Begin d seat call) next c h = absurd (cc)
commits_begun before (Commit d) next c h = subst (λ n. has_begun n before ≡ true) (sym (eqb-true c d h)) next.0
commits_begun before (Return d r) next c h = absurd (cc)

returns_committed : (before : List Entry) (e : Entry) → IsNext before e → (c : ℕ) → is_return c e ≡ true → has_committed c before ≡ true
returns_committed before (Begin d seat call) next c h = absurd (cc)
returns_committed before (Commit d) next c h = absurd (cc)
returns_committed before (Return d r) next c h = subst (λ n. has_committed n before ≡ true) (sym (eqb-true c d h)) next.0

-- in a well-formed timeline each committed call has begun, and each returned call has committed
pub begun_first : (es : List Entry) → IsWellFormed es → BegunFirst es
begun_first es h = precedes_along is_begin is_commit commits_begun [] es (λ c no. absurd (cc)) h

pub committed_first : (es : List Entry) → IsWellFormed es → CommittedFirst es
committed_first es h = precedes_along is_commit is_return returns_committed [] es (λ c no. absurd (cc)) h
