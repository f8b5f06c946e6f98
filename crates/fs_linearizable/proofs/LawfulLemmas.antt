-- The commits of a lawful timeline linearize its history.
use Rattle.std.proofs.Common.{◌≡◌, ℕ, zero, suc, ◌<◌, Bool, true, false, not, ◌||◌, ◌==◌, cond, List, [], ◌∷◌, ◌++◌, map, length, get_or, Option, Some, None, is_some, refl, sym, ap, ◌∙◌, subst, ◌⊎◌, inl, inr, ⊎_elim, arith, append_assoc}
use Rattle.std.specs.List.{Contains}
use Rattle.std.proofs.lemmas.Bool.{eqb-true, eq-eqb, or_cases, or_left, or_right}
use Rattle.std.proofs.lemmas.List.{map-append}
use Rattle.std.proofs.lemmas.List.Elements.{Contains-append_left, Contains-append_right, Contains-push, Contains-push_cases}
use Rattle.fs_names.specs.Failures.{or_else}
use Rattle.fs_calls.specs.Starts.{Start}
use Rattle.fs_calls.specs.Outcomes.{reply_at, called, next_start, replies}
use Rattle.fs_calls.specs.declared.call.Call.{Call}
use Rattle.fs_calls.specs.declared.reply.Reply.{Reply}
use Rattle.fs_timeline.specs.Timeline.{is_commit, has_begun, has_committed, has_returned, begun_on, last_on, is_open, is_busy, call_of, with_call, commits_of, commits, reply_after, due, IsNext, IsAnswered, Each, IsWellFormed, IsLawful}
use Rattle.fs_linearizable.specs.Linearizable.{history, IsNextEvent, ComesBefore, Precedes, Operation, IsLinearization}
use Rattle.fs_linearizable.specs.Laws.{LawfulIsLinearizable, CommitsLinearize}
use Rattle.fs_timeline.specs.declared.entry.Entry.{Entry}
use Rattle.fs_timeline.specs.declared.entry.Entry.TheVariants.{Begin, Commit, Return}
use Rattle.fs_timeline.proofs.TimelineLemmas.{append_nil, well_formed_appended, lawful_appended}
use Rattle.fs_timeline.proofs.AppendLemmas.{BegunFirst, begun_first, or_false, list_any-push, is_some-call_of, call_of-kept, commits-push, due-kept, due-first}

-- ---- elements of a list

pub contains_later : {A : Type 0} (z : A) (zs : List A) (x : A) → Contains zs x → Contains (z ∷ zs) x
contains_later z zs x there = Contains-append_right (z ∷ []) zs x there

pub first_or_later : {A : Type 0} (z : A) (zs : List A) (x : A) → Contains (z ∷ zs) x → (z ≡ x) ⊎ Contains zs x
first_or_later {A} z zs x there = at there.0 there.1 there.2
  where
    at : (k : ℕ) → k < length (z ∷ zs) → get_or (z ∷ zs) k x ≡ x → (z ≡ x) ⊎ Contains zs x
    at zero small is = inl is
    at (suc k) small is = inr (k, omega (arith, small), is)

pub none_there : {A : Type 0} (x : A) → Contains [] x → ⊥
none_there x there = absurd (omega (arith, there.1))

pub stands_first : {A : Type 0} (xs : List A) (x y : A) → ComesBefore xs x y → Contains xs x
stands_first [] x y h = absurd h
stands_first (z ∷ zs) x y h = ⊎_elim (λ here. (0, omega arith, here.0)) (λ later. contains_later z zs x (stands_first zs x y later)) h

pub stands_push : {A : Type 0} (xs : List A) (x y : A) → Contains xs x → ComesBefore (xs ++ y ∷ []) x y
stands_push [] x y there = absurd (none_there x there)
stands_push (z ∷ zs) x y there = ⊎_elim (λ here. inl (here, Contains-push zs y)) (λ later. inr (stands_push zs x y later)) (first_or_later z zs x there)

pub stands_still : {A : Type 0} (xs : List A) (x y z : A) → ComesBefore xs x y → ComesBefore (xs ++ z ∷ []) x y
stands_still [] x y z h = absurd h
stands_still (w ∷ xs) x y z h = ⊎_elim (λ here. inl (here.0, Contains-append_left xs (z ∷ []) y here.1)) (λ later. inr (stands_still xs x y z later)) h

pub stands_push_cases : {A : Type 0} (xs : List A) (z x y : A) → ComesBefore (xs ++ z ∷ []) x y → ComesBefore xs x y ⊎ (Contains xs x × (z ≡ y))
stands_push_cases [] z x y h = ⊎_elim (λ here. absurd (none_there y here.1)) (λ later. absurd later) h
stands_push_cases (w ∷ xs) z x y h =
    ⊎_elim
    (λ here. ⊎_elim (λ there. inl (inl (here.0, there))) (λ last. inr ((0, omega arith, here.0), last)) (Contains-push_cases xs z y here.1))
    (λ later. ⊎_elim (λ there. inl (inr there)) (λ last. inr (contains_later w xs x last.0, last.1)) (stands_push_cases xs z x y later))
    h

-- ---- a history has what its timeline has

pub history-append : (xs ys : List Entry) → history (xs ++ ys) ≡ history xs ++ history ys
history-append [] ys = refl
history-append (Begin c seat call ∷ xs) ys = ap (λ es. Begin c seat call ∷ es) (history-append xs ys)
history-append (Commit c ∷ xs) ys = history-append xs ys
history-append (Return c r ∷ xs) ys = ap (λ es. Return c r ∷ es) (history-append xs ys)

pub has_begun-history : (c : ℕ) (es : List Entry) → has_begun c (history es) ≡ has_begun c es
has_begun-history c [] = refl
has_begun-history c (Begin d seat call ∷ es) = ap (λ b. (c == d) || b) (has_begun-history c es)
has_begun-history c (Commit d ∷ es) = has_begun-history c es
has_begun-history c (Return d r ∷ es) = has_begun-history c es

pub has_returned-history : (c : ℕ) (es : List Entry) → has_returned c (history es) ≡ has_returned c es
has_returned-history c [] = refl
has_returned-history c (Begin d seat call ∷ es) = has_returned-history c es
has_returned-history c (Commit d ∷ es) = has_returned-history c es
has_returned-history c (Return d r ∷ es) = ap (λ b. (c == d) || b) (has_returned-history c es)

last_on-history : (s : ℕ) (es : List Entry) → last_on s (history es) ≡ last_on s es
last_on-history s [] = refl
last_on-history s (Begin c seat call ∷ es) = ap (λ o. or_else o (begun_on s (Begin c seat call))) (last_on-history s es)
last_on-history s (Commit c ∷ es) = last_on-history s es ∙ sym (or_none (last_on s es))
  where
    or_none : (o : Option ℕ) → or_else o None ≡ o
    or_none None = refl
    or_none (Some n) = refl
last_on-history s (Return c r ∷ es) = ap (λ o. or_else o None) (last_on-history s es)

is_open-history : (o : Option ℕ) (es : List Entry) → is_open o (history es) ≡ is_open o es
is_open-history None es = refl
is_open-history (Some c) es = ap not (has_returned-history c es)

pub is_busy-history : (s : ℕ) (es : List Entry) → is_busy s (history es) ≡ is_busy s es
is_busy-history s es = ap (λ o. is_open o (history es)) (last_on-history s es) ∙ is_open-history (last_on s es) es

-- the history of a well-formed timeline is well formed
events : (before es : List Entry) → IsWellFormed before → Each IsNext before es → Each IsNextEvent (history before) (history es)
events before [] well h = tt
events before (Begin c seat call ∷ es) well h = (
  (has_begun-history c before ∙ h.0.0, is_busy-history seat before ∙ h.0.1),
  subst (λ (b : List Entry). Each IsNextEvent b (history es)) (history-append before (Begin c seat call ∷ []))
      (events (before ++ Begin c seat call ∷ []) es ((well_formed_appended before (Begin c seat call)).1 (well, h.0)) h.1),
)
events before (Commit c ∷ es) well h =
    subst (λ (b : List Entry). Each IsNextEvent b (history es)) (history-append before (Commit c ∷ []) ∙ append_nil (history before))
    (events (before ++ Commit c ∷ []) es ((well_formed_appended before (Commit c)).1 (well, h.0)) h.1)
events before (Return c r ∷ es) well h = (
  (has_begun-history c before ∙ begun_first before well c h.0.0, has_returned-history c before ∙ h.0.1),
  subst (λ (b : List Entry). Each IsNextEvent b (history es)) (history-append before (Return c r ∷ []))
      (events (before ++ Return c r ∷ []) es ((well_formed_appended before (Return c r)).1 (well, h.0)) h.1),
)

pub of_history : (es : List Entry) (x : Entry) → Contains (history es) x → Contains es x
of_history [] x there = there
of_history (Begin c seat call ∷ es) x there = ⊎_elim (λ here. (0, omega arith, here)) (λ later. contains_later (Begin c seat call) es x (of_history es x later)) (first_or_later (Begin c seat call) (history es) x there)
of_history (Commit c ∷ es) x there = contains_later (Commit c) es x (of_history es x there)
of_history (Return c r ∷ es) x there = ⊎_elim (λ here. (0, omega arith, here)) (λ later. contains_later (Return c r) es x (of_history es x later)) (first_or_later (Return c r) (history es) x there)

begin_in_history : (es : List Entry) (c seat : ℕ) (call : Call) → Contains es (Begin c seat call) → Contains (history es) (Begin c seat call)
begin_in_history [] c seat call there = there
begin_in_history (Begin d s k ∷ es) c seat call there =
    ⊎_elim (λ here. (0, omega arith, here)) (λ later. contains_later (Begin d s k) (history es) (Begin c seat call) (begin_in_history es c seat call later)) (first_or_later (Begin d s k) es (Begin c seat call) there)
begin_in_history (Commit d ∷ es) c seat call there =
    ⊎_elim (λ here. absurd (cc)) (λ later. begin_in_history es c seat call later) (first_or_later (Commit d) es (Begin c seat call) there)
begin_in_history (Return d r ∷ es) c seat call there =
    ⊎_elim (λ here. absurd (cc)) (λ later. contains_later (Return d r) (history es) (Begin c seat call) (begin_in_history es c seat call later)) (first_or_later (Return d r) es (Begin c seat call) there)

stands_of_history : (es : List Entry) (x y : Entry) → ComesBefore (history es) x y → ComesBefore es x y
stands_of_history [] x y h = h
stands_of_history (Begin c seat call ∷ es) x y h = ⊎_elim (λ here. inl (here.0, of_history es y here.1)) (λ later. inr (stands_of_history es x y later)) h
stands_of_history (Commit c ∷ es) x y h = inr (stands_of_history es x y h)
stands_of_history (Return c r ∷ es) x y h = ⊎_elim (λ here. inl (here.0, of_history es y here.1)) (λ later. inr (stands_of_history es x y later)) h

precedes_of_history : (es : List Entry) (c d : ℕ) → Precedes (history es) c d → Precedes es c d
precedes_of_history es c d h = (h.0, h.1, h.2, stands_of_history es _ _ h.3)

-- the Begin of a call
pub begin_there : (es : List Entry) (c : ℕ) (call : Call) → call_of c es ≡ Some call → (seat : ℕ) × Contains es (Begin c seat call)
begin_there [] c call is = absurd (cc)
begin_there (Begin d seat x ∷ es) c call is = go (c == d) refl is (begin_there es c call)
  where
    go : (b : Bool) → (c == d) ≡ b → or_else (cond {A = Option Call} b (Some x) None) (call_of c es) ≡ Some call
        → (call_of c es ≡ Some call → (s : ℕ) × Contains es (Begin c s call)) → (s : ℕ) × Contains (Begin d seat x ∷ es) (Begin c s call)
    go true same e later =
        let number : c ≡ d = eqb-true c d same in
        let event : Begin d seat x ≡ Begin c seat call = cc in
        (seat, (0, omega arith, event))
    go false apart e later = let found = later e in (found.0, contains_later _ es _ found.1)
begin_there (Commit d ∷ es) c call is = let found = begin_there es c call is in (found.0, contains_later _ es _ found.1)
begin_there (Return d r ∷ es) c call is = let found = begin_there es c call is in (found.0, contains_later _ es _ found.1)

-- ---- one entry more

-- what is known of a call that has committed
pub record IsTaken (start : Start) (es : List Entry) (o : Operation) : Type 0 where
  pub is_committed : has_committed o.number es ≡ true
  pub is_call : call_of o.number es ≡ Some o.call
  pub is_due : due start o.number es ≡ Some o.reply

abbrev pub calls_of : List Operation → List Call
calls_of s = map (λ (o : Operation). o.call) s

abbrev pub replies_of : List Operation → List Reply
replies_of s = map (λ (o : Operation). o.reply) s

-- a returned call has committed, and got the reply that was due
abbrev pub AreAnswered : Start → List Entry → Type 0
AreAnswered start es = (c : ℕ) (r : Reply) → Contains es (Return c r) → (has_committed c es ≡ true) × (due start c es ≡ Some r)

-- the operations that a timeline has committed so far
pub record IsSoFar (start : Start) (es : List Entry) (s : List Operation) : Type 0 where
  pub calls : calls_of s ≡ commits es
  pub legal : replies_of s ≡ replies start (calls_of s)
  pub taken : (o : Operation) → Contains s o → IsTaken start es o
  pub each : (c : ℕ) → has_committed c es ≡ true → (o : Operation) × Contains s o × (o.number ≡ c)
  pub once : (o p : Operation) → ComesBefore s o p → o.number ≡ p.number → ⊥
  pub order : (o p : Operation) → Contains s o → Contains s p → Precedes es o.number p.number → ComesBefore s o p
  pub answered : AreAnswered start es

pub committed_still : (c : ℕ) (es : List Entry) (e : Entry) → has_committed c es ≡ true → has_committed c (es ++ e ∷ []) ≡ true
committed_still c es e h = list_any-push (is_commit c) es e ∙ or_left _ _ h

committed_of_other : (c : ℕ) (es : List Entry) (e : Entry) → is_commit c e ≡ false → has_committed c (es ++ e ∷ []) ≡ has_committed c es
committed_of_other c es e h = list_any-push (is_commit c) es e ∙ ap (λ b. has_committed c es || b) h ∙ or_false (has_committed c es)

replies-push : (start : Start) (calls : List Call) (call : Call) → replies start (calls ++ call ∷ []) ≡ replies start calls ++ reply_at (next_start start calls) call ∷ []
replies-push start [] call = refl
replies-push start (first ∷ calls) call = ap (λ rs. reply_at start first ∷ rs) (replies-push (called start first) calls call)

taken_still : (start : Start) (es : List Entry) (e : Entry) (o : Operation) → BegunFirst es → IsTaken start es o → IsTaken start (es ++ e ∷ []) o
taken_still start es e o begun t = record {
  is_committed = committed_still o.number es e t.is_committed;
  is_call = call_of-kept o.number es e (begun o.number t.is_committed) ∙ t.is_call;
  is_due = due-kept start o.number es e begun t.is_committed ∙ t.is_due;
}

answered_push : (start : Start) (es : List Entry) (e : Entry) → BegunFirst es → IsNext es e → IsAnswered start es e → AreAnswered start es → AreAnswered start (es ++ e ∷ [])
answered_push start es e begun next answered so_far c r there =
    ⊎_elim
    (λ was. let known = so_far c r was in (committed_still c es e known.0, due-kept start c es e begun known.0 ∙ known.1))
    (λ here.
    let fits : IsNext es (Return c r) = subst (IsNext es) here next in
    let done : has_committed c es ≡ true = fits.0 in
    let same : due start c es ≡ Some r = subst (IsAnswered start es) here answered in
    (committed_still c es e done, due-kept start c es e begun done ∙ same))
    (Contains-push_cases es e (Return c r) there)

-- a call that has begun is preceded by no more calls than before
pub precedes_before : (es : List Entry) (e : Entry) (c d : ℕ) → IsNext es e → has_begun d es ≡ true → Precedes (es ++ e ∷ []) c d → Precedes es c d
precedes_before es e c d next begun h =
    ⊎_elim
    (λ was. (h.0, h.1, h.2, was))
    (λ here.
    let fits : IsNext es (Begin d h.1 h.2) = subst (IsNext es) here.1 next in
    let fresh : has_begun d es ≡ false = fits.0 in
    absurd (cc))
    (stands_push_cases es e (Return c h.0) (Begin d h.1 h.2) h.3)

-- an entry that is no Commit leaves the operations as they are
pub no_commit : (start : Start) (es : List Entry) (e : Entry) (s : List Operation) → BegunFirst es → IsNext es e → IsAnswered start es e
    → ((whole : List Entry) → commits_of whole (e ∷ []) ≡ []) → ((c : ℕ) → is_commit c e ≡ false) → IsSoFar start es s → IsSoFar start (es ++ e ∷ []) s
no_commit start es e s begun next answered none other f = record {
  calls = f.calls ∙ sym (commits-push es e begun ∙ ap (λ xs. commits es ++ xs) (none (es ++ e ∷ [])) ∙ append_nil (commits es));
  legal = f.legal;
  taken = λ o there. taken_still start es e o begun (f.taken o there);
  each = λ c done. f.each c (sym (committed_of_other c es e (other c)) ∙ done);
  once = f.once;
  order = λ o p first second before. f.order o p first second (precedes_before es e o.number p.number next (begun p.number (f.taken p second).is_committed) before);
  answered = answered_push start es e begun next answered f.answered;
}

-- a Commit brings the operation of its call, with the reply that is due to it
pub commit : (start : Start) (es : List Entry) (c : ℕ) (call : Call) (s : List Operation) → BegunFirst es → IsNext es (Commit c) → call_of c es ≡ Some call → IsSoFar start es s
    → IsSoFar start (es ++ Commit c ∷ []) (s ++ record { number = c; call = call; reply = reply_at (next_start start (commits es)) call } ∷ [])
commit start es c call s begun next is f = record {
  calls = map-append (λ (o : Operation). o.call) s (new ∷ []) ∙ ap (λ xs. xs ++ call ∷ []) f.calls ∙ sym (commits-push es (Commit c) begun ∙ ap (λ o. commits es ++ with_call o []) kept);
  legal = map-append (λ (o : Operation). o.reply) s (new ∷ []) ∙ ap (λ xs. xs ++ new.reply ∷ []) f.legal
      ∙ ap (λ xs. replies start (calls_of s) ++ reply_at (next_start start xs) call ∷ []) (sym f.calls)
      ∙ sym (ap (replies start) (map-append (λ (o : Operation). o.call) s (new ∷ [])) ∙ replies-push start (calls_of s) call);
  taken = λ o there. ⊎_elim (λ was. taken_still start es (Commit c) o begun (f.taken o was)) (λ here. subst (IsTaken start (es ++ Commit c ∷ [])) here mine) (Contains-push_cases s new o there);
  each = λ d done. ⊎_elim
      (λ was. let found = f.each d was in (found.0, Contains-append_left s (new ∷ []) found.0 found.1, found.2))
      (λ here. (new, Contains-push s new, sym (eqb-true d c here)))
      (or_cases (has_committed d es) (d == c) (sym (list_any-push (is_commit d) es (Commit c)) ∙ done));
  once = λ o p before same. ⊎_elim
      (λ was. f.once o p was same)
      (λ here. fresh o.number (same ∙ ap (λ (q : Operation). q.number) (sym here.1)) (f.taken o here.0).is_committed)
      (stands_push_cases s new o p before);
  order = λ o p first second before. ⊎_elim
      (λ was. ⊎_elim
      (λ there. stands_still s o p new (f.order o p was there (precedes_before es (Commit c) o.number p.number next (begun p.number (f.taken p there).is_committed) before)))
      (λ last. subst (ComesBefore (s ++ new ∷ []) o) last (stands_push s o new was))
      (Contains-push_cases s new p second))
      (λ here. absurd (unreturned o.number before.0 (ap (λ (q : Operation). q.number) (sym here)) (stands_first (es ++ Commit c ∷ []) _ _ before.3)))
      (Contains-push_cases s new o first);
  answered = answered_push start es (Commit c) begun next tt f.answered;
}
  where
    new : Operation
    new = record { number = c; call = call; reply = reply_at (next_start start (commits es)) call }

    kept : call_of c (es ++ Commit c ∷ []) ≡ Some call
    kept = call_of-kept c es (Commit c) next.0 ∙ is

    mine : IsTaken start (es ++ Commit c ∷ []) new
    mine = record {
      is_committed = list_any-push (is_commit c) es (Commit c) ∙ or_right _ _ (eq-eqb c c refl);
      is_call = kept;
      is_due = due-first start c es next.0 next.1 ∙ ap (reply_after start (commits es)) is;
    }

    fresh : (d : ℕ) → d ≡ c → has_committed d es ≡ true → ⊥
    fresh d same done = let was : has_committed c es ≡ true = subst (λ n. has_committed n es ≡ true) same done in let not_yet = next.1 in absurd (cc)

    unreturned : (d : ℕ) (r : Reply) → d ≡ c → Contains (es ++ Commit c ∷ []) (Return d r) → ⊥
    unreturned d r same there = ⊎_elim (λ was. fresh d same (f.answered d r was).0) (λ here. absurd (cc)) (Contains-push_cases es (Commit c) (Return d r) there)

pub there_is : {F : Type 0} (o : Option F) → is_some o ≡ true → (x : F) × (o ≡ Some x)
there_is None h = absurd (cc)
there_is (Some x) h = (x, refl)

so_far_push : (start : Start) (es : List Entry) (e : Entry) (s : List Operation) → BegunFirst es → IsNext es e → IsAnswered start es e → IsSoFar start es s → (t : List Operation) × IsSoFar start (es ++ e ∷ []) t
so_far_push start es (Begin c seat call) s begun next answered f = (s, no_commit start es (Begin c seat call) s begun next answered (λ whole. refl) (λ d. refl) f)
so_far_push start es (Commit c) s begun next answered f =
    let call = there_is (call_of c es) (is_some-call_of c es ∙ next.0) in
    (_, commit start es c call.0 s begun next call.1 f)
so_far_push start es (Return c r) s begun next answered f = (s, no_commit start es (Return c r) s begun next answered (λ whole. refl) (λ d. refl) f)

so_far_along : (start : Start) (before es : List Entry) (s : List Operation) → IsLawful start before → Each IsNext before es → Each (IsAnswered start) before es → IsSoFar start before s → (t : List Operation) × IsSoFar start (before ++ es) t
so_far_along start before [] s lawful next answered f = (s, subst (λ (es : List Entry). IsSoFar start es s) (sym (append_nil before)) f)
so_far_along start before (e ∷ es) s lawful next answered f =
    let step = so_far_push start before e s (begun_first before lawful.well_formed) next.0 answered.0 f in
    let rest = so_far_along start (before ++ e ∷ []) es step.0 ((lawful_appended start before e).1 (lawful, next.0, answered.0)) next.1 answered.1 step.1 in
    (rest.0, subst (λ (es : List Entry). IsSoFar start es rest.0) (append_assoc before (e ∷ []) es) rest.1)

pub nothing : (start : Start) → IsSoFar start [] []
nothing start = record {
  calls = refl;
  legal = refl;
  taken = λ o there. absurd (none_there o there);
  each = λ c done. absurd (cc);
  once = λ o p before same. before;
  order = λ o p first second before. absurd (none_there o first);
  answered = λ c r there. absurd (none_there _ there);
}

-- ---- the laws

as_completed : (s : List Operation) (o : Operation) (c : ℕ) (r : Reply) → o.number ≡ c → o.reply ≡ r → Contains s o → Contains s (record { number = c; call = o.call; reply = r })
as_completed s o c r number reply there =
    subst (λ (q : Reply). Contains s (record { number = c; call = o.call; reply = q })) reply
    (subst (λ (n : ℕ). Contains s (record { number = n; call = o.call; reply = o.reply })) number there)

linearizes : (start : Start) (es : List Entry) (s : List Operation) → IsSoFar start es s → IsLinearization start (history es) s
linearizes start es s f = record {
  invoked = λ o there. let found = begin_there es o.number o.call (f.taken o there).is_call in (found.0, begin_in_history es o.number found.0 o.call found.1);
  once = f.once;
  completed = λ c r there.
      let known = f.answered c r (of_history es (Return c r) there) in
      let found = f.each c known.0 in
      let due_here : due start c es ≡ Some found.0.reply = subst (λ n. due start n es ≡ Some found.0.reply) found.2 (f.taken found.0 found.1).is_due in
      let same : found.0.reply ≡ r = some_is (sym due_here ∙ known.1) in
      (found.0.call, as_completed s found.0 c r found.2 same found.1);
  legal = f.legal;
  order = λ o p first second before. f.order o p first second (precedes_of_history es o.number p.number before);
}
  where
    some_is : {a b : Reply} → Some a ≡ Some b → a ≡ b
    some_is h = cc

so_far : (start : Start) (es : List Entry) → IsLawful start es → (s : List Operation) × IsSoFar start es s
so_far start es lawful = so_far_along start [] es [] (record { well_formed = tt; replies = tt }) lawful.well_formed lawful.replies (nothing start)

pub lawful_is_linearizable : LawfulIsLinearizable
lawful_is_linearizable start es lawful =
    let found = so_far start es lawful in
    record { well_formed = events [] es tt lawful.well_formed; linearization = (found.0, linearizes start es found.0 found.1) }

pub commits_linearize : CommitsLinearize
commits_linearize start es lawful =
    let found = so_far start es lawful in
    (found.0, linearizes start es found.0 found.1, sym found.1.calls)
