-- Each linearization of a history is the commits of a lawful timeline: after each invocation, the next operations whose calls have begun commit.
use Rattle.std.proofs.Common.{◌≡◌, ℕ, Bool, true, false, ◌||◌, cond, List, [], ◌∷◌, ◌++◌, Option, Some, None, is_some, refl, sym, ap, ◌∙◌, subst, ◌⊎◌, inl, inr, ⊎_elim, arith, append_assoc}
use Rattle.std.specs.List.{Contains}
use Rattle.std.proofs.lemmas.Bool.{eq-eqb, or_left, or_right, or_parts}
use Rattle.std.proofs.lemmas.List.Elements.{Contains-append_right, Contains-append_cases, Contains-push_cases}
use Rattle.fs_names.specs.Failures.{or_else}
use Rattle.fs_calls.specs.Starts.{Start}
use Rattle.fs_calls.specs.Outcomes.{reply_at, called, next_start, replies}
use Rattle.fs_calls.specs.declared.call.Call.{Call}
use Rattle.fs_calls.specs.declared.reply.Reply.{Reply}
use Rattle.fs_timeline.specs.Timeline.{is_begin, has_begun, has_committed, begun_as, call_of, commits, IsNext, IsAnswered, Each, IsLawful}
use Rattle.fs_linearizable.specs.Linearizable.{history, IsNextEvent, ComesBefore, Precedes, Operation, IsLinearization, IsLinearizable}
use Rattle.fs_linearizable.specs.Laws.{LinearizableIsLawful, LinearizationsCommit}
use Rattle.fs_timeline.specs.declared.entry.Entry.{Entry}
use Rattle.fs_timeline.specs.declared.entry.Entry.TheVariants.{Begin, Commit, Return}
use Rattle.fs_timeline.proofs.TimelineLemmas.{append_nil, lawful_appended}
use Rattle.fs_timeline.proofs.AppendLemmas.{begun_first, list_any-push, is_some-call_of, call_of-push}
use Rattle.fs_linearizable.proofs.LawfulLemmas.{contains_later, first_or_later, none_there, of_history, history-append, has_begun-history, has_returned-history, is_busy-history, nothing, IsSoFar, calls_of, replies_of, no_commit, commit, stands_first, lawful_is_linearizable}

-- ---- orders in a list

pub stands_second : {A : Type 0} (xs : List A) (x y : A) → ComesBefore xs x y → Contains xs y
stands_second [] x y h = absurd h
stands_second (z ∷ zs) x y h = ⊎_elim (λ here. contains_later z zs y here.1) (λ later. contains_later z zs y (stands_second zs x y later)) h

-- if two elements come before each other, one of them occurs twice
twice : {A : Type 0} (xs : List A) (x y : A) → ComesBefore xs x y → ComesBefore xs y x → ComesBefore xs x x ⊎ ComesBefore xs y y
twice [] x y h k = absurd h
twice (z ∷ zs) x y h k =
    ⊎_elim
    (λ first. inl (inl (first.0, ⊎_elim (λ here. here.1) (λ later. stands_second zs y x later) k)))
    (λ first. ⊎_elim
    (λ here. inr (inl (here.0, stands_second zs x y first)))
    (λ later. ⊎_elim (λ one. inl (inr one)) (λ other. inr (inr other)) (twice zs x y first later))
    k)
    h

stands_across : {A : Type 0} (xs ys : List A) (x y : A) → Contains xs x → Contains ys y → ComesBefore (xs ++ ys) x y
stands_across [] ys x y first second = absurd (none_there x first)
stands_across (z ∷ zs) ys x y first second =
    ⊎_elim (λ here. inl (here, Contains-append_right zs ys y second)) (λ later. inr (stands_across zs ys x y later second)) (first_or_later z zs x first)

stands_behind : {A : Type 0} (xs ys : List A) (x y : A) → ComesBefore ys x y → ComesBefore (xs ++ ys) x y
stands_behind [] ys x y h = h
stands_behind (z ∷ zs) ys x y h = inr (stands_behind zs ys x y h)

-- ---- Begins

begun_from : (es : List Entry) (c seat : ℕ) (call : Call) → Contains es (Begin c seat call) → has_begun c es ≡ true
begun_from [] c seat call there = absurd (none_there _ there)
begun_from (e ∷ es) c seat call there =
    ⊎_elim
    (λ here. or_left (is_begin c e) (has_begun c es) (subst (λ (x : Entry). is_begin c x ≡ true) (sym here) (eq-eqb c c refl)))
    (λ later. or_right (is_begin c e) (has_begun c es) (begun_from es c seat call later))
    (first_or_later e es (Begin c seat call) there)

-- what begins later has not begun
fresh_ahead : (before ahead : List Entry) (c seat : ℕ) (call : Call) → Each IsNextEvent before ahead → Contains ahead (Begin c seat call) → has_begun c before ≡ false
fresh_ahead before [] c seat call h there = absurd (none_there _ there)
fresh_ahead before (e ∷ ahead) c seat call h there =
    ⊎_elim
    (λ here. let fits : IsNextEvent before (Begin c seat call) = subst (IsNextEvent before) here h.0 in fits.0)
    (λ later. (or_parts (has_begun c before) (is_begin c e) (sym (list_any-push (is_begin c) before e) ∙ fresh_ahead (before ++ e ∷ []) ahead c seat call h.1 later)).0)
    (first_or_later e ahead (Begin c seat call) there)

abbrev TellBegins : List Entry → Type 0
TellBegins es = (c seat : ℕ) (call : Call) → Contains es (Begin c seat call) → call_of c es ≡ Some call

begins_push : (es : List Entry) (e : Entry) → IsNext es e → TellBegins es → TellBegins (es ++ e ∷ [])
begins_push es e next so_far c seat call there =
    ⊎_elim
    (λ was. call_of-push c es e ∙ ap (λ o. or_else o (begun_as c e)) (so_far c seat call was))
    (λ here.
    let fits : IsNext es (Begin c seat call) = subst (IsNext es) here next in
    let none : call_of c es ≡ None = none_from (call_of c es) (is_some-call_of c es ∙ fits.0) in
    let one : begun_as c (Begin c seat call) ≡ Some call = ap (λ b. cond {A = Option Call} b (Some call) None) (eq-eqb c c refl) in
    call_of-push c es e ∙ ap (λ o. or_else o (begun_as c e)) none ∙ ap (begun_as c) here ∙ one)
    (Contains-push_cases es e (Begin c seat call) there)
  where
    none_from : (o : Option Call) → is_some o ≡ false → o ≡ None
    none_from None h = refl
    none_from (Some x) h = absurd (cc)

-- ---- replies

-- the reply of an operation in a legal order
reply_there : (start : Start) (done : List Operation) (o : Operation) (rest : List Operation) → replies_of (done ++ o ∷ rest) ≡ replies start (calls_of (done ++ o ∷ rest))
    → reply_at (next_start start (calls_of done)) o.call ≡ o.reply
reply_there start [] o rest h = sym (heads h)
  where
    heads : {x y : Reply} {xs ys : List Reply} → x ∷ xs ≡ y ∷ ys → x ≡ y
    heads k = cc
reply_there start (d ∷ done) o rest h = reply_there (called start d.call) done o rest (tails h)
  where
    tails : {x y : Reply} {xs ys : List Reply} → x ∷ xs ≡ y ∷ ys → xs ≡ ys
    tails k = cc

-- ---- along a history

-- a timeline that has passed a front of the history, and committed a front of the linearization
record IsAt (start : Start) (h : List Entry) (s : List Operation) (before ahead : List Entry) (done rest : List Operation) : Type 0 where
  operations : done ++ rest ≡ s
  passed : history before ++ ahead ≡ h
  lawful : IsLawful start before
  so_far : IsSoFar start before done
  begins : TellBegins before
  events : Each IsNextEvent (history before) ahead

-- the next operation waits for its invocation
abbrev Waits : List Entry → List Operation → Type 0
Waits before [] = Unit {0}
Waits before (o ∷ rest) = has_begun o.number before ≡ false

record IsReady (start : Start) (h : List Entry) (s : List Operation) (ahead : List Entry) : Type 0 where
  before : List Entry
  done : List Operation
  rest : List Operation
  at : IsAt start h s before ahead done rest
  waits : Waits before rest

-- whether a Begin of the history has passed
begin_cases : (start : Start) (h : List Entry) (s : List Operation) (before ahead : List Entry) (done rest : List Operation) (c seat : ℕ) (call : Call) → IsAt start h s before ahead done rest
    → Contains h (Begin c seat call) → Contains before (Begin c seat call) ⊎ Contains ahead (Begin c seat call)
begin_cases start h s before ahead done rest c seat call x there =
    ⊎_elim (λ was. inl (of_history before (Begin c seat call) was)) (λ later. inr later)
    (Contains-append_cases (history before) ahead (Begin c seat call) (subst (λ (es : List Entry). Contains es (Begin c seat call)) (sym x.passed) there))

module _ (start : Start) (h : List Entry) (s : List Operation) (linear : IsLinearization start h s) where
  -- the next operation commits, if its call has begun
  commits_next : (before ahead : List Entry) (done : List Operation) (o : Operation) (rest : List Operation) → IsAt start h s before ahead done (o ∷ rest) → has_begun o.number before ≡ true
      → IsAt start h s (before ++ Commit o.number ∷ []) ahead (done ++ o ∷ []) rest
  commits_next before ahead done o rest x begun = record {
    operations = append_assoc done (o ∷ []) rest ∙ x.operations;
    passed = ap (λ es. es ++ ahead) same_history ∙ x.passed;
    lawful = (lawful_appended start before (Commit o.number)).1 (x.lawful, next, tt);
    so_far = subst (λ (p : Operation). IsSoFar start (before ++ Commit o.number ∷ []) (done ++ p ∷ [])) same
        (commit start before o.number o.call done (begun_first before x.lawful.well_formed) next is_call x.so_far);
    begins = begins_push before (Commit o.number) next x.begins;
    events = subst (λ (es : List Entry). Each IsNextEvent es ahead) (sym same_history) x.events;
  }
    where
      same_history : history (before ++ Commit o.number ∷ []) ≡ history before
      same_history = history-append before (Commit o.number ∷ []) ∙ append_nil (history before)

      there : Contains s o
      there = subst (λ (t : List Operation). Contains t o) x.operations (Contains-append_right done (o ∷ rest) o (0, omega arith, refl))

      is_call : call_of o.number before ≡ Some o.call
      is_call =
          let found = linear.invoked o there in
          ⊎_elim
          (λ was. x.begins o.number found.0 o.call was)
          (λ later.
          let fresh : has_begun o.number before ≡ false = sym (has_begun-history o.number before) ∙ fresh_ahead (history before) ahead o.number found.0 o.call x.events later in
          absurd (cc))
          (begin_cases start h s before ahead done (o ∷ rest) o.number found.0 o.call x found.1)

      -- it has not committed, since it would occur in the linearization twice
      twice_there : has_committed o.number before ≡ true → ⊥
      twice_there committed =
          let found = x.so_far.each o.number committed in
          linear.once found.0 o
          (subst (λ (t : List Operation). ComesBefore t found.0 o) x.operations (stands_across done (o ∷ rest) found.0 o found.1 (0, omega arith, refl)))
          found.2

      uncommitted : (b : Bool) → (b ≡ true → ⊥) → b ≡ false
      uncommitted true never = absurd (never refl)
      uncommitted false never = refl

      next : IsNext before (Commit o.number)
      next = (begun, uncommitted (has_committed o.number before) twice_there)

      legal : replies_of (done ++ o ∷ rest) ≡ replies start (calls_of (done ++ o ∷ rest))
      legal = subst (λ (t : List Operation). replies_of t ≡ replies start (calls_of t)) (sym x.operations) linear.legal

      is_reply : reply_at (next_start start (commits before)) o.call ≡ o.reply
      is_reply = ap (λ calls. reply_at (next_start start calls) o.call) (sym x.so_far.calls) ∙ reply_there start done o rest legal

      same : record { number = o.number; call = o.call; reply = reply_at (next_start start (commits before)) o.call } ≡ o
      same = ap (λ (r : Reply). record { number = o.number; call = o.call; reply = r }) is_reply

  -- all operations commit whose calls have begun, up to the first that waits
  settle : (before ahead : List Entry) (done rest : List Operation) → IsAt start h s before ahead done rest → IsReady start h s ahead
  settle before ahead done [] x = record { before = before; done = done; rest = []; at = x; waits = tt }
  settle before ahead done (o ∷ rest) x = go (λ y. settle (before ++ Commit o.number ∷ []) ahead (done ++ o ∷ []) rest y) (has_begun o.number before) refl
    where
      go : (IsAt start h s (before ++ Commit o.number ∷ []) ahead (done ++ o ∷ []) rest → IsReady start h s ahead) → (b : Bool) → has_begun o.number before ≡ b → IsReady start h s ahead
      go on true begun = on (commits_next before ahead done o rest x begun)
      go on false wait = record { before = before; done = done; rest = o ∷ rest; at = x; waits = wait }

  -- an event that comes next
  passes : (before ahead : List Entry) (done rest : List Operation) (e : Entry) → IsAt start h s before (e ∷ ahead) done rest → history (e ∷ []) ≡ e ∷ [] → IsNext before e → IsAnswered start before e
      → IsSoFar start (before ++ e ∷ []) done → IsAt start h s (before ++ e ∷ []) ahead done rest
  passes before ahead done rest e x event next answered so_far = record {
    operations = x.operations;
    passed = ap (λ es. es ++ ahead) pushed ∙ append_assoc (history before) (e ∷ []) ahead ∙ x.passed;
    lawful = (lawful_appended start before e).1 (x.lawful, next, answered);
    so_far = so_far;
    begins = begins_push before e next x.begins;
    events = subst (λ (es : List Entry). Each IsNextEvent es ahead) (sym pushed) x.events.1;
  }
    where
      pushed : history (before ++ e ∷ []) ≡ history before ++ e ∷ []
      pushed = history-append before (e ∷ []) ∙ ap (λ es. history before ++ es) event

  -- a call that responds now has committed, since no operation before it waits
  is_done : (before ahead : List Entry) (done rest : List Operation) (c : ℕ) (r : Reply) → IsAt start h s before (Return c r ∷ ahead) done rest → Waits before rest
      → (call : Call) × Contains done (record { number = c; call = call; reply = r })
  is_done before ahead done rest c r x waits =
      let found = linear.completed c r (subst (λ (es : List Entry). Contains es (Return c r)) x.passed (Contains-append_right (history before) (Return c r ∷ ahead) (Return c r) (0, omega arith, refl))) in
      let mine : Operation = record { number = c; call = found.0; reply = r } in
      ⊎_elim
      (λ was. (found.0, was))
      (λ later. absurd (waiting mine refl rest waits x later))
      (Contains-append_cases done rest mine (subst (λ (t : List Operation). Contains t mine) (sym x.operations) found.1))
    where
      begun : has_begun c before ≡ true
      begun = sym (has_begun-history c before) ∙ x.events.0.0

      waiting : (mine : Operation) → mine.number ≡ c → (left : List Operation) → Waits before left → IsAt start h s before (Return c r ∷ ahead) done left → Contains left mine → ⊥
      waiting mine number [] wait y there = none_there mine there
      waiting mine number (o ∷ left) wait y there =
          ⊎_elim
          (λ here.
          let same : o.number ≡ c = ap (λ (p : Operation). p.number) here ∙ number in
          let old : has_begun o.number before ≡ true = subst (λ n. has_begun n before ≡ true) (sym same) begun in
          absurd (cc))
          (λ later.
          let in_order : ComesBefore s o mine = subst (λ (t : List Operation). ComesBefore t o mine) y.operations (stands_behind done (o ∷ left) o mine (inl (refl, later))) in
          let invoked = linear.invoked o (stands_first s o mine in_order) in
          let precedes : Precedes h mine.number o.number = (r, invoked.0, o.call, subst (λ n. ComesBefore h (Return n r) (Begin o.number invoked.0 o.call)) (sym number) (begins_later o invoked.0 wait y invoked.1)) in
          ⊎_elim (λ one. linear.once o o one refl) (λ other. linear.once mine mine other refl)
          (twice s o mine in_order (linear.order mine o (stands_second s o mine in_order) (stands_first s o mine in_order) precedes)))
          (first_or_later o left mine there)
        where
          begins_later : (p : Operation) (seat : ℕ) → has_begun p.number before ≡ false → IsAt start h s before (Return c r ∷ ahead) done (o ∷ left) → Contains h (Begin p.number seat p.call) → ComesBefore h (Return c r) (Begin p.number seat p.call)
          begins_later p seat fresh z in_h =
              ⊎_elim
              (λ was. let old = begun_from before p.number seat p.call was in absurd (cc))
              (λ later. ⊎_elim
              (λ here. absurd (cc))
              (λ behind. subst (λ (es : List Entry). ComesBefore es (Return c r) (Begin p.number seat p.call)) z.passed
              (stands_behind (history before) (Return c r ∷ ahead) (Return c r) (Begin p.number seat p.call) (inl (refl, behind))))
              (first_or_later (Return c r) ahead (Begin p.number seat p.call) later))
              (begin_cases start h s before (Return c r ∷ ahead) done (o ∷ left) p.number seat p.call z in_h)

  to_the_end : (ahead : List Entry) → IsReady start h s ahead → (es : List Entry) × IsLawful start es × (history es ≡ h) × (commits es ≡ calls_of s)
  to_the_end [] y = finished y.rest y.at y.waits
    where
      finished : (left : List Operation) → IsAt start h s y.before [] y.done left → Waits y.before left → (es : List Entry) × IsLawful start es × (history es ≡ h) × (commits es ≡ calls_of s)
      finished [] x wait = (y.before, x.lawful, sym (append_nil (history y.before)) ∙ x.passed, sym x.so_far.calls ∙ ap calls_of (sym (append_nil y.done) ∙ x.operations))
      finished (o ∷ left) x wait =
          let invoked = linear.invoked o (subst (λ (t : List Operation). Contains t o) x.operations (Contains-append_right y.done (o ∷ left) o (0, omega arith, refl))) in
          ⊎_elim
          (λ was. let old = begun_from y.before o.number invoked.0 o.call was in absurd (cc))
          (λ later. absurd (none_there _ later))
          (begin_cases start h s y.before [] y.done (o ∷ left) o.number invoked.0 o.call x invoked.1)
  to_the_end (Begin c seat call ∷ ahead) y =
      let next : IsNext y.before (Begin c seat call) = (sym (has_begun-history c y.before) ∙ y.at.events.0.0, sym (is_busy-history seat y.before) ∙ y.at.events.0.1) in
      let so_far = no_commit start y.before (Begin c seat call) y.done (begun_first y.before y.at.lawful.well_formed) next tt (λ whole. refl) (λ d. refl) y.at.so_far in
      to_the_end ahead (settle (y.before ++ Begin c seat call ∷ []) ahead y.done y.rest (passes y.before ahead y.done y.rest (Begin c seat call) y.at refl next tt so_far))
  to_the_end (Commit c ∷ ahead) y = absurd y.at.events.0
  to_the_end (Return c r ∷ ahead) y =
      let found = is_done y.before ahead y.done y.rest c r y.at y.waits in
      let taken = y.at.so_far.taken (record { number = c; call = found.0; reply = r }) found.1 in
      let next : IsNext y.before (Return c r) = (taken.is_committed, sym (has_returned-history c y.before) ∙ y.at.events.0.1) in
      let so_far = no_commit start y.before (Return c r) y.done (begun_first y.before y.at.lawful.well_formed) next taken.is_due (λ whole. refl) (λ d. refl) y.at.so_far in
      to_the_end ahead (record {
        before = y.before ++ Return c r ∷ [];
        done = y.done;
        rest = y.rest;
        at = passes y.before ahead y.done y.rest (Return c r) y.at refl next taken.is_due so_far;
        waits = still y.rest y.waits;
      })
    where
      still : (left : List Operation) → Waits y.before left → Waits (y.before ++ Return c r ∷ []) left
      still [] wait = tt
      still (o ∷ left) wait = list_any-push (is_begin o.number) y.before (Return c r) ∙ ap (λ b. b || false) wait

-- ---- the laws

pub linearizations_commit : LinearizationsCommit
linearizations_commit start h s well linear =
    to_the_end start h s linear h
    (settle start h s linear [] h [] s (record {
      operations = refl;
      passed = refl;
      lawful = record { well_formed = tt; replies = tt };
      so_far = nothing start;
      begins = λ c seat call there. absurd (none_there _ there);
      events = well;
    }))

pub linearizable_is_lawful : LinearizableIsLawful
linearizable_is_lawful start h = (
  λ x. let found = linearizations_commit start h x.linearization.0 x.well_formed x.linearization.1 in (found.0, found.1, found.2),
  λ x. subst (IsLinearizable start) x.2 (lawful_is_linearizable start x.0 x.1),
)
