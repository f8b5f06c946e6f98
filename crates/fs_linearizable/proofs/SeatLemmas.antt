-- On one seat calls precede one another.
use Rattle.std.proofs.Common.{◌≡◌, ℕ, Bool, true, false, not, ◌==◌, cond, List, [], ◌∷◌, ◌++◌, Option, Some, None, refl, sym, ap, ◌∙◌, subst, ◌⊎◌, inl, inr, ⊎_elim, arith, append_assoc}
use Rattle.std.specs.List.{Contains}
use Rattle.std.proofs.lemmas.Bool.{eqb-true, eq-eqb, or_cases}
use Rattle.std.proofs.lemmas.List.Elements.{Contains-append_left, Contains-push_cases}
use Rattle.fs_names.specs.Failures.{or_else}
use Rattle.fs_calls.specs.declared.call.Call.{Call}
use Rattle.fs_calls.specs.declared.reply.Reply.{Reply}
use Rattle.fs_timeline.specs.Timeline.{is_return, has_returned, begun_on, last_on, is_open, is_busy, Each}
use Rattle.fs_timeline.specs.declared.entry.Entry.{Entry}
use Rattle.fs_timeline.specs.declared.entry.Entry.TheVariants.{Begin, Commit, Return}
use Rattle.fs_timeline.proofs.TimelineLemmas.{append_nil}
use Rattle.fs_timeline.proofs.AppendLemmas.{last_on-push}
use Rattle.fs_linearizable.specs.Linearizable.{IsNextEvent, ComesBefore, Precedes}
use Rattle.fs_linearizable.specs.Laws.{SeatsTakeTurns}
use Rattle.fs_linearizable.proofs.LawfulLemmas.{contains_later, none_there, stands_push, stands_still, stands_push_cases}

-- a call that has returned has a Return
return_there : (es : List Entry) (c : ℕ) → has_returned c es ≡ true → (r : Reply) × Contains es (Return c r)
return_there [] c h = absurd (cc)
return_there (e ∷ es) c h =
    ⊎_elim
    (λ here. at_first e here)
    (λ later. let found = return_there es c later in (found.0, contains_later e es (Return c found.0) found.1))
    (or_cases (is_return c e) (has_returned c es) h)
  where
    at_first : (f : Entry) → is_return c f ≡ true → (r : Reply) × Contains (f ∷ es) (Return c r)
    at_first (Begin d seat call) k = absurd (cc)
    at_first (Commit d) k = absurd (cc)
    at_first (Return d r) k =
        let same : c ≡ d = eqb-true c d k in
        let event : Return d r ≡ Return c r = cc in
        (r, (0, omega arith, event))

-- a call of a seat has returned, or is the last on it
abbrev IsLastOrReturned : ℕ → List Entry → Type 0
IsLastOrReturned seat es = (c : ℕ) (call : Call) → Contains es (Begin c seat call) → ((r : Reply) × Contains es (Return c r)) ⊎ (last_on seat es ≡ Some c)

-- the last call of a seat that is not busy has returned
returned_if_idle : (seat : ℕ) (es : List Entry) (c : ℕ) → is_busy seat es ≡ false → last_on seat es ≡ Some c → (r : Reply) × Contains es (Return c r)
returned_if_idle seat es c idle last = return_there es c (open_ends (has_returned c es) (sym (ap (λ o. is_open o es) last) ∙ idle))
  where
    open_ends : (b : Bool) → not b ≡ false → b ≡ true
    open_ends true h = refl
    open_ends false h = absurd (cc)

last_push : (seat : ℕ) (es : List Entry) (e : Entry) (c : ℕ) → IsNextEvent es e → last_on seat es ≡ Some c → ((r : Reply) × Contains (es ++ e ∷ []) (Return c r)) ⊎ (last_on seat (es ++ e ∷ []) ≡ Some c)
last_push seat es (Begin d s call) c next last = go (seat == s) refl
  where
    go : (b : Bool) → (seat == s) ≡ b → ((r : Reply) × Contains (es ++ Begin d s call ∷ []) (Return c r)) ⊎ (last_on seat (es ++ Begin d s call ∷ []) ≡ Some c)
    go true same =
        let one : seat ≡ s = eqb-true seat s same in
        let idle : is_busy seat es ≡ false = subst (λ n. is_busy n es ≡ false) (sym one) next.1 in
        let found = returned_if_idle seat es c idle last in
        inl (found.0, Contains-append_left es (Begin d s call ∷ []) (Return c found.0) found.1)
    go false apart = inr (last_on-push seat es (Begin d s call) ∙ ap (λ b. or_else (cond {A = Option ℕ} b (Some d) None) (last_on seat es)) apart ∙ last)
last_push seat es (Commit d) c next last = absurd next
last_push seat es (Return d r) c next last = inr (last_on-push seat es (Return d r) ∙ last)

last_or_returned_push : (seat : ℕ) (es : List Entry) (e : Entry) → IsNextEvent es e → IsLastOrReturned seat es → IsLastOrReturned seat (es ++ e ∷ [])
last_or_returned_push seat es e next so_far c call there =
    ⊎_elim
    (λ was. ⊎_elim
    (λ returned. inl (returned.0, Contains-append_left es (e ∷ []) (Return c returned.0) returned.1))
    (λ last. last_push seat es e c next last)
    (so_far c call was))
    (λ here.
    let one : begun_on seat (Begin c seat call) ≡ Some c = ap (λ b. cond {A = Option ℕ} b (Some c) None) (eq-eqb seat seat refl) in
    inr (last_on-push seat es e ∙ ap (λ o. or_else o (last_on seat es)) (ap (begun_on seat) here ∙ one)))
    (Contains-push_cases es e (Begin c seat call) there)

abbrev TakeTurns : ℕ → List Entry → Type 0
TakeTurns seat es = (c d : ℕ) (call other : Call) → ComesBefore es (Begin c seat call) (Begin d seat other) → Precedes es c d

turns_push : (seat : ℕ) (es : List Entry) (e : Entry) → IsNextEvent es e → IsLastOrReturned seat es → TakeTurns seat es → TakeTurns seat (es ++ e ∷ [])
turns_push seat es e next known so_far c d call other h =
    ⊎_elim
    (λ was. let p = so_far c d call other was in (p.0, p.1, p.2, stands_still es (Return c p.0) (Begin d p.1 p.2) e p.3))
    (λ here.
    let fits : IsNextEvent es (Begin d seat other) = subst (IsNextEvent es) here.1 next in
    let returned : (r : Reply) × Contains es (Return c r) = ⊎_elim (λ k. k) (λ last. returned_if_idle seat es c fits.1 last) (known c call here.0) in (
      returned.0,
      seat,
      other,
      subst (λ (f : Entry). ComesBefore (es ++ f ∷ []) (Return c returned.0) (Begin d seat other)) (sym here.1)
          (stands_push es (Return c returned.0) (Begin d seat other) returned.1),
    ))
    (stands_push_cases es e (Begin c seat call) (Begin d seat other) h)

turns_along : (seat : ℕ) (before es : List Entry) → IsLastOrReturned seat before → TakeTurns seat before → Each IsNextEvent before es → TakeTurns seat (before ++ es)
turns_along seat before [] known so_far h = subst (TakeTurns seat) (sym (append_nil before)) so_far
turns_along seat before (e ∷ es) known so_far h =
    subst (TakeTurns seat) (append_assoc before (e ∷ []) es)
    (turns_along seat (before ++ e ∷ []) es (last_or_returned_push seat before e h.0 known) (turns_push seat before e h.0 known so_far) h.1)

pub seats_take_turns : SeatsTakeTurns
seats_take_turns h seat c d call other well before = turns_along seat [] h (λ n k there. absurd (none_there _ there)) (λ n m k l no_order. absurd no_order) well c d call other before
