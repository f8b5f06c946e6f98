-- Where as many calls returned as began, every call that began has returned.
use Rattle.std.proofs.Common.{◌≡◌, ℕ, suc, ◌+◌, Bool, true, false, ◌==◌, List, [], ◌∷◌, ◌++◌, count_by, cond, append-nil, append_assoc, length, refl, sym, ◌∙◌, subst, ◌⊎◌, inl, inr, arith}
use Rattle.std.specs.List.{list_any}
use Rattle.std.proofs.lemmas.List.Sums.{sum_by-cons}
use Rattle.std.proofs.lemmas.Bool.{eqb-true, eq-eqb, or_left, or_right, or_cases}
use Rattle.fs_timeline.specs.Timeline.{has_begun, has_committed, has_returned, is_begin, is_commit, is_return, begins, IsNext, Each, IsWellFormed}
use Rattle.fs_timeline.specs.declared.entry.Entry.{Entry}
use Rattle.fs_timeline.specs.declared.entry.Entry.TheVariants.{Begin, Commit, Return}
use Rattle.fs_timeline.proofs.AppendLemmas.{list_any-push, or_false}
use Rattle.fs_share.specs.Returns.{returns, AllReturned}
use Rattle.fs_share.specs.code.Begun.{begins_one, returns_one}

-- a number is in a list
abbrev In : List ℕ → ℕ → Type 0
In [] c = ⊥
In (x ∷ xs) c = (c ≡ x) ⊎ In xs c

-- a list without one occurrence of a number
record Without (xs : List ℕ) (c : ℕ) : Type 0 where
  left : List ℕ
  less : length left + 1 ≡ length xs
  others : (d : ℕ) → In xs d → (d ≡ c) ⊎ In left d

without : (xs : List ℕ) (c : ℕ) → In xs c → Without xs c
without [] c h = absurd h
without (x ∷ xs) c (inl e) = record { left = xs; less = omega arith; others = λ d h. elim h [ inl f ↦ inl (f ∙ sym e) | inr g ↦ inr g ] }
without (x ∷ xs) c (inr h) =
    let w : Without xs c = without xs c h in
    record {
      left = x ∷ w.left;
      less = (let e : length w.left + 1 ≡ length xs = w.less in omega (arith, e));
      others = λ d k. elim k [ inl f ↦ inr (inl f) | inr g ↦ elim (w.others d g) [ inl e ↦ inl e | inr i ↦ inr (inr i) ] ];
    }

-- those that wait are the calls that began and have not returned
record Waits (es : List Entry) : Type 0 where
  waiting : List ℕ
  as_many : returns es + length waiting ≡ begins es
  begun : (c : ℕ) → has_begun c es ≡ true → (has_returned c es ≡ true) ⊎ In waiting c
  first : (c : ℕ) → has_committed c es ≡ true → has_begun c es ≡ true

returns_push : (es : List Entry) (e : Entry) → returns (es ++ e ∷ []) ≡ returns es + returns (e ∷ [])
returns_push [] e = omega arith
returns_push (Begin c seat call ∷ es) e = returns_push es e
returns_push (Commit c ∷ es) e = returns_push es e
returns_push (Return c r ∷ es) e = let h : returns (es ++ e ∷ []) ≡ returns es + returns (e ∷ []) = returns_push es e in omega (arith, h)

begins_push : (es : List Entry) (e : Entry) → begins (es ++ e ∷ []) ≡ begins es + begins (e ∷ [])
begins_push [] e = omega arith
begins_push (Begin c seat call ∷ es) e = let h : begins (es ++ e ∷ []) ≡ begins es + begins (e ∷ []) = begins_push es e in omega (arith, h)
begins_push (Commit c ∷ es) e = begins_push es e
begins_push (Return c r ∷ es) e = begins_push es e

-- what was known of an entry before stays
kept : (p : Entry → Bool) (es : List Entry) (e : Entry) → list_any p es ≡ true → list_any p (es ++ e ∷ []) ≡ true
kept p es e h = list_any-push p es e ∙ or_left (list_any p es) (p e) h

waits_more : (es : List Entry) (e : Entry) → IsNext es e → Waits es → Waits (es ++ e ∷ [])
waits_more es (Begin n seat call) next w = record {
  waiting = n ∷ w.waiting;
  as_many = (let r : returns (es ++ Begin n seat call ∷ []) ≡ returns es + 0 = returns_push es (Begin n seat call) in let b : begins (es ++ Begin n seat call ∷ []) ≡ begins es + 1 = begins_push es (Begin n seat call) in let h : returns es + length w.waiting ≡ begins es = w.as_many in omega (arith, r, b, h));
  begun = λ c h. by c (or_cases (has_begun c es) (c == n) (sym (list_any-push (is_begin c) es (Begin n seat call)) ∙ h));
  first = λ c h. kept (is_begin c) es (Begin n seat call) (w.first c (sym (or_false (has_committed c es)) ∙ (sym (list_any-push (is_commit c) es (Begin n seat call)) ∙ h)));
}
  where
    by : (c : ℕ) → (has_begun c es ≡ true) ⊎ ((c == n) ≡ true) → (has_returned c (es ++ Begin n seat call ∷ []) ≡ true) ⊎ In (n ∷ w.waiting) c
    by c (inl h) = elim (w.begun c h) [ inl r ↦ inl (kept (is_return c) es (Begin n seat call) r) | inr i ↦ inr (inr i) ]
    by c (inr h) = inr (inl (eqb-true c n h))
waits_more es (Commit n) next w = record {
  waiting = w.waiting;
  as_many = (let r : returns (es ++ Commit n ∷ []) ≡ returns es + 0 = returns_push es (Commit n) in let b : begins (es ++ Commit n ∷ []) ≡ begins es + 0 = begins_push es (Commit n) in let h : returns es + length w.waiting ≡ begins es = w.as_many in omega (arith, r, b, h));
  begun = λ c h. elim (w.begun c (sym (or_false (has_begun c es)) ∙ (sym (list_any-push (is_begin c) es (Commit n)) ∙ h))) [ inl r ↦ inl (kept (is_return c) es (Commit n) r) | inr i ↦ inr i ];
  first = λ c h. by c (or_cases (has_committed c es) (c == n) (sym (list_any-push (is_commit c) es (Commit n)) ∙ h));
}
  where
    by : (c : ℕ) → (has_committed c es ≡ true) ⊎ ((c == n) ≡ true) → has_begun c (es ++ Commit n ∷ []) ≡ true
    by c (inl h) = kept (is_begin c) es (Commit n) (w.first c h)
    by c (inr h) = kept (is_begin c) es (Commit n) (subst (λ (k : ℕ). has_begun k es ≡ true) (sym (eqb-true c n h)) next.0)
waits_more es (Return n r) next w = record {
  waiting = rest.left;
  as_many = (let q : returns (es ++ Return n r ∷ []) ≡ returns es + 1 = returns_push es (Return n r) in let b : begins (es ++ Return n r ∷ []) ≡ begins es + 0 = begins_push es (Return n r) in let h : returns es + length w.waiting ≡ begins es = w.as_many in let l : length rest.left + 1 ≡ length w.waiting = rest.less in omega (arith, q, b, h, l));
  begun = λ c h. by c (w.begun c (sym (or_false (has_begun c es)) ∙ (sym (list_any-push (is_begin c) es (Return n r)) ∙ h)));
  first = λ c h. kept (is_begin c) es (Return n r) (w.first c (sym (or_false (has_committed c es)) ∙ (sym (list_any-push (is_commit c) es (Return n r)) ∙ h)));
}
  where
    waited : In w.waiting n
    waited = elim (w.begun n (w.first n next.0)) [ inl back ↦ absurd (let z : true ≡ false = sym back ∙ next.1 in cc) | inr i ↦ i ]

    rest : Without w.waiting n
    rest = without w.waiting n waited

    back : (c : ℕ) → c ≡ n → has_returned c (es ++ Return n r ∷ []) ≡ true
    back c same = list_any-push (is_return c) es (Return n r) ∙ or_right (has_returned c es) (c == n) (eq-eqb c n same)

    by : (c : ℕ) → (has_returned c es ≡ true) ⊎ In w.waiting c → (has_returned c (es ++ Return n r ∷ []) ≡ true) ⊎ In rest.left c
    by c (inl h) = inl (kept (is_return c) es (Return n r) h)
    by c (inr i) = elim (rest.others c i) [ inl same ↦ inl (back c same) | inr j ↦ inr j ]

all_wait : (before es : List Entry) → Each IsNext before es → Waits before → Waits (before ++ es)
all_wait before [] each w = subst Waits (sym (append-nil before)) w
all_wait before (e ∷ es) each w = subst Waits (append_assoc before (e ∷ []) es) (all_wait (before ++ e ∷ []) es each.1 (waits_more before e each.0 w))

-- nobody waits where as many returned as began
all_returned : (es : List Entry) → IsWellFormed es → begins es ≡ returns es → AllReturned es
all_returned es formed many c begun =
    let w : Waits es = all_wait [] es formed (record { waiting = []; as_many = refl; begun = λ d h. absurd (let z : false ≡ true = h in cc); first = λ d h. absurd (let z : false ≡ true = h in cc) }) in
    by w.waiting (let h : returns es + length w.waiting ≡ begins es = w.as_many in omega (arith, h, many)) (w.begun c begun)
  where
    by : (l : List ℕ) → length l ≡ 0 → (has_returned c es ≡ true) ⊎ In l c → has_returned c es ≡ true
    by l none (inl h) = h
    by [] none (inr i) = absurd i
    by (x ∷ l) none (inr i) = absurd (let z : suc (length l) ≡ 0 = none in omega (arith, z))

-- the same by the numbers that are counted
begins_counted : (es : List Entry) → count_by begins_one es ≡ begins es
begins_counted [] = refl
begins_counted (Begin c seat call ∷ es) = omega (arith, sum_by-cons (λ (x : Entry). cond (begins_one x) 1 0) (Begin c seat call) es, begins_counted es)
begins_counted (Commit c ∷ es) = omega (arith, sum_by-cons (λ (x : Entry). cond (begins_one x) 1 0) (Commit c) es, begins_counted es)
begins_counted (Return c r ∷ es) = omega (arith, sum_by-cons (λ (x : Entry). cond (begins_one x) 1 0) (Return c r) es, begins_counted es)

returns_counted : (es : List Entry) → count_by returns_one es ≡ returns es
returns_counted [] = refl
returns_counted (Begin c seat call ∷ es) = omega (arith, sum_by-cons (λ (x : Entry). cond (returns_one x) 1 0) (Begin c seat call) es, returns_counted es)
returns_counted (Commit c ∷ es) = omega (arith, sum_by-cons (λ (x : Entry). cond (returns_one x) 1 0) (Commit c) es, returns_counted es)
returns_counted (Return c r ∷ es) = omega (arith, sum_by-cons (λ (x : Entry). cond (returns_one x) 1 0) (Return c r) es, returns_counted es)

pub counted_returned : (es : List Entry) → IsWellFormed es → count_by begins_one es ≡ count_by returns_one es → AllReturned es
counted_returned es formed same = all_returned es formed (sym (begins_counted es) ∙ same ∙ returns_counted es)
