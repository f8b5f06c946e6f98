-- The index of a timeline with one more entry.
use Rattle.std.proofs.Common.{◌≡◌, ℕ, zero, suc, ◌+◌, ◌-◌, ◌<◌, ◌≤◌, Bool, true, false, ◌||◌, ◌==◌, cond, List, [], ◌∷◌, ◌++◌, Option, Some, None, is_some, length, map, get_or, refl, sym, ap, ap₂, ◌∙◌, subst, arith, append-nil}
use Rattle.std.specs.Prelude.{slice_get, slice_set}
use Rattle.std.specs.Option.{option_flatten}
use Rattle.std.proofs.lemmas.Bool.{eqb-true, eq-eqb, or_right}
use Rattle.std.proofs.lemmas.Option.{slice_get_within, slice_get_read}
use Rattle.fs_calls.specs.declared.call.Call.{Call}
use Rattle.fs_calls.specs.declared.reply.Reply.{Reply}
use Rattle.fs_timeline.specs.Timeline.{is_begin, is_commit, has_begun, has_committed, begun_as, call_of, with_call, commits, before_commit, begins}
use Rattle.fs_timeline.specs.declared.entry.Entry.{Entry}
use Rattle.fs_timeline.specs.declared.entry.Entry.TheVariants.{Begin, Commit, Return}
use Rattle.fs_timeline.proofs.AppendLemmas.{or_false, list_any-push, call_of-push, is_some-call_of, call_of-kept, commits-push, before_commit-kept, before_commit-first, begun_first-push}
use Rattle.fs_timeline.specs.Index.{Fits, place_of}
use Rattle.fs_timeline.specs.code.Indexed.{call_begun, begun_at, kept_for, HasBegin, IsIndex}

-- an element stays where it stood, and the new one stands behind
push_kept : {A : Type 0} (xs : List A) (y : A) (at : ℕ) (x : A) → slice_get xs at ≡ Some x → slice_get (xs ++ y ∷ []) at ≡ Some x
push_kept [] y at x h = absurd (cc)
push_kept (z ∷ xs) y zero x h = h
push_kept (z ∷ xs) y (suc at) x h = push_kept xs y at x h

push_seam : {A : Type 0} (xs : List A) (y : A) (at : ℕ) → at ≡ length xs → slice_get (xs ++ y ∷ []) at ≡ Some y
push_seam [] y zero h = refl
push_seam [] y (suc at) h = absurd (cc)
push_seam (z ∷ xs) y zero h = absurd (cc)
push_seam (z ∷ xs) y (suc at) h = push_seam xs y at (omega (arith, h))

map_push : {A B : Type 0} (f : A → B) (xs : List A) (x : A) → map f (xs ++ x ∷ []) ≡ map f xs ++ f x ∷ []
map_push f [] x = refl
map_push f (y ∷ xs) x = ap (λ ys. f y ∷ ys) (map_push f xs x)

length_push : {A : Type 0} (xs : List A) (x : A) → length (xs ++ x ∷ []) ≡ length xs + 1
length_push [] x = refl
length_push (y ∷ xs) x = let r : length (xs ++ x ∷ []) ≡ length xs + 1 = length_push xs x in omega (arith, r)

length_set : {A : Type 0} (xs : List A) (at : ℕ) (x : A) → length (slice_set xs at x) ≡ length xs
length_set [] at x = refl
length_set (y ∷ xs) zero x = refl
length_set (y ∷ xs) (suc at) x = let r : length (slice_set xs at x) ≡ length xs = length_set xs at x in omega (arith, r)

begins_push : (es : List Entry) (e : Entry) → begins (es ++ e ∷ []) ≡ begins es + begins (e ∷ [])
begins_push [] e = omega arith
begins_push (Begin c seat call ∷ es) e = let r : begins (es ++ e ∷ []) ≡ begins es + begins (e ∷ []) = begins_push es e in omega (arith, r)
begins_push (Commit c ∷ es) e = begins_push es e
begins_push (Return c r ∷ es) e = begins_push es e

-- a call that begins at a place of the entries stays there
begun_kept : (es : List Entry) (e : Entry) (at : ℕ) (call : Call) → begun_at es at ≡ Some call → begun_at (es ++ e ∷ []) at ≡ Some call
begun_kept es e at call h = go (slice_get es at) refl h
  where
    go : (o : Option Entry) → slice_get es at ≡ o → call_begun o ≡ Some call → begun_at (es ++ e ∷ []) at ≡ Some call
    go None f g = absurd (cc)
    go (Some x) f g = ap call_begun (push_kept es e at x f) ∙ g

calls_kept : (es : List Entry) (e : Entry) (order : List ℕ) (calls : List Call) → map (begun_at es) order ≡ map (λ (call : Call). Some call) calls
    → map (begun_at (es ++ e ∷ [])) order ≡ map (λ (call : Call). Some call) calls
calls_kept es e [] [] h = refl
calls_kept es e [] (call ∷ calls) h = absurd (cc)
calls_kept es e (at ∷ order) [] h = absurd (cc)
calls_kept es e (at ∷ order) (call ∷ calls) h =
    let here : begun_at es at ≡ Some call = cc in
    let rest : map (begun_at es) order ≡ map (λ (call : Call). Some call) calls = cc in
    ap₂ (λ (x : Option Call) (xs : List (Option Call)). x ∷ xs) (begun_kept es e at call here) (calls_kept es e order calls rest)

same_length : (f : ℕ → Option Call) (order : List ℕ) (calls : List Call) → map f order ≡ map (λ (call : Call). Some call) calls → length order ≡ length calls
same_length f [] [] h = refl
same_length f [] (call ∷ calls) h = absurd (cc)
same_length f (at ∷ order) [] h = absurd (cc)
same_length f (at ∷ order) (call ∷ calls) h =
    let rest : map f order ≡ map (λ (call : Call). Some call) calls = cc in
    let r : length order ≡ length calls = same_length f order calls rest in
    omega (arith, r)

-- the list by call numbers with a place more, and with one that is set
kept_push : (places : List (Option ℕ)) (c : ℕ) → kept_for (places ++ None ∷ []) c ≡ kept_for places c
kept_push places zero = refl
kept_push places (suc at) = go places at
  where
    go : (places : List (Option ℕ)) (at : ℕ) → option_flatten (slice_get (places ++ None ∷ []) at) ≡ option_flatten (slice_get places at)
    go [] zero = refl
    go [] (suc at) = refl
    go (p ∷ places) zero = refl
    go (p ∷ places) (suc at) = go places at

kept_set : (places : List (Option ℕ)) (at c : ℕ) (v : Option ℕ) → c ≡ at + 1 → at < length places → kept_for (slice_set places at v) c ≡ v
kept_set places at zero v h within = absurd (omega (arith, h))
kept_set places at (suc n) v h within = go places at n (omega (arith, h)) within
  where
    go : (places : List (Option ℕ)) (at n : ℕ) → n ≡ at → at < length places → option_flatten (slice_get (slice_set places at v) n) ≡ v
    go [] at n e w = absurd (omega (arith, w))
    go (p ∷ places) zero zero e w = refl
    go (p ∷ places) zero (suc n) e w = absurd (omega (arith, e))
    go (p ∷ places) (suc at) zero e w = absurd (omega (arith, e))
    go (p ∷ places) (suc at) (suc n) e w = go places at n (omega (arith, e)) (omega (arith, w))

kept_else : (places : List (Option ℕ)) (at c : ℕ) (v : Option ℕ) → (c ≡ at + 1 → ⊥) → kept_for (slice_set places at v) c ≡ kept_for places c
kept_else places at zero v n = refl
kept_else places at (suc m) v n = go places at m (λ e. n (omega (arith, e)))
  where
    go : (places : List (Option ℕ)) (at m : ℕ) → (m ≡ at → ⊥) → option_flatten (slice_get (slice_set places at v) m) ≡ option_flatten (slice_get places m)
    go [] at m n = refl
    go (p ∷ places) zero zero n = absurd (n refl)
    go (p ∷ places) zero (suc m) n = refl
    go (p ∷ places) (suc at) zero n = refl
    go (p ∷ places) (suc at) (suc m) n = go places at m (λ e. n (ap suc e))

-- where a call's commit stands
place_kept : (c : ℕ) (es : List Entry) (e : Entry) → is_commit c e ≡ false → place_of c (es ++ e ∷ []) ≡ place_of c es
place_kept c es e h =
    ap (λ (b : Bool). cond b (Some (length (commits (before_commit c (es ++ e ∷ []))))) None) (list_any-push (is_commit c) es e ∙ ap (λ (b : Bool). has_committed c es || b) h ∙ or_false (has_committed c es))
    ∙ go (has_committed c es) refl
  where
    go : (b : Bool) → has_committed c es ≡ b → cond b (Some (length (commits (before_commit c (es ++ e ∷ []))))) None ≡ cond b (Some (length (commits (before_commit c es)))) None
    go true f = ap (λ (xs : List Entry). Some (length (commits xs))) (before_commit-kept c es e f)
    go false f = refl

place_first : (c : ℕ) (es : List Entry) → has_committed c es ≡ false → place_of c (es ++ Commit c ∷ []) ≡ Some (length (commits es))
place_first c es h =
    ap (λ (b : Bool). cond b (Some (length (commits (before_commit c (es ++ Commit c ∷ []))))) None) (list_any-push (is_commit c) es (Commit c) ∙ or_right (has_committed c es) (c == c) (eq-eqb c c refl))
    ∙ ap (λ (xs : List Entry). Some (length (commits xs))) (before_commit-first c es h)

-- where a call's Begin stands
stands_kept : (es : List Entry) (e : Entry) (begun more : List ℕ) (c : ℕ) → has_begun c es ≡ true → ((at place : ℕ) → slice_get begun at ≡ Some place → slice_get more at ≡ Some place)
    → HasBegin es begun c → HasBegin (es ++ e ∷ []) more c
stands_kept es e begun more c h keeps s = go (call_of c es) refl
  where
    go : (o : Option Call) → call_of c es ≡ o → HasBegin (es ++ e ∷ []) more c
    go None f = let z : false ≡ true = sym (ap (λ (o : Option Call). is_some o) f) ∙ is_some-call_of c es ∙ h in absurd (cc)
    go (Some call) f = record {
      at = s.at;
      place = s.place;
      numbered = s.numbered;
      kept = keeps s.at s.place s.kept;
      called = begun_kept es e s.place call (s.called ∙ f) ∙ sym (call_of-kept c es e h ∙ f);
    }

-- no entries
pub index_new : IsIndex [] [] [] []
index_new = record {
  count = refl;
  beside = refl;
  stands = λ c h. absurd (cc);
  placed = none;
  calls = refl;
  begun_first = λ c h. absurd (cc);
}
  where
    none : (c : ℕ) → kept_for [] c ≡ place_of c []
    none zero = refl
    none (suc at) = refl

-- a Return is in no index
pub index_returned : (es : List Entry) (begun : List ℕ) (places : List (Option ℕ)) (order : List ℕ) (c : ℕ) (r : Reply) → IsIndex es begun places order → IsIndex (es ++ Return c r ∷ []) begun places order
index_returned es begun places order c r index = record {
  count = index.count ∙ sym same;
  beside = index.beside ∙ sym same;
  stands = λ d h. (let was : has_begun d es ≡ true = sym (list_any-push (is_begin d) es (Return c r) ∙ or_false (has_begun d es)) ∙ h in stands_kept es (Return c r) begun begun d was (λ at place k. k) (index.stands d was));
  placed = λ d. index.placed d ∙ sym (place_kept d es (Return c r) refl);
  calls = calls_kept es (Return c r) order (commits es) index.calls ∙ ap (λ (xs : List Call). map (λ (call : Call). Some call) xs) (sym (commits-push es (Return c r) index.begun_first ∙ append-nil (commits es)));
  begun_first = begun_first-push es (Return c r) index.begun_first (λ d h. absurd (cc));
}
  where
    same : begins (es ++ Return c r ∷ []) ≡ begins es
    same = let p : begins (es ++ Return c r ∷ []) ≡ begins es + 0 = begins_push es (Return c r) in omega (arith, p)

-- a Begin
pub index_begun : (es : List Entry) (begun : List ℕ) (places : List (Option ℕ)) (order : List ℕ) (c seat : ℕ) (call : Call) (at : ℕ) → IsIndex es begun places order → c ≡ begins es + 1 → at ≡ length es
    → IsIndex (es ++ Begin c seat call ∷ []) (begun ++ at ∷ []) (places ++ None ∷ []) order
index_begun es begun places order c seat call at index number last = record {
  count = (let p : length (begun ++ at ∷ []) ≡ length begun + 1 = length_push begun at in omega (arith, p, more, index.count));
  beside = (let p : length (places ++ None ∷ []) ≡ length places + 1 = length_push places None in omega (arith, p, more, index.beside));
  stands = λ d h. by d (has_begun d es) refl h;
  placed = λ d. kept_push places d ∙ index.placed d ∙ sym (place_kept d es (Begin c seat call) refl);
  calls = calls_kept es (Begin c seat call) order (commits es) index.calls ∙ ap (λ (xs : List Call). map (λ (call : Call). Some call) xs) (sym (commits-push es (Begin c seat call) index.begun_first ∙ append-nil (commits es)));
  begun_first = begun_first-push es (Begin c seat call) index.begun_first (λ d h. absurd (cc));
}
  where
    more : begins (es ++ Begin c seat call ∷ []) ≡ begins es + 1
    more = begins_push es (Begin c seat call)

    none : (d : ℕ) → has_begun d es ≡ false → call_of d es ≡ None
    none d h = go (call_of d es) (is_some-call_of d es ∙ h)
      where
        go : (o : Option Call) → is_some o ≡ false → o ≡ None
        go None f = refl
        go (Some x) f = absurd (cc)

    by : (d : ℕ) (b : Bool) → has_begun d es ≡ b → has_begun d (es ++ Begin c seat call ∷ []) ≡ true → HasBegin (es ++ Begin c seat call ∷ []) (begun ++ at ∷ []) d
    by d true f h = stands_kept es (Begin c seat call) begun (begun ++ at ∷ []) d f (push_kept begun at) (index.stands d f)
    by d false f h =
        let same : (d == c) ≡ true = sym (list_any-push (is_begin d) es (Begin c seat call) ∙ ap (λ (b : Bool). b || (d == c)) f) ∙ h in
        let is : d ≡ c = eqb-true d c same in
        record {
          at = length begun;
          place = at;
          numbered = omega (arith, is, number, index.count);
          kept = push_seam begun at (length begun) refl;
          called = ap call_begun (push_seam es (Begin c seat call) at last)
              ∙ sym (call_of-push d es (Begin c seat call) ∙ ap (λ (o : Option Call). Rattle.fs_names.specs.Failures.or_else o (begun_as d (Begin c seat call))) (none d f) ∙ ap (λ (b : Bool). cond b (Some call) None) same);
        }

-- a Commit
pub index_committed : (es : List Entry) (begun : List ℕ) (places : List (Option ℕ)) (order : List ℕ) (c at place n : ℕ) → IsIndex es begun places order → has_begun c es ≡ true → has_committed c es ≡ false
    → c ≡ at + 1 → place ≡ get_or begun at place → n ≡ length order → IsIndex (es ++ Commit c ∷ []) begun (slice_set places at (Some n)) (order ++ place ∷ [])
index_committed es begun places order c at place n index has not number read last = record {
  count = index.count ∙ sym same;
  beside = length_set places at (Some n) ∙ index.beside ∙ sym same;
  stands = λ d h. (let was : has_begun d es ≡ true = sym (list_any-push (is_begin d) es (Commit c) ∙ or_false (has_begun d es)) ∙ h in stands_kept es (Commit c) begun begun d was (λ i p k. k) (index.stands d was));
  placed = λ d. by d (d == c) refl;
  calls = one (call_of c es) refl;
  begun_first = begun_first-push es (Commit c) index.begun_first (λ d h. subst (λ (m : ℕ). has_begun m es ≡ true) (sym (eqb-true d c h)) has);
}
  where
    same : begins (es ++ Commit c ∷ []) ≡ begins es
    same = let p : begins (es ++ Commit c ∷ []) ≡ begins es + 0 = begins_push es (Commit c) in omega (arith, p)

    mine : HasBegin es begun c
    mine = index.stands c has

    here : mine.at ≡ at
    here = let e : c ≡ mine.at + 1 = mine.numbered in omega (arith, e, number)

    within : at < length begun
    within = subst (λ (m : ℕ). m < length begun) here (slice_get_within begun mine.at mine.place mine.kept)

    stood : place ≡ mine.place
    stood =
        let z : ◌≡◌ {A = Option ℕ} (Some place) (Some mine.place) = sym (slice_get_read begun _ at place refl within read) ∙ ap (slice_get begun) (sym here) ∙ mine.kept in cc

    by : (d : ℕ) (b : Bool) → (d == c) ≡ b → kept_for (slice_set places at (Some n)) d ≡ place_of d (es ++ Commit c ∷ [])
    by d true f =
        let is : d ≡ c = eqb-true d c f in
        kept_set places at d (Some n) (is ∙ number) (omega (arith, within, index.count, index.beside))
        ∙ ap (λ (m : ℕ). Some m) (last ∙ same_length (begun_at es) order (commits es) index.calls)
        ∙ sym (ap (λ (m : ℕ). place_of m (es ++ Commit c ∷ [])) is ∙ place_first c es not)
    by d false f =
        kept_else places at d (Some n) (λ e. (let z : (d == c) ≡ true = eq-eqb d c (e ∙ sym number) in let y : true ≡ false = sym z ∙ f in cc))
        ∙ index.placed d ∙ sym (place_kept d es (Commit c) f)

    one : (o : Option Call) → call_of c es ≡ o → map (begun_at (es ++ Commit c ∷ [])) (order ++ place ∷ []) ≡ map (λ (call : Call). Some call) (commits (es ++ Commit c ∷ []))
    one None f = let z : false ≡ true = sym (ap (λ (o : Option Call). is_some o) f) ∙ is_some-call_of c es ∙ has in absurd (cc)
    one (Some call) f =
        map_push (begun_at (es ++ Commit c ∷ [])) order place
        ∙ ap₂ (λ (xs : List (Option Call)) (x : Option Call). xs ++ x ∷ []) (calls_kept es (Commit c) order (commits es) index.calls) (begun_kept es (Commit c) place call (ap (begun_at es) stood ∙ mine.called ∙ f))
        ∙ sym (map_push (λ (call : Call). Some call) (commits es) call)
        ∙ ap (λ (xs : List Call). map (λ (call : Call). Some call) xs) (sym (commits-push es (Commit c) index.begun_first ∙ ap (λ (o : Option Call). commits es ++ with_call o []) (call_of-kept c es (Commit c) has ∙ f)))

-- the call of a commit, by where its Begin stands
call_at : (f : ℕ → Option Call) (order : List ℕ) (calls : List Call) (i place : ℕ) → map f order ≡ map (λ (call : Call). Some call) calls → slice_get order i ≡ Some place → (call : Call) × (f place ≡ Some call) × (slice_get calls i ≡ Some call)
call_at f [] calls i place h e = absurd (cc)
call_at f (at ∷ order) [] i place h e = absurd (cc)
call_at f (at ∷ order) (call ∷ calls) zero place h e =
    let here : f at ≡ Some call = cc in
    let is : at ≡ place = cc in
    (call, ap f (sym is) ∙ here, refl)
call_at f (at ∷ order) (call ∷ calls) (suc i) place h e =
    let rest : map f order ≡ map (λ (call : Call). Some call) calls = cc in
    call_at f order calls i place rest e

begun_entry : (es : List Entry) (place : ℕ) (call : Call) → begun_at es place ≡ Some call → (c : ℕ) × (seat : ℕ) × (slice_get es place ≡ Some (Begin c seat call))
begun_entry es place call h = go (slice_get es place) refl h
  where
    go : (o : Option Entry) → slice_get es place ≡ o → call_begun o ≡ Some call → (c : ℕ) × (seat : ℕ) × (slice_get es place ≡ Some (Begin c seat call))
    go None f g = absurd (cc)
    go (Some (Begin c seat other)) f g = let is : other ≡ call = cc in (c, seat, f ∙ ap (λ (x : Call). Some (Begin c seat x)) is)
    go (Some (Commit c)) f g = absurd (cc)
    go (Some (Return c r)) f g = absurd (cc)

-- the Begin of the call of a commit
pub record Committed (es : List Entry) (i place : ℕ) : Type 0 where
  pub number : ℕ
  pub seat : ℕ
  pub call : Call
  pub entry : slice_get es place ≡ Some (Begin number seat call)
  pub is : slice_get (commits es) i ≡ Some call

pub committed_at : (es : List Entry) (begun : List ℕ) (places : List (Option ℕ)) (order : List ℕ) (i place : ℕ) → IsIndex es begun places order → i < length (commits es) → place ≡ get_or order i place → Committed es i place
committed_at es begun places order i place index within read =
    let l : length order ≡ length (commits es) = same_length (begun_at es) order (commits es) index.calls in
    let a : (call : Call) × (begun_at es place ≡ Some call) × (slice_get (commits es) i ≡ Some call) = call_at (begun_at es) order (commits es) i place index.calls (slice_get_read order _ i place refl (omega (arith, l, within)) read) in
    let b : (c : ℕ) × (seat : ℕ) × (slice_get es place ≡ Some (Begin c seat a.0)) = begun_entry es place a.0 a.1 in
    record { number = b.0; seat = b.1; call = a.0; entry = b.2; is = a.2 }

-- a begun call's number is above 0 and within the lists by call numbers
pub within_lists : (es : List Entry) (begun : List ℕ) (places : List (Option ℕ)) (order : List ℕ) (c : ℕ) → IsIndex es begun places order → has_begun c es ≡ true → (1 ≤ c) × (c ≤ length begun) × (c ≤ length places)
within_lists es begun places order c index has =
    let s : HasBegin es begun c = index.stands c has in
    let w : s.at < length begun = slice_get_within begun s.at s.place s.kept in
    (omega (arith, s.numbered), omega (arith, s.numbered, w), omega (arith, s.numbered, w, index.count, index.beside))

-- the entry at which the Begin of the call of a commit is read
pub committed_within : (es : List Entry) (i place : ℕ) → Committed es i place → place < length es
committed_within es i place c = slice_get_within es place (Begin c.number c.seat c.call) c.entry

pub committed_entry : (es read : List Entry) (i place : ℕ) (e : Entry) → read ≡ es → (c : Committed es i place) → e ≡ get_or read place e → e ≡ Begin c.number c.seat c.call
committed_entry es read i place e same c is =
    let z : ◌≡◌ {A = Option Entry} (Some e) (Some (Begin c.number c.seat c.call)) =
    sym (slice_get_read es _ place e refl (committed_within es i place c) (is ∙ ap (λ (xs : List Entry). get_or xs place e) same)) ∙ c.entry in
    cc

pub committed_call : (es read : List Entry) (i place number seat : ℕ) (e : Entry) (call : Call) → read ≡ es → Committed es i place → e ≡ get_or read place e → e ≡ Begin number seat call → slice_get (commits es) i ≡ Some call
committed_call es read i place number seat e call same c is begin =
    let z : Begin c.number c.seat c.call ≡ Begin number seat call = sym (committed_entry es read i place e same c is) ∙ begin in
    let y : c.call ≡ call = cc in
    c.is ∙ ap (λ (x : Call). Some x) y

-- what may be pushed, by the kind of entry
pub fits_begin : (before : List Entry) (e : Entry) (c seat : ℕ) (call : Call) → Fits before e → e ≡ Begin c seat call → c ≡ begins before + 1
fits_begin before e c seat call fits is = subst (Fits before) is fits

pub fits_commit : (before : List Entry) (e : Entry) (c : ℕ) → Fits before e → e ≡ Commit c → (has_begun c before ≡ true) × (has_committed c before ≡ false)
fits_commit before e c fits is = subst (Fits before) is fits

pub commit_within : (es : List Entry) (begun : List ℕ) (places : List (Option ℕ)) (order : List ℕ) (e : Entry) (c : ℕ) → IsIndex es begun places order → Fits es e → e ≡ Commit c → (1 ≤ c) × (c ≤ length begun) × (c ≤ length places)
commit_within es begun places order e c index fits is = within_lists es begun places order c index (fits_commit es e c fits is).0

pub index_pushed : (es : List Entry) (begun : List ℕ) (places : List (Option ℕ)) (order : List ℕ) (e : Entry) (c got place n : ℕ) → IsIndex es begun places order → Fits es e → e ≡ Commit c
    → got ≡ c → place ≡ get_or begun (got - 1) place → n ≡ length order → IsIndex (es ++ Commit c ∷ []) begun (slice_set places (got - 1) (Some n)) (order ++ place ∷ [])
index_pushed es begun places order e c got place n index fits is same read last =
    let f : (has_begun c es ≡ true) × (has_committed c es ≡ false) = fits_commit es e c fits is in
    let w : (1 ≤ c) × (c ≤ length begun) × (c ≤ length places) = within_lists es begun places order c index f.0 in
    index_committed es begun places order c (got - 1) place n index f.0 f.1 (omega (arith, same, w.0)) read last
