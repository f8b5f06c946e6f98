-- The commits of entries, found by their numbers and played.
use Rattle.std.proofs.Common.{◌≡◌, ℕ, ◌+◌, ◌<◌, Bool, true, false, ◌==◌, if◌then◌else◌, List, [], ◌∷◌, ◌++◌, take, drop, length, get_or, Option, Some, None, IsSome, is_some, refl, sym, ap, ◌∙◌, subst, arith, suc, add-one, drop-cons, append_assoc, ltb, ◌≤◌}
use Rattle.std.specs.List.{flat_map}
use Rattle.std.proofs.lemmas.List.{map-append, take_more}
use Rattle.std.proofs.lemmas.Bool.{eqb-true, ltb-true, ltb-false}
use Rattle.std.proofs.lemmas.Option.{slice_get_read}
use Rattle.std.specs.Prelude.{slice_get}
use Rattle.std.specs.Borrow.{Bor}
use Rattle.std.specs.Ordering.{is_eq, nat_cmp}
use Rattle.std.specs.BTreeMap.{BTreeMap, get, Updates}
use Rattle.fs_journal.proofs.CheckerLemmas.{same_number}
use Rattle.fs_names.specs.Failures.{or_else}
use Rattle.fs_calls.specs.Starts.{Start}
use Rattle.fs_calls.specs.Outcomes.{next_start, called}
use Rattle.fs_calls.specs.declared.call.Call.{Call}
use Rattle.fs_timeline.specs.Timeline.{call_of, commits, commits_of, has_begun, with_call}
use Rattle.fs_timeline.specs.declared.entry.Entry.{Entry}
use Rattle.fs_timeline.specs.declared.entry.Entry.TheVariants.{Begin, Commit, Return}
use Rattle.fs_timeline.proofs.AppendLemmas.{next_start-push, is_some-call_of}
use Rattle.fs_trace_replay.specs.Commits.{committed, committed_by}
use Rattle.fs_trace_replay.specs.code.Seen.{IsNotAmong, IsPlace, call_by, call_in, calls_in, listed}
use Rattle.fs_trace_replay.specs.declared.commits.Begun.{Begun}

-- ---- the calls that have begun

-- a call that begins is found from there on, where it was not before
pub begun_more : (c d : ℕ) (call : Call) (x y rest : Option Call) → y ≡ (if d == c then Some call else x) → (c ≡ d → x ≡ None) → or_else y rest ≡ or_else x (or_else (if c == d then Some call else None) rest)
begun_more c d call x y rest is new = go (c == d) refl
  where
    turned : (b : Bool) → (c == d) ≡ b → (d == c) ≡ b
    turned b e = grind arith

    go : (b : Bool) → (c == d) ≡ b → or_else y rest ≡ or_else x (or_else (if c == d then Some call else None) rest)
    go true e =
        let none : x ≡ None = new (eqb-true c d e) in
        let found : y ≡ Some call = is ∙ ap (λ b. if b then Some call else x) (turned true e) in
        ap (λ o. or_else o rest) found ∙ sym (ap (λ o. or_else o (or_else (if c == d then Some call else None) rest)) none ∙ ap (λ b. or_else (if b then Some call else None) rest) e)
    go false e =
        let same : y ≡ x = is ∙ ap (λ b. if b then Some call else x) (turned false e) in
        ap (λ o. or_else o rest) same ∙ sym (ap (λ b. or_else x (or_else (if b then Some call else None) rest)) e)

-- one that is found already stays so
pub begun_again : (c d : ℕ) (call : Call) (x rest : Option Call) → (c ≡ d → IsSome x) → or_else x rest ≡ or_else x (or_else (if c == d then Some call else None) rest)
begun_again c d call None rest some = go (c == d) refl
  where
    go : (b : Bool) → (c == d) ≡ b → rest ≡ or_else (if c == d then Some call else None) rest
    go true e = absurd (let h = some (eqb-true c d e) in cc)
    go false e = sym (ap (λ b. or_else (if b then Some call else None) rest) e)
begun_again c d call (Some found) rest some = refl

-- what is found once a call was put in
call_if : (b : Bool) (begun : Begun) (o : Option Begun) → call_in (if b then Some begun else o) ≡ (if b then Some begun.call.now else call_in o)
call_if true begun o = refl
call_if false begun o = refl

cut : (es : List Entry) (i : ℕ) (e : Entry) → i < length es → e ≡ get_or es i e → drop i es ≡ e ∷ drop (i + 1) es
cut es i e less is = rw (add-one) (drop-cons es i e less ∙ ap (λ x. x ∷ drop (suc i) es) (sym is))

no_call : (o : Option Begun) → is_some o ≡ false → call_in o ≡ None
no_call None h = refl
no_call (Some begun) h = absurd (cc)

a_call : (o : Option Begun) → is_some o ≡ true → IsSome (call_in o)
a_call None h = absurd (cc)
a_call (Some begun) h = refl

pub begun_new : (before after : BTreeMap ℕ Begun) (es : List Entry) (i k d s : ℕ) (begun : Begun) (call : Call) (e : Entry) → Updates nat_cmp before after k (Some begun) → begun.call.now ≡ call → k ≡ d → i < length es → e ≡ get_or es i e → e ≡ Begin d s call → is_some (get nat_cmp before d) ≡ false
    → ((c : ℕ) → or_else (call_in (get nat_cmp before c)) (call_of c (drop i es)) ≡ call_of c es) → (c : ℕ) → or_else (call_in (get nat_cmp after c)) (call_of c (drop (i + 1) es)) ≡ call_of c es
begun_new before after es i k d s begun call e updates its keyed less at is none all c =
    let at_d : Updates nat_cmp before after d (Some begun) = subst (λ z. Updates nat_cmp before after z (Some begun)) keyed updates in
    let here : drop i es ≡ Begin d s call ∷ drop (i + 1) es = cut es i e less at ∙ ap (λ x. x ∷ drop (i + 1) es) is in
    let put : call_in (get nat_cmp after c) ≡ (if d == c then Some call else call_in (get nat_cmp before c)) = ap call_in (at_d.0 c) ∙ call_if (is_eq (nat_cmp d c)) begun (get nat_cmp before c) ∙ ap (λ b. if b then Some begun.call.now else call_in (get nat_cmp before c)) (same_number d c) ∙ ap (λ x. if d == c then Some x else call_in (get nat_cmp before c)) its in
    begun_more c d call (call_in (get nat_cmp before c)) (call_in (get nat_cmp after c)) (call_of c (drop (i + 1) es)) put (λ same. ap (λ z. call_in (get nat_cmp before z)) same ∙ no_call (get nat_cmp before d) none)
    ∙ ap (λ xs. or_else (call_in (get nat_cmp before c)) (call_of c xs)) (sym here) ∙ all c

pub begun_old : (before : BTreeMap ℕ Begun) (es : List Entry) (i d s : ℕ) (call : Call) (e : Entry) → i < length es → e ≡ get_or es i e → e ≡ Begin d s call → is_some (get nat_cmp before d) ≡ true
    → ((c : ℕ) → or_else (call_in (get nat_cmp before c)) (call_of c (drop i es)) ≡ call_of c es) → (c : ℕ) → or_else (call_in (get nat_cmp before c)) (call_of c (drop (i + 1) es)) ≡ call_of c es
begun_old before es i d s call e less at is some all c =
    let here : drop i es ≡ Begin d s call ∷ drop (i + 1) es = cut es i e less at ∙ ap (λ x. x ∷ drop (i + 1) es) is in
    begun_again c d call (call_in (get nat_cmp before c)) (call_of c (drop (i + 1) es)) (λ same. subst (λ k. IsSome (call_in (get nat_cmp before k))) (sym same) (a_call (get nat_cmp before d) some))
    ∙ ap (λ xs. or_else (call_in (get nat_cmp before c)) (call_of c xs)) (sym here) ∙ all c

passed : (c : ℕ) (e : Entry) (more : List Entry) → ((d s : ℕ) (call : Call) → e ≡ Begin d s call → ⊥) → call_of c (e ∷ more) ≡ call_of c more
passed c (Begin d s call) more none = absurd (none d s call refl)
passed c (Commit d) more none = refl
passed c (Return d r) more none = refl

pub begun_none : (before : BTreeMap ℕ Begun) (es : List Entry) (i : ℕ) (e : Entry) → i < length es → e ≡ get_or es i e → ((d s : ℕ) (call : Call) → e ≡ Begin d s call → ⊥)
    → ((c : ℕ) → or_else (call_in (get nat_cmp before c)) (call_of c (drop i es)) ≡ call_of c es) → (c : ℕ) → or_else (call_in (get nat_cmp before c)) (call_of c (drop (i + 1) es)) ≡ call_of c es
begun_none before es i e less at none all c =
    ap (or_else (call_in (get nat_cmp before c))) (sym (passed c e (drop (i + 1) es) none)) ∙ ap (λ xs. or_else (call_in (get nat_cmp before c)) (call_of c xs)) (sym (cut es i e less at)) ∙ all c

-- whether it is there tells whether it has begun
pub has_number : (begun : BTreeMap ℕ Begun) (whole : List Entry) (c : ℕ) → ((d : ℕ) → call_in (get nat_cmp begun d) ≡ call_of d whole) → is_some (get nat_cmp begun c) ≡ has_begun c whole
has_number begun whole c are = same (get nat_cmp begun c) ∙ ap is_some (are c) ∙ is_some-call_of c whole
  where
    same : (o : Option Begun) → is_some o ≡ is_some (call_in o)
    same None = refl
    same (Some b) = refl

-- ---- the commits

-- as many numbers as calls
counted_by : (whole : List Entry) (o : Option Call) (c : ℕ) (ns : List ℕ) (calls : List Call) → call_of c whole ≡ o → length ns ≡ length calls → length ((if has_begun c whole then c ∷ [] else []) ++ ns) ≡ length (with_call o calls)
counted_by whole None c ns calls is e = let begun : has_begun c whole ≡ false = sym (is_some-call_of c whole) ∙ ap is_some is in ap (λ b. length ((if b then c ∷ [] else []) ++ ns)) begun ∙ e
counted_by whole (Some call) c ns calls is e = let begun : has_begun c whole ≡ true = sym (is_some-call_of c whole) ∙ ap is_some is in ap (λ b. length ((if b then c ∷ [] else []) ++ ns)) begun ∙ ap suc e

counted_from : (whole es : List Entry) → length (flat_map (committed_by whole) es) ≡ length (commits_of whole es)
counted_from whole [] = refl
counted_from whole (Begin c seat call ∷ es) = counted_from whole es
counted_from whole (Commit c ∷ es) = counted_by whole (call_of c whole) c (flat_map (committed_by whole) es) (commits_of whole es) refl (counted_from whole es)
counted_from whole (Return c r ∷ es) = counted_from whole es

pub committed_counted : (es : List Entry) → length (committed es) ≡ length (commits es)
committed_counted es = counted_from es es

-- one entry further
with_listed : (o : Option Call) (calls : List Call) → with_call o calls ≡ listed o ++ calls
with_listed None calls = refl
with_listed (Some call) calls = refl

one_call : (whole : List Entry) (e : Entry) (more : List Entry) → commits_of whole (e ∷ more) ≡ listed (call_by whole e) ++ commits_of whole more
one_call whole (Begin c seat call) more = refl
one_call whole (Commit c) more = with_listed (call_of c whole) (commits_of whole more)
one_call whole (Return c r) more = refl

pub calls_more : (whole es : List Entry) (old new total : List Call) (i : ℕ) (e : Entry) (o : Option Call) → i < length es → e ≡ get_or es i e → o ≡ call_by whole e → new ≡ old ++ listed o → old ++ commits_of whole (drop i es) ≡ total → new ++ commits_of whole (drop (i + 1) es) ≡ total
calls_more whole es old new total i e o less at is pushed all =
    let rest : List Call = commits_of whole (drop (i + 1) es) in
    let here : commits_of whole (drop i es) ≡ listed o ++ rest = ap (commits_of whole) (cut es i e less at) ∙ one_call whole e (drop (i + 1) es) ∙ ap (λ x. listed x ++ rest) (sym is) in
    ap (λ xs. xs ++ rest) pushed ∙ append_assoc old (listed o) rest ∙ ap (λ xs. old ++ xs) (sym here) ∙ all

pub numbers_more : (whole es : List Entry) (old new total : List ℕ) (i : ℕ) (e : Entry) (o : Option ℕ) → i < length es → e ≡ get_or es i e → listed o ≡ committed_by whole e → new ≡ old ++ listed o → old ++ flat_map (committed_by whole) (drop i es) ≡ total → new ++ flat_map (committed_by whole) (drop (i + 1) es) ≡ total
numbers_more whole es old new total i e o less at is pushed all =
    let rest : List ℕ = flat_map (committed_by whole) (drop (i + 1) es) in
    let here : flat_map (committed_by whole) (drop i es) ≡ listed o ++ rest = ap (flat_map (committed_by whole)) (cut es i e less at) ∙ ap (λ x. x ++ rest) (sym is) in
    ap (λ xs. xs ++ rest) pushed ∙ append_assoc old (listed o) rest ∙ ap (λ xs. old ++ xs) (sym here) ∙ all

-- ---- the trees

-- one call more is played
pub played_more : (start tree : Start) (ks : List (Bor Call)) (i : ℕ) (k : Bor Call) → i < length ks → k ≡ get_or ks i k → tree ≡ next_start start (calls_in (take i ks)) → called tree k.now ≡ next_start start (calls_in (take (i + 1) ks))
played_more start tree ks i k less is e =
    let more : take (i + 1) ks ≡ take i ks ++ k ∷ [] = take_more ks i k less ∙ ap (λ x. take i ks ++ x ∷ []) (sym is) in
    ap (λ t. called t k.now) e ∙ sym (ap (λ xs. next_start start (calls_in xs)) more ∙ ap (next_start start) (map-append (λ (c : Bor Call). c.now) (take i ks) (k ∷ [])) ∙ next_start-push start (calls_in (take i ks)) k.now)

-- ---- the place of a number

pub at_place : (ns : List ℕ) (i c d : ℕ) → i < length ns → d ≡ get_or ns i d → d ≡ c → IsPlace ns c (Some i)
at_place ns i c d less is same = slice_get_read ns (length ns) i d refl less is ∙ ap Some same

pub not_more : (ns : List ℕ) (i c d : ℕ) → i < length ns → d ≡ get_or ns i d → IsNotAmong ns c i → (d ≡ c → ⊥) → IsNotAmong ns c (i + 1)
not_more ns i c d less is none other n few found = go (ltb n i) refl
  where
    go : (b : Bool) → ltb n i ≡ b → ⊥
    go true e = none n (ltb-true n i e) found
    go false e =
        let last : n ≡ i = (let h : i ≤ n = ltb-false n i e in omega (arith, h, few)) in
        let both : ◌≡◌ {A = Option ℕ} (Some c) (Some d) = sym found ∙ ap (slice_get ns) last ∙ slice_get_read ns (length ns) i d refl less is in
        other (let same : c ≡ d = cc in sym same)

pub not_at_all : (ns : List ℕ) (i c : ℕ) → length ns ≤ i → IsNotAmong ns c i → IsPlace ns c None
not_at_all ns i c past none n few found = none n (omega (arith, few, past)) found
