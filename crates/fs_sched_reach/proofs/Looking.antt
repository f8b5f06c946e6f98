-- What a lookout knows of the moments that it got.
use Rattle.std.proofs.Common.{◌≡◌, ℕ, ◌+◌, ◌-◌, ◌<◌, ◌≤◌, eqb, ltb, Bool, true, false, ◌||◌, List, [], ◌∷◌, ◌++◌, length, take, Option, Some, None, cond, ◌⊎◌, refl, sym, ap, ◌∙◌, subst, inl, inr, append_assoc, append-nil, length-append, arith}
use Rattle.std.specs.List.{list_any}
use Rattle.std.proofs.Math.Seq.{take-add, take-length, take-nil}
use Rattle.std.proofs.lemmas.Bool.{cases_lt, cond-true, cond-false, ltb-true, ltb-false}
use Rattle.std.proofs.lemmas.Bool.Decides.{nat_tests}
use Rattle.std.proofs.lemmas.List.{take-append-le}
use Rattle.std.proofs.lemmas.List.Folds.{list_any-append}
use Rattle.fs_sched_witness.specs.declared.moments.Moment.{Moment}
use Rattle.fs_sched_reach.specs.Coming.{begin_of, begun_at, has_come, has_come_from, is_commit}
use Rattle.fs_sched_reach.specs.code.Hearing.{stand_after, stand_by, not_before, Answers, HasHeard, NoneBefore, StandsAt}
use Rattle.fs_sched_reach.specs.declared.lookout.Lookout.{Lookout}
use Rattle.fs_sched_reach.specs.declared.lookout.Stand.{Stand}
use Rattle.fs_sched_reach.specs.declared.lookout.Stand.TheVariants.{Ahead, Pending, Come}
use Rattle.fs_sched_reach.specs.declared.target.Target.{Target}

-- ---- the begin of a call

-- what the next moment makes of it
abbrev begin_step : ℕ → ℕ → List Moment → Option ℕ → Option (ℕ × List Moment)
begin_step seat k ms o = elim o [ None ↦ begin_of seat k ms | Some c ↦ cond (eqb k 1) (Some (c, ms)) (begin_of seat (k - 1) ms) ]

begin_by : (seat k : ℕ) (m : Moment) (ms : List Moment) (o : Option ℕ) → begun_at seat m ≡ o → begin_of seat k (m ∷ ms) ≡ begin_step seat k ms o
begin_by seat k m ms o e = ap (begin_step seat k ms) e

begin_none : (seat k : ℕ) (m : Moment) (ms : List Moment) → begun_at seat m ≡ None → begin_of seat k (m ∷ ms) ≡ begin_of seat k ms
begin_none seat k m ms e = begin_by seat k m ms None e

begin_here : (seat k c : ℕ) (m : Moment) (ms : List Moment) → begun_at seat m ≡ Some c → eqb k 1 ≡ true → begin_of seat k (m ∷ ms) ≡ Some (c, ms)
begin_here seat k c m ms e first = begin_by seat k m ms (Some c) e ∙ cond-true _ _ _ first

begin_later : (seat k c : ℕ) (m : Moment) (ms : List Moment) → begun_at seat m ≡ Some c → eqb k 1 ≡ false → begin_of seat k (m ∷ ms) ≡ begin_of seat (k - 1) ms
begin_later seat k c m ms e later = begin_by seat k m ms (Some c) e ∙ cond-false _ _ _ later

-- more moments come after those that follow it
abbrev MoreOf : ℕ → List Moment → List Moment → ℕ → List Moment → ℕ → Type 0
MoreOf seat xs ys c later k = begin_of seat k xs ≡ Some (c, later) → begin_of seat k (xs ++ ys) ≡ Some (c, later ++ ys)

more_begun : (seat k : ℕ) (m : Moment) (xs ys : List Moment) (c : ℕ) (later : List Moment) (d : ℕ) → begun_at seat m ≡ Some d → MoreOf seat xs ys c later (k - 1) → (b : Bool) → eqb k 1 ≡ b → MoreOf seat (m ∷ xs) ys c later k
more_begun seat k m xs ys c later d is more true first e =
    let here : ◌≡◌ {A = Option (ℕ × List Moment)} (Some (d, xs)) (Some (c, later)) = sym (begin_here seat k d m xs is first) ∙ e in
    let both : ◌≡◌ {A = ℕ × List Moment} (d, xs) (c, later) = cc in
    begin_here seat k d m (xs ++ ys) is first ∙ ap (λ (p : ℕ × List Moment). Some (p.0, p.1 ++ ys)) both
more_begun seat k m xs ys c later d is more false other e = begin_later seat k d m (xs ++ ys) is other ∙ more (sym (begin_later seat k d m xs is other) ∙ e)

more_by : (seat k : ℕ) (m : Moment) (xs ys : List Moment) (c : ℕ) (later : List Moment) → ((j : ℕ) → MoreOf seat xs ys c later j) → (o : Option ℕ) → begun_at seat m ≡ o → MoreOf seat (m ∷ xs) ys c later k
more_by seat k m xs ys c later more None is e = begin_none seat k m (xs ++ ys) is ∙ more k (sym (begin_none seat k m xs is) ∙ e)
more_by seat k m xs ys c later more (Some d) is e = more_begun seat k m xs ys c later d is (more (k - 1)) (eqb k 1) refl e

begin_more : (seat k : ℕ) (xs ys : List Moment) (c : ℕ) (later : List Moment) → MoreOf seat xs ys c later k
begin_more seat k [] ys c later e = absurd (cc)
begin_more seat k (m ∷ xs) ys c later e = more_by seat k m xs ys c later (λ j. begin_more seat j xs ys c later) (begun_at seat m) refl e

-- ---- how far a call has come

come_by : (commits : Bool) (seat call c : ℕ) (later : List Moment) → (commits ≡ true → list_any (is_commit seat c) later ≡ true) → has_come_from (record { seat = seat; call = call; to_commit = commits }) (Some (c, later)) ≡ true
come_by true seat call c later some = some refl
come_by false seat call c later some = refl

any_more : (p : Moment → Bool) (xs ys : List Moment) → list_any p xs ≡ true → list_any p (xs ++ ys) ≡ true
any_more p xs ys e = list_any-append p xs ys ∙ ap (λ (b : Bool). b || list_any p ys) e

came : (target : Target) (c : ℕ) (later : List Moment) → has_come_from target (Some (c, later)) ≡ true → target.to_commit ≡ true → list_any (is_commit target.seat c) later ≡ true
came target c later e commits = sym (ap (λ (b : Bool). cond b (list_any (is_commit target.seat c) later) true) commits) ∙ e

-- more moments keep that it has come so far
pub come_more : (target : Target) (xs ys : List Moment) → has_come target xs ≡ true → has_come target (xs ++ ys) ≡ true
come_more target xs ys e = go (begin_of target.seat target.call xs) refl
  where
    go : (o : Option (ℕ × List Moment)) → begin_of target.seat target.call xs ≡ o → has_come target (xs ++ ys) ≡ true
    go None is = absurd (let no : false ≡ true = sym (ap (has_come_from target) is) ∙ e in cc)
    go (Some (c, later)) is =
        ap (has_come_from target) (begin_more target.seat target.call xs ys c later is)
        ∙ come_by target.to_commit target.seat target.call c (later ++ ys) (λ commits. any_more (is_commit target.seat c) later ys (came target c later (sym (ap (has_come_from target) is) ∙ e) commits))

-- ---- fewer moments

none_kept : (target : Target) (ms ys : List Moment) (n : ℕ) → n ≤ length ms + 1 → NoneBefore target ms n → NoneBefore target (ms ++ ys) n
none_kept target ms ys n few none j less = ap (has_come target) (take-append-le j ms ys (omega (arith, few, less))) ∙ none j less

one_more : (ms : List Moment) (m : Moment) → length (ms ++ m ∷ []) ≡ length ms + 1
one_more ms m = length-append ms (m ∷ [])

none_more : (target : Target) (ms : List Moment) (m : Moment) → NoneBefore target ms (length ms + 1) → has_come target (ms ++ m ∷ []) ≡ false → NoneBefore target (ms ++ m ∷ []) (length (ms ++ m ∷ []) + 1)
none_more target ms m none now j less = go (cases_lt j (length ms + 1))
  where
    go : (j < length ms + 1) ⊎ (length ms + 1 ≤ j) → has_come target (take j (ms ++ m ∷ [])) ≡ false
    go (inl low) = none_kept target ms (m ∷ []) (length ms + 1) (omega arith) none j low
    go (inr high) =
        let all : j ≡ length (ms ++ m ∷ []) = omega (arith, high, less, one_more ms m) in
        ap (λ (n : ℕ). has_come target (take n (ms ++ m ∷ []))) all ∙ ap (has_come target) (take-length (ms ++ m ∷ [])) ∙ now

-- ---- a moment more

-- what is to hold of where a call stands
abbrev pub Stands : Target → Stand → List Moment → Type 0
Stands target stand ms = StandsAt target stand ms × NoneBefore target ms (not_before stand (length ms))

comes_now : (target : Target) (ms : List Moment) (m : Moment) (seen : ℕ) → seen ≡ length ms + 1 → NoneBefore target ms (length ms + 1) → has_come target (ms ++ m ∷ []) ≡ true → Stands target (Come seen) (ms ++ m ∷ [])
comes_now target ms m seen count none now =
    let all : seen ≡ length (ms ++ m ∷ []) = count ∙ sym (one_more ms m) in
    ((omega (arith, all), ap (λ (n : ℕ). has_come target (take n (ms ++ m ∷ []))) all ∙ ap (has_come target) (take-length (ms ++ m ∷ [])) ∙ now), none_kept target ms (m ∷ []) seen (omega (arith, count)) (subst (NoneBefore target ms) (sym count) none))

goes_on : (seat call left : ℕ) (ms : List Moment) (m : Moment) → ((more : List Moment) → begin_of seat call (ms ++ more) ≡ begin_of seat left more) → (more : List Moment) → begin_of seat call ((ms ++ m ∷ []) ++ more) ≡ begin_of seat left (m ∷ more)
goes_on seat call left ms m is more = ap (begin_of seat call) (append_assoc ms (m ∷ []) more) ∙ is (m ∷ more)

still_ahead : (target : Target) (left : ℕ) (ms : List Moment) (m : Moment) → 1 ≤ left → ((more : List Moment) → begin_of target.seat target.call ((ms ++ m ∷ []) ++ more) ≡ begin_of target.seat left more) → NoneBefore target ms (length ms + 1) → Stands target (Ahead left) (ms ++ m ∷ [])
still_ahead target left ms m some is none =
    let nothing : begin_of target.seat target.call (ms ++ m ∷ []) ≡ None = ap (begin_of target.seat target.call) (sym (append-nil (ms ++ m ∷ []))) ∙ is [] in
    ((some, is), none_more target ms m none (ap (has_come_from target) nothing))

-- its own begin
begins_now : (target : Target) (left c : ℕ) (ms : List Moment) (m : Moment) (seen : ℕ) → seen ≡ length ms + 1 → ((more : List Moment) → begin_of target.seat target.call ((ms ++ m ∷ []) ++ more) ≡ Some (c, more)) → NoneBefore target ms (length ms + 1)
    → Stands target (cond target.to_commit (Pending c) (Come seen)) (ms ++ m ∷ [])
begins_now target left c ms m seen count is none = go target.to_commit refl
  where
    begun : begin_of target.seat target.call (ms ++ m ∷ []) ≡ Some (c, [])
    begun = ap (begin_of target.seat target.call) (sym (append-nil (ms ++ m ∷ []))) ∙ is []

    go : (b : Bool) → target.to_commit ≡ b → Stands target (cond target.to_commit (Pending c) (Come seen)) (ms ++ m ∷ [])
    go true commits =
        let no : has_come target (ms ++ m ∷ []) ≡ false = ap (has_come_from target) begun ∙ ap (λ (b : Bool). cond b false true) commits in
        subst (λ (b : Bool). Stands target (cond b (Pending c) (Come seen)) (ms ++ m ∷ [])) (sym commits) ((commits, [], is, refl), none_more target ms m none no)
    go false begins =
        let yes : has_come target (ms ++ m ∷ []) ≡ true = ap (has_come_from target) begun ∙ ap (λ (b : Bool). cond b false true) begins in
        subst (λ (b : Bool). Stands target (cond b (Pending c) (Come seen)) (ms ++ m ∷ [])) (sym begins) (comes_now target ms m seen count none yes)

ahead_more : (target : Target) (left : ℕ) (ms : List Moment) (m : Moment) (seen : ℕ) → seen ≡ length ms + 1 → 1 ≤ left → ((more : List Moment) → begin_of target.seat target.call (ms ++ more) ≡ begin_of target.seat left more) → NoneBefore target ms (length ms + 1)
    → (o : Option ℕ) → begun_at target.seat m ≡ o → Stands target (stand_by target left seen o) (ms ++ m ∷ [])
ahead_more target left ms m seen count some is none None e =
    still_ahead target left ms m some (λ more. goes_on target.seat target.call left ms m is more ∙ begin_none target.seat left m more e) none
ahead_more target left ms m seen count some is none (Some c) e = go (ltb 1 left) refl
  where
    go : (b : Bool) → ltb 1 left ≡ b → Stands target (stand_by target left seen (Some c)) (ms ++ m ∷ [])
    go true more_left =
        let less : 1 < left = ltb-true _ _ more_left in
        let no : eqb left 1 ≡ false = grind (arith, nat_tests) in
        subst (λ (b : Bool). Stands target (cond b (Ahead (left - 1)) (cond target.to_commit (Pending c) (Come seen))) (ms ++ m ∷ [])) (sym more_left)
        (still_ahead target (left - 1) ms m (omega (arith, less)) (λ more. goes_on target.seat target.call left ms m is more ∙ begin_later target.seat left c m more e no) none)
    go false last =
        let most : left ≤ 1 = ltb-false _ _ last in
        let yes : eqb left 1 ≡ true = grind (arith, nat_tests) in
        subst (λ (b : Bool). Stands target (cond b (Ahead (left - 1)) (cond target.to_commit (Pending c) (Come seen))) (ms ++ m ∷ [])) (sym last)
        (begins_now target left c ms m seen count (λ more. goes_on target.seat target.call left ms m is more ∙ begin_here target.seat left c m more e yes) none)

or_false : (b : Bool) → (b || false) ≡ b
or_false true = refl
or_false false = refl

pending_more : (target : Target) (c : ℕ) (ms : List Moment) (m : Moment) (seen : ℕ) → seen ≡ length ms + 1 → StandsAt target (Pending c) ms → NoneBefore target ms (length ms + 1)
    → (b : Bool) → is_commit target.seat c m ≡ b → Stands target (cond b (Come seen) (Pending c)) (ms ++ m ∷ [])
pending_more target c ms m seen count (commits, later, is, lacks) none b e = go b e
  where
    is_more : (more : List Moment) → begin_of target.seat target.call ((ms ++ m ∷ []) ++ more) ≡ Some (c, (later ++ m ∷ []) ++ more)
    is_more more = ap (begin_of target.seat target.call) (append_assoc ms (m ∷ []) more) ∙ is (m ∷ more) ∙ ap (λ (l : List Moment). Some (c, l)) (sym (append_assoc later (m ∷ []) more))

    begun : begin_of target.seat target.call (ms ++ m ∷ []) ≡ Some (c, later ++ m ∷ [])
    begun = is (m ∷ [])

    any : list_any (is_commit target.seat c) (later ++ m ∷ []) ≡ is_commit target.seat c m
    any = list_any-append (is_commit target.seat c) later (m ∷ []) ∙ ap (λ (b : Bool). b || list_any (is_commit target.seat c) (m ∷ [])) lacks ∙ or_false (is_commit target.seat c m)

    has : has_come target (ms ++ m ∷ []) ≡ is_commit target.seat c m
    has = ap (has_come_from target) begun ∙ ap (λ (b : Bool). cond b (list_any (is_commit target.seat c) (later ++ m ∷ [])) true) commits ∙ any

    go : (b : Bool) → is_commit target.seat c m ≡ b → Stands target (cond b (Come seen) (Pending c)) (ms ++ m ∷ [])
    go true it = comes_now target ms m seen count none (has ∙ it)
    go false lack = ((commits, later ++ m ∷ [], is_more, any ∙ lack), none_more target ms m none (has ∙ lack))

-- where a call stands after one moment more
pub stands_more : (target : Target) (stand : Stand) (ms : List Moment) (m : Moment) (seen : ℕ) → seen ≡ length ms + 1 → Stands target stand ms → Stands target (stand_after target stand m seen) (ms ++ m ∷ [])
stands_more target (Ahead left) ms m seen count ((some, is), none) = ahead_more target left ms m seen count some is none (begun_at target.seat m) refl
stands_more target (Pending c) ms m seen count (stands, none) = pending_more target c ms m seen count stands none (is_commit target.seat c m) refl
stands_more target (Come n) ms m seen count ((within, comes), none) =
    ((omega (arith, within, one_more ms m), ap (has_come target) (take-append-le n ms (m ∷ []) within) ∙ comes), none_kept target ms (m ∷ []) n (omega (arith, within)) none)

-- before the first moment
pub stands_first : (target : Target) → 1 ≤ target.call → Stands target (Ahead target.call) []
stands_first target some = ((some, λ more. refl), λ j less. ap (has_come target) (take-nil j))

-- ---- what a lookout answers

pub answers_none : (target : Target) (stand : Stand) (ms : List Moment) → NoneBefore target ms (length ms + 1) → has_come target ms ≡ false
answers_none target stand ms none = ap (has_come target) (sym (take-length ms)) ∙ none (length ms) (omega arith)

pub answers_some : (target : Target) (ms : List Moment) (n before : ℕ) → Stands target (Come n) ms → Answers target ms before (Some (n - before))
answers_some target ms n before ((within, comes), none) = (by (cases_lt n before), λ m less. none (before + m) (omega (arith, less)))
  where
    by : (n < before) ⊎ (before ≤ n) → has_come target (take (before + (n - before)) ms) ≡ true
    by (inl low) =
        let sum : before + (n - before) ≡ n + (before - n) = omega (arith, low) in
        ap (λ (k : ℕ). has_come target (take k ms)) sum ∙ ap (has_come target) (take-add n (before - n) ms) ∙ come_more target (take n ms) _ comes
    by (inr high) =
        let sum : before + (n - before) ≡ n = omega (arith, high) in
        ap (λ (k : ℕ). has_come target (take k ms)) sum ∙ comes

-- ---- a lookout

pub heard_more : (old : Lookout) (stand : Stand) (seen : ℕ) (before : List Moment) (m : Moment) → HasHeard old before → seen ≡ old.seen + 1 → stand ≡ stand_after old.target old.stand m seen → HasHeard (record { target = old.target; stand = stand; seen = seen }) (before ++ m ∷ [])
heard_more old stand seen before m heard one is =
    let count : seen ≡ length before + 1 = one ∙ ap (λ (n : ℕ). n + 1) heard.seen in
    let both : Stands old.target stand (before ++ m ∷ []) = subst (λ (s : Stand). Stands old.target s (before ++ m ∷ [])) (sym is) (stands_more old.target old.stand before m seen count (heard.stands, heard.none)) in
    record { seen = count ∙ sym (one_more before m); stands = both.0; none = both.1 }

pub heard_come : (l : Lookout) (ms : List Moment) (n before answer : ℕ) → l.stand ≡ Come n → answer ≡ n - before → HasHeard l ms → Answers l.target ms before (Some answer)
heard_come l ms n before answer is count heard =
    let both : Stands l.target (Come n) ms = subst (λ (s : Stand). Stands l.target s ms) is (heard.stands, heard.none) in
    subst (λ (k : ℕ). Answers l.target ms before (Some k)) (sym count) (answers_some l.target ms n before both)

pub heard_other : (l : Lookout) (ms : List Moment) → ((n : ℕ) → l.stand ≡ Come n → ⊥) → HasHeard l ms → has_come l.target ms ≡ false
heard_other l ms not heard = go l.stand refl
  where
    go : (s : Stand) → l.stand ≡ s → has_come l.target ms ≡ false
    go (Ahead left) is = answers_none l.target (Ahead left) ms (subst (λ (s : Stand). NoneBefore l.target ms (not_before s (length ms))) is heard.none)
    go (Pending c) is = answers_none l.target (Pending c) ms (subst (λ (s : Stand). NoneBefore l.target ms (not_before s (length ms))) is heard.none)
    go (Come n) is = absurd (not n is)
