-- How many configurations a history can have: the place of each and its commits, in their order, determine it, so they make a number of it.
use Rattle.std.proofs.Common.{zero, suc, take, ◌≡◌, ◌≤◌, ◌<◌, ◌+◌, ◌*◌, ◌^◌, ◌/◌, ◌%◌, arith, ℕ, Bool, true, false, not, ◌||◌, ◌&&◌, ◌==◌, cond, eqb, List, [], ◌∷◌, ◌++◌, map, length, refl, sym, ap, ◌∙◌, subst, ⊎_elim, if◌then◌else◌}
use Rattle.std.specs.List.{Contains, IsDistinct, AllByRecursion, list_any}
use Rattle.std.proofs.Math.Nat.{one-le-pow, pow-succ', pow-le-pow_right}
use Rattle.std.proofs.lemmas.Bool.{eqb-true, eqb-false, eq-eqb, ne_eqb, or_left, or_right, or_parts, or_cases, cases_Bool, false_from_ne_true}
use Rattle.std.proofs.lemmas.List.{length-map}
use Rattle.std.proofs.lemmas.Map.Steps.{length-le_from_distinct_below}
use Rattle.std.proofs.lemmas.Nat.{mul-add-lt, div-mul-add, mod-mul-add}
use Rattle.fs_calls.specs.Starts.{Start}
use Rattle.fs_calls.specs.Outcomes.{next_start}
use Rattle.fs_calls.specs.declared.call.Call.{Call}
use Rattle.fs_timeline.specs.Timeline.{is_begin, is_commit, has_begun, has_committed, has_returned, call_of, with_call, commits_of, commits, IsNext, Each}
use Rattle.fs_timeline.specs.declared.entry.Entry.{Entry}
use Rattle.fs_timeline.specs.declared.entry.Entry.TheVariants.{Begin, Commit, Return}
use Rattle.fs_timeline.proofs.AppendLemmas.{begun_first, list_any-push}
use Rattle.fs_linearizable.specs.Linearizable.{history}
use Rattle.fs_linearize_histories.specs.declared.heard.Heard.{Heard}
use Rattle.fs_linearize_histories.specs.Apart.{AreApart}
use Rattle.fs_linearize_histories.specs.Heard.{AreHeardIn, entry_of, entries}
use Rattle.fs_linearize_histories.specs.Configurations.{Configuration, is_in, AreRising}
use Rattle.fs_linearize_histories.specs.Laws.{ConfigurationsAreFew}
use Rattle.fs_linearize_histories.specs.Paths.{LeadsTo}
use Rattle.fs_linearize_histories.proofs.HistoryLemmas.{committed_still, passed_call, passed_return}
use Rattle.fs_linearize_histories.proofs.PathLemmas.{passed_begun}

-- ---- the calls that a timeline commits, by their numbers

abbrev committed_numbers : List Entry → List ℕ
committed_numbers [] = []
committed_numbers (Begin c seat call ∷ es) = committed_numbers es
committed_numbers (Commit c ∷ es) = c ∷ committed_numbers es
committed_numbers (Return c r ∷ es) = committed_numbers es

is_in-committed : (c : ℕ) (es : List Entry) → has_committed c es ≡ is_in c (committed_numbers es)
is_in-committed c [] = refl
is_in-committed c (Begin d seat call ∷ es) = is_in-committed c es
is_in-committed c (Commit d ∷ es) = ap (λ b. (c == d) || b) (is_in-committed c es)
is_in-committed c (Return d r ∷ es) = is_in-committed c es

abbrev calls_of : List Entry → List ℕ → List Call
calls_of whole [] = []
calls_of whole (c ∷ cs) = with_call (call_of c whole) (calls_of whole cs)

commits_of-numbers : (whole es : List Entry) → commits_of whole es ≡ calls_of whole (committed_numbers es)
commits_of-numbers whole [] = refl
commits_of-numbers whole (Begin c seat call ∷ es) = commits_of-numbers whole es
commits_of-numbers whole (Commit c ∷ es) = ap (with_call (call_of c whole)) (commits_of-numbers whole es)
commits_of-numbers whole (Return c r ∷ es) = commits_of-numbers whole es

calls_of-same : (v w : List Entry) (cs : List ℕ) → ((c : ℕ) → call_of c v ≡ call_of c w) → calls_of v cs ≡ calls_of w cs
calls_of-same v w [] same = refl
calls_of-same v w (c ∷ cs) same = ap (λ o. with_call o (calls_of v cs)) (same c) ∙ ap (with_call (call_of c w)) (calls_of-same v w cs same)

-- ---- numbers that rise are determined by which they are

head_in : (c : ℕ) (xs : List ℕ) → is_in c (c ∷ xs) ≡ true
head_in c xs = or_left _ _ (eq-eqb c c refl)

not_later : (c : ℕ) (xs : List ℕ) → AreRising (c ∷ xs) → is_in c xs ≡ false
not_later c xs k = false_from_ne_true _ (λ there. let small = k.0 c there in omega (arith, small))

same_least : (c d : ℕ) (xs ys : List ℕ) → AreRising (c ∷ xs) → AreRising (d ∷ ys) → is_in c (d ∷ ys) ≡ true → is_in d (c ∷ xs) ≡ true → c ≡ d
same_least c d xs ys k l in_ys in_xs = ⊎_elim
    (λ same. eqb-true c d same)
    (λ later. ⊎_elim
    (λ same. sym (eqb-true d c same))
    (λ late. let a = l.0 c later in let b = k.0 d late in omega (arith, a, b))
    (or_cases (d == c) (is_in d xs) in_xs))
    (or_cases (c == d) (is_in c ys) in_ys)

same_tail : (c e : ℕ) (xs ys : List ℕ) → AreRising (c ∷ xs) → AreRising (c ∷ ys) → is_in e (c ∷ xs) ≡ is_in e (c ∷ ys) → is_in e xs ≡ is_in e ys
same_tail c e xs ys k l same = ⊎_elim
    (λ here. subst (λ n. is_in n xs ≡ is_in n ys) (sym (eqb-true e c here)) (not_later c xs k ∙ sym (not_later c ys l)))
    (λ apart. sym (ap (λ b. b || is_in e xs) apart) ∙ same ∙ ap (λ b. b || is_in e ys) apart)
    (cases_Bool (e == c))

rising_same : (xs ys : List ℕ) → AreRising xs → AreRising ys → ((c : ℕ) → is_in c xs ≡ is_in c ys) → xs ≡ ys
rising_same [] [] k l same = refl
rising_same [] (d ∷ ys) k l same = let none = same d ∙ head_in d ys in absurd (cc)
rising_same (c ∷ xs) [] k l same = let none = sym (same c) ∙ head_in c xs in absurd (cc)
rising_same (c ∷ xs) (d ∷ ys) k l same =
    let least : c ≡ d = same_least c d xs ys k l (sym (same c) ∙ head_in c xs) (same d ∙ head_in d ys) in
    let like : AreRising (c ∷ ys) = subst (λ n. AreRising (n ∷ ys)) (sym least) l in
    let both : (e : ℕ) → is_in e (c ∷ xs) ≡ is_in e (c ∷ ys) = λ e. subst (λ n. is_in e (c ∷ xs) ≡ is_in e (n ∷ ys)) (sym least) (same e) in
    ap (λ zs. c ∷ zs) (rising_same xs ys k.1 l.1 (λ e. same_tail c e xs ys k like (both e))) ∙ ap (λ n. n ∷ ys) least

-- ---- a configuration is determined by its place and its commits

configured : ℕ → Start → List ℕ → Configuration
configured at now held = record { at = at; now = now; held = held }

alike : (x y : Configuration) → x.at ≡ y.at → x.now ≡ y.now → x.held ≡ y.held → x ≡ y
unfolding configured
alike x y at now held = ap (λ n. configured n x.now x.held) at ∙ ap (λ t. configured y.at t x.held) now ∙ ap (λ cs. configured y.at y.now cs) held

same_configuration : (start : Start) (h : List Heard) (es gs : List Entry) (x y : Configuration) → LeadsTo start h es x → LeadsTo start h gs y → x.at ≡ y.at → committed_numbers es ≡ committed_numbers gs → x ≡ y
same_configuration start h es gs x y k l at same =
    let known : (c : ℕ) → call_of c es ≡ call_of c gs = λ c.
    sym (passed_call start h es x.at c k.explains k.place) ∙ ap (λ n. call_of c (entries (take n h))) at ∙ passed_call start h gs y.at c l.explains l.place in
    let back : (c : ℕ) → has_returned c es ≡ has_returned c gs = λ c.
    sym (passed_return start h es x.at c k.explains k.place) ∙ ap (λ n. has_returned c (entries (take n h))) at ∙ passed_return start h gs y.at c l.explains l.place in
    let done : (c : ℕ) → has_committed c es ≡ has_committed c gs = λ c. is_in-committed c es ∙ ap (is_in c) same ∙ sym (is_in-committed c gs) in
    let made : commits es ≡ commits gs = commits_of-numbers es es ∙ ap (calls_of es) same ∙ calls_of-same es gs (committed_numbers gs) known ∙ sym (commits_of-numbers gs gs) in
    let held : x.held ≡ y.held = rising_same x.held y.held k.rising l.rising
    (λ c. k.held c ∙ ap (λ b. b && not (has_returned c es)) (done c) ∙ ap (λ b. has_committed c gs && not b) (back c) ∙ sym (l.held c)) in
    alike x y at (k.tree ∙ ap (next_start start) made ∙ sym l.tree) held

-- ---- the place of the begin of a call in a history, counted from 1

abbrev place_in : ℕ → List Heard → ℕ
place_in c [] = 0
place_in c (x ∷ h) = if is_begin c (entry_of x) then 1 else place_in c h + 1

place_some : (c : ℕ) (h : List Heard) → has_begun c (entries h) ≡ true → 0 < place_in c h
place_some c [] k = absurd (cc)
place_some c (x ∷ h) k = elim (is_begin c (entry_of x)) as (λ b. 0 < cond b 1 (place_in c h + 1)) [ true ↦ omega arith | false ↦ omega arith ]

place_within : (c : ℕ) (h : List Heard) → place_in c h < length h + 1
place_within c [] = omega arith
place_within c (x ∷ h) =
    let later = place_within c h in
    elim (is_begin c (entry_of x)) as (λ b. cond b 1 (place_in c h + 1) < length (x ∷ h) + 1) [ true ↦ omega arith | false ↦ omega (arith, later) ]

same_begin : (c d : ℕ) (e : Entry) → is_begin c e ≡ true → is_begin d e ≡ true → c ≡ d
same_begin c d (Begin n seat call) k l = eqb-true c n k ∙ sym (eqb-true d n l)
same_begin c d (Commit n) k l = absurd (cc)
same_begin c d (Return n r) k l = absurd (cc)

place_same : (c d : ℕ) (h : List Heard) → has_begun c (entries h) ≡ true → has_begun d (entries h) ≡ true → place_in c h ≡ place_in d h → c ≡ d
place_same c d [] k l same = absurd (cc)
place_same c d (x ∷ h) k l same =
    elim (is_begin c (entry_of x)) as (λ b. is_begin c (entry_of x) ≡ b → (b || has_begun c (entries h)) ≡ true → cond b 1 (place_in c h + 1) ≡ place_in d (x ∷ h) → c ≡ d) [
      | true ↦ λ mine begun one. elim (is_begin d (entry_of x)) as (λ b. is_begin d (entry_of x) ≡ b → (b || has_begun d (entries h)) ≡ true → 1 ≡ cond b 1 (place_in d h + 1) → c ≡ d) [
        | true ↦ λ other too two. same_begin c d (entry_of x) mine other
        | false ↦ λ other too two. let some = place_some d h too in omega (arith, some, two)
      ] refl l one
      | false ↦ λ mine begun one. elim (is_begin d (entry_of x)) as (λ b. is_begin d (entry_of x) ≡ b → (b || has_begun d (entries h)) ≡ true → place_in c h + 1 ≡ cond b 1 (place_in d h + 1) → c ≡ d) [
        | true ↦ λ other too two. let some = place_some c h begun in omega (arith, some, two)
        | false ↦ λ other too two. place_same c d h begun too (omega (arith, two))
      ] refl l one
    ] refl k same

-- ---- the places of calls that have begun

AreBegun : List Heard → List ℕ → Type 0
AreBegun h cs = (c : ℕ) → is_in c cs ≡ true → has_begun c (entries h) ≡ true

begun_head : (h : List Heard) (c : ℕ) (cs : List ℕ) → AreBegun h (c ∷ cs) → has_begun c (entries h) ≡ true
unfolding AreBegun
begun_head h c cs k = k c (head_in c cs)

begun_tail : (h : List Heard) (c : ℕ) (cs : List ℕ) → AreBegun h (c ∷ cs) → AreBegun h cs
unfolding AreBegun
begun_tail h c cs k = λ d there. k d (or_right (d == c) _ there)

abbrev places : List Heard → List ℕ → List ℕ
places h [] = []
places h (c ∷ cs) = place_in c h ∷ places h cs

length-places : (h : List Heard) (cs : List ℕ) → length (places h cs) ≡ length cs
length-places h [] = refl
length-places h (c ∷ cs) = ap suc (length-places h cs)

heads : (a b : ℕ) (xs ys : List ℕ) → a ∷ xs ≡ b ∷ ys → a ≡ b
heads a b xs ys same = cc

tails : (a b : ℕ) (xs ys : List ℕ) → a ∷ xs ≡ b ∷ ys → xs ≡ ys
tails a b xs ys same = cc

places_same : (h : List Heard) (cs ds : List ℕ) → AreBegun h cs → AreBegun h ds → places h cs ≡ places h ds → cs ≡ ds
places_same h [] [] k l same = refl
places_same h [] (d ∷ ds) k l same = absurd (cc)
places_same h (c ∷ cs) [] k l same = absurd (cc)
places_same h (c ∷ cs) (d ∷ ds) k l same =
    let first = place_same c d h (begun_head h c cs k) (begun_head h d ds l) (heads _ _ _ _ same) in
    let rest = places_same h cs ds (begun_tail h c cs k) (begun_tail h d ds l) (tails _ _ _ _ same) in
    ap (λ n. n ∷ cs) first ∙ ap (λ ns. d ∷ ns) rest

-- digits of a base, of which none is 0
abbrev AreDigits : ℕ → List ℕ → Type 0
AreDigits b [] = Unit {0}
AreDigits b (d ∷ ds) = (0 < d) × (d < b) × AreDigits b ds

places_digits : (h : List Heard) (cs : List ℕ) → AreBegun h cs → AreDigits (length h + 1) (places h cs)
places_digits h [] k = tt
places_digits h (c ∷ cs) k = (place_some c h (begun_head h c cs k), place_within c h, places_digits h cs (begun_tail h c cs k))

digits_below : (b : ℕ) (ds : List ℕ) → AreDigits b ds → (q : ℕ) → list_any (eqb q) ds ≡ true → q < b
digits_below b [] k q there = absurd (cc)
digits_below b (d ∷ ds) k q there = ⊎_elim (λ here. subst (λ n. n < b) (sym (eqb-true q d here)) k.1) (λ later. digits_below b ds k.2 q later) (or_cases (eqb q d) _ there)

-- ---- each call commits once

abbrev AreOnce : List ℕ → Type 0
AreOnce [] = Unit {0}
AreOnce (c ∷ cs) = (is_in c cs ≡ false) × AreOnce cs

neither : (a b : Bool) → a ≡ false → b ≡ false → (a || b) ≡ false
neither true b k l = absurd (cc)
neither false b k l = l

never_again : (c : ℕ) (before es : List Entry) → Each IsNext before es → has_committed c before ≡ true → is_in c (committed_numbers es) ≡ false
never_again c before [] k done = refl
never_again c before (Begin d seat call ∷ es) k done = never_again c (before ++ Begin d seat call ∷ []) es k.1 (committed_still c before (Begin d seat call) done)
never_again c before (Commit d ∷ es) k done = neither (c == d) _
    (false_from_ne_true _ (λ same. let twice = sym (subst (λ n. has_committed n before ≡ true) (eqb-true c d same) done) ∙ k.0.1 in absurd (cc)))
    (never_again c (before ++ Commit d ∷ []) es k.1 (committed_still c before (Commit d) done))
never_again c before (Return d r ∷ es) k done = never_again c (before ++ Return d r ∷ []) es k.1 (committed_still c before (Return d r) done)

commit_once : (before es : List Entry) → Each IsNext before es → AreOnce (committed_numbers es)
commit_once before [] k = tt
commit_once before (Begin c seat call ∷ es) k = commit_once (before ++ Begin c seat call ∷ []) es k.1
commit_once before (Commit c ∷ es) k =
    let done : has_committed c (before ++ Commit c ∷ []) ≡ true = list_any-push (is_commit c) before (Commit c) ∙ or_right _ _ (eq-eqb c c refl) in
    (never_again c (before ++ Commit c ∷ []) es k.1 done, commit_once (before ++ Commit c ∷ []) es k.1)
commit_once before (Return c r ∷ es) k = commit_once (before ++ Return c r ∷ []) es k.1

places_apart : (c : ℕ) (h : List Heard) (cs : List ℕ) → has_begun c (entries h) ≡ true → AreBegun h cs → is_in c cs ≡ false → AllByRecursion (λ q. eqb (place_in c h) q ≡ false) (places h cs)
places_apart c h [] k l none = tt
places_apart c h (d ∷ cs) k l none =
    let parts = or_parts (c == d) (is_in c cs) none in
    (ne_eqb _ _ (λ same. eqb-false c d parts.0 (place_same c d h k (begun_head h d cs l) same)), places_apart c h cs k (begun_tail h d cs l) parts.1)

places_distinct : (h : List Heard) (cs : List ℕ) → AreBegun h cs → AreOnce cs → IsDistinct eqb (places h cs)
unfolding IsDistinct
places_distinct h [] k once = tt
places_distinct h (c ∷ cs) k once = (places_apart c h cs (begun_head h c cs k) (begun_tail h c cs k) once.0, places_distinct h cs (begun_tail h c cs k) once.1)

places_from_one : (h : List Heard) (cs : List ℕ) → AreBegun h cs → AllByRecursion (λ q. eqb 0 q ≡ false) (places h cs)
places_from_one h [] k = tt
places_from_one h (c ∷ cs) k = (ne_eqb _ _ (λ none. let some = place_some c h (begun_head h c cs k) in omega (arith, some, none)), places_from_one h cs (begun_tail h c cs k))

few_commits : (h : List Heard) (cs : List ℕ) → AreBegun h cs → AreOnce cs → length cs ≤ length h
unfolding IsDistinct
few_commits h cs k once =
    let digits = places_digits h cs k in
    let few = length-le_from_distinct_below (0 ∷ places h cs) (length h + 1) (places_from_one h cs k, places_distinct h cs k once)
    (λ q there. ⊎_elim (λ none. let zeros = eqb-true q 0 none in omega (arith, zeros)) (λ later. digits_below (length h + 1) (places h cs) digits q later) (or_cases (eqb q 0) _ there)) in
    omega (arith, few, length-places h cs)

-- ---- numerals

abbrev numeral : ℕ → List ℕ → ℕ
numeral b [] = 0
numeral b (d ∷ ds) = numeral b ds * b + d

numeral_small : (b : ℕ) (ds : List ℕ) → 0 < b → AreDigits b ds → numeral b ds < b ^ length ds
numeral_small b [] some k = one-le-pow 0 b some
numeral_small b (d ∷ ds) some k = subst (λ n. numeral b ds * b + d < n) (sym (pow-succ' b (length ds))) (mul-add-lt (numeral b ds) b d (b ^ length ds) (numeral_small b ds some k.2) k.1)

same_digit : (b p d q e : ℕ) → d < b → e < b → p * b + d ≡ q * b + e → d ≡ e
same_digit b p d q e k l same = sym (mod-mul-add p b d k) ∙ ap (λ n. n % b) same ∙ mod-mul-add q b e l

same_rest : (b p d q e : ℕ) → d < b → e < b → p * b + d ≡ q * b + e → p ≡ q
same_rest b p d q e k l same = sym (div-mul-add p b d k) ∙ ap (λ n. n / b) same ∙ div-mul-add q b e l

not_none : (p d : ℕ) → 0 < d → p + d ≡ 0 → ⊥
not_none p d some none = omega (arith, some, none)

numeral_same : (b : ℕ) (ds es : List ℕ) → AreDigits b ds → AreDigits b es → numeral b ds ≡ numeral b es → ds ≡ es
numeral_same b [] [] k l same = refl
numeral_same b [] (e ∷ es) k l same = absurd (not_none (numeral b es * b) e l.0 (sym same))
numeral_same b (d ∷ ds) [] k l same = absurd (not_none (numeral b ds * b) d k.0 same)
numeral_same b (d ∷ ds) (e ∷ es) k l same =
    let first = same_digit b (numeral b ds) d (numeral b es) e k.1 l.1 same in
    let rest = numeral_same b ds es k.2 l.2 (same_rest b (numeral b ds) d (numeral b es) e k.1 l.1 same) in
    ap (λ n. n ∷ ds) first ∙ ap (λ ns. e ∷ ns) rest

-- ---- the number of a configuration

begun_whole : (c n : ℕ) (h : List Heard) → has_begun c (entries (take n h)) ≡ true → has_begun c (entries h) ≡ true
begun_whole c zero [] k = k
begun_whole c zero (x ∷ h) k = absurd (cc)
begun_whole c (suc n) [] k = k
begun_whole c (suc n) (x ∷ h) k = ⊎_elim (λ here. or_left _ _ here) (λ later. or_right (is_begin c (entry_of x)) _ (begun_whole c n h later)) (or_cases (is_begin c (entry_of x)) _ k)

begun_here : (start : Start) (h : List Heard) (es : List Entry) (x : Configuration) → LeadsTo start h es x → AreBegun h (committed_numbers es)
unfolding AreBegun
begun_here start h es x l = λ c there.
    begun_whole c x.at h (passed_begun start h es x.at c l.explains l.place ∙ begun_first es l.explains.lawful.well_formed c (is_in-committed c es ∙ there))

heard_within : (es : List Entry) (h : List Heard) → AreHeardIn es h → length es ≤ length h
heard_within [] h k = omega arith
heard_within (e ∷ es) [] k = absurd k
heard_within (e ∷ es) (x ∷ h) k = let rest = heard_within es h k.1 in omega (arith, rest)

here_within : (start : Start) (h : List Heard) (es : List Entry) (x : Configuration) → LeadsTo start h es x → x.at < length h + 1
here_within start h es x l = let few = heard_within (history es) h l.explains.heard_as in let at = l.place in omega (arith, few, at)

below : (a b c : ℕ) → a < b → b ≤ c → a < c
below a b c k l = omega (arith, k, l)

number_of : List Heard → Configuration → List Entry → ℕ
number_of h x es = numeral (length h + 1) (places h (committed_numbers es)) * (length h + 1) + x.at

number_small : (start : Start) (h : List Heard) (es : List Entry) (x : Configuration) → LeadsTo start h es x → number_of h x es < (length h + 1) ^ (length h + 1)
unfolding number_of
number_small start h es x l =
    let b = length h + 1 in
    let cs = committed_numbers es in
    let begun = begun_here start h es x l in
    let few = few_commits h cs begun (commit_once [] es l.explains.lawful.well_formed) in
    let some : 0 < b = omega arith in
    let least : numeral b (places h cs) < b ^ length (places h cs) = numeral_small b (places h cs) some (places_digits h cs begun) in
    let short : length (places h cs) ≤ length h = omega (arith, few, length-places h cs) in
    let more : b ^ length (places h cs) ≤ b ^ length h = pow-le-pow_right some short in
    let small : numeral b (places h cs) < b ^ length h = below _ _ _ least more in
    let next : suc (length h) ≡ length h + 1 = omega arith in
    subst (λ n. numeral b (places h cs) * b + x.at < n) (sym (pow-succ' b (length h)) ∙ ap (λ n. b ^ n) next) (mul-add-lt (numeral b (places h cs)) b x.at (b ^ length h) small (here_within start h es x l))

number_same : (start : Start) (h : List Heard) (es gs : List Entry) (x y : Configuration) → LeadsTo start h es x → LeadsTo start h gs y → number_of h x es ≡ number_of h y gs → x ≡ y
unfolding number_of
number_same start h es gs x y k l same =
    let b = length h + 1 in
    let cs = committed_numbers es in
    let ds = committed_numbers gs in
    let mine = begun_here start h es x k in
    let other = begun_here start h gs y l in
    let here = here_within start h es x k in
    let there = here_within start h gs y l in
    let at = same_digit b (numeral b (places h cs)) x.at (numeral b (places h ds)) y.at here there same in
    let rest = same_rest b (numeral b (places h cs)) x.at (numeral b (places h ds)) y.at here there same in
    same_configuration start h es gs x y k l at (places_same h cs ds mine other (numeral_same b (places h cs) (places h ds) (places_digits h cs mine) (places_digits h ds other) rest))

-- ---- as many numbers as configurations

record Numbered (start : Start) (h : List Heard) (made : List Configuration) : Type 0 where
  numbers : List ℕ
  many : length numbers ≡ length made
  distinct : IsDistinct eqb numbers
  each : (q : ℕ) → list_any (eqb q) numbers ≡ true → (x : Configuration) × Contains made x × (es : List Entry) × LeadsTo start h es x × (q ≡ number_of h x es)

all_differ : (q : ℕ) (ns : List ℕ) → ((p : ℕ) → list_any (eqb p) ns ≡ true → q ≡ p → ⊥) → AllByRecursion (λ p. eqb q p ≡ false) ns
all_differ q [] other = tt
all_differ q (p ∷ ns) other = (ne_eqb q p (other p (or_left _ _ (eq-eqb p p refl))), all_differ q ns (λ r there. other r (or_right (eqb r p) _ there)))

first_of : (x : Configuration) (xs : List Configuration) → Contains (x ∷ xs) x
first_of x xs = (0, omega arith, refl)

later_of : (x y : Configuration) (xs : List Configuration) → Contains xs y → Contains (x ∷ xs) y
later_of x y xs k = (suc k.0, omega (arith, k.1), k.2)

numbered : (start : Start) (h : List Heard) (made : List Configuration) → AreApart made → ((x : Configuration) → Contains made x → (es : List Entry) × LeadsTo start h es x) → Numbered start h made
unfolding IsDistinct
numbered start h [] apart led = record { numbers = []; many = refl; distinct = tt; each = λ q none. absurd (cc) }
numbered start h (x ∷ xs) apart led =
    let rest = numbered start h xs apart.1 (λ y there. led y (later_of x y xs there)) in
    let mine = led x (first_of x xs) in
    let number = number_of h x mine.0 in
    let other : (p : ℕ) → list_any (eqb p) rest.numbers ≡ true → number ≡ p → ⊥ = λ p there same.
    let e = rest.each p there in
    let like : x ≡ e.0 = number_same start h mine.0 e.2 x e.0 mine.1 e.3 (same ∙ e.4) in
    apart.0 (subst (Contains xs) (sym like) e.1) in
    record {
      numbers = number ∷ rest.numbers;
      many = ap suc rest.many;
      distinct = (all_differ number rest.numbers other, rest.distinct);
      each = λ q there. ⊎_elim
          (λ here. (x, first_of x xs, mine.0, mine.1, eqb-true q number here))
          (λ later. let e = rest.each q later in (e.0, later_of x e.0 xs e.1, e.2, e.3, e.4))
          (or_cases (eqb q number) _ there);
    }

pub configurations_are_few : ConfigurationsAreFew
configurations_are_few start h made apart led =
    let n = numbered start h made apart led in
    let most = (length h + 1) ^ (length h + 1) in
    subst (λ k. k ≤ most) n.many
    (length-le_from_distinct_below n.numbers most n.distinct (λ q there. let e = n.each q there in subst (λ k. k < most) (sym e.4) (number_small start h e.2 e.0 e.3)))
