-- Calls that have to do with the return of a call.
use Rattle.std.proofs.Common.{◌≡◌, ℕ, zero, suc, ◌+◌, ◌<◌, ◌≤◌, Bool, true, false, not, ◌||◌, ◌==◌, cond, List, [], ◌∷◌, ◌++◌, map, length, length-append, get_or, take, Some, refl, sym, ap, ◌∙◌, subst, ◌⊎◌, inl, inr, ⊎_elim, arith}
use Rattle.std.specs.List.{Contains, filter}
use Rattle.std.proofs.lemmas.Bool.{eqb-true, eq-eqb, both_ways, or_left, or_right, or_cases}
use Rattle.std.proofs.lemmas.List.{take_more, take_all, take-append-le, length-map}
use Rattle.std.proofs.lemmas.List.Elements.{Contains-append_left, Contains-append_right, Contains-append_cases, Contains-push_cases}
use Rattle.std.proofs.lemmas.List.Filters.{length-filter_both}
use Rattle.fs_calls.specs.Tree.{IsTree}
use Rattle.fs_calls.specs.Starts.{Start, start_tree}
use Rattle.fs_calls.specs.declared.call.Call.{Call}
use Rattle.fs_calls.proofs.TreeLaws.{played_trees_are_trees}
use Rattle.fs_timeline.specs.Timeline.{has_returned, call_of, commits}
use Rattle.fs_timeline.specs.declared.entry.Entry.{Entry}
use Rattle.fs_linearize_histories.specs.declared.heard.Heard.{Heard}
use Rattle.fs_linearize_histories.specs.Heard.{entries}
use Rattle.fs_linearize_histories.specs.Meeting.{calls_meet, HasRoom}
use Rattle.fs_linearize_histories.specs.Configurations.{Configuration, is_in, IsNear}
use Rattle.fs_linearize_histories.specs.Paths.{LeadsTo}
use Rattle.fs_linearize_configurations.specs.code.Calls.{IsUnderWay, AreUnderWay, AreNear}
use Rattle.fs_linearize_configurations.specs.declared.under_way.UnderWay.{UnderWay}

-- ---- lists of calls

contains_later : {A : Type 0} (y : A) (xs : List A) (x : A) → Contains xs x → Contains (y ∷ xs) x
contains_later y xs x there = let small = there.1 in (suc there.0, omega (arith, small), there.2)

contains_cases : {A : Type 0} (y : A) (xs : List A) (x : A) → Contains (y ∷ xs) x → (y ≡ x) ⊎ Contains xs x
contains_cases y xs x there = at there.0 there.1 there.2
  where
    at : (i : ℕ) → i < length (y ∷ xs) → get_or (y ∷ xs) i x ≡ x → (y ≡ x) ⊎ Contains xs x
    at zero small is = inl is
    at (suc i) small is = inr (i, omega (arith, small), is)

filter_passed : {A : Type 0} (p : A → Bool) (xs : List A) (x : A) → Contains (filter p xs) x → Contains xs x × (p x ≡ true)
filter_passed p [] x there = absurd (let small = there.1 in omega (arith, small))
filter_passed {A = A} p (y ∷ xs) x there = by_test (filter_passed p xs x) (p y) refl there
  where
    later : Contains xs x × (p x ≡ true) → Contains (y ∷ xs) x × (p x ≡ true)
    later rest = (contains_later y xs x rest.0, rest.1)

    by_test : (Contains (filter p xs) x → Contains xs x × (p x ≡ true)) → (b : Bool) → p y ≡ b → Contains (cond {A = List A} b (y ∷ filter p xs) (filter p xs)) x → Contains (y ∷ xs) x × (p x ≡ true)
    by_test rest true is k = ⊎_elim (λ here. ((0, omega arith, here), subst (λ z. p z ≡ true) here is)) (λ more. later (rest more)) (contains_cases y (filter p xs) x k)
    by_test rest false is k = later (rest k)

filter_there : {A : Type 0} (p : A → Bool) (xs : List A) (x : A) → Contains xs x → p x ≡ true → Contains (filter p xs) x
filter_there p [] x there passes = absurd (let small = there.1 in omega (arith, small))
filter_there {A = A} p (y ∷ xs) x there passes = ⊎_elim (λ here. first (ap p here ∙ passes) here) (λ more. later (p y) (filter_there p xs x more passes)) (contains_cases y xs x there)
  where
    first : p y ≡ true → y ≡ x → Contains (filter p (y ∷ xs)) x
    first is here = subst (λ b. Contains (cond {A = List A} b (y ∷ filter p xs) (filter p xs)) x) (sym is) (0, omega arith, here)

    later : (b : Bool) → Contains (filter p xs) x → Contains (cond {A = List A} b (y ∷ filter p xs) (filter p xs)) x
    later true k = contains_later y (filter p xs) x k
    later false k = k

-- what does not pass passes the opposite
either_passes : {A : Type 0} (p : A → Bool) (xs : List A) (x : A) → Contains xs x → Contains (filter p xs) x ⊎ Contains (filter (λ y. not (p y)) xs) x
either_passes p xs x there = by_test (p x) refl
  where
    by_test : (b : Bool) → p x ≡ b → Contains (filter p xs) x ⊎ Contains (filter (λ y. not (p y)) xs) x
    by_test true is = inl (filter_there p xs x there is)
    by_test false is = inr (filter_there (λ y. not (p y)) xs x there (ap not is))

not_true : (b : Bool) → not b ≡ true → b ≡ false
not_true true h = absurd (cc)
not_true false h = refl

-- ---- the calls near a return, one by one

-- each call is near or left, and none that is left meets one of the first that are near
pub record NearUpTo (c : ℕ) (siblings : Bool) (us : List UnderWay) (i : ℕ) (near rest : List UnderWay) : Type 0 where
  pub some : (u : UnderWay) → Contains near u → Contains us u
  pub left : (u : UnderWay) → Contains rest u → Contains us u
  pub itself : (u : UnderWay) → Contains us u → u.number ≡ c → Contains near u
  pub each : (u : UnderWay) → Contains us u → Contains near u ⊎ Contains rest u
  pub apart : (u : UnderWay) → Contains rest u → (v : UnderWay) → Contains (take i near) v → calls_meet siblings v.call.now u.call.now ≡ false
  pub count : length near + length rest ≡ length us

abbrev pub has_number : ℕ → UnderWay → Bool
has_number c u = c == u.number

abbrev pub is_met : Bool → Call → UnderWay → Bool
is_met siblings one u = calls_meet siblings one u.call.now

pub near_first : (c : ℕ) (siblings : Bool) (us near rest : List UnderWay) → near ≡ filter (has_number c) us → rest ≡ filter (λ u. not (has_number c u)) us → NearUpTo c siblings us 0 near rest
near_first c siblings us near rest is other = record {
  some = λ u there. (filter_passed (has_number c) us u (subst (λ (ws : List UnderWay). Contains ws u) is there)).0;
  left = λ u there. (filter_passed (λ v. not (has_number c v)) us u (subst (λ (ws : List UnderWay). Contains ws u) other there)).0;
  itself = λ u there same. subst (λ (ws : List UnderWay). Contains ws u) (sym is) (filter_there (has_number c) us u there (eq-eqb c u.number (sym same)));
  each = λ u there. ⊎_elim
      (λ k. inl (subst (λ (ws : List UnderWay). Contains ws u) (sym is) k))
      (λ k. inr (subst (λ (ws : List UnderWay). Contains ws u) (sym other) k))
      (either_passes (has_number c) us u there);
  apart = λ u there v none. absurd (let small = none.1 in omega (arith, small));
  count =
      let all = length-filter_both (has_number c) (λ u. not (has_number c u)) (λ u. refl) us in
      let one = ap length is in
      let two = ap length other in
      omega (arith, all, one, two);
}

pub near_more : (c : ℕ) (siblings : Bool) (us : List UnderWay) (i : ℕ) (v : UnderWay) (near rest some others after : List UnderWay) → i < length near → v ≡ get_or near i v
    → some ≡ filter (is_met siblings v.call.now) rest → others ≡ filter (λ u. not (is_met siblings v.call.now u)) rest → after ≡ near ++ some → NearUpTo c siblings us i near rest → NearUpTo c siblings us (i + 1) after others
near_more c siblings us i v near rest some others after small is met other grown k =
    let test = is_met siblings v.call.now in
    let new : (u : UnderWay) → Contains some u → Contains rest u × (test u ≡ true) = λ u there. filter_passed test rest u (subst (λ (ws : List UnderWay). Contains ws u) met there) in
    let stays : (u : UnderWay) → Contains others u → Contains rest u × (not (test u) ≡ true) = λ u there. filter_passed (λ w. not (test w)) rest u (subst (λ (ws : List UnderWay). Contains ws u) other there) in
    let was : (u : UnderWay) → Contains near u → Contains after u = λ u there. subst (λ (ws : List UnderWay). Contains ws u) (sym grown) (Contains-append_left near some u there) in
    let now : (u : UnderWay) → Contains some u → Contains after u = λ u there. subst (λ (ws : List UnderWay). Contains ws u) (sym grown) (Contains-append_right near some u there) in
    let fronts : take (i + 1) after ≡ take i near ++ v ∷ [] = ap (take (i + 1)) grown ∙ take-append-le (i + 1) near some (omega (arith, small)) ∙ take_more near i v small ∙ ap (λ (w : UnderWay). take i near ++ w ∷ []) (sym is) in
    record {
      some = λ u there. ⊎_elim (λ old. k.some u old) (λ added. k.left u (new u added).0) (Contains-append_cases near some u (subst (λ (ws : List UnderWay). Contains ws u) grown there));
      left = λ u there. k.left u (stays u there).0;
      itself = λ u there same. was u (k.itself u there same);
      each = λ u there. ⊎_elim
          (λ old. inl (was u old))
          (λ left. ⊎_elim
          (λ added. inl (now u (subst (λ (ws : List UnderWay). Contains ws u) (sym met) added)))
          (λ still. inr (subst (λ (ws : List UnderWay). Contains ws u) (sym other) still))
          (either_passes test rest u left))
          (k.each u there);
      apart = λ u there w front. ⊎_elim
          (λ old. k.apart u (stays u there).0 w old)
          (λ here. subst (λ (z : UnderWay). calls_meet siblings z.call.now u.call.now ≡ false) here (not_true (test u) (stays u there).1))
          (Contains-push_cases (take i near) v w (subst (λ (ws : List UnderWay). Contains ws w) fronts front));
      count =
          let before = k.count in
          let all = length-filter_both test (λ u. not (test u)) (λ u. refl) rest in
          let one = ap length met in
          let two = ap length other in
          let long = ap length grown ∙ length-append near some in
          omega (arith, before, all, one, two, long);
    }

pub near_all : (c : ℕ) (siblings : Bool) (us : List UnderWay) (i : ℕ) (near rest : List UnderWay) → length near ≤ i → NearUpTo c siblings us i near rest → AreNear c siblings us near
near_all c siblings us i near rest past k = record {
  some = k.some;
  itself = k.itself;
  others = λ u there. ⊎_elim (λ near_it. inl near_it) (λ left. inr (λ v met. k.apart u left v (subst (λ (ws : List UnderWay). Contains ws v) (sym (take_all i near past)) met))) (k.each u there);
}

pub near_end : (c : ℕ) (siblings : Bool) (us : List UnderWay) (i : ℕ) (near rest : List UnderWay) → length us ≤ i → NearUpTo c siblings us i near rest → AreNear c siblings us near
near_end c siblings us i near rest past k = let count = k.count in near_all c siblings us i near rest (omega (arith, count, past)) k

-- ---- open calls

numbers_of : List UnderWay → List ℕ
numbers_of us = map (λ (u : UnderWay). u.number) us

number_there : (us : List UnderWay) (u : UnderWay) → Contains us u → is_in u.number (numbers_of us) ≡ true
unfolding numbers_of
number_there [] u there = absurd (let small = there.1 in omega (arith, small))
number_there (v ∷ us) u there = ⊎_elim
    (λ here. or_left _ _ (eq-eqb u.number v.number (ap (λ (w : UnderWay). w.number) (sym here))))
    (λ more. or_right (u.number == v.number) _ (number_there us u more))
    (contains_cases v us u there)

number_found : (d : ℕ) (us : List UnderWay) → is_in d (numbers_of us) ≡ true → (u : UnderWay) × Contains us u × (u.number ≡ d)
unfolding numbers_of
number_found d [] h = absurd (cc)
number_found d (v ∷ us) h = ⊎_elim
    (λ here. (v, (0, omega arith, refl), sym (eqb-true d v.number here)))
    (λ more. let rest = number_found d us more in (rest.0, contains_later v us rest.0 rest.1, rest.2))
    (or_cases (d == v.number) (is_in d (numbers_of us)) h)

-- the numbers of calls, and that of the call that returns
pub near_numbers : ℕ → List UnderWay → ℕ → Bool
near_numbers c near d = (d == c) || is_in d (numbers_of near)

-- a call under way of such a number is near
pub near_found : (h : List Heard) (at c d : ℕ) (siblings : Bool) (us near : List UnderWay) (call : Call) → AreUnderWay h at us → AreNear c siblings us near → near_numbers c near d ≡ true
    → call_of d (entries (take at h)) ≡ Some call → has_returned d (entries (take at h)) ≡ false → (u : UnderWay) × Contains near u × (u.number ≡ d)
unfolding near_numbers
near_found h at c d siblings us near call calls are inside begun open_still = ⊎_elim
    (λ same. let u = calls.all d call begun open_still in (u.0, are.itself u.0 u.1 (u.2 ∙ eqb-true d c same), u.2))
    (λ there. number_found d near there)
    (or_cases (d == c) (is_in d (numbers_of near)) inside)

same_open : (h : List Heard) (at d : ℕ) (u : UnderWay) (call : Call) → IsUnderWay h at u → u.number ≡ d → call_of d (entries (take at h)) ≡ Some call → u.call.now ≡ call
same_open h at d u call way number begun =
    let both : Some u.call.now ≡ Some call = sym way.begun ∙ ap (λ n. call_of n (entries (take at h))) number ∙ begun in
    cc

-- a call that is left out meets none that is near
pub is_near : (h : List Heard) (x : Configuration) (c : ℕ) (siblings : Bool) (us near : List UnderWay) → IsTree (start_tree x.now) → AreUnderWay h x.at us → (siblings ≡ false → HasRoom x.now.limits (length us) (start_tree x.now)) → AreNear c siblings us near
    → IsNear h x c (near_numbers c near)
unfolding near_numbers numbers_of
is_near h x c siblings us near tree calls room are = record {
  itself = or_left _ _ (eq-eqb c c refl);
  others = λ d other left out.
      let u = calls.all d other left.begun left.open_still in
      let mine = same_open h x.at d u.0 other (calls.each u.0 u.1) u.2 left.begun in
      ⊎_elim
      (λ inside. absurd (both_ways _ out (or_right (d == c) _ (subst (λ n. is_in n (numbers_of near) ≡ true) u.2 (number_there near u.0 inside)))))
      (λ apart. record {
        tree = tree;
        siblings = siblings;
        room = λ e. record {
          numbers = numbers_of us;
          all = λ e call open_call. let v = calls.all e call open_call.begun open_call.open_still in subst (λ n. is_in n (numbers_of us) ≡ true) v.2 (number_there us v.0 v.1);
          room = subst (λ n. HasRoom x.now.limits n (start_tree x.now)) (sym (length-map us (λ (v : UnderWay). v.number))) (room e);
        };
        apart = λ e call open_call inside.
            let v = near_found h x.at c e siblings us near call calls are inside open_call.begun open_call.open_still in
            let its = same_open h x.at e v.0 call (calls.each v.0 (are.some v.0 v.1)) v.2 open_call.begun in
            subst (λ (w : Call). calls_meet siblings w other ≡ false) its (subst (λ (w : Call). calls_meet siblings v.0.call.now w ≡ false) mine (apart v.0 v.1));
      })
      (are.others u.0 u.1);
}

-- what a timeline leads to has a tree
pub led_tree : (start : Start) (h : List Heard) (es : List Entry) (x : Configuration) → IsTree (start_tree start) → LeadsTo start h es x → IsTree (start_tree x.now)
led_tree start h es x tree l = subst (λ (s : Start). IsTree (start_tree s)) (sym l.tree) (played_trees_are_trees.1 start (commits es) tree).0
