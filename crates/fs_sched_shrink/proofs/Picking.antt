-- What stays of calls and words that are read one after the other.
use Rattle.std.proofs.Common.{◌≡◌, ℕ, suc, ◌+◌, ◌<◌, ◌≤◌, Bool, true, false, cond, List, [], ◌∷◌, ◌++◌, length, take, drop, get_or, refl, ap, ◌∙◌, append-nil, arith}
use Rattle.std.proofs.Math.Seq.{drop-nil}
use Rattle.std.proofs.lemmas.List.{drop-drop, take_more, length-take-le}
use Rattle.fs_calls.specs.declared.call.Call.{Call}
use Rattle.fs_script.specs.Limits.{calls_in, events_in}
use Rattle.fs_script.specs.Script.{with_call, has_finish}
use Rattle.fs_script.specs.declared.script.Word.{Word}
use Rattle.fs_script.specs.declared.script.Word.TheVariants.{Events, Finish, Checkpoint, Drawn}
use Rattle.fs_sched_shrink.specs.Kept.{picked, kept_lists}

-- ---- items

pub drop_one : (n : ℕ) (ks : List Bool) → drop n (drop 1 ks) ≡ drop (suc n) ks
drop_one n [] = drop-nil n
drop_one n (k ∷ ks) = refl

front_of : {X : Type 0} (b : Bool) (x : X) (a c d : List X) → a ≡ c ++ d → cond b (x ∷ a) a ≡ cond b (x ∷ c) c ++ d
front_of true x a c d e = ap (λ l. x ∷ l) e
front_of false x a c d e = e

pub picked_append : {X : Type 0} (xs ys : List X) (ks : List Bool) → picked (xs ++ ys) ks ≡ picked xs ks ++ picked ys (drop (length xs) ks)
picked_append [] ys ks = refl
picked_append (x ∷ xs) ys ks = front_of (get_or ks 0 false) x _ _ _ (picked_append xs ys (drop 1 ks) ∙ ap (λ r. picked xs (drop 1 ks) ++ picked ys r) (drop_one (length xs) ks))

-- the first ones, with the next one
pub picked_more : {X : Type 0} (xs : List X) (ks : List Bool) (at : ℕ) (d : X) → at < length xs → picked (take (at + 1) xs) ks ≡ picked (take at xs) ks ++ cond (get_or (drop at ks) 0 false) (get_or xs at d ∷ []) []
picked_more xs ks at d less =
    ap (λ l. picked l ks) (take_more xs at d less) ∙ picked_append (take at xs) (get_or xs at d ∷ []) ks
    ∙ ap (λ n. picked (take at xs) ks ++ picked (get_or xs at d ∷ []) (drop n ks)) (length-take-le at xs (omega (arith, less)))

pub picked_fewer : {X : Type 0} (xs : List X) (ks : List Bool) → length (picked xs ks) ≤ length xs
picked_fewer [] ks = omega arith
picked_fewer (x ∷ xs) ks = go (get_or ks 0 false) (picked_fewer xs (drop 1 ks))
  where
    go : (b : Bool) → length (picked xs (drop 1 ks)) ≤ length xs → length (cond b (x ∷ picked xs (drop 1 ks)) (picked xs (drop 1 ks))) ≤ suc (length xs)
    go true h = omega (arith, h)
    go false h = omega (arith, h)

-- ---- lists of calls

pub lists_thread : (lists : List (List Call)) (ks : List Bool) → kept_lists (lists ++ [] ∷ []) ks ≡ kept_lists lists ks ++ [] ∷ []
lists_thread [] ks = refl
lists_thread (calls ∷ lists) ks = ap (λ l. picked calls ks ∷ l) (lists_thread lists (drop (length calls) ks))

last_of : (b : Bool) (calls : List Call) (c : Call) → (calls ++ cond b (c ∷ []) []) ∷ [] ≡ cond b ((calls ++ c ∷ []) ∷ []) (calls ∷ [])
last_of true calls c = refl
last_of false calls c = ap (λ l. l ∷ []) (append-nil calls)

behind_of : (b : Bool) (calls : List Call) (ls ms : List (List Call)) → calls ∷ cond b ls ms ≡ cond b (calls ∷ ls) (calls ∷ ms)
behind_of true calls ls ms = refl
behind_of false calls ls ms = refl

-- a call more
pub lists_call : (c : Call) (lists : List (List Call)) (ks : List Bool) → 0 < length lists → kept_lists (with_call c lists) ks ≡ cond (get_or (drop (calls_in lists) ks) 0 false) (with_call c (kept_lists lists ks)) (kept_lists lists ks)
lists_call c [] ks some = absurd (omega (arith, some))
lists_call c (calls ∷ []) ks some =
    let same : length calls ≡ length calls + 0 = omega arith in
    ap (λ l. l ∷ []) (picked_append calls (c ∷ []) ks)
    ∙ last_of (get_or (drop (length calls) ks) 0 false) (picked calls ks) c
    ∙ ap (λ n. cond (get_or (drop n ks) 0 false) ((picked calls ks ++ c ∷ []) ∷ []) (picked calls ks ∷ [])) same
lists_call c (calls ∷ next ∷ more) ks some =
    let rest : List Bool = drop (length calls) ks in
    ap (λ l. picked calls ks ∷ l) (lists_call c (next ∷ more) rest (omega arith))
    ∙ behind_of (get_or (drop (calls_in (next ∷ more)) rest) 0 false) (picked calls ks) (with_call c (kept_lists (next ∷ more) rest)) (kept_lists (next ∷ more) rest)
    ∙ ap (λ r. cond (get_or r 0 false) (picked calls ks ∷ with_call c (kept_lists (next ∷ more) rest)) (picked calls ks ∷ kept_lists (next ∷ more) rest)) (drop-drop (calls_in (next ∷ more)) (length calls) ks)

pub lists_same : (lists : List (List Call)) (ks : List Bool) → length (kept_lists lists ks) ≡ length lists
lists_same [] ks = refl
lists_same (calls ∷ lists) ks = ap suc (lists_same lists (drop (length calls) ks))

pub lists_fewer : (lists : List (List Call)) (ks : List Bool) → calls_in (kept_lists lists ks) ≤ calls_in lists
lists_fewer [] ks = omega arith
lists_fewer (calls ∷ lists) ks =
    let here : length (picked calls ks) ≤ length calls = picked_fewer calls ks in
    let more : calls_in (kept_lists lists (drop (length calls) ks)) ≤ calls_in lists = lists_fewer lists (drop (length calls) ks) in
    omega (arith, here, more)

-- ---- words

pub unfinished_picked : (ws : List Word) (ks : List Bool) → has_finish ws ≡ false → has_finish (picked ws ks) ≡ false
unfinished_picked [] ks h = refl
unfinished_picked (Events seat times ∷ ws) ks h = go (get_or ks 0 false) (unfinished_picked ws (drop 1 ks) h)
  where
    go : (b : Bool) → has_finish (picked ws (drop 1 ks)) ≡ false → has_finish (cond b (Events seat times ∷ picked ws (drop 1 ks)) (picked ws (drop 1 ks))) ≡ false
    go true e = e
    go false e = e
unfinished_picked (Finish ∷ ws) ks h = absurd (let z : ◌≡◌ {A = Bool} true false = h in cc)
unfinished_picked (Drawn ∷ ws) ks h = absurd (let z : ◌≡◌ {A = Bool} true false = h in cc)
unfinished_picked (Checkpoint ∷ ws) ks h = go (get_or ks 0 false) (unfinished_picked ws (drop 1 ks) h)
  where
    go : (b : Bool) → has_finish (picked ws (drop 1 ks)) ≡ false → has_finish (cond b (Checkpoint ∷ picked ws (drop 1 ks)) (picked ws (drop 1 ks))) ≡ false
    go true e = e
    go false e = e

either_fewer : (b : Bool) (w : Word) (ws : List Word) (n m : ℕ) → events_in (w ∷ ws) ≤ n → events_in ws ≤ n → events_in (cond b (w ∷ ws) ws) ≤ n
either_fewer true w ws n m a c = a
either_fewer false w ws n m a c = c

pub events_fewer : (ws : List Word) (ks : List Bool) → events_in (picked ws ks) ≤ events_in ws
events_fewer [] ks = omega arith
events_fewer (Events seat times ∷ ws) ks =
    let h : events_in (picked ws (drop 1 ks)) ≤ events_in ws = events_fewer ws (drop 1 ks) in
    either_fewer (get_or ks 0 false) (Events seat times) (picked ws (drop 1 ks)) (times + events_in ws) 0 (omega (arith, h)) (omega (arith, h))
events_fewer (Finish ∷ ws) ks =
    let h : events_in (picked ws (drop 1 ks)) ≤ events_in ws = events_fewer ws (drop 1 ks) in
    either_fewer (get_or ks 0 false) Finish (picked ws (drop 1 ks)) (events_in ws) 0 h h
events_fewer (Checkpoint ∷ ws) ks =
    let h : events_in (picked ws (drop 1 ks)) ≤ events_in ws = events_fewer ws (drop 1 ks) in
    either_fewer (get_or ks 0 false) Checkpoint (picked ws (drop 1 ks)) (events_in ws) 0 h h
events_fewer (Drawn ∷ ws) ks =
    let h : events_in (picked ws (drop 1 ks)) ≤ events_in ws = events_fewer ws (drop 1 ks) in
    either_fewer (get_or ks 0 false) Drawn (picked ws (drop 1 ks)) (events_in ws) 0 h h
