-- At first all calls and words stay.
use Rattle.std.proofs.Common.{◌≡◌, ℕ, zero, suc, ◌+◌, ◌-◌, ◌≤◌, Bool, true, false, List, [], ◌∷◌, ◌++◌, length, take, drop, get_or, replicate, Option, Some, None, refl, sym, ap, subst, ◌∙◌, arith}
use Rattle.std.proofs.lemmas.Bool.{and_parts, leb-true}
use Rattle.std.proofs.lemmas.List.{drop-replicate, get_or-replicate, length-replicate, replicate-append-replicate}
use Rattle.fs_calls.specs.declared.call.Call.{Call}
use Rattle.fs_script.specs.Limits.{calls_in}
use Rattle.fs_script.specs.Script.{seat_named}
use Rattle.fs_script.specs.declared.script.Script.{Script}
use Rattle.fs_sched.specs.declared.origin.Origin.{Origin}
use Rattle.fs_sched.specs.declared.schedule.Schedule.TheVariants.{Given}
use Rattle.fs_sched_find.specs.Finds.{RunHasOn}
use Rattle.fs_sched_find.specs.What.{is_place, is_there, has_calls, clauses_name_calls, names_calls}
use Rattle.fs_sched_find.specs.declared.what.CallName.{CallName}
use Rattle.fs_sched_find.specs.declared.what.Condition.{Condition}
use Rattle.fs_sched_find.specs.declared.what.Condition.TheVariants.{Reply, Fails, Line, Helped, Waits, Before, Overlap}
use Rattle.fs_sched_find.specs.declared.what.Clause.{Clause}
use Rattle.fs_sched_shrink.specs.Kept.{picked, kept_lists, kept_script, items_in}
use Rattle.fs_sched_shrink.specs.Moves.{kept_count, calls_before, place_at, moved_call, moved_condition, moved_clauses, moved}
use Rattle.fs_sched_shrink.specs.Shrinks.{IsShrunkOn}

-- ---- the script

picked_whole : {X : Type 0} (xs : List X) (n : ℕ) → length xs ≤ n → picked xs (replicate n true) ≡ xs
picked_whole [] n h = refl
picked_whole (x ∷ xs) zero h = absurd (omega (arith, h))
picked_whole (x ∷ xs) (suc n) h = ap (λ l. x ∷ l) (picked_whole xs n (omega (arith, h)))

lists_whole : (lists : List (List Call)) (n : ℕ) → calls_in lists ≤ n → kept_lists lists (replicate n true) ≡ lists
lists_whole [] n h = refl
lists_whole (calls ∷ lists) n h =
    ap (λ l. l ∷ kept_lists lists (drop (length calls) (replicate n true))) (picked_whole calls n (omega (arith, h)))
    ∙ ap (λ r. calls ∷ kept_lists lists r) (drop-replicate (length calls) n true)
    ∙ ap (λ l. calls ∷ l) (lists_whole lists (n - length calls) (omega (arith, h)))

pub kept_whole : (s : Script) → kept_script (replicate (items_in s) true) s ≡ s
kept_whole s =
    let c : ℕ = calls_in s.lists in
    let w : ℕ = length s.words in
    ap (λ (ls : List (List Call)). record s { lists = ls; words = picked s.words (drop c (replicate (c + w) true)) }) (lists_whole s.lists (c + w) (omega arith))
    ∙ ap (λ r. record s { words = picked s.words r }) (drop-replicate c (c + w) true)
    ∙ ap (λ ws. record s { words = ws }) (picked_whole s.words ((c + w) - c) (omega arith))

-- ---- what is said

count_whole : (place n : ℕ) → place ≤ n → kept_count place (replicate n true) ≡ place
count_whole zero n h = refl
count_whole (suc place) zero h = absurd (omega (arith, h))
count_whole (suc place) (suc n) h = let more : kept_count place (replicate n true) ≡ place = count_whole place n (omega (arith, h)) in omega (arith, more)

block_within : (lists : List (List Call)) (seat : ℕ) → calls_in (take seat lists) + length (get_or lists seat []) ≤ calls_in lists
block_within [] zero = omega arith
block_within [] (suc seat) = omega arith
block_within (calls ∷ lists) zero = omega arith
block_within (calls ∷ lists) (suc seat) = let h : calls_in (take seat lists) + length (get_or lists seat []) ≤ calls_in lists = block_within lists seat in omega (arith, h)

place_whole : (script : Script) (n place : ℕ) (seat : Option ℕ) → calls_in script.lists ≤ n → is_place script place seat ≡ true → place_at (replicate n true) script.lists place seat ≡ place
place_whole script n place None h there = refl
place_whole script n place (Some seat) h there =
    let before : ℕ = calls_before script.lists seat in
    let block : before + length (get_or script.lists seat []) ≤ calls_in script.lists = block_within script.lists seat in
    let few : place ≤ length (get_or script.lists seat []) = leb-true _ _ (and_parts _ _ there).1 in
    ap (kept_count place) (drop-replicate before n true) ∙ count_whole place (n - before) (omega (arith, h, block, few))

call_whole : (script : Script) (n : ℕ) (call : CallName) → calls_in script.lists ≤ n → is_there script call ≡ true → moved_call (replicate n true) script call ≡ call
call_whole script n call h there = ap (λ p. record call { place = p }) (place_whole script n call.place (seat_named script.names call.thread) h there)

condition_whole : (script : Script) (n : ℕ) (c : Condition) → calls_in script.lists ≤ n → has_calls script c ≡ true → moved_condition (replicate n true) script c ≡ c
condition_whole script n (Reply call r) h there = ap (λ x. Reply x r) (call_whole script n call h there)
condition_whole script n (Fails call) h there = ap Fails (call_whole script n call h there)
condition_whole script n (Line line) h there = refl
condition_whole script n (Helped call) h there = ap Helped (call_whole script n call h there)
condition_whole script n (Waits call) h there = ap Waits (call_whole script n call h there)
condition_whole script n (Before call other) h there =
    let both = and_parts (is_there script call) (is_there script other) there in
    ap (λ x. Before x (moved_call (replicate n true) script other)) (call_whole script n call h both.0) ∙ ap (Before call) (call_whole script n other h both.1)
condition_whole script n (Overlap call other) h there =
    let both = and_parts (is_there script call) (is_there script other) there in
    ap (λ x. Overlap x (moved_call (replicate n true) script other)) (call_whole script n call h both.0) ∙ ap (Overlap call) (call_whole script n other h both.1)

clauses_whole : (script : Script) (n : ℕ) (clauses : List Clause) → calls_in script.lists ≤ n → clauses_name_calls script clauses ≡ true → moved_clauses (replicate n true) script clauses ≡ clauses
clauses_whole script n [] h there = refl
clauses_whole script n (clause ∷ clauses) h there =
    let both = and_parts (has_calls script clause.condition) (clauses_name_calls script clauses) there in
    ap (λ c. record clause { condition = c } ∷ moved_clauses (replicate n true) script clauses) (condition_whole script n clause.condition h both.0)
    ∙ ap (λ cs. clause ∷ cs) (clauses_whole script n clauses h both.1)

moved_whole : (script : Script) (n : ℕ) (what : List (List Clause)) → calls_in script.lists ≤ n → names_calls script what ≡ true → moved (replicate n true) script what ≡ what
moved_whole script n [] h there = refl
moved_whole script n (clauses ∷ what) h there =
    let both = and_parts (clauses_name_calls script clauses) (names_calls script what) there in
    ap (λ cs. cs ∷ moved (replicate n true) script what) (clauses_whole script n clauses h both.0)
    ∙ ap (λ w. clauses ∷ w) (moved_whole script n what h both.1)

-- ---- where nothing was cut yet

pub all_stay : (from : Origin) (script : Script) (what : List (List Clause)) (kept : List Bool) → kept ≡ replicate (calls_in script.lists) true ++ replicate (length script.words) true → names_calls script what ≡ true → RunHasOn from Given script what true → IsShrunkOn from script what kept
all_stay from script what kept e there has =
    let n : ℕ = items_in script in
    let is : kept ≡ replicate n true = e ∙ replicate-append-replicate (calls_in script.lists) (length script.words) true in
    subst (IsShrunkOn from script what) (sym is) (record {
      sized = length-replicate n true;
      named = λ at less named. get_or-replicate n at true false (let l : length (replicate n true) ≡ n = length-replicate n true in omega (arith, less, l));
      has = subst (λ (s : Script). RunHasOn from Given s (moved (replicate n true) script what) true) (sym (kept_whole script))
          (subst (λ (w : List (List Clause)). RunHasOn from Given script w true) (sym (moved_whole script n what (omega arith) there)) has);
    })
