-- What a binary search finds among entries whose keys rise.
use Rattle.std.proofs.Common.{◌≡◌, ℕ, zero, suc, ◌+◌, ◌-◌, ◌<◌, ◌≤◌, Bool, true, false, cond, not, ◌&&◌, [], ◌∷◌, ◌++◌, length, take, drop, get_or, Some, Option, Result, Ok, Err, refl, sym, ap, subst, ◌∙◌, arith, T, Ordering, Less, Equal, Greater}
use Rattle.std.specs.Prelude.{nat_eq}
use Rattle.std.proofs.lemmas.Bool.Decides.{nat_tests}
use Rattle.std.specs.Ordering.{is_eq, is_lt, ordering_index, ordering_reverse}
use Rattle.std.specs.List.Sorted.{IsNonDecreasingBy, IsBinarySearchResult, IsSearchInRange}
use Rattle.std.specs.FinMap.{find, put, is_sorted}
use Rattle.std.specs.FinMap.Entries.{by_order, below_all}
use Rattle.std.proofs.lemmas.Cmp.{tied_itself}
use Rattle.fs_names.specs.Keys.{Key, key_cmp, same_key}
use Rattle.fs_names.proofs.Lemmas.{key_total, key_exact}
use Rattle.fs_calls.specs.Tree.{Node, Tree}
use Rattle.fs_linearize_flat.specs.code.Cells.{IsAt, BelongsAt, Searches, without_key}
use Rattle.fs_linearize_flat.proofs.KeyLemmas.{drop_next}

-- an entry of a tree
abbrev Cell : Type 0
Cell = Key × Node

-- the first of two
pub both_first : (a b : Bool) → T (a && b) → T a
both_first true b p = tt
both_first false b p = p

-- the second of two
pub both_second : (a b : Bool) → T (a && b) → T b
both_second true b p = p
both_second false b p = absurd p

-- both of two
pub both : (a b : Bool) → T a → T b → T (a && b)
both true b p q = q
both false b p q = p

-- what is below is less
pub is_less : (o : Ordering) → T (is_lt o) → o ≡ Less
is_less Less h = refl
is_less Equal h = absurd h
is_less Greater h = absurd h

-- a key below all is below each
pub below_each : (x : Key) (t : Tree) (i : ℕ) (d : Cell) → T (below_all key_cmp x t) → i < length t → key_cmp x (get_or t i d).0 ≡ Less
below_each x [] i d below h = absurd (omega arith)
below_each x (l ∷ t) zero d below h = is_less _ (both_first _ _ below)
below_each x (l ∷ t) (suc i) d below h = below_each x t i d (both_second _ _ below) (omega arith)

-- an order's number is at most two
up_to_two : (o : Ordering) → ordering_index o ≤ 2
up_to_two Less = omega arith
up_to_two Equal = omega arith
up_to_two Greater = omega arith

-- what is below a key is no further than it from each key
lower_index : (a b x : Key) → key_cmp a b ≡ Less → ordering_index (key_cmp a x) ≤ ordering_index (key_cmp b x)
lower_index a b x less =
    elim (key_cmp b x) as (λ o. key_cmp b x ≡ o → ordering_index (key_cmp a x) ≤ ordering_index o) [
      | Less ↦ λ e. let same : ordering_index (key_cmp a x) ≡ 0 = ap ordering_index (key_total.trans a b x less e) in omega (arith, same)
      | Equal ↦ λ e. let at : b ≡ x = key_exact b x e in
          let same : ordering_index (key_cmp a x) ≡ 0 = ap ordering_index (ap (key_cmp a) (sym at) ∙ less) in omega (arith, same)
      | Greater ↦ λ e. up_to_two (key_cmp a x)
    ] refl

-- rising keys can be searched
searchable : (x : Key) (t : Tree) → T (is_sorted key_cmp t) → IsNonDecreasingBy (λ (l : Cell). ordering_index (key_cmp l.0 x)) t
searchable x [] sorted i j d le h = absurd (omega arith)
searchable x (l ∷ t) sorted zero zero d le h = omega arith
searchable x (l ∷ t) sorted zero (suc j) d le h = lower_index l.0 (get_or t j d).0 x (below_each l.0 t j d (both_first _ _ sorted) (omega arith))
searchable x (l ∷ t) sorted (suc i) zero d le h = absurd (omega arith)
searchable x (l ∷ t) sorted (suc i) (suc j) d le h = searchable x t (both_second _ _ sorted) i j d (omega arith) (omega arith)

-- a place is after all lower keys, and before all higher ones
record Parts (x : Key) (t : Tree) (i : ℕ) : Type 0 where
  pub lower : (k : ℕ) (d : Cell) → k < i → key_cmp (get_or t k d).0 x ≡ Less
  pub higher : (k : ℕ) (d : Cell) → i ≤ k → k < length t → key_cmp (get_or t k d).0 x ≡ Greater
  pub within : i ≤ length t

-- an order the other way round
turned : (x y : Key) (o : Ordering) → key_cmp y x ≡ o → key_cmp x y ≡ ordering_reverse o
turned x y o e = key_total.antisymm x y ∙ ap ordering_reverse e

-- an entry is put by the order of the first one
put_by : (x : Key) (n : Node) (e : Cell) (es : Tree) (o : Ordering) → key_cmp x e.0 ≡ o → put key_cmp x n (e ∷ es) ≡ by_order o ((x, n) ∷ e ∷ es) ((e.0, n) ∷ es) (e ∷ put key_cmp x n es)
put_by x n e es o h = ap (λ r. by_order r ((x, n) ∷ e ∷ es) ((e.0, n) ∷ es) (e ∷ put key_cmp x n es)) h

-- what is put among no entries stands alone
pub put_none : (cell : Cell) (t : Tree) → nat_eq (length t) 0 ≡ true → put key_cmp cell.0 cell.1 t ≡ cell ∷ t
put_none cell [] h = refl
put_none cell (l ∷ t) h = absurd (let none : length (l ∷ t) ≡ 0 = grind (arith, nat_tests) in omega arith)

-- what is below the first is put in front of it
pub put_front : (cell first : Cell) (t : Tree) → 0 < length t → first ≡ get_or t 0 first → key_cmp cell.0 first.0 ≡ Less → put key_cmp cell.0 cell.1 t ≡ cell ∷ t
put_front cell first [] h here less = absurd (omega arith)
put_front cell first (l ∷ t) h here less = put_by cell.0 cell.1 l t Less (ap (λ z. key_cmp cell.0 z.0) (sym here) ∙ less)

-- an entry of another key is kept
kept_first : (x : Key) (e : Cell) (t : Tree) → same_key x e.0 ≡ false → without_key x (e ∷ t) ≡ e ∷ without_key x t
kept_first x e t h = ap (λ b. cond {A = Tree} (not b) (e ∷ without_key x t) (without_key x t)) h

-- a key below all is none of them
kept_below : (x : Key) (t : Tree) → T (below_all key_cmp x t) → without_key x t ≡ t
kept_below x [] h = refl
kept_below x (e ∷ t) h =
    kept_first x e t (ap is_eq (is_less _ (both_first _ _ h))) ∙ ap (λ z. e ∷ z) (kept_below x t (both_second _ _ h))

-- what is not the first is found behind it
find_later : (x : Key) (e : Cell) (es : Tree) → same_key x e.0 ≡ false → find key_cmp x (e ∷ es) ≡ find key_cmp x es
find_later x e es h = ap (λ b. cond {A = Option Node} b (Some e.1) (find key_cmp x es)) h

-- the key is not there, and is put at the place
parted : (x : Key) (t : Tree) (i : ℕ) → Parts x t i → BelongsAt t x i
parted x [] zero parts = record { within = omega arith; absent = refl; placed = λ n. refl; without = refl }
parted x [] (suc i) parts = absurd (let h = parts.within in omega arith)
parted x (l ∷ t) zero parts =
    let above : key_cmp x l.0 ≡ Less = turned x l.0 Greater (parts.higher 0 l (omega arith) (omega arith)) in
    let rest : BelongsAt t x 0 = parted x t zero (record {
      lower = λ k d h. absurd (omega arith);
      higher = λ k d h g. parts.higher (suc k) d (omega arith) (omega arith);
      within = omega arith;
    }) in
    record {
      within = omega arith;
      absent = find_later x l t (ap is_eq above) ∙ rest.absent;
      placed = λ n. put_by x n l t Less above;
      without = kept_first x l t (ap is_eq above) ∙ ap (λ z. l ∷ z) rest.without;
    }
parted x (l ∷ t) (suc i) parts =
    let below : key_cmp x l.0 ≡ Greater = turned x l.0 Less (parts.lower 0 l (omega arith)) in
    let near = parts.within in
    let rest : BelongsAt t x i = parted x t i (record {
      lower = λ k d h. parts.lower (suc k) d (omega arith);
      higher = λ k d h g. parts.higher (suc k) d (omega arith) (omega arith);
      within = omega arith;
    }) in
    let inner = rest.within in
    record {
      within = omega arith;
      absent = find_later x l t (ap is_eq below) ∙ rest.absent;
      placed = λ n. put_by x n l t Greater below ∙ ap (λ es. l ∷ es) (rest.placed n);
      without = kept_first x l t (ap is_eq below) ∙ ap (λ z. l ∷ z) rest.without;
    }

-- where a key is found, it stands
in_place : (x : Key) (t : Tree) (i : ℕ) → T (is_sorted key_cmp t) → i < length t → ((d : Cell) → key_cmp (get_or t i d).0 x ≡ Equal) → IsAt t x i
in_place x [] i sorted h at = absurd (omega arith)
in_place x (l ∷ t) zero sorted h at =
    let same : l.0 ≡ x = key_exact l.0 x (at l) in
    let tied : key_cmp x l.0 ≡ Equal = ap (key_cmp x) same ∙ tied_itself key_total x in
    record {
      within = omega arith;
      found = λ d. ap (λ b. cond {A = Option Node} b (Some l.1) (find key_cmp x t)) (ap is_eq tied);
      set = λ n. put_by x n l t Equal tied ∙ ap (λ z. (z, n) ∷ t) same;
      without = ap (λ b. cond {A = Tree} (not b) (l ∷ without_key x t) (without_key x t)) (ap is_eq tied) ∙ kept_below x t (subst (λ z. T (below_all key_cmp z t)) same (both_first _ _ sorted));
    }
in_place x (l ∷ t) (suc i) sorted h at =
    let same : (get_or t i l).0 ≡ x = key_exact _ x (at l) in
    let less : key_cmp l.0 x ≡ Less = ap (key_cmp l.0) (sym same) ∙ below_each l.0 t i l (both_first _ _ sorted) (omega arith) in
    let above : key_cmp x l.0 ≡ Greater = turned x l.0 Less less in
    let near : i < length t = omega arith in
    let rest : IsAt t x i = in_place x t i (both_second _ _ sorted) near at in
    let inner = rest.within in
    record {
      within = omega arith;
      found = λ d. find_later x l t (ap is_eq above) ∙ rest.found d;
      set = λ n. put_by x n l t Greater above ∙ ap (λ es. l ∷ es) (rest.set n);
      without = kept_first x l t (ap is_eq above) ∙ ap (λ z. l ∷ z) rest.without ∙ (let s : suc (i + 1) ≡ suc i + 1 = omega arith in ap (λ m. l ∷ (take i t ++ drop m (l ∷ t))) s);
    }

-- what is true holds
pub true_T : (b : Bool) → b ≡ true → T b
true_T b e = subst T (sym e) tt

-- what holds is true
pub T_true : (b : Bool) → T b → b ≡ true
T_true true h = refl
T_true false h = absurd h

-- what a binary search answers
pub searched : (x : Key) (t : Tree) (r : Result ℕ ℕ) → is_sorted key_cmp t ≡ true → IsSearchInRange r (length t) → IsBinarySearchResult (λ (l : Cell). key_cmp l.0 x) t r → Searches t x r
searched x t (Ok i) sorted range at = in_place x t i (true_T _ sorted) range at
searched x t (Err i) sorted range at =
    let cut = at (searchable x t (true_T _ sorted)) in
    parted x t i (record { lower = λ k d h. cut.0 k d (omega arith) h; higher = λ k d h g. cut.1 k d h g; within = range })

-- ---- keys that rise, from the end on

-- what is below the first of rising keys is below all
pub below_rising : (x y : Key) (t : Tree) → key_cmp x y ≡ Less → T (below_all key_cmp y t) → T (below_all key_cmp x t)
below_rising x y [] less h = tt
below_rising x y (l ∷ t) less h = both _ _ (subst (λ o. T (is_lt o)) (sym (key_total.trans x y l.0 less (is_less _ (both_first _ _ h)))) tt) (below_rising x y t less (both_second _ _ h))

-- one key more in front
rises_on : (a b : Cell) (t : Tree) → key_cmp a.0 b.0 ≡ Less → T (is_sorted key_cmp (b ∷ t)) → T (is_sorted key_cmp (a ∷ b ∷ t))
rises_on a b t less h = both _ _ (both _ _ (subst (λ o. T (is_lt o)) (sym less) tt) (below_rising a.0 b.0 t less (both_first _ _ h))) h

-- the keys rise from a place on, if they do from the next one on and the one there is less
rises_from : (t : Tree) (n : ℕ) (d e : Cell) → n + 1 < length t → key_cmp (get_or t n d).0 (get_or t (n + 1) e).0 ≡ Less → is_sorted key_cmp (drop (n + 1) t) ≡ true → is_sorted key_cmp (drop n t) ≡ true
rises_from t n d e h less later =
    let more : drop (n + 1) t ≡ get_or t (n + 1) e ∷ drop (n + 1 + 1) t = drop_next t (n + 1) e h in
    let tail : T (is_sorted key_cmp (get_or t (n + 1) e ∷ drop (n + 1 + 1) t)) = subst (λ z. T (is_sorted key_cmp z)) more (true_T _ later) in
    ap (is_sorted key_cmp) (drop_next t n d (omega arith) ∙ ap (λ z. get_or t n d ∷ z) more)
    ∙ T_true _ (rises_on (get_or t n d) (get_or t (n + 1) e) (drop (n + 1 + 1) t) less tail)

-- the same, by the place behind
pub rises_before : (t : Tree) (place : ℕ) (a b : Cell) → 1 < place → place ≤ length t → a ≡ get_or t (place - 1 - 1) a → b ≡ get_or t (place - 1) b → key_cmp a.0 b.0 ≡ Less → is_sorted key_cmp (drop (place - 1) t) ≡ true
    → is_sorted key_cmp (drop (place - 1 - 1) t) ≡ true
rises_before t place a b some within here there less later =
    let s : place - 1 - 1 + 1 ≡ place - 1 = omega arith in
    rises_from t (place - 1 - 1) a b (omega arith) ((λ i. key_cmp (sym here i).0 (get_or t (s i) b).0) ∙ (λ i. key_cmp a.0 (sym there i).0) ∙ less) (ap (λ m. is_sorted key_cmp (drop m t)) s ∙ later)

-- from the first place on all of them rise
pub rises_all : (t : Tree) (place : ℕ) → place ≤ 1 → is_sorted key_cmp (drop (place - 1) t) ≡ true → is_sorted key_cmp t ≡ true
rises_all t place h rises = let s : 0 ≡ place - 1 = omega arith in ap (λ m. is_sorted key_cmp (drop m t)) s ∙ rises

-- one entry or none rises
pub few_rise : (t : Tree) (n : ℕ) → length t ≤ n + 1 → is_sorted key_cmp (drop n t) ≡ true
few_rise [] zero h = refl
few_rise [] (suc n) h = refl
few_rise (l ∷ []) zero h = refl
few_rise (l ∷ m ∷ t) zero h = absurd (omega arith)
few_rise (l ∷ t) (suc n) h = few_rise t n (omega arith)
