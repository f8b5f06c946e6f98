-- What a graph spells at a key.
use Rattle.std.proofs.Common.{◌≡◌, ◌≢◌, ℕ, zero, suc, ◌<◌, ◌≤◌, Bool, true, false, cond, ◌||◌, List, [], ◌∷◌, ◌++◌, length, map, Some, None, Option, is_some, option_and_then, refl, sym, ap, ◌∙◌, arith, T, Equal, nat_eq}
use Rattle.std.specs.List.{flat_map, list_any, IsDistinct, AllByRecursion}
use Rattle.std.specs.Set.{is_member}
use Rattle.std.proofs.lemmas.List.Folds.{list_any-append}
use Rattle.std.proofs.lemmas.Map.Made.{length-le_from_is_member}
use Rattle.std.proofs.lemmas.Cmp.{nat_eq_equiv}
use Rattle.std.proofs.lemmas.Bool.Decides.{nat_tests}
use Rattle.std.specs.FinMap.{find, is_sorted}
use Rattle.fs_names.specs.Names.{Name, name_cmp, same_name}
use Rattle.fs_names.specs.Keys.{Key, key_cmp, same_key}
use Rattle.fs_names.proofs.Lemmas.{equal_from_is_eq}
use Rattle.fs_calls.specs.Tree.{Node, Tree, look}
use Rattle.fs_seq_nodes.specs.code.Slots.{Slots, place_at, links_at, child, walk_from, walk, node_at, spelled, keys_from, with_node, nodes_at, tree_of, IsForest}
use Rattle.fs_calls.proofs.LookLemmas.{same_key_exact, look-from_list, sorted-from_list, same_tree}

-- ---- walks

-- a walk by two keys is one after the other
pub walk-append : (g : Slots) (n : ℕ) (a b : Key) → walk_from g n (a ++ b) ≡ option_and_then (λ m. walk_from g m b) (walk_from g n a)
walk-append g n [] b = refl
walk-append g n (x ∷ a) b =
    elim (child g n x) as (λ o. option_and_then (λ m. walk_from g m (a ++ b)) o ≡ option_and_then (λ m. walk_from g m b) (option_and_then (λ m. walk_from g m a) o)) [
      | None ↦ refl
      | Some m ↦ walk-append g m a b
    ]

-- ---- what the list of entries has at a key

-- a key beside others
find-with_node : (k q : Key) (o : Option Node) (rest : List (Key × Node)) → same_key q k ≡ false → find key_cmp q (with_node k o rest) ≡ find key_cmp q rest
find-with_node k q None rest apart = refl
find-with_node k q (Some e) rest apart = rw apart refl

-- a key that is there
find-with_node_same : (k q : Key) (o : Option Node) (rest : List (Key × Node)) → same_key q k ≡ true → (o ≡ None → find key_cmp q rest ≡ None) → find key_cmp q (with_node k o rest) ≡ o
find-with_node_same k q None rest same none = none refl
find-with_node_same k q (Some e) rest same none = rw same refl

-- a choice between one thing
either_same : {A : Type 0} (b : Bool) (x : A) → cond b x x ≡ x
either_same true x = refl
either_same false x = refl

-- what is found at listed keys
pub find-nodes_at : (g : Slots) (ks : List Key) (q : Key) → find key_cmp q (nodes_at g ks) ≡ cond (list_any (same_key q) ks) (spelled g q) None
find-nodes_at g [] q = refl
find-nodes_at g (k ∷ ks) q =
    elim (same_key q k) as (λ b. same_key q k ≡ b → find key_cmp q (with_node k (spelled g k) (nodes_at g ks)) ≡ cond (b || list_any (same_key q) ks) (spelled g q) None) [
      | true ↦ λ s.
          let e : q ≡ k = same_key_exact q k s in
          find-with_node_same k q (spelled g k) (nodes_at g ks) s
          (λ none. find-nodes_at g ks q ∙ ap (λ o. cond (list_any (same_key q) ks) o None) (ap (spelled g) e ∙ none) ∙ either_same _ None)
          ∙ sym (ap (spelled g) e)
      | false ↦ λ s. find-with_node k q (spelled g k) (nodes_at g ks) s ∙ find-nodes_at g ks q
    ] refl

-- ---- each key that leads somewhere is listed

-- keys under one name
any_under : (x : Name) (k : Key) (y : Name) (ks : List Key) → name_cmp x y ≡ Equal → list_any (same_key (x ∷ k)) (map (λ r. y ∷ r) ks) ≡ list_any (same_key k) ks
any_under x k y [] e = refl
any_under x k y (r ∷ ks) e = rw (e, any_under x k y ks e) refl

-- the first holds
or_first : (a b : Bool) → a ≡ true → (a || b) ≡ true
or_first a b e = rw e refl

-- the second holds
or_second : (a b : Bool) → b ≡ true → (a || b) ≡ true
or_second true b e = refl
or_second false b e = e

-- a key under a link is listed
found_under : (many : ℕ) (g : Slots) (x : Name) (k : Key) (m : ℕ) (links : List (Name × ℕ)) → find name_cmp x links ≡ Some m → list_any (same_key k) (keys_from many g m) ≡ true
    → list_any (same_key (x ∷ k)) (flat_map (λ (l : Name × ℕ). map (λ r. l.0 ∷ r) (keys_from many g l.1)) links) ≡ true
found_under many g x k m [] e there = absurd (cc)
found_under many g x k m (l ∷ links) e there =
    let here = map (λ r. l.0 ∷ r) (keys_from many g l.1) in
    let more = flat_map (λ (j : Name × ℕ). map (λ r. j.0 ∷ r) (keys_from many g j.1)) links in
    list_any-append (same_key (x ∷ k)) here more
    ∙ elim (same_name x l.0) as (λ b. same_name x l.0 ≡ b → cond b (Some l.1) (find name_cmp x links) ≡ Some m
    → (list_any (same_key (x ∷ k)) here || list_any (same_key (x ∷ k)) more) ≡ true) [
      | true ↦ λ s f. let at : l.1 ≡ m = cc in or_first _ _ (any_under x k l.0 (keys_from many g l.1) (equal_from_is_eq _ s) ∙ ap (λ n. list_any (same_key k) (keys_from many g n)) at ∙ there)
      | false ↦ λ s f. or_second (list_any (same_key (x ∷ k)) here) _ (found_under many g x k m links f there)
    ] refl e

-- a key of fewer names is listed
pub listed : (many : ℕ) (g : Slots) (n : ℕ) (k : Key) (m : ℕ) → walk_from g n k ≡ Some m → length k < many → list_any (same_key k) (keys_from many g n) ≡ true
unfolding child
listed zero g n k m w h = absurd (omega arith)
listed (suc many) g n [] m w h = refl
listed (suc many) g n (x ∷ k) m w h =
    elim (child g n x) as (λ o. child g n x ≡ o → option_and_then (λ j. walk_from g j k) o ≡ Some m → list_any (same_key (x ∷ k)) (keys_from (suc many) g n) ≡ true) [
      | None ↦ λ e f. absurd (cc)
      | Some j ↦ λ e f. found_under many g x k j (links_at g n) e (listed many g j k m f (omega arith))
    ] refl w

-- ---- no walk is longer than the graph

-- no number is reached from n in two ways
abbrev pub Once : Slots → ℕ → Type 0
Once g n = (a b : Key) (j : ℕ) → walk_from g n a ≡ Some j → walk_from g n b ≡ Some j → a ≡ b

-- each number that is reached from n has a place
abbrev pub Inside : Slots → ℕ → Type 0
Inside g n = (k : Key) (j : ℕ) → walk_from g n k ≡ Some j → is_some (place_at g j) ≡ true

-- the numbers, if there are any
abbrev parts_of : Option (List ℕ) → List ℕ
parts_of None = []
parts_of (Some ns) = ns

-- the numbers on the way
abbrev visited : Slots → ℕ → Key → List ℕ
visited g n [] = n ∷ []
visited g n (x ∷ k) = n ∷ parts_of (option_and_then (λ m. Some (visited g m k)) (child g n x))

-- a walk visits one number more than it has names
length-visited : (g : Slots) (n : ℕ) (k : Key) (j : ℕ) → walk_from g n k ≡ Some j → length (visited g n k) ≡ suc (length k)
length-visited g n [] j w = refl
length-visited g n (x ∷ k) j w =
    elim (child g n x) as (λ o. option_and_then (λ m. walk_from g m k) o ≡ Some j → length (n ∷ parts_of (option_and_then (λ m. Some (visited g m k)) o)) ≡ suc (suc (length k))) [
      | None ↦ λ f. absurd (cc)
      | Some m ↦ λ f. ap suc (length-visited g m k j f)
    ] w

-- what holds of each number that is reached holds of those on the way
all_visited : (P : ℕ → Type 0) (g : Slots) (n : ℕ) (k : Key) (j : ℕ) → ((front : Key) (q : ℕ) → walk_from g n front ≡ Some q → P q) → walk_from g n k ≡ Some j → AllByRecursion P (visited g n k)
all_visited P g n [] j holds w = (holds [] n refl, tt)
all_visited P g n (x ∷ k) j holds w =
    elim (child g n x) as (λ o. child g n x ≡ o → option_and_then (λ m. walk_from g m k) o ≡ Some j → AllByRecursion P (n ∷ parts_of (option_and_then (λ m. Some (visited g m k)) o))) [
      | None ↦ λ e f. absurd (cc)
      | Some m ↦ λ e f. (holds [] n refl, all_visited P g m k j (λ front q r. holds (x ∷ front) q (rw e r)) f)
    ] refl w

-- from a child too
Once-child : (g : Slots) (n : ℕ) (x : Name) (m : ℕ) → child g n x ≡ Some m → Once g n → Once g m
Once-child g n x m e once a b j u v =
    let both : x ∷ a ≡ x ∷ b = once (x ∷ a) (x ∷ b) j (rw e u) (rw e v) in cc

-- two numbers test as two
nat_apart : (a b : ℕ) → a ≢ b → nat_eq a b ≡ false
nat_apart a b h = grind (arith, nat_tests)

-- a walk visits no number twice
distinct_visited : (g : Slots) (n : ℕ) (k : Key) (j : ℕ) → Once g n → walk_from g n k ≡ Some j → IsDistinct nat_eq (visited g n k)
unfolding IsDistinct
distinct_visited g n [] j once w = (tt, tt)
distinct_visited g n (x ∷ k) j once w =
    elim (child g n x) as (λ o. child g n x ≡ o → option_and_then (λ m. walk_from g m k) o ≡ Some j → IsDistinct nat_eq (n ∷ parts_of (option_and_then (λ m. Some (visited g m k)) o))) [
      | None ↦ λ e f. absurd (cc)
      | Some m ↦ λ e f. (
        all_visited (λ q. nat_eq n q ≡ false) g m k j (λ front q r. nat_apart n q (λ same.
            let again : [] ≡ x ∷ front = once [] (x ∷ front) n refl (rw e (r ∙ ap Some (sym same))) in absurd (cc))) f,
        distinct_visited g m k j (Once-child g n x m e once) f,
      )
    ] refl w

-- the numbers below n
abbrev below : ℕ → List ℕ
below zero = []
below (suc n) = n ∷ below n

-- there are n numbers below n
length-below : (n : ℕ) → length (below n) ≡ n
length-below zero = refl
length-below (suc n) = ap suc (length-below n)

-- each number below n is among them
is_member-below : (n q : ℕ) → q < n → is_member nat_eq (below n) q ≡ true
is_member-below zero q h = absurd (omega arith)
is_member-below (suc n) q h =
    elim (nat_eq q n) as (λ b. nat_eq q n ≡ b → (b || is_member nat_eq (below n) q) ≡ true) [
      | true ↦ λ e. refl
      | false ↦ λ e. is_member-below n q (grind (arith, nat_tests))
    ] refl

-- a member of numbers below a bound is below it
below_member : (bound : ℕ) (xs : List ℕ) (q : ℕ) → AllByRecursion (λ y. y < bound) xs → is_member nat_eq xs q ≡ true → q < bound
below_member bound [] q all m = absurd (cc)
below_member bound (x ∷ xs) q all m =
    elim (nat_eq q x) as (λ b. nat_eq q x ≡ b → (b || is_member nat_eq xs q) ≡ true → q < bound) [
      | true ↦ λ e f. let first = all.0 in grind (arith, nat_tests)
      | false ↦ λ e f. below_member bound xs q all.1 f
    ] refl m

-- a number with a place is one of the list's
pub place_below : (g : Slots) (n : ℕ) → is_some (place_at g n) ≡ true → n < length g
unfolding place_at
place_below [] zero h = absurd (cc)
place_below [] (suc n) h = absurd (cc)
place_below (o ∷ g) zero h = omega arith
place_below (o ∷ g) (suc n) h = let below : n < length g = place_below g n h in omega arith

-- no walk is as long as the graph
pub shorter : (g : Slots) (n : ℕ) (k : Key) (j : ℕ) → Once g n → Inside g n → walk_from g n k ≡ Some j → length k < length g
shorter g n k j once inside w =
    let fewer : length (visited g n k) ≤ length (below (length g)) = length-le_from_is_member nat_eq_equiv (visited g n k) (below (length g)) (distinct_visited g n k j once w)
    (λ q m. is_member-below (length g) q (below_member (length g) (visited g n k) q (all_visited (λ y. y < length g) g n k j (λ front q r. place_below g q (inside front q r)) w) m)) in
    omega (arith, fewer, length-visited g n k j w, length-below (length g))

-- ---- what the tree has at a key

-- a choice that misses nothing
cond_none : {A : Type 0} (b : Bool) (o : Option A) → (is_some o ≡ true → b ≡ true) → cond b o None ≡ o
cond_none true o h = refl
cond_none false None h = refl
cond_none false (Some x) h = absurd (let e : false ≡ true = h refl in cc)

-- what is spelled is reached
walk_of_spelled : (g : Slots) (k : Key) → is_some (spelled g k) ≡ true → (n : ℕ) × (walk g k ≡ Some n)
unfolding spelled
walk_of_spelled g k = elim (walk g k) as (λ o. is_some (option_and_then (node_at g) o) ≡ true → (n : ℕ) × (o ≡ Some n)) [ None ↦ λ e. absurd (cc) | Some n ↦ λ e. (n, refl) ]

-- the tree has at each key what the graph spells there
pub look-tree_of : (g : Slots) → IsForest g → (k : Key) → look (tree_of g) k ≡ spelled g k
unfolding tree_of
look-tree_of g forest k =
    look-from_list (nodes_at g (keys_from (length g) g 0)) k ∙ find-nodes_at g (keys_from (length g) g 0) k
    ∙ cond_none _ _ (λ some. let at = walk_of_spelled g k some in listed (length g) g 0 k at.0 at.1 (shorter g 0 k at.0 forest.once forest.inside at.1))

-- the keys of the tree rise
pub sorted-tree_of : (g : Slots) → T (is_sorted key_cmp (tree_of g))
unfolding tree_of
sorted-tree_of g = sorted-from_list (nodes_at g (keys_from (length g) g 0))

-- a tree is spelled where it has what the graph spells
pub is_tree_of : (g : Slots) (t : Tree) → IsForest g → T (is_sorted key_cmp t) → ((k : Key) → look t k ≡ spelled g k) → tree_of g ≡ t
is_tree_of g t forest sorted same = same_tree (tree_of g) t (sorted-tree_of g) sorted (λ k. look-tree_of g forest k ∙ sym (same k))
