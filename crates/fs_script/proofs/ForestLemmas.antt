-- The nodes of a store as a forest of the sequential tree: places with links.
use Rattle.std.proofs.Common.{◌≡◌, ℕ, zero, suc, ◌+◌, ◌≤◌, Bool, true, false, cond, ◌&&◌, List, [], ◌∷◌, ◌++◌, length, map, Some, None, Option, is_some, option_and_then, refl, sym, ap, subst, ◌∙◌, arith, T, length-append, Less, Equal, Greater}
use Rattle.std.specs.Ordering.{is_lt}
use Rattle.std.specs.declared.cmp.Ordering.{Ordering}
use Rattle.std.specs.FinMap.{find, is_sorted}
use Rattle.std.specs.FinMap.Entries.{below_all}
use Rattle.fs_names.specs.Names.{Name, name_cmp, same_name, has_name}
use Rattle.fs_names.specs.Keys.{Key}
use Rattle.fs_names.specs.Shapes.{Shape, names_of}
use Rattle.fs_names.specs.Shapes as shapes
use Rattle.fs_names.proofs.Lemmas.{same_name_exact}
use Rattle.fs_calls.specs.Sights.{tree_shapes}
use Rattle.fs_seq_nodes.specs.code.Slots.{Place, links_of, place_at, shape_of, links_at, child, walk_from, walk, node_at, shape_at, tree_of, IsForest}
use Rattle.fs_seq_nodes.specs.code.Slots as forest
use Rattle.fs_seq_nodes.proofs.GraphLemmas.{walk-append}
use Rattle.fs_seq.proofs.ForestTrees.{forest_tree}
use Rattle.fs_seq_nodes.proofs.Resolving.{seen_at, seen_none}
use Rattle.fs_nodes.specs.Graphs.{Graph, Children, then_at, at, graph_shapes}
use Rattle.fs_nodes.specs.Seen.{Seen, Ascends, IsReal}
use Rattle.fs_nodes_places.proofs.AscentLemmas.{above_more}
use Rattle.fs_script.specs.TreeText.{IsSpelled}
use Rattle.fs_script.specs.code.Walks.{number_or, links, place_of, places_from, forest_of}

-- ---- the forest

pub length_places : (graph : Graph) (i k : ℕ) → length (places_from graph i k) ≡ k
length_places graph i zero = refl
length_places graph i (suc k) = ap suc (length_places graph (suc i) k)

place_from : (graph : Graph) (i k n : ℕ) → ((m : ℕ) → i + k ≤ m → graph.shape m ≡ None) → place_at (places_from graph i k) n ≡ place_of graph.child (i + n) (graph.shape (i + n))
unfolding place_at
place_from graph i zero n past = sym (ap (place_of graph.child (i + n)) (past (i + n) (omega arith)))
place_from graph i (suc k) zero past = let e : i ≡ i + 0 = omega arith in ap (λ (m : ℕ). place_of graph.child m (graph.shape m)) e
place_from graph i (suc k) (suc n) past =
    let e : suc i + n ≡ i + suc n = omega arith in
    place_from graph (suc i) k n (λ m h. past m (omega (arith, h))) ∙ ap (λ (m : ℕ). place_of graph.child m (graph.shape m)) e

-- the place of each number
pub place_in : (st : Seen) → IsReal st → (n : ℕ) → place_at (forest_of st) n ≡ place_of st.graph.child n (st.graph.shape n)
place_in st real n =
    let e : 0 + n ≡ n = omega arith in
    place_from st.graph 0 st.room n (λ m h. real.made m (omega (arith, h))) ∙ ap (λ (m : ℕ). place_of st.graph.child m (st.graph.shape m)) e

-- ---- children

found_link : (child : Children) (n : ℕ) (x : Name) (names : List Name) → find name_cmp x (links child n names) ≡ cond (has_name x names) (Some (number_or (child n x))) None
found_link child n x [] = refl
found_link child n x (y ∷ names) = go (same_name x y) refl (found_link child n x names)
  where
    go : (b : Bool) → same_name x y ≡ b → find name_cmp x (links child n names) ≡ cond (has_name x names) (Some (number_or (child n x))) None → cond b (Some (number_or (child n y))) (find name_cmp x (links child n names)) ≡ cond (cond b true (has_name x names)) (Some (number_or (child n x))) None
    go true e _ = ap (λ (z : Name). Some (number_or (child n z))) (sym (same_name_exact x y e))
    go false e more = more

some_of : (o : Option ℕ) → cond (is_some o) (Some (number_or o)) None ≡ o
some_of None = refl
some_of (Some n) = refl

no_child : (st : Seen) → IsReal st → (n : ℕ) (x : Name) (s : Option Shape) → st.graph.shape n ≡ s → ((names : List Name) → s ≡ Some (shapes.Dir names) → ⊥) → (o : Option ℕ) → st.graph.child n x ≡ o → None ≡ o
no_child st real n x s e other None k = refl
no_child st real n x s e other (Some m) k = let d : (names : List Name) × (st.graph.shape n ≡ Some (shapes.Dir names)) = real.of_dir n m x k in absurd (other d.0 (sym e ∙ d.1))

-- the links of the forest are the entries of the store
pub named_child : (st : Seen) → IsReal st → (n : ℕ) (x : Name) → child (forest_of st) n x ≡ st.graph.child n x
unfolding child
named_child st real n x =
    ap (λ (p : Option Place). find name_cmp x (links_of p)) (place_in st real n) ∙ go (st.graph.shape n) refl
  where
    go : (s : Option Shape) → st.graph.shape n ≡ s → find name_cmp x (links_of (place_of st.graph.child n (st.graph.shape n))) ≡ st.graph.child n x
    go None e = rw e (no_child st real n x None e (λ names h. absurd (cc)) (st.graph.child n x) refl)
    go (Some (shapes.File bytes)) e = rw e (no_child st real n x (Some (shapes.File bytes)) e (λ names h. absurd (cc)) (st.graph.child n x) refl)
    go (Some (shapes.Dir names)) e =
        let has : has_name x names ≡ is_some (st.graph.child n x) = ap (λ (s : Option Shape). has_name x (names_of s)) (sym e) ∙ real.listed n x in
        rw e (found_link st.graph.child n x names ∙ ap (λ (b : Bool). cond b (Some (number_or (st.graph.child n x))) None) has ∙ some_of (st.graph.child n x))

-- so a key leads where it leads in the store
walk_at : (st : Seen) → IsReal st → (n : ℕ) (key : Key) → walk_from (forest_of st) n key ≡ at st.graph.child n key
walk_at st real n [] = refl
walk_at st real n (x ∷ key) = rw (named_child st real n x) (go (st.graph.child n x) (λ m. walk_at st real m key))
  where
    go : (o : Option ℕ) → ((m : ℕ) → walk_from (forest_of st) m key ≡ at st.graph.child m key) → option_and_then (λ m. walk_from (forest_of st) m key) o ≡ then_at o (λ m. at st.graph.child m key)
    go None more = refl
    go (Some m) more = more m

-- ---- each number has one key

-- a key is empty or has a last name
data Ended (k : Key) : Type 0 where
  Nothing : k ≡ [] → Ended k
  Last : (front : Key) (x : Name) → k ≡ front ++ x ∷ [] → Ended k

ended : (k : Key) → Ended k
ended [] = Nothing refl
ended (x ∷ k) = go (ended k)
  where
    go : Ended k → Ended (x ∷ k)
    go (Nothing e) = Last [] x (ap (λ (l : Key). x ∷ l) e)
    go (Last front y e) = Last (x ∷ front) y (ap (λ (l : Key). x ∷ l) e)

-- the directory and the entry by which a key ends
pub last_step : (g : forest.Slots) (k : Key) (x : Name) (n : ℕ) → walk g (k ++ x ∷ []) ≡ Some n → (d : ℕ) × (walk g k ≡ Some d) × (child g d x ≡ Some n)
last_step g k x n w = go (walk g k) refl (sym (walk-append g 0 k (x ∷ [])) ∙ w)
  where
    by_child : (o : Option ℕ) → option_and_then (λ m. Some m) o ≡ Some n → o ≡ Some n
    by_child None h = absurd (cc)
    by_child (Some m) h = h

    go : (o : Option ℕ) → walk g k ≡ o → option_and_then (λ m. walk_from g m (x ∷ [])) o ≡ Some n → (d : ℕ) × (walk g k ≡ Some d) × (child g d x ≡ Some n)
    go None e h = absurd (cc)
    go (Some d) e h = (d, e, by_child (child g d x) h)

-- the entry that names what a key leads to
end_link : (st : Seen) → IsReal st → (k : Key) (x : Name) (n : ℕ) → walk (forest_of st) (k ++ x ∷ []) ≡ Some n → (d : ℕ) × (walk (forest_of st) k ≡ Some d) × (st.graph.child d x ≡ Some n)
end_link st real k x n w =
    let step = last_step (forest_of st) k x n w in
    (step.0, step.1, sym (named_child st real step.0 x) ∙ step.2)

not_root : (st : Seen) → IsReal st → (k front : Key) (x : Name) → k ≡ front ++ x ∷ [] → walk (forest_of st) k ≡ Some 0 → ⊥
not_root st real k front x e w = let l = end_link st real front x 0 (subst (λ (z : Key). walk (forest_of st) z ≡ Some 0) e w) in real.root_unlinked l.0 x l.2

-- where both keys have a last name it is the same one, and so are the directories before it
once_step : (st : Seen) → IsReal st → (a b front back : Key) (x y : Name) (n : ℕ) → a ≡ front ++ x ∷ [] → b ≡ back ++ y ∷ [] → walk (forest_of st) a ≡ Some n → walk (forest_of st) b ≡ Some n
    → ((d : ℕ) → walk (forest_of st) front ≡ Some d → walk (forest_of st) back ≡ Some d → front ≡ back) → a ≡ b
once_step st real a b front back x y n e f u v fronts_same =
    let l = end_link st real front x n (subst (λ (z : Key). walk (forest_of st) z ≡ Some n) e u) in
    let r = end_link st real back y n (subst (λ (z : Key). walk (forest_of st) z ≡ Some n) f v) in
    let same : (l.0 ≡ r.0) × (x ≡ y) = real.one_name l.0 r.0 n x y l.2 r.2 in
    let fronts : front ≡ back = fronts_same l.0 l.1 (r.1 ∙ ap Some (sym same.0)) in
    e ∙ ap (λ (z : Key). z ++ x ∷ []) fronts ∙ ap (λ (z : Name). back ++ z ∷ []) same.1 ∙ sym f

once_by : (st : Seen) → IsReal st → (many : ℕ) (a b : Key) (n : ℕ) → length a ≤ many → walk (forest_of st) a ≡ Some n → walk (forest_of st) b ≡ Some n → Ended a → Ended b → a ≡ b
once_by st real many a b n h u v (Nothing e) (Nothing f) = e ∙ sym f
once_by st real many a b n h u v (Nothing e) (Last front y f) =
    let root : Some 0 ≡ Some n = subst (λ (z : Key). walk (forest_of st) z ≡ Some n) e u in
    absurd (not_root st real b front y f (v ∙ sym root))
once_by st real many a b n h u v (Last front x e) (Nothing f) =
    let root : Some 0 ≡ Some n = subst (λ (z : Key). walk (forest_of st) z ≡ Some n) f v in
    absurd (not_root st real a front x e (u ∙ sym root))
once_by st real zero a b n h u v (Last front x e) (Last back y f) = absurd (omega (arith, ap length e, length-append front (x ∷ [])))
once_by st real (suc less) a b n h u v (Last front x e) (Last back y f) =
    let short : length front ≤ less = omega (arith, ap length e, length-append front (x ∷ [])) in
    once_step st real a b front back x y n e f u v (λ d p q. once_by st real less front back d short p q (ended front) (ended back))

-- so the places and links are a forest
inside_by : (st : Seen) → IsReal st → (k : Key) (n : ℕ) → walk (forest_of st) k ≡ Some n → Ended k → (s : Shape) × (st.graph.shape n ≡ Some s)
inside_by st real k n w (Nothing e) =
    let root : Some 0 ≡ Some n = subst (λ (z : Key). walk (forest_of st) z ≡ Some n) e w in
    let at : 0 ≡ n = cc in
    (shapes.Dir real.root.0, subst (λ (m : ℕ). st.graph.shape m ≡ Some (shapes.Dir real.root.0)) at real.root.1)
inside_by st real k n w (Last front x e) =
    let l = end_link st real front x n (subst (λ (z : Key). walk (forest_of st) z ≡ Some n) e w) in
    real.to_used l.0 n x l.2

-- what is in use has a place in the forest
place_some : (st : Seen) → IsReal st → (n : ℕ) (s : Shape) → st.graph.shape n ≡ Some s → is_some (place_at (forest_of st) n) ≡ true
place_some st real n (shapes.Dir names) e = rw (place_in st real n, e) refl
place_some st real n (shapes.File bytes) e = rw (place_in st real n, e) refl

less_from : (o : Ordering) → is_lt o ≡ true → o ≡ Less
less_from Less h = refl
less_from Equal h = absurd (cc)
less_from Greater h = absurd (cc)

both_hold : (a b : Bool) → T a → T b → T (a && b)
both_hold true b p q = q
both_hold false b p q = p

T_from_true : (b : Bool) → b ≡ true → T b
T_from_true true h = tt
T_from_true false h = absurd (cc)

true_from_T : (b : Bool) → T b → b ≡ true
true_from_T true h = refl
true_from_T false h = absurd h

-- names above an ascending list's base are below all its links
below_links : (child : Children) (n : ℕ) (x : Name) (names : List Name) → Ascends (Some x) names → T (below_all name_cmp x (links child n names))
below_links child n x [] a = tt
below_links child n x (z ∷ names) a = both_hold _ _ (T_from_true _ a.0) (below_links child n x names (onwards names a.1))
  where
    onwards : (more : List Name) → Ascends (Some z) more → Ascends (Some x) more
    onwards [] b = tt
    onwards (w ∷ more) b = (above_more (Some x) z w a.0 (less_from _ b.0), b.1)

rising_links : (child : Children) (n : ℕ) (low : Option Name) (names : List Name) → Ascends low names → T (is_sorted name_cmp (links child n names))
rising_links child n low [] a = tt
rising_links child n low (x ∷ names) a = both_hold _ _ (below_links child n x names a.1) (rising_links child n (Some x) names a.1)

rising_at : (st : Seen) → IsReal st → (n : ℕ) (s : Option Shape) → st.graph.shape n ≡ s → T (is_sorted name_cmp (links_of (place_of st.graph.child n (st.graph.shape n))))
rising_at st real n None e = rw e tt
rising_at st real n (Some (shapes.Dir names)) e = rw e (rising_links st.graph.child n None names (subst (λ (s : Option Shape). Ascends None (names_of s)) e (real.ascend n)))
rising_at st real n (Some (shapes.File bytes)) e = rw e tt

pub store_forest : (st : Seen) → IsReal st → IsForest (forest_of st)
store_forest st real = record {
  once = λ a b n u v. once_by st real (length a) a b n (omega arith) u v (ended a) (ended b);
  inside = λ k n w. let c = inside_by st real k n w (ended k) in place_some st real n c.0 c.1;
  root = rw (place_in st real 0, real.root.1) refl;
  rising = λ n. rw (place_in st real n) (true_from_T _ (rising_at st real n (st.graph.shape n) refl));
}

-- ---- the tree of the forest is the one that the store spells

named_links : (child : Children) (n : ℕ) (names : List Name) → map (λ l. l.0) (links child n names) ≡ names
named_links child n [] = refl
named_links child n (x ∷ names) = ap (λ (l : List Name). x ∷ l) (named_links child n names)

shape_is : (child : Children) (n : ℕ) (s : Option Shape) → shape_of (place_of child n s) ≡ s
shape_is child n None = refl
shape_is child n (Some (shapes.Dir names)) = ap (λ (l : List Name). Some (shapes.Dir l)) (named_links child n names)
shape_is child n (Some (shapes.File bytes)) = refl

spelled_at : (st : Seen) → IsReal st → (k : Key) → tree_shapes (tree_of (forest_of st)) k ≡ graph_shapes st.graph k
spelled_at st real k = go (walk (forest_of st) k) refl
  where
    forest : IsForest (forest_of st)
    forest = store_forest st real

    go : (o : Option ℕ) → walk (forest_of st) k ≡ o → tree_shapes (tree_of (forest_of st)) k ≡ graph_shapes st.graph k
    go None w = seen_none (forest_of st) k forest w ∙ sym (ap (λ (o : Option ℕ). then_at o st.graph.shape) (sym (walk_at st real 0 k) ∙ w))
    go (Some n) w =
        seen_at (forest_of st) k n forest w ∙ ap shape_of (place_in st real n) ∙ shape_is st.graph.child n (st.graph.shape n)
        ∙ sym (ap (λ (o : Option ℕ). then_at o st.graph.shape) (sym (walk_at st real 0 k) ∙ w))

pub store_tree : (st : Seen) → IsReal st → IsSpelled st.graph (tree_of (forest_of st))
store_tree st real = record { tree = forest_tree (forest_of st) (store_forest st real); spelled = λ i k. spelled_at st real k i }
