-- Ascents from a node to the root, which are shorter than a bound of the numbers in use, and whether they meet a node.
use Rattle.std.proofs.Common.{◌≡◌, ℕ, ◌+◌, ◌<◌, ◌≤◌, Bool, true, false, eqb, List, [], ◌∷◌, ◌++◌, Option, Some, None, length, length-append, refl, sym, ap, ◌∙◌, arith}
use Rattle.std.specs.Prelude.{◌||◌, nat_eq}
use Rattle.std.specs.List.{AllByRecursion, IsDistinct, list_any}
use Rattle.std.proofs.lemmas.Map.Steps.{length-le_from_distinct_below}
use Rattle.fs_names.specs.Keys.{Key}
use Rattle.fs_names.specs.Names.{Name}
use Rattle.fs_names.specs.Shapes.{Shape, Dir}
use Rattle.fs_nodes.specs.Graphs.{Graph, Children, at, then_at, numbers, IsGraph, IsReached}
use Rattle.fs_nodes.specs.Stores.{IsUnlinked, IsParent}
use Rattle.fs_laws.proofs.graphs.Walks.{eqb_true, at_from, at_before, at_child}
use Rattle.fs_laws.proofs.events.TwoCalls.{Ends, ends, ends_same}
use Rattle.fs_core_seats.specs.code.Searches.{AreBelow}

-- no key is itself with more names
no_more : (front : Key) (x : Name) (u : Key) → front ≡ front ++ x ∷ u → ⊥
no_more front x u e =
    let l : length front ≡ length (front ++ x ∷ u) = ap length e in
    let a : length (front ++ x ∷ u) ≡ length front + length (x ∷ u) = length-append front (x ∷ u) in
    let b : length (x ∷ u) ≡ length u + 1 = omega arith in
    absurd (omega arith)

-- no node that is reached from the root leads back to itself
pub acyclic : (graph : Graph) → IsGraph graph → (front : Key) (n : ℕ) (x : Name) (u : Key) → numbers graph front ≡ Some n → at graph.child n (x ∷ u) ≡ Some n → ⊥
acyclic graph is front n x u at_n back = no_more front x u (is.one_key front (front ++ x ∷ u) n at_n (at_from graph.child 0 n front (x ∷ u) at_n ∙ back))

-- the nodes of a path
abbrev pub path_from : Children → Option ℕ → Key → List ℕ
path_from child None key = []
path_from child (Some n) [] = n ∷ []
path_from child (Some n) (x ∷ key) = n ∷ path_from child (child n x) key

apart_path : (child : Children) (o : Option ℕ) (key : Key) (n : ℕ) → ((u : Key) → then_at o (λ m. at child m u) ≡ Some n → ⊥) → AllByRecursion (λ y. eqb n y ≡ false) (path_from child o key)
apart_path child None key n h = tt
apart_path child (Some m) [] n h = (go (eqb n m) refl, tt)
  where
    go : (b : Bool) → eqb n m ≡ b → eqb n m ≡ false
    go true e = absurd (h [] (ap (λ (k : ℕ). Some k) (sym (eqb_true n m e))))
    go false e = e
apart_path child (Some m) (x ∷ key) n h = (go (eqb n m) refl, apart_path child (child m x) key n (λ u e. h (x ∷ u) e))
  where
    go : (b : Bool) → eqb n m ≡ b → eqb n m ≡ false
    go true e = absurd (h [] (ap (λ (k : ℕ). Some k) (sym (eqb_true n m e))))
    go false e = e

distinct_path : (graph : Graph) → IsGraph graph → (front : Key) (o : Option ℕ) (key : Key) → numbers graph front ≡ o → IsDistinct eqb (path_from graph.child o key)
unfolding IsDistinct
distinct_path graph is front None key at_o = tt
distinct_path graph is front (Some n) [] at_o = (tt, tt)
distinct_path graph is front (Some n) (x ∷ key) at_o =
    (apart_path graph.child (graph.child n x) key n (λ u e. acyclic graph is front n x u at_o e), distinct_path graph is (front ++ x ∷ []) (graph.child n x) key (at_child graph.child 0 n front x at_o))

in_path : (child : Children) (o : Option ℕ) (key : Key) (q : ℕ) → list_any (eqb q) (path_from child o key) ≡ true → (u : Key) × (then_at o (λ m. at child m u) ≡ Some q)
in_path child None key q e = cc
in_path child (Some n) [] q e = ([], go (eqb q n) refl e)
  where
    go : (b : Bool) → eqb q n ≡ b → (b || false) ≡ true → Some n ≡ Some q
    go true f g = ap (λ (k : ℕ). Some k) (sym (eqb_true q n f))
    go false f g = cc
in_path child (Some n) (x ∷ key) q e = go (eqb q n) refl e (λ f. in_path child (child n x) key q f)
  where
    go : (b : Bool) → eqb q n ≡ b → (b || list_any (eqb q) (path_from child (child n x) key)) ≡ true
        → (list_any (eqb q) (path_from child (child n x) key) ≡ true → (u : Key) × (then_at (child n x) (λ m. at child m u) ≡ Some q)) → (u : Key) × (at child n u ≡ Some q)
    go true f g rest = ([], ap (λ (k : ℕ). Some k) (sym (eqb_true q n f)))
    go false f g rest = let r : (u : Key) × (then_at (child n x) (λ m. at child m u) ≡ Some q) = rest g in (x ∷ r.0, r.1)

length_path : (child : Children) (o : Option ℕ) (key : Key) (r : ℕ) → then_at o (λ m. at child m key) ≡ Some r → length (path_from child o key) ≡ length key + 1
length_path child None key r e = cc
length_path child (Some n) [] r e = refl
length_path child (Some n) (x ∷ key) r e = let h : length (path_from child (child n x) key) ≡ length key + 1 = length_path child (child n x) key r e in omega arith

-- what is reached from the root is in use
pub used_at : (graph : Graph) → IsGraph graph → (u : Key) (q : ℕ) → numbers graph u ≡ Some q → (s : Shape) × (graph.shape q ≡ Some s)
used_at graph is [] q e = let z : 0 ≡ q = cc in (Dir is.root.0, ap graph.shape (sym z) ∙ is.root.1)
used_at graph is (x ∷ u) q e =
    let d : Ends (x ∷ u) = ends (x ∷ u) tt in
    let f : numbers graph (d.front ++ d.last ∷ []) ≡ Some q = ap (numbers graph) (sym d.is) ∙ e in
    let b : (m : ℕ) × (numbers graph d.front ≡ Some m) × (at graph.child m (d.last ∷ []) ≡ Some q) = at_before graph.child 0 q d.front (d.last ∷ []) f in
    is.to_used b.0 q d.last (sym (at_child graph.child 0 b.0 d.front d.last b.1) ∙ f)

-- the key of a node has fewer names than there are numbers below a bound
pub key_within : (graph : Graph) (bound : ℕ) → IsGraph graph → AreBelow graph bound → (key : Key) (n : ℕ) → numbers graph key ≡ Some n → length key < bound
key_within graph bound is below key n e =
    let l : length (path_from graph.child (Some 0) key) ≤ bound = length-le_from_distinct_below (path_from graph.child (Some 0) key) bound (distinct_path graph is [] (Some 0) key refl)
    (λ q f. let u : (u : Key) × (numbers graph u ≡ Some q) = in_path graph.child (Some 0) key q f in let s : (s : Shape) × (graph.shape q ≡ Some s) = used_at graph is u.0 q u.1 in below q s.0 s.1) in
    let m : length (path_from graph.child (Some 0) key) ≡ length key + 1 = length_path graph.child (Some 0) key n e in
    omega arith

-- one directory has a node's entry
one_parent : (graph : Graph) → IsGraph graph → (m p n : ℕ) (x y : Name) → graph.child m x ≡ Some n → graph.child p y ≡ Some n → m ≡ p
one_parent graph is m p n x y e f =
    let a : (key : Key) × (numbers graph key ≡ Some m) = is.loose m n x e in
    let b : (key : Key) × (numbers graph key ≡ Some p) = is.loose p n y f in
    let k : (a.0 ≡ b.0) × (x ≡ y) = ends_same a.0 b.0 x y (is.one_key (a.0 ++ x ∷ []) (b.0 ++ y ∷ []) n (at_child graph.child 0 m a.0 x a.1 ∙ e) (at_child graph.child 0 p b.0 y b.1 ∙ f)) in
    let z : ◌≡◌ {A = Option ℕ} (Some m) (Some p) = sym a.1 ∙ ap (numbers graph) k.0 ∙ b.1 in
    cc

-- what reaches a node reaches the directory that has its entry
pub reaches_parent : (graph : Graph) → IsGraph graph → (s p n : ℕ) (y : Name) → graph.child p y ≡ Some n → (n ≡ s → ⊥) → IsReached graph.child s n → IsReached graph.child s p
reaches_parent graph is s p n y f other ([], e) = let z : s ≡ n = cc in absurd (other (sym z))
reaches_parent graph is s p n y f other (x ∷ u, e) =
    let d : Ends (x ∷ u) = ends (x ∷ u) tt in
    let g : at graph.child s (d.front ++ d.last ∷ []) ≡ Some n = ap (at graph.child s) (sym d.is) ∙ e in
    let b : (m : ℕ) × (at graph.child s d.front ≡ Some m) × (at graph.child m (d.last ∷ []) ≡ Some n) = at_before graph.child s n d.front (d.last ∷ []) g in
    let k : graph.child b.0 d.last ≡ Some n = sym (at_child graph.child s b.0 d.front d.last b.1) ∙ g in
    (d.front, b.1 ∙ ap (λ (m : ℕ). Some m) (one_parent graph is b.0 p n d.last y k f))

-- an ascent has come to a node by so many steps, and there are places left
pub deep_up : (graph : Graph) → IsGraph graph → (bound above i p : ℕ) (key : Key) → numbers graph key ≡ Some above → length key + i < bound → IsParent graph.child above p → (front : Key) × (numbers graph front ≡ Some p) × (length front + (i + 1) < bound)
deep_up graph is bound above i p key at_key h (y, f) =
    let b : (front : Key) × (numbers graph front ≡ Some p) = is.loose p above y f in
    let k : key ≡ b.0 ++ y ∷ [] = is.one_key key (b.0 ++ y ∷ []) above at_key (at_child graph.child 0 p b.0 y b.1 ∙ f) in
    let l : length key ≡ length b.0 + 1 = ap length k ∙ length-append b.0 (y ∷ []) in
    (b.0, b.1, omega (arith, l, h))

-- what no entry names is reached from itself alone
pub top_alone : (graph : Graph) (s above : ℕ) → (above ≡ s → ⊥) → IsUnlinked graph.child above → IsReached graph.child s above → ⊥
top_alone graph s above other loose r = go r
  where
    go : IsReached graph.child s above → ⊥
    go ([], e) = let z : s ≡ above = cc in other (sym z)
    go (x ∷ u, e) =
        let d : Ends (x ∷ u) = ends (x ∷ u) tt in
        let g : at graph.child s (d.front ++ d.last ∷ []) ≡ Some above = ap (at graph.child s) (sym d.is) ∙ e in
        let b : (m : ℕ) × (at graph.child s d.front ≡ Some m) × (at graph.child m (d.last ∷ []) ≡ Some above) = at_before graph.child s above d.front (d.last ∷ []) g in
        loose b.0 d.last (sym (at_child graph.child s b.0 d.front d.last b.1) ∙ g)

-- numbers of which the test says that they differ
pub differ_by : (n m : ℕ) → false ≡ nat_eq n m → n ≡ m → ⊥
differ_by n m e f = grind arith

-- and that they are one
pub same_by : (n m : ℕ) → true ≡ nat_eq n m → n ≡ m
same_by n m e = grind arith
