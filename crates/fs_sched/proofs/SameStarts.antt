-- Graphs that spell one tree are one, but for the numbers of nodes.
use Rattle.std.proofs.Common.{◌≡◌, ℕ, zero, suc, ◌<◌, ◌≤◌, Bool, true, false, List, [], ◌∷◌, ◌++◌, Option, Some, None, refl, sym, ap, ◌∙◌, inl, arith}
use Rattle.std.proofs.lemmas.Bool.Decides.{nat_tests}
use mathlib.Core.Path.{fun_ext}
use Rattle.std.specs.Prelude.{nat_lt}
use Rattle.fs_names.specs.Keys.{Key}
use Rattle.fs_names.specs.Names.{Name, has_name}
use Rattle.fs_names.specs.Shapes.{Shape, Dir}
use Rattle.fs_calls.specs.Starts.{Start}
use Rattle.fs_nodes.specs.Graphs.{Graph, numbers, graph_shapes, then_at, IsGraph}
use Rattle.fs_machine.specs.States.{Starting, IsStart, fresh}
use Rattle.fs_laws.proofs.graphs.Walks.{at_child, then_some}
use Rattle.fs_laws.specs.Renamings.{Renaming, renamed_number, renamed_graph, Alike}
use Rattle.fs_laws.proofs.Composing.{nothing, after}
use Rattle.fs_laws.proofs.Edits.{same_graph}
use Rattle.fs_laws.proofs.Leaks.{numbers_kept}
use Rattle.fs_laws.proofs.Steps.{same_state}
use Rattle.fs_laws.proofs.Swaps.{swap, swap_twice, Which, First, Second, Neither, which}

some_is : (n m : ℕ) → ◌≡◌ {A = Option ℕ} (Some n) (Some m) → n ≡ m
some_is n m e = cc

none_some : {A : Type 0} (o : Option A) (x : A) → o ≡ None → o ≡ Some x → ⊥
none_some o x e f = let z : ◌≡◌ {A = Option _} None (Some x) = sym e ∙ f in cc

-- what is reached is in use
in_use : (limit : ℕ) (start : Start) (graph : Graph) → IsStart limit start graph → (key : Key) (n : ℕ) → numbers graph key ≡ Some n → (s : Shape) × (graph.shape n ≡ Some s)
in_use limit start graph is key n e = (numbers_kept (fresh limit start graph) (Starting limit start graph is)).in_use n (inl (key, e))

-- and what is not has no entries
no_child : (graph : Graph) → IsGraph graph → (n : ℕ) (x : Name) → graph.shape n ≡ None → graph.child n x ≡ None
no_child graph is n x free = go (graph.child n x) refl
  where
    go : (o : Option ℕ) → graph.child n x ≡ o → graph.child n x ≡ None
    go None e = e
    go (Some m) e = let d : (names : List Name) × (graph.shape n ≡ Some (Dir names)) × (has_name x names ≡ true) = is.of_dir n m x e in absurd (none_some (graph.shape n) (Dir d.0) free d.1)

-- a renaming of one number more
abbrev then_swapped : (r : Renaming) (a b : ℕ) → swap a b 0 ≡ 0 → Renaming
then_swapped r a b root = after (record { to = swap a b; from = swap a b; there = swap_twice a b; back = swap_twice a b; root = root }) r

module _ (limit : ℕ) (start : Start) (g h : Graph) (a : IsStart limit start g) (b : IsStart limit start h) where
  shapes : (key : Key) → graph_shapes h key ≡ graph_shapes g key
  shapes key = ap (λ (f : Key → Option Shape). f key) (b.spelled ∙ sym a.spelled)

  -- what is reached in one is reached in the other
  there : (key : Key) (n : ℕ) → numbers g key ≡ Some n → (m : ℕ) × (numbers h key ≡ Some m)
  there key n e =
      let u : (s : Shape) × (g.shape n ≡ Some s) = in_use limit start g a key n e in
      let s : graph_shapes h key ≡ Some u.0 = shapes key ∙ ap (λ (o : Option ℕ). then_at o g.shape) e ∙ u.1 in
      let m : (m : ℕ) × (numbers h key ≡ Some m) × (h.shape m ≡ Some u.0) = then_some (numbers h key) h.shape u.0 s in
      (m.0, m.1)

  -- the numbers below this one are renamed as the other graph has them
  abbrev Fits : ℕ → Renaming → Type 0
  Fits k r = (key : Key) (n : ℕ) → n < k → numbers g key ≡ Some n → numbers h key ≡ Some (r.to n)

  back_at : (r : Renaming) (n m : ℕ) → r.to n ≡ r.to m → n ≡ m
  back_at r n m e = sym (r.there n) ∙ ap r.from e ∙ r.there m

  -- the root stays, where this key leads to these numbers
  root_stays : (r : Renaming) (k m : ℕ) (key : Key) → numbers g key ≡ Some k → numbers h key ≡ Some m → swap (r.to k) m 0 ≡ 0
  root_stays r k m key e f = go (which (r.to k) m 0)
    where
      go : Which (r.to k) m 0 → swap (r.to k) m 0 ≡ 0
      go (First i is) =
          let zero_k : k ≡ 0 = back_at r k 0 (sym i ∙ sym r.root) in
          let top : key ≡ [] = a.is_graph.one_key key [] 0 (e ∙ ap (λ (n : ℕ). Some n) zero_k) refl in
          is ∙ some_is m 0 (sym f ∙ ap (numbers h) top)
      go (Second i is) =
          let top : key ≡ [] = b.is_graph.one_key key [] 0 (f ∙ ap (λ (n : ℕ). Some n) (sym i)) refl in
          is ∙ ap r.to (some_is k 0 (sym e ∙ ap (numbers g) top)) ∙ r.root
      go (Neither x y is) = is

  -- one number more
  fits_more : (k : ℕ) (r : Renaming) → Fits k r → (key : Key) (m : ℕ) (e : numbers g key ≡ Some k) (f : numbers h key ≡ Some m) → Fits (suc k) (then_swapped r (r.to k) m (root_stays r k m key e f))
  fits_more k r fits key m e f other n less is = by (nat_lt n k) refl
    where
      last : n ≡ k → numbers h other ≡ Some (swap (r.to k) m (r.to n))
      last same = go (which (r.to k) m (r.to n))
        where
          here : numbers h other ≡ Some m
          here = ap (numbers h) (a.is_graph.one_key other key k (is ∙ ap (λ (x : ℕ). Some x) same) e) ∙ f

          go : Which (r.to k) m (r.to n) → numbers h other ≡ Some (swap (r.to k) m (r.to n))
          go (First i s) = here ∙ ap (λ (x : ℕ). Some x) (sym s)
          go (Second i s) = here ∙ ap (λ (x : ℕ). Some x) (sym (s ∙ ap r.to (sym same) ∙ i))
          go (Neither x y s) = absurd (x (ap r.to same))

      before : n < k → numbers h other ≡ Some (swap (r.to k) m (r.to n))
      before low = go (which (r.to k) m (r.to n))
        where
          was : numbers h other ≡ Some (r.to n)
          was = fits other n low is

          apart : n ≡ k → ⊥
          apart same = omega (arith, low, same)

          go : Which (r.to k) m (r.to n) → numbers h other ≡ Some (swap (r.to k) m (r.to n))
          go (First i s) = absurd (apart (back_at r n k i))
          go (Second i s) = absurd (apart (some_is n k (sym is ∙ ap (numbers g) (b.is_graph.one_key other key m (was ∙ ap (λ (x : ℕ). Some x) i) f) ∙ e)))
          go (Neither x y s) = was ∙ ap (λ (x : ℕ). Some x) (sym s)

      by : (t : Bool) → nat_lt n k ≡ t → numbers h other ≡ Some (swap (r.to k) m (r.to n))
      by true t = before (grind (arith, nat_tests))
      by false t = last (let no : k ≤ n = grind (arith, nat_tests) in omega (arith, less, no))

  fitting : (k : ℕ) → (r : Renaming) × Fits k r
  fitting zero = (nothing, λ key n less e. absurd (omega (arith, less)))
  fitting (suc k) = by (g.shape k) refl (fitting k)
    where
      by : (o : Option Shape) → g.shape k ≡ o → (r : Renaming) × Fits k r → (r : Renaming) × Fits (suc k) r
      by (Some s) is (r, fits) =
          let key : (key : Key) × (numbers g key ≡ Some k) = a.reached k s is in
          let m : (m : ℕ) × (numbers h key.0 ≡ Some m) = there key.0 k key.1 in
          (then_swapped r (r.to k) m.0 (root_stays r k m.0 key.0 key.1 m.1), fits_more k r fits key.0 m.0 key.1 m.1)
      by None is (r, fits) = (r, λ key n less e. rest key n less e (nat_lt n k) refl)
        where
          rest : (key : Key) (n : ℕ) → n < suc k → numbers g key ≡ Some n → (t : Bool) → nat_lt n k ≡ t → numbers h key ≡ Some (r.to n)
          rest key n less e true t = fits key n (grind (arith, nat_tests)) e
          rest key n less e false t =
              let no : k ≤ n = grind (arith, nat_tests) in
              let same : n ≡ k = omega (arith, less, no) in
              let u : (s : Shape) × (g.shape n ≡ Some s) = in_use limit start g a key n e in
              absurd (none_some (g.shape n) u.0 (ap g.shape same ∙ is) u.1)

  -- so all are
  module _ (r : Renaming) (fits : Fits limit r) where
    same_number : (key : Key) (n : ℕ) → numbers g key ≡ Some n → numbers h key ≡ Some (r.to n)
    same_number key n e = let u : (s : Shape) × (g.shape n ≡ Some s) = in_use limit start g a key n e in fits key n (a.below n u.0 u.1) e

    -- where the first graph has a node of the number that was, the other has one of this
    number_there : (m : ℕ) (key : Key) → numbers g key ≡ Some (r.from m) → numbers h key ≡ Some m
    number_there m key e = same_number key (r.from m) e ∙ ap (λ (x : ℕ). Some x) (r.back m)

    shape_same : (m : ℕ) → h.shape m ≡ g.shape (r.from m)
    shape_same m = by (g.shape (r.from m)) refl (h.shape m) refl
      where
        by : (o : Option Shape) → g.shape (r.from m) ≡ o → (p : Option Shape) → h.shape m ≡ p → h.shape m ≡ g.shape (r.from m)
        by (Some s) is p is_p =
            let key : (key : Key) × (numbers g key ≡ Some (r.from m)) = a.reached (r.from m) s is in
            sym (ap (λ (o : Option ℕ). then_at o h.shape) (number_there m key.0 key.1)) ∙ shapes key.0 ∙ ap (λ (o : Option ℕ). then_at o g.shape) key.1
        by None is None is_p = is_p ∙ sym is
        by None is (Some s) is_p =
            let key : (key : Key) × (numbers h key ≡ Some m) = b.reached m s is_p in
            let sight : graph_shapes g key.0 ≡ Some s = sym (shapes key.0) ∙ ap (λ (o : Option ℕ). then_at o h.shape) key.1 ∙ is_p in
            let n : (n : ℕ) × (numbers g key.0 ≡ Some n) × (g.shape n ≡ Some s) = then_some (numbers g key.0) g.shape s sight in
            let same : m ≡ r.to n.0 = some_is m (r.to n.0) (sym key.1 ∙ same_number key.0 n.0 n.1) in
            absurd (none_some (g.shape (r.from m)) s is (ap g.shape (ap r.from same ∙ r.there n.0) ∙ n.2))

    child_same : (m : ℕ) (x : Name) → h.child m x ≡ renamed_number r (g.child (r.from m) x)
    child_same m x = by (g.shape (r.from m)) refl
      where
        by : (o : Option Shape) → g.shape (r.from m) ≡ o → h.child m x ≡ renamed_number r (g.child (r.from m) x)
        by None is = no_child h b.is_graph m x (shape_same m ∙ is) ∙ sym (ap (renamed_number r) (no_child g a.is_graph (r.from m) x is))
        by (Some s) is = entry (g.child (r.from m) x) refl (h.child m x) refl
          where
            key : (key : Key) × (numbers g key ≡ Some (r.from m))
            key = a.reached (r.from m) s is

            mine : numbers g (key.0 ++ x ∷ []) ≡ g.child (r.from m) x
            mine = at_child g.child 0 (r.from m) key.0 x key.1

            its : numbers h (key.0 ++ x ∷ []) ≡ h.child m x
            its = at_child h.child 0 m key.0 x (number_there m key.0 key.1)

            entry : (o : Option ℕ) → g.child (r.from m) x ≡ o → (p : Option ℕ) → h.child m x ≡ p → h.child m x ≡ renamed_number r (g.child (r.from m) x)
            entry (Some y) e p f = sym its ∙ same_number (key.0 ++ x ∷ []) y (mine ∙ e) ∙ sym (ap (renamed_number r) e)
            entry None e None f = f ∙ sym (ap (renamed_number r) e)
            entry None e (Some z) f =
                let u : (s : Shape) × (h.shape z ≡ Some s) = in_use limit start h b (key.0 ++ x ∷ []) z (its ∙ f) in
                let one : graph_shapes h (key.0 ++ x ∷ []) ≡ Some u.0 = ap (λ (o : Option ℕ). then_at o h.shape) (its ∙ f) ∙ u.1 in
                let other : graph_shapes g (key.0 ++ x ∷ []) ≡ None = ap (λ (o : Option ℕ). then_at o g.shape) (mine ∙ e) in
                absurd (none_some (graph_shapes h (key.0 ++ x ∷ [])) u.0 (shapes (key.0 ++ x ∷ []) ∙ other) one)

    graph_same : h ≡ renamed_graph r g
    graph_same = same_graph (fun_ext (λ m. fun_ext (λ x. child_same m x))) (fun_ext (λ m. shape_same m))

  pub starts_alike : Alike (fresh limit start g) (fresh limit start h)
  starts_alike = let (r, fits) = fitting limit in (r, same_state limit start (λ s. None) [] _ _ _ _ _ _ (graph_same r fits) refl refl)
