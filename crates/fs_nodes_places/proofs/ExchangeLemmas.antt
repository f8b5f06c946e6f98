-- Two entries change what they name: both go, and come again the other way round. What stands in between.
use Rattle.std.proofs.Common.{◌≡◌, ℕ, Bool, true, false, cond, eqb, ◌&&◌, List, [], ◌∷◌, ◌++◌, Option, Some, None, is_some, ◌⊎◌, inl, inr, refl, sym, ap, ap₂, subst, ◌∙◌}
use Rattle.std.specs.Prelude.{IsTrue, IsSome}
use Rattle.std.specs.Ordering.{is_eq, is_lt}
use Rattle.fs_names.specs.Keys.{Key}
use Rattle.fs_names.specs.Names.{Name, same_name, has_name, inserted_name, removed_name}
use Rattle.fs_names.specs.Shapes.{Shape, Dir, names_of, is_there, is_dir}
use Rattle.fs_names.proofs.Lemmas.{same_name_refl, same_name_exact}
use Rattle.fs_calls.specs.Graphs.{Graph, then_at, at, set_at, linked_in, unlinked_in, swapped_in, IsReached, IsUnlinked}
use Rattle.fs_nodes_places.specs.Seen.{Seen, IsReal, Ascends}
use Rattle.fs_nodes_places.specs.Stores.{is_above}
use Rattle.fs_calls.proofs.NameLemmas.{Compared, Below, Same, Above, compare, inserted_below, inserted_above, inserted_inserted, removed_absent}
use Rattle.fs_nodes_places.proofs.AscentLemmas.{above_above, not_itself}
use Rattle.fs_calls.proofs.EqualLemmas.{eqb_true, eqb_refl, both_true, graph_by}
use Rattle.fs_calls.proofs.CycleLemmas.{at_append, passes, reached_less}

-- what holds of the graph in between
pub record IsBetween (graph : Graph) (to n : ℕ) (y : Name) : Type 0 where
  pub dir : IsTrue (is_dir (graph.shape to))
  pub absent : graph.child to y ≡ None
  pub used : IsTrue (is_there (graph.shape n))
  pub unlinked : IsUnlinked graph.child n
  pub not_root : n ≡ 0 → ⊥
  pub apart : IsReached graph.child n to → ⊥

-- ---- names that ascend

-- from a lesser name too
ascends_lower : (low : Option Name) (z : Name) (zs : List Name) → is_above low z ≡ true → Ascends (Some z) zs → Ascends low zs
ascends_lower low z [] h a = tt
ascends_lower low z (w ∷ ws) h a = (above_above low z w h a.0, a.1)

-- a name is not among those above it
absent_above : (x : Name) (names : List Name) → Ascends (Some x) names → has_name x names ≡ false
absent_above x [] a = refl
absent_above x (z ∷ zs) a = go (compare x z) (λ b. absent_above x zs b)
  where
    go : Compared x z → (Ascends (Some x) zs → has_name x zs ≡ false) → has_name x (z ∷ zs) ≡ false
    go (Below e f) rest = let k : same_name x z ≡ false = ap is_eq e in rw k (rest (ascends_lower (Some x) z zs a.0 a.1))
    go (Same e) rest = let k : is_above (Some x) z ≡ false = ap (λ (w : Name). is_above (Some x) w) (sym e) ∙ not_itself x in let t : true ≡ false = sym a.0 ∙ k in absurd (cc)
    go (Above e f) rest = let k : is_above (Some x) z ≡ false = ap is_lt e in let t : true ≡ false = sym a.0 ∙ k in absurd (cc)

-- a name before those above it
inserted_first : (x : Name) (names : List Name) → Ascends (Some x) names → inserted_name x names ≡ x ∷ names
inserted_first x [] a = refl
inserted_first x (z ∷ zs) a = go (compare x z)
  where
    go : Compared x z → inserted_name x (z ∷ zs) ≡ x ∷ z ∷ zs
    go (Below e f) = inserted_below x z zs e
    go (Same e) = let k : is_above (Some x) z ≡ false = ap (λ (w : Name). is_above (Some x) w) (sym e) ∙ not_itself x in let t : true ≡ false = sym a.0 ∙ k in absurd (cc)
    go (Above e f) = let k : is_above (Some x) z ≡ false = ap is_lt e in let t : true ≡ false = sym a.0 ∙ k in absurd (cc)

-- a name that is taken out and put in again
inserted_removed : (low : Option Name) (x : Name) (names : List Name) → Ascends low names → has_name x names ≡ true → inserted_name x (removed_name x names) ≡ names
inserted_removed low x [] a h = absurd (cc)
inserted_removed low x (z ∷ zs) a h = go (compare x z) (λ i. inserted_removed (Some z) x zs a.1 i)
  where
    later : same_name x z ≡ false → has_name x zs ≡ true
    later k = sym (ap (λ (b : Bool). cond b true (has_name x zs)) k) ∙ h

    go : Compared x z → (has_name x zs ≡ true → inserted_name x (removed_name x zs) ≡ zs) → inserted_name x (removed_name x (z ∷ zs)) ≡ z ∷ zs
    go (Below e f) rest =
        let k : same_name x z ≡ false = ap is_eq e in
        let t : true ≡ false = sym (later k) ∙ absent_above x zs (ascends_lower (Some x) z zs (ap is_lt e) a.1) in
        absurd (cc)
    go (Same e) rest =
        subst (λ (w : Name). inserted_name w (removed_name w (z ∷ zs)) ≡ z ∷ zs) (sym e)
        (ap (λ (b : Bool). inserted_name z (cond b (removed_name z zs) (z ∷ removed_name z zs))) (same_name_refl z)
        ∙ ap (inserted_name z) (removed_absent z zs (absent_above z zs a.1))
        ∙ inserted_first z zs a.1)
    go (Above e f) rest =
        let k : same_name x z ≡ false = ap is_eq e in
        ap (λ (b : Bool). inserted_name x (cond b (removed_name x zs) (z ∷ removed_name x zs))) k
        ∙ inserted_above x z (removed_name x zs) e
        ∙ ap (λ (l : List Name). z ∷ l) (rest (later k))

removed_ascends : (low : Option Name) (x : Name) (names : List Name) → Ascends low names → Ascends low (removed_name x names)
removed_ascends low x [] a = tt
removed_ascends low x (z ∷ zs) a = go (same_name x z) (λ l b. removed_ascends l x zs b)
  where
    go : (b : Bool) → ((l : Option Name) → Ascends l zs → Ascends l (removed_name x zs)) → Ascends low (cond b (removed_name x zs) (z ∷ removed_name x zs))
    go true rest = rest low (ascends_lower low z zs a.0 a.1)
    go false rest = (a.0, rest (Some z) a.1)

-- another name stays
has_removed : (y x : Name) (names : List Name) → same_name y x ≡ false → has_name y names ≡ true → has_name y (removed_name x names) ≡ true
has_removed y x [] d h = absurd (cc)
has_removed y x (z ∷ zs) d h = go (same_name x z) refl (same_name y z) refl h (λ k. has_removed y x zs d k)
  where
    go : (b : Bool) → same_name x z ≡ b → (t : Bool) → same_name y z ≡ t → cond t true (has_name y zs) ≡ true → (has_name y zs ≡ true → has_name y (removed_name x zs) ≡ true) → has_name y (cond b (removed_name x zs) (z ∷ removed_name x zs)) ≡ true
    go true e true f k rest = let t : true ≡ false = sym f ∙ ap (same_name y) (sym (same_name_exact x z e)) ∙ d in absurd (cc)
    go true e false f k rest = rest k
    go false e true f k rest = ap (λ (t : Bool). cond t true (has_name y (removed_name x zs))) f
    go false e false f k rest = ap (λ (t : Bool). cond t true (has_name y (removed_name x zs))) f ∙ rest k

-- both of two names are taken out and put in again
both_again : (x y : Name) (names : List Name) → Ascends None names → has_name x names ≡ true → has_name y names ≡ true → same_name y x ≡ false → inserted_name y (inserted_name x (removed_name y (removed_name x names))) ≡ names
both_again x y names a h g d =
    inserted_inserted y x (removed_name y (removed_name x names))
    ∙ ap (inserted_name x) (inserted_removed None y (removed_name x names) (removed_ascends None x names a) (has_removed y x names d g))
    ∙ inserted_removed None x names a h

-- ---- the graphs in between

module _ (store : Seen) (real : IsReal store) (dir other n m : ℕ) (x y : Name) (one : store.graph.child dir x ≡ Some n) (two : store.graph.child other y ≡ Some m) (down : IsReached store.graph.child n m → ⊥) (up : IsReached store.graph.child m n → ⊥) where
  abbrev first_gone : Graph
  first_gone = unlinked_in dir x store.graph

  abbrev both_gone : Graph
  both_gone = unlinked_in other y first_gone

  abbrev first_again : Graph
  first_again = linked_in dir x m both_gone

  abbrev both_there : Graph
  both_there = linked_in other y n first_again

  nodes_differ : n ≡ m → ⊥
  nodes_differ e = down ([], ap (λ (k : ℕ). Some k) e)

  not_one : (d : ℕ) (z : Name) → store.graph.child d z ≡ Some n → store.graph.child d z ≡ Some m → ⊥
  not_one d z e f = nodes_differ (let h : Some n ≡ Some m = sym e ∙ f in cc)

  -- an entry is not both
  entries_differ : (d : ℕ) (z : Name) → (eqb d other && same_name z y) ≡ true → (eqb d dir && same_name z x) ≡ true → ⊥
  entries_differ d z e f =
      let p = both_true (eqb d other) (same_name z y) e in
      let q = both_true (eqb d dir) (same_name z x) f in
      not_one d z (ap₂ store.graph.child (eqb_true d dir q.0) (same_name_exact z x q.1) ∙ one) (ap₂ store.graph.child (eqb_true d other p.0) (same_name_exact z y p.1) ∙ two)

  self_true : (d : ℕ) (z : Name) → (eqb d d && same_name z z) ≡ true
  self_true d z = ap₂ (λ (a b : Bool). a && b) (eqb_refl d) (same_name_refl z)

  second_apart : (eqb other dir && same_name y x) ≡ false
  second_apart = go (eqb other dir && same_name y x) refl
    where
      go : (b : Bool) → (eqb other dir && same_name y x) ≡ b → b ≡ false
      go true e = absurd (entries_differ other y (self_true other y) e)
      go false e = refl

  first_apart : (eqb dir other && same_name x y) ≡ false
  first_apart = go (eqb dir other && same_name x y) refl
    where
      go : (b : Bool) → (eqb dir other && same_name x y) ≡ b → b ≡ false
      go true e = absurd (entries_differ dir x e (self_true dir x))
      go false e = refl

  -- the second entry stays when the first goes
  pub second_there : first_gone.child other y ≡ Some m
  second_there = ap (λ (b : Bool). cond b None (store.graph.child other y)) second_apart ∙ two

  -- an entry that is there without both was there before
  gone_was : (d : ℕ) (z : Name) (k : ℕ) → both_gone.child d z ≡ Some k → (store.graph.child d z ≡ Some k) × ((eqb d other && same_name z y) ≡ false) × ((eqb d dir && same_name z x) ≡ false)
  gone_was d z k e = go (eqb d other && same_name z y) refl (eqb d dir && same_name z x) refl e
    where
      go : (b : Bool) → (eqb d other && same_name z y) ≡ b → (c : Bool) → (eqb d dir && same_name z x) ≡ c → cond b None (cond c None (store.graph.child d z)) ≡ Some k → (store.graph.child d z ≡ Some k) × ((eqb d other && same_name z y) ≡ false) × ((eqb d dir && same_name z x) ≡ false)
      go true i c j f = absurd (cc)
      go false i true j f = absurd (cc)
      go false i false j f = (f, i, j)

  gone_reached : (a b : ℕ) → IsReached both_gone.child a b → IsReached store.graph.child a b
  gone_reached a b way = reached_less store.graph.child dir x a b (reached_less first_gone.child other y a b way)

  -- one step more
  by_first : (a : ℕ) → IsReached store.graph.child a dir → IsReached store.graph.child a n
  by_first a (key, e) = (key ++ x ∷ [], at_append store.graph.child a dir n key (x ∷ []) e (ap (λ (o : Option ℕ). then_at o (λ k. Some k)) one))

  by_second : (a : ℕ) → IsReached store.graph.child a other → IsReached store.graph.child a m
  by_second a (key, e) = (key ++ y ∷ [], at_append store.graph.child a other m key (y ∷ []) e (ap (λ (o : Option ℕ). then_at o (λ k. Some k)) two))

  -- no directory is reached from what it names
  first_above : IsReached store.graph.child n dir → ⊥
  first_above (key, e) = real.acyclic dir key x (ap (λ (o : Option ℕ). then_at o (λ k. at store.graph.child k key)) one ∙ e)

  dir_shape : (d : ℕ) (names : List Name) (b : Bool) (s : Option Shape) → IsTrue (is_dir s) → IsTrue (is_dir (cond b (Some (Dir names)) s))
  dir_shape d names true s h = refl
  dir_shape d names false s h = h

  there_shape : (names : List Name) (b : Bool) (s : Option Shape) → IsTrue (is_there s) → IsTrue (is_there (cond b (Some (Dir names)) s))
  there_shape names true s h = refl
  there_shape names false s h = h

  still_dir : (d : ℕ) (z : Name) (k : ℕ) → store.graph.child d z ≡ Some k → IsTrue (is_dir (both_gone.shape d))
  still_dir d z k e =
      let r : (names : List Name) × (store.graph.shape d ≡ Some (Dir names)) = real.of_dir d k z e in
      dir_shape d _ (eqb d other) (first_gone.shape d) (dir_shape d _ (eqb d dir) (store.graph.shape d) (ap is_dir r.1))

  still_there : (d : ℕ) (z : Name) (k : ℕ) → store.graph.child d z ≡ Some k → IsTrue (is_there (both_gone.shape k))
  still_there d z k e =
      let r : (s : Shape) × (store.graph.shape k ≡ Some s) = real.to_used d k z e in
      there_shape _ (eqb k other) (first_gone.shape k) (there_shape _ (eqb k dir) (store.graph.shape k) (ap is_there r.1))

  -- the first entry comes again
  pub first_between : IsBetween both_gone dir m x
  first_between = record {
    dir = still_dir dir x n one;
    absent = ap (λ (b : Bool). cond b None (first_gone.child dir x)) first_apart ∙ ap (λ (b : Bool). cond b None (store.graph.child dir x)) (self_true dir x);
    used = still_there other y m two;
    unlinked = λ d z e. gone d z e;
    not_root = λ e. real.root_unlinked other y (two ∙ ap (λ (k : ℕ). Some k) e);
    apart = λ way. up (by_first m (gone_reached m dir way));
  }
    where
      gone : (d : ℕ) (z : Name) → both_gone.child d z ≡ Some m → ⊥
      gone d z e =
          let w = gone_was d z m e in
          let r : (d ≡ other) × (z ≡ y) = real.one_name d other m z y w.0 two in
          let t : true ≡ false = sym (ap₂ (λ (a : ℕ) (b : Name). eqb a other && same_name b y) r.0 r.1 ∙ self_true other y) ∙ w.1 in
          absurd (cc)

  -- and then the second
  pub second_between : IsBetween first_again other n y
  second_between = record {
    dir = dir_shape other _ (eqb other dir) (both_gone.shape other) (still_dir other y m two);
    absent = ap (λ (b : Bool). cond b (Some m) (both_gone.child other y)) second_apart ∙ ap (λ (b : Bool). cond b None (first_gone.child other y)) (self_true other y);
    used = there_shape _ (eqb n dir) (both_gone.shape n) (still_there dir x n one);
    unlinked = λ d z e. gone d z (eqb d dir && same_name z x) refl e;
    not_root = λ e. real.root_unlinked dir x (one ∙ ap (λ (k : ℕ). Some k) e);
    apart = λ (key, e). by key (passes both_gone.child dir x m n other key e);
  }
    where
      gone : (d : ℕ) (z : Name) (b : Bool) → (eqb d dir && same_name z x) ≡ b → cond b (Some m) (both_gone.child d z) ≡ Some n → ⊥
      gone d z true i e = nodes_differ (let h : m ≡ n = cc in sym h)
      gone d z false i e =
          let w = gone_was d z n e in
          let r : (d ≡ dir) × (z ≡ x) = real.one_name d dir n z x w.0 one in
          let t : true ≡ false = sym (ap₂ (λ (a : ℕ) (b : Name). eqb a dir && same_name b x) r.0 r.1 ∙ self_true dir x) ∙ w.2 in
          absurd (cc)

      by : (key : Key) → (at both_gone.child n key ≡ Some other) ⊎ ((a b : Key) × (at both_gone.child n a ≡ Some dir) × (at first_again.child m b ≡ Some other)) → ⊥
      by key (inl i) = down (by_second n (gone_reached n other (key, i)))
      by key (inr i) = first_above (gone_reached n dir (i.0, i.2))

  -- ---- what it comes to

  same_child : (d : ℕ) (z : Name) → both_there.child d z ≡ (swapped_in dir x n other y m store.graph).child d z
  same_child d z = go (eqb d other && same_name z y) refl (eqb d dir && same_name z x) refl
    where
      go : (b : Bool) → (eqb d other && same_name z y) ≡ b → (c : Bool) → (eqb d dir && same_name z x) ≡ c → cond b (Some n) (cond c (Some m) (cond b None (cond c None (store.graph.child d z)))) ≡ cond c (Some m) (cond b (Some n) (store.graph.child d z))
      go true i true j = absurd (entries_differ d z i j)
      go true i false j = refl
      go false i true j = refl
      go false i false j = refl

  lists : (d : ℕ) (z : Name) (k : ℕ) → store.graph.child d z ≡ Some k → has_name z (names_of (store.graph.shape d)) ≡ true
  lists d z k e = real.listed d z ∙ ap is_some e

  dir_again : (d : ℕ) (z : Name) (k : ℕ) (names : List Name) → store.graph.child d z ≡ Some k → names ≡ names_of (store.graph.shape d) → Some (Dir names) ≡ store.graph.shape d
  dir_again d z k names e f =
      let r : (ns : List Name) × (store.graph.shape d ≡ Some (Dir ns)) = real.of_dir d k z e in
      ap (λ (l : List Name). Some (Dir l)) (f ∙ ap names_of r.1) ∙ sym r.1

  put_here : (d j : ℕ) (v : Option Shape) (f : ℕ → Option Shape) → eqb j d ≡ true → set_at d v f j ≡ v
  put_here d j v f e = ap (λ (b : Bool). cond b v (f j)) e

  put_else : (d j : ℕ) (v : Option Shape) (f : ℕ → Option Shape) → eqb j d ≡ false → set_at d v f j ≡ f j
  put_else d j v f e = ap (λ (b : Bool). cond b v (f j)) e

  -- the names of the first directory, of the second, and of both again
  abbrev less_first : Option Shape
  less_first = Some (Dir (removed_name x (names_of (store.graph.shape dir))))

  abbrev less_both : Option Shape
  less_both = Some (Dir (removed_name y (names_of (first_gone.shape other))))

  abbrev more_first : Option Shape
  more_first = Some (Dir (inserted_name x (names_of (both_gone.shape dir))))

  abbrev more_both : Option Shape
  more_both = Some (Dir (inserted_name y (names_of (first_again.shape other))))

  -- of two directories
  shape_apart : eqb dir other ≡ false → eqb other dir ≡ false → (k : ℕ) (b c : Bool) → eqb k other ≡ b → eqb k dir ≡ c → both_there.shape k ≡ store.graph.shape k
  shape_apart back od k true c e f =
      let again : inserted_name y (names_of (first_again.shape other)) ≡ names_of (store.graph.shape other) =
      ap (λ (s : Option Shape). inserted_name y (names_of s)) (put_else dir other more_first both_gone.shape od ∙ put_here other other less_both first_gone.shape (eqb_refl other))
      ∙ ap (λ (s : Option Shape). inserted_name y (removed_name y (names_of s))) (put_else dir other less_first store.graph.shape od)
      ∙ inserted_removed None y (names_of (store.graph.shape other)) (real.ascend other) (lists other y m two) in
      put_here other k more_both first_again.shape e
      ∙ dir_again other y m (inserted_name y (names_of (first_again.shape other))) two again
      ∙ ap store.graph.shape (sym (eqb_true k other e))
  shape_apart back od k false true e f =
      let again : inserted_name x (names_of (both_gone.shape dir)) ≡ names_of (store.graph.shape dir) =
      ap (λ (s : Option Shape). inserted_name x (names_of s)) (put_else other dir less_both first_gone.shape back ∙ put_here dir dir less_first store.graph.shape (eqb_refl dir))
      ∙ inserted_removed None x (names_of (store.graph.shape dir)) (real.ascend dir) (lists dir x n one) in
      put_else other k more_both first_again.shape e
      ∙ put_here dir k more_first both_gone.shape f
      ∙ dir_again dir x n (inserted_name x (names_of (both_gone.shape dir))) one again
      ∙ ap store.graph.shape (sym (eqb_true k dir f))
  shape_apart back od k false false e f =
      put_else other k more_both first_again.shape e
      ∙ put_else dir k more_first both_gone.shape f
      ∙ put_else other k less_both first_gone.shape e
      ∙ put_else dir k less_first store.graph.shape f

  -- of one
  shape_same : other ≡ dir → (k : ℕ) (b c : Bool) → eqb k other ≡ b → eqb k dir ≡ c → both_there.shape k ≡ store.graph.shape k
  shape_same same k true c e f =
      let od : eqb other dir ≡ true = ap (eqb other) (sym same) ∙ eqb_refl other in
      let back : eqb dir other ≡ true = ap (eqb dir) same ∙ eqb_refl dir in
      let differ : same_name y x ≡ false = ap (λ (b : Bool). b && same_name y x) (sym od) ∙ second_apart in
      let named : has_name y (names_of (store.graph.shape dir)) ≡ true = ap (λ (d : ℕ). has_name y (names_of (store.graph.shape d))) (sym same) ∙ lists other y m two in
      let again : inserted_name y (names_of (first_again.shape other)) ≡ names_of (store.graph.shape other) =
      ap (λ (s : Option Shape). inserted_name y (names_of s)) (put_here dir other more_first both_gone.shape od)
      ∙ ap (λ (s : Option Shape). inserted_name y (inserted_name x (names_of s))) (put_here other dir less_both first_gone.shape back)
      ∙ ap (λ (s : Option Shape). inserted_name y (inserted_name x (removed_name y (names_of s)))) (put_here dir other less_first store.graph.shape od)
      ∙ both_again x y (names_of (store.graph.shape dir)) (real.ascend dir) (lists dir x n one) named differ
      ∙ ap (λ (d : ℕ). names_of (store.graph.shape d)) (sym same) in
      put_here other k more_both first_again.shape e
      ∙ dir_again other y m (inserted_name y (names_of (first_again.shape other))) two again
      ∙ ap store.graph.shape (sym (eqb_true k other e))
  shape_same same k false true e f = let t : true ≡ false = sym f ∙ ap (eqb k) (sym same) ∙ e in absurd (cc)
  shape_same same k false false e f =
      put_else other k more_both first_again.shape e
      ∙ put_else dir k more_first both_gone.shape f
      ∙ put_else other k less_both first_gone.shape e
      ∙ put_else dir k less_first store.graph.shape f

  same_shape : (k : ℕ) → both_there.shape k ≡ store.graph.shape k
  same_shape k = go (eqb other dir) refl (eqb dir other) refl
    where
      go : (b : Bool) → eqb other dir ≡ b → (c : Bool) → eqb dir other ≡ c → both_there.shape k ≡ store.graph.shape k
      go true e c f = shape_same (eqb_true other dir e) k (eqb k other) (eqb k dir) refl refl
      go false e true f = let t : true ≡ false = sym (ap (λ (d : ℕ). eqb other d) (eqb_true dir other f) ∙ eqb_refl other) ∙ e in absurd (cc)
      go false e false f = shape_apart f e k (eqb k other) (eqb k dir) refl refl

  pub swapped_graph : both_there ≡ swapped_in dir x n other y m store.graph
  swapped_graph = graph_by same_child same_shape

  -- all four, one after the other
  pub swapped_seen : (s t u v : Seen) → s ≡ record store { graph = first_gone } → t ≡ record s { graph = unlinked_in other y s.graph } → u ≡ record t { graph = linked_in dir x m t.graph } → v ≡ record u { graph = linked_in other y n u.graph }
      → v ≡ record store { graph = swapped_in dir x n other y m store.graph }
  swapped_seen s t u v e f g h =
      h
      ∙ ap (λ (z : Seen). record z { graph = linked_in other y n z.graph }) (g ∙ ap (λ (z : Seen). record z { graph = linked_in dir x m z.graph }) (f ∙ ap (λ (z : Seen). record z { graph = unlinked_in other y z.graph }) e))
      ∙ ap (λ (z : Graph). record store { graph = z }) swapped_graph

  -- the same of stores, before each of the two comes again
  pub before_first : (s t : Seen) → s ≡ record store { graph = first_gone } → t ≡ record s { graph = unlinked_in other y s.graph } → IsBetween t.graph dir m x
  before_first s t e f = subst (λ (z : Seen). IsBetween z.graph dir m x) (sym (f ∙ ap (λ (z : Seen). record z { graph = unlinked_in other y z.graph }) e)) first_between

  pub before_second : (s t u : Seen) → s ≡ record store { graph = first_gone } → t ≡ record s { graph = unlinked_in other y s.graph } → u ≡ record t { graph = linked_in dir x m t.graph } → IsBetween u.graph other n y
  before_second s t u e f g =
      subst (λ (z : Seen). IsBetween z.graph other n y) (sym (g ∙ ap (λ (z : Seen). record z { graph = linked_in dir x m z.graph }) (f ∙ ap (λ (z : Seen). record z { graph = unlinked_in other y z.graph }) e))) second_between

-- what is asked of both entries
abbrev pub LieApart : Graph → ℕ → Name → ℕ → Name → Type 0
LieApart graph dir x other y = (n m : ℕ) → graph.child dir x ≡ Some n → graph.child other y ≡ Some m → (IsReached graph.child n m → ⊥) × (IsReached graph.child m n → ⊥)

some_is : (o : Option ℕ) → IsSome o → (m : ℕ) × (o ≡ Some m)
some_is None h = absurd (cc)
some_is (Some m) h = (m, refl)

-- when the first has gone, the second still is there
pub second_still : (store : Seen) → IsReal store → (dir other n : ℕ) (x y : Name) → store.graph.child dir x ≡ Some n → IsSome (store.graph.child other y) → LieApart store.graph dir x other y → (s : Seen) → s ≡ record store { graph = unlinked_in dir x store.graph } → IsSome (s.graph.child other y)
second_still store real dir other n x y one there apart s e =
    let m : (m : ℕ) × (store.graph.child other y ≡ Some m) = some_is (store.graph.child other y) there in
    let a : (IsReached store.graph.child n m.0 → ⊥) × (IsReached store.graph.child m.0 n → ⊥) = apart n m.0 one m.1 in
    subst (λ (z : Seen). IsSome (z.graph.child other y)) (sym e) (ap is_some (second_there store real dir other n m.0 x y one m.1 a.0 a.1))

-- and was there
pub second_was : (store : Seen) (dir other m : ℕ) (x y : Name) (s : Seen) → s ≡ record store { graph = unlinked_in dir x store.graph } → s.graph.child other y ≡ Some m → store.graph.child other y ≡ Some m
second_was store dir other m x y s e f = go (eqb other dir && same_name y x) (sym (ap (λ (z : Seen). z.graph.child other y) e) ∙ f)
  where
    go : (b : Bool) → cond b None (store.graph.child other y) ≡ Some m → store.graph.child other y ≡ Some m
    go true h = absurd (cc)
    go false h = h

pub same_number : (o : Option ℕ) (n m : ℕ) → o ≡ Some n → o ≡ Some m → n ≡ m
same_number o n m e f = let h : Some n ≡ Some m = sym e ∙ f in cc
