-- On entries that move: what the new name had may go first.
use Rattle.std.proofs.Common.{◌≡◌, ℕ, Bool, true, false, cond, ◌&&◌, List, [], ◌∷◌, IsTrue, Option, Some, None, refl, sym, ap, ap₂, subst, ◌∙◌, Less, Greater}
use Rattle.std.specs.Prelude.{eqb, IfSome, IsSome}
use Rattle.std.specs.Ordering.{is_lt}
use Rattle.fs_names.specs.Names.{Name, name_cmp, same_name, inserted_name, removed_name, has_name}
use Rattle.fs_names.specs.Shapes.{Shape, Dir, names_of, is_dir}
use Rattle.std.proofs.lemmas.Cmp.{tied_itself}
use Rattle.fs_names.proofs.Lemmas.{name_total, same_name_exact, same_name_refl}
use Rattle.fs_nodes.specs.Graphs.{Graph, set_at, unlinked_in, moved_in}
use Rattle.fs_nodes.specs.Seen.{Seen, seen, Ascends, IsReal}
use Rattle.fs_nodes.specs.Stores.{Places, is_above, child, graph_of}
use Rattle.fs_ops_effects.specs.declared.plan.Moving.{Moving}
use Rattle.fs_calls.proofs.EqualLemmas.{graph_by, eqb_true, eqb_refl}
use Rattle.fs_calls.proofs.NameLemmas.{Compared, Below, Same, Above, compare, removed_absent, inserted_below, inserted_above}
use Rattle.fs_nodes_places.proofs.AscentLemmas.{above_more}

-- ---- names

-- what is above a name comes after it
after : (z w : Name) → is_above (Some z) w ≡ true → name_cmp z w ≡ Less
after z w h = go (compare z w)
  where
    go : Compared z w → name_cmp z w ≡ Less
    go (Below e f) = e
    go (Same e) =
        let k : is_above (Some z) w ≡ false = ap (λ (n : Name). is_above (Some z) n) (sym e) ∙ ap is_lt (tied_itself name_total z) in
        absurd (cc)
    go (Above e f) = let k : is_above (Some z) w ≡ false = ap is_lt e in absurd (cc)

-- a list that ascends above a name ascends above what is below it
lower : (low : Option Name) (z : Name) (zs : List Name) → is_above low z ≡ true → Ascends (Some z) zs → Ascends low zs
lower low z [] h a = tt
lower low z (w ∷ ws) h a = (above_more low z w h (after z w a.0), a.1)

-- a name taken out leaves it ascending
removed_ascends : (low : Option Name) (x : Name) (names : List Name) → Ascends low names → Ascends low (removed_name x names)
removed_ascends low x [] a = tt
removed_ascends low x (z ∷ zs) a = go (same_name x z) (removed_ascends (Some z) x zs a.1)
  where
    go : (b : Bool) → Ascends (Some z) (removed_name x zs) → Ascends low (cond b (removed_name x zs) (z ∷ removed_name x zs))
    go true r = lower low z (removed_name x zs) a.0 r
    go false r = (a.0, r)

-- two names are taken out in any order
removed_removed : (x y : Name) (names : List Name) → removed_name x (removed_name y names) ≡ removed_name y (removed_name x names)
removed_removed x y [] = refl
removed_removed x y (z ∷ zs) = go (same_name x z) (same_name y z) refl refl (removed_removed x y zs)
  where
    go : (a b : Bool) → same_name x z ≡ a → same_name y z ≡ b → removed_name x (removed_name y zs) ≡ removed_name y (removed_name x zs)
        → removed_name x (cond b (removed_name y zs) (z ∷ removed_name y zs)) ≡ removed_name y (cond a (removed_name x zs) (z ∷ removed_name x zs))
    go true true e f r = r
    go true false e f r = rw e r
    go false true e f r = rw f r
    go false false e f r = rw (e, f) (ap (λ (l : List Name). z ∷ l) r)

-- what a list ascends from is not in it
absent : (z : Name) (zs : List Name) → Ascends (Some z) zs → has_name z zs ≡ false
absent z [] a = refl
absent z (w ∷ ws) a = let e : name_cmp z w ≡ Less = after z w a.0 in rw e (absent z ws (lower (Some z) w ws a.0 a.1))

-- and is put before it
put_first : (z : Name) (zs : List Name) → Ascends (Some z) zs → inserted_name z zs ≡ z ∷ zs
put_first z [] a = refl
put_first z (w ∷ ws) a = inserted_below z w ws (after z w a.0)

-- the first name stays where another one is taken out
kept : (y z : Name) (zs : List Name) → name_cmp y z ≡ Greater → removed_name y (z ∷ zs) ≡ z ∷ removed_name y zs
kept y z zs e = rw e refl

-- a name that is taken out first is put in all the same
put_again : (low : Option Name) (y : Name) (names : List Name) → Ascends low names → inserted_name y (removed_name y names) ≡ inserted_name y names
put_again low y [] a = refl
put_again low y (z ∷ zs) a = go (compare y z) (put_again (Some z) y zs a.1)
  where
    go : Compared y z → inserted_name y (removed_name y zs) ≡ inserted_name y zs → inserted_name y (removed_name y (z ∷ zs)) ≡ inserted_name y (z ∷ zs)
    go (Below e f) r = ap (inserted_name y) (removed_absent y (z ∷ zs) (absent y (z ∷ zs) (ap is_lt e, a.1)))
    go (Same e) r =
        subst (λ (w : Name). inserted_name w (removed_name w (z ∷ zs)) ≡ inserted_name w (z ∷ zs)) (sym e)
        (rw (same_name_refl z) (ap (inserted_name z) (removed_absent z zs (absent z zs a.1)) ∙ put_first z zs a.1))
    go (Above e f) r = ap (inserted_name y) (kept y z zs e) ∙ inserted_above y z (removed_name y zs) e ∙ ap (λ (l : List Name). z ∷ l) r ∙ sym (inserted_above y z zs e)

-- the same where another one is taken out between
put_later : (x y : Name) (names : List Name) → Ascends None names → inserted_name y (removed_name x (removed_name y names)) ≡ inserted_name y (removed_name x names)
put_later x y names a = ap (inserted_name y) (removed_removed x y names) ∙ put_again None y (removed_name x names) (removed_ascends None x names a)

-- ---- graphs

-- the later of three values for one entry counts
later : {A : Type 0} (a b : Bool) (v w z : A) → cond a v (cond b w (cond a w z)) ≡ cond a v (cond b w z)
later true b v w z = refl
later false true v w z = refl
later false false v w z = refl

module _ (graph : Graph) (from : ℕ) (x : Name) (to : ℕ) (y : Name) (n : ℕ) (sorted : Ascends None (names_of (graph.shape to))) where
  -- the names of a directory that loses an entry
  abbrev lost : (ℕ → Option Shape) → Option Shape
  lost shapes = Some (Dir (removed_name x (names_of (shapes from))))

  abbrev without : ℕ → Option Shape
  without = set_at to (Some (Dir (removed_name y (names_of (graph.shape to))))) graph.shape

  names_same : inserted_name y (names_of (set_at from (lost without) without to)) ≡ inserted_name y (names_of (set_at from (lost graph.shape) graph.shape to))
  names_same = go (eqb to from) refl
    where
      here : without to ≡ Some (Dir (removed_name y (names_of (graph.shape to))))
      here = ap (λ (b : Bool). cond b (Some (Dir (removed_name y (names_of (graph.shape to))))) (graph.shape to)) (eqb_refl to)

      go : (b : Bool) → eqb to from ≡ b → inserted_name y (names_of (cond b (lost without) (without to))) ≡ inserted_name y (names_of (cond b (lost graph.shape) (graph.shape to)))
      go true e =
          let same : to ≡ from = eqb_true to from e in
          ap (λ (m : ℕ). inserted_name y (removed_name x (names_of (without m)))) (sym same)
          ∙ ap (λ (s : Option Shape). inserted_name y (removed_name x (names_of s))) here
          ∙ put_later x y (names_of (graph.shape to)) sorted
          ∙ ap (λ (m : ℕ). inserted_name y (removed_name x (names_of (graph.shape m)))) same
      go false e = ap (λ (s : Option Shape). inserted_name y (names_of s)) here ∙ put_again None y (names_of (graph.shape to)) sorted

  shapes_same : (m : ℕ) (a b : Bool) → eqb m to ≡ a → eqb m from ≡ b → (c : Option Shape) → cond a c (cond b (lost without) (cond a (Some (Dir (removed_name y (names_of (graph.shape to))))) (graph.shape m))) ≡ cond a c (cond b (lost graph.shape) (graph.shape m))
  shapes_same m true b e f c = refl
  shapes_same m false true e f c = ap (λ (s : Option Shape). Some (Dir (removed_name x (names_of s)))) other
    where
      same : m ≡ from
      same = eqb_true m from f

      other : without from ≡ graph.shape from
      other = ap (λ (z : Bool). cond z (Some (Dir (removed_name y (names_of (graph.shape to))))) (graph.shape from)) (ap (λ (k : ℕ). eqb k to) (sym same) ∙ e)
  shapes_same m false false e f c = refl

  -- an entry moves all the same where the new name's entry went first
  pub moved_again : moved_in from x to y n (unlinked_in to y graph) ≡ moved_in from x to y n graph
  moved_again = graph_by
      (λ d z. later (eqb d to && same_name z y) (eqb d from && same_name z x) (Some n) None (graph.child d z))
      (λ m. ap (λ (l : List Name). cond (eqb m to) (Some (Dir l)) (set_at from (lost without) without m)) names_same
      ∙ shapes_same m (eqb m to) (eqb m from) refl refl (Some (Dir (inserted_name y (names_of (set_at from (lost graph.shape) graph.shape to))))))

-- ---- what stays where an entry goes

pub entry_gone : (graph : Graph) (to : ℕ) (y : Name) → (unlinked_in to y graph).child to y ≡ None
entry_gone graph to y = ap₂ (λ (a b : Bool). cond (a && b) None (graph.child to y)) (eqb_refl to) (same_name_refl y)

pub entry_stays : (graph : Graph) (to : ℕ) (y : Name) (d : ℕ) (z : Name) → (d ≡ to → z ≡ y → ⊥) → (unlinked_in to y graph).child d z ≡ graph.child d z
entry_stays graph to y d z apart = go (eqb d to) (same_name z y) refl refl
  where
    go : (a b : Bool) → eqb d to ≡ a → same_name z y ≡ b → cond (a && b) None (graph.child d z) ≡ graph.child d z
    go true true e f = absurd (apart (eqb_true d to e) (same_name_exact z y f))
    go true false e f = refl
    go false b e f = refl

pub dir_stays : (graph : Graph) (to : ℕ) (y : Name) → IsTrue (is_dir ((unlinked_in to y graph).shape to))
dir_stays graph to y = subst (λ (b : Bool). IsTrue (is_dir (cond b (Some (Dir (removed_name y (names_of (graph.shape to))))) (graph.shape to)))) (sym (eqb_refl to)) refl

pub moves_again : (store : Seen) → IsReal store → (from : ℕ) (x : Name) (to : ℕ) (y : Name) (n : ℕ) → moved_in from x to y n (unlinked_in to y store.graph) ≡ moved_in from x to y n store.graph
moves_again store real from x to y n = moved_again store.graph from x to y n (real.ascend to)

-- of an entry that is there
pub some_there : (o : Option ℕ) (n : ℕ) → o ≡ Some n → IsSome o
some_there None n e = absurd (cc)
some_there (Some m) n e = refl

pub if_there : (o : Option ℕ) (n : ℕ) (P : ℕ → Type 0) → o ≡ Some n → P n → IfSome o P
if_there o n P e h = subst (λ (z : Option ℕ). IfSome z P) (sym e) h

-- of two that are there
pub both_there : (o p : Option ℕ) (n m : ℕ) (P : ℕ → ℕ → Type 0) → o ≡ Some n → p ≡ Some m → P n m → (a b : ℕ) → o ≡ Some a → p ≡ Some b → P a b
both_there o p n m P e f h a b g k =
    let i : n ≡ a = (let z : ◌≡◌ {A = Option ℕ} (Some n) (Some a) = sym e ∙ g in cc) in
    let j : m ≡ b = (let z : ◌≡◌ {A = Option ℕ} (Some m) (Some b) = sym f ∙ k in cc) in
    subst (λ (z : ℕ). P z b) i (subst (λ (z : ℕ). P n z) j h)

-- an entry has moved where the one of its new name went first
pub entry_moved : (old cleared new : Places) (m : Moving) (x y : Name) → child cleared m.source x ≡ Some m.moved → seen cleared ≡ record (seen old) { graph = graph_of cleared }
    → moved_in m.source x m.dest y m.moved (graph_of cleared) ≡ moved_in m.source x m.dest y m.moved (graph_of old)
    → IfSome (child cleared m.source x) (λ n. seen new ≡ record (seen cleared) { graph = moved_in m.source x m.dest y n (graph_of cleared) })
    → seen new ≡ record (seen old) { graph = moved_in m.source x m.dest y m.moved (graph_of old) }
entry_moved old cleared new m x y there rest again h =
    subst (λ (z : Option ℕ). IfSome z (λ n. seen new ≡ record (seen cleared) { graph = moved_in m.source x m.dest y n (graph_of cleared) })) there h
    ∙ ap₂ (λ (s : Seen) (g : Graph). record s { graph = g }) rest again
