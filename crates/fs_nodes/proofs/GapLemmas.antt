-- The next entries of a directory, with a name more.
use Rattle.std.proofs.Common.{◌≡◌, ℕ, ◌+◌, Bool, true, false, cond, eqb, ◌&&◌, Option, Some, None, ◌⊎◌, inl, inr, is_some, length, refl, sym, ap, ap₂, subst, ◌∙◌}
use Rattle.std.specs.Ordering.{is_lt}
use Rattle.std.specs.List.{find}
use Rattle.fs_names.specs.Names.{Name, name_cmp, same_name, inserted_name, has_name}
use Rattle.fs_names.specs.Shapes.{Dir, names_of}
use Rattle.fs_names.proofs.Lemmas.{same_name_exact, same_name_refl}
use Rattle.fs_calls.specs.Graphs.{Graph, then_at, linked_in}
use Rattle.fs_nodes_places.specs.Stores.{is_above}
use Rattle.fs_nodes_places.specs.code.Picks.{lesser}
use Rattle.fs_nodes.specs.code.Linked.{next_child, IsBefore, IsLow, IsAt}
use Rattle.fs_calls.proofs.NameLemmas.{Compared, Below, Same, Above, compare, length_inserted}
use Rattle.fs_nodes_places.proofs.PickLemmas.{find_inserted}
use Rattle.fs_calls.proofs.EqualLemmas.{eqb_refl}
use Rattle.fs_nodes_places.specs.Seen.{Ascends}
use Rattle.fs_nodes_places.proofs.AscentLemmas.{above_above, not_itself, below_found}
use Rattle.fs_nodes.proofs.OrderLemmas.{found_upto, found_has, found_same}

-- a directory's names are those of its entries, in order, and one name is free
pub record IsFree (graph : Graph) (dir : ℕ) (x : Name) : Type 0 where
  pub ascends : Ascends None (names_of (graph.shape dir))
  pub has : (y : Name) → has_name y (names_of (graph.shape dir)) ≡ is_some (graph.child dir y)
  pub free : graph.child dir x ≡ None

-- the free name is not among the names
absent : (graph : Graph) (dir : ℕ) (x : Name) → IsFree graph dir x → has_name x (names_of (graph.shape dir)) ≡ false
absent graph dir x f = f.has x ∙ ap is_some f.free

-- a name of the directory is another one
pub other_name : (graph : Graph) (dir : ℕ) (x y : Name) → IsFree graph dir x → has_name y (names_of (graph.shape dir)) ≡ true → same_name y x ≡ false
other_name graph dir x y f h = go (same_name y x) refl
  where
    go : (b : Bool) → same_name y x ≡ b → same_name y x ≡ false
    go false e = e
    go true e = let k : true ≡ false = sym h ∙ ap (λ (w : Name). has_name w (names_of (graph.shape dir))) (same_name_exact y x e) ∙ absent graph dir x f in absurd (cc)

-- the names with one more
pub names_linked : (graph : Graph) (dir : ℕ) (x : Name) (n : ℕ) → names_of ((linked_in dir x n graph).shape dir) ≡ inserted_name x (names_of (graph.shape dir))
names_linked graph dir x n = ap (λ (b : Bool). names_of (cond b (Some (Dir (inserted_name x (names_of (graph.shape dir))))) (graph.shape dir))) (eqb_refl dir)

-- they are one more
pub count_linked : (graph : Graph) (dir : ℕ) (x : Name) (n : ℕ) → IsFree graph dir x → length (names_of ((linked_in dir x n graph).shape dir)) ≡ length (names_of (graph.shape dir)) + 1
count_linked graph dir x n f = ap length (names_linked graph dir x n) ∙ length_inserted x (names_of (graph.shape dir)) (absent graph dir x f)

-- the new entry
pub child_new : (graph : Graph) (dir : ℕ) (x : Name) (n : ℕ) → (linked_in dir x n graph).child dir x ≡ Some n
child_new graph dir x n = ap₂ (λ (a b : Bool). cond (a && b) (Some n) (graph.child dir x)) (eqb_refl dir) (same_name_refl x)

-- another entry of the directory
pub child_old : (graph : Graph) (dir : ℕ) (x y : Name) (n : ℕ) → same_name y x ≡ false → (linked_in dir x n graph).child dir y ≡ graph.child dir y
child_old graph dir x y n e = ap₂ (λ (a b : Bool). cond (a && b) (Some n) (graph.child dir y)) (eqb_refl dir) e

-- the same of one that is there
pub child_there : (graph : Graph) (dir : ℕ) (x y : Name) (n m : ℕ) → IsFree graph dir x → graph.child dir y ≡ Some m → (linked_in dir x n graph).child dir y ≡ Some m
child_there graph dir x y n m f e = child_old graph dir x y n (other_name graph dir x y f (f.has y ∙ ap is_some e)) ∙ e

-- other directories are as before
pub next_other : (graph : Graph) (dir d : ℕ) (x : Name) (n : ℕ) (low : Option Name) → eqb d dir ≡ false → next_child (linked_in dir x n graph) d low ≡ next_child graph d low
next_other graph dir d x n low e = ap (λ (b : Bool). then_at (find (is_above low) (names_of (cond b (Some (Dir (inserted_name x (names_of (graph.shape dir))))) (graph.shape d)))) ((linked_in dir x n graph).child d)) e ∙ go (find (is_above low) (names_of (graph.shape d)))
  where
    go : (o : Option Name) → then_at o ((linked_in dir x n graph).child d) ≡ then_at o (graph.child d)
    go None = refl
    go (Some y) = ap (λ (b : Bool). cond (b && same_name y x) (Some n) (graph.child d y)) e

-- what comes next with a name more
next_linked : (graph : Graph) (dir : ℕ) (x : Name) (n : ℕ) (low : Option Name) → next_child (linked_in dir x n graph) dir low ≡ then_at (lesser (cond (is_above low x) (Some x) None) (find (is_above low) (names_of (graph.shape dir)))) ((linked_in dir x n graph).child dir)
next_linked graph dir x n low = ap (λ (o : Option Name). then_at o ((linked_in dir x n graph).child dir)) (ap (find (is_above low)) (names_linked graph dir x n) ∙ find_inserted low x (names_of (graph.shape dir)))

-- what was next, and still is
still : (graph : Graph) (dir : ℕ) (x : Name) (n : ℕ) (low : Option Name) → IsFree graph dir x → then_at (find (is_above low) (names_of (graph.shape dir))) ((linked_in dir x n graph).child dir) ≡ next_child graph dir low
still graph dir x n low f = go (find (is_above low) (names_of (graph.shape dir))) refl
  where
    go : (o : Option Name) → find (is_above low) (names_of (graph.shape dir)) ≡ o → then_at o ((linked_in dir x n graph).child dir) ≡ then_at o (graph.child dir)
    go None e = refl
    go (Some y) e = child_old graph dir x y n (other_name graph dir x y f (found_has low y (names_of (graph.shape dir)) e))

-- after the place of the new name nothing has changed
pub next_above : (graph : Graph) (dir : ℕ) (x : Name) (n : ℕ) (low : Option Name) → IsFree graph dir x → is_above low x ≡ false → next_child (linked_in dir x n graph) dir low ≡ next_child graph dir low
next_above graph dir x n low f e = next_linked graph dir x n low ∙ ap (λ (b : Bool). then_at (lesser (cond b (Some x) None) (find (is_above low) (names_of (graph.shape dir)))) ((linked_in dir x n graph).child dir)) e ∙ still graph dir x n low f

-- at its place it is next
pub next_at : (graph : Graph) (dir : ℕ) (x : Name) (n : ℕ) (low : Option Name) → IsFree graph dir x → IsAt graph dir x low → next_child (linked_in dir x n graph) dir low ≡ Some n
next_at graph dir x n low f at = next_linked graph dir x n low ∙ ap (λ (b : Bool). then_at (lesser (cond b (Some x) None) (find (is_above low) (names_of (graph.shape dir)))) ((linked_in dir x n graph).child dir)) at.0 ∙ go (find (is_above low) (names_of (graph.shape dir))) at.1
  where
    go : (o : Option Name) → IsBefore x o → then_at (lesser (Some x) o) ((linked_in dir x n graph).child dir) ≡ Some n
    go None b = child_new graph dir x n
    go (Some y) b = ap (λ (t : Bool). then_at (cond t (Some y) (Some x)) ((linked_in dir x n graph).child dir)) (below_found y x b) ∙ child_new graph dir x n

-- each low name is at the place of the new one, or what is next is as before
pub next_by : (graph : Graph) (dir : ℕ) (x : Name) (n : ℕ) (low : Option Name) → IsFree graph dir x → (next_child (linked_in dir x n graph) dir low ≡ next_child graph dir low) ⊎ IsAt graph dir x low
next_by graph dir x n low f = go (is_above low x) refl
  where
    by : (o : Option Name) → find (is_above low) (names_of (graph.shape dir)) ≡ o → is_above low x ≡ true → (next_child (linked_in dir x n graph) dir low ≡ next_child graph dir low) ⊎ ((is_above low x ≡ true) × IsBefore x o)
    by None e g = inr (g, tt)
    by (Some y) e g = cases (compare x y)
      where
        cases : Compared x y → (next_child (linked_in dir x n graph) dir low ≡ next_child graph dir low) ⊎ ((is_above low x ≡ true) × (is_above (Some x) y ≡ true))
        cases (Below a b) = inr (g, ap is_lt a)
        cases (Same a) =
            let k : same_name y x ≡ false = other_name graph dir x y f (found_has low y (names_of (graph.shape dir)) e) in
            let w : true ≡ false = sym (same_name_refl x) ∙ ap (λ (z : Name). same_name z x) a ∙ k in absurd (cc)
        cases (Above a b) =
            let lower : is_lt (name_cmp y x) ≡ true = ap is_lt b in
            inl (next_linked graph dir x n low
            ∙ ap₂ (λ (t : Bool) (o : Option Name). then_at (lesser (cond t (Some x) None) o) ((linked_in dir x n graph).child dir)) g e
            ∙ ap (λ (t : Bool). then_at (cond t (Some y) (Some x)) ((linked_in dir x n graph).child dir)) lower
            ∙ ap (λ (o : Option Name). then_at o ((linked_in dir x n graph).child dir)) (sym e)
            ∙ still graph dir x n low f)

    go : (b : Bool) → is_above low x ≡ b → (next_child (linked_in dir x n graph) dir low ≡ next_child graph dir low) ⊎ IsAt graph dir x low
    go false e = inl (next_above graph dir x n low f e)
    go true e = by (find (is_above low) (names_of (graph.shape dir))) refl e

-- no name of the directory stands between the low one and the free one
clash : (graph : Graph) (dir : ℕ) (x : Name) (low : Option Name) (b : Name) → IsFree graph dir x → IsAt graph dir x low → has_name b (names_of (graph.shape dir)) ≡ true → is_above low b ≡ true → is_above (Some b) x ≡ true → ⊥
clash graph dir x low b f at h g k =
    let r : (y : Name) × (find (is_above low) (names_of (graph.shape dir)) ≡ Some y) × ((y ≡ b) ⊎ (is_above (Some y) b ≡ true)) = found_upto None low b (names_of (graph.shape dir)) f.ascends h g in
    go r.0 r.2 (subst (IsBefore x) r.1 at.1)
  where
    go : (y : Name) → (y ≡ b) ⊎ (is_above (Some y) b ≡ true) → is_above (Some x) y ≡ true → ⊥
    go y (inl e) a =
        let w : is_above (Some x) b ≡ true = subst (λ (z : Name). is_above (Some x) z ≡ true) e a in
        let v : true ≡ false = sym w ∙ below_found x b k in cc
    go y (inr e) a =
        let w : is_above (Some x) b ≡ true = above_above (Some x) y b a e in
        let v : true ≡ false = sym w ∙ below_found x b k in cc

-- a low name of the directory, or none
abbrev pub IsMember : Graph → ℕ → Option Name → Type 0
IsMember graph dir None = Unit {0}
IsMember graph dir (Some y) = has_name y (names_of (graph.shape dir)) ≡ true

-- a free name has one place
pub at_one : (graph : Graph) (dir : ℕ) (x : Name) (low high : Option Name) → IsFree graph dir x → IsMember graph dir low → IsMember graph dir high → IsAt graph dir x low → IsAt graph dir x high → low ≡ high
at_one graph dir x None None f a b s t = refl
at_one graph dir x None (Some z) f a b s t = absurd (clash graph dir x None z f s b refl t.0)
at_one graph dir x (Some y) None f a b s t = absurd (clash graph dir x None y f t a refl s.0)
at_one graph dir x (Some y) (Some z) f a b s t = go (compare y z)
  where
    go : Compared y z → ◌≡◌ {A = Option Name} (Some y) (Some z)
    go (Below e _) = absurd (clash graph dir x (Some y) z f s b (ap is_lt e) t.0)
    go (Same e) = ap (λ (w : Name). Some w) e
    go (Above _ e) = absurd (clash graph dir x (Some z) y f t a (ap is_lt e) s.0)

-- a low name with a number is a member
pub low_member : (graph : Graph) (dir : ℕ) (x : Name) (low : Option Name) (o : Option ℕ) → IsFree graph dir x → IsLow graph dir low o → IsMember graph dir low
low_member graph dir x None o f l = tt
low_member graph dir x (Some y) o f l = f.has y ∙ ap is_some l.1

-- what is next after the free name itself
pub next_self : (graph : Graph) (dir : ℕ) (x : Name) (n : ℕ) (low : Option Name) → IsFree graph dir x → IsAt graph dir x low → next_child (linked_in dir x n graph) dir (Some x) ≡ next_child graph dir low
next_self graph dir x n low f at = next_above graph dir x n (Some x) f (not_itself x) ∙ ap (λ (o : Option Name). then_at o (graph.child dir)) (found_same low x (names_of (graph.shape dir)) at.0 at.1)
