-- No node is reached from itself: what keeps it.
use Rattle.std.proofs.Common.{◌≡◌, ℕ, ◌≤◌, Bool, true, false, cond, eqb, ◌&&◌, List, [], ◌∷◌, ◌++◌, Option, Some, None, length, ◌⊎◌, inl, inr, refl, ap, ◌∙◌, arith}
use Rattle.fs_names.specs.Names.{Name, same_name}
use Rattle.fs_names.specs.Shapes.{Shape, names_of, has_any, has_entries}
use Rattle.fs_names.specs.Keys.{Key}
use Rattle.fs_calls.specs.Graphs.{Children, then_at, at, set_child, IsReached, IsAcyclic}
use Rattle.fs_calls.proofs.EqualLemmas.{eqb_true, both_true}

-- a way of two parts
pub at_append : (child : Children) (n m k : ℕ) (a b : Key) → at child n a ≡ Some m → at child m b ≡ Some k → at child n (a ++ b) ≡ Some k
at_append child n m k [] b e f = let h : n ≡ m = cc in ap (λ (z : ℕ). at child z b) h ∙ f
at_append child n m k (x ∷ a) b e f = go (child n x) refl e (λ z h. at_append child z m k a b h f)
  where
    go : (o : Option ℕ) → child n x ≡ o → then_at o (λ z. at child z a) ≡ Some m → ((z : ℕ) → at child z a ≡ Some m → at child z (a ++ b) ≡ Some k) → then_at (child n x) (λ z. at child z (a ++ b)) ≡ Some k
    go None g h rest = absurd (cc)
    go (Some z) g h rest = ap (λ (o : Option ℕ). then_at o (λ y. at child y (a ++ b))) g ∙ rest z h

-- the first step of a way
pub step_one : (child : Children) (m z : ℕ) (y : Name) (key : Key) (o : Option ℕ) → child m y ≡ Some z → at child z key ≡ o → at child m (y ∷ key) ≡ o
step_one child m z y key o e f = ap (λ (p : Option ℕ). then_at p (λ w. at child w key)) e ∙ f

-- a way with one entry more is an old one, or goes by the new entry: then it first comes to that one's directory by an old way
pub passes : (child : Children) (dir : ℕ) (x : Name) (n m k : ℕ) (key : Key) → at (set_child dir x (Some n) child) m key ≡ Some k
    → (at child m key ≡ Some k) ⊎ ((a b : Key) × (at child m a ≡ Some dir) × (at (set_child dir x (Some n) child) n b ≡ Some k))
passes child dir x n m k [] e = inl e
passes child dir x n m k (y ∷ key) e = go (eqb m dir && same_name y x) refl e (λ z h. passes child dir x n z k key h)
  where
    old : (o : Option ℕ) → child m y ≡ o → then_at o (λ z. at (set_child dir x (Some n) child) z key) ≡ Some k
        → ((z : ℕ) → at (set_child dir x (Some n) child) z key ≡ Some k → (at child z key ≡ Some k) ⊎ ((a b : Key) × (at child z a ≡ Some dir) × (at (set_child dir x (Some n) child) n b ≡ Some k)))
        → (at child m (y ∷ key) ≡ Some k) ⊎ ((a b : Key) × (at child m a ≡ Some dir) × (at (set_child dir x (Some n) child) n b ≡ Some k))
    old None g h rest = absurd (cc)
    old (Some z) g h rest = by (rest z h)
      where
        by : (at child z key ≡ Some k) ⊎ ((a b : Key) × (at child z a ≡ Some dir) × (at (set_child dir x (Some n) child) n b ≡ Some k)) → (at child m (y ∷ key) ≡ Some k) ⊎ ((a b : Key) × (at child m a ≡ Some dir) × (at (set_child dir x (Some n) child) n b ≡ Some k))
        by (inl i) = inl (step_one child m z y key (Some k) g i)
        by (inr i) = inr (y ∷ i.0, i.1, step_one child m z y i.0 (Some dir) g i.2, i.3)

    go : (t : Bool) → (eqb m dir && same_name y x) ≡ t → then_at (cond t (Some n) (child m y)) (λ z. at (set_child dir x (Some n) child) z key) ≡ Some k
        → ((z : ℕ) → at (set_child dir x (Some n) child) z key ≡ Some k → (at child z key ≡ Some k) ⊎ ((a b : Key) × (at child z a ≡ Some dir) × (at (set_child dir x (Some n) child) n b ≡ Some k)))
        → (at child m (y ∷ key) ≡ Some k) ⊎ ((a b : Key) × (at child m a ≡ Some dir) × (at (set_child dir x (Some n) child) n b ≡ Some k))
    go true g h rest = inr ([], key, ap (λ (z : ℕ). Some z) (eqb_true m dir (both_true (eqb m dir) (same_name y x) g).0), h)
    go false g h rest = old (child m y) refl h rest

-- an entry to a node below which the directory is not leaves no cycle
pub acyclic_linked : (child : Children) (dir : ℕ) (x : Name) (n : ℕ) → IsAcyclic child → (IsReached child n dir → ⊥) → IsAcyclic (set_child dir x (Some n) child)
acyclic_linked child dir x n acyclic apart m key y e = first (passes child dir x n m m (y ∷ key) e)
  where
    second : (a b : Key) → at child m a ≡ Some dir → (at child n b ≡ Some m) ⊎ ((c d : Key) × (at child n c ≡ Some dir) × (at (set_child dir x (Some n) child) n d ≡ Some m)) → ⊥
    second a b i (inl h) = apart (b ++ a, at_append child n m dir b a h i)
    second a b i (inr h) = apart (h.0, h.2)

    first : (at child m (y ∷ key) ≡ Some m) ⊎ ((a b : Key) × (at child m a ≡ Some dir) × (at (set_child dir x (Some n) child) n b ≡ Some m)) → ⊥
    first (inl h) = acyclic m key y h
    first (inr h) = second h.0 h.1 h.2 (passes child dir x n n m h.1 h.3)

-- a way with one entry less is an old one
pub at_less : (child : Children) (dir : ℕ) (x : Name) (m k : ℕ) (key : Key) → at (set_child dir x None child) m key ≡ Some k → at child m key ≡ Some k
at_less child dir x m k [] e = e
at_less child dir x m k (y ∷ key) e = go (eqb m dir && same_name y x) (child m y) refl e (λ z h. at_less child dir x z k key h)
  where
    go : (t : Bool) (o : Option ℕ) → child m y ≡ o → then_at (cond t None o) (λ z. at (set_child dir x None child) z key) ≡ Some k → ((z : ℕ) → at (set_child dir x None child) z key ≡ Some k → at child z key ≡ Some k) → at child m (y ∷ key) ≡ Some k
    go true o g h rest = absurd (cc)
    go false None g h rest = absurd (cc)
    go false (Some z) g h rest = step_one child m z y key (Some k) g (rest z h)

-- so it leaves no cycle
pub acyclic_unlinked : (child : Children) (dir : ℕ) (x : Name) → IsAcyclic child → IsAcyclic (set_child dir x None child)
acyclic_unlinked child dir x acyclic m key y e = acyclic m key y (at_less child dir x m m (y ∷ key) e)

-- and what is reached was reached
pub reached_less : (child : Children) (dir : ℕ) (x : Name) (n m : ℕ) → IsReached (set_child dir x None child) n m → IsReached child n m
reached_less child dir x n m (key, e) = (key, at_less child dir x n m key e)

-- a node of no names has no entries
pub few_bare : (s : Option Shape) → length (names_of s) ≤ 0 → has_entries s ≡ false
few_bare s h = go (names_of s) h
  where
    go : (names : List Name) → length names ≤ 0 → has_any names ≡ false
    go [] h = refl
    go (x ∷ names) h = absurd (omega arith)
