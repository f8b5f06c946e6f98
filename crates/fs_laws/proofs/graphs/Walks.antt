-- How keys resolve in a graph, before and after a change.
use Rattle.std.proofs.Common.{◌≡◌, ℕ, Bool, true, false, cond, eqb, ◌&&◌, [], ◌∷◌, ◌++◌, Option, Some, None, refl, sym, ap, ◌∙◌, arith, append_assoc, ap₂}
use Rattle.fs_names.specs.Keys.{Key, after_prefix}
use Rattle.fs_names.specs.Names.{Name, same_name}
use Rattle.fs_calls.specs.Graphs.{Children, at, set_child, then_at}
use Rattle.fs_laws.proofs.trees.Prefixes.{same_refl, same_true, prefix_append}

pub eqb_refl : (n : ℕ) → eqb n n ≡ true
eqb_refl n = grind arith

pub eqb_true : (n m : ℕ) → eqb n m ≡ true → n ≡ m
eqb_true n m e = grind arith

-- no key begins with one that is longer
pub prefix_shorter : (k : Key) (x : Name) → after_prefix (k ++ x ∷ []) k ≡ None
prefix_shorter [] x = refl
prefix_shorter (y ∷ k) x = rw (same_refl y) (prefix_shorter k x)

pub then_same : {V W : Type 0} (o : Option V) (f g : V → Option W) → ((m : V) → o ≡ Some m → f m ≡ g m) → then_at o f ≡ then_at o g
then_same None f g h = refl
then_same (Some m) f g h = h m refl

pub then_then : {U V W : Type 0} (o : Option U) (f : U → Option V) (g : V → Option W) → then_at (then_at o f) g ≡ then_at o (λ m. then_at (f m) g)
then_then None f g = refl
then_then (Some m) f g = refl

pub then_some : {V W : Type 0} (o : Option V) (f : V → Option W) (w : W) → then_at o f ≡ Some w → (v : V) × (o ≡ Some v) × (f v ≡ Some w)
then_some None f w e = cc
then_some (Some v) f w e = (v, refl, e)

pub at_append : (child : Children) (n : ℕ) (a b : Key) → at child n (a ++ b) ≡ then_at (at child n a) (λ m. at child m b)
at_append child n [] b = refl
at_append child n (x ∷ a) b =
    then_same (child n x) (λ m. at child m (a ++ b)) (λ m. then_at (at child m a) (λ q. at child q b)) (λ m e. at_append child m a b)
    ∙ sym (then_then (child n x) (λ m. at child m a) (λ m. at child m b))

pub at_from : (child : Children) (n m : ℕ) (a b : Key) → at child n a ≡ Some m → at child n (a ++ b) ≡ at child m b
at_from child n m a b e = at_append child n a b ∙ ap (λ (o : Option ℕ). then_at o (λ q. at child q b)) e

-- what a walk goes through on its way
pub at_before : (child : Children) (n m : ℕ) (a b : Key) → at child n (a ++ b) ≡ Some m → (q : ℕ) × (at child n a ≡ Some q) × (at child q b ≡ Some m)
at_before child n m a b e = then_some (at child n a) (λ q. at child q b) m (sym (at_append child n a b) ∙ e)

pub at_child : (child : Children) (n m : ℕ) (a : Key) (x : Name) → at child n a ≡ Some m → at child n (a ++ x ∷ []) ≡ child m x
at_child child n m a x e = at_from child n m a (x ∷ []) e ∙ go (child m x)
  where
    go : (o : Option ℕ) → then_at o (λ q. at child q []) ≡ o
    go None = refl
    go (Some q) = refl

-- a walk on which no entry differs
pub at_same : (child new : Children) (n : ℕ) (key : Key) → ((u w : Key) (x : Name) (m : ℕ) → key ≡ u ++ x ∷ w → at child n u ≡ Some m → child m x ≡ new m x) → at child n key ≡ at new n key
at_same child new n [] h = refl
at_same child new n (x ∷ key) h =
    then_same (child n x) (λ m. at child m key) (λ m. at new m key) (λ m e.
    at_same child new m key (λ u w y q i j. h (x ∷ u) w y q (ap (λ (l : Key). x ∷ l) i) (ap (λ (o : Option ℕ). then_at o (λ p. at child p u)) e ∙ j)))
    ∙ ap (λ (o : Option ℕ). then_at o (λ m. at new m key)) (h [] key x n refl refl)

-- an entry that is set, and each other
pub set_here : (dir : ℕ) (x : Name) (v : Option ℕ) (child : Children) → set_child dir x v child dir x ≡ v
set_here dir x v child = ap (λ (b : Bool). cond (b && same_name x x) v (child dir x)) (eqb_refl dir) ∙ ap (λ (b : Bool). cond b v (child dir x)) (same_refl x)

pub set_else : (dir : ℕ) (x : Name) (v : Option ℕ) (child : Children) (d : ℕ) (y : Name) → (d ≡ dir → y ≡ x → ⊥) → set_child dir x v child d y ≡ child d y
set_else dir x v child d y h = go (eqb d dir) (same_name y x) refl refl
  where
    go : (b c : Bool) → eqb d dir ≡ b → same_name y x ≡ c → cond (b && c) v (child d y) ≡ child d y
    go false c e f = refl
    go true false e f = refl
    go true true e f = absurd (h (eqb_true d dir e) (same_true y x f))

-- a key that does not begin with the entry's own key resolves as before
pub at_else : (child : Children) (dir : ℕ) (x : Name) (v : Option ℕ) (kd key : Key)
    → ((a b : Key) (n : ℕ) → at child 0 a ≡ Some n → at child 0 b ≡ Some n → a ≡ b)
    → at child 0 kd ≡ Some dir → after_prefix (kd ++ x ∷ []) key ≡ None → at (set_child dir x v child) 0 key ≡ at child 0 key
at_else child dir x v kd key one is apart =
    sym (at_same child (set_child dir x v child) 0 key (λ u w y m i j. sym (set_else dir x v child m y (λ f g.
    let e : u ≡ kd = one u kd m j (is ∙ sym (ap Some f)) in
    let h : key ≡ (kd ++ x ∷ []) ++ w = i ∙ ap₂ (λ (a : Key) (b : Name). a ++ b ∷ w) e g ∙ sym (append_assoc kd (x ∷ []) w) in
    let s : after_prefix (kd ++ x ∷ []) key ≡ Some w = rw h (prefix_append (kd ++ x ∷ []) w) in
    cc))))

-- from the entry on
pub at_entry : (child : Children) (dir : ℕ) (x : Name) (v : Option ℕ) (kd r : Key)
    → ((a b : Key) (n : ℕ) → at child 0 a ≡ Some n → at child 0 b ≡ Some n → a ≡ b)
    → at child 0 kd ≡ Some dir → at (set_child dir x v child) 0 ((kd ++ x ∷ []) ++ r) ≡ then_at v (λ n. at (set_child dir x v child) n r)
at_entry child dir x v kd r one is =
    let e : at (set_child dir x v child) 0 kd ≡ Some dir = at_else child dir x v kd kd one is (prefix_shorter kd x) ∙ is in
    ap (at (set_child dir x v child) 0) (append_assoc kd (x ∷ []) r)
    ∙ at_from (set_child dir x v child) 0 dir kd (x ∷ r) e
    ∙ ap (λ (o : Option ℕ). then_at o (λ n. at (set_child dir x v child) n r)) (set_here dir x v child)

-- below a node that does not lead to the directory
pub at_inside : (child : Children) (dir : ℕ) (x : Name) (v : Option ℕ) (n : ℕ) (r : Key) → ((u : Key) → at child n u ≡ Some dir → ⊥) → at (set_child dir x v child) n r ≡ at child n r
at_inside child dir x v n r h = sym (at_same child (set_child dir x v child) n r (λ u w y m i j. sym (set_else dir x v child m y (λ f g. h u (j ∙ ap Some f)))))
