-- Names put into a list in order, taken out, counted and looked for.
use Rattle.std.proofs.Common.{◌≡◌, ◌+◌, Bool, true, false, cond, ◌||◌, List, [], ◌∷◌, length, refl, sym, ap, subst, ◌∙◌, arith, Ordering, Less, Equal, Greater}
use Rattle.std.specs.Ordering.{is_eq, ordering_reverse}
use Rattle.fs_names.specs.Names.{Name, name_cmp, same_name, inserted_name, removed_name, has_name}
use Rattle.fs_names.proofs.Lemmas.{name_total, name_exact, same_name_refl}

-- how two names stand to each other
pub data Compared (x y : Name) : Type 0 where
  Below : name_cmp x y ≡ Less → name_cmp y x ≡ Greater → Compared x y
  Same : x ≡ y → Compared x y
  Above : name_cmp x y ≡ Greater → name_cmp y x ≡ Less → Compared x y

-- any two names stand so
pub compare : (x y : Name) → Compared x y
compare x y = go (name_cmp x y) refl
  where
    go : (o : Ordering) → name_cmp x y ≡ o → Compared x y
    go Less e = Below e (name_total.antisymm y x ∙ ap ordering_reverse e)
    go Equal e = Same (name_exact x y e)
    go Greater e = Above e (name_total.antisymm y x ∙ ap ordering_reverse e)

-- where a name goes into a list that begins with another one
pub inserted_below : (x y : Name) (ys : List Name) → name_cmp x y ≡ Less → inserted_name x (y ∷ ys) ≡ x ∷ y ∷ ys
inserted_below x y ys e = rw e refl

-- into a list that begins with it
pub inserted_same : (x : Name) (ys : List Name) → inserted_name x (x ∷ ys) ≡ x ∷ ys
inserted_same x ys = rw (same_name_refl x) refl

-- into a list that begins with a lesser one
pub inserted_above : (x y : Name) (ys : List Name) → name_cmp x y ≡ Greater → inserted_name x (y ∷ ys) ≡ y ∷ inserted_name x ys
inserted_above x y ys e = rw e refl

-- what is above a name that is above another one is above that
pub above_both : (x y z : Name) → name_cmp x z ≡ Less → name_cmp z y ≡ Less → name_cmp y x ≡ Greater
above_both x y z e f = name_total.antisymm y x ∙ ap ordering_reverse (name_total.trans x z y e f)

-- the order in which two names are put in makes no difference
pub inserted_inserted : (x y : Name) (names : List Name) → inserted_name x (inserted_name y names) ≡ inserted_name y (inserted_name x names)
inserted_inserted x y [] = go (compare x y)
  where
    go : Compared x y → inserted_name x (y ∷ []) ≡ inserted_name y (x ∷ [])
    go (Below e f) = inserted_below x y [] e ∙ sym (inserted_above y x [] f)
    go (Same e) = rw e refl
    go (Above e f) = inserted_above x y [] e ∙ sym (inserted_below y x [] f)
inserted_inserted x y (z ∷ zs) = go (compare x z) (compare y z) (compare x y) (inserted_inserted x y zs)
  where
    go : Compared x z → Compared y z → Compared x y → inserted_name x (inserted_name y zs) ≡ inserted_name y (inserted_name x zs) → inserted_name x (inserted_name y (z ∷ zs)) ≡ inserted_name y (inserted_name x (z ∷ zs))
    go (Below e f) (Below g h) (Below i j) _ = ap (inserted_name x) (inserted_below y z zs g) ∙ inserted_below x y (z ∷ zs) i ∙ sym (ap (inserted_name y) (inserted_below x z zs e) ∙ inserted_above y x (z ∷ zs) j ∙ ap (λ (l : List Name). x ∷ l) (inserted_below y z zs g))
    go (Below e f) (Below g h) (Same i) _ = subst (λ (w : Name). inserted_name x (inserted_name w (z ∷ zs)) ≡ inserted_name w (inserted_name x (z ∷ zs))) i refl
    go (Below e f) (Below g h) (Above i j) _ = ap (inserted_name x) (inserted_below y z zs g) ∙ inserted_above x y (z ∷ zs) i ∙ ap (λ (l : List Name). y ∷ l) (inserted_below x z zs e) ∙ sym (ap (inserted_name y) (inserted_below x z zs e) ∙ inserted_below y x (z ∷ zs) j)
    go (Below e f) (Same g) _ _ = subst (λ (w : Name). inserted_name x (inserted_name w (z ∷ zs)) ≡ inserted_name w (inserted_name x (z ∷ zs))) (sym g) (ap (inserted_name x) (inserted_same z zs) ∙ inserted_below x z zs e ∙ sym (ap (inserted_name z) (inserted_below x z zs e) ∙ inserted_above z x (z ∷ zs) f ∙ ap (λ (l : List Name). x ∷ l) (inserted_same z zs)))
    go (Below e f) (Above g h) _ _ = ap (inserted_name x) (inserted_above y z zs g) ∙ inserted_below x z (inserted_name y zs) e ∙ sym (ap (inserted_name y) (inserted_below x z zs e) ∙ inserted_above y x (z ∷ zs) (above_both x y z e h) ∙ ap (λ (l : List Name). x ∷ l) (inserted_above y z zs g))
    go (Same e) (Below g h) _ _ = subst (λ (w : Name). inserted_name w (inserted_name y (z ∷ zs)) ≡ inserted_name y (inserted_name w (z ∷ zs))) (sym e) (sym (ap (inserted_name y) (inserted_same z zs) ∙ inserted_below y z zs g ∙ sym (ap (inserted_name z) (inserted_below y z zs g) ∙ inserted_above z y (z ∷ zs) h ∙ ap (λ (l : List Name). y ∷ l) (inserted_same z zs))))
    go (Same e) (Same g) _ _ = subst (λ (w : Name). inserted_name x (inserted_name w (z ∷ zs)) ≡ inserted_name w (inserted_name x (z ∷ zs))) (e ∙ sym g) refl
    go (Same e) (Above g h) _ _ = subst (λ (w : Name). inserted_name w (inserted_name y (z ∷ zs)) ≡ inserted_name y (inserted_name w (z ∷ zs))) (sym e) (ap (inserted_name z) (inserted_above y z zs g) ∙ inserted_same z (inserted_name y zs) ∙ sym (ap (inserted_name y) (inserted_same z zs) ∙ inserted_above y z zs g))
    go (Above e f) (Below g h) _ _ = sym (ap (inserted_name y) (inserted_above x z zs e) ∙ inserted_below y z (inserted_name x zs) g ∙ sym (ap (inserted_name x) (inserted_below y z zs g) ∙ inserted_above x y (z ∷ zs) (above_both y x z g f) ∙ ap (λ (l : List Name). y ∷ l) (inserted_above x z zs e)))
    go (Above e f) (Same g) _ _ = subst (λ (w : Name). inserted_name x (inserted_name w (z ∷ zs)) ≡ inserted_name w (inserted_name x (z ∷ zs))) (sym g) (sym (ap (inserted_name z) (inserted_above x z zs e) ∙ inserted_same z (inserted_name x zs) ∙ sym (ap (inserted_name x) (inserted_same z zs) ∙ inserted_above x z zs e)))
    go (Above e f) (Above g h) _ rest = ap (inserted_name x) (inserted_above y z zs g) ∙ inserted_above x z (inserted_name y zs) e ∙ ap (λ (l : List Name). z ∷ l) rest ∙ sym (ap (inserted_name y) (inserted_above x z zs e) ∙ inserted_above y z (inserted_name x zs) g)

-- a name below another is another
same_below : (x y : Name) → name_cmp x y ≡ Less → same_name x y ≡ false
same_below x y e = ap is_eq e

-- and so is a name above it
same_above : (x y : Name) → name_cmp x y ≡ Greater → same_name x y ≡ false
same_above x y e = ap is_eq e

-- a name that is not there
absent_next : (x y : Name) (ys : List Name) → has_name x (y ∷ ys) ≡ false → (same_name x y ≡ false) × (has_name x ys ≡ false)
absent_next x y ys h = go (same_name x y) refl h
  where
    go : (b : Bool) → same_name x y ≡ b → cond b true (has_name x ys) ≡ false → (same_name x y ≡ false) × (has_name x ys ≡ false)
    go true e h = absurd (cc)
    go false e h = (e, h)

-- what is not there is taken out without a change
pub removed_absent : (x : Name) (names : List Name) → has_name x names ≡ false → removed_name x names ≡ names
removed_absent x [] h = refl
removed_absent x (y ∷ ys) h =
    let two : (same_name x y ≡ false) × (has_name x ys ≡ false) = absent_next x y ys h in
    rw two.0 (ap (λ (l : List Name). y ∷ l) (removed_absent x ys two.1))

-- a name that is put in and taken out again
pub removed_inserted : (x : Name) (names : List Name) → has_name x names ≡ false → removed_name x (inserted_name x names) ≡ names
removed_inserted x [] h = rw (same_name_refl x) refl
removed_inserted x (z ∷ zs) h = go (compare x z) (removed_inserted x zs)
  where
    go : Compared x z → (has_name x zs ≡ false → removed_name x (inserted_name x zs) ≡ zs) → removed_name x (inserted_name x (z ∷ zs)) ≡ z ∷ zs
    go (Below e f) _ = ap (removed_name x) (inserted_below x z zs e) ∙ (let g : removed_name x (x ∷ z ∷ zs) ≡ removed_name x (z ∷ zs) = rw (same_name_refl x) refl in g) ∙ removed_absent x (z ∷ zs) h
    go (Same e) _ = let g : same_name x z ≡ true = rw (← e) (same_name_refl x) in let k : true ≡ false = sym g ∙ (absent_next x z zs h).0 in absurd (cc)
    go (Above e f) rest = ap (removed_name x) (inserted_above x z zs e) ∙ (let g : removed_name x (z ∷ inserted_name x zs) ≡ z ∷ removed_name x (inserted_name x zs) = rw (same_above x z e) refl in g) ∙ ap (λ (l : List Name). z ∷ l) (rest (absent_next x z zs h).1)

-- a name that is put in makes the list longer by one
pub length_inserted : (x : Name) (names : List Name) → has_name x names ≡ false → length (inserted_name x names) ≡ length names + 1
length_inserted x [] h = refl
length_inserted x (z ∷ zs) h = go (compare x z) (length_inserted x zs)
  where
    go : Compared x z → (has_name x zs ≡ false → length (inserted_name x zs) ≡ length zs + 1) → length (inserted_name x (z ∷ zs)) ≡ length (z ∷ zs) + 1
    go (Below e f) _ = ap length (inserted_below x z zs e) ∙ (let k : length (x ∷ z ∷ zs) ≡ length (z ∷ zs) + 1 = omega arith in k)
    go (Same e) _ = let g : same_name x z ≡ true = rw (← e) (same_name_refl x) in let k : true ≡ false = sym g ∙ (absent_next x z zs h).0 in absurd (cc)
    go (Above e f) rest = let k : length (inserted_name x zs) ≡ length zs + 1 = rest (absent_next x z zs h).1 in ap length (inserted_above x z zs e) ∙ omega arith

-- which names are there once one was put in
pub has_inserted : (y x : Name) (names : List Name) → has_name y (inserted_name x names) ≡ (same_name y x || has_name y names)
has_inserted y x [] = go (same_name y x)
  where
    go : (b : Bool) → cond b true false ≡ (b || false)
    go true = refl
    go false = refl
has_inserted y x (z ∷ zs) = go (compare x z) (has_inserted y x zs)
  where
    first : (b c : Bool) → cond b true c ≡ (b || c)
    first true c = refl
    first false c = refl

    swap : (b c d : Bool) → cond b true (c || d) ≡ (c || cond b true d)
    swap true true d = refl
    swap true false d = refl
    swap false c d = refl

    twice : (b d : Bool) → cond b true d ≡ (b || cond b true d)
    twice true d = refl
    twice false d = refl

    go : Compared x z → has_name y (inserted_name x zs) ≡ (same_name y x || has_name y zs) → has_name y (inserted_name x (z ∷ zs)) ≡ (same_name y x || has_name y (z ∷ zs))
    go (Below e f) _ = ap (has_name y) (inserted_below x z zs e) ∙ first (same_name y x) (has_name y (z ∷ zs))
    go (Same e) _ = subst (λ (w : Name). has_name y (inserted_name w (z ∷ zs)) ≡ (same_name y w || has_name y (z ∷ zs))) (sym e) (ap (has_name y) (inserted_same z zs) ∙ twice (same_name y z) (has_name y zs))
    go (Above e f) rest = ap (has_name y) (inserted_above x z zs e) ∙ ap (cond (same_name y z) true) rest ∙ swap (same_name y z) (same_name y x) (has_name y zs)
