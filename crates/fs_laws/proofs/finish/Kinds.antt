-- The sizes of directories and files, and their kinds, over a finish.
use Rattle.std.proofs.Common.{◌≡◌, ℕ, ◌+◌, ◌-◌, ◌≤◌, min, Bool, true, false, cond, ◌||◌, List, [], ◌∷◌, ◌++◌, length, take, drop, replicate, refl, sym, ap, ap₂, ◌∙◌, subst, ◌⊎◌, inl, inr, arith, Less}
use Rattle.std.proofs.lemmas.List.{length-append, length-replicate, length-take, length-drop}
use Rattle.fs_names.specs.Names.{Name, name_cmp, same_name, inserted_name, removed_name, has_name}
use Rattle.fs_names.proofs.Lemmas.{name_total}
use Rattle.fs_calls.specs.Rows.{written, resized}
use Rattle.fs_machine.specs.States.{AreRising}
use Rattle.fs_calls.proofs.NameLemmas.{Compared, Below, Same, Above, compare, inserted_below, inserted_same, inserted_above, has_inserted}
use Rattle.fs_laws.proofs.trees.Prefixes.{same_refl, same_true}

-- names in byte order, each once
abbrev pub Ordered : List Name → Type 0
Ordered = AreRising

-- a name of a list is its first or one of the others
first_or : (y x : Name) (names : List Name) → has_name y (x ∷ names) ≡ true → (y ≡ x) ⊎ (has_name y names ≡ true)
first_or y x names h = go (same_name y x) refl h
  where
    go : (b : Bool) → same_name y x ≡ b → cond b true (has_name y names) ≡ true → (y ≡ x) ⊎ (has_name y names ≡ true)
    go true e i = inl (same_true y x e)
    go false e i = inr i

-- a name that was put in is that one or one of the others
put_or : (y x : Name) (names : List Name) → has_name y (inserted_name x names) ≡ true → (y ≡ x) ⊎ (has_name y names ≡ true)
put_or y x names h = go (same_name y x) refl (sym (has_inserted y x names) ∙ h)
  where
    go : (b : Bool) → same_name y x ≡ b → (b || has_name y names) ≡ true → (y ≡ x) ⊎ (has_name y names ≡ true)
    go true e i = inl (same_true y x e)
    go false e i = inr i

-- a name that is put in leaves the order
pub ordered_with : (x : Name) (names : List Name) → Ordered names → Ordered (inserted_name x names)
ordered_with x [] o = ((λ y h. cc), tt)
ordered_with x (z ∷ zs) o = go (compare x z) (ordered_with x zs o.1)
  where
    below : name_cmp x z ≡ Less → (y : Name) → (y ≡ z) ⊎ (has_name y zs ≡ true) → name_cmp x y ≡ Less
    below e y (inl i) = ap (name_cmp x) i ∙ e
    below e y (inr h) = name_total.trans x z y e (o.0 y h)

    above : name_cmp z x ≡ Less → (y : Name) → (y ≡ x) ⊎ (has_name y zs ≡ true) → name_cmp z y ≡ Less
    above e y (inl i) = ap (name_cmp z) i ∙ e
    above e y (inr h) = o.0 y h

    go : Compared x z → Ordered (inserted_name x zs) → Ordered (inserted_name x (z ∷ zs))
    go (Below e f) _ = subst Ordered (sym (inserted_below x z zs e)) ((λ y h. below e y (first_or y z zs h)), o)
    go (Same e) _ = subst (λ (w : Name). Ordered (inserted_name w (z ∷ zs))) (sym e) (subst Ordered (sym (inserted_same z zs)) o)
    go (Above e f) rest = subst Ordered (sym (inserted_above x z zs e)) ((λ y h. above f y (put_or y x zs h)), rest)

-- a name that is still there was there
still_had : (y x : Name) (names : List Name) → has_name y (removed_name x names) ≡ true → has_name y names ≡ true
still_had y x [] h = h
still_had y x (z ∷ zs) h = go (same_name x z) (still_had y x zs) h
  where
    here : (y ≡ z) ⊎ (has_name y zs ≡ true) → has_name y (z ∷ zs) ≡ true
    here (inl e) = ap (λ (b : Bool). cond b true (has_name y zs)) (ap (same_name y) (sym e) ∙ same_refl y)
    here (inr i) = more (same_name y z) i
      where
        more : (b : Bool) → has_name y zs ≡ true → cond b true (has_name y zs) ≡ true
        more true i = refl
        more false i = i

    rest : (has_name y (removed_name x zs) ≡ true → has_name y zs ≡ true) → (y ≡ z) ⊎ (has_name y (removed_name x zs) ≡ true) → has_name y (z ∷ zs) ≡ true
    rest f (inl e) = here (inl e)
    rest f (inr i) = here (inr (f i))

    go : (b : Bool) → (has_name y (removed_name x zs) ≡ true → has_name y zs ≡ true) → has_name y (cond b (removed_name x zs) (z ∷ removed_name x zs)) ≡ true → has_name y (z ∷ zs) ≡ true
    go true f i = here (inr (f i))
    go false f i = rest f (first_or y z (removed_name x zs) i)

pub ordered_without : (x : Name) (names : List Name) → Ordered names → Ordered (removed_name x names)
ordered_without x [] o = tt
ordered_without x (z ∷ zs) o = go (same_name x z) (ordered_without x zs o.1)
  where
    go : (b : Bool) → Ordered (removed_name x zs) → Ordered (cond b (removed_name x zs) (z ∷ removed_name x zs))
    go true i = i
    go false i = ((λ y h. o.0 y (still_had y x zs h)), i)

-- lengths
pub fewer_without : (x : Name) (names : List Name) → length (removed_name x names) ≤ length names
fewer_without x [] = omega arith
fewer_without x (z ∷ zs) = go (same_name x z) (fewer_without x zs)
  where
    go : (b : Bool) → length (removed_name x zs) ≤ length zs → length (cond b (removed_name x zs) (z ∷ removed_name x zs)) ≤ length (z ∷ zs)
    go true i = omega (arith, i)
    go false i = omega (arith, i)

pub one_fewer : (x : Name) (names : List Name) → has_name x names ≡ true → length (removed_name x names) + 1 ≤ length names
one_fewer x [] h = cc
one_fewer x (z ∷ zs) h = go (same_name x z) h (one_fewer x zs) (fewer_without x zs)
  where
    go : (b : Bool) → cond b true (has_name x zs) ≡ true → (has_name x zs ≡ true → length (removed_name x zs) + 1 ≤ length zs) → length (removed_name x zs) ≤ length zs → length (cond b (removed_name x zs) (z ∷ removed_name x zs)) + 1 ≤ length (z ∷ zs)
    go true i f m = omega (arith, m)
    go false i f m = let n : length (removed_name x zs) + 1 ≤ length zs = f i in omega (arith, n)

pub one_more : (x : Name) (names : List Name) → length (inserted_name x names) ≤ length names + 1
one_more x [] = omega arith
one_more x (z ∷ zs) = go (compare x z) (one_more x zs)
  where
    go : Compared x z → length (inserted_name x zs) ≤ length zs + 1 → length (inserted_name x (z ∷ zs)) ≤ length (z ∷ zs) + 1
    go (Below e f) _ = subst (λ (l : List Name). length l ≤ length (z ∷ zs) + 1) (sym (inserted_below x z zs e)) (omega arith)
    go (Same e) _ = subst (λ (w : Name). length (inserted_name w (z ∷ zs)) ≤ length (z ∷ zs) + 1) (sym e) (subst (λ (l : List Name). length l ≤ length (z ∷ zs) + 1) (sym (inserted_same z zs)) (omega arith))
    go (Above e f) rest = subst (λ (l : List Name). length l ≤ length (z ∷ zs) + 1) (sym (inserted_above x z zs e)) (omega (arith, rest))

-- a name that is there already
pub no_more : (x : Name) (names : List Name) → Ordered names → has_name x names ≡ true → inserted_name x names ≡ names
no_more x [] o h = cc
no_more x (z ∷ zs) o h = go (compare x z) (no_more x zs o.1)
  where
    go : Compared x z → (has_name x zs ≡ true → inserted_name x zs ≡ zs) → inserted_name x (z ∷ zs) ≡ z ∷ zs
    go (Below e f) _ = by (first_or x z zs h)
      where
        by : (x ≡ z) ⊎ (has_name x zs ≡ true) → inserted_name x (z ∷ zs) ≡ z ∷ zs
        by (inl i) = ap (λ (w : Name). inserted_name w (z ∷ zs)) i ∙ inserted_same z zs
        by (inr i) = let l : name_cmp z x ≡ Less = o.0 x i in cc
    go (Same e) _ = ap (λ (w : Name). inserted_name w (z ∷ zs)) e ∙ inserted_same z zs
    go (Above e f) rest = by (first_or x z zs h)
      where
        by : (x ≡ z) ⊎ (has_name x zs ≡ true) → inserted_name x (z ∷ zs) ≡ z ∷ zs
        by (inl i) = ap (λ (w : Name). inserted_name w (z ∷ zs)) i ∙ inserted_same z zs
        by (inr i) = inserted_above x z zs e ∙ ap (λ (l : List Name). z ∷ l) (rest i)

-- the bytes of a file
length_four : (a b c d : List ℕ) (i j k l : ℕ) → length a ≡ i → length b ≡ j → length c ≡ k → length d ≡ l → length (a ++ b ++ c ++ d) ≡ ((i + j) + k) + l
length_four a b c d i j k l e f g h = length-append (a ++ b ++ c) d ∙ ap₂ (λ (x y : ℕ). x + y) (length-append (a ++ b) c ∙ ap₂ (λ (x y : ℕ). x + y) (length-append a b ∙ ap₂ (λ (x y : ℕ). x + y) e f) g) h

pub length_written : (most : ℕ) (old : List ℕ) (off : ℕ) (bytes : List ℕ) → length old ≤ most → off + length bytes ≤ most → length (written old off bytes) ≤ most
length_written most old off bytes h g =
    let a : length (take off old ++ replicate (off - length old) 0 ++ bytes ++ drop (off + length bytes) old) ≡ ((min off (length old) + (off - length old)) + length bytes) + (length old - (off + length bytes)) =
    length_four (take off old) (replicate (off - length old) 0) bytes (drop (off + length bytes) old) (min off (length old)) (off - length old) (length bytes) (length old - (off + length bytes)) (length-take off old) (length-replicate (off - length old) 0) refl (length-drop (off + length bytes) old) in
    subst (λ (n : ℕ). n ≤ most) (sym a) (omega (arith, h, g))

pub length_resized : (most : ℕ) (old : List ℕ) (size : ℕ) → length old ≤ most → size ≤ most → length (resized old size) ≤ most
length_resized most old size h g =
    let a : length (take size old ++ replicate (size - length old) 0) ≡ min size (length old) + (size - length old) =
    length-append (take size old) (replicate (size - length old) 0) ∙ ap₂ (λ (i j : ℕ). i + j) (length-take size old) (length-replicate (size - length old) 0) in
    subst (λ (n : ℕ). n ≤ most) (sym a) (omega (arith, h, g))
