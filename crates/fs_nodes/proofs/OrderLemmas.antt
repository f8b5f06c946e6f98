-- The first name above another one, in ascending names.
use Rattle.std.proofs.Common.{◌≡◌, ℕ, ◌+◌, ◌≤◌, length, arith, eqb, Bool, true, false, cond, List, [], ◌∷◌, Option, Some, None, ◌⊎◌, inl, inr, refl, sym, ap, subst, ◌∙◌}
use Rattle.std.specs.Ordering.{is_lt}
use Rattle.std.specs.List.{find}
use Rattle.fs_names.specs.Names.{Name, name_cmp, same_name, has_name, inserted_name}
use Rattle.fs_names.proofs.Lemmas.{same_name_exact, same_name_refl}
use Rattle.fs_nodes_places.specs.declared.node.Link.{Link}
use Rattle.fs_nodes_places.specs.declared.node.Node.{Node}
use Rattle.fs_nodes_places.specs.Stores.{link_of, with_link, names_in, is_above, names_above}
use Rattle.fs_nodes.specs.code.Linked.{IsBefore}
use Rattle.fs_nodes_places.specs.Seen.{Ascends}
use Rattle.fs_nodes_places.proofs.AscentLemmas.{above_above}

-- all names are above none
pub all_names : (names : List Name) → names_above None names ≡ names
all_names [] = refl
all_names (x ∷ names) = ap (λ (l : List Name). x ∷ l) (all_names names)

-- a name that an ascending list has is above what that ascends from
pub member_above : (base : Option Name) (x : Name) (names : List Name) → Ascends base names → has_name x names ≡ true → is_above base x ≡ true
member_above base x [] a h = cc
member_above base x (z ∷ zs) a h = go (same_name x z) refl h (λ g. member_above (Some z) x zs a.1 g)
  where
    go : (b : Bool) → same_name x z ≡ b → cond b true (has_name x zs) ≡ true → (has_name x zs ≡ true → is_above (Some z) x ≡ true) → is_above base x ≡ true
    go true e g rest = subst (λ (w : Name). is_above base w ≡ true) (sym (same_name_exact x z e)) a.0
    go false e g rest = above_above base z x a.0 (rest g)

-- where a name above the low one is there, the first such is that or one before it
pub found_upto : (base low : Option Name) (x : Name) (names : List Name) → Ascends base names → has_name x names ≡ true → is_above low x ≡ true → (y : Name) × (find (is_above low) names ≡ Some y) × ((y ≡ x) ⊎ (is_above (Some y) x ≡ true))
found_upto base low x [] a h g = cc
found_upto base low x (z ∷ zs) a h g = go (same_name x z) refl (is_above low z) refl h (λ k. found_upto (Some z) low x zs a.1 k g)
  where
    go : (b : Bool) → same_name x z ≡ b → (t : Bool) → is_above low z ≡ t → cond b true (has_name x zs) ≡ true → (has_name x zs ≡ true → (y : Name) × (find (is_above low) zs ≡ Some y) × ((y ≡ x) ⊎ (is_above (Some y) x ≡ true)))
        → (y : Name) × (cond t (Some z) (find (is_above low) zs) ≡ Some y) × ((y ≡ x) ⊎ (is_above (Some y) x ≡ true))
    go true e true f k rest = (z, refl, inl (sym (same_name_exact x z e)))
    go true e false f k rest = let w : true ≡ false = sym g ∙ ap (is_above low) (same_name_exact x z e) ∙ f in absurd (cc)
    go false e true f k rest = (z, refl, inr (member_above (Some z) x zs a.1 k))
    go false e false f k rest = rest k

-- what is found is above the low name
pub found_is_above : (low : Option Name) (y : Name) (names : List Name) → find (is_above low) names ≡ Some y → is_above low y ≡ true
found_is_above low y [] e = cc
found_is_above low y (z ∷ zs) e = go (is_above low z) refl e (λ g. found_is_above low y zs g)
  where
    go : (t : Bool) → is_above low z ≡ t → cond t (Some z) (find (is_above low) zs) ≡ Some y → (find (is_above low) zs ≡ Some y → is_above low y ≡ true) → is_above low y ≡ true
    go true f g rest = let h : z ≡ y = cc in subst (λ (w : Name). is_above low w ≡ true) h f
    go false f g rest = rest g

-- and one of the names
pub found_has : (low : Option Name) (y : Name) (names : List Name) → find (is_above low) names ≡ Some y → has_name y names ≡ true
found_has low y [] e = cc
found_has low y (z ∷ zs) e = go (is_above low z) e (λ g. found_has low y zs g)
  where
    by : (b : Bool) → has_name y zs ≡ true → cond b true (has_name y zs) ≡ true
    by true h = refl
    by false h = h

    go : (t : Bool) → cond t (Some z) (find (is_above low) zs) ≡ Some y → (find (is_above low) zs ≡ Some y → has_name y zs ≡ true) → has_name y (z ∷ zs) ≡ true
    go true g rest = let h : z ≡ y = cc in subst (λ (w : Name). has_name w (z ∷ zs) ≡ true) h (ap (λ (b : Bool). cond b true (has_name z zs)) (same_name_refl z))
    go false g rest = by (same_name y z) (rest g)

-- what is not above a name is not above one that is
not_above_more : (low : Option Name) (x z : Name) → is_above low x ≡ true → is_above low z ≡ false → is_above (Some x) z ≡ false
not_above_more low x z h g = go (is_above (Some x) z) refl
  where
    go : (t : Bool) → is_above (Some x) z ≡ t → is_above (Some x) z ≡ false
    go true e = let k : true ≡ false = sym (above_above low x z h e) ∙ g in absurd (cc)
    go false e = e

-- nothing stands between the low name and such a one
pub found_same : (low : Option Name) (x : Name) (names : List Name) → is_above low x ≡ true → IsBefore x (find (is_above low) names) → find (is_above (Some x)) names ≡ find (is_above low) names
found_same low x [] h b = refl
found_same low x (z ∷ zs) h b = go (is_above low z) refl b (λ k. found_same low x zs h k)
  where
    go : (t : Bool) → is_above low z ≡ t → IsBefore x (cond t (Some z) (find (is_above low) zs)) → (IsBefore x (find (is_above low) zs) → find (is_above (Some x)) zs ≡ find (is_above low) zs) → cond (is_above (Some x) z) (Some z) (find (is_above (Some x)) zs) ≡ cond t (Some z) (find (is_above low) zs)
    go true e k rest = ap (λ (s : Bool). cond s (Some z) (find (is_above (Some x)) zs)) k
    go false e k rest = ap (λ (s : Bool). cond s (Some z) (find (is_above (Some x)) zs)) (not_above_more low x z h e) ∙ rest k

-- a name more makes a list longer by one at most
pub inserted_length : (x : Name) (names : List Name) → length (inserted_name x names) ≤ length names + 1
inserted_length x [] = omega arith
inserted_length x (z ∷ zs) = go (same_name x z) (is_lt (name_cmp x z)) (inserted_length x zs)
  where
    go : (b t : Bool) → length (inserted_name x zs) ≤ length zs + 1 → length (cond b (z ∷ zs) (cond t (x ∷ z ∷ zs) (z ∷ inserted_name x zs))) ≤ length (z ∷ zs) + 1
    go true t h = omega arith
    go false true h = omega arith
    go false false h = omega arith

-- a directory has no more names than there are places
pub names_length : (ps : List (Option Node)) (d : ℕ) → length (names_in ps d) ≤ length ps
names_length [] d = omega arith
names_length (p ∷ ps) d = go (link_of p) (names_length ps d)
  where
    go : (l : Option Link) → length (names_in ps d) ≤ length ps → length (with_link l d (names_in ps d)) ≤ length (p ∷ ps)
    go None h = omega arith
    go (Some link) h = by (eqb d link.dir)
      where
        by : (b : Bool) → length (cond b (inserted_name link.name (names_in ps d)) (names_in ps d)) ≤ length (p ∷ ps)
        by true = let k : length (inserted_name link.name (names_in ps d)) ≤ length (names_in ps d) + 1 = inserted_length link.name (names_in ps d) in omega arith
        by false = omega arith
