-- The names of a directory ascend, and so each name's next one follows it.
use Rattle.std.proofs.Common.{◌≡◌, ℕ, Bool, true, false, cond, eqb, List, [], ◌∷◌, Option, Some, None, refl, sym, ap, subst, ◌∙◌, Ordering, Less, Equal, Greater}
use Rattle.std.specs.Ordering.{is_lt}
use Rattle.std.specs.List.{find, filter}
use Rattle.std.proofs.lemmas.Cmp.{tied_itself}
use Rattle.fs_names.specs.Names.{Name, name_cmp, inserted_name}
use Rattle.fs_names.proofs.Lemmas.{name_total}
use Rattle.fs_nodes_places.specs.declared.node.Link.{Link}
use Rattle.fs_nodes_places.specs.declared.node.Node.{Node}
use Rattle.fs_nodes_places.specs.Seen.{Ascends}
use Rattle.fs_nodes_places.specs.Stores.{link_of, with_link, names_in, is_above}
use Rattle.fs_calls.proofs.NameLemmas.{Compared, Below, Same, Above, compare, inserted_below, inserted_same, inserted_above}

-- what is above a name is below no name that is above it
pub above_more : (low : Option Name) (x z : Name) → is_above low x ≡ true → name_cmp x z ≡ Less → is_above low z ≡ true
above_more None x z h e = refl
above_more (Some low) x z h e = go (name_cmp low x) refl h
  where
    go : (o : Ordering) → name_cmp low x ≡ o → is_lt o ≡ true → is_lt (name_cmp low z) ≡ true
    go Less f g = ap is_lt (name_total.trans low x z f e)
    go Equal f g = absurd (cc)
    go Greater f g = absurd (cc)

-- a name put into an ascending list leaves it ascending
inserted_ascends : (low : Option Name) (x : Name) (names : List Name) → Ascends low names → is_above low x ≡ true → Ascends low (inserted_name x names)
inserted_ascends low x [] a h = (h, tt)
inserted_ascends low x (z ∷ zs) a h = go (compare x z) (λ g. inserted_ascends (Some z) x zs a.1 g)
  where
    go : Compared x z → (is_above (Some z) x ≡ true → Ascends (Some z) (inserted_name x zs)) → Ascends low (inserted_name x (z ∷ zs))
    go (Below e f) _ = subst (Ascends low) (sym (inserted_below x z zs e)) (h, (ap is_lt e, a.1))
    go (Same e) _ = subst (λ (w : Name). Ascends low (inserted_name w (z ∷ zs))) (sym e) (subst (Ascends low) (sym (inserted_same z zs)) a)
    go (Above e f) rest = subst (Ascends low) (sym (inserted_above x z zs e)) (a.0, rest (ap is_lt f))

-- the names of each directory do
pub names_ascend : (ps : List (Option Node)) (d : ℕ) → Ascends None (names_in ps d)
names_ascend [] d = tt
names_ascend (p ∷ ps) d = go (link_of p) (names_ascend ps d)
  where
    go : (l : Option Link) → Ascends None (names_in ps d) → Ascends None (with_link l d (names_in ps d))
    go None a = a
    go (Some link) a = by (eqb d link.dir)
      where
        by : (b : Bool) → Ascends None (cond b (inserted_name link.name (names_in ps d)) (names_in ps d))
        by true = inserted_ascends None link.name (names_in ps d) a refl
        by false = a

-- what is above a name that is above another one is above that
pub above_above : (low : Option Name) (x z : Name) → is_above low x ≡ true → is_above (Some x) z ≡ true → is_above low z ≡ true
above_above low x z h g = go (compare x z)
  where
    go : Compared x z → is_above low z ≡ true
    go (Below e f) = above_more low x z h e
    go (Same e) = subst (λ (w : Name). is_above low w ≡ true) e h
    go (Above e f) = let k : is_above (Some x) z ≡ false = ap is_lt e in absurd (cc)

-- no name is above itself
pub not_itself : (x : Name) → is_above (Some x) x ≡ false
not_itself x = ap is_lt (tied_itself name_total x)

-- all names of an ascending list are above what its first is above
all_above : (low : Option Name) (x : Name) (names : List Name) → Ascends (Some x) names → is_above low x ≡ true → filter (is_above low) names ≡ names
all_above low x [] a h = refl
all_above low x (z ∷ zs) a h = let g : is_above low z ≡ true = above_above low x z h a.0 in rw g (ap (λ (l : List Name). z ∷ l) (all_above low z zs a.1 g))

-- all names of an ascending list are above the name that it ascends from
all_after : (x : Name) (names : List Name) → Ascends (Some x) names → filter (is_above (Some x)) names ≡ names
all_after x [] a = refl
all_after x (z ∷ zs) a = rw a.0 (ap (λ (l : List Name). z ∷ l) (all_above (Some x) z zs a.1 a.0))

-- what is found in an ascending list is above the name that it ascends from
found_above : (low base : Option Name) (x : Name) (names : List Name) → Ascends base names → find (is_above low) names ≡ Some x → is_above base x ≡ true
found_above low base x [] a e = absurd (cc)
found_above low base x (z ∷ zs) a e = go (is_above low z) e (λ f. found_above low (Some z) x zs a.1 f)
  where
    go : (b : Bool) → cond b (Some z) (find (is_above low) zs) ≡ Some x → (find (is_above low) zs ≡ Some x → is_above (Some z) x ≡ true) → is_above base x ≡ true
    go true f rest = let g : z ≡ x = cc in subst (λ (w : Name). is_above base w ≡ true) g a.0
    go false f rest = above_above base z x a.0 (rest f)

-- of two names at most one is above the other
pub below_found : (x z : Name) → is_above (Some z) x ≡ true → is_above (Some x) z ≡ false
below_found x z h = go (compare x z)
  where
    go : Compared x z → is_above (Some x) z ≡ false
    go (Below e f) = let k : is_above (Some z) x ≡ false = ap is_lt f in absurd (cc)
    go (Same e) = subst (λ (w : Name). is_above (Some x) w ≡ false) e (not_itself x)
    go (Above e f) = ap is_lt e

-- the names above a given one begin with the first of them, and go on with those above that
pub next_names : (low base : Option Name) (x : Name) (names : List Name) → Ascends base names → find (is_above low) names ≡ Some x → filter (is_above low) names ≡ x ∷ filter (is_above (Some x)) names
next_names low base x [] a e = absurd (cc)
next_names low base x (z ∷ zs) a e = go (is_above low z) refl e (λ f. next_names low (Some z) x zs a.1 f)
  where
    go : (b : Bool) → is_above low z ≡ b → cond b (Some z) (find (is_above low) zs) ≡ Some x → (find (is_above low) zs ≡ Some x → filter (is_above low) zs ≡ x ∷ filter (is_above (Some x)) zs) → cond b (z ∷ filter (is_above low) zs) (filter (is_above low) zs) ≡ x ∷ filter (is_above (Some x)) (z ∷ zs)
    go true h f rest =
        let g : z ≡ x = cc in
        subst (λ (w : Name). z ∷ filter (is_above low) zs ≡ w ∷ filter (is_above (Some w)) (z ∷ zs)) g
        (ap (λ (l : List Name). z ∷ l) (all_above low z zs a.1 h ∙ sym (all_after z zs a.1) ∙ ap (λ (b : Bool). cond b (z ∷ filter (is_above (Some z)) zs) (filter (is_above (Some z)) zs)) (sym (not_itself z))))
    go false h f rest = rest f ∙ ap (λ (b : Bool). x ∷ cond b (z ∷ filter (is_above (Some x)) zs) (filter (is_above (Some x)) zs)) (sym (below_found x z (found_above low (Some z) x zs a.1 f)))

-- where none is above, there are no names above
pub no_names_above : (low : Option Name) (names : List Name) → find (is_above low) names ≡ None → filter (is_above low) names ≡ []
no_names_above low [] e = refl
no_names_above low (z ∷ zs) e = go (is_above low z) e (λ f. no_names_above low zs f)
  where
    go : (b : Bool) → cond b (Some z) (find (is_above low) zs) ≡ None → (find (is_above low) zs ≡ None → filter (is_above low) zs ≡ []) → cond b (z ∷ filter (is_above low) zs) (filter (is_above low) zs) ≡ []
    go true f rest = absurd (cc)
    go false f rest = rest f
