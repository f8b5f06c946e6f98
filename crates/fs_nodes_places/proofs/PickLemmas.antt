-- The least name, looked for place by place; and how many entries a directory has.
use Rattle.std.proofs.Common.{◌≡◌, ℕ, suc, ◌+◌, ◌<◌, Bool, true, false, cond, eqb, ◌&&◌, List, [], ◌∷◌, Option, Some, None, is_some, get_or, drop, length, count_by, refl, sym, ap, ◌∙◌, arith, subst, Less, Greater}
use Rattle.std.specs.Ordering.{is_lt}
use Rattle.std.specs.List.{find}
use Rattle.std.proofs.lemmas.List.{at_drop_more}
use Rattle.std.proofs.lemmas.List.Sums.{sum_by-cons}
use Rattle.fs_names.specs.Names.{Name, name_cmp, same_name, inserted_name, has_name}
use Rattle.fs_names.proofs.Lemmas.{name_total, same_name_refl}
use Rattle.fs_nodes_places.specs.declared.node.Link.{Link}
use Rattle.fs_nodes_places.specs.declared.node.Node.{Node}
use Rattle.fs_nodes_places.specs.Stores.{link_of, link_at, is_in, child_in, with_link, names_in, is_above}
use Rattle.fs_nodes_places.specs.code.Picks.{lesser, name_above}
use Rattle.fs_calls.proofs.NameLemmas.{Compared, Below, Same, Above, compare, inserted_below, inserted_same, inserted_above, above_both, length_inserted}
use Rattle.fs_nodes_places.proofs.AscentLemmas.{above_more}
use Rattle.fs_calls.proofs.EqualLemmas.{eqb_true}
use Rattle.fs_nodes_places.proofs.PlaceLemmas.{names_child, child_link}

-- a choice of one thing
either_way : {A : Type 0} (b : Bool) (v : A) → cond b v v ≡ v
either_way true v = refl
either_way false v = refl

-- the first name above another one, once a name was put in
pub find_inserted : (low : Option Name) (x : Name) (names : List Name) → find (is_above low) (inserted_name x names) ≡ lesser (cond (is_above low x) (Some x) None) (find (is_above low) names)
find_inserted low x [] = go (is_above low x)
  where
    go : (b : Bool) → cond b (Some x) None ≡ lesser (cond b (Some x) None) None
    go true = refl
    go false = refl
find_inserted low x (z ∷ zs) = go (compare x z) (find_inserted low x zs)
  where
    below : (b : Bool) → is_above low x ≡ b → name_cmp x z ≡ Less → name_cmp z x ≡ Greater → cond b (Some x) (find (is_above low) (z ∷ zs)) ≡ lesser (cond b (Some x) None) (find (is_above low) (z ∷ zs))
    below true h e f = rw (above_more low x z h e, f) refl
    below false h e f = refl

    same : (b : Bool) → cond b (Some z) (find (is_above low) zs) ≡ lesser (cond b (Some z) None) (cond b (Some z) (find (is_above low) zs))
    same true = sym (either_way (is_lt (name_cmp z z)) (Some z))
    same false = refl

    above : (b : Bool) → is_above low z ≡ b → name_cmp z x ≡ Less → find (is_above low) (inserted_name x zs) ≡ lesser (cond (is_above low x) (Some x) None) (find (is_above low) zs) → cond b (Some z) (find (is_above low) (inserted_name x zs)) ≡ lesser (cond (is_above low x) (Some x) None) (cond b (Some z) (find (is_above low) zs))
    above true h f rest = rw (above_more low z x h f, f) refl
    above false h f rest = rest

    go : Compared x z → find (is_above low) (inserted_name x zs) ≡ lesser (cond (is_above low x) (Some x) None) (find (is_above low) zs) → find (is_above low) (inserted_name x (z ∷ zs)) ≡ lesser (cond (is_above low x) (Some x) None) (find (is_above low) (z ∷ zs))
    go (Below e f) _ = ap (find (is_above low)) (inserted_below x z zs e) ∙ below (is_above low x) refl e f
    go (Same e) _ = subst (λ (w : Name). find (is_above low) (inserted_name w (z ∷ zs)) ≡ lesser (cond (is_above low w) (Some w) None) (find (is_above low) (z ∷ zs))) (sym e) (ap (find (is_above low)) (inserted_same z zs) ∙ same (is_above low z))
    go (Above e f) rest = ap (find (is_above low)) (inserted_above x z zs e) ∙ above (is_above low z) refl f rest

-- of two names the lesser
lesser_lt : (x y : Name) → name_cmp y x ≡ Less → lesser (Some x) (Some y) ≡ Some y
lesser_lt x y e = rw e refl

-- the first, where the second is above it
lesser_gt : (x y : Name) → name_cmp y x ≡ Greater → lesser (Some x) (Some y) ≡ Some x
lesser_gt x y e = rw e refl

-- of one name twice that name
lesser_self : (x : Name) → lesser (Some x) (Some x) ≡ Some x
lesser_self x = either_way (is_lt (name_cmp x x)) (Some x)

-- a name compared twice
lesser_twice : (x z : Name) → lesser (Some x) (lesser (Some x) (Some z)) ≡ lesser (Some x) (Some z)
lesser_twice x z = go (compare z x)
  where
    go : Compared z x → lesser (Some x) (lesser (Some x) (Some z)) ≡ lesser (Some x) (Some z)
    go (Below e f) = ap (lesser (Some x)) (lesser_lt x z e)
    go (Same e) = subst (λ (w : Name). lesser (Some x) (lesser (Some x) (Some w)) ≡ lesser (Some x) (Some w)) (sym e) (ap (lesser (Some x)) (lesser_self x))
    go (Above e f) = ap (lesser (Some x)) (lesser_gt x z e) ∙ lesser_self x ∙ sym (lesser_gt x z e)

-- of three names the least, in whichever order they are compared
least_of : (x y z : Name) → Compared y x → Compared z y → lesser (lesser (Some x) (Some y)) (Some z) ≡ lesser (Some x) (lesser (Some y) (Some z))
least_of x y z (Below e f) (Below g h) = ap (λ (o : Option Name). lesser o (Some z)) (lesser_lt x y e) ∙ lesser_lt y z g ∙ sym (ap (lesser (Some x)) (lesser_lt y z g) ∙ lesser_lt x z (name_total.trans z y x g e))
least_of x y z (Below e f) (Same g) = subst (λ (w : Name). lesser (lesser (Some x) (Some y)) (Some w) ≡ lesser (Some x) (lesser (Some y) (Some w))) (sym g) (ap (λ (o : Option Name). lesser o (Some y)) (lesser_lt x y e) ∙ lesser_self y ∙ sym (ap (lesser (Some x)) (lesser_self y) ∙ lesser_lt x y e))
least_of x y z (Below e f) (Above g h) = ap (λ (o : Option Name). lesser o (Some z)) (lesser_lt x y e) ∙ lesser_gt y z g ∙ sym (ap (lesser (Some x)) (lesser_gt y z g) ∙ lesser_lt x y e)
least_of x y z (Same e) c = subst (λ (w : Name). lesser (lesser (Some x) (Some w)) (Some z) ≡ lesser (Some x) (lesser (Some w) (Some z))) (sym e) (ap (λ (o : Option Name). lesser o (Some z)) (lesser_self x) ∙ sym (lesser_twice x z))
least_of x y z (Above e f) (Below g h) = ap (λ (o : Option Name). lesser o (Some z)) (lesser_gt x y e) ∙ sym (ap (lesser (Some x)) (lesser_lt y z g))
least_of x y z (Above e f) (Same g) = subst (λ (w : Name). lesser (lesser (Some x) (Some y)) (Some w) ≡ lesser (Some x) (lesser (Some y) (Some w))) (sym g) (ap (λ (o : Option Name). lesser o (Some y)) (lesser_gt x y e) ∙ sym (ap (lesser (Some x)) (lesser_self y)))
least_of x y z (Above e f) (Above g h) = ap (λ (o : Option Name). lesser o (Some z)) (lesser_gt x y e) ∙ lesser_gt x z (above_both x z y f h) ∙ sym (ap (lesser (Some x)) (lesser_gt y z g) ∙ lesser_gt x y e)

-- the least of three, some of which may be missing
pub lesser_lesser : (a b c : Option Name) → lesser (lesser a b) c ≡ lesser a (lesser b c)
lesser_lesser None b c = refl
lesser_lesser (Some x) None c = refl
lesser_lesser (Some x) (Some y) None = go (is_lt (name_cmp y x))
  where
    go : (b : Bool) → lesser (cond b (Some y) (Some x)) None ≡ cond b (Some y) (Some x)
    go true = refl
    go false = refl
lesser_lesser (Some x) (Some y) (Some z) = least_of x y z (compare y x) (compare z y)

-- the least name above another one, with one place more
find_with : (link : Option Link) (d : ℕ) (low : Option Name) (names : List Name) → find (is_above low) (with_link link d names) ≡ lesser (name_above link d low) (find (is_above low) names)
find_with None d low names = refl
find_with (Some link) d low names = go (eqb d link.dir)
  where
    go : (b : Bool) → find (is_above low) (cond b (inserted_name link.name names) names) ≡ lesser (cond (b && is_above low link.name) (Some link.name) None) (find (is_above low) names)
    go true = find_inserted low link.name names
    go false = refl

-- one step of the search for the least name
pub least_step : (ps : List (Option Node)) (i d : ℕ) (low : Option Name) (p : Option Node) (best found next : Option Name) → i < length ps → p ≡ get_or ps i p → next ≡ name_above (link_of p) d low → found ≡ lesser best next
    → lesser best (find (is_above low) (names_in (drop i ps) d)) ≡ find (is_above low) (names_in ps d) → lesser found (find (is_above low) (names_in (drop (i + 1) ps) d)) ≡ find (is_above low) (names_in ps d)
least_step ps i d low p best found next h e f g so_far =
    let rest = find (is_above low) (names_in (drop (i + 1) ps) d) in
    let cut : find (is_above low) (names_in (drop i ps) d) ≡ lesser next rest = at_drop_more (λ qs. find (is_above low) (names_in qs d)) ps i p h ∙ ap (λ (q : Option Node). find (is_above low) (with_link (link_of q) d (names_in (drop (i + 1) ps) d))) (sym e) ∙ find_with (link_of p) d low (names_in (drop (i + 1) ps) d) ∙ ap (λ (o : Option Name). lesser o rest) (sym f) in
    ap (λ (o : Option Name). lesser o rest) g ∙ lesser_lesser best next rest ∙ ap (lesser best) (sym cut) ∙ so_far

-- a name that is found among some is one of them
found_has : (low : Option Name) (x : Name) (names : List Name) → find (is_above low) names ≡ Some x → has_name x names ≡ true
found_has low x [] e = absurd (cc)
found_has low x (y ∷ ys) e = go (is_above low y) (found_has low x ys) e
  where
    go : (b : Bool) → (find (is_above low) ys ≡ Some x → has_name x ys ≡ true) → cond b (Some y) (find (is_above low) ys) ≡ Some x → has_name x (y ∷ ys) ≡ true
    go true more f = let h : y ≡ x = cc in subst (λ (z : Name). has_name x (z ∷ ys) ≡ true) (sym h) (ap (λ (b : Bool). cond b true (has_name x ys)) (same_name_refl x))
    go false more f = by (same_name x y) (more f)
      where
        by : (b : Bool) → has_name x ys ≡ true → cond b true (has_name x ys) ≡ true
        by true g = refl
        by false g = g

-- so an entry of this name names a node
pub found_child : (ps : List (Option Node)) (d : ℕ) (low : Option Name) (x : Name) → find (is_above low) (names_in ps d) ≡ Some x → child_in ps d x ≡ None → ⊥
found_child ps d low x e f = let h : ◌≡◌ {A = Bool} true false = sym (found_has low x (names_in ps d) e) ∙ names_child ps d x ∙ ap is_some f in cc

-- no two nodes have one entry
IsApart : List (Option Node) → Type 0
IsApart ps = (n m : ℕ) (link : Link) → link_at ps n ≡ Some link → link_at ps m ≡ Some link → n ≡ m

-- a directory has as many entries as nodes that name it
count_apart : (ps : List (Option Node)) (d : ℕ) → IsApart ps → count_by (λ place. is_in (link_of place) d) ps ≡ length (names_in ps d)
unfolding IsApart
count_apart [] d apart = refl
count_apart (p ∷ ps) d apart = sum_by-cons (λ (place : Option Node). cond (is_in (link_of place) d) 1 0) p ps ∙ go (link_of p) refl (count_apart ps d (λ n m link e f. (let h : suc n ≡ suc m = apart (suc n) (suc m) link e f in omega arith)))
  where
    absent : (link : Link) → link_of p ≡ Some link → d ≡ link.dir → has_name link.name (names_in ps d) ≡ false
    absent link e f = by (child_in ps d link.name) refl
      where
        by : (o : Option ℕ) → child_in ps d link.name ≡ o → has_name link.name (names_in ps d) ≡ false
        by None g = names_child ps d link.name ∙ ap is_some g
        by (Some m) g =
            let there : link_at ps m ≡ Some link = child_link ps d link.name m g ∙ ap (λ (a : ℕ). Some (record { dir = a; name = link.name })) f in
            let h : 0 ≡ suc m = apart 0 (suc m) link e there in absurd (omega arith)

    go : (l : Option Link) → link_of p ≡ l → count_by (λ place. is_in (link_of place) d) ps ≡ length (names_in ps d) → cond (is_in l d) 1 0 + count_by (λ place. is_in (link_of place) d) ps ≡ length (with_link l d (names_in ps d))
    go None e rest = omega arith
    go (Some link) e rest = by (eqb d link.dir) refl
      where
        by : (b : Bool) → eqb d link.dir ≡ b → cond b 1 0 + count_by (λ place. is_in (link_of place) d) ps ≡ length (cond b (inserted_name link.name (names_in ps d)) (names_in ps d))
        by false f = omega arith
        by true f = let h : length (inserted_name link.name (names_in ps d)) ≡ length (names_in ps d) + 1 = length_inserted link.name (names_in ps d) (absent link e (eqb_true d link.dir f)) in omega arith

-- the same where each node is found by its entry
pub count_names : (ps : List (Option Node)) (d : ℕ) → ((n : ℕ) (link : Link) → link_at ps n ≡ Some link → child_in ps link.dir link.name ≡ Some n) → count_by (λ place. is_in (link_of place) d) ps ≡ length (names_in ps d)
unfolding IsApart
count_names ps d found = count_apart ps d (λ n m link e f. (let h : Some n ≡ Some m = sym (found n link e) ∙ found m link f in cc))
