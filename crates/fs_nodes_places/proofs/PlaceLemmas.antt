-- What a change of one place changes in what is found by number, by entry and by directory.
use Rattle.std.proofs.Common.{◌≡◌, ℕ, suc, zero, ◌+◌, ◌<◌, ◌≤◌, Bool, true, false, cond, eqb, ◌&&◌, ◌||◌, List, [], ◌∷◌, ◌++◌, Option, Some, None, is_some, set, length, refl, sym, ap, ap₂, ◌∙◌, arith, subst, zero-add}
use Rattle.std.specs.Prelude.{slice_get}
use Rattle.fs_names.specs.Names.{Name, same_name, inserted_name, has_name}
use Rattle.fs_names.proofs.Lemmas.{same_name_exact, same_name_refl}
use Rattle.fs_nodes_places.specs.declared.node.Link.{Link}
use Rattle.fs_nodes_places.specs.declared.node.Node.{Node}
use Rattle.fs_calls.specs.Graphs.{then_at, set_child, set_at}
use Rattle.fs_nodes_places.specs.Stores.{link_of, link_at, is_link, child_from, child_in, with_link, names_in}
use Rattle.fs_calls.proofs.EqualLemmas.{eqb_true, eqb_refl, both_true}
use Rattle.fs_calls.proofs.NameLemmas.{inserted_inserted, has_inserted}

-- a search that finds nothing
first_false : (b : Bool) (i : ℕ) (o : Option ℕ) → cond b (Some i) o ≡ None → (b ≡ false) × (o ≡ None)
first_false true i o e = cc
first_false false i o e = (refl, e)

-- the entry of a link, and no other
pub own_link : (link : Link) → is_link (Some link) link.dir link.name ≡ true
own_link link = rw (eqb_refl link.dir, same_name_refl link.name) refl

-- an entry is named by its directory and its name alone
pub link_exact : (link : Link) (d : ℕ) (y : Name) → is_link (Some link) d y ≡ true → (d ≡ link.dir) × (y ≡ link.name)
link_exact link d y e = let two : (eqb d link.dir ≡ true) × (same_name y link.name ≡ true) = both_true (eqb d link.dir) (same_name y link.name) e in (eqb_true d link.dir two.0, same_name_exact y link.name two.1)

-- a node that no entry named is named by one from now on
pub child_relinked : (i : ℕ) (ps : List (Option Node)) (n : ℕ) (p q : Option Node) (link : Link) → child_from i ps link.dir link.name ≡ None → slice_get ps n ≡ Some p → link_of p ≡ None → link_of q ≡ Some link → (d : ℕ) (y : Name)
    → child_from i (set ps n q) d y ≡ set_child link.dir link.name (Some (i + n)) (child_from i ps) d y
child_relinked i [] n p q link free there old new d y = cc
child_relinked i (r ∷ ps) zero p q link free there old new d y =
    let e : r ≡ p = cc in
    let f : is_link (link_of r) d y ≡ false = rw (e, old) refl in
    rw (f, new) (let g : i + 0 ≡ i = omega arith in rw g refl)
child_relinked i (r ∷ ps) (suc n) p q link free there old new d y =
    let h : (is_link (link_of r) link.dir link.name ≡ false) × (child_from (i + 1) ps link.dir link.name ≡ None) = first_false (is_link (link_of r) link.dir link.name) i (child_from (i + 1) ps link.dir link.name) free in
    ap (cond (is_link (link_of r) d y) (Some i)) (child_relinked (i + 1) ps n p q link h.1 there old new d y)
    ∙ swap (is_link (Some link) d y) refl h.0
  where
    swap : (t : Bool) → is_link (Some link) d y ≡ t → is_link (link_of r) link.dir link.name ≡ false → cond (is_link (link_of r) d y) (Some i) (cond t (Some ((i + 1) + n)) (child_from (i + 1) ps d y)) ≡ cond t (Some (i + suc n)) (cond (is_link (link_of r) d y) (Some i) (child_from (i + 1) ps d y))
    swap false e h = refl
    swap true e h =
        let two : (d ≡ link.dir) × (y ≡ link.name) = link_exact link d y e in
        let g : is_link (link_of r) d y ≡ false = ap₂ (is_link (link_of r)) two.0 two.1 ∙ h in
        let m : (i + 1) + n ≡ i + suc n = omega arith in
        rw (g, m) refl

-- the same, of all places
pub child_linked : (ps : List (Option Node)) (n : ℕ) (p q : Option Node) (link : Link) → child_in ps link.dir link.name ≡ None → slice_get ps n ≡ Some p → link_of p ≡ None → link_of q ≡ Some link → (d : ℕ) (y : Name)
    → child_in (set ps n q) d y ≡ set_child link.dir link.name (Some n) (child_in ps) d y
child_linked ps n p q link free there old new d y = subst (λ (m : ℕ). child_in (set ps n q) d y ≡ set_child link.dir link.name (Some m) (child_in ps) d y) (zero-add n) (child_relinked 0 ps n p q link free there old new d y)

-- places whose nodes have the same entries
child_same_from : (i : ℕ) (ps : List (Option Node)) (n : ℕ) (p q : Option Node) → slice_get ps n ≡ Some p → link_of q ≡ link_of p → (d : ℕ) (y : Name) → child_from i (set ps n q) d y ≡ child_from i ps d y
child_same_from i [] n p q e f d y = cc
child_same_from i (r ∷ ps) zero p q e f d y = let z : r ≡ p = cc in rw (f, z) refl
child_same_from i (r ∷ ps) (suc n) p q e f d y = ap (cond (is_link (link_of r) d y) (Some i)) (child_same_from (i + 1) ps n p q e f d y)

-- the same, of all places
pub child_same : (ps : List (Option Node)) (n : ℕ) (p q : Option Node) → slice_get ps n ≡ Some p → link_of q ≡ link_of p → (d : ℕ) (y : Name) → child_in (set ps n q) d y ≡ child_in ps d y
child_same ps n p q e f d y = child_same_from 0 ps n p q e f d y

-- and their directories the same names
pub names_same : (ps : List (Option Node)) (n : ℕ) (p q : Option Node) → slice_get ps n ≡ Some p → link_of q ≡ link_of p → (d : ℕ) → names_in (set ps n q) d ≡ names_in ps d
names_same [] n p q e f d = cc
names_same (r ∷ ps) zero p q e f d = let z : r ≡ p = cc in rw (f, z) refl
names_same (r ∷ ps) (suc n) p q e f d = ap (with_link (link_of r) d) (names_same ps n p q e f d)

-- a place at the end without an entry is found by none
child_push_from : (i : ℕ) (ps : List (Option Node)) (q : Option Node) → link_of q ≡ None → (d : ℕ) (y : Name) → child_from i (ps ++ q ∷ []) d y ≡ child_from i ps d y
child_push_from i [] q g d y = rw g refl
child_push_from i (r ∷ ps) q g d y = ap (cond (is_link (link_of r) d y) (Some i)) (child_push_from (i + 1) ps q g d y)

-- the same, of all places
pub child_push : (ps : List (Option Node)) (q : Option Node) → link_of q ≡ None → (d : ℕ) (y : Name) → child_in (ps ++ q ∷ []) d y ≡ child_in ps d y
child_push ps q g d y = child_push_from 0 ps q g d y

-- what is found is the place of a node that the entry names
child_link_from : (i : ℕ) (ps : List (Option Node)) (d : ℕ) (y : Name) (n : ℕ) → child_from i ps d y ≡ Some n → (m : ℕ) × (n ≡ i + m) × (link_at ps m ≡ Some (record { dir = d; name = y }))
child_link_from i [] d y n e = cc
child_link_from i (p ∷ ps) d y n e = by (link_of p) refl (is_link (link_of p) d y) refl e (λ g. child_link_from (i + 1) ps d y n g)
  where
    by : (l : Option Link) → link_of p ≡ l → (b : Bool) → is_link l d y ≡ b → cond b (Some i) (child_from (i + 1) ps d y) ≡ Some n
        → (child_from (i + 1) ps d y ≡ Some n → (m : ℕ) × (n ≡ (i + 1) + m) × (link_at ps m ≡ Some (record { dir = d; name = y })))
        → (m : ℕ) × (n ≡ i + m) × (link_at (p ∷ ps) m ≡ Some (record { dir = d; name = y }))
    by None f true g e rest = absurd (cc)
    by (Some link) f true g e rest =
        let two : (d ≡ link.dir) × (y ≡ link.name) = link_exact link d y g in
        let h : i ≡ n = cc in
        (0, omega arith, f ∙ ap₂ (λ (a : ℕ) (b : Name). Some (record { dir = a; name = b })) (sym two.0) (sym two.1))
    by l f false g e rest = let r : (m : ℕ) × (n ≡ (i + 1) + m) × (link_at ps m ≡ Some (record { dir = d; name = y })) = rest e in (suc r.0, (let h : n ≡ (i + 1) + r.0 = r.1 in omega arith), r.2)

-- the same, of all places
pub child_link : (ps : List (Option Node)) (d : ℕ) (y : Name) (n : ℕ) → child_in ps d y ≡ Some n → link_at ps n ≡ Some (record { dir = d; name = y })
child_link ps d y n e = let r : (m : ℕ) × (n ≡ 0 + m) × (link_at ps m ≡ Some (record { dir = d; name = y })) = child_link_from 0 ps d y n e in let h : n ≡ r.0 = r.1 ∙ zero-add r.0 in rw h r.2

-- a directory's names are those of its entries
with_has : (link : Option Link) (d : ℕ) (y : Name) (names : List Name) → has_name y (with_link link d names) ≡ (is_link link d y || has_name y names)
with_has None d y names = refl
with_has (Some link) d y names = go (eqb d link.dir)
  where
    go : (b : Bool) → has_name y (cond b (inserted_name link.name names) names) ≡ ((b && same_name y link.name) || has_name y names)
    go true = has_inserted y link.name names
    go false = refl

-- a name is listed where a search finds its entry
names_child_from : (i : ℕ) (ps : List (Option Node)) (d : ℕ) (y : Name) → has_name y (names_in ps d) ≡ is_some (child_from i ps d y)
names_child_from i [] d y = refl
names_child_from i (p ∷ ps) d y = with_has (link_of p) d y (names_in ps d) ∙ ap (λ (b : Bool). is_link (link_of p) d y || b) (names_child_from (i + 1) ps d y) ∙ go (is_link (link_of p) d y)
  where
    go : (b : Bool) → (b || is_some (child_from (i + 1) ps d y)) ≡ is_some (cond b (Some i) (child_from (i + 1) ps d y))
    go true = refl
    go false = refl

-- the same, of all places
pub names_child : (ps : List (Option Node)) (d : ℕ) (y : Name) → has_name y (names_in ps d) ≡ is_some (child_in ps d y)
names_child ps d y = names_child_from 0 ps d y

-- the names, after a change of a place whose node no entry named
with_with : (a b : Option Link) (d : ℕ) (names : List Name) → with_link a d (with_link b d names) ≡ with_link b d (with_link a d names)
with_with None b d names = refl
with_with (Some a) None d names = refl
with_with (Some a) (Some b) d names = go (eqb d a.dir) (eqb d b.dir)
  where
    go : (s t : Bool) → cond s (inserted_name a.name (cond t (inserted_name b.name names) names)) (cond t (inserted_name b.name names) names) ≡ cond t (inserted_name b.name (cond s (inserted_name a.name names) names)) (cond s (inserted_name a.name names) names)
    go true true = inserted_inserted a.name b.name names
    go true false = refl
    go false true = refl
    go false false = refl

-- a node that no entry named adds its new name
pub names_relinked : (ps : List (Option Node)) (n : ℕ) (p q : Option Node) → slice_get ps n ≡ Some p → link_of p ≡ None → (d : ℕ) → names_in (set ps n q) d ≡ with_link (link_of q) d (names_in ps d)
names_relinked [] n p q e f d = cc
names_relinked (r ∷ ps) zero p q e f d = let z : r ≡ p = cc in rw (z, f) refl
names_relinked (r ∷ ps) (suc n) p q e f d = ap (with_link (link_of r) d) (names_relinked ps n p q e f d) ∙ with_with (link_of r) (link_of q) d (names_in ps d)

-- a place at the end without an entry adds none
pub names_push : (ps : List (Option Node)) (q : Option Node) → link_of q ≡ None → (d : ℕ) → names_in (ps ++ q ∷ []) d ≡ names_in ps d
names_push [] q g d = rw g refl
names_push (r ∷ ps) q g d = ap (with_link (link_of r) d) (names_push ps q g d)

-- where no entry leads, there are no names
pub names_none : (ps : List (Option Node)) (d : ℕ) → ((n : ℕ) (link : Link) → link_at ps n ≡ Some link → d ≡ link.dir → ⊥) → names_in ps d ≡ []
names_none [] d h = refl
names_none (p ∷ ps) d h = go (link_of p) refl (names_none ps d (λ n. h (suc n)))
  where
    go : (l : Option Link) → link_of p ≡ l → names_in ps d ≡ [] → with_link l d (names_in ps d) ≡ []
    go None e rest = rest
    go (Some link) e rest = by (eqb d link.dir) refl
      where
        by : (b : Bool) → eqb d link.dir ≡ b → cond b (inserted_name link.name (names_in ps d)) (names_in ps d) ≡ []
        by true f = absurd (h 0 link e (eqb_true d link.dir f))
        by false f = rest

-- what is read of a place that is set
pub at_set : {A B : Type 0} (f : A → Option B) (ps : List A) (n : ℕ) (p : A) → n < length ps → (m : ℕ) → then_at (slice_get (set ps n p) m) f ≡ set_at n (f p) (λ k. then_at (slice_get ps k) f) m
at_set f [] n p h m = absurd (omega arith)
at_set f (q ∷ ps) zero p h zero = refl
at_set f (q ∷ ps) zero p h (suc m) = let e : false ≡ eqb (suc m) 0 = grind arith in ap (λ (b : Bool). cond b (f p) (then_at (slice_get ps m) f)) e
at_set f (q ∷ ps) (suc n) p h zero = let e : false ≡ eqb 0 (suc n) = grind arith in ap (λ (b : Bool). cond b (f p) (f q)) e
at_set f (q ∷ ps) (suc n) p h (suc m) = at_set f ps n p (omega arith) m ∙ (let e : eqb m n ≡ eqb (suc m) (suc n) = grind arith in ap (λ (b : Bool). cond b (f p) (then_at (slice_get ps m) f)) e)

-- what is read of a place that comes at the end
pub at_push : {A B : Type 0} (f : A → Option B) (ps : List A) (p : A) (m : ℕ) → then_at (slice_get (ps ++ p ∷ []) m) f ≡ set_at (length ps) (f p) (λ k. then_at (slice_get ps k) f) m
at_push f [] p zero = refl
at_push f [] p (suc m) = let e : false ≡ eqb (suc m) 0 = grind arith in ap (λ (b : Bool). cond b (f p) None) e
at_push f (q ∷ ps) p zero = let e : false ≡ eqb 0 (length (q ∷ ps)) = grind arith in ap (λ (b : Bool). cond b (f p) (f q)) e
at_push f (q ∷ ps) p (suc m) = at_push f ps p m ∙ (let e : eqb m (length ps) ≡ eqb (suc m) (length (q ∷ ps)) = grind arith in ap (λ (b : Bool). cond b (f p) (then_at (slice_get ps m) f)) e)

-- what a change keeps, and a place at the end that says nothing
pub same_set : {A B : Type 0} (f : A → Option B) (ps : List A) (n : ℕ) (p q : A) → slice_get ps n ≡ Some p → f q ≡ f p → (m : ℕ) → then_at (slice_get (set ps n q) m) f ≡ then_at (slice_get ps m) f
same_set f [] n p q e g m = cc
same_set f (r ∷ ps) zero p q e g zero = let z : p ≡ r = cc in g ∙ ap f z
same_set f (r ∷ ps) zero p q e g (suc m) = refl
same_set f (r ∷ ps) (suc n) p q e g zero = refl
same_set f (r ∷ ps) (suc n) p q e g (suc m) = same_set f ps n p q e g m

-- a place at the end of which nothing is read
pub same_push : {A B : Type 0} (f : A → Option B) (ps : List A) (q : A) → f q ≡ None → (m : ℕ) → then_at (slice_get (ps ++ q ∷ []) m) f ≡ then_at (slice_get ps m) f
same_push f [] q g zero = g
same_push f [] q g (suc m) = refl
same_push f (r ∷ ps) q g zero = refl
same_push f (r ∷ ps) q g (suc m) = same_push f ps q g m

-- nothing is read past the end
pub past_end : {A B : Type 0} (f : A → Option B) (ps : List A) (m : ℕ) → length ps ≤ m → then_at (slice_get ps m) f ≡ None
past_end f [] m h = refl
past_end f (r ∷ ps) zero h = absurd (omega arith)
past_end f (r ∷ ps) (suc m) h = past_end f ps m (omega arith)

-- what is read is read of a place
pub read_within : {A B : Type 0} (f : A → Option B) (ps : List A) (m : ℕ) (b : B) → then_at (slice_get ps m) f ≡ Some b → (p : A) × (slice_get ps m ≡ Some p) × (f p ≡ Some b)
read_within f [] m b e = cc
read_within f (r ∷ ps) zero b e = (r, refl, e)
read_within f (r ∷ ps) (suc m) b e = read_within f ps m b e

-- a place that is set twice
pub set_back : {A : Type 0} (ps : List A) (n : ℕ) (p q : A) → slice_get ps n ≡ Some p → set (set ps n q) n p ≡ ps
set_back [] n p q e = cc
set_back (r ∷ ps) zero p q e = let z : p ≡ r = cc in rw z refl
set_back (r ∷ ps) (suc n) p q e = ap (λ (l : List _). r ∷ l) (set_back ps n p q e)

-- the second time counts
pub set_twice : {A : Type 0} (ps : List A) (n : ℕ) (p q : A) → set (set ps n q) n p ≡ set ps n p
set_twice [] n p q = refl
set_twice (r ∷ ps) zero p q = refl
set_twice (r ∷ ps) (suc n) p q = ap (λ (l : List _). r ∷ l) (set_twice ps n p q)

-- and is what stands there
pub get_set : {A : Type 0} (ps : List A) (n : ℕ) (p q : A) → slice_get ps n ≡ Some p → slice_get (set ps n q) n ≡ Some q
get_set [] n p q e = cc
get_set (r ∷ ps) zero p q e = refl
get_set (r ∷ ps) (suc n) p q e = get_set ps n p q e
