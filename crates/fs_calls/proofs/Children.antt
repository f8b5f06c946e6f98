-- The names of a directory: those that rise in it.
use Rattle.std.proofs.Common.{◌≡◌, ℕ, Bool, true, false, cond, ◌&&◌, List, [], ◌∷◌, ◌++◌, map, Some, None, Option, is_some, refl, sym, ap, subst, ◌∙◌, T, Less, Equal, Greater}
use Rattle.std.specs.Ordering.{is_lt, ordering_then}
use Rattle.std.specs.FinMap.{find, is_sorted}
use Rattle.std.specs.FinMap.Entries.{same_entries, below_all}
use Rattle.std.proofs.lemmas.Cmp.{tied_itself}
use Rattle.fs_names.specs.Names.{Name, name_cmp, same_name}
use Rattle.fs_names.specs.Keys.{Key, key_cmp, same_key}
use Rattle.fs_names.proofs.Lemmas.{name_total, name_exact, after_prefix-exact, after_prefix-append}
use Rattle.fs_calls.specs.Tree.{Tree, look, names_in, name_in, only_name, with_name}
use Rattle.fs_calls.proofs.LookLemmas.{same_key_exact, look-find}
use Rattle.fs_calls.proofs.ListLemmas.{same_key-snoc}

-- an only name is the key
only_name-exact : (o : Option Key) (x : Name) → only_name o ≡ Some x → o ≡ Some (x ∷ [])
only_name-exact None x e = absurd (cc)
only_name-exact (Some []) x e = absurd (cc)
only_name-exact (Some (y ∷ [])) x e = let s : y ≡ x = cc in cc
only_name-exact (Some (y ∷ z ∷ k)) x e = absurd (cc)

-- a key with a name in a directory is the directory and the name
name_in-exact : (d k : Key) (x : Name) → name_in d k ≡ Some x → k ≡ d ++ x ∷ []
name_in-exact d k x e = after_prefix-exact d k (x ∷ []) (only_name-exact _ x e)

-- the name of an entry
name_in-append : (d : Key) (x : Name) → name_in d (d ++ x ∷ []) ≡ Some x
name_in-append d x = ap only_name (after_prefix-append d (x ∷ []))

-- names, each with the same mark
abbrev pub marked : List Name → List (Name × ℕ)
marked [] = []
marked (x ∷ names) = (x, 0) ∷ marked names

-- what stands there, as a mark
abbrev mark : {A : Type 0} → Option A → Option ℕ
mark None = None
mark (Some a) = Some 0

-- a mark of a choice
mark-cond : {A : Type 0} (b : Bool) (x : A) (o : Option A) → cond {A = Option ℕ} b (Some 0) (mark o) ≡ mark (cond b (Some x) o)
mark-cond true x o = refl
mark-cond false x o = refl

-- what cannot be true is false
never : (b : Bool) → (b ≡ true → ⊥) → b ≡ false
never true h = absurd (h refl)
never false h = refl

-- one entry of the tree
find_child : (d : Key) (x : Name) (k : Key) (rest : List Name) (o : Option Name) → name_in d k ≡ o
    → find name_cmp x (marked (with_name o rest)) ≡ cond {A = Option ℕ} (same_key (d ++ x ∷ []) k) (Some 0) (find name_cmp x (marked rest))
find_child d x k rest None is =
    ap (λ b. cond {A = Option ℕ} b (Some 0) (find name_cmp x (marked rest))) (sym (never (same_key (d ++ x ∷ []) k) (λ same.
    let at : d ++ x ∷ [] ≡ k = same_key_exact _ _ same in
    let some : name_in d k ≡ Some x = ap (name_in d) (sym at) ∙ name_in-append d x in cc)))
find_child d x k rest (Some y) is =
    ap (λ b. cond {A = Option ℕ} b (Some 0) (find name_cmp x (marked rest))) (sym (ap (same_key (d ++ x ∷ [])) (name_in-exact d k y is) ∙ same_key-snoc d x y))

-- a name is in a directory as its key is in the tree
find-names_in : (t : Tree) (d : Key) (x : Name) → find name_cmp x (marked (names_in t d)) ≡ mark (look t (d ++ x ∷ []))
find-names_in t d x = by_find t ∙ ap mark (sym (look-find t (d ++ x ∷ [])))
  where
    by_find : (t : Tree) → find name_cmp x (marked (names_in t d)) ≡ mark (find key_cmp (d ++ x ∷ []) t)
    by_find [] = refl
    by_find (e ∷ t) =
        find_child d x e.0 (names_in t d) (name_in d e.0) refl ∙ ap (cond {A = Option ℕ} (same_key (d ++ x ∷ []) e.0) (Some 0)) (by_find t)
        ∙ mark-cond (same_key (d ++ x ∷ []) e.0) e.1 (find key_cmp (d ++ x ∷ []) t)

-- keys of one directory are in the order of their names
lt-snoc : (d : Key) (x y : Name) → is_lt (key_cmp (d ++ x ∷ []) (d ++ y ∷ [])) ≡ is_lt (name_cmp x y)
lt-snoc [] x y = elim (name_cmp x y) as (λ o. is_lt (ordering_then o Equal) ≡ is_lt o) [ Less ↦ refl | Equal ↦ refl | Greater ↦ refl ]
lt-snoc (a ∷ d) x y = rw (tied_itself name_total a) (lt-snoc d x y)

-- two facts at once
both : (a b : Bool) → T a → T b → T (a && b)
both true b p q = q
both false b p q = p

-- the first of two
first : (a b : Bool) → T (a && b) → T a
first true b p = tt
first false b p = p

-- the second of two
second : (a b : Bool) → T (a && b) → T b
second true b p = p
second false b p = absurd p

-- a name below the rest of the directory
below_with : (d : Key) (x : Name) (k : Key) (rest : List Name) (o : Option Name) → name_in d k ≡ o → T (is_lt (key_cmp (d ++ x ∷ []) k)) → T (below_all name_cmp x (marked rest)) → T (below_all name_cmp x (marked (with_name o rest)))
below_with d x k rest None is h r = r
below_with d x k rest (Some y) is h r = both _ _ (subst T (ap (λ q. is_lt (key_cmp (d ++ x ∷ []) q)) (name_in-exact d k y is) ∙ lt-snoc d x y) h) r

-- a key below the rest of the tree
below-names_in : (t : Tree) (d : Key) (x : Name) → T (below_all key_cmp (d ++ x ∷ []) t) → T (below_all name_cmp x (marked (names_in t d)))
below-names_in [] d x h = tt
below-names_in (e ∷ t) d x h = below_with d x e.0 (names_in t d) (name_in d e.0) refl (first _ _ h) (below-names_in t d x (second _ _ h))

-- one entry more
sorted_with : (t : Tree) (d : Key) (k : Key) (o : Option Name) → name_in d k ≡ o → T (below_all key_cmp k t) → T (is_sorted name_cmp (marked (names_in t d))) → T (is_sorted name_cmp (marked (with_name o (names_in t d))))
sorted_with t d k None is h r = r
sorted_with t d k (Some y) is h r = both _ _ (below-names_in t d y (subst (λ q. T (below_all key_cmp q t)) (name_in-exact d k y is) h)) r

-- the names of a directory rise
pub sorted-names_in : (t : Tree) (d : Key) → T (is_sorted key_cmp t) → T (is_sorted name_cmp (marked (names_in t d)))
sorted-names_in [] d h = tt
sorted-names_in (e ∷ t) d h = sorted_with t d e.0 (name_in d e.0) refl (first _ _ h) (sorted-names_in t d (second _ _ h))

-- ---- rising links

-- the names of links
abbrev named : List (Name × ℕ) → List Name
named links = map (λ l. l.0) links

-- marks keep what is below
below-marked : (x : Name) (links : List (Name × ℕ)) → below_all name_cmp x (marked (named links)) ≡ below_all name_cmp x links
below-marked x [] = refl
below-marked x (l ∷ links) = ap (λ b. is_lt (name_cmp x l.0) && b) (below-marked x links)

-- marks keep the order
sorted-marked : (links : List (Name × ℕ)) → is_sorted name_cmp (marked (named links)) ≡ is_sorted name_cmp links
sorted-marked [] = refl
sorted-marked (l ∷ links) = λ i. below-marked l.0 links i && sorted-marked links i

-- what is found among marks
find-marked : (x : Name) (links : List (Name × ℕ)) → find name_cmp x (marked (named links)) ≡ mark (find name_cmp x links)
find-marked x [] = refl
find-marked x (l ∷ links) =
    elim (same_name x l.0) as (λ b. cond {A = Option ℕ} b (Some 0) (find name_cmp x (marked (named links))) ≡ mark (cond {A = Option ℕ} b (Some l.1) (find name_cmp x links))) [ true ↦ refl | false ↦ find-marked x links ]

-- the names of marks
named-marked : (names : List Name) → named (marked names) ≡ names
named-marked [] = refl
named-marked (x ∷ names) = ap (λ ns. x ∷ ns) (named-marked names)

-- marks of what is there alike
mark-same : {A B : Type 0} (a : Option A) (b : Option B) → is_some a ≡ is_some b → mark a ≡ mark b
mark-same None None e = refl
mark-same None (Some b) e = absurd (cc)
mark-same (Some a) None e = absurd (cc)
mark-same (Some a) (Some b) e = refl

-- rising links with the names that stand in a directory have its names
pub names_in-links : (t : Tree) (d : Key) (links : List (Name × ℕ)) → T (is_sorted key_cmp t) → T (is_sorted name_cmp links) → ((x : Name) → is_some (look t (d ++ x ∷ [])) ≡ is_some (find name_cmp x links))
    → names_in t d ≡ map (λ l. l.0) links
names_in-links t d links sorted rising same =
    sym (named-marked (names_in t d))
    ∙ ap named (same_entries name_cmp name_total name_exact (marked (names_in t d)) (marked (named links)) (sorted-names_in t d sorted) (subst T (sym (sorted-marked links)) rising)
    (λ x. find-names_in t d x ∙ mark-same _ _ (same x) ∙ sym (find-marked x links)))
    ∙ named-marked (named links)
