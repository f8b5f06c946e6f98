-- What a map has to say to be what is seen of a tree.
use Rattle.std.proofs.Common.{◌≡◌, ℕ, Bool, true, false, cond, not, ◌||◌, List, [], ◌∷◌, ◌++◌, map, Option, Some, None, is_some, refl, sym, ap, ◌∙◌, subst, T, Ordering, Less, Equal, Greater}
use Rattle.std.specs.List.{list_any}
use Rattle.std.specs.Ordering.{is_eq, is_lt}
use Rattle.std.specs.FinMap.{find, put as put_entry, is_sorted}
use Rattle.std.specs.FinMap.Entries.{by_order, where_key, is_sorted-put, is_sorted-where_key}
use Rattle.fs_names.specs.Keys.{Key, key_cmp}
use Rattle.fs_names.specs.Names.{Name, name_cmp, same_name, inserted_name, removed_name, has_name}
use Rattle.fs_names.specs.Shapes.{Shape, Dir, File}
use Rattle.fs_names.proofs.Lemmas.{name_total}
use Rattle.fs_calls.specs.Tree as trees
use Rattle.fs_calls.specs.Tree.{Tree, Node, look, names_in, IsTree}
use Rattle.fs_calls.specs.Sights.{tree_shapes, shape_of}
use Rattle.fs_laws.specs.Maps.{Map}
use Rattle.fs_calls.proofs.Children.{marked, sorted-names_in, names_in-links}
use Rattle.fs_calls.proofs.ResolutionLemmas.{any-names_in}

-- names in rising order
abbrev pub Rising : List Name → Type 0
Rising names = T (is_sorted name_cmp (marked names))

marked_names : (names : List Name) → map (λ l. l.0) (marked names) ≡ names
marked_names [] = refl
marked_names (x ∷ names) = ap (λ (ns : List Name). x ∷ ns) (marked_names names)

marked_step : (b : Bool) (o : Option ℕ) (c : Bool) → is_some o ≡ c → is_some (cond {A = Option ℕ} b (Some 0) o) ≡ cond b true c
marked_step true o c e = refl
marked_step false o c e = e

marked_has : (x : Name) (names : List Name) → is_some (find name_cmp x (marked names)) ≡ has_name x names
marked_has x [] = refl
marked_has x (y ∷ names) = marked_step (same_name x y) (find name_cmp x (marked names)) (has_name x names) (marked_has x names)

any_has : (x : Name) (names : List Name) → list_any (same_name x) names ≡ has_name x names
any_has x [] = refl
any_has x (y ∷ names) = any_step (same_name x y) (list_any (same_name x) names) (has_name x names) (any_has x names)
  where
    any_step : (b c d : Bool) → c ≡ d → (b || c) ≡ cond b true d
    any_step true c d e = refl
    any_step false c d e = e

-- names that rise and are those of a directory are its names
names_as : (t : Tree) (d : Key) (names : List Name) → T (is_sorted key_cmp t) → Rising names → ((x : Name) → has_name x names ≡ is_some (look t (d ++ x ∷ []))) → names_in t d ≡ names
names_as t d names sorted rising same = names_in-links t d (marked names) sorted rising (λ x. sym (same x) ∙ sym (marked_has x names)) ∙ marked_names names

-- the names of a directory rise
pub rising_names : (t : Tree) (d : Key) → T (is_sorted key_cmp t) → Rising (names_in t d)
rising_names = sorted-names_in

-- and so they do with a name more or less
marked_put : (x : Name) (names : List Name) → marked (inserted_name x names) ≡ put_entry name_cmp x 0 (marked names)
marked_put x [] = refl
marked_put x (y ∷ ys) = put_step x y ys (name_cmp x y) (marked_put x ys)
  where
    put_step : (x y : Name) (ys : List Name) (r : Ordering) → marked (inserted_name x ys) ≡ put_entry name_cmp x 0 (marked ys)
        → marked (cond (is_eq r) (y ∷ ys) (cond (is_lt r) (x ∷ y ∷ ys) (y ∷ inserted_name x ys))) ≡ by_order r ((x, 0) ∷ (y, 0) ∷ marked ys) ((y, 0) ∷ marked ys) ((y, 0) ∷ put_entry name_cmp x 0 (marked ys))
    put_step x y ys Less e = refl
    put_step x y ys Equal e = refl
    put_step x y ys Greater e = ap (λ (l : List (Name × ℕ)). (y, 0) ∷ l) e

pub rising_with : (x : Name) (names : List Name) → Rising names → Rising (inserted_name x names)
rising_with x names h = subst (λ (l : List (Name × ℕ)). T (is_sorted name_cmp l)) (sym (marked_put x names)) (is_sorted-put name_cmp name_total x 0 (marked names) h)

marked_without : (x : Name) (names : List Name) → marked (removed_name x names) ≡ where_key name_cmp (λ y. not (same_name x y)) (marked names)
marked_without x [] = refl
marked_without x (y ∷ ys) = out_step y (removed_name x ys) (where_key name_cmp (λ y. not (same_name x y)) (marked ys)) (same_name x y) (marked_without x ys)
  where
    out_step : (y : Name) (ns : List Name) (rest : List (Name × ℕ)) (b : Bool) → marked ns ≡ rest → marked (cond b ns (y ∷ ns)) ≡ cond {A = List (Name × ℕ)} (not b) ((y, 0) ∷ rest) rest
    out_step y ns rest true e = e
    out_step y ns rest false e = ap (λ (l : List (Name × ℕ)). (y, 0) ∷ l) e

pub rising_without : (x : Name) (names : List Name) → Rising names → Rising (removed_name x names)
rising_without x names h = subst (λ (l : List (Name × ℕ)). T (is_sorted name_cmp l)) (sym (marked_without x names)) (is_sorted-where_key name_cmp (λ y. not (same_name x y)) (marked names) h)

-- what the map says at a key fits what stands there
abbrev pub ShowsAt : Tree → Key → Option Node → Option Shape → Type 0
ShowsAt t k None None = Unit {0}
ShowsAt t k (Some trees.Dir) (Some (Dir names)) = Rising names × ((x : Name) → has_name x names ≡ is_some (look t (k ++ x ∷ [])))
ShowsAt t k (Some (trees.File bytes)) (Some (File shown)) = bytes ≡ shown
ShowsAt t k _ _ = ⊥

abbrev pub Shows : Tree → Map Shape → Type 0
Shows t m = (k : Key) → ShowsAt t k (look t k) (m k)

-- such a map is what is seen
pub seen_by : (t : Tree) (m : Map Shape) → T (is_sorted key_cmp t) → Shows t m → (k : Key) → tree_shapes t k ≡ m k
seen_by t m sorted h k = go (look t k) (m k) (h k)
  where
    go : (o : Option Node) (s : Option Shape) → ShowsAt t k o s → shape_of t k o ≡ s
    go None None h = refl
    go None (Some (Dir names)) h = absurd h
    go None (Some (File bytes)) h = absurd h
    go (Some trees.Dir) (Some (Dir names)) h = ap (λ (ns : List Name). Some (Dir ns)) (names_as t k names sorted h.0 h.1)
    go (Some trees.Dir) (Some (File bytes)) h = absurd h
    go (Some trees.Dir) None h = absurd h
    go (Some (trees.File bytes)) (Some (File shown)) h = ap (λ (b : List ℕ). Some (File b)) h
    go (Some (trees.File bytes)) (Some (Dir names)) h = absurd h
    go (Some (trees.File bytes)) None h = absurd h

pub old_has : (t : Tree) (d : Key) (x : Name) → has_name x (names_in t d) ≡ is_some (look t (d ++ x ∷ []))
old_has t d x = sym (any_has x (names_in t d)) ∙ any-names_in t d x

-- where the same stands at a key, with the same names below it, the map goes on to fit
pub shows_same : (t new : Tree) (k l : Key) (o : Option Node) → T (is_sorted key_cmp t) → ((x : Name) → is_some (look new (l ++ x ∷ [])) ≡ is_some (look t (k ++ x ∷ []))) → ShowsAt new l o (shape_of t k o)
shows_same t new k l None sorted same = tt
shows_same t new k l (Some trees.Dir) sorted same = (rising_names t k sorted, λ x. old_has t k x ∙ sym (same x))
shows_same t new k l (Some (trees.File bytes)) sorted same = refl
