-- What a rename leaves of a tree, seen as a map.
use Rattle.std.proofs.Common.{◌≡◌, Bool, true, false, List, [], ◌∷◌, ◌++◌, Option, Some, None, is_some, refl, sym, ap, ap₂, ◌∙◌, append_assoc, append-nil, subst, ◌⊎◌, inl, inr}
use Rattle.fs_names.specs.Keys.{Key, after_prefix, is_end}
use Rattle.fs_names.specs.Names.{Name, inserted_name, removed_name, has_name}
use Rattle.fs_names.specs.Shapes.{Shape, Dir, names_of}
use Rattle.fs_calls.proofs.ListLemmas.{true_T}
use Rattle.fs_calls.specs.Tree as trees
use Rattle.fs_calls.specs.Tree.{Tree, Node, look, names_in, IsTree}
use Rattle.fs_calls.specs.Sights.{tree_shapes}
use Rattle.fs_laws.specs.Changes.{rename_writes}
use Rattle.fs_calls.specs.Laws.{IsMoved}
use Rattle.fs_laws.specs.Maps.{Map, put, move, write_all}
use Rattle.fs_laws.specs.Placed.{Aside}
use Rattle.fs_laws.proofs.trees.Prefixes.{prefix_append, prefix_some}
use Rattle.fs_laws.proofs.trees.Commuting.{put_other, move_to, move_gone, move_else}
use Rattle.fs_laws.proofs.helping.FinishPassesPlaced.{prefix_before, child_cases}
use Rattle.fs_laws.proofs.graphs.Walks.{prefix_shorter}
use Rattle.fs_laws.proofs.graphs.Listings.{has_with, with_else, has_without, without_else}
use Rattle.fs_laws.proofs.trees.SeenAsMaps.{Rising, rising_names, rising_with, rising_without, ShowsAt, seen_by, old_has, shows_same}
use Rattle.fs_laws.proofs.trees.ChangesAsMaps.{put_here, SameKey, Same, Other, same_or, SameName, Equals, Differs, same_name_or, child_of, names_seen, passes}

-- what is known of a rename that moves
pub record Moved (t new : Tree) (d : Key) (x : Name) (e : Key) (y : Name) : Type 0 where
  pub is : IsTree t
  pub is_new : IsTree new
  pub moved : IsMoved t new (d ++ x ∷ []) (e ++ y ∷ [])
  pub aside : Aside (d ++ x ∷ []) (e ++ y ∷ [])
  pub from_dir : look t d ≡ Some trees.Dir
  pub to_dir : look t e ≡ Some trees.Dir
  pub there : is_some (look t (d ++ x ∷ [])) ≡ true

itself : (a : Key) → after_prefix a a ≡ Some []
itself a = ap (after_prefix a) (sym (append-nil a)) ∙ prefix_append a []

-- an entry of a directory that does not begin with a key begins with it where it is it
child_off : (p k : Key) (z : Name) → after_prefix p k ≡ None → (k ++ z ∷ [] ≡ p → ⊥) → after_prefix p (k ++ z ∷ []) ≡ None
child_off p k z off differs = go (child_cases p k z off)
  where
    go : (after_prefix p (k ++ z ∷ []) ≡ None) ⊎ (p ≡ k ++ z ∷ []) → after_prefix p (k ++ z ∷ []) ≡ None
    go (inl h) = h
    go (inr h) = absurd (differs (sym h))

pub seen_moved : (t new : Tree) (d : Key) (x : Name) (e : Key) (y : Name) → Moved t new d x e y → (k : Key)
    → tree_shapes new k ≡ move (d ++ x ∷ []) (e ++ y ∷ []) (write_all (rename_writes (is_end (after_prefix d e)) d (names_of (tree_shapes t d)) x e (names_of (tree_shapes t e)) y) (tree_shapes t)) k
seen_moved t new d x e y f = seen_by new (move (d ++ x ∷ []) (e ++ y ∷ []) (write_all (rename_writes (is_end (after_prefix d e)) d (names_of (tree_shapes t d)) x e (names_of (tree_shapes t e)) y) (tree_shapes t))) (true_T f.is_new.sorted) (λ k. below k (after_prefix (e ++ y ∷ []) k) (after_prefix (d ++ x ∷ []) k) refl refl)
  where
    p : Key
    p = d ++ x ∷ []

    q : Key
    q = e ++ y ∷ []

    written : Map Shape
    written = write_all (rename_writes (is_end (after_prefix d e)) d (names_of (tree_shapes t d)) x e (names_of (tree_shapes t e)) y) (tree_shapes t)

    d_off_p : after_prefix (d ++ x ∷ []) d ≡ None
    d_off_p = prefix_shorter d x

    e_off_q : after_prefix (e ++ y ∷ []) e ≡ None
    e_off_q = prefix_shorter e y

    d_off_q : after_prefix (e ++ y ∷ []) d ≡ None
    d_off_q = prefix_before (e ++ y ∷ []) d (x ∷ []) f.aside.1

    e_off_p : after_prefix (d ++ x ∷ []) e ≡ None
    e_off_p = prefix_before (d ++ x ∷ []) e (y ∷ []) f.aside.0

    -- a key that is no parent keeps its names
    write_else : (b : Bool) (k : Key) → (k ≡ d → ⊥) → (k ≡ e → ⊥) → write_all (rename_writes b d (names_of (tree_shapes t d)) x e (names_of (tree_shapes t e)) y) (tree_shapes t) k ≡ tree_shapes t k
    write_else true k nd ne = put_other d (Some (Dir (inserted_name y (removed_name x (names_of (tree_shapes t d)))))) (tree_shapes t) k nd
    write_else false k nd ne = put_other e (Some (Dir (inserted_name y (names_of (tree_shapes t e))))) (put d (Some (Dir (removed_name x (names_of (tree_shapes t d))))) (tree_shapes t)) k ne ∙ put_other d (Some (Dir (removed_name x (names_of (tree_shapes t d))))) (tree_shapes t) k nd

    differs_below : (k a b : Key) → after_prefix k a ≡ Some b → (c : Key) → after_prefix k c ≡ None → a ≡ c → ⊥
    differs_below k a b i c off j = let z : ◌≡◌ {A = Option Key} (Some b) None = sym i ∙ ap (after_prefix k) j ∙ off in cc

    not_name : (k : Key) (z w : Name) → (z ≡ w → ⊥) → k ++ z ∷ [] ≡ k ++ w ∷ [] → ⊥
    not_name k z w n i = n (child_of k k z w i).1

    same_else : (k : Key) → after_prefix (d ++ x ∷ []) k ≡ None → after_prefix (e ++ y ∷ []) k ≡ None → look new k ≡ look t k
    same_else k a b = f.moved.others k a b

    arrived_here : is_some (look new (e ++ y ∷ [])) ≡ true
    arrived_here = ap (λ (k : Key). is_some (look new k)) (sym (append-nil (e ++ y ∷ []))) ∙ ap is_some (f.moved.arrived []) ∙ ap (λ (k : Key). is_some (look t k)) (append-nil (d ++ x ∷ [])) ∙ f.there

    gone_here : is_some (look new (d ++ x ∷ [])) ≡ false
    gone_here = ap (λ (k : Key). is_some (look new k)) (sym (append-nil (d ++ x ∷ []))) ∙ ap is_some (f.moved.gone [])

    -- the names of the one directory
    has_both : d ≡ e → (z : Name) → has_name z (inserted_name y (removed_name x (names_in t d))) ≡ is_some (look new (d ++ z ∷ []))
    has_both same z = by (same_name_or z y) (same_name_or z x)
      where
        by : SameName z y → SameName z x → has_name z (inserted_name y (removed_name x (names_in t d))) ≡ is_some (look new (d ++ z ∷ []))
        by (Equals i) r = ap (λ (n : Name). has_name n (inserted_name y (removed_name x (names_in t d)))) i ∙ has_with y (removed_name x (names_in t d)) ∙ sym (ap₂ (λ (k : Key) (n : Name). is_some (look new (k ++ n ∷ []))) same i ∙ arrived_here)
        by (Differs i n) (Equals j) = with_else y z (removed_name x (names_in t d)) i ∙ ap (λ (m : Name). has_name m (removed_name x (names_in t d))) j ∙ has_without x (names_in t d) ∙ sym (ap (λ (m : Name). is_some (look new (d ++ m ∷ []))) j ∙ gone_here)
        by (Differs i n) (Differs j m) =
            with_else y z (removed_name x (names_in t d)) i ∙ without_else x z (names_in t d) j ∙ old_has t d z
            ∙ sym (ap is_some (same_else (d ++ z ∷ []) (child_off (d ++ x ∷ []) d z d_off_p (not_name d z x m)) (child_off (e ++ y ∷ []) d z d_off_q (λ h. n (child_of d e z y h).1))))

    has_less : (d ≡ e → ⊥) → (z : Name) → has_name z (removed_name x (names_in t d)) ≡ is_some (look new (d ++ z ∷ []))
    has_less other z = by (same_name_or z x)
      where
        by : SameName z x → has_name z (removed_name x (names_in t d)) ≡ is_some (look new (d ++ z ∷ []))
        by (Equals j) = ap (λ (m : Name). has_name m (removed_name x (names_in t d))) j ∙ has_without x (names_in t d) ∙ sym (ap (λ (m : Name). is_some (look new (d ++ m ∷ []))) j ∙ gone_here)
        by (Differs j m) =
            without_else x z (names_in t d) j ∙ old_has t d z
            ∙ sym (ap is_some (same_else (d ++ z ∷ []) (child_off (d ++ x ∷ []) d z d_off_p (not_name d z x m)) (child_off (e ++ y ∷ []) d z d_off_q (λ h. other (child_of d e z y h).0))))

    has_more : (d ≡ e → ⊥) → (z : Name) → has_name z (inserted_name y (names_in t e)) ≡ is_some (look new (e ++ z ∷ []))
    has_more other z = by (same_name_or z y)
      where
        by : SameName z y → has_name z (inserted_name y (names_in t e)) ≡ is_some (look new (e ++ z ∷ []))
        by (Equals i) = ap (λ (n : Name). has_name n (inserted_name y (names_in t e))) i ∙ has_with y (names_in t e) ∙ sym (ap (λ (n : Name). is_some (look new (e ++ n ∷ []))) i ∙ arrived_here)
        by (Differs i n) =
            with_else y z (names_in t e) i ∙ old_has t e z
            ∙ sym (ap is_some (same_else (e ++ z ∷ []) (child_off (d ++ x ∷ []) e z e_off_p (λ h. other (sym (child_of e d z x h).0))) (child_off (e ++ y ∷ []) e z e_off_q (not_name e z y n))))

    ends_same : (b : Bool) → is_end (after_prefix d e) ≡ b → (o : Option Key) → after_prefix d e ≡ o → (b ≡ true → d ≡ e) × (b ≡ false → d ≡ e → ⊥)
    ends_same b i None j = ((λ h. (let z : false ≡ true = sym (ap is_end j) ∙ i ∙ h in cc)), (λ h k. (let z : ◌≡◌ {A = Option Key} None (Some []) = sym j ∙ ap (after_prefix d) (sym k) ∙ itself d in cc)))
    ends_same b i (Some []) j = ((λ h. sym (prefix_some d e [] j ∙ append-nil d)), (λ h k. (let z : true ≡ false = sym (ap is_end j) ∙ i ∙ h in cc)))
    ends_same b i (Some (n ∷ r)) j = ((λ h. (let z : false ≡ true = sym (ap is_end j) ∙ i ∙ h in cc)), (λ h k. (let z : ◌≡◌ {A = Option Key} (Some (n ∷ r)) (Some []) = sym j ∙ ap (after_prefix d) (sym k) ∙ itself d in cc)))

    -- at a parent
    dir_at : (k : Key) (names : List Name) → look new k ≡ Some trees.Dir → Rising names → ((z : Name) → has_name z names ≡ is_some (look new (k ++ z ∷ []))) → (s : Option Shape) → s ≡ Some (Dir names) → ShowsAt new k (look new k) s
    dir_at k names l r h s i = subst (ShowsAt new k (look new k)) (sym i) (subst (λ (o : Option Node). ShowsAt new k o (Some (Dir names))) (sym l) (r, h))

    new_d : look new d ≡ Some trees.Dir
    new_d = same_else d d_off_p d_off_q ∙ f.from_dir

    new_e : look new e ≡ Some trees.Dir
    new_e = same_else e e_off_p e_off_q ∙ f.to_dir

    at_d : (b : Bool) → is_end (after_prefix d e) ≡ b → ShowsAt new d (look new d) (write_all (rename_writes b d (names_of (tree_shapes t d)) x e (names_of (tree_shapes t e)) y) (tree_shapes t) d)
    at_d true i =
        dir_at d (inserted_name y (removed_name x (names_in t d))) new_d (rising_with y (removed_name x (names_in t d)) (rising_without x (names_in t d) (rising_names t d (true_T f.is.sorted)))) (has_both ((ends_same true i (after_prefix d e) refl).0 refl))
        (put d (Some (Dir (inserted_name y (removed_name x (names_of (tree_shapes t d)))))) (tree_shapes t) d)
        (put_here d (Some (Dir (inserted_name y (removed_name x (names_of (tree_shapes t d)))))) (tree_shapes t) ∙ ap (λ (ns : List Name). Some (Dir (inserted_name y (removed_name x ns)))) (names_seen t d f.from_dir))
    at_d false i =
        dir_at d (removed_name x (names_in t d)) new_d (rising_without x (names_in t d) (rising_names t d (true_T f.is.sorted))) (has_less ((ends_same false i (after_prefix d e) refl).1 refl))
        (put e (Some (Dir (inserted_name y (names_of (tree_shapes t e))))) (put d (Some (Dir (removed_name x (names_of (tree_shapes t d))))) (tree_shapes t)) d)
        (put_other e (Some (Dir (inserted_name y (names_of (tree_shapes t e))))) (put d (Some (Dir (removed_name x (names_of (tree_shapes t d))))) (tree_shapes t)) d ((ends_same false i (after_prefix d e) refl).1 refl)
        ∙ put_here d (Some (Dir (removed_name x (names_of (tree_shapes t d))))) (tree_shapes t) ∙ ap (λ (ns : List Name). Some (Dir (removed_name x ns))) (names_seen t d f.from_dir))

    at_e : (b : Bool) → is_end (after_prefix d e) ≡ b → (e ≡ d → ⊥) → ShowsAt new e (look new e) (write_all (rename_writes b d (names_of (tree_shapes t d)) x e (names_of (tree_shapes t e)) y) (tree_shapes t) e)
    at_e true i other = absurd (other (sym ((ends_same true i (after_prefix d e) refl).0 refl)))
    at_e false i other =
        dir_at e (inserted_name y (names_in t e)) new_e (rising_with y (names_in t e) (rising_names t e (true_T f.is.sorted))) (has_more (λ j. other (sym j)))
        (put e (Some (Dir (inserted_name y (names_of (tree_shapes t e))))) (put d (Some (Dir (removed_name x (names_of (tree_shapes t d))))) (tree_shapes t)) e)
        (put_here e (Some (Dir (inserted_name y (names_of (tree_shapes t e))))) (put d (Some (Dir (removed_name x (names_of (tree_shapes t d))))) (tree_shapes t)) ∙ ap (λ (ns : List Name). Some (Dir (inserted_name y ns))) (names_seen t e f.to_dir))

    at_else : (k : Key) → after_prefix (e ++ y ∷ []) k ≡ None → after_prefix (d ++ x ∷ []) k ≡ None → SameKey k d → SameKey k e → ShowsAt new k (look new k) (write_all (rename_writes (is_end (after_prefix d e)) d (names_of (tree_shapes t d)) x e (names_of (tree_shapes t e)) y) (tree_shapes t) k)
    at_else k a b (Same i j) r = subst (λ (l : Key). ShowsAt new l (look new l) (write_all (rename_writes (is_end (after_prefix d e)) d (names_of (tree_shapes t d)) x e (names_of (tree_shapes t e)) y) (tree_shapes t) l)) (sym i) (at_d (is_end (after_prefix d e)) refl)
    at_else k a b (Other n j) (Same i h) = subst (λ (l : Key). ShowsAt new l (look new l) (write_all (rename_writes (is_end (after_prefix d e)) d (names_of (tree_shapes t d)) x e (names_of (tree_shapes t e)) y) (tree_shapes t) l)) (sym i) (at_e (is_end (after_prefix d e)) refl (λ m. n (i ∙ m)))
    at_else k a b (Other n j) (Other m h) = passes t new (write_all (rename_writes (is_end (after_prefix d e)) d (names_of (tree_shapes t d)) x e (names_of (tree_shapes t e)) y) (tree_shapes t)) k (true_T f.is.sorted) (same_else k b a) (write_else (is_end (after_prefix d e)) k n m)
        (λ z. ap is_some (same_else (k ++ z ∷ []) (child_off (d ++ x ∷ []) k z b (λ i. n (child_of k d z x i).0)) (child_off (e ++ y ∷ []) k z a (λ i. m (child_of k e z y i).0))))

    below : (k : Key) (a b : Option Key) → after_prefix (e ++ y ∷ []) k ≡ a → after_prefix (d ++ x ∷ []) k ≡ b → ShowsAt new k (look new k) (move (d ++ x ∷ []) (e ++ y ∷ []) (write_all (rename_writes (is_end (after_prefix d e)) d (names_of (tree_shapes t d)) x e (names_of (tree_shapes t e)) y) (tree_shapes t)) k)
    below k (Some r) b i j = subst (λ (l : Key). ShowsAt new l (look new l) (move (d ++ x ∷ []) (e ++ y ∷ []) (write_all (rename_writes (is_end (after_prefix d e)) d (names_of (tree_shapes t d)) x e (names_of (tree_shapes t e)) y) (tree_shapes t)) l)) (sym (prefix_some (e ++ y ∷ []) k r i))
        (subst (ShowsAt new ((e ++ y ∷ []) ++ r) (look new ((e ++ y ∷ []) ++ r))) (sym (move_to (d ++ x ∷ []) (e ++ y ∷ []) (write_all (rename_writes (is_end (after_prefix d e)) d (names_of (tree_shapes t d)) x e (names_of (tree_shapes t e)) y) (tree_shapes t)) r
        ∙ write_else (is_end (after_prefix d e)) ((d ++ x ∷ []) ++ r) (differs_below (d ++ x ∷ []) ((d ++ x ∷ []) ++ r) r (prefix_append (d ++ x ∷ []) r) d d_off_p) (differs_below (d ++ x ∷ []) ((d ++ x ∷ []) ++ r) r (prefix_append (d ++ x ∷ []) r) e e_off_p)))
        (subst (λ (o : Option Node). ShowsAt new ((e ++ y ∷ []) ++ r) o (tree_shapes t ((d ++ x ∷ []) ++ r))) (sym (f.moved.arrived r))
        (shows_same t new ((d ++ x ∷ []) ++ r) ((e ++ y ∷ []) ++ r) (look t ((d ++ x ∷ []) ++ r)) (true_T f.is.sorted)
        (λ z. ap (λ (l : Key). is_some (look new l)) (append_assoc (e ++ y ∷ []) r (z ∷ [])) ∙ ap is_some (f.moved.arrived (r ++ z ∷ [])) ∙ ap (λ (l : Key). is_some (look t l)) (sym (append_assoc (d ++ x ∷ []) r (z ∷ [])))))))
    below k None (Some r) i j =
        subst (ShowsAt new k (look new k)) (sym (move_gone (d ++ x ∷ []) (e ++ y ∷ []) (write_all (rename_writes (is_end (after_prefix d e)) d (names_of (tree_shapes t d)) x e (names_of (tree_shapes t e)) y) (tree_shapes t)) k r i j))
        (subst (λ (o : Option Node). ShowsAt new k o None) (sym (ap (look new) (prefix_some (d ++ x ∷ []) k r j) ∙ f.moved.gone r)) tt)
    below k None None i j =
        subst (ShowsAt new k (look new k)) (sym (move_else (d ++ x ∷ []) (e ++ y ∷ []) (write_all (rename_writes (is_end (after_prefix d e)) d (names_of (tree_shapes t d)) x e (names_of (tree_shapes t e)) y) (tree_shapes t)) k i j))
        (at_else k i j (same_or k d) (same_or k e))
