-- The edits of places by which a node is renamed.
use Rattle.std.proofs.Common.{◌≡◌, ◌≢◌, ℕ, Bool, true, false, cond, not, List, [], ◌∷◌, ◌++◌, length, set, Some, None, Option, is_some, refl, sym, ap, ◌∙◌, arith, nat_eq, IsTrue, T, length-append}
use Rattle.std.specs.FinMap.{find, put, is_sorted}
use Rattle.std.specs.FinMap.Entries.{find-put, is_sorted-put, find-where_key, is_sorted-where_key, same_entries}
use Rattle.std.specs.Cmp.{eq_by_cmp_equiv}
use Rattle.std.proofs.lemmas.List.{get_or-set_same, get_or-set_other}
use Rattle.std.proofs.lemmas.Float.{T_from_true}
use Rattle.fs_names.specs.Names.{Name, name_cmp, same_name}
use Rattle.fs_names.specs.Keys.{Key, after_prefix, is_root, parent_of, last_of}
use Rattle.fs_names.proofs.Lemmas.{name_total, name_exact, same_name_exact}
use Rattle.fs_calls.specs.Tree.{Dir as IsDir, look, renamed}
use Rattle.fs_seq_nodes.specs.code.Slots.{Place, Dir, Slots, place_at, links_of, node_of, links_at, child, walk, node_at, tree_of, IsForest, Sets}
use Rattle.fs_seq_nodes.specs.code.Nodes.{without}
use Rattle.fs_calls.proofs.KeyLemmas.{no_true, parent_and_last, after_prefix-front}
use Rattle.fs_seq_nodes.proofs.GraphLemmas.{place_below}
use Rattle.fs_seq_nodes.proofs.Edits.{Unlinks, Links, nat_same, nat_differ}
use Rattle.fs_seq_nodes.proofs.Resolving.{walk_on, look_some, child-find}
use Rattle.fs_calls.proofs.FaultLemmas.{Renames}
use Rattle.fs_seq.proofs.Moving.{Relinks, reached_before, forest_moved, tree_moved}

-- ---- links

-- sameness of names has no direction
names_symm : (x y : Name) → same_name x y ≡ same_name y x
names_symm x y = (eq_by_cmp_equiv name_total).symm x y

-- names that differ are not the same
pub other_name : (x y : Name) → x ≢ y → same_name x y ≡ false
other_name x y h = no_true (same_name x y) (λ same. h (same_name_exact x y same))

-- a choice by a negated test is the other choice
turned : {A : Type 0} (b : Bool) (x y : A) → cond (not b) x y ≡ cond b y x
turned true x y = refl
turned false x y = refl

-- without a name, that name is not found, and the others as before
pub find-without : (x y : Name) (links : List (Name × ℕ)) → find name_cmp y (without x links) ≡ cond (same_name x y) None (find name_cmp y links)
find-without x y links =
    find-where_key name_cmp (λ z. not (same_name x z)) y (λ z e. ap (λ w. not (same_name x w)) (sym (name_exact y z e))) links
    ∙ turned (same_name x y) (find name_cmp y links) None

-- a name that is put is found, and the others as before
pub find-put_link : (x y : Name) (s : ℕ) (links : List (Name × ℕ)) → find name_cmp y (put name_cmp x s links) ≡ cond (same_name x y) (Some s) (find name_cmp y links)
find-put_link x y s links = find-put name_cmp name_total y x s links ∙ ap (λ b. cond b (Some s) (find name_cmp y links)) (names_symm y x)

-- what holds is true
true_from_T : (b : Bool) → T b → b ≡ true
true_from_T true h = refl
true_from_T false h = absurd h

-- rising links rise when one is put among them
pub rising-put : (x : Name) (s : ℕ) (links : List (Name × ℕ)) → IsTrue (is_sorted name_cmp links) → IsTrue (is_sorted name_cmp (put name_cmp x s links))
rising-put x s links h = true_from_T _ (is_sorted-put name_cmp name_total x s links (T_from_true _ h))

-- and when one is taken out
pub rising-without : (x : Name) (links : List (Name × ℕ)) → IsTrue (is_sorted name_cmp links) → IsTrue (is_sorted name_cmp (without x links))
rising-without x links h = true_from_T _ (is_sorted-where_key name_cmp (λ y. not (same_name x y)) links (T_from_true _ h))

-- two tests that never both hold can be asked in either order
swapped : (a b : Bool) (m n : Option ℕ) (rest : Option ℕ) → (a ≡ true → b ≡ true → ⊥) → cond a m (cond b n rest) ≡ cond b n (cond a m rest)
swapped true true m n rest apart = absurd (apart refl refl)
swapped true false m n rest apart = refl
swapped false true m n rest apart = refl
swapped false false m n rest apart = refl

-- a name goes and another comes in either order
pub without-put : (x z : Name) (s : ℕ) (links : List (Name × ℕ)) → x ≢ z → IsTrue (is_sorted name_cmp links) → without x (put name_cmp z s links) ≡ put name_cmp z s (without x links)
without-put x z s links apart rising =
    same_entries name_cmp name_total name_exact (without x (put name_cmp z s links)) (put name_cmp z s (without x links))
    (T_from_true _ (rising-without x (put name_cmp z s links) (rising-put z s links rising)))
    (T_from_true _ (rising-put z s (without x links) (rising-without x links rising)))
    (λ y.
    find-without x y (put name_cmp z s links)
    ∙ ap (cond (same_name x y) None) (find-put_link z y s links)
    ∙ swapped (same_name x y) (same_name z y) None (Some s) (find name_cmp y links) (λ a b. apart (same_name_exact x y a ∙ sym (same_name_exact z y b)))
    ∙ sym (find-put_link z y s (without x links) ∙ ap (cond (same_name z y) (Some s)) (find-without x y links)))

-- in one directory, the last names of two paths differ
pub other_last : (g : Slots) → IsForest g → (p q : Key) → is_root p ≡ false → is_root q ≡ false → p ≢ q → (dir : ℕ) → walk g (parent_of p) ≡ Some dir → walk g (parent_of q) ≡ Some dir → last_of p ≢ last_of q
other_last g forest p q named other_named differ dir from to same =
    let parents : parent_of p ≡ parent_of q = forest.once (parent_of p) (parent_of q) dir from to in
    differ (parent_and_last p named ∙ (λ i. parents i ++ same i ∷ []) ∙ sym (parent_and_last q other_named))

-- ---- places

-- the graph without a name of a directory
pub unlinked : Slots → ℕ → Name → Slots
unlinked g n x = set g n (Some (Dir (without x (links_at g n))))

-- the directory without the name
unlinked_here : (g : Slots) (n : ℕ) (x : Name) → is_some (place_at g n) ≡ true → place_at (unlinked g n x) n ≡ Some (Dir (without x (links_at g n)))
unfolding unlinked place_at
unlinked_here g n x there = get_or-set_same g n (Some (Dir (without x (links_at g n)))) None (place_below g n there)

-- all other places are as before
unlinked_elsewhere : (g : Slots) (n : ℕ) (x : Name) (j : ℕ) → j ≢ n → place_at (unlinked g n x) j ≡ place_at g j
unfolding unlinked place_at
unlinked_elsewhere g n x j other = get_or-set_other g n j (Some (Dir (without x (links_at g n)))) None other

-- a child is found among the links of its place
pub child_of : (g : Slots) (n : ℕ) (y : Name) (o : Option Place) → place_at g n ≡ o → child g n y ≡ find name_cmp y (links_of o)
child_of g n y o e = child-find g n y ∙ ap (λ z. find name_cmp y (links_of z)) e

-- the same places have the same children
pub same_child : (g h : Slots) (n : ℕ) (y : Name) → place_at g n ≡ place_at h n → child g n y ≡ child h n y
same_child g h n y e = child_of g n y (place_at h n) e ∙ sym (child-find h n y)

-- a graph without a name is without it
pub unlinked_unlinks : (g : Slots) (n : ℕ) (x : Name) → is_some (place_at g n) ≡ true → Unlinks g (unlinked g n x) n x
unlinked_unlinks g n x there = record {
  here = λ y. child_of (unlinked g n x) n y _ (unlinked_here g n x there) ∙ find-without x y (links_at g n) ∙ ap (cond (same_name x y) None) (sym (child-find g n y));
  elsewhere = λ j y other. same_child (unlinked g n x) g j y (unlinked_elsewhere g n x j other);
}

-- a name leaves one directory, and another is put into a second one
pub record Crosses (g g' : Slots) (n : ℕ) (x : Name) (m : ℕ) (z : Name) (s : ℕ) : Type 0 where
  pub apart : n ≢ m
  pub old : place_at g' n ≡ Some (Dir (without x (links_at g n)))
  pub new : place_at g' m ≡ Some (Dir (put name_cmp z s (links_at g m)))
  pub others : (j : ℕ) → j ≢ n → j ≢ m → place_at g' j ≡ place_at g j

-- a name leaves a directory, and another is put into it
abbrev pub Turns : Slots → Slots → ℕ → Name → Name → ℕ → Type 0
Turns g g' n x z s = Sets g g' n (Some (Dir (put name_cmp z s (without x (links_at g n)))))

-- what both of them do: the name leads to the node, all directories stay, and their names rise
pub record Rewires (g g' : Slots) (n : ℕ) (x : Name) (m : ℕ) (z : Name) (s : ℕ) : Type 0 where
  pub links : Links (unlinked g n x) g' m z s
  pub rising : (j : ℕ) → IsTrue (is_sorted name_cmp (links_at g' j))
  pub kept : (j : ℕ) → node_at g' j ≡ node_at g j

-- a number is this one or another
pub which : (j n : ℕ) (P : Type 0) → (j ≡ n → P) → (j ≢ n → P) → P
which j n P same other = elim (nat_eq j n) as (λ b. nat_eq j n ≡ b → P) [ true ↦ λ e. same (nat_same j n e) | false ↦ λ e. other (nat_differ j n e) ] refl

module _ (g g' : Slots) (rising : (j : ℕ) → IsTrue (is_sorted name_cmp (links_at g j))) (n : ℕ) (x : Name) (m : ℕ) (z : Name) (s : ℕ)
    (from : node_at g n ≡ Some IsDir) (there : is_some (place_at g n) ≡ true) (to : node_at g m ≡ Some IsDir) where
  -- what holds of a place holds of one that is the same
  rising_like : (j k : ℕ) (o : Option Place) → j ≡ k → place_at g' k ≡ o → IsTrue (is_sorted name_cmp (links_of o)) → IsTrue (is_sorted name_cmp (links_at g' j))
  rising_like j k o at e h = ap (λ i. is_sorted name_cmp (links_at g' i)) at ∙ ap (λ z. is_sorted name_cmp (links_of z)) e ∙ h

  -- a directory that stays one
  kept_like : (j k : ℕ) (links : List (Name × ℕ)) → j ≡ k → place_at g' k ≡ Some (Dir links) → node_at g k ≡ Some IsDir → node_at g' j ≡ node_at g j
  kept_like j k links at e dir = ap (node_at g') at ∙ ap node_of e ∙ sym dir ∙ sym (ap (node_at g) at)

  -- a name that goes from one directory to another
  pub crossed : Crosses g g' n x m z s → Rewires g g' n x m z s
  crossed edit = record {
    links = record {
      here = λ y.
          child_of g' m y _ edit.new ∙ find-put_link z y s (links_at g m)
          ∙ ap (cond (same_name z y) (Some s)) (sym (child-find g m y) ∙ sym (same_child (unlinked g n x) g m y (unlinked_elsewhere g n x m (λ e. edit.apart (sym e)))));
      elsewhere = λ j y other. same_child g' (unlinked g n x) j y (places j other);
    };
    rising = λ j. which j n (IsTrue (is_sorted name_cmp (links_at g' j)))
        (λ at. rising_like j n _ at edit.old (rising-without x (links_at g n) (rising n)))
        (λ not_n. which j m (IsTrue (is_sorted name_cmp (links_at g' j)))
        (λ at. rising_like j m _ at edit.new (rising-put z s (links_at g m) (rising m)))
        (λ not_m. rising_like j j _ refl (edit.others j not_n not_m) (rising j)));
    kept = λ j. which j n (node_at g' j ≡ node_at g j)
        (λ at. kept_like j n _ at edit.old from)
        (λ not_n. which j m (node_at g' j ≡ node_at g j) (λ at. kept_like j m _ at edit.new to) (λ not_m. ap node_of (edit.others j not_n not_m)));
  }
    where
      places : (j : ℕ) → j ≢ m → place_at g' j ≡ place_at (unlinked g n x) j
      places j other = which j n (place_at g' j ≡ place_at (unlinked g n x) j)
          (λ at. ap (place_at g') at ∙ edit.old ∙ sym (unlinked_here g n x there) ∙ sym (ap (place_at (unlinked g n x)) at))
          (λ not_n. edit.others j not_n other ∙ sym (unlinked_elsewhere g n x j not_n))

module _ (g g' : Slots) (rising : (j : ℕ) → IsTrue (is_sorted name_cmp (links_at g j))) (n : ℕ) (x z : Name) (s : ℕ) (from : node_at g n ≡ Some IsDir) (there : is_some (place_at g n) ≡ true) where
  -- a name that becomes another in its directory
  pub turned_in : Turns g g' n x z s → Rewires g g' n x n z s
  turned_in edit = record {
    links = record {
      here = λ y.
          child_of g' n y _ edit.here ∙ find-put_link z y s (without x (links_at g n))
          ∙ ap (cond (same_name z y) (Some s)) (sym (child_of (unlinked g n x) n y _ (unlinked_here g n x there)));
      elsewhere = λ j y other. same_child g' (unlinked g n x) j y (edit.elsewhere j other ∙ sym (unlinked_elsewhere g n x j other));
    };
    rising = λ j. which j n (IsTrue (is_sorted name_cmp (links_at g' j)))
        (λ at. rising_like g g' rising n x n z s from there from j n _ at edit.here (rising-put z s (without x (links_at g n)) (rising-without x (links_at g n) (rising n))))
        (λ other. rising_like g g' rising n x n z s from there from j j _ refl (edit.elsewhere j other) (rising j));
    kept = λ j. which j n (node_at g' j ≡ node_at g j)
        (λ at. kept_like g g' rising n x n z s from there from j n _ at edit.here from)
        (λ other. ap node_of (edit.elsewhere j other));
  }

-- ---- renames

module _ (g : Slots) (forest : IsForest g) (p q : Key) (n s m : ℕ) (may : Renames (tree_of g) p q)
    (from : walk g (parent_of p) ≡ Some n) (leads : child g n (last_of p) ≡ Some s) (to : walk g (parent_of q) ≡ Some m) where
  -- the old path is its parent and its last name
  old_key : p ≡ parent_of p ++ last_of p ∷ []
  old_key = parent_and_last p may.named

  -- the new path is its parent and its last name
  new_key : q ≡ parent_of q ++ last_of q ∷ []
  new_key = parent_and_last q may.new_named

  -- the edits are those of a link that leads elsewhere
  relinks : (g' : Slots) → Links (unlinked g n (last_of p)) g' m (last_of q) s → Relinks g (unlinked g n (last_of p)) g' (parent_of p) n (last_of p) s (parent_of q) m (last_of q)
  relinks g' adds = record {
    from = from;
    moves = walk_on g (parent_of p) n (last_of p) s from leads;
    to = to;
    beside = after_prefix-front (parent_of p ++ last_of p ∷ []) (parent_of q) (last_of q) apart;
    apart = apart;
    removes = unlinked_unlinks g n (last_of p) (forest.inside (parent_of p) n from);
    adds = adds;
  }
    where
      apart : after_prefix (parent_of p ++ last_of p ∷ []) (parent_of q ++ last_of q ∷ []) ≡ None
      apart = (λ i. after_prefix (sym old_key i) (sym new_key i)) ∙ may.beside

  -- the tree after the edits, where the nodes that are reached are kept
  pub renamed_by : (g' : Slots) → Links (unlinked g n (last_of p)) g' m (last_of q) s → ((j : ℕ) → IsTrue (is_sorted name_cmp (links_at g' j))) → ((k : Key) (j : ℕ) → walk g' k ≡ Some j → node_at g' j ≡ node_at g j)
      → IsForest g' × (tree_of g' ≡ renamed (tree_of g) p q)
  renamed_by g' adds rising kept =
      let edits = relinks g' adds in
      let whole = forest_moved g (unlinked g n (last_of p)) g' forest (parent_of p) n (last_of p) s (parent_of q) m (last_of q) edits kept rising in (
        whole,
        tree_moved g (unlinked g n (last_of p)) g' forest (parent_of p) n (last_of p) s (parent_of q) m (last_of q) edits kept whole (λ y r. ap (λ k. look (tree_of g) (k ++ y ∷ r)) (sym new_key) ∙ may.bare y r)
            ∙ (λ i. renamed (tree_of g) (sym old_key i) (sym new_key i)),
      )

  -- where nothing stood at the new path
  pub renamed_free : (g' : Slots) → Rewires g g' n (last_of p) m (last_of q) s → IsForest g' × (tree_of g' ≡ renamed (tree_of g) p q)
  renamed_free g' edit = renamed_by g' edit.links edit.rising (λ k j w. edit.kept j)

  -- the place of the node that stood at the new path is given back
  pub renamed_onto : (g' g'' : Slots) (v : ℕ) → child g m (last_of q) ≡ Some v → Rewires g g' n (last_of p) m (last_of q) s → Sets g' g'' v None → IsForest g'' × (tree_of g'' ≡ renamed (tree_of g) p q)
  renamed_onto g' g'' v old edit gone = renamed_by g'' links rising kept
    where
      at_q : walk g (parent_of q ++ last_of q ∷ []) ≡ Some v
      at_q = walk_on g (parent_of q) m (last_of q) v to old

      none_by : (y : Name) (o : Option ℕ) → child g v y ≡ o → o ≡ None
      none_by y None e = refl
      none_by y (Some j) e =
          let below : walk g (q ++ y ∷ []) ≡ Some j = walk_on g q v y j (ap (walk g) new_key ∙ at_q) e in
          let some : is_some (look (tree_of g) (q ++ y ∷ [])) ≡ true = look_some g (q ++ y ∷ []) j forest below in
          let none : is_some (look (tree_of g) (q ++ y ∷ [])) ≡ false = ap is_some (may.bare y []) in
          absurd (cc)

      bare : (y : Name) → child g v y ≡ None
      bare y = none_by y (child g v y) refl

      not_parent : v ≢ n
      not_parent e = let none : child g n (last_of p) ≡ None = ap (λ i. child g i (last_of p)) (sym e) ∙ bare (last_of p) in absurd (cc)

      not_new_parent : m ≢ v
      not_new_parent e =
          let same : parent_of q ≡ parent_of q ++ last_of q ∷ [] = forest.once (parent_of q) (parent_of q ++ last_of q ∷ []) v (to ∙ ap Some e) at_q in
          let longer = ap length same in
          omega (arith, longer, length-append (parent_of q) (last_of q ∷ []))

      links : Links (unlinked g n (last_of p)) g'' m (last_of q) s
      links = record {
        here = λ y. same_child g'' g' m y (gone.elsewhere m not_new_parent) ∙ edit.links.here y;
        elsewhere = λ j y other. which j v (child g'' j y ≡ child (unlinked g n (last_of p)) j y)
            (λ at.
            ap (λ i. child g'' i y) at ∙ child_of g'' v y None gone.here
            ∙ sym (bare y) ∙ sym (same_child (unlinked g n (last_of p)) g v y (unlinked_elsewhere g n (last_of p) v not_parent))
            ∙ sym (ap (λ i. child (unlinked g n (last_of p)) i y) at))
            (λ not_v. same_child g'' g' j y (gone.elsewhere j not_v) ∙ edit.links.elsewhere j y other);
      }

      rising : (j : ℕ) → IsTrue (is_sorted name_cmp (links_at g'' j))
      rising j = which j v (IsTrue (is_sorted name_cmp (links_at g'' j)))
          (λ at. ap (λ i. is_sorted name_cmp (links_at g'' i)) at ∙ ap (λ o. is_sorted name_cmp (links_of o)) gone.here)
          (λ not_v. ap (λ o. is_sorted name_cmp (links_of o)) (gone.elsewhere j not_v) ∙ edit.rising j)

      kept : (k : Key) (j : ℕ) → walk g'' k ≡ Some j → node_at g'' j ≡ node_at g j
      kept k j w =
          let before = reached_before g (unlinked g n (last_of p)) g'' forest (parent_of p) n (last_of p) s (parent_of q) m (last_of q) (relinks g'' links) k j w in
          ap node_of (gone.elsewhere j (λ at. before.2 (forest.once before.0 (parent_of q ++ last_of q ∷ []) v (before.1 ∙ ap Some at) at_q))) ∙ edit.kept j

-- what had a place has one where another directory is written
pub still_placed : (g g' : Slots) (n : ℕ) (new : Place) (j : ℕ) → Sets g g' n (Some new) → is_some (place_at g j) ≡ true → is_some (place_at g' j) ≡ true
still_placed g g' n new j edit there = which j n (is_some (place_at g' j) ≡ true)
    (λ at. ap (λ i. is_some (place_at g' i)) at ∙ ap is_some edit.here)
    (λ other. ap is_some (edit.elsewhere j other) ∙ there)
