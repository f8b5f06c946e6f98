-- A file or an empty directory, taken out of its directory, whose number is then free.
use Rattle.std.proofs.Common.{◌≡◌, ◌≢◌, ℕ, Bool, true, false, cond, not, List, [], ◌∷◌, ◌++◌, Some, None, Option, is_some, option_and_then, refl, sym, ap, subst, ◌∙◌, append-nil, nat_eq, IsTrue, T}
use Rattle.std.specs.FinMap.{find, is_sorted}
use Rattle.std.specs.FinMap.Entries.{find-where_key, is_sorted-where_key}
use Rattle.fs_names.specs.Names.{Name, name_cmp, same_name}
use Rattle.fs_names.specs.Keys.{Key, same_key, after_prefix}
use Rattle.fs_names.proofs.Lemmas.{name_exact, after_prefix-append, after_prefix-exact}
use Rattle.fs_calls.specs.Tree.{Node, look, removed}
use Rattle.fs_seq_nodes.specs.code.Slots.{Dir, Slots, place_at, links_of, node_of, links_at, child, walk_from, walk, node_at, spelled, tree_of, IsForest, Sets}
use Rattle.fs_seq_nodes.specs.code.Nodes.{without}
use Rattle.fs_calls.proofs.LookLemmas.{same_key_exact, same_key_refl, look-removed, sorted-removed}
use Rattle.fs_seq_nodes.proofs.GraphLemmas.{walk-append, look-tree_of, sorted-tree_of, is_tree_of}
use Rattle.fs_calls.proofs.ListLemmas.{no_longer, true_T}
use Rattle.fs_seq_nodes.proofs.Edits.{Unlinks, outside, walk-unlinked, nat_same, nat_differ}
use Rattle.fs_seq_nodes.proofs.Resolving.{spelled_at, spelled_none, walk_on}
use Rattle.fs_seq_nodes.proofs.NodeLemmas.{child_got}

-- a choice by the opposite
turned : (b : Bool) (o : Option ℕ) → cond {A = Option ℕ} (not b) o None ≡ cond {A = Option ℕ} b None o
turned true o = refl
turned false o = refl

-- what is found among links without a name
find-without : (x y : Name) (links : List (Name × ℕ)) → find name_cmp y (without x links) ≡ cond {A = Option ℕ} (same_name x y) None (find name_cmp y links)
find-without x y links = find-where_key name_cmp (λ z. not (same_name x z)) y (λ z e. ap (λ w. not (same_name x w)) (sym (name_exact y z e))) links ∙ turned (same_name x y) (find name_cmp y links)

-- what cannot be true is false
never : (b : Bool) → (b ≡ true → ⊥) → b ≡ false
never true h = absurd (h refl)
never false h = refl

-- what holds is true
is_true : (b : Bool) → T b → b ≡ true
is_true true t = refl
is_true false t = absurd t

module _ (g g1 g' : Slots) (forest : IsForest g) (d : Key) (n : ℕ) (walked : walk g d ≡ Some n) (links : List (Name × ℕ)) (dir : place_at g n ≡ Some (Dir links)) (x : Name) (m : ℕ) (there : find name_cmp x links ≡ Some m) (leaf : (y : Name) → child g m y ≡ None) (unlinking : Sets g g1 n (Some (Dir (without x links)))) (removing : Sets g1 g' m None) where
  -- the name leads to what is removed
  leads : walk g (d ++ x ∷ []) ≡ Some m
  leads = walk_on g d n x m walked (child_got g n x _ dir ∙ there)

  -- the two numbers differ
  apart : n ≢ m
  apart e = no_longer d x (forest.once d (d ++ x ∷ []) m (walked ∙ ap (λ z. Some z) e) leads)

  -- the directory after the edit
  dir_now : place_at g' n ≡ Some (Dir (without x links))
  dir_now = removing.elsewhere n apart ∙ unlinking.here

  -- all other places stay
  else_now : (j : ℕ) → j ≢ n → j ≢ m → place_at g' j ≡ place_at g j
  else_now j nn nm = removing.elsewhere j nm ∙ unlinking.elsewhere j nn

  -- the edit as one of children
  unlinked : Unlinks g g' n x
  unlinked = record {
    here = λ y. child_got g' n y _ dir_now ∙ find-without x y links ∙ ap (cond {A = Option ℕ} (same_name x y) None) (sym (child_got g n y _ dir));
    elsewhere = λ j y ne.
        elim (nat_eq j m) as (λ b. nat_eq j m ≡ b → child g' j y ≡ child g j y) [
          | true ↦ λ e. let at : j ≡ m = nat_same j m e in ap (λ i. child g' i y) at ∙ child_got g' m y _ removing.here ∙ sym (ap (λ i. child g i y) at ∙ leaf y)
          | false ↦ λ e. child_got g' j y _ (else_now j ne (nat_differ j m e)) ∙ sym (child_got g j y _ refl)
        ] refl;
  }

  -- all walks after the edit
  walk-cut : (k : Key) → walk g' k ≡ outside (walk g k) (after_prefix (d ++ x ∷ []) k)
  walk-cut = walk-unlinked g g' d n x forest.once walked unlinked

  -- a walk that is not cut off
  still : (k : Key) (j : ℕ) (a : Option Key) → outside (walk g k) a ≡ Some j → walk g k ≡ Some j
  still k j None w = w
  still k j (Some r) w = absurd (cc)

  -- what leads somewhere led there before
  was : (k : Key) (j : ℕ) → walk g' k ≡ Some j → walk g k ≡ Some j
  was k j w = still k j (after_prefix (d ++ x ∷ []) k) (sym (walk-cut k) ∙ w)

  -- the name leads nowhere any more
  cut_off : walk g' (d ++ x ∷ []) ≡ None
  cut_off = walk-cut (d ++ x ∷ []) ∙ ap (outside (walk g (d ++ x ∷ []))) (ap (after_prefix (d ++ x ∷ [])) (sym (append-nil _)) ∙ after_prefix-append (d ++ x ∷ []) [])

  -- and is not what was removed
  kept : (k : Key) (j : ℕ) → walk g' k ≡ Some j → j ≢ m
  kept k j w e =
      let key : k ≡ d ++ x ∷ [] = forest.once k (d ++ x ∷ []) m (was k j w ∙ ap (λ z. Some z) e) leads in
      let wrong : Some j ≡ None = sym w ∙ ap (walk g') key ∙ cut_off in cc

  -- what stands at all other numbers stays
  node_kept : (j : ℕ) → j ≢ m → node_at g' j ≡ node_at g j
  node_kept j nm =
      elim (nat_eq j n) as (λ b. nat_eq j n ≡ b → node_at g' j ≡ node_at g j) [
        | true ↦ λ e. let at : j ≡ n = nat_same j n e in ap (node_at g') at ∙ ap node_of dir_now ∙ sym (ap (node_at g) at ∙ ap node_of dir)
        | false ↦ λ e. ap node_of (else_now j (nat_differ j n e) nm)
      ] refl

  -- a number with a place keeps it
  place_kept : (j : ℕ) → j ≢ m → is_some (place_at g j) ≡ true → is_some (place_at g' j) ≡ true
  place_kept j nm h =
      elim (nat_eq j n) as (λ b. nat_eq j n ≡ b → is_some (place_at g' j) ≡ true) [
        | true ↦ λ e. ap (λ i. is_some (place_at g' i)) (nat_same j n e) ∙ ap is_some dir_now
        | false ↦ λ e. ap is_some (else_now j (nat_differ j n e) nm) ∙ h
      ] refl

  -- the names of each directory rise
  rising_cut : (j : ℕ) → IsTrue (is_sorted name_cmp (links_at g' j))
  rising_cut j =
      elim (nat_eq j n) as (λ b. nat_eq j n ≡ b → IsTrue (is_sorted name_cmp (links_at g' j))) [
        | true ↦ λ e. ap (λ i. is_sorted name_cmp (links_at g' i)) (nat_same j n e) ∙ ap (λ o. is_sorted name_cmp (links_of o)) dir_now
            ∙ is_true _ (is_sorted-where_key name_cmp (λ y. not (same_name x y)) links (true_T (subst (λ o. IsTrue (is_sorted name_cmp (links_of o))) dir (forest.rising n))))
        | false ↦ λ e. elim (nat_eq j m) as (λ b. nat_eq j m ≡ b → IsTrue (is_sorted name_cmp (links_at g' j))) [
          | true ↦ λ f. ap (λ i. is_sorted name_cmp (links_at g' i)) (nat_same j m f) ∙ ap (λ o. is_sorted name_cmp (links_of o)) removing.here
          | false ↦ λ f. subst (λ o. IsTrue (is_sorted name_cmp (links_of o))) (sym (else_now j (nat_differ j n e) (nat_differ j m f))) (forest.rising j)
        ] refl
      ] refl

  -- the graph is a forest again
  pub forest_cut : IsForest g'
  forest_cut = record {
    once = λ a b j u v. forest.once a b j (was a j u) (was b j v);
    inside = λ k j w. place_kept j (kept k j w) (forest.inside k j (was k j w));
    root = node_kept 0 (λ e. no_longer_root (forest.once [] (d ++ x ∷ []) m (ap (λ z. Some z) e) leads)) ∙ forest.root;
    rising = rising_cut;
  }
    where
      no_longer_root : [] ≡ d ++ x ∷ [] → ⊥
      no_longer_root e = not_nil d e
        where
          not_nil : (k : Key) → [] ≡ k ++ x ∷ [] → ⊥
          not_nil [] f = cc
          not_nil (y ∷ k) f = cc

  -- a key that leads where it led spells what it spelled
  same_spelled : (k : Key) (o : Option ℕ) → walk g' k ≡ o → walk g' k ≡ walk g k → spelled g k ≡ spelled g' k
  same_spelled k None w same = spelled_none g k (sym same ∙ w) ∙ sym (spelled_none g' k w)
  same_spelled k (Some j) w same = spelled_at g k j (sym same ∙ w) ∙ sym (spelled_at g' k j w ∙ node_kept j (kept k j w))

  -- a key that is not removed
  elsewhere_cut : (k : Key) → (k ≡ d ++ x ∷ [] → ⊥) → spelled g k ≡ spelled g' k → look (removed (tree_of g) (d ++ x ∷ [])) k ≡ spelled g' k
  elsewhere_cut k ne same =
      look-removed (tree_of g) (d ++ x ∷ []) k ∙ ap (λ b. cond {A = Option Node} b None (look (tree_of g) k)) (never (same_key k (d ++ x ∷ [])) (λ h. ne (same_key_exact _ _ h)))
      ∙ look-tree_of g forest k ∙ same

  -- a key beside the one removed
  not_cut : (k : Key) (a : Option Key) → after_prefix (d ++ x ∷ []) k ≡ a → (Some [] ≡ a → ⊥) → k ≡ d ++ x ∷ [] → ⊥
  not_cut k a at other e = other (sym (ap (after_prefix (d ++ x ∷ [])) (e ∙ sym (append-nil _)) ∙ after_prefix-append (d ++ x ∷ []) []) ∙ at)

  -- what the new tree has at each key
  look_cut : (k : Key) (a : Option Key) → after_prefix (d ++ x ∷ []) k ≡ a → look (removed (tree_of g) (d ++ x ∷ [])) k ≡ spelled g' k
  look_cut k None at = elsewhere_cut k (not_cut k None at (λ f. absurd (cc))) (same_spelled k (walk g' k) refl (walk-cut k ∙ ap (outside (walk g k)) at))
  look_cut k (Some []) at =
      let kp : k ≡ d ++ x ∷ [] = after_prefix-exact (d ++ x ∷ []) k [] at ∙ append-nil _ in
      look-removed (tree_of g) (d ++ x ∷ []) k ∙ ap (λ b. cond {A = Option Node} b None (look (tree_of g) k)) (ap (λ z. same_key z (d ++ x ∷ [])) kp ∙ same_key_refl (d ++ x ∷ []))
      ∙ sym (spelled_none g' k (walk-cut k ∙ ap (outside (walk g k)) at))
  look_cut k (Some (y ∷ r)) at =
      let kp : k ≡ (d ++ x ∷ []) ++ y ∷ r = after_prefix-exact (d ++ x ∷ []) k (y ∷ r) at in
      let none : walk g k ≡ None = ap (walk g) kp ∙ walk-append g 0 (d ++ x ∷ []) (y ∷ r) ∙ ap (option_and_then (λ i. walk_from g i (y ∷ r))) leads ∙ ap (option_and_then (λ i. walk_from g i r)) (leaf y) in
      elsewhere_cut k (not_cut k (Some (y ∷ r)) at (λ f. absurd (cc))) (spelled_none g k none ∙ sym (spelled_none g' k (walk-cut k ∙ ap (outside (walk g k)) at)))

  -- the new tree
  pub tree_cut : tree_of g' ≡ removed (tree_of g) (d ++ x ∷ [])
  tree_cut = is_tree_of g' (removed (tree_of g) (d ++ x ∷ [])) forest_cut (sorted-removed (tree_of g) (d ++ x ∷ []) (sorted-tree_of g)) (λ k. look_cut k (after_prefix (d ++ x ∷ []) k) refl)
