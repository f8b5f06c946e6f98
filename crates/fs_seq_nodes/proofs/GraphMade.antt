-- A new node, linked in a directory under a number that had no place.
use Rattle.std.proofs.Common.{◌≡◌, ◌≢◌, ℕ, Bool, true, false, cond, List, [], ◌∷◌, ◌++◌, Some, None, Option, is_some, option_and_then, refl, sym, ap, subst, ◌∙◌, append-nil, nat_eq, ◌⊎◌, inl, inr, IsTrue, T}
use Rattle.std.specs.FinMap.{find, put, is_sorted}
use Rattle.std.specs.FinMap.Entries.{find-put, is_sorted-put}
use Rattle.std.specs.Cmp.{eq_by_cmp_equiv}
use Rattle.fs_names.specs.Names.{Name, name_cmp, same_name}
use Rattle.fs_names.specs.Keys.{Key, same_key, after_prefix}
use Rattle.fs_names.proofs.Lemmas.{name_total, after_prefix-append, after_prefix-exact}
use Rattle.fs_calls.specs.Tree.{Node, look, inserted}
use Rattle.fs_seq_nodes.specs.code.Slots.{Place, Dir, Slots, place_at, links_of, node_of, links_at, child, walk_from, walk, node_at, spelled, tree_of, IsForest, Sets}
use Rattle.fs_calls.proofs.LookLemmas.{same_key_exact, same_key_refl, look-inserted, sorted-inserted}
use Rattle.fs_seq_nodes.proofs.GraphLemmas.{Once, Inside, look-tree_of, sorted-tree_of, is_tree_of}
use Rattle.fs_seq_nodes.proofs.Edits.{Links, within, walk-linked, nat_same, nat_differ}
use Rattle.fs_seq_nodes.proofs.Resolving.{spelled_at, spelled_none, walk_off, walk_below}
use Rattle.fs_calls.proofs.ListLemmas.{true_T}
use Rattle.fs_seq_nodes.proofs.NodeLemmas.{child_got}

-- what holds is true
is_true : (b : Bool) → T b → b ≡ true
is_true true t = refl
is_true false t = absurd t

-- what cannot be true is false
never : (b : Bool) → (b ≡ true → ⊥) → b ≡ false
never true h = absurd (h refl)
never false h = refl

-- a number without a place is not one with a place
pub other_number : (g : Slots) (s n : ℕ) (P : Place) → place_at g s ≡ None → place_at g n ≡ Some P → s ≢ n
other_number g s n P none some e = let both : place_at g n ≡ None = ap (place_at g) (sym e) ∙ none in let wrong : None ≡ Some P = sym both ∙ some in cc

module _ (g g1 g' : Slots) (forest : IsForest g) (new : Place) (bare : links_of (Some new) ≡ []) (d : Key) (n : ℕ) (walked : walk g d ≡ Some n) (links : List (Name × ℕ)) (dir : place_at g n ≡ Some (Dir links)) (x : Name) (absent : find name_cmp x links ≡ None) (s : ℕ) (free : place_at g s ≡ None) (linking : Sets g g1 n (Some (Dir (put name_cmp x s links)))) (adding : Sets g1 g' s (Some new)) where
  -- the two numbers differ
  apart : s ≢ n
  apart = other_number g s n _ free dir

  -- the directory after the edit
  dir_now : place_at g' n ≡ Some (Dir (put name_cmp x s links))
  dir_now = adding.elsewhere n (λ e. apart (sym e)) ∙ linking.here

  -- all other places stay
  else_now : (j : ℕ) → j ≢ n → j ≢ s → place_at g' j ≡ place_at g j
  else_now j ne ns = adding.elsewhere j ns ∙ linking.elsewhere j ne

  -- nothing leads on from the number before
  bare_before : (y : Name) → child g s y ≡ None
  bare_before y = child_got g s y None free

  -- nothing leads on from the number afterwards
  bare_now : (y : Name) → child g' s y ≡ None
  bare_now y = child_got g' s y (Some new) adding.here ∙ ap (find name_cmp y) bare

  -- the edit as one of children
  linked : Links g g' n x s
  linked = record {
    here = λ y.
        child_got g' n y _ dir_now ∙ find-put name_cmp name_total y x s links
        ∙ ap (λ b. cond {A = Option ℕ} b (Some s) (find name_cmp y links)) ((eq_by_cmp_equiv name_total).symm y x)
        ∙ ap (cond {A = Option ℕ} (same_name x y) (Some s)) (sym (child_got g n y _ dir));
    elsewhere = λ j y ne.
        elim (nat_eq j s) as (λ b. nat_eq j s ≡ b → child g' j y ≡ child g j y) [
          | true ↦ λ e. let at : j ≡ s = nat_same j s e in ap (λ i. child g' i y) at ∙ bare_now y ∙ sym (ap (λ i. child g i y) at ∙ bare_before y)
          | false ↦ λ e. child_got g' j y _ (else_now j ne (nat_differ j s e)) ∙ sym (child_got g j y _ refl)
        ] refl;
  }

  -- nothing leads from the number to the directory
  no_way_back : (r : Key) → walk_from g s r ≡ Some n → ⊥
  no_way_back [] e = apart (let same : s ≡ n = cc in same)
  no_way_back (y ∷ r) e = let none : walk_from g s (y ∷ r) ≡ None = ap (option_and_then (λ m. walk_from g m r)) (bare_before y) in cc

  -- where a walk leads that may pass the new name
  abbrev fresh : Option ℕ → Option Key → Option ℕ
  fresh o None = o
  fresh o (Some []) = Some s
  fresh o (Some (y ∷ r)) = None

  -- nothing is below the new name
  within_fresh : (o : Option ℕ) (a : Option Key) → within g s o a ≡ fresh o a
  within_fresh o None = refl
  within_fresh o (Some []) = refl
  within_fresh o (Some (y ∷ r)) = ap (option_and_then (λ m. walk_from g m r)) (bare_before y)

  -- all walks after the edit
  walk-made : (k : Key) → walk g' k ≡ fresh (walk g k) (after_prefix (d ++ x ∷ []) k)
  walk-made k = walk-linked g g' d n x s forest.once walked no_way_back linked k ∙ within_fresh (walk g k) (after_prefix (d ++ x ∷ []) k)

  -- a key that leads somewhere is the new one, or led there before
  which : (k : Key) (j : ℕ) (a : Option Key) → after_prefix (d ++ x ∷ []) k ≡ a → fresh (walk g k) a ≡ Some j → ((k ≡ d ++ x ∷ []) × (j ≡ s)) ⊎ (walk g k ≡ Some j)
  which k j None e w = inr w
  which k j (Some []) e w = inl (after_prefix-exact (d ++ x ∷ []) k [] e ∙ append-nil _, let at : s ≡ j = cc in sym at)
  which k j (Some (y ∷ r)) e w = absurd (cc)

  -- the same, of the new graph
  which_made : (k : Key) (j : ℕ) → walk g' k ≡ Some j → ((k ≡ d ++ x ∷ []) × (j ≡ s)) ⊎ (walk g k ≡ Some j)
  which_made k j w = which k j (after_prefix (d ++ x ∷ []) k) refl (sym (walk-made k) ∙ w)

  -- the number led nowhere before
  not_before : (k : Key) (j : ℕ) → j ≡ s → walk g k ≡ Some j → ⊥
  not_before k j e w = let has : is_some (place_at g j) ≡ true = forest.inside k j w in let none : is_some (place_at g j) ≡ false = ap (λ i. is_some (place_at g i)) e ∙ ap is_some free in let wrong : true ≡ false = sym has ∙ none in cc

  -- no number is reached in two ways
  once_made : Once g' 0
  once_made a b j u v =
      elim (which_made a j u) [
        | inl p ↦ elim (which_made b j v) [ inl q ↦ p.0 ∙ sym q.0 | inr w ↦ absurd (not_before b j p.1 w) ]
        | inr w ↦ elim (which_made b j v) [ inl q ↦ absurd (not_before a j q.1 w) | inr z ↦ forest.once a b j w z ]
      ]

  -- what stands at a number that had a place
  node_before : (j : ℕ) → j ≢ s → node_at g' j ≡ node_at g j
  node_before j ns =
      elim (nat_eq j n) as (λ b. nat_eq j n ≡ b → node_at g' j ≡ node_at g j) [
        | true ↦ λ e. let at : j ≡ n = nat_same j n e in ap (node_at g') at ∙ ap node_of dir_now ∙ sym (ap (node_at g) at ∙ ap node_of dir)
        | false ↦ λ e. ap node_of (else_now j (nat_differ j n e) ns)
      ] refl

  -- a number with a place keeps one
  place_before : (j : ℕ) → j ≢ s → is_some (place_at g j) ≡ true → is_some (place_at g' j) ≡ true
  place_before j ns h =
      elim (nat_eq j n) as (λ b. nat_eq j n ≡ b → is_some (place_at g' j) ≡ true) [
        | true ↦ λ e. ap (λ i. is_some (place_at g' i)) (nat_same j n e) ∙ ap is_some dir_now
        | false ↦ λ e. ap is_some (else_now j (nat_differ j n e) ns) ∙ h
      ] refl

  -- each number that is reached has a place
  inside_made : Inside g' 0
  inside_made k j w =
      elim (which_made k j w) [
        | inl p ↦ ap (λ i. is_some (place_at g' i)) p.1 ∙ ap is_some adding.here
        | inr z ↦ place_before j (λ e. not_before k j e z) (forest.inside k j z)
      ]

  -- the names of each directory rise
  rising_made : (j : ℕ) → IsTrue (is_sorted name_cmp (links_at g' j))
  rising_made j =
      elim (nat_eq j n) as (λ b. nat_eq j n ≡ b → IsTrue (is_sorted name_cmp (links_at g' j))) [
        | true ↦ λ e. ap (λ i. is_sorted name_cmp (links_at g' i)) (nat_same j n e) ∙ ap (λ o. is_sorted name_cmp (links_of o)) dir_now
            ∙ is_true _ (is_sorted-put name_cmp name_total x s links (true_T (subst (λ o. IsTrue (is_sorted name_cmp (links_of o))) dir (forest.rising n))))
        | false ↦ λ e. elim (nat_eq j s) as (λ b. nat_eq j s ≡ b → IsTrue (is_sorted name_cmp (links_at g' j))) [
          | true ↦ λ f. ap (λ i. is_sorted name_cmp (links_at g' i)) (nat_same j s f) ∙ ap (λ o. is_sorted name_cmp (links_of o)) adding.here ∙ ap (is_sorted name_cmp) bare
          | false ↦ λ f. subst (λ o. IsTrue (is_sorted name_cmp (links_of o))) (sym (else_now j (nat_differ j n e) (nat_differ j s f))) (forest.rising j)
        ] refl
      ] refl

  -- the graph is a forest again
  pub forest_made : IsForest g'
  forest_made = record {
    once = once_made;
    inside = inside_made;
    root = node_before 0 (λ e. not_before [] 0 e refl) ∙ forest.root;
    rising = rising_made;
  }

  -- the name led nowhere before
  gone : walk g (d ++ x ∷ []) ≡ None
  gone = walk_off g d n x walked (child_got g n x _ dir ∙ absent)

  -- a key that is not the new one
  elsewhere_made : (e : Node) (k : Key) → (k ≡ d ++ x ∷ [] → ⊥) → spelled g k ≡ spelled g' k → look (inserted (tree_of g) (d ++ x ∷ []) e) k ≡ spelled g' k
  elsewhere_made e k ne same =
      look-inserted (tree_of g) (d ++ x ∷ []) e k
      ∙ ap (λ b. cond {A = Option Node} b (Some e) (look (tree_of g) k)) (never (same_key k (d ++ x ∷ [])) (λ h. ne (same_key_exact _ _ h)))
      ∙ look-tree_of g forest k ∙ same

  -- a key beside the new one
  not_new : (k : Key) (a : Option Key) → after_prefix (d ++ x ∷ []) k ≡ a → (Some [] ≡ a → ⊥) → k ≡ d ++ x ∷ [] → ⊥
  not_new k a at other e = other (sym (ap (after_prefix (d ++ x ∷ [])) (e ∙ sym (append-nil _)) ∙ after_prefix-append (d ++ x ∷ []) []) ∙ at)

  -- a key that leads where it led spells what it spelled
  same_walk : (k : Key) (o : Option ℕ) → walk g k ≡ o → walk g' k ≡ walk g k → spelled g k ≡ spelled g' k
  same_walk k None w same = spelled_none g k w ∙ sym (spelled_none g' k (same ∙ w))
  same_walk k (Some j) w same = spelled_at g k j w ∙ sym (spelled_at g' k j (same ∙ w) ∙ node_before j (λ e. not_before k j e w))

  -- what the new tree has at each key
  look_made : (e : Node) → node_of (Some new) ≡ Some e → (k : Key) (a : Option Key) → after_prefix (d ++ x ∷ []) k ≡ a → look (inserted (tree_of g) (d ++ x ∷ []) e) k ≡ spelled g' k
  look_made e is k None at = elsewhere_made e k (not_new k None at (λ f. absurd (cc))) (same_walk k (walk g k) refl (walk-made k ∙ ap (fresh (walk g k)) at))
  look_made e is k (Some []) at =
      let kp : k ≡ d ++ x ∷ [] = after_prefix-exact (d ++ x ∷ []) k [] at ∙ append-nil _ in
      look-inserted (tree_of g) (d ++ x ∷ []) e k ∙ ap (λ b. cond {A = Option Node} b (Some e) (look (tree_of g) k)) (ap (λ z. same_key z (d ++ x ∷ [])) kp ∙ same_key_refl (d ++ x ∷ []))
      ∙ sym (spelled_at g' k s (walk-made k ∙ ap (fresh (walk g k)) at) ∙ ap node_of adding.here ∙ is)
  look_made e is k (Some (y ∷ r)) at =
      let none : walk g k ≡ None = ap (walk g) (after_prefix-exact (d ++ x ∷ []) k (y ∷ r) at) ∙ walk_below g (d ++ x ∷ []) (y ∷ r) gone in
      elsewhere_made e k (not_new k (Some (y ∷ r)) at (λ f. absurd (cc))) (spelled_none g k none ∙ sym (spelled_none g' k (walk-made k ∙ ap (fresh (walk g k)) at)))

  -- the new tree
  pub tree_made : (e : Node) → node_of (Some new) ≡ Some e → tree_of g' ≡ inserted (tree_of g) (d ++ x ∷ []) e
  tree_made e is = is_tree_of g' (inserted (tree_of g) (d ++ x ∷ []) e) forest_made (sorted-inserted (tree_of g) (d ++ x ∷ []) e (sorted-tree_of g))
      (λ k. look_made e is k (after_prefix (d ++ x ∷ []) k) refl)
