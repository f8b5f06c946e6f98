-- Two links lead to one another's numbers, with all that is below them.
use Rattle.std.proofs.Common.{◌≡◌, ◌≢◌, ℕ, Bool, true, false, [], ◌∷◌, ◌++◌, Some, None, Option, is_some, refl, sym, ap, ◌∙◌, append_assoc, append-nil, IsTrue}
use Rattle.std.specs.FinMap.{is_sorted}
use Rattle.fs_names.specs.Names.{Name, name_cmp}
use Rattle.fs_names.specs.Keys.{Key, same_key, after_prefix}
use Rattle.fs_names.proofs.Lemmas.{after_prefix-exact, same_name_exact}
use Rattle.fs_calls.specs.Tree.{exchanged, exchanged_key, with_prefix}
use Rattle.fs_calls.proofs.LookLemmas.{same_key_exact, same_key_refl}
use Rattle.fs_calls.proofs.ListLemmas.{by_last, longer, after_prefix-snoc, same_key-snoc, same_front}
use Rattle.fs_calls.proofs.KeyLemmas.{after_prefix-front}
use Rattle.fs_calls.proofs.ExchangedTrees.{Beside, exchanged-first, exchanged-second, exchanged-other, exchanged-twice, look-exchanged, sorted-exchanged}
use Rattle.fs_seq_nodes.specs.code.Slots.{Slots, links_at, child, walk, node_at, spelled, place_at, tree_of, IsForest}
use Rattle.fs_seq_nodes.proofs.GraphLemmas.{Once, look-tree_of, is_tree_of}
use Rattle.fs_seq_nodes.proofs.Edits.{on_from, on_some, walk-snoc, same_step, after_prefix-nothing}
use Rattle.fs_seq.proofs.Moving.{no_nil, placed}
use Rattle.fs_seq_nodes.proofs.Resolving.{spelled_at, spelled_none, walk_on}

-- g' is g, but that the names x1 of n1 and x2 of n2, which lead to s1 and s2, lead to s2 and s1
pub record Turned (g g' : Slots) (n1 : ℕ) (x1 : Name) (s1 n2 : ℕ) (x2 : Name) (s2 : ℕ) : Type 0 where
  pub first : child g' n1 x1 ≡ Some s2
  pub second : child g' n2 x2 ≡ Some s1
  pub others : (j : ℕ) (y : Name) → (j ≡ n1 → y ≢ x1) → (j ≡ n2 → y ≢ x2) → child g' j y ≡ child g j y
  pub kept : (j : ℕ) → node_at g' j ≡ node_at g j
  pub rising : (j : ℕ) → IsTrue (is_sorted name_cmp (links_at g' j))

-- a key with one name more, that is neither of both keys, is exchanged by what is before the name
exchanged-snoc : (p q k : Key) (y : Name) → same_key p (k ++ y ∷ []) ≡ false → same_key q (k ++ y ∷ []) ≡ false → exchanged_key p q (k ++ y ∷ []) ≡ exchanged_key p q k ++ y ∷ []
exchanged-snoc p q k y not_p not_q =
    (λ i. with_prefix q (with_prefix p (k ++ y ∷ []) (behind q not_q i)) (behind p not_p i))
    ∙ by_case (after_prefix p k) (after_prefix q k)
  where
    behind : (d : Key) → same_key d (k ++ y ∷ []) ≡ false → after_prefix d (k ++ y ∷ []) ≡ longer (after_prefix d k) y false
    behind d other = after_prefix-snoc d k y ∙ ap (longer (after_prefix d k) y) other

    by_case : (a b : Option Key) → with_prefix q (with_prefix p (k ++ y ∷ []) (longer b y false)) (longer a y false) ≡ with_prefix q (with_prefix p k b) a ++ y ∷ []
    by_case (Some r) b = sym (append_assoc q r (y ∷ []))
    by_case None (Some r) = sym (append_assoc p r (y ∷ []))
    by_case None None = refl

-- keys of one front that are the same have one last name
same_last : (d k : Key) (x y : Name) → k ≡ d → same_key (d ++ x ∷ []) (k ++ y ∷ []) ≡ true → y ≡ x
same_last d k x y front same = sym (same_name_exact x y (sym (ap (λ z. same_key (d ++ x ∷ []) (z ++ y ∷ [])) front ∙ same_key-snoc d x y) ∙ same))

module _ (g g' : Slots) (forest : IsForest g) (d1 : Key) (n1 : ℕ) (x1 : Name) (s1 : ℕ) (d2 : Key) (n2 : ℕ) (x2 : Name) (s2 : ℕ) (beside : Beside (d1 ++ x1 ∷ []) (d2 ++ x2 ∷ []))
    (from : walk g d1 ≡ Some n1) (leads : child g n1 x1 ≡ Some s1) (to : walk g d2 ≡ Some n2) (other_leads : child g n2 x2 ≡ Some s2) (turned : Turned g g' n1 x1 s1 n2 x2 s2) where
  -- a key after the exchange
  abbrev turn : Key → Key
  turn k = exchanged_key (d1 ++ x1 ∷ []) (d2 ++ x2 ∷ []) k

  -- a key is not below itself with a name more
  above : (d : Key) (x : Name) → after_prefix (d ++ x ∷ []) d ≡ None
  above d x = by_case (after_prefix (d ++ x ∷ []) d) refl
    where
      by_case : (a : Option Key) → after_prefix (d ++ x ∷ []) d ≡ a → a ≡ None
      by_case None e = refl
      by_case (Some r) e = absurd (no_nil d x r (sym (after_prefix-exact (d ++ x ∷ []) d r e)))

  -- both directories keep their keys
  first_dir : turn d1 ≡ d1
  first_dir = exchanged-other (d1 ++ x1 ∷ []) (d2 ++ x2 ∷ []) d1 (above d1 x1) (after_prefix-front (d2 ++ x2 ∷ []) d1 x1 beside.back)

  second_dir : turn d2 ≡ d2
  second_dir = exchanged-other (d1 ++ x1 ∷ []) (d2 ++ x2 ∷ []) d2 (after_prefix-front (d1 ++ x1 ∷ []) d2 x2 beside.there) (above d2 x2)

  -- and no other key leads to one of them afterwards
  only_dir : (d k : Key) (n : ℕ) → walk g d ≡ Some n → turn d ≡ d → walk g (turn k) ≡ Some n → k ≡ d
  only_dir d k n at stays w = sym (exchanged-twice (d1 ++ x1 ∷ []) (d2 ++ x2 ∷ []) k beside) ∙ ap turn (forest.once (turn k) d n w at) ∙ stays

  -- the step to the first key leads to the second node
  to_first : (k : Key) (y : Name) → same_key (d1 ++ x1 ∷ []) (k ++ y ∷ []) ≡ true → on_from g' y (walk g (turn k)) ≡ walk g (turn (k ++ y ∷ []))
  to_first k y same =
      let whole : d1 ++ x1 ∷ [] ≡ k ++ y ∷ [] = same_key_exact (d1 ++ x1 ∷ []) (k ++ y ∷ []) same in
      let front : k ≡ d1 = same_front k d1 y x1 (sym whole) in
      let last : y ≡ x1 = same_last d1 k x1 y front same in
      let there : turn (k ++ y ∷ []) ≡ d2 ++ x2 ∷ [] = ap turn (sym whole ∙ sym (append-nil (d1 ++ x1 ∷ []))) ∙ exchanged-first (d1 ++ x1 ∷ []) (d2 ++ x2 ∷ []) [] ∙ append-nil (d2 ++ x2 ∷ []) in
      (λ i. on_from g' (last i) (walk g (turn (front i)))) ∙ ap (on_from g' x1) (ap (walk g) first_dir ∙ from) ∙ on_some g' x1 n1 s2 turned.first
      ∙ sym (ap (walk g) there ∙ walk_on g d2 n2 x2 s2 to other_leads)

  -- and the other way round
  to_second : (k : Key) (y : Name) → same_key (d2 ++ x2 ∷ []) (k ++ y ∷ []) ≡ true → on_from g' y (walk g (turn k)) ≡ walk g (turn (k ++ y ∷ []))
  to_second k y same =
      let whole : d2 ++ x2 ∷ [] ≡ k ++ y ∷ [] = same_key_exact (d2 ++ x2 ∷ []) (k ++ y ∷ []) same in
      let front : k ≡ d2 = same_front k d2 y x2 (sym whole) in
      let last : y ≡ x2 = same_last d2 k x2 y front same in
      let there : turn (k ++ y ∷ []) ≡ d1 ++ x1 ∷ [] = ap turn (sym whole ∙ sym (append-nil (d2 ++ x2 ∷ []))) ∙ exchanged-second (d1 ++ x1 ∷ []) (d2 ++ x2 ∷ []) [] beside ∙ append-nil (d1 ++ x1 ∷ []) in
      (λ i. on_from g' (last i) (walk g (turn (front i)))) ∙ ap (on_from g' x2) (ap (walk g) second_dir ∙ to) ∙ on_some g' x2 n2 s1 turned.second
      ∙ sym (ap (walk g) there ∙ walk_on g d1 n1 x1 s1 from leads)

  -- a key that is not another one does not end with its name at its directory
  not_there : (d k : Key) (x y : Name) (n j : ℕ) → walk g d ≡ Some n → turn d ≡ d → walk g (turn k) ≡ Some j → same_key (d ++ x ∷ []) (k ++ y ∷ []) ≡ false → j ≡ n → y ≢ x
  not_there d k x y n j at stays w other here named =
      let front : k ≡ d = only_dir d k n at stays (w ∙ ap Some here) in
      let same : same_key (d ++ x ∷ []) (k ++ y ∷ []) ≡ true = (λ i. same_key (d ++ x ∷ []) (front i ++ named i ∷ [])) ∙ same_key_refl (d ++ x ∷ []) in
      absurd (cc)

  -- all other steps are as before
  elsewhere : (k : Key) (y : Name) → same_key (d1 ++ x1 ∷ []) (k ++ y ∷ []) ≡ false → same_key (d2 ++ x2 ∷ []) (k ++ y ∷ []) ≡ false → on_from g' y (walk g (turn k)) ≡ walk g (turn (k ++ y ∷ []))
  elsewhere k y not_first not_second =
      same_step g g' y (walk g (turn k)) (λ j w. turned.others j y (not_there d1 k x1 y n1 j from first_dir w not_first) (not_there d2 k x2 y n2 j to second_dir w not_second))
      ∙ sym (walk-snoc g 0 (turn k) y) ∙ ap (walk g) (sym (exchanged-snoc (d1 ++ x1 ∷ []) (d2 ++ x2 ∷ []) k y not_first not_second))

  -- one name more
  step : (k : Key) (y : Name) → on_from g' y (walk g (turn k)) ≡ walk g (turn (k ++ y ∷ []))
  step k y = by_case (same_key (d1 ++ x1 ∷ []) (k ++ y ∷ [])) (same_key (d2 ++ x2 ∷ []) (k ++ y ∷ [])) refl refl
    where
      by_case : (a b : Bool) → same_key (d1 ++ x1 ∷ []) (k ++ y ∷ []) ≡ a → same_key (d2 ++ x2 ∷ []) (k ++ y ∷ []) ≡ b → on_from g' y (walk g (turn k)) ≡ walk g (turn (k ++ y ∷ []))
      by_case true b e f = to_first k y e
      by_case false true e f = to_second k y f
      by_case false false e f = elsewhere k y e f

  -- a key leads where the exchanged key led
  pub walk-swapped : (k : Key) → walk g' k ≡ walk g (turn k)
  walk-swapped = by_last (λ k. walk g' k ≡ walk g (turn k))
      (ap (walk g) (sym (exchanged-other (d1 ++ x1 ∷ []) (d2 ++ x2 ∷ []) [] (after_prefix-nothing d1 x1) (after_prefix-nothing d2 x2))))
      (λ k y ih. walk-snoc g' 0 k y ∙ ap (on_from g' y) ih ∙ step k y)

  -- what is reached has a place, as it had one
  inside_swapped : (k : Key) (j : ℕ) → walk g' k ≡ Some j → is_some (place_at g' j) ≡ true
  inside_swapped k j w = sym (placed (place_at g' j)) ∙ ap is_some (turned.kept j) ∙ placed (place_at g j) ∙ forest.inside (turn k) j (sym (walk-swapped k) ∙ w)

  -- two keys that lead to one number are one, since their exchanged keys are
  once_swapped : Once g' 0
  once_swapped a b j u v =
      let same : turn a ≡ turn b = forest.once (turn a) (turn b) j (sym (walk-swapped a) ∙ u) (sym (walk-swapped b) ∙ v) in
      sym (exchanged-twice (d1 ++ x1 ∷ []) (d2 ++ x2 ∷ []) a beside) ∙ ap turn same ∙ exchanged-twice (d1 ++ x1 ∷ []) (d2 ++ x2 ∷ []) b beside

  pub forest_swapped : IsForest g'
  forest_swapped = record {
    once = once_swapped;
    inside = inside_swapped;
    root = turned.kept 0 ∙ forest.root;
    rising = turned.rising;
  }

  -- what stands at a key is what stood at the exchanged key
  spelled_swapped : (k : Key) (o : Option ℕ) → walk g (turn k) ≡ o → spelled g (turn k) ≡ spelled g' k
  spelled_swapped k None w = spelled_none g (turn k) w ∙ sym (spelled_none g' k (walk-swapped k ∙ w))
  spelled_swapped k (Some j) w = spelled_at g (turn k) j w ∙ sym (turned.kept j) ∙ sym (spelled_at g' k j (walk-swapped k ∙ w))

  pub tree_swapped : tree_of g' ≡ exchanged (tree_of g) (d1 ++ x1 ∷ []) (d2 ++ x2 ∷ [])
  tree_swapped =
      is_tree_of g' (exchanged (tree_of g) (d1 ++ x1 ∷ []) (d2 ++ x2 ∷ [])) forest_swapped (sorted-exchanged (tree_of g) (d1 ++ x1 ∷ []) (d2 ++ x2 ∷ []))
      (λ k. look-exchanged (tree_of g) (d1 ++ x1 ∷ []) (d2 ++ x2 ∷ []) k beside ∙ look-tree_of g forest (turn k) ∙ spelled_swapped k (walk g (turn k)) refl)
