-- A rename as a move of the entries at a key and below it into another place.
use Rattle.std.proofs.Common.{◌≡◌, Bool, true, false, cond, not, [], ◌∷◌, ◌++◌, map, Some, None, Option, is_some, refl, sym, ap, ◌∙◌, T}
use Rattle.std.specs.FinMap.{is_sorted, find}
use Rattle.std.proofs.lemmas.List.Elements.{filter-append}
use Rattle.fs_names.specs.Keys.{Key, key_cmp, same_key, after_prefix}
use Rattle.fs_calls.specs.Tree.{Node, Tree, from_list, with_prefix}
use Rattle.fs_calls.proofs.LookLemmas.{look-find, look-from_list, sorted-from_list, same_tree}
use Rattle.fs_linearize_flat.proofs.SearchLemmas.{true_T}
use Rattle.fs_linearize_flat.proofs.RiseLemmas.{apart, second_rises}
use Rattle.fs_linearize_flat.specs.code.Cells.{below_key, beside_key, moved_cell}

-- an entry of a tree
abbrev Cell : Type 0
Cell = Key × Node

-- the first that is there
abbrev first_of : Option Node → Option Node → Option Node
first_of None o = o
first_of (Some n) o = Some n

-- what is found in two lists
find_both : (k : Key) (t u : Tree) → find key_cmp k (t ++ u) ≡ first_of (find key_cmp k t) (find key_cmp k u)
find_both k [] u = refl
find_both k (l ∷ t) u = by (same_key k l.0) (find_both k t u)
  where
    by : (b : Bool) → find key_cmp k (t ++ u) ≡ first_of (find key_cmp k t) (find key_cmp k u) → cond {A = Option Node} b (Some l.1) (find key_cmp k (t ++ u)) ≡ first_of (cond {A = Option Node} b (Some l.1) (find key_cmp k t)) (find key_cmp k u)
    by true rest = refl
    by false rest = rest

-- two lists moved
map_both : (f : Cell → Cell) (t u : Tree) → map f (t ++ u) ≡ map f t ++ map f u
map_both f [] u = refl
map_both f (l ∷ t) u = ap (λ z. f l ∷ z) (map_both f t u)

-- ---- of three that may be there, at most one is

-- one entry more that stays
stays_here : (s : Bool) (v : Node) (all side moved : Option Node) → (((n : Node) → side ≡ Some n → moved ≡ None) → all ≡ first_of side moved)
    → ((n : Node) → cond {A = Option Node} s (Some v) side ≡ Some n → moved ≡ None) → cond {A = Option Node} s (Some v) all ≡ first_of (cond {A = Option Node} s (Some v) side) moved
stays_here true v all side moved rest h = refl
stays_here false v all side moved rest h = rest h

-- one entry more that moves
moves_here : (s : Bool) (v : Node) (all side moved : Option Node) → (((n : Node) → side ≡ Some n → moved ≡ None) → all ≡ first_of side moved)
    → ((n : Node) → side ≡ Some n → cond {A = Option Node} s (Some v) moved ≡ None) → cond {A = Option Node} s (Some v) all ≡ first_of side (cond {A = Option Node} s (Some v) moved)
moves_here false v all side moved rest h = rest h
moves_here true v all None moved rest h = refl
moves_here true v all (Some n) moved rest h = absurd (let no : Some v ≡ None = h n refl in cc)

-- what is among the first or the last is not among the moved ones
not_moved : (front moved back : Option Node) → ((n : Node) → front ≡ Some n → first_of moved back ≡ None) → ((n : Node) → moved ≡ Some n → back ≡ None) → (n : Node) → first_of front back ≡ Some n → moved ≡ None
not_moved front None back one two n h = refl
not_moved (Some x) (Some y) back one two n h = absurd (let no : Some y ≡ None = one x refl in cc)
not_moved None (Some y) back one two n h = absurd (let no : back ≡ None = two y refl in cc)

-- the moved ones stand between them as well as behind them
between : (front moved back : Option Node) → ((n : Node) → moved ≡ Some n → back ≡ None) → first_of front (first_of moved back) ≡ first_of (first_of front back) moved
between (Some x) moved back two = refl
between None None None two = refl
between None None (Some z) two = refl
between None (Some y) back two = ap (λ o. first_of o (Some y)) (sym (two y refl))

-- what is found among entries of which some moved is found among those beside, or among the moved ones
found_moved : (p q k : Key) (t : Tree) → ((n : Node) → find key_cmp k (beside_key p t) ≡ Some n → find key_cmp k (map (moved_cell p q) (below_key p t)) ≡ None)
    → find key_cmp k (map (moved_cell p q) t) ≡ first_of (find key_cmp k (beside_key p t)) (find key_cmp k (map (moved_cell p q) (below_key p t)))
found_moved p q k [] h = refl
found_moved p q k (l ∷ t) h =
    elim (after_prefix p l.0) as (λ o. after_prefix p l.0 ≡ o
    → ((n : Node) → find key_cmp k (cond {A = Tree} (not (is_some o)) (l ∷ beside_key p t) (beside_key p t)) ≡ Some n → find key_cmp k (map (moved_cell p q) (cond {A = Tree} (is_some o) (l ∷ below_key p t) (below_key p t))) ≡ None)
    → cond {A = Option Node} (same_key k (moved_cell p q l).0) (Some l.1) (find key_cmp k (map (moved_cell p q) t))
    ≡ first_of (find key_cmp k (cond {A = Tree} (not (is_some o)) (l ∷ beside_key p t) (beside_key p t))) (find key_cmp k (map (moved_cell p q) (cond {A = Tree} (is_some o) (l ∷ below_key p t) (below_key p t))))) [
      | None ↦ λ e g.
          ap (λ o. cond {A = Option Node} (same_key k (with_prefix q l.0 o)) (Some l.1) (find key_cmp k (map (moved_cell p q) t))) e
          ∙ stays_here (same_key k l.0) l.1 _ _ _ (found_moved p q k t) g
      | Some r ↦ λ e g. moves_here (same_key k (moved_cell p q l).0) l.1 _ _ _ (found_moved p q k t) g
    ] refl h

-- ---- the whole

module _ (p q : Key) (before behind moved front back rest new : Tree) where
  -- the moved ones of both lists
  all_moved : moved ≡ map (moved_cell p q) (below_key p before) ++ map (moved_cell p q) (below_key p behind) → map (moved_cell p q) (below_key p (before ++ behind)) ≡ moved
  all_moved is = ap (map (moved_cell p q)) (filter-append _ before behind) ∙ map_both (moved_cell p q) (below_key p before) (below_key p behind) ∙ sym is

  -- the others
  all_beside : front ≡ beside_key p before → back ≡ beside_key p behind → beside_key p (before ++ behind) ≡ front ++ back
  all_beside one two = filter-append _ before behind ∙ (λ i. sym one i ++ sym two i)

  pub woven : is_sorted key_cmp new ≡ true → moved ≡ map (moved_cell p q) (below_key p before) ++ map (moved_cell p q) (below_key p behind) → front ≡ beside_key p before → back ≡ beside_key p behind → rest ≡ moved ++ back → new ≡ front ++ rest
      → new ≡ from_list (map (moved_cell p q) (before ++ behind))
  woven rise is one two joined all =
      same_tree new (from_list (map (moved_cell p q) (before ++ behind))) (true_T (is_sorted key_cmp new) rise) (sorted-from_list (map (moved_cell p q) (before ++ behind))) (λ k. look-find new k ∙ found k ∙ sym (look-from_list (map (moved_cell p q) (before ++ behind)) k))
    where
      whole : new ≡ front ++ (moved ++ back)
      whole = all ∙ ap (λ z. front ++ z) joined

      rises : T (is_sorted key_cmp (front ++ (moved ++ back)))
      rises = true_T (is_sorted key_cmp (front ++ (moved ++ back))) (ap (is_sorted key_cmp) (sym whole) ∙ rise)

      not_first : (k : Key) (n : Node) → find key_cmp k front ≡ Some n → first_of (find key_cmp k moved) (find key_cmp k back) ≡ None
      not_first k n h = sym (find_both k moved back) ∙ apart front (moved ++ back) k n rises h

      not_last : (k : Key) (n : Node) → find key_cmp k moved ≡ Some n → find key_cmp k back ≡ None
      not_last k n h = apart moved back k n (second_rises front (moved ++ back) rises) h

      beside_is : (k : Key) → find key_cmp k (beside_key p (before ++ behind)) ≡ first_of (find key_cmp k front) (find key_cmp k back)
      beside_is k = ap (find key_cmp k) (all_beside one two) ∙ find_both k front back

      moved_is : (k : Key) → find key_cmp k (map (moved_cell p q) (below_key p (before ++ behind))) ≡ find key_cmp k moved
      moved_is k = ap (find key_cmp k) (all_moved is)

      found : (k : Key) → find key_cmp k new ≡ find key_cmp k (map (moved_cell p q) (before ++ behind))
      found k =
          ap (find key_cmp k) whole ∙ find_both k front (moved ++ back) ∙ ap (first_of (find key_cmp k front)) (find_both k moved back)
          ∙ between (find key_cmp k front) (find key_cmp k moved) (find key_cmp k back) (not_last k)
          ∙ sym (found_moved p q k (before ++ behind) (λ n h. moved_is k ∙ not_moved (find key_cmp k front) (find key_cmp k moved) (find key_cmp k back) (not_first k) (not_last k) n (sym (beside_is k) ∙ h))
          ∙ (λ i. first_of (beside_is k i) (moved_is k i)))
