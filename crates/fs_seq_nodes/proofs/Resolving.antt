-- Resolution in the tree that a graph spells, and what is seen there.
use Rattle.std.proofs.Common.{◌≡◌, ℕ, true, [], ◌∷◌, ◌++◌, map, Some, None, Option, is_some, option_and_then, refl, sym, ap, ◌∙◌, append_assoc, append-nil, ap₂}
use Rattle.std.specs.FinMap.{find}
use Rattle.fs_names.specs.Names.{Name, name_cmp}
use Rattle.fs_names.specs.Keys.{Key}
use Rattle.fs_calls.specs.declared.errno.Errno.{Errno}
use Rattle.fs_calls.specs.Tree.{Tree, look, names_in}
use Rattle.fs_calls.specs.Sights.{Shape, tree_shapes, is_dir, Sight, resolve, resolve_next}
use Rattle.fs_calls.specs.Sights as shapes
use Rattle.fs_calls.specs.Outcomes.{resolution}
use Rattle.fs_seq_nodes.specs.code.Nodes.{verdict}
use Rattle.fs_seq_nodes.specs.code.Slots.{Place, Dir, File, Slots, place_at, links_of, node_of, shape_of, links_at, child, walk_from, walk, node_at, shape_at, spelled, tree_of, IsForest}
use Rattle.fs_seq_nodes.proofs.GraphLemmas.{walk-append, look-tree_of, sorted-tree_of}
use Rattle.fs_seq_nodes.proofs.Edits.{walk-snoc, on_from, on_some, on_missing}
use Rattle.fs_calls.proofs.ListLemmas.{true_T}
use Rattle.fs_calls.proofs.Children.{names_in-links}

-- what is spelled at a key that leads to a number, and at one that leads nowhere
pub spelled_at : (g : Slots) (k : Key) (n : ℕ) → walk g k ≡ Some n → spelled g k ≡ node_at g n
unfolding spelled
spelled_at g k n w = ap (option_and_then (node_at g)) w

-- nothing is spelled at a key that leads nowhere
pub spelled_none : (g : Slots) (k : Key) → walk g k ≡ None → spelled g k ≡ None
unfolding spelled
spelled_none g k w = ap (option_and_then (node_at g)) w

-- a key with one name more leads on to the child
pub walk_on : (g : Slots) (d : Key) (n : ℕ) (x : Name) (m : ℕ) → walk g d ≡ Some n → child g n x ≡ Some m → walk g (d ++ x ∷ []) ≡ Some m
walk_on g d n x m w e = walk-snoc g 0 d x ∙ ap (on_from g x) w ∙ on_some g x n m e

-- a key with one name more that is missing leads nowhere
pub walk_off : (g : Slots) (d : Key) (n : ℕ) (x : Name) → walk g d ≡ Some n → child g n x ≡ None → walk g (d ++ x ∷ []) ≡ None
walk_off g d n x w e = walk-snoc g 0 d x ∙ ap (on_from g x) w ∙ on_missing g x n e

-- a place is a node
some_node : (o : Option Place) → is_some o ≡ true → is_some (node_of o) ≡ true
some_node None e = e
some_node (Some (Dir links)) e = refl
some_node (Some (File file)) e = refl

-- what stands at a key that leads to a number
pub look_at : (g : Slots) (p : Key) (n : ℕ) → IsForest g → walk g p ≡ Some n → look (tree_of g) p ≡ node_at g n
look_at g p n forest w = look-tree_of g forest p ∙ spelled_at g p n w

-- nothing stands at a key that leads nowhere
pub look_none : (g : Slots) (p : Key) → IsForest g → walk g p ≡ None → look (tree_of g) p ≡ None
look_none g p forest w = look-tree_of g forest p ∙ spelled_none g p w

-- something stands at a key that leads to a number
pub look_some : (g : Slots) (p : Key) (n : ℕ) → IsForest g → walk g p ≡ Some n → is_some (look (tree_of g) p) ≡ true
look_some g p n forest w = ap is_some (look_at g p n forest w) ∙ some_node _ (forest.inside p n w)

-- a child is found among the links
pub child-find : (g : Slots) (n : ℕ) (x : Name) → child g n x ≡ find name_cmp x (links_at g n)
unfolding child
child-find g n x = refl

-- the names of a directory are those of its links
pub names_at : (g : Slots) (p : Key) (n : ℕ) → IsForest g → walk g p ≡ Some n → names_in (tree_of g) p ≡ map (λ l. l.0) (links_at g n)
names_at g p n forest w = names_in-links (tree_of g) p (links_at g n) (sorted-tree_of g) (true_T (forest.rising n)) (λ x. there x (child g n x) refl ∙ ap is_some (child-find g n x))
  where
    there : (x : Name) (o : Option ℕ) → child g n x ≡ o → is_some (look (tree_of g) (p ++ x ∷ [])) ≡ is_some (child g n x)
    there x None e = ap is_some (look_none g (p ++ x ∷ []) forest (walk_off g p n x w e)) ∙ ap is_some (sym e)
    there x (Some m) e = look_some g (p ++ x ∷ []) m forest (walk_on g p n x m w e) ∙ ap is_some (sym e)

-- the shape of a place by its names
shape_by : (t : Tree) (p : Key) (o : Option Place) → names_in t p ≡ map (λ l. l.0) (links_of o) → shapes.shape_of t p (node_of o) ≡ shape_of o
shape_by t p None names = refl
shape_by t p (Some (Dir links)) names = ap (λ ns. Some (shapes.Dir ns)) names
shape_by t p (Some (File file)) names = refl

-- what is seen at a key that leads to a number, and at one that leads nowhere
pub seen_at : (g : Slots) (p : Key) (n : ℕ) → IsForest g → walk g p ≡ Some n → tree_shapes (tree_of g) p ≡ shape_at g n
seen_at g p n forest w = ap (shapes.shape_of (tree_of g) p) (look_at g p n forest w) ∙ shape_by (tree_of g) p (place_at g n) (names_at g p n forest w)

-- nothing is seen at a key that leads nowhere
pub seen_none : (g : Slots) (p : Key) → IsForest g → walk g p ≡ None → tree_shapes (tree_of g) p ≡ None
seen_none g p forest w = ap (shapes.shape_of (tree_of g) p) (look_none g p forest w)

-- below a key that leads nowhere nothing leads anywhere
pub walk_below : (g : Slots) (front rest : Key) → walk g front ≡ None → walk g (front ++ rest) ≡ None
walk_below g front rest w = walk-append g 0 front rest ∙ ap (option_and_then (λ m. walk_from g m rest)) w

-- ---- resolution along a walk

-- one name further, where a directory leads on
next_on : (a b : Option Shape) (rest : Option Errno) → is_dir a ≡ true → is_some b ≡ true → resolve_next a b rest ≡ rest
next_on None b rest h f = absurd (cc)
next_on (Some (shapes.Dir names)) None rest h f = absurd (cc)
next_on (Some (shapes.Dir names)) (Some child) rest h f = refl
next_on (Some (shapes.File bytes)) b rest h f = absurd (cc)

-- and where none does
next_off : (o : Option Place) (rest : Option Errno) (e : Errno) → verdict (node_of o) ≡ Some e → resolve_next (shape_of o) None rest ≡ Some e
next_off None rest e h = absurd (cc)
next_off (Some (Dir links)) rest e h = h
next_off (Some (File file)) rest e h = h

-- what has a child is a directory
parent_dir : (o : Option Place) (x : Name) (m : ℕ) → find name_cmp x (links_of o) ≡ Some m → is_dir (shape_of o) ≡ true
parent_dir None x m e = absurd (cc)
parent_dir (Some (Dir links)) x m e = refl
parent_dir (Some (File file)) x m e = absurd (cc)

some_shape : (o : Option Place) → is_some o ≡ true → is_some (shape_of o) ≡ true
some_shape None e = e
some_shape (Some (Dir links)) e = refl
some_shape (Some (File file)) e = refl

module _ (g : Slots) (forest : IsForest g) where
  -- what is seen from a front on
  abbrev IsFrom : Sight → Key → Type 0
  IsFrom sight front = (k : Key) → sight k ≡ tree_shapes (tree_of g) (front ++ k)

  -- a name further
  from_next : (sight : Sight) (front : Key) (x : Name) → IsFrom sight front → IsFrom (λ k. sight (x ∷ k)) (front ++ x ∷ [])
  from_next sight front x same k = same (x ∷ k) ∙ ap (tree_shapes (tree_of g)) (sym (append_assoc front (x ∷ []) k))

  from_here : (sight : Sight) (front : Key) (n : ℕ) → IsFrom sight front → walk g front ≡ Some n → sight [] ≡ shape_at g n
  from_here sight front n same w = same [] ∙ ap (tree_shapes (tree_of g)) (append-nil front) ∙ seen_at g front n forest w

  -- a name that leads on
  step_on : (sight : Sight) (front : Key) (x : Name) (n m : ℕ) (rest : Option Errno) → IsFrom sight front → walk g front ≡ Some n → child g n x ≡ Some m → resolve_next (sight []) (sight (x ∷ [])) rest ≡ rest
  step_on sight front x n m rest same w e =
      next_on (sight []) (sight (x ∷ [])) rest
      (ap is_dir (from_here sight front n same w) ∙ parent_dir (place_at g n) x m (sym (child-find g n x) ∙ e))
      (ap is_some (same (x ∷ []) ∙ seen_at g (front ++ x ∷ []) m forest (walk_on g front n x m w e)) ∙ some_shape (place_at g m) (forest.inside (front ++ x ∷ []) m (walk_on g front n x m w e)))

  -- names that lead to a number resolve
  walked : (sight : Sight) (front rest : Key) (n m : ℕ) → IsFrom sight front → walk g front ≡ Some n → walk_from g n rest ≡ Some m → resolve sight rest ≡ None
  walked sight front [] n m same w to = refl
  walked sight front (x ∷ rest) n m same w to = go (child g n x) refl to (λ i e to. walked (λ k. sight (x ∷ k)) (front ++ x ∷ []) rest i m (from_next sight front x same) (walk_on g front n x i w e) to)
    where
      go : (o : Option ℕ) → child g n x ≡ o → option_and_then (λ i. walk_from g i rest) o ≡ Some m
          → ((i : ℕ) → child g n x ≡ Some i → walk_from g i rest ≡ Some m → resolve (λ k. sight (x ∷ k)) rest ≡ None) → resolve sight (x ∷ rest) ≡ None
      go None e to later = absurd (cc)
      go (Some i) e to later =
          step_on sight front x n i (resolve (λ k. sight (x ∷ k)) rest) same w e
          ∙ later i e to

  -- names that end before do not, as the place says at which they end
  stuck : (sight : Sight) (front way : Key) (n m : ℕ) (x : Name) (rest : Key) (e : Errno) → IsFrom sight front → walk g front ≡ Some n → walk_from g n way ≡ Some m → child g m x ≡ None → verdict (node_at g m) ≡ Some e → resolve sight (way ++ x ∷ rest) ≡ Some e
  stuck sight front [] n m x rest e same w to gone said =
      let here : n ≡ m = cc in
      let at : walk g front ≡ Some m = w ∙ ap Some here in
      ap₂ (λ (a b : Option Shape). resolve_next a b (resolve (λ k. sight (x ∷ k)) rest)) (from_here sight front m same at) (same (x ∷ []) ∙ seen_none g (front ++ x ∷ []) forest (walk_off g front m x at gone))
      ∙ next_off (place_at g m) (resolve (λ k. sight (x ∷ k)) rest) e said
  stuck sight front (y ∷ way) n m x rest e same w to gone said = go (child g n y) refl to (λ i f to. stuck (λ k. sight (y ∷ k)) (front ++ y ∷ []) way i m x rest e (from_next sight front y same) (walk_on g front n y i w f) to gone said)
    where
      go : (o : Option ℕ) → child g n y ≡ o → option_and_then (λ i. walk_from g i way) o ≡ Some m
          → ((i : ℕ) → child g n y ≡ Some i → walk_from g i way ≡ Some m → resolve (λ k. sight (y ∷ k)) (way ++ x ∷ rest) ≡ Some e) → resolve sight (y ∷ way ++ x ∷ rest) ≡ Some e
      go None f to later = absurd (cc)
      go (Some i) f to later =
          step_on sight front y n i (resolve (λ k. sight (y ∷ k)) (way ++ x ∷ rest)) same w f
          ∙ later i f to

-- a key that leads to a number is resolved
pub resolution_walked : (g : Slots) (p : Key) (n : ℕ) → IsForest g → walk g p ≡ Some n → resolution (tree_of g) p ≡ None
resolution_walked g p n forest w = walked g forest (tree_shapes (tree_of g)) [] p 0 n (λ k. refl) refl w

-- a way that ends before its key does is not resolved, as the place says at which it ends
pub resolution_stuck : (g : Slots) (way : Key) (n : ℕ) (x : Name) (rest : Key) (e : Errno) → IsForest g → walk g way ≡ Some n → child g n x ≡ None → verdict (node_at g n) ≡ Some e → resolution (tree_of g) (way ++ x ∷ rest) ≡ Some e
resolution_stuck g way n x rest e forest w gone said = stuck g forest (tree_shapes (tree_of g)) [] way 0 n x rest e (λ k. refl) refl w gone said
