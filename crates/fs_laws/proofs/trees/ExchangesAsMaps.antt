-- What an exchange leaves of a tree, seen as a map.
use Rattle.std.proofs.Common.{◌≡◌, true, [], ◌∷◌, ◌++◌, Option, None, is_some, sym, ap, ◌∙◌, append-nil, subst, T, ◌⊎◌, inl, inr}
use Rattle.std.specs.FinMap.{is_sorted}
use Rattle.fs_names.specs.Keys.{Key, key_cmp, after_prefix}
use Rattle.fs_names.specs.Names.{Name}
use Rattle.fs_calls.specs.Tree.{Tree, Node, look}
use Rattle.fs_calls.specs.Sights.{tree_shapes}
use Rattle.fs_calls.specs.Laws.{IsExchanged}
use Rattle.fs_laws.specs.Maps.{swap, swapped}
use Rattle.fs_laws.specs.Placed.{Aside}
use Rattle.fs_laws.proofs.trees.Commuting.{Lies, Below_first, Below_second, Below_neither, lies, swapped_first, swapped_second, swapped_else, swapped_on_first, swapped_on_second}
use Rattle.fs_laws.proofs.helping.FinishPassesPlaced.{child_cases}
use Rattle.fs_laws.proofs.trees.SeenAsMaps.{ShowsAt, seen_by, shows_same}

-- what is known of an exchange that moves
pub record Exchanged (t new : Tree) (p q : Key) : Type 0 where
  pub sorted : T (is_sorted key_cmp t)
  pub new_sorted : T (is_sorted key_cmp new)
  pub moved : IsExchanged t new p q
  pub aside : Aside p q
  pub one : is_some (look t p) ≡ true
  pub other : is_some (look t q) ≡ true

pub seen_exchanged : (t new : Tree) (p q : Key) → Exchanged t new p q → (k : Key) → tree_shapes new k ≡ swap p q (tree_shapes t) k
seen_exchanged t new p q f = seen_by new (swap p q (tree_shapes t)) f.new_sorted (λ k. subst (λ (o : Option Node). ShowsAt new k o (tree_shapes t (swapped p q k))) (sym (look_new k)) (shows_same t new (swapped p q k) k (look t (swapped p q k)) f.sorted (names_new k)))
  where
    look_new : (k : Key) → look new k ≡ look t (swapped p q k)
    look_new k = go (lies p q k)
      where
        go : Lies p q k → look new k ≡ look t (swapped p q k)
        go (Below_first r e) = rw e (f.moved.other r ∙ sym (ap (look t) (swapped_first p q r)))
        go (Below_second r e) = rw e (f.moved.one r ∙ sym (ap (look t) (swapped_second p q r f.aside.0 f.aside.1)))
        go (Below_neither e g) = f.moved.others k e g ∙ sym (ap (look t) (swapped_else p q k e g))

    -- a directory that is below neither has the names that it had: both entries are there, before and after
    same_names : (k : Key) (z : Name) → after_prefix p k ≡ None → after_prefix q k ≡ None → is_some (look t (swapped p q (k ++ z ∷ []))) ≡ is_some (look t (k ++ z ∷ []))
    same_names k z e g = go (child_cases p k z e) (child_cases q k z g)
      where
        go : (after_prefix p (k ++ z ∷ []) ≡ None) ⊎ (p ≡ k ++ z ∷ []) → (after_prefix q (k ++ z ∷ []) ≡ None) ⊎ (q ≡ k ++ z ∷ []) → is_some (look t (swapped p q (k ++ z ∷ []))) ≡ is_some (look t (k ++ z ∷ []))
        go (inl i) (inl j) = ap (λ (l : Key). is_some (look t l)) (swapped_else p q (k ++ z ∷ []) i j)
        go (inr i) j = rw (← i) (ap (λ (l : Key). is_some (look t l)) (ap (swapped p q) (sym (append-nil p)) ∙ swapped_first p q [] ∙ append-nil q) ∙ f.other ∙ sym f.one)
        go (inl i) (inr j) = rw (← j) (ap (λ (l : Key). is_some (look t l)) (ap (swapped p q) (sym (append-nil q)) ∙ swapped_second p q [] f.aside.0 f.aside.1 ∙ append-nil p) ∙ f.one ∙ sym f.other)

    names_new : (k : Key) (z : Name) → is_some (look new (k ++ z ∷ [])) ≡ is_some (look t (swapped p q k ++ z ∷ []))
    names_new k z = ap is_some (look_new (k ++ z ∷ [])) ∙ go (lies p q k)
      where
        go : Lies p q k → is_some (look t (swapped p q (k ++ z ∷ []))) ≡ is_some (look t (swapped p q k ++ z ∷ []))
        go (Below_first r e) = rw e (ap (λ (l : Key). is_some (look t l)) (swapped_on_first p q r (z ∷ [])))
        go (Below_second r e) = rw e (ap (λ (l : Key). is_some (look t l)) (swapped_on_second p q r (z ∷ []) f.aside.0 f.aside.1))
        go (Below_neither e g) = same_names k z e g ∙ ap (λ (l : Key). is_some (look t (l ++ z ∷ []))) (sym (swapped_else p q k e g))
