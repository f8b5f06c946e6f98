-- What acts below a key commutes with the changes that lie apart from it, and goes along with a move from above.
use Rattle.std.proofs.Common.{◌≡◌, [], ◌∷◌, ◌++◌, Option, Some, None, refl, sym, ap, ap₂, ◌∙◌, append_assoc, append-nil}
use mathlib.Core.Path.{fun_ext}
use Rattle.fs_names.specs.Keys.{Key, after_prefix}
use Rattle.fs_laws.specs.Maps.{Map, below, act, act_at, put, put_at, move, moved_to, moved_from, swapped_by, swapped, swap}
use Rattle.fs_laws.proofs.trees.Prefixes.{prefix_append, prefix_some, prefix_both, prefix_deeper, prefix_none}

-- what stands at a key, by whether it begins with k
pub act_in : {V : Type 0} (k : Key) (f : Map V → Map V) (tree : Map V) (r : Key) → act k f tree (k ++ r) ≡ f (below k tree) r
act_in k f tree r = ap (act_at f tree k (k ++ r)) (prefix_append k r)

pub act_out : {V : Type 0} (k : Key) (f : Map V → Map V) (tree : Map V) (key : Key) → after_prefix k key ≡ None → act k f tree key ≡ tree key
act_out k f tree key e = ap (act_at f tree k key) e

pub act_below : {V : Type 0} (k : Key) (f : Map V → Map V) (tree : Map V) → below k (act k f tree) ≡ f (below k tree)
act_below k f tree = fun_ext (act_in k f tree)

-- an act below an act is one act
pub act_below_act : {V : Type 0} (k r : Key) (f : Map V → Map V) (tree : Map V) (key : Key) → act (k ++ r) f tree key ≡ act k (act r f) tree key
act_below_act k r f tree key =
    (elim (after_prefix k key) as (λ o. after_prefix k key ≡ o → act (k ++ r) f tree key ≡ act_at (act r f) tree k key o) [
      | None ↦ λ e. act_out (k ++ r) f tree key (prefix_deeper k r key e)
      | Some rest ↦ λ e. rw (prefix_some k key rest e) (ap (act_at f tree (k ++ r) (k ++ rest)) (prefix_both k r rest) ∙ same_parts k r f tree rest (after_prefix r rest))
    ]) refl
  where
    same_parts : {V : Type 0} (k r : Key) (f : Map V → Map V) (tree : Map V) (rest : Key) (o : Option Key) → act_at f tree (k ++ r) (k ++ rest) o ≡ act_at f (below k tree) r rest o
    same_parts k r f tree rest None = refl
    same_parts k r f tree rest (Some x) = ap (λ (t : Map _). f t x) (fun_ext (λ q. ap tree (append_assoc k r q)))

-- a write changes its own key alone
pub put_other : {V : Type 0} (at : Key) (v : Option V) (tree : Map V) (key : Key) → (key ≡ at → ⊥) → put at v tree key ≡ tree key
put_other at v tree key differs = go (after_prefix at key) refl
  where
    go : (o : Option Key) → after_prefix at key ≡ o → put_at v tree key o ≡ tree key
    go None e = refl
    go (Some []) e = absurd (differs (prefix_some at key [] e ∙ append-nil at))
    go (Some (x ∷ r)) e = refl

put_at_same : {V : Type 0} (v : Option V) (t u : Map V) (key : Key) (o : Option Key) → t key ≡ u key → put_at v t key o ≡ put_at v u key o
put_at_same v t u key None e = e
put_at_same v t u key (Some []) e = refl
put_at_same v t u key (Some (x ∷ r)) e = e

pub inside_differs : (k at q : Key) → after_prefix k at ≡ None → k ++ q ≡ at → ⊥
inside_differs k at q apart e = let h : after_prefix k (k ++ q) ≡ Some q = prefix_append k q in let g : after_prefix k at ≡ Some q = rw e at h in cc

-- a write apart from k
pub put_act : {V : Type 0} (k at : Key) (v : Option V) (f : Map V → Map V) (tree : Map V) → after_prefix k at ≡ None → put at v (act k f tree) ≡ act k f (put at v tree)
put_act k at v f tree apart = fun_ext (λ key. go key (after_prefix k key) refl)
  where
    go : (key : Key) (o : Option Key) → after_prefix k key ≡ o → put at v (act k f tree) key ≡ act_at f (put at v tree) k key o
    go key None e = put_at_same v (act k f tree) tree key (after_prefix at key) (act_out k f tree key e)
    go key (Some r) e =
        rw (prefix_some k key r e)
        (put_other at v (act k f tree) (k ++ r) (inside_differs k at r apart)
        ∙ act_in k f tree r
        ∙ ap (λ (t : Map _). f t r) (fun_ext (λ q. sym (put_other at v tree (k ++ q) (inside_differs k at q apart)))))

-- what a move leaves at each key
pub move_to : {V : Type 0} (s t : Key) (tree : Map V) (r : Key) → move s t tree (t ++ r) ≡ tree (s ++ r)
move_to s t tree r = ap (moved_to s tree (t ++ r)) (prefix_append t r)

pub move_gone : {V : Type 0} (s t : Key) (tree : Map V) (key r : Key) → after_prefix t key ≡ None → after_prefix s key ≡ Some r → move s t tree key ≡ None
move_gone s t tree key r e g = ap (moved_to s tree key) e ∙ ap (moved_from tree key) g

pub move_else : {V : Type 0} (s t : Key) (tree : Map V) (key : Key) → after_prefix t key ≡ None → after_prefix s key ≡ None → move s t tree key ≡ tree key
move_else s t tree key e g = ap (moved_to s tree key) e ∙ ap (moved_from tree key) g

-- below the moved key: what acts there goes along
pub move_act_under : {V : Type 0} (s t k : Key) (f : Map V → Map V) (tree : Map V) → after_prefix s t ≡ None → after_prefix t s ≡ None → move s t (act (s ++ k) f tree) ≡ act (t ++ k) f (move s t tree)
move_act_under s t k f tree st ts = fun_ext (λ key. go key (after_prefix t key) refl)
  where
    inner : (key r : Key) → key ≡ t ++ r → (o : Option Key) → after_prefix k r ≡ o → act (s ++ k) f tree (s ++ r) ≡ act (t ++ k) f (move s t tree) (t ++ r)
    inner key r is None e =
        act_out (s ++ k) f tree (s ++ r) (prefix_both s k r ∙ e)
        ∙ sym (act_out (t ++ k) f (move s t tree) (t ++ r) (prefix_both t k r ∙ e) ∙ move_to s t tree r)
    inner key r is (Some q) e =
        ap (act_at f tree (s ++ k) (s ++ r)) (prefix_both s k r ∙ e)
        ∙ ap (λ (u : Map _). f u q) (fun_ext (λ x. ap tree (append_assoc s k x) ∙ sym (ap (move s t tree) (append_assoc t k x) ∙ move_to s t tree (k ++ x))))
        ∙ sym (ap (act_at f (move s t tree) (t ++ k) (t ++ r)) (prefix_both t k r ∙ e))

    outer : (key : Key) (o : Option Key) → after_prefix t key ≡ None → after_prefix s key ≡ o → move s t (act (s ++ k) f tree) key ≡ act (t ++ k) f (move s t tree) key
    outer key None e g =
        move_else s t (act (s ++ k) f tree) key e g
        ∙ act_out (s ++ k) f tree key (prefix_deeper s k key g)
        ∙ sym (act_out (t ++ k) f (move s t tree) key (prefix_deeper t k key e) ∙ move_else s t tree key e g)
    outer key (Some r) e g =
        move_gone s t (act (s ++ k) f tree) key r e g
        ∙ sym (act_out (t ++ k) f (move s t tree) key (prefix_deeper t k key e) ∙ move_gone s t tree key r e g)

    go : (key : Key) (o : Option Key) → after_prefix t key ≡ o → move s t (act (s ++ k) f tree) key ≡ act (t ++ k) f (move s t tree) key
    go key (Some r) e =
        rw (prefix_some t key r e) (move_to s t (act (s ++ k) f tree) r ∙ inner (t ++ r) r refl (after_prefix k r) refl)
    go key None e = outer key (after_prefix s key) e refl

-- apart from both keys: the move and what acts there do not meet
pub move_act_apart : {V : Type 0} (s t k : Key) (f : Map V → Map V) (tree : Map V) → after_prefix s k ≡ None → after_prefix k s ≡ None → after_prefix t k ≡ None → after_prefix k t ≡ None → move s t (act k f tree) ≡ act k f (move s t tree)
move_act_apart s t k f tree sk ks tk kt = fun_ext (λ key. go key (after_prefix k key) refl)
  where
    outer : (key : Key) (o p : Option Key) → after_prefix t key ≡ o → after_prefix s key ≡ p → after_prefix k key ≡ None → move s t (act k f tree) key ≡ move s t tree key
    outer key (Some r) p e g h =
        rw (prefix_some t key r e)
        (move_to s t (act k f tree) r ∙ act_out k f tree (s ++ r) (prefix_none k s r ks sk) ∙ sym (move_to s t tree r))
    outer key None (Some r) e g h = move_gone s t (act k f tree) key r e g ∙ sym (move_gone s t tree key r e g)
    outer key None None e g h = move_else s t (act k f tree) key e g ∙ act_out k f tree key h ∙ sym (move_else s t tree key e g)

    go : (key : Key) (o : Option Key) → after_prefix k key ≡ o → move s t (act k f tree) key ≡ act_at f (move s t tree) k key o
    go key None e = outer key (after_prefix t key) (after_prefix s key) refl refl e
    go key (Some r) e =
        rw (prefix_some k key r e)
        (move_else s t (act k f tree) (k ++ r) (prefix_none t k r tk kt) (prefix_none s k r sk ks)
        ∙ act_in k f tree r
        ∙ ap (λ (u : Map _). f u r) (fun_ext (λ q. sym (move_else s t tree (k ++ q) (prefix_none t k q tk kt) (prefix_none s k q sk ks)))))

-- a key after an exchange
pub swapped_first : (s t r : Key) → swapped s t (s ++ r) ≡ t ++ r
swapped_first s t r = ap (λ (o : Option Key). swapped_by s t (s ++ r) o (after_prefix t (s ++ r))) (prefix_append s r)

pub swapped_second : (s t r : Key) → after_prefix s t ≡ None → after_prefix t s ≡ None → swapped s t (t ++ r) ≡ s ++ r
swapped_second s t r st ts = ap₂ (swapped_by s t (t ++ r)) (prefix_none s t r st ts) (prefix_append t r)

pub swapped_else : (s t key : Key) → after_prefix s key ≡ None → after_prefix t key ≡ None → swapped s t key ≡ key
swapped_else s t key e g = ap₂ (swapped_by s t key) e g

-- where a key lies by an exchange: below the first key, below the second, or below neither
pub data Lies (s t key : Key) : Type 0 where
  Below_first : (r : Key) → key ≡ s ++ r → Lies s t key
  Below_second : (r : Key) → key ≡ t ++ r → Lies s t key
  Below_neither : after_prefix s key ≡ None → after_prefix t key ≡ None → Lies s t key

pub lies : (s t key : Key) → Lies s t key
lies s t key = go (after_prefix s key) (after_prefix t key) refl refl
  where
    go : (o p : Option Key) → after_prefix s key ≡ o → after_prefix t key ≡ p → Lies s t key
    go (Some r) p e g = Below_first r (prefix_some s key r e)
    go None (Some r) e g = Below_second r (prefix_some t key r g)
    go None None e g = Below_neither e g

-- a key that changes places twice is the same again
pub swapped_twice : (s t key : Key) → after_prefix s t ≡ None → after_prefix t s ≡ None → swapped s t (swapped s t key) ≡ key
swapped_twice s t key st ts = go (lies s t key)
  where
    go : Lies s t key → swapped s t (swapped s t key) ≡ key
    go (Below_first r e) = rw e (ap (swapped s t) (swapped_first s t r) ∙ swapped_second s t r st ts)
    go (Below_second r e) = rw e (ap (swapped s t) (swapped_second s t r st ts) ∙ swapped_first s t r)
    go (Below_neither e g) = ap (swapped s t) (swapped_else s t key e g) ∙ swapped_else s t key e g

-- what follows a key goes along from below either key
pub swapped_on_first : (s t r u : Key) → swapped s t ((s ++ r) ++ u) ≡ swapped s t (s ++ r) ++ u
swapped_on_first s t r u = ap (swapped s t) (append_assoc s r u) ∙ swapped_first s t (r ++ u) ∙ sym (append_assoc t r u) ∙ ap (λ (k : Key). k ++ u) (sym (swapped_first s t r))

pub swapped_on_second : (s t r u : Key) → after_prefix s t ≡ None → after_prefix t s ≡ None → swapped s t ((t ++ r) ++ u) ≡ swapped s t (t ++ r) ++ u
swapped_on_second s t r u st ts = ap (swapped s t) (append_assoc t r u) ∙ swapped_second s t (r ++ u) st ts ∙ sym (append_assoc s r u) ∙ ap (λ (k : Key). k ++ u) (sym (swapped_second s t r st ts))

-- and from elsewhere, where it leads below neither
pub swapped_on : (s t key u : Key) → after_prefix s t ≡ None → after_prefix t s ≡ None → (after_prefix s key ≡ None → after_prefix s (key ++ u) ≡ None) → (after_prefix t key ≡ None → after_prefix t (key ++ u) ≡ None) → swapped s t (key ++ u) ≡ swapped s t key ++ u
swapped_on s t key u st ts f g = go (lies s t key)
  where
    go : Lies s t key → swapped s t (key ++ u) ≡ swapped s t key ++ u
    go (Below_first r e) = rw e (swapped_on_first s t r u)
    go (Below_second r e) = rw e (swapped_on_second s t r u st ts)
    go (Below_neither e h) = swapped_else s t (key ++ u) (f e) (g h) ∙ ap (λ (k : Key). k ++ u) (sym (swapped_else s t key e h))

-- what an exchange leaves at each key
pub swap_first : {V : Type 0} (s t : Key) (tree : Map V) (r : Key) → swap s t tree (s ++ r) ≡ tree (t ++ r)
swap_first s t tree r = ap tree (swapped_first s t r)

pub swap_second : {V : Type 0} (s t : Key) (tree : Map V) (r : Key) → after_prefix s t ≡ None → after_prefix t s ≡ None → swap s t tree (t ++ r) ≡ tree (s ++ r)
swap_second s t tree r st ts = ap tree (swapped_second s t r st ts)

pub swap_else : {V : Type 0} (s t : Key) (tree : Map V) (key : Key) → after_prefix s key ≡ None → after_prefix t key ≡ None → swap s t tree key ≡ tree key
swap_else s t tree key e g = ap tree (swapped_else s t key e g)

-- which of two keys that lie aside comes first does not matter
pub swap_same : {V : Type 0} (s t : Key) (tree : Map V) → after_prefix s t ≡ None → after_prefix t s ≡ None → swap s t tree ≡ swap t s tree
swap_same s t tree st ts = fun_ext (λ key. go key (after_prefix s key) (after_prefix t key) refl refl)
  where
    go : (key : Key) (o p : Option Key) → after_prefix s key ≡ o → after_prefix t key ≡ p → swap s t tree key ≡ swap t s tree key
    go key (Some r) p e g = rw (prefix_some s key r e) (swap_first s t tree r ∙ sym (swap_second t s tree r ts st))
    go key None (Some r) e g = rw (prefix_some t key r g) (swap_second s t tree r st ts ∙ sym (swap_first t s tree r))
    go key None None e g = swap_else s t tree key e g ∙ sym (swap_else t s tree key g e)

-- below the first key: what acts there goes along
pub swap_act_first : {V : Type 0} (s t k : Key) (f : Map V → Map V) (tree : Map V) → after_prefix s t ≡ None → after_prefix t s ≡ None → swap s t (act (s ++ k) f tree) ≡ act (t ++ k) f (swap s t tree)
swap_act_first s t k f tree st ts = fun_ext (λ key. go key (after_prefix s key) (after_prefix t key) refl refl)
  where
    inner : (r : Key) (o : Option Key) → after_prefix k r ≡ o → act (s ++ k) f tree (s ++ r) ≡ act (t ++ k) f (swap s t tree) (t ++ r)
    inner r None e =
        act_out (s ++ k) f tree (s ++ r) (prefix_both s k r ∙ e)
        ∙ sym (act_out (t ++ k) f (swap s t tree) (t ++ r) (prefix_both t k r ∙ e) ∙ swap_second s t tree r st ts)
    inner r (Some q) e =
        ap (act_at f tree (s ++ k) (s ++ r)) (prefix_both s k r ∙ e)
        ∙ ap (λ (u : Map _). f u q) (fun_ext (λ x. ap tree (append_assoc s k x) ∙ sym (ap (swap s t tree) (append_assoc t k x) ∙ swap_second s t tree (k ++ x) st ts)))
        ∙ sym (ap (act_at f (swap s t tree) (t ++ k) (t ++ r)) (prefix_both t k r ∙ e))

    go : (key : Key) (o p : Option Key) → after_prefix s key ≡ o → after_prefix t key ≡ p → swap s t (act (s ++ k) f tree) key ≡ act (t ++ k) f (swap s t tree) key
    go key (Some r) p e g =
        rw (prefix_some s key r e)
        (swap_first s t (act (s ++ k) f tree) r
        ∙ act_out (s ++ k) f tree (t ++ r) (prefix_deeper s k (t ++ r) (prefix_none s t r st ts))
        ∙ sym (act_out (t ++ k) f (swap s t tree) (s ++ r) (prefix_deeper t k (s ++ r) (prefix_none t s r ts st)) ∙ swap_first s t tree r))
    go key None (Some r) e g = rw (prefix_some t key r g) (swap_second s t (act (s ++ k) f tree) r st ts ∙ inner r (after_prefix k r) refl)
    go key None None e g =
        swap_else s t (act (s ++ k) f tree) key e g
        ∙ act_out (s ++ k) f tree key (prefix_deeper s k key e)
        ∙ sym (act_out (t ++ k) f (swap s t tree) key (prefix_deeper t k key g) ∙ swap_else s t tree key e g)

-- and below the second
pub swap_act_second : {V : Type 0} (s t k : Key) (f : Map V → Map V) (tree : Map V) → after_prefix s t ≡ None → after_prefix t s ≡ None → swap s t (act (t ++ k) f tree) ≡ act (s ++ k) f (swap s t tree)
swap_act_second s t k f tree st ts = swap_same s t (act (t ++ k) f tree) st ts ∙ swap_act_first t s k f tree ts st ∙ ap (act (s ++ k) f) (sym (swap_same s t tree st ts))

-- apart from both keys: the exchange and what acts there do not meet
pub swap_act_apart : {V : Type 0} (s t k : Key) (f : Map V → Map V) (tree : Map V) → after_prefix s k ≡ None → after_prefix k s ≡ None → after_prefix t k ≡ None → after_prefix k t ≡ None → swap s t (act k f tree) ≡ act k f (swap s t tree)
swap_act_apart s t k f tree sk ks tk kt = fun_ext (λ key. go key (after_prefix k key) refl)
  where
    outer : (key : Key) (o p : Option Key) → after_prefix s key ≡ o → after_prefix t key ≡ p → after_prefix k key ≡ None → swap s t (act k f tree) key ≡ swap s t tree key
    outer key (Some r) p e g h =
        ap (λ (o : Option Key). act k f tree (swapped_by s t key o (after_prefix t key))) e
        ∙ act_out k f tree (t ++ r) (prefix_none k t r kt tk)
        ∙ sym (ap (λ (o : Option Key). tree (swapped_by s t key o (after_prefix t key))) e)
    outer key None (Some r) e g h =
        ap₂ (λ (o p : Option Key). act k f tree (swapped_by s t key o p)) e g
        ∙ act_out k f tree (s ++ r) (prefix_none k s r ks sk)
        ∙ sym (ap₂ (λ (o p : Option Key). tree (swapped_by s t key o p)) e g)
    outer key None None e g h = swap_else s t (act k f tree) key e g ∙ act_out k f tree key h ∙ sym (swap_else s t tree key e g)

    go : (key : Key) (o : Option Key) → after_prefix k key ≡ o → swap s t (act k f tree) key ≡ act_at f (swap s t tree) k key o
    go key None e = outer key (after_prefix s key) (after_prefix t key) refl refl e
    go key (Some r) e =
        rw (prefix_some k key r e)
        (swap_else s t (act k f tree) (k ++ r) (prefix_none s k r sk ks) (prefix_none t k r tk kt)
        ∙ act_in k f tree r
        ∙ ap (λ (u : Map _). f u r) (fun_ext (λ q. sym (swap_else s t tree (k ++ q) (prefix_none s k q sk ks) (prefix_none t k q tk kt)))))
