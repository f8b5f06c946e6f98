-- Several writes, as a directory's names with a child; and a victim at the moved call's new key.
use Rattle.std.proofs.Common.{◌≡◌, ℕ, List, [], ◌∷◌, ◌++◌, Option, Some, None, refl, sym, ap, ◌∙◌, append_assoc}
use mathlib.Core.Path.{fun_ext}
use Rattle.fs_names.specs.Keys.{Key, after_prefix}
use Rattle.fs_laws.specs.Maps.{Map, below, act, act_at, put, put_at, write_all}
use Rattle.fs_laws.specs.Placed.{AllOff}
use Rattle.fs_laws.proofs.trees.Prefixes.{prefix_some, prefix_both, prefix_deeper}
use Rattle.fs_laws.proofs.trees.Commuting.{put_act, act_in, act_out}

abbrev pub all_under : {V : Type 0} → Key → List (Key × Option V) → List (Key × Option V)
all_under k [] = []
all_under k (w ∷ ws) = (k ++ w.0, w.1) ∷ all_under k ws

pub writes_act : {V : Type 0} (ws : List (Key × Option V)) (k : Key) (f : Map V → Map V) (tree : Map V) → AllOff k ws → write_all ws (act k f tree) ≡ act k f (write_all ws tree)
writes_act [] k f tree off = refl
writes_act (w ∷ ws) k f tree off = ap (write_all ws) (put_act k w.0 w.1 f tree off.0) ∙ writes_act ws k f (put w.0 w.1 tree) off.1

pub put_under : {V : Type 0} (k at : Key) (v : Option V) (tree : Map V) → put (k ++ at) v tree ≡ act k (put at v) tree
put_under k at v tree = fun_ext (λ key. go key (after_prefix k key) refl)
  where
    inside : (r : Key) (o : Option Key) → put_at v tree (k ++ r) o ≡ put_at v (below k tree) r o
    inside r None = refl
    inside r (Some []) = refl
    inside r (Some (x ∷ q)) = refl

    go : (key : Key) (o : Option Key) → after_prefix k key ≡ o → put (k ++ at) v tree key ≡ act_at (put at v) tree k key o
    go key None e = ap (put_at v tree key) (prefix_deeper k at key e)
    go key (Some r) e = ap (λ (q : Key). put (k ++ at) v tree q) (prefix_some k key r e) ∙ ap (put_at v tree (k ++ r)) (prefix_both k at r) ∙ inside r (after_prefix at r)

pub act_act : {V : Type 0} (k : Key) (f g : Map V → Map V) (tree : Map V) → act k g (act k f tree) ≡ act k (λ t. g (f t)) tree
act_act k f g tree = fun_ext (λ key. go key (after_prefix k key) refl)
  where
    go : (key : Key) (o : Option Key) → after_prefix k key ≡ o → act_at g (act k f tree) k key o ≡ act_at (λ t. g (f t)) tree k key o
    go key None e = act_out k f tree key e
    go key (Some r) e = ap (λ (t : Map _). g t r) (fun_ext (λ q. act_in k f tree q))

pub act_none : {V : Type 0} (k : Key) (tree : Map V) → tree ≡ act k (λ t. t) tree
act_none k tree = fun_ext (λ key. go key (after_prefix k key) refl)
  where
    go : (key : Key) (o : Option Key) → after_prefix k key ≡ o → tree key ≡ act_at (λ t. t) tree k key o
    go key None e = refl
    go key (Some r) e = ap tree (prefix_some k key r e)

pub writes_under : {V : Type 0} (ws : List (Key × Option V)) (k : Key) (tree : Map V) → write_all (all_under k ws) tree ≡ act k (write_all ws) tree
writes_under [] k tree = act_none k tree
writes_under (w ∷ ws) k tree = ap (write_all (all_under k ws)) (put_under k w.0 w.1 tree) ∙ writes_under ws k (act k (put w.0 w.1) tree) ∙ act_act k (put w.0 w.1) (write_all ws) tree

-- a node that another call holds is not at or below the moved node's new key, where at most the victim is
pub present_off_victim : (tree : Map ℕ) (t key v : Key) (n victim : ℕ) → ((r : Key) (m : ℕ) → tree (t ++ r) ≡ Some m → m ≡ victim) → tree (key ++ v) ≡ Some n → (n ≡ victim → ⊥) → after_prefix t key ≡ None
present_off_victim tree t key v n victim only e differs = go (after_prefix t key) refl
  where
    go : (o : Option Key) → after_prefix t key ≡ o → o ≡ None
    go None i = refl
    go (Some r) i = absurd (differs (only (r ++ v) n (sym (ap tree (append_assoc t r v)) ∙ sym (ap (λ (l : Key). tree (l ++ v)) (prefix_some t key r i)) ∙ e)))
