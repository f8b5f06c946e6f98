-- On calls on two entries whose heads have come to both parents.
use Rattle.std.proofs.Common.{◌≡◌, ℕ, zero, suc, ◌+◌, ◌-◌, ◌≤◌, ◌<◌, true, [], ◌∷◌, ◌++◌, length, take, drop, ◌⊎◌, Option, Some, None, refl, sym, ap, ap₂, ◌∙◌, arith, length-drop, append-nil}
use Rattle.fs_names.specs.Keys.{Key, after_prefix, has_more, last_of, parent_of, is_end}
use Rattle.fs_names.specs.Parts.{common, left}
use Rattle.fs_names.specs.Shapes.{Shape, Dir, File, is_dir}
use Rattle.fs_names.proofs.Lemmas.{after_prefix-append}
use Rattle.fs_names.proofs.ParentLemmas.{parent_length}
use Rattle.fs_nodes.specs.Graphs.{Graph, IsReached}
use Rattle.fs_calls.specs.Forms.{AtPair, by_text, PairCall}
use Rattle.fs_calls.specs.Forms as pairs
use Rattle.fs_calls.specs.Rows.{as_dir}
use Rattle.fs_calls.specs.declared.errno.Errno.{Errno}
use Rattle.fs_walk.specs.declared.head.Head as count
use Rattle.fs_walk.specs.Ways.{ForkWay}
use Rattle.fs_machine.specs.Moves.{dir_error}
use Rattle.fs_machine.specs.OpValues.{MovesApart}
use Rattle.fs_ops.specs.OpValue.{holdings_with}
use Rattle.fs_ops.proofs.KeyLemmas.{parent_drop, last_drop, drop_prefix, drop_prefix_back, common_parents}
use Rattle.fs_ops.proofs.WantLemmas.{take_parent_front, left_head}

-- ---- keys

-- nothing is left behind all names
pub none_left : (j : ℕ) (l : Key) → length l ≤ j → drop j l ≡ []
none_left zero [] h = refl
none_left zero (x ∷ l) h = absurd (omega arith)
none_left (suc j) [] h = refl
none_left (suc j) (x ∷ l) h = none_left j l (omega arith)

drop_end : (j : ℕ) (l : Key) → drop j l ≡ [] → take j l ≡ l
drop_end zero [] e = refl
drop_end zero (x ∷ l) e = absurd (cc)
drop_end (suc j) [] e = refl
drop_end (suc j) (x ∷ l) e = ap (λ (z : Key). x ∷ z) (drop_end j l e)

parent_left : (k : ℕ) (p : Key) → length (parent_of (drop k p)) ≡ length (parent_of p) - k
parent_left k p = ap length (parent_drop k p) ∙ length-drop k (parent_of p)

parent_last : (p : Key) → 0 < length p → parent_of p ++ last_of p ∷ [] ≡ p
parent_last [] h = absurd (omega arith)
parent_last (x ∷ []) h = refl
parent_last (x ∷ y ∷ p) h = ap (λ (z : Key). x ∷ z) (parent_last (y ∷ p) (omega arith))

-- keys of one parent and one last name are the same
same_key : (p q : Key) → 0 < length p → 0 < length q → parent_of p ≡ parent_of q → last_of p ≡ last_of q → p ≡ q
same_key p q a b e f = sym (parent_last p a) ∙ (λ i. e i ++ f i ∷ []) ∙ parent_last q b

pub whole : (p q : Key) → p ≡ q → is_end (after_prefix p q) ≡ true
whole p q e = ap (λ (z : Key). is_end (after_prefix p z)) (sym e ∙ sym (append-nil p)) ∙ ap is_end (after_prefix-append p [])

-- ---- what follows a prefix, behind common names

module _ (p q : Key) (k : ℕ) (h : k ≤ length (common (parent_of p) (parent_of q))) where
  shared : k ≤ length (common p q)
  shared = omega (arith, common_parents p q)

  pub same_left : is_end (after_prefix (drop k p) (drop k q)) ≡ is_end (after_prefix p q)
  same_left = ap is_end (drop_prefix k p q shared)

  pub above_left : has_more (after_prefix (drop k q) (drop k p)) ≡ has_more (after_prefix q p)
  above_left = ap has_more (drop_prefix_back k p q shared)

  pub one_parent_left : is_end (after_prefix (parent_of (drop k p)) (parent_of (drop k q))) ≡ is_end (after_prefix (parent_of p) (parent_of q))
  one_parent_left = ap₂ (λ (a b : Key). is_end (after_prefix a b)) (parent_drop k p) (parent_drop k q) ∙ ap is_end (drop_prefix k (parent_of p) (parent_of q) h)

-- ---- faults of heads

pub is_parent : (s : Option Shape) → as_dir None s ≡ None → is_dir s ≡ true
is_parent None e = absurd (cc)
is_parent (Some (Dir names)) e = refl
is_parent (Some (File bytes)) e = absurd (cc)

-- a head without a fault has walked all names to a directory
no_error : (l : Key) (s : Option Shape) → dir_error l s ≡ None → (l ≡ []) × (is_dir s ≡ true)
no_error [] s e = (refl, is_parent s e)
no_error (x ∷ l) s e = absurd (cc)

pub head_dir : (l : Key) (s : Option Shape) → dir_error l s ≡ None → is_dir s ≡ true
head_dir l s e = (no_error l s e).1

walked_all : (p : Key) (k j : ℕ) (s : Option Shape) → k + j ≤ length (parent_of p) → dir_error (left (take j (drop k p)) (parent_of (drop k p))) s ≡ None → take j (drop k p) ≡ parent_of (drop k p)
walked_all p k j s h e =
    let len = parent_left k p in
    let none : drop j (parent_of (drop k p)) ≡ [] = sym (left_head k j p h) ∙ (no_error _ s e).0 in
    take_parent_front j (drop k p) (omega arith) ∙ drop_end j (parent_of (drop k p)) none

-- ---- heads that have come to both parents

-- why a head is at no parent
abbrev pub head_error : Graph → Key → ℕ → count.Head → Option Errno
head_error graph p k head = dir_error (left (take head.walked (drop k p)) (parent_of (drop k p))) (graph.shape head.node)

pub text_named : (c : PairCall) (p q : Key) → by_text (AtPair c p q) ≡ None → (0 < length p) × (0 < length q)
text_named (pairs.Rename most) [] q e = absurd (cc)
text_named (pairs.Rename most) (x ∷ p) [] e = absurd (cc)
text_named pairs.Exchange [] q e = absurd (cc)
text_named pairs.Exchange (x ∷ p) [] e = absurd (cc)
text_named c (x ∷ p) (y ∷ q) e = (omega arith, omega arith)

module _ (graph : Graph) (c : PairCall) (p q : Key) (heads : ForkWay) (text : by_text (AtPair c p q) ≡ None) (short : heads.names ≤ length (common (parent_of p) (parent_of q)))
    (source : heads.names + heads.source.walked ≤ length (parent_of p)) (dest : heads.names + heads.dest.walked ≤ length (parent_of q))
    (source_there : head_error graph p heads.names heads.source ≡ None) (dest_there : head_error graph q heads.names heads.dest ≡ None) where
  abbrev k : ℕ
  k = heads.names

  source_walked : take heads.source.walked (drop k p) ≡ parent_of (drop k p)
  source_walked = walked_all p k heads.source.walked (graph.shape heads.source.node) source source_there

  dest_walked : take heads.dest.walked (drop k q) ≡ parent_of (drop k q)
  dest_walked = walked_all q k heads.dest.walked (graph.shape heads.dest.node) dest dest_there

  -- where they stand at one node they have walked the same names, so that one last name means one path
  pub heads_apart : (heads.source.node ≡ heads.dest.node → take heads.source.walked (drop k p) ≡ take heads.dest.walked (drop k q)) → heads.source.node ≡ heads.dest.node → last_of p ≡ last_of q → is_end (after_prefix p q) ≡ true
  heads_apart apart n l =
      let named = text_named c p q text in
      let lp = parent_length p in
      let lq = parent_length q in
      let kp = length-drop k p in
      let kq = length-drop k q in
      let parents : parent_of (drop k p) ≡ parent_of (drop k q) = sym source_walked ∙ apart n ∙ dest_walked in
      let lasts : last_of (drop k p) ≡ last_of (drop k q) = last_drop k p (omega arith) ∙ l ∙ sym (last_drop k q (omega arith)) in
      sym (same_left p q k short) ∙ whole (drop k p) (drop k q) (same_key (drop k p) (drop k q) (omega arith) (omega arith) parents lasts)

  -- from what the rename moves its new directory is not reached
  pub heads_below : (most m : ℕ) (behind victim : Option ℕ) → MovesApart graph (AtPair (pairs.Rename most) (drop k p) (drop k q)) (holdings_with (AtPair c p q) m behind (Some heads) victim)
      → (n : ℕ) → graph.child heads.source.node (last_of p) ≡ Some n → IsReached graph.child n heads.dest.node → ⊥
  heads_below most m behind victim apart n f =
      let named = text_named c p q text in
      let lp = parent_length p in
      apart n source_walked dest_walked (ap (graph.child heads.source.node) (last_drop k p (omega arith)) ∙ f)

  -- of what an exchange moves neither is reached from the other, or both are one
  pub heads_beside : (m : ℕ) (behind victim : Option ℕ) → MovesApart graph (AtPair pairs.Exchange (drop k p) (drop k q)) (holdings_with (AtPair c p q) m behind (Some heads) victim)
      → (n l : ℕ) → graph.child heads.source.node (last_of p) ≡ Some n → graph.child heads.dest.node (last_of q) ≡ Some l → (n ≡ l) ⊎ ((IsReached graph.child n l → ⊥) × (IsReached graph.child l n → ⊥))
  heads_beside m behind victim apart n l f g =
      let named = text_named c p q text in
      let lp = parent_length p in
      let lq = parent_length q in
      apart n l source_walked dest_walked (ap (graph.child heads.source.node) (last_drop k p (omega arith)) ∙ f) (ap (graph.child heads.dest.node) (last_drop k q (omega arith)) ∙ g)
