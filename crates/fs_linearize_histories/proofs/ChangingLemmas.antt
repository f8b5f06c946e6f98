-- What a call changes of a tree: nothing but what stands at its paths and below them, and there by what it reads alone.
use Rattle.std.proofs.Common.{◌≡◌, ◌≢◌, ℕ, Bool, true, false, cond, List, [], ◌∷◌, ◌++◌, Some, None, Option, refl, sym, ap, subst, ◌∙◌}
use Rattle.std.specs.List.{AllByRecursion}
use Rattle.fs_names.specs.Failures.{or_else}
use Rattle.fs_names.specs.Keys.{Key, same_key, after_prefix}
use Rattle.fs_names.specs.Limits.{entry_limit}
use Rattle.fs_names.specs.declared.limits.Limits.{Limits}
use Rattle.fs_names.specs.declared.limits.Limits.TheVariants.{V1}
use Rattle.fs_calls.specs.Tree as tree
use Rattle.fs_calls.specs.Tree.{Tree, Node, look, IsTree, renamed, exchanged}
use Rattle.fs_calls.specs.Sights.{tree_shapes, is_same, row_in}
use Rattle.fs_calls.specs.Forms.{Form, AtNode, AtEntry, AtPair, form, by_text, new_shape}
use Rattle.fs_calls.specs.Forms as pairs
use Rattle.fs_calls.specs.Rows.{new_bytes, Edit, Keep, Add, Remove, edit_of}
use Rattle.fs_calls.specs.Outcomes.{fault, reply, after, reply_of, change_of, filled, edited, node_of, replied, if_sound}
use Rattle.fs_calls.specs.Laws.{IsMoved, IsExchanged}
use Rattle.fs_calls.specs.declared.call.Call.{Call}
use Rattle.fs_calls.specs.declared.errno.Errno.{Errno}
use Rattle.fs_calls.proofs.FormLemmas.{LimitedTo}
use Rattle.fs_calls.proofs.LookLemmas.{look-inserted, look-removed}
use Rattle.fs_calls.proofs.KeyLemmas.{differ, only_same, after_prefix-itself}
use Rattle.fs_calls.proofs.TreeLaws.{renames_move, exchanges_swap}
use Rattle.fs_linearize_histories.specs.Meeting.{paths_in}
use Rattle.fs_linearize_histories.proofs.ReadingLemmas.{AgreesAt, seen_agrees, row_agrees}

-- ---- calls by their forms

-- the first error of a call, and the tree after it
abbrev pub fault_of : Tree → Form → Option Errno
fault_of t f = or_else (by_text f) (row_in (tree_shapes t) f)

abbrev pub after_of : Tree → Form → Tree
after_of t f = if_sound (fault_of t f) t (change_of t f)

pub after_is : (limits : Limits) (t : Tree) (call : Call) → after limits t call ≡ after_of t (form limits call)
unfolding after fault
after_is limits t call = refl

pub reply_is : (limits : Limits) (t : Tree) (call : Call) → reply limits t call ≡ replied (fault_of t (form limits call)) (reply_of t (form limits call))
unfolding reply fault
reply_is limits t call = refl

moves : (limits : Limits) (t : Tree) (p q : Key) → IsTree t → fault_of t (AtPair (pairs.Rename (entry_limit limits)) p q) ≡ None → p ≢ q → IsMoved t (after_of t (AtPair (pairs.Rename (entry_limit limits)) p q)) p q
unfolding after fault
moves limits t p q is sound other = renames_move.moved limits t p q is sound other

swaps : (t : Tree) (p q : Key) → IsTree t → fault_of t (AtPair pairs.Exchange p q) ≡ None → p ≢ q → IsExchanged t (after_of t (AtPair pairs.Exchange p q)) p q
unfolding after fault
swaps t p q is sound other = exchanges_swap.swapped V1 t p q is sound other

-- a call of two paths that are one leaves the tree, and so does an error
stays_same : (t new : Tree) (b : Bool) (found : Option Errno) → b ≡ true → if_sound found t (cond {A = Tree} b t new) ≡ t
stays_same t new b None same = ap (λ c. cond {A = Tree} c t new) same
stays_same t new b (Some e) same = refl

stays_failed : (t new : Tree) (found : Option Errno) (e : Errno) → found ≡ Some e → if_sound found t new ≡ t
stays_failed t new found e failed = ap (λ o. if_sound o t new) failed

-- ---- elsewhere

other_key : (p k : Key) → after_prefix p k ≡ None → same_key k p ≡ false
other_key p k none = differ k p (λ same. let some : after_prefix p k ≡ Some [] = ap (after_prefix p) same ∙ after_prefix-itself p in absurd (cc))

inserted_elsewhere : (t : Tree) (p k : Key) (n : Node) → after_prefix p k ≡ None → look (tree.inserted t p n) k ≡ look t k
inserted_elsewhere t p k n none = look-inserted t p n k ∙ ap (λ b. cond {A = Option Node} b (Some n) (look t k)) (other_key p k none)

filled_elsewhere : (t : Tree) (p k : Key) (o : Option (List ℕ)) → after_prefix p k ≡ None → look (filled t p o) k ≡ look t k
filled_elsewhere t p k None none = refl
filled_elsewhere t p k (Some bytes) none = inserted_elsewhere t p k (tree.File bytes) none

edited_elsewhere : (t : Tree) (p k : Key) (e : Edit) → after_prefix p k ≡ None → look (edited t p e) k ≡ look t k
edited_elsewhere t p k Keep none = refl
edited_elsewhere t p k (Add shape) none = inserted_elsewhere t p k (node_of shape) none
edited_elsewhere t p k Remove none = look-removed t p k ∙ ap (λ b. cond {A = Option Node} b None (look t k)) (other_key p k none)

sound_elsewhere : (t new : Tree) (k : Key) (found : Option Errno) → look new k ≡ look t k → look (if_sound found t new) k ≡ look t k
sound_elsewhere t new k None same = same
sound_elsewhere t new k (Some e) same = refl

renamed_elsewhere : (limits : Limits) (t : Tree) (p q k : Key) (b : Bool) (found : Option Errno) → IsTree t → is_same p q ≡ b → fault_of t (AtPair (pairs.Rename (entry_limit limits)) p q) ≡ found
    → after_prefix p k ≡ None → after_prefix q k ≡ None → look (after_of t (AtPair (pairs.Rename (entry_limit limits)) p q)) k ≡ look t k
renamed_elsewhere limits t p q k true found is same known not_p not_q = ap (λ u. look u k) (stays_same t (renamed t p q) (is_same p q) (fault_of t (AtPair (pairs.Rename (entry_limit limits)) p q)) same)
renamed_elsewhere limits t p q k false (Some e) is other known not_p not_q = ap (λ u. look u k) (stays_failed t (change_of t (AtPair (pairs.Rename (entry_limit limits)) p q)) (fault_of t (AtPair (pairs.Rename (entry_limit limits)) p q)) e known)
renamed_elsewhere limits t p q k false None is other sound not_p not_q = (moves limits t p q is sound (only_same p q other)).others k not_p not_q

exchanged_elsewhere : (t : Tree) (p q k : Key) (b : Bool) (found : Option Errno) → IsTree t → is_same p q ≡ b → fault_of t (AtPair pairs.Exchange p q) ≡ found
    → after_prefix p k ≡ None → after_prefix q k ≡ None → look (after_of t (AtPair pairs.Exchange p q)) k ≡ look t k
exchanged_elsewhere t p q k true found is same known not_p not_q = ap (λ u. look u k) (stays_same t (exchanged t p q) (is_same p q) (fault_of t (AtPair pairs.Exchange p q)) same)
exchanged_elsewhere t p q k false (Some e) is other known not_p not_q = ap (λ u. look u k) (stays_failed t (change_of t (AtPair pairs.Exchange p q)) (fault_of t (AtPair pairs.Exchange p q)) e known)
exchanged_elsewhere t p q k false None is other sound not_p not_q = (swaps t p q is sound (only_same p q other)).others k not_p not_q

-- what stands neither at a path of a call nor below it stays
pub elsewhere : (limits : Limits) (t : Tree) (f : Form) (k : Key) → LimitedTo limits f → IsTree t → AllByRecursion (λ p. after_prefix p k ≡ None) (paths_in f) → look (after_of t f) k ≡ look t k
elsewhere limits t (AtNode c p) k has is none = sound_elsewhere t (change_of t (AtNode c p)) k (fault_of t (AtNode c p)) (filled_elsewhere t p k (new_bytes c (tree_shapes t p)) none.0)
elsewhere limits t (AtEntry c p) k has is none = sound_elsewhere t (change_of t (AtEntry c p)) k (fault_of t (AtEntry c p)) (edited_elsewhere t p k (edit_of (new_shape c)) none.0)
elsewhere limits t (AtPair (pairs.Rename most) p q) k has is none =
    subst (λ n. look (after_of t (AtPair (pairs.Rename n) p q)) k ≡ look t k) (sym has)
    (renamed_elsewhere limits t p q k (is_same p q) (fault_of t (AtPair (pairs.Rename (entry_limit limits)) p q)) is refl refl none.0 none.1.0)
elsewhere limits t (AtPair pairs.Exchange p q) k has is none = exchanged_elsewhere t p q k (is_same p q) (fault_of t (AtPair pairs.Exchange p q)) is refl refl none.0 none.1.0

-- ---- at the paths and below them

pub fault_agrees : (limits : Limits) (s t : Tree) (f : Form) → LimitedTo limits f → IsTree s → IsTree t → AllByRecursion (AgreesAt limits s t) (paths_in f) → fault_of s f ≡ fault_of t f
fault_agrees limits s t f has one other a = ap (or_else (by_text f)) (row_agrees limits s t f has one other a)

inserted_agrees : (s t : Tree) (p k : Key) (n : Node) → look s k ≡ look t k → look (tree.inserted s p n) k ≡ look (tree.inserted t p n) k
inserted_agrees s t p k n same = look-inserted s p n k ∙ ap (cond {A = Option Node} (same_key k p) (Some n)) same ∙ sym (look-inserted t p n k)

filled_agrees : (s t : Tree) (p k : Key) (o : Option (List ℕ)) → look s k ≡ look t k → look (filled s p o) k ≡ look (filled t p o) k
filled_agrees s t p k None same = same
filled_agrees s t p k (Some bytes) same = inserted_agrees s t p k (tree.File bytes) same

edited_agrees : (s t : Tree) (p k : Key) (e : Edit) → look s k ≡ look t k → look (edited s p e) k ≡ look (edited t p e) k
edited_agrees s t p k Keep same = same
edited_agrees s t p k (Add shape) same = inserted_agrees s t p k (node_of shape) same
edited_agrees s t p k Remove same = look-removed s p k ∙ ap (cond {A = Option Node} (same_key k p) None) same ∙ sym (look-removed t p k)

sound_agrees : (s t new changed : Tree) (k : Key) (a b : Option Errno) → a ≡ b → look s k ≡ look t k → look new k ≡ look changed k → look (if_sound a s new) k ≡ look (if_sound b t changed) k
sound_agrees s t new changed k a b same old now = ap (λ o. look (if_sound o s new) k) same ∙ by_fault b
  where
    by_fault : (o : Option Errno) → look (if_sound o s new) k ≡ look (if_sound o t changed) k
    by_fault None = now
    by_fault (Some e) = old

-- at the paths and below them the same stands in two trees
abbrev pub AlikeBelow : Tree → Tree → List Key → Type 0
AlikeBelow s t ps = AllByRecursion (λ p. (r : Key) → look s (p ++ r) ≡ look t (p ++ r)) ps

stays_alike : (limits : Limits) (s t old new : Tree) (p q : Key) → old ≡ s → new ≡ t → AllByRecursion (AgreesAt limits s t) (p ∷ q ∷ []) → AlikeBelow old new (p ∷ q ∷ [])
stays_alike limits s t old new p q one other a = (still p a.0, (still q a.1.0, tt))
  where
    still : (k : Key) → AgreesAt limits s t k → (r : Key) → look old (k ++ r) ≡ look new (k ++ r)
    still k agrees r = ap (λ u. look u (k ++ r)) one ∙ agrees.below r ∙ sym (ap (λ u. look u (k ++ r)) other)

renamed_within : (limits : Limits) (s t : Tree) (p q : Key) (b : Bool) (found : Option Errno) → IsTree s → IsTree t → is_same p q ≡ b → fault_of t (AtPair (pairs.Rename (entry_limit limits)) p q) ≡ found
    → AllByRecursion (AgreesAt limits s t) (p ∷ q ∷ []) → AlikeBelow (after_of s (AtPair (pairs.Rename (entry_limit limits)) p q)) (after_of t (AtPair (pairs.Rename (entry_limit limits)) p q)) (p ∷ q ∷ [])
renamed_within limits s t p q true found one other same known a =
    let f = AtPair (pairs.Rename (entry_limit limits)) p q in
    stays_alike limits s t (after_of s f) (after_of t f) p q (stays_same s (renamed s p q) (is_same p q) (fault_of s f) same) (stays_same t (renamed t p q) (is_same p q) (fault_of t f) same) a
renamed_within limits s t p q false (Some e) one other apart known a =
    let f = AtPair (pairs.Rename (entry_limit limits)) p q in
    stays_alike limits s t (after_of s f) (after_of t f) p q (stays_failed s (change_of s f) (fault_of s f) e (fault_agrees limits s t f refl one other a ∙ known)) (stays_failed t (change_of t f) (fault_of t f) e known) a
renamed_within limits s t p q false None one other apart sound a =
    let old = moves limits s p q one (fault_agrees limits s t (AtPair (pairs.Rename (entry_limit limits)) p q) refl one other a ∙ sound) (only_same p q apart) in
    let new = moves limits t p q other sound (only_same p q apart) in
    (λ r. old.gone r ∙ sym (new.gone r), (λ r. old.arrived r ∙ a.0.below r ∙ sym (new.arrived r), tt))

exchanged_within : (limits : Limits) (s t : Tree) (p q : Key) (b : Bool) (found : Option Errno) → IsTree s → IsTree t → is_same p q ≡ b → fault_of t (AtPair pairs.Exchange p q) ≡ found
    → AllByRecursion (AgreesAt limits s t) (p ∷ q ∷ []) → AlikeBelow (after_of s (AtPair pairs.Exchange p q)) (after_of t (AtPair pairs.Exchange p q)) (p ∷ q ∷ [])
exchanged_within limits s t p q true found one other same known a =
    let f = AtPair pairs.Exchange p q in
    stays_alike limits s t (after_of s f) (after_of t f) p q (stays_same s (exchanged s p q) (is_same p q) (fault_of s f) same) (stays_same t (exchanged t p q) (is_same p q) (fault_of t f) same) a
exchanged_within limits s t p q false (Some e) one other apart known a =
    let f = AtPair pairs.Exchange p q in
    stays_alike limits s t (after_of s f) (after_of t f) p q (stays_failed s (change_of s f) (fault_of s f) e (fault_agrees limits s t f tt one other a ∙ known)) (stays_failed t (change_of t f) (fault_of t f) e known) a
exchanged_within limits s t p q false None one other apart sound a =
    let old = swaps s p q one (fault_agrees limits s t (AtPair pairs.Exchange p q) tt one other a ∙ sound) (only_same p q apart) in
    let new = swaps t p q other sound (only_same p q apart) in
    (λ r. old.other r ∙ a.1.0.below r ∙ sym (new.other r), (λ r. old.one r ∙ a.0.below r ∙ sym (new.one r), tt))

-- trees that agree in what a call reads agree, after it, at its paths and below them
pub within : (limits : Limits) (s t : Tree) (f : Form) → LimitedTo limits f → IsTree s → IsTree t → AllByRecursion (AgreesAt limits s t) (paths_in f) → AlikeBelow (after_of s f) (after_of t f) (paths_in f)
within limits s t (AtNode c p) has one other a = (
  λ r. sound_agrees s t (change_of s (AtNode c p)) (change_of t (AtNode c p)) (p ++ r) (fault_of s (AtNode c p)) (fault_of t (AtNode c p)) (fault_agrees limits s t (AtNode c p) has one other a) (a.0.below r)
      (filled_agrees s t p (p ++ r) (new_bytes c (tree_shapes s p)) (a.0.below r) ∙ ap (λ seen. look (filled t p (new_bytes c seen)) (p ++ r)) (seen_agrees limits s t p one other a.0)),
  tt,
)
within limits s t (AtEntry c p) has one other a = (
  λ r. sound_agrees s t (change_of s (AtEntry c p)) (change_of t (AtEntry c p)) (p ++ r) (fault_of s (AtEntry c p)) (fault_of t (AtEntry c p)) (fault_agrees limits s t (AtEntry c p) has one other a) (a.0.below r)
      (edited_agrees s t p (p ++ r) (edit_of (new_shape c)) (a.0.below r)),
  tt,
)
within limits s t (AtPair (pairs.Rename most) p q) has one other a =
    subst (λ n. AlikeBelow (after_of s (AtPair (pairs.Rename n) p q)) (after_of t (AtPair (pairs.Rename n) p q)) (p ∷ q ∷ [])) (sym has)
    (renamed_within limits s t p q (is_same p q) (fault_of t (AtPair (pairs.Rename (entry_limit limits)) p q)) one other refl refl a)
within limits s t (AtPair pairs.Exchange p q) has one other a = exchanged_within limits s t p q (is_same p q) (fault_of t (AtPair pairs.Exchange p q)) one other refl refl a
