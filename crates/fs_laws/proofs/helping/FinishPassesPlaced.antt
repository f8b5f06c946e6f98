-- A call that finishes goes past the placed ones: they settle to the same, and each answers the same.
use Rattle.std.proofs.Common.{◌≡◌, ℕ, Bool, true, false, cond, not, ◌&&◌, ◌||◌, List, [], ◌∷◌, ◌++◌, Option, Some, None, refl, sym, ap, ◌∙◌, append_assoc, append-nil, subst, ◌⊎◌, inl, inr, ap₂}
use mathlib.Core.Path.{fun_ext}
use Rattle.fs_names.specs.Keys.{Key, after_prefix, has_more, parent_of, last_of, is_end}
use Rattle.fs_names.specs.Names.{Name, same_name, inserted_name, removed_name}
use Rattle.fs_names.specs.Parts.{HasNames}
use Rattle.fs_names.specs.Shapes.{Shape, Dir, File, is_full, names_of, is_missing}
use Rattle.fs_laws.specs.Changes.{Rekeying, Stay, MoveTo, Swap, Change, moved_by, changed, resolve, resolve_dir, content_change, edit_change, rename_writes, move_change, entry_looked, rename_looked, looked, if_sound, outcome, reply, after, exchange_looked, swap_change}
use Rattle.fs_calls.specs.Forms.{Form, AtNode, AtEntry, AtPair, by_text, under, Fits, EntryCall, Mkdir, Mknod, Unlink, Rmdir}
use Rattle.fs_calls.specs.Forms as pairs
use Rattle.fs_laws.specs.Maps.{Map, below, act, put, move, swapped, swap, write_all}
use Rattle.fs_calls.specs.Rows.{as_dir, node_row, Edit, Keep, Add, Remove, entry_row, rename_row, exchange_row, answered}
use Rattle.fs_laws.proofs.finish.RowParts.{made, entry_row_in_dir, to_row, moves_row, rename_row_in_dirs}
use Rattle.fs_calls.proofs.RowNames.{on_dir}
use Rattle.fs_calls.specs.declared.errno.Errno.{Errno}
use Rattle.fs_calls.specs.declared.reply.Reply.{Reply}
use Rattle.fs_machine.specs.Moves.{victim_of, same_kind}
use Rattle.fs_laws.specs.Placed.{NoneUnder, kind, Agree, looks_into, ReadsNothingBelow, Aside, AllOff, MovesNothingBelow, ChangesNothingBelow, rekey, rekey_by, rekey_move, rekey_all, InPlace, Passes, PastAll}
use Rattle.fs_laws.specs.Settled.{settle, settle_replies}
use Rattle.fs_laws.proofs.trees.Prefixes.{same_true, prefix_append, prefix_some, prefix_none, prefix_longer}
use Rattle.fs_laws.proofs.trees.Commuting.{act_in, act_out, inside_differs, put_other, move_act_under, move_act_apart, move_to, move_else, swapped_first, swapped_second, swapped_else, swap_first, swap_second, swap_else, swap_act_first, swap_act_second, swap_act_apart}
use Rattle.fs_laws.proofs.trees.SeveralWrites.{writes_act}
use Rattle.fs_laws.proofs.calls.Located.{outcome_located, after_located, key_is, in_more, from_more, to_more}
use Rattle.fs_names.specs.Failures.{check, first_failure}
use Rattle.fs_calls.specs.declared.errno.Errno.TheVariants.{Enoent}
use Rattle.fs_calls.specs.declared.reply.Reply.TheVariants.{Done}

-- a key before one that is not below k is not below k
pub prefix_before : (k a b : Key) → after_prefix k (a ++ b) ≡ None → after_prefix k a ≡ None
prefix_before k a b e = go (after_prefix k a) refl
  where
    go : (o : Option Key) → after_prefix k a ≡ o → o ≡ None
    go None f = refl
    go (Some r) f = let g : after_prefix k (a ++ b) ≡ Some (r ++ b) = prefix_longer k a b r f in cc

pub resolve_same : (a b : Map Shape) (d : Key) → ((x y : Key) → d ≡ x ++ y → a x ≡ b x) → resolve a d ≡ resolve b d
resolve_same a b [] h = refl
resolve_same a b (x ∷ d) h =
    let e : a [] ≡ b [] = h [] (x ∷ d) refl in
    let f : a (x ∷ []) ≡ b (x ∷ []) = h (x ∷ []) d refl in
    let g : resolve (below (x ∷ []) a) d ≡ resolve (below (x ∷ []) b) d = resolve_same (below (x ∷ []) a) (below (x ∷ []) b) d (λ y z i. h (x ∷ y) z (ap (λ (l : Key). x ∷ l) i)) in
    cc

pub resolve_agree : (k d : Key) (a b : Map Shape) → Agree k a b → after_prefix k d ≡ None → resolve a d ≡ resolve b d
resolve_agree k d a b g e = resolve_same a b d (λ x y i. g.off x (prefix_before k x y (rw i at e)))

pub dir_agree : (k d : Key) (a b : Map Shape) → Agree k a b → after_prefix k d ≡ None → resolve_dir a d ≡ resolve_dir b d
dir_agree k d a b g e = ap₂ as_dir (resolve_agree k d a b g e) (g.off d e)

-- a child of what is not below k is not below k, or is k
pub child_cases : (k d : Key) (x : Name) → after_prefix k d ≡ None → (after_prefix k (d ++ x ∷ []) ≡ None) ⊎ (k ≡ d ++ x ∷ [])
child_cases [] d x e = cc
child_cases (y ∷ k) [] x e =
    (elim (same_name y x) as (λ b. same_name y x ≡ b → (cond b (after_prefix k []) None ≡ None) ⊎ (y ∷ k ≡ x ∷ [])) [
      | true ↦ λ s. at_end k (same_true y x s)
      | false ↦ λ s. inl refl
    ]) refl
  where
    at_end : (k : Key) → y ≡ x → (after_prefix k [] ≡ None) ⊎ (y ∷ k ≡ x ∷ [])
    at_end [] s = inr (ap (λ (n : Name). n ∷ []) s)
    at_end (z ∷ k) s = inl refl
child_cases (y ∷ k) (z ∷ d) x e =
    (elim (same_name y z) as (λ b. same_name y z ≡ b → (cond b (after_prefix k (d ++ x ∷ [])) None ≡ None) ⊎ (y ∷ k ≡ z ∷ (d ++ x ∷ []))) [
      | true ↦ λ s. longer y z k (d ++ x ∷ []) (same_true y z s) (child_cases k d x (rw s at e))
      | false ↦ λ s. inl refl
    ]) refl
  where
    longer : (y z : Name) (k l : Key) → y ≡ z → (after_prefix k l ≡ None) ⊎ (k ≡ l) → (after_prefix k l ≡ None) ⊎ (y ∷ k ≡ z ∷ l)
    longer y z k l s (inl h) = inl h
    longer y z k l s (inr h) = inr cc

-- the kinds agree at each entry of what is not below k
pub kind_agree : (k : Key) (a b : Map Shape) (p : Key) → Agree k a b → HasNames p → after_prefix k (parent_of p) ≡ None → kind (a p) ≡ kind (b p)
kind_agree k a b p g m e = go (child_cases k (parent_of p) (last_of p) e)
  where
    go : (after_prefix k (parent_of p ++ last_of p ∷ []) ≡ None) ⊎ (k ≡ parent_of p ++ last_of p ∷ []) → kind (a p) ≡ kind (b p)
    go (inl h) = ap kind (g.off p (subst (λ (l : Key). after_prefix k l ≡ None) (sym (key_is p m)) h))
    go (inr h) = subst (λ (l : Key). kind (a l) ≡ kind (b l)) (h ∙ sym (key_is p m)) g.here

-- rows that read no more than a kind
made_kind : (new : Shape) (full : Bool) (s t : Option Shape) → kind s ≡ kind t → made new full s ≡ made new full t
made_kind new full None None h = refl
made_kind new full (Some s) (Some t) h = refl
made_kind new full None (Some (Dir n)) h = cc
made_kind new full None (Some (File n)) h = cc
made_kind new full (Some (Dir n)) None h = cc
made_kind new full (Some (File n)) None h = cc

in_kind : (c : EntryCall) (parent s t : Option Shape) → victim_of c s ≡ false → kind s ≡ kind t → entry_row_in_dir c parent s ≡ entry_row_in_dir c parent t
in_kind (Mkdir most) parent s t v h = made_kind (Dir []) (is_full most parent) s t h
in_kind (Mknod most) parent s t v h = made_kind (File []) (is_full most parent) s t h
in_kind Unlink parent None None v h = refl
in_kind Unlink parent None (Some (Dir n)) v h = cc
in_kind Unlink parent None (Some (File n)) v h = cc
in_kind Unlink parent (Some (Dir n)) None v h = cc
in_kind Unlink parent (Some (Dir n)) (Some (Dir m)) v h = refl
in_kind Unlink parent (Some (Dir n)) (Some (File m)) v h = cc
in_kind Unlink parent (Some (File n)) t v h = cc
in_kind Rmdir parent None None v h = refl
in_kind Rmdir parent None (Some (Dir n)) v h = cc
in_kind Rmdir parent None (Some (File n)) v h = cc
in_kind Rmdir parent (Some (File n)) None v h = cc
in_kind Rmdir parent (Some (File n)) (Some (File m)) v h = refl
in_kind Rmdir parent (Some (File n)) (Some (Dir m)) v h = cc
in_kind Rmdir parent (Some (Dir n)) t v h = cc

row_in_kind : (c : EntryCall) (e : Option Errno) (parent s t : Option Shape) → entry_row_in_dir c parent s ≡ entry_row_in_dir c parent t → entry_row c e parent s ≡ entry_row c e parent t
row_in_kind c (Some e) parent s t h = refl
row_in_kind c None parent s t h = h

-- of p its kind alone
to_moved : (m n : Shape) (s : Option Shape) (room : Bool) → kind (Some m) ≡ kind (Some n) → to_row m s room ≡ to_row n s room
to_moved (Dir m) (Dir n) s room h = go s room
  where
    go : (s : Option Shape) (room : Bool) → to_row (Dir m) s room ≡ to_row (Dir n) s room
    go None true = refl
    go None false = refl
    go (Some (Dir [])) room = refl
    go (Some (Dir (x ∷ q))) room = refl
    go (Some (File q)) room = refl
to_moved (File m) (File n) s room h = go s room
  where
    go : (s : Option Shape) (room : Bool) → to_row (File m) s room ≡ to_row (File n) s room
    go None true = refl
    go None false = refl
    go (Some (Dir q)) room = refl
    go (Some (File q)) room = refl
to_moved (Dir m) (File n) s room h = cc
to_moved (File m) (Dir n) s room h = cc

-- of q its kind alone, where the kinds differ
to_there : (m : Shape) (s t : Option Shape) (room : Bool) → same_kind (Some m) s ≡ false → kind s ≡ kind t → to_row m s room ≡ to_row m t room
to_there m None None room v h = refl
to_there m None (Some (Dir n)) room v h = cc
to_there m None (Some (File n)) room v h = cc
to_there m (Some (Dir n)) None room v h = cc
to_there m (Some (File n)) None room v h = cc
to_there (Dir m) (Some (Dir n)) t room v h = cc
to_there (File m) (Some (File n)) t room v h = cc
to_there (Dir m) (Some (File n)) (Some (File q)) room v h = refl
to_there (File m) (Some (Dir n)) (Some (Dir q)) room v h = refl
to_there (Dir m) (Some (File n)) (Some (Dir q)) room v h = cc
to_there (File m) (Some (Dir n)) (Some (File q)) room v h = cc

from_moved : (m n : Option Shape) (same_path : Bool) (s : Option Shape) (room : Bool) → kind m ≡ kind n → rename_row_in_dirs m same_path s room ≡ rename_row_in_dirs n same_path s room
from_moved None None same_path s room h = refl
from_moved (Some m) (Some n) true s room h = refl
from_moved (Some m) (Some n) false s room h = ap moves_row (to_moved m n s room h)
from_moved None (Some (Dir n)) same_path s room h = cc
from_moved None (Some (File n)) same_path s room h = cc
from_moved (Some (Dir n)) None same_path s room h = cc
from_moved (Some (File n)) None same_path s room h = cc

from_there : (m : Option Shape) (same_path : Bool) (s t : Option Shape) (room : Bool) → (same_path ≡ false → same_kind m s ≡ true → s ≡ t) → kind s ≡ kind t → rename_row_in_dirs m same_path s room ≡ rename_row_in_dirs m same_path t room
from_there None same_path s t room v h = refl
from_there (Some m) true s t room v h = refl
from_there (Some m) false s t room v h = ap moves_row (go (same_kind (Some m) s) refl)
  where
    go : (b : Bool) → same_kind (Some m) s ≡ b → to_row m s room ≡ to_row m t room
    go true e = ap (λ (o : Option Shape). to_row m o room) (v refl e)
    go false e = to_there m s t room e h

rename_kind : (d e f : Option Errno) (m n : Option Shape) (b : Bool) (s t : Option Shape) (r u : Bool) → (d ≡ None → (e ≡ f) × (rename_row_in_dirs m b s r ≡ rename_row_in_dirs n b t u)) → rename_row d e m b s r ≡ rename_row d f n b t u
rename_kind (Some d) e f m n b s t r u h = refl
rename_kind None e f m n b s t r u h = go e f (h refl)
  where
    go : (e f : Option Errno) → (e ≡ f) × (rename_row_in_dirs m b s r ≡ rename_row_in_dirs n b t u) → rename_row None e m b s r ≡ rename_row None f n b t u
    go None None i = i.1
    go (Some e) (Some f) i = let z : ◌≡◌ {A = Option Errno} (Some e) (Some f) = i.0 in cc
    go None (Some f) i = let z : ◌≡◌ {A = Option Errno} None (Some f) = i.0 in cc
    go (Some e) None i = let z : ◌≡◌ {A = Option Errno} (Some e) None = i.0 in cc

-- a call that reads nothing below k answers the same on trees that agree
in_agree : (k : Key) (a b : Map Shape) (c : EntryCall) (p : Key) → HasNames p → Agree k a b → ReadsNothingBelow a (AtEntry c p) k → entry_looked a c p (parent_of p) (last_of p) ≡ entry_looked b c p (parent_of p) (last_of p)
in_agree k a b c p m g h =
    let da : Option Errno = resolve_dir a (parent_of p) in
    let row : entry_row c da (a (parent_of p)) (a p) ≡ entry_row c da (a (parent_of p)) (b p) = row_in_kind c da (a (parent_of p)) (a p) (b p) (there (victim_of c (a p)) refl) in
    ap (λ (r : Reply × Edit). (r.0, edit_change (parent_of p) (names_of (a (parent_of p))) (last_of p) p r.1)) row
    ∙ ap₂ (λ (e : Option Errno) (s : Option Shape). ((entry_row c e s (b p)).0, edit_change (parent_of p) (names_of s) (last_of p) p (entry_row c e s (b p)).1)) (dir_agree k (parent_of p) a b g h.0) (g.off (parent_of p) h.0)
  where
    there : (v : Bool) → victim_of c (a p) ≡ v → entry_row_in_dir c (a (parent_of p)) (a p) ≡ entry_row_in_dir c (a (parent_of p)) (b p)
    there true e = ap (entry_row_in_dir c (a (parent_of p))) (g.off p (h.1 e))
    there false e = in_kind c (a (parent_of p)) (a p) (b p) e (kind_agree k a b p g m h.0)

-- q is a proper prefix of p: it is not below k, as it is at or above p's parent
prefix_off : (k p q : Key) (o : Option Key) → HasNames p → after_prefix q p ≡ o → has_more o ≡ true → after_prefix k (parent_of p) ≡ None → after_prefix k q ≡ None
prefix_off k p q None m e b h = cc
prefix_off k p q (Some []) m e b h = cc
prefix_off k p q (Some (x ∷ r)) m e b h = prefix_before k q (parent_of (x ∷ r)) (subst (λ (l : Key). after_prefix k l ≡ None) (ap parent_of (prefix_some q p (x ∷ r) e) ∙ at_end q) h)
  where
    at_end : (q : Key) → parent_of (q ++ x ∷ r) ≡ q ++ parent_of (x ∷ r)
    at_end [] = refl
    at_end (y ∷ []) = refl
    at_end (y ∷ z ∷ q) = ap (λ (l : Key). y ∷ l) (at_end (z ∷ q))

abbrev answer_of : Key → Key → Key → Name → Key → Name → List Name → List Name → Reply × Bool → Reply × Change
answer_of p q d x e y names others r = (r.0, move_change r.1 (rename_writes (is_end (after_prefix d e)) d names x e others y) p q)

rename_agree : (k : Key) (a b : Map Shape) (most : ℕ) (p q d e : Key) (x y : Name) → d ≡ parent_of p → e ≡ parent_of q → HasNames p → HasNames q → Agree k a b → ReadsNothingBelow a (AtPair (pairs.Rename most) p q) k
    → rename_looked a most p q d x e y ≡ rename_looked b most p q d x e y
rename_agree k a b most p q d e x y is_d is_e mp mq g h = by (resolve_dir a d) refl
  where
    off_d : after_prefix k d ≡ None
    off_d = ap (after_prefix k) is_d ∙ h.0

    p_kind : kind (a p) ≡ kind (b p)
    p_kind = kind_agree k a b p g mp h.0

    same_dirs : resolve_dir a d ≡ resolve_dir b d
    same_dirs = dir_agree k d a b g off_d

    fails : (f : Errno) (ea eb : Option Errno) (da db : Option Errno) (na nb ma mb : List Name) (s t : Bool) → da ≡ Some f → db ≡ Some f
        → answer_of p q d x e y na ma (rename_row da ea (a p) (is_end (after_prefix p q)) (a q) s)
        ≡ answer_of p q d x e y nb mb (rename_row db eb (b p) (is_end (after_prefix p q)) (b q) t)
    fails f ea eb da db na nb ma mb s t i j = rw (i, j) refl

    by : (o : Option Errno) → resolve_dir a d ≡ o → rename_looked a most p q d x e y ≡ rename_looked b most p q d x e y
    by (Some f) i = fails f (resolve_dir a e) (resolve_dir b e) (resolve_dir a d) (resolve_dir b d) (names_of (a d)) (names_of (b d)) (names_of (a e)) (names_of (b e)) (is_end (after_prefix d e) || not (is_full most (a e))) (is_end (after_prefix d e) || not (is_full most (b e))) i (sym same_dirs ∙ i)
    by None i =
        ap (λ (r : Reply × Bool). (r.0, move_change r.1 (rename_writes (is_end (after_prefix d e)) d (names_of (a d)) x e (names_of (a e)) y) p q)) rows
        ∙ ap₂ (λ (u : Option Errno) (s : Option Shape). moved u (resolve_dir b e) s (a e)) same_dirs (g.off d off_d)
        ∙ ap (λ (s : Option Shape). moved (resolve_dir b d) (resolve_dir b e) (b d) s) (g.off e off_e)
      where
        moved : Option Errno → Option Errno → Option Shape → Option Shape → Reply × Change
        moved u v s t = (let r : Reply × Bool = rename_row u v (b p) (is_end (after_prefix p q)) (b q) (is_end (after_prefix d e) || not (is_full most t)) in (r.0, move_change r.1 (rename_writes (is_end (after_prefix d e)) d (names_of s) x e (names_of t) y) p q))

        rest : (after_prefix k (parent_of q) ≡ None) × (looks_into a p q ≡ true → after_prefix k q ≡ None)
        rest = h.1 (ap (resolve_dir a) (sym is_d) ∙ i)

        off_e : after_prefix k e ≡ None
        off_e = ap (after_prefix k) is_e ∙ rest.0

        q_kind : kind (a q) ≡ kind (b q)
        q_kind = kind_agree k a b q g mq rest.0

        q_same : is_end (after_prefix p q) ≡ false → same_kind (a p) (a q) ≡ true → a q ≡ b q
        q_same n s = go (has_more (after_prefix q p)) refl
          where
            go : (c : Bool) → has_more (after_prefix q p) ≡ c → a q ≡ b q
            go true j = g.off q (prefix_off k p q (after_prefix q p) mp refl j h.0)
            go false j = g.off q (rest.1 (all_true (same_kind (a p) (a q)) (is_end (after_prefix p q)) (has_more (after_prefix q p)) s n j))
              where
                all_true : (u v w : Bool) → u ≡ true → v ≡ false → w ≡ false → (u && not v && not w) ≡ true
                all_true true false false i j k = refl
                all_true false v w i j k = cc
                all_true true true w i j k = cc
                all_true true false true i j k = cc

        rows : rename_row (resolve_dir a d) (resolve_dir a e) (a p) (is_end (after_prefix p q)) (a q) (is_end (after_prefix d e) || not (is_full most (a e))) ≡ rename_row (resolve_dir a d) (resolve_dir b e) (b p) (is_end (after_prefix p q)) (b q) (is_end (after_prefix d e) || not (is_full most (a e)))
        rows = rename_kind (resolve_dir a d) (resolve_dir a e) (resolve_dir b e) (a p) (b p) (is_end (after_prefix p q)) (a q) (b q) (is_end (after_prefix d e) || not (is_full most (a e))) (is_end (after_prefix d e) || not (is_full most (a e)))
            (λ z. (
              dir_agree k e a b g off_e,
              from_there (a p) (is_end (after_prefix p q)) (a q) (b q) (is_end (after_prefix d e) || not (is_full most (a e))) q_same q_kind
                  ∙ from_moved (a p) (b p) (is_end (after_prefix p q)) (b q) (is_end (after_prefix d e) || not (is_full most (a e))) p_kind,
            ))

missing_kind : (s t : Option Shape) → kind s ≡ kind t → is_missing s ≡ is_missing t
missing_kind None None e = refl
missing_kind (Some s) (Some t) e = refl
missing_kind None (Some (Dir t)) e = cc
missing_kind None (Some (File t)) e = cc
missing_kind (Some (Dir s)) None e = cc
missing_kind (Some (File s)) None e = cc

-- an exchange reads of its entries whether they are there
exchange_kind : (c d e : Option Errno) (m n s t : Option Shape) (b : Bool) → (c ≡ None → (d ≡ e) × (kind m ≡ kind n) × (kind s ≡ kind t)) → exchange_row c d m b s ≡ exchange_row c e n b t
exchange_kind (Some f) d e m n s t b h = refl
exchange_kind None d e m n s t b h =
    let same : (d ≡ e) × (kind m ≡ kind n) × (kind s ≡ kind t) = h refl in
    ap (λ (x : Option Errno). exchange_row None x m b s) same.0
    ∙ ap₂ (λ (x y : Bool). answered (first_failure (None ∷ e ∷ check x Enoent ∷ check y Enoent ∷ [])) false Done (not b)) (missing_kind m n same.1) (missing_kind s t same.2)

exchange_agree : (k : Key) (a b : Map Shape) (p q : Key) → HasNames p → HasNames q → Agree k a b → ReadsNothingBelow a (AtPair pairs.Exchange p q) k
    → exchange_looked a p q (parent_of p) (parent_of q) ≡ exchange_looked b p q (parent_of p) (parent_of q)
exchange_agree k a b p q mp mq g h = ap (λ (r : Reply × Bool). (r.0, swap_change r.1 p q))
    (exchange_kind (resolve_dir a (parent_of p)) (resolve_dir a (parent_of q)) (resolve_dir b (parent_of q)) (a p) (b p) (a q) (b q) (is_end (after_prefix p q)) (λ i. (dir_agree k (parent_of q) a b g (h.1 i), kind_agree k a b p g mp h.0, kind_agree k a b q g mq (h.1 i)))
    ∙ ap (λ (e : Option Errno). exchange_row e (resolve_dir b (parent_of q)) (b p) (is_end (after_prefix p q)) (b q)) (dir_agree k (parent_of p) a b g h.0))

pub outcome_agree : (k : Key) (a b : Map Shape) (call : Form) → Agree k a b → ReadsNothingBelow a call k → outcome a call ≡ outcome b call
outcome_agree k a b (AtNode c p) g h = ap₂ (λ (e : Option Errno) (s : Option Shape). ((node_row c e s).0, content_change p (node_row c e s).1)) (resolve_agree k p a b g h) (g.off p h)
outcome_agree k a b (AtEntry c p) g h = go p g h
  where
    go : (p : Key) → Agree k a b → ReadsNothingBelow a (AtEntry c p) k → outcome a (AtEntry c p) ≡ outcome b (AtEntry c p)
    go [] g h = refl
    go (x ∷ p) g h = in_agree k a b c (x ∷ p) tt g h
outcome_agree k a b (AtPair (pairs.Rename most) p q) g h = go p q g h
  where
    go : (p q : Key) → Agree k a b → ReadsNothingBelow a (AtPair (pairs.Rename most) p q) k → outcome a (AtPair (pairs.Rename most) p q) ≡ outcome b (AtPair (pairs.Rename most) p q)
    go [] q g h = refl
    go (x ∷ p) [] g h = refl
    go (x ∷ p) (y ∷ q) g h = ap (if_sound (by_text (AtPair (pairs.Rename most) (x ∷ p) (y ∷ q)))) (rename_agree k a b most (x ∷ p) (y ∷ q) (parent_of (x ∷ p)) (parent_of (y ∷ q)) (last_of (x ∷ p)) (last_of (y ∷ q)) refl refl tt tt g h)
outcome_agree k a b (AtPair pairs.Exchange p q) g h = go p q g h
  where
    go : (p q : Key) → Agree k a b → ReadsNothingBelow a (AtPair pairs.Exchange p q) k → outcome a (AtPair pairs.Exchange p q) ≡ outcome b (AtPair pairs.Exchange p q)
    go [] q g h = refl
    go (x ∷ p) [] g h = refl
    go (x ∷ p) (y ∷ q) g h = ap (if_sound (by_text (AtPair pairs.Exchange (x ∷ p) (y ∷ q)))) (exchange_agree k a b (x ∷ p) (y ∷ q) tt tt g h)

-- looks_into reads kinds alone
same_kind_kind : (s t u v : Option Shape) → kind s ≡ kind u → kind t ≡ kind v → same_kind s t ≡ same_kind u v
same_kind_kind None t None v e f = refl
same_kind_kind (Some (Dir a)) None (Some (Dir c)) None e f = refl
same_kind_kind (Some (Dir a)) (Some (Dir b)) (Some (Dir c)) (Some (Dir d)) e f = refl
same_kind_kind (Some (Dir a)) (Some (File b)) (Some (Dir c)) (Some (File d)) e f = refl
same_kind_kind (Some (File a)) None (Some (File c)) None e f = refl
same_kind_kind (Some (File a)) (Some (Dir b)) (Some (File c)) (Some (Dir d)) e f = refl
same_kind_kind (Some (File a)) (Some (File b)) (Some (File c)) (Some (File d)) e f = refl
same_kind_kind None t (Some (Dir c)) v e f = cc
same_kind_kind None t (Some (File c)) v e f = cc
same_kind_kind (Some (Dir a)) t None v e f = cc
same_kind_kind (Some (File a)) t None v e f = cc
same_kind_kind (Some (Dir a)) t (Some (File c)) v e f = cc
same_kind_kind (Some (File a)) t (Some (Dir c)) v e f = cc
same_kind_kind (Some s) None (Some u) (Some (Dir d)) e f = cc
same_kind_kind (Some s) None (Some u) (Some (File d)) e f = cc
same_kind_kind (Some s) (Some (Dir b)) (Some u) None e f = cc
same_kind_kind (Some s) (Some (File b)) (Some u) None e f = cc
same_kind_kind (Some s) (Some (Dir b)) (Some u) (Some (File d)) e f = cc
same_kind_kind (Some s) (Some (File b)) (Some u) (Some (Dir d)) e f = cc

victim_kind : (c : EntryCall) (s t : Option Shape) → kind s ≡ kind t → victim_of c s ≡ victim_of c t
victim_kind c None None h = refl
victim_kind (Mkdir most) (Some s) (Some t) h = refl
victim_kind (Mknod most) (Some s) (Some t) h = refl
victim_kind Unlink (Some (Dir s)) (Some (Dir t)) h = refl
victim_kind Unlink (Some (File s)) (Some (File t)) h = refl
victim_kind Rmdir (Some (Dir s)) (Some (Dir t)) h = refl
victim_kind Rmdir (Some (File s)) (Some (File t)) h = refl
victim_kind c (Some (Dir s)) (Some (File t)) h = cc
victim_kind c (Some (File s)) (Some (Dir t)) h = cc
victim_kind c None (Some (Dir t)) h = cc
victim_kind c None (Some (File t)) h = cc
victim_kind c (Some (Dir t)) None h = cc
victim_kind c (Some (File t)) None h = cc

-- what is blind to k2 on one tree is so on another that agrees off k
pub blind_agree : (k j : Key) (a b : Map Shape) (call : Form) → Agree k a b → Fits call → ReadsNothingBelow a call k → ReadsNothingBelow a call j → ReadsNothingBelow b call j
blind_agree k j a b (AtNode c p) g f h i = i
blind_agree k j a b (AtEntry c p) g f h i = (i.0, λ v. i.1 (victim_kind c (a p) (b p) (kind_agree k a b p g (in_more c p f) h.0) ∙ v))
blind_agree k j a b (AtPair (pairs.Rename most) p q) g f h i = (
  i.0,
  λ e.
      let ea : resolve_dir a (parent_of p) ≡ None = dir_agree k (parent_of p) a b g h.0 ∙ e in
      let hk : (after_prefix k (parent_of q) ≡ None) × (looks_into a p q ≡ true → after_prefix k q ≡ None) = h.1 ea in
      let ij : (after_prefix j (parent_of q) ≡ None) × (looks_into a p q ≡ true → after_prefix j q ≡ None) = i.1 ea in
      (ij.0, λ l. ij.1 (ap (λ (s : Bool). s && not (is_end (after_prefix p q)) && not (has_more (after_prefix q p))) (same_kind_kind (a p) (a q) (b p) (b q) (kind_agree k a b p g (from_more (pairs.Rename most) p q f) h.0) (kind_agree k a b q g (to_more (pairs.Rename most) p q f) hk.0)) ∙ l)),
)
blind_agree k j a b (AtPair pairs.Exchange p q) g f h i = (i.0, λ e. i.1 (dir_agree k (parent_of p) a b g h.0 ∙ e))

-- a call that has somewhere to stand keeps the kind of where it stands
root_dir : (tree : Map Shape) (d : Key) → resolve_dir tree d ≡ None → d ≡ [] → Some true ≡ kind (tree [])
root_dir tree d e i = go (tree []) (ap (resolve_dir tree) (sym i) ∙ e)
  where
    go : (s : Option Shape) → as_dir None s ≡ None → Some true ≡ kind s
    go None e = cc
    go (Some (Dir names)) e = refl
    go (Some (File bytes)) e = cc

put_kind : (p : Key) (v : Option Shape) (tree : Map Shape) → (p ≡ [] → kind v ≡ kind (tree [])) → kind (put p v tree []) ≡ kind (tree [])
put_kind [] v tree h = h refl
put_kind (x ∷ p) v tree h = refl

put_more : (p : Key) (v : Option Shape) (tree : Map Shape) → HasNames p → kind (put p v tree []) ≡ kind (tree [])
put_more p v tree m = put_kind p v tree (λ i. absurd (subst HasNames i m))

move_root : (p q : Key) (tree : Map Shape) → HasNames p → HasNames q → move p q tree [] ≡ tree []
move_root p [] tree m n = absurd n
move_root [] (y ∷ q) tree m n = absurd m
move_root (x ∷ p) (y ∷ q) tree m n = refl

swap_root : (p q : Key) (tree : Map Shape) (b : Bool) → HasNames p → HasNames q → changed (swap_change b p q) tree [] ≡ tree []
swap_root p [] tree b m n = absurd n
swap_root [] (y ∷ q) tree b m n = absurd m
swap_root (x ∷ p) (y ∷ q) tree true m n = refl
swap_root (x ∷ p) (y ∷ q) tree false m n = refl

looked_root : (tree : Map Shape) (call : Form) → Fits call → kind (changed (looked tree call).1 tree []) ≡ kind (tree [])
looked_root tree (AtNode c p) fits = go (resolve tree p) (tree p) refl
  where
    file : (bytes : List ℕ) (o : Option (List ℕ)) → tree p ≡ Some (File bytes) → kind (changed (content_change p o) tree []) ≡ kind (tree [])
    file bytes None i = refl
    file bytes (Some new) i = put_kind p (Some (File new)) tree (λ j. sym (ap kind (ap tree (sym j) ∙ i)))

    go : (e : Option Errno) (s : Option Shape) → tree p ≡ s → kind (changed (content_change p (node_row c e s).1) tree []) ≡ kind (tree [])
    go (Some e) s i = refl
    go None None i = refl
    go None (Some (Dir names)) i = ap (λ (o : Option (List ℕ)). kind (changed (content_change p o) tree [])) (on_dir c names)
    go None (Some (File bytes)) i = file bytes (node_row c None (Some (File bytes))).1 i
looked_root tree (AtEntry c p) fits = go (resolve_dir tree (parent_of p)) refl
  where
    m : HasNames p
    m = in_more c p fits

    edit : (e : Edit) → resolve_dir tree (parent_of p) ≡ None → kind (changed (edit_change (parent_of p) (names_of (tree (parent_of p))) (last_of p) p e) tree []) ≡ kind (tree [])
    edit Keep i = refl
    edit (Add s) i = put_more p (Some s) (put (parent_of p) (Some (Dir (inserted_name (last_of p) (names_of (tree (parent_of p)))))) tree) m ∙ put_kind (parent_of p) (Some (Dir (inserted_name (last_of p) (names_of (tree (parent_of p)))))) tree (root_dir tree (parent_of p) i)
    edit Remove i = put_more p None (put (parent_of p) (Some (Dir (removed_name (last_of p) (names_of (tree (parent_of p)))))) tree) m ∙ put_kind (parent_of p) (Some (Dir (removed_name (last_of p) (names_of (tree (parent_of p)))))) tree (root_dir tree (parent_of p) i)

    go : (e : Option Errno) → resolve_dir tree (parent_of p) ≡ e → kind (changed (edit_change (parent_of p) (names_of (tree (parent_of p))) (last_of p) p (entry_row c e (tree (parent_of p)) (tree p)).1) tree []) ≡ kind (tree [])
    go (Some e) i = refl
    go None i = edit (entry_row_in_dir c (tree (parent_of p)) (tree p)).1 i
looked_root tree (AtPair (pairs.Rename most) p q) fits = go (resolve_dir tree (parent_of p)) (resolve_dir tree (parent_of q)) refl refl
  where
    two : (b : Bool) (names others : List Name) → resolve_dir tree (parent_of p) ≡ None → resolve_dir tree (parent_of q) ≡ None → kind (write_all (rename_writes b (parent_of p) names (last_of p) (parent_of q) others (last_of q)) tree []) ≡ kind (tree [])
    two true names others i j = put_kind (parent_of p) (Some (Dir (inserted_name (last_of q) (removed_name (last_of p) names)))) tree (root_dir tree (parent_of p) i)
    two false names others i j =
        let first : kind (put (parent_of p) (Some (Dir (removed_name (last_of p) names))) tree []) ≡ kind (tree []) = put_kind (parent_of p) (Some (Dir (removed_name (last_of p) names))) tree (root_dir tree (parent_of p) i) in
        put_kind (parent_of q) (Some (Dir (inserted_name (last_of q) others))) (put (parent_of p) (Some (Dir (removed_name (last_of p) names))) tree) (λ z. root_dir tree (parent_of q) j z ∙ sym first) ∙ first

    by : (r : Reply × Bool) (b : Bool) (names others : List Name) → resolve_dir tree (parent_of p) ≡ None → resolve_dir tree (parent_of q) ≡ None → kind (changed (move_change r.1 (rename_writes b (parent_of p) names (last_of p) (parent_of q) others (last_of q)) p q) tree []) ≡ kind (tree [])
    by (r, false) b names others i j = refl
    by (r, true) b names others i j =
        ap kind (move_root p q (write_all (rename_writes b (parent_of p) names (last_of p) (parent_of q) others (last_of q)) tree) (from_more (pairs.Rename most) p q fits) (to_more (pairs.Rename most) p q fits))
        ∙ two b names others i j

    go : (d e : Option Errno) → resolve_dir tree (parent_of p) ≡ d → resolve_dir tree (parent_of q) ≡ e
        → kind (changed (move_change (rename_row d e (tree p) (is_end (after_prefix p q)) (tree q) (is_end (after_prefix (parent_of p) (parent_of q)) || not (is_full most (tree (parent_of q))))).1 (rename_writes (is_end (after_prefix (parent_of p) (parent_of q))) (parent_of p) (names_of (tree (parent_of p))) (last_of p) (parent_of q) (names_of (tree (parent_of q))) (last_of q)) p q) tree []) ≡ kind (tree [])
    go (Some d) e i j = refl
    go None (Some e) i j = refl
    go None None i j = by (rename_row_in_dirs (tree p) (is_end (after_prefix p q)) (tree q) (is_end (after_prefix (parent_of p) (parent_of q)) || not (is_full most (tree (parent_of q))))) (is_end (after_prefix (parent_of p) (parent_of q))) (names_of (tree (parent_of p))) (names_of (tree (parent_of q))) i j
looked_root tree (AtPair pairs.Exchange p q) fits = ap kind (swap_root p q tree (exchange_row (resolve_dir tree (parent_of p)) (resolve_dir tree (parent_of q)) (tree p) (is_end (after_prefix p q)) (tree q)).1 (from_more pairs.Exchange p q fits) (to_more pairs.Exchange p q fits))

pub after_root : (tree : Map Shape) (call : Form) → Fits call → kind (after tree call []) ≡ kind (tree [])
after_root tree call fits = ap (λ (e : Option Errno). kind (changed (if_sound e (looked tree call)).1 tree [])) fits ∙ looked_root tree call fits

-- so its change can be seen below it alone
pub agree_after : (tree : Map Shape) (k : Key) (call : Form) → resolve tree k ≡ None → Fits call → Agree k tree (after tree (under k call))
agree_after tree k call at fits = record {
  off = λ key e. rw (after_located tree k call at fits) (sym (act_out k (λ t. after t call) tree key e));
  here =
      rw (after_located tree k call at fits)
      (sym (ap kind (sym (ap (act k (λ t. after t call) tree) (append-nil k)) ∙ act_in k (λ t. after t call) tree []) ∙ after_root (below k tree) call fits ∙ ap (λ (l : Key). kind (tree l)) (append-nil k)));
}

-- calls that stand elsewhere go on standing
pub in_place_agree : (k : Key) (a b : Map Shape) (ps : List (Key × Form)) → Agree k a b → NoneUnder k ps → InPlace a ps → InPlace b ps
in_place_agree k a b [] g n s = tt
in_place_agree k a b (p ∷ ps) g n s = (sym (resolve_agree k p.0 a b g n.0) ∙ s.0, s.1, s.2, in_place_agree k a b ps g n.1 s.3)

pub passes_agree : (k : Key) (a b : Map Shape) (call : Form) (ch : Change) (ps : List (Key × Form)) → Agree k a b → Fits call → ReadsNothingBelow a call k → Passes a call ch ps → Passes b call ch ps
passes_agree k a b call ch [] g f h s = tt
passes_agree k a b call ch (p ∷ ps) g f h s = (blind_agree k p.0 a b call g f h s.0, s.1, passes_agree k a b call ch ps g f h s.2)

-- a move goes past what acts at k, which goes along with it
move_act : (m : Rekeying) (k : Key) (f : Map Shape → Map Shape) (tree : Map Shape) → MovesNothingBelow m k → moved_by m (act k f tree) ≡ act (rekey_move m k) f (moved_by m tree)
move_act Stay k f tree c = refl
move_act (MoveTo s t) k f tree c = go c.1
  where
    go : ((r : Key) × (k ≡ s ++ r)) ⊎ (Aside s k × Aside t k) → move s t (act k f tree) ≡ act (rekey_by t k (after_prefix s k)) f (move s t tree)
    go (inl u) = rw (u.1, prefix_append s u.0) (move_act_under s t u.0 f tree c.0.0 c.0.1)
    go (inr u) = rw u.0.0 (move_act_apart s t k f tree u.0.0 u.0.1 u.1.0 u.1.1)
move_act (Swap s t) k f tree c = go c.1
  where
    go : ((r : Key) × (k ≡ s ++ r)) ⊎ ((r : Key) × (k ≡ t ++ r)) ⊎ (Aside s k × Aside t k) → swap s t (act k f tree) ≡ act (swapped s t k) f (swap s t tree)
    go (inl (r, e)) = rw (e, swapped_first s t r) (swap_act_first s t r f tree c.0.0 c.0.1)
    go (inr (inl (r, e))) = rw (e, swapped_second s t r c.0.0 c.0.1) (swap_act_second s t r f tree c.0.0 c.0.1)
    go (inr (inr u)) = rw (swapped_else s t k u.0.0 u.1.0) (swap_act_apart s t k f tree u.0.0 u.0.1 u.1.0 u.1.1)

pub change_act : (ch : Change) (k : Key) (f : Map Shape → Map Shape) (tree : Map Shape) → ChangesNothingBelow ch k → changed ch (act k f tree) ≡ act (rekey ch k) f (changed ch tree)
change_act ch k f tree c = ap (moved_by ch.moves) (writes_act ch.writes k f tree c.0) ∙ move_act ch.moves k f (write_all ch.writes tree) c.1

-- the tree below k goes along
move_below : (m : Rekeying) (k : Key) (tree : Map Shape) → MovesNothingBelow m k → below (rekey_move m k) (moved_by m tree) ≡ below k tree
move_below Stay k tree c = refl
move_below (MoveTo s t) k tree c = go c.1
  where
    go : ((r : Key) × (k ≡ s ++ r)) ⊎ (Aside s k × Aside t k) → below (rekey_by t k (after_prefix s k)) (move s t tree) ≡ below k tree
    go (inl u) = rw (u.1, prefix_append s u.0) (fun_ext (λ q. ap (move s t tree) (append_assoc t u.0 q) ∙ move_to s t tree (u.0 ++ q) ∙ sym (ap tree (append_assoc s u.0 q))))
    go (inr u) = rw u.0.0 (fun_ext (λ q. move_else s t tree (k ++ q) (prefix_none t k q u.1.0 u.1.1) (prefix_none s k q u.0.0 u.0.1)))
move_below (Swap s t) k tree c = go c.1
  where
    go : ((r : Key) × (k ≡ s ++ r)) ⊎ ((r : Key) × (k ≡ t ++ r)) ⊎ (Aside s k × Aside t k) → below (swapped s t k) (swap s t tree) ≡ below k tree
    go (inl (r, e)) = rw (e, swapped_first s t r) (fun_ext (λ q. ap (swap s t tree) (append_assoc t r q) ∙ swap_second s t tree (r ++ q) c.0.0 c.0.1 ∙ sym (ap tree (append_assoc s r q))))
    go (inr (inl (r, e))) = rw (e, swapped_second s t r c.0.0 c.0.1) (fun_ext (λ q. ap (swap s t tree) (append_assoc s r q) ∙ swap_first s t tree (r ++ q) ∙ sym (ap tree (append_assoc t r q))))
    go (inr (inr u)) = rw (swapped_else s t k u.0.0 u.1.0) (fun_ext (λ q. swap_else s t tree (k ++ q) (prefix_none s k q u.0.0 u.0.1) (prefix_none t k q u.1.0 u.1.1)))

writes_below : (ws : List (Key × Option Shape)) (k : Key) (tree : Map Shape) → AllOff k ws → below k (write_all ws tree) ≡ below k tree
writes_below [] k tree off = refl
writes_below (w ∷ ws) k tree off = writes_below ws k (put w.0 w.1 tree) off.1 ∙ fun_ext (λ q. put_other w.0 w.1 tree (k ++ q) (inside_differs k w.0 q off.0))

pub below_rekey : (ch : Change) (k : Key) (tree : Map Shape) → ChangesNothingBelow ch k → below (rekey ch k) (changed ch tree) ≡ below k tree
below_rekey ch k tree c = move_below ch.moves k (write_all ch.writes tree) c.1 ∙ writes_below ch.writes k tree c.0

-- one call that finishes past one that stands at k
pub record Past (tree : Map Shape) (w : Form) (ch : Change) (k : Key) (call : Form) : Type 0 where
  pub tree_is : after (after tree (under k call)) w ≡ after (after tree w) (under (rekey ch k) call)
  pub same_outcome : outcome (after tree (under k call)) w ≡ outcome tree w
  pub same_reply : reply (after tree w) (under (rekey ch k) call) ≡ reply tree (under k call)

pub past : (tree : Map Shape) (w : Form) (ch : Change) (k : Key) (call : Form) → (outcome tree w).1 ≡ ch → resolve tree k ≡ None → Fits call → ReadsNothingBelow tree w k → ChangesNothingBelow ch k → resolve (changed ch tree) (rekey ch k) ≡ None → Past tree w ch k call
past tree w ch k call is at fits blind clear there =
    let g : Agree k tree (after tree (under k call)) = agree_after tree k call at fits in
    let o : outcome tree w ≡ outcome (after tree (under k call)) w = outcome_agree k tree (after tree (under k call)) w g blind in
    record {
      tree_is =
          ap (λ (c : Change). changed c (after tree (under k call))) (sym (ap (λ (o : Reply × Change). o.1) o) ∙ is)
          ∙ ap (changed ch) (after_located tree k call at fits)
          ∙ change_act ch k (λ t. after t call) tree clear
          ∙ sym (after_located (changed ch tree) (rekey ch k) call there fits)
          ∙ ap (λ (c : Change). after (changed c tree) (under (rekey ch k) call)) (sym is);
      same_outcome = sym o;
      same_reply =
          ap (λ (c : Change). reply (changed c tree) (under (rekey ch k) call)) is
          ∙ ap (λ (o : Reply × Change). o.0) (outcome_located (changed ch tree) (rekey ch k) call there fits)
          ∙ ap (λ (t : Map Shape). (outcome t call).0) (below_rekey ch k tree clear)
          ∙ sym (ap (λ (o : Reply × Change). o.0) (outcome_located tree k call at fits));
    }

pub past_all : (tree : Map Shape) (w : Form) (ch : Change) (ps : List (Key × Form)) → (outcome tree w).1 ≡ ch → Fits w → InPlace tree ps → Passes tree w ch ps → InPlace (changed ch tree) (rekey_all ch ps) → PastAll tree w ch ps
past_all tree w ch [] is f s p t = record { tree_is = refl; same_outcome = refl; same_replies = refl }
past_all tree w ch (p ∷ ps) is f s h t =
    let one : Past tree w ch p.0 p.1 = past tree w ch p.0 p.1 is s.0 s.1 h.0 h.1 t.0 in
    let g : Agree p.0 tree (after tree (under p.0 p.1)) = agree_after tree p.0 p.1 s.0 s.1 in
    let is2 : (outcome (after tree (under p.0 p.1)) w).1 ≡ ch = ap (λ (o : Reply × Change). o.1) one.same_outcome ∙ is in
    let moved : Agree (rekey ch p.0) (changed ch tree) (after (changed ch tree) (under (rekey ch p.0) p.1)) = agree_after (changed ch tree) (rekey ch p.0) p.1 t.0 t.1 in
    let same_tree : after (changed ch tree) (under (rekey ch p.0) p.1) ≡ changed ch (after tree (under p.0 p.1)) =
    ap (λ (c : Change). after (changed c tree) (under (rekey ch p.0) p.1)) (sym is) ∙ sym one.tree_is ∙ ap (λ (c : Change). changed c (after tree (under p.0 p.1))) is2 in
    let rest : PastAll (after tree (under p.0 p.1)) w ch ps =
    past_all (after tree (under p.0 p.1)) w ch ps is2 f
    (in_place_agree p.0 tree (after tree (under p.0 p.1)) ps g s.2 s.3)
    (passes_agree p.0 tree (after tree (under p.0 p.1)) w ch ps g f h.0 h.2)
    (subst (λ (u : Map Shape). InPlace u (rekey_all ch ps)) same_tree (in_place_agree (rekey ch p.0) (changed ch tree) (after (changed ch tree) (under (rekey ch p.0) p.1)) (rekey_all ch ps) moved t.2 t.3)) in
    record {
      tree_is = ap (λ (u : Map Shape). settle u (rekey_all ch ps)) (sym one.tree_is) ∙ rest.tree_is;
      same_outcome = rest.same_outcome ∙ one.same_outcome;
      same_replies =
          ap₂ (λ (r : Reply) (u : Map Shape). r ∷ settle_replies u (rekey_all ch ps)) one.same_reply (sym one.tree_is)
          ∙ ap (λ (rs : List Reply). reply tree (under p.0 p.1) ∷ rs) rest.same_replies;
    }
