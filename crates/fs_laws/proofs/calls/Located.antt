-- A call that stands at a key acts below it, by what it does on the tree below.
use Rattle.std.proofs.Common.{◌≡◌, ℕ, Bool, true, false, not, ◌||◌, List, [], ◌∷◌, ◌++◌, Option, Some, None, refl, sym, ap, ap₂, ◌∙◌, append_assoc, append-nil}
use mathlib.Core.Path.{fun_ext}
use Rattle.fs_names.specs.Failures.{check, first_failure}
use Rattle.fs_names.specs.Keys.{Key, after_prefix, has_more, parent_of, last_of, is_end}
use Rattle.fs_names.specs.Names.{Name}
use Rattle.fs_names.specs.Parts.{HasNames}
use Rattle.fs_names.specs.Shapes.{Shape, Dir, File, is_full, names_of}
use Rattle.fs_laws.specs.Changes.{Rekeying, Stay, MoveTo, Swap, Change, moved_by, changed, resolve_next, resolve, resolve_dir, content_change, edit_change, rename_writes, move_change, swap_change, entry_looked, rename_looked, exchange_looked, looked, if_sound, outcome, after}
use Rattle.fs_calls.specs.Forms.{Form, AtNode, AtEntry, AtPair, by_text, under, Fits, PairCall, EntryCall}
use Rattle.fs_calls.specs.Forms as pairs
use Rattle.fs_calls.proofs.RowNames.{if_below}
use Rattle.fs_laws.specs.Maps.{Map, below, act, act_at, move, moved_to, moved_from, swapped_by, swap, write_all}
use Rattle.fs_calls.specs.Rows.{as_dir, node_row, Edit, Keep, Add, Remove, entry_row, rename_row, exchange_row}
use Rattle.fs_calls.specs.declared.errno.Errno.{Errno}
use Rattle.fs_calls.specs.declared.errno.Errno.TheVariants.{Einval}
use Rattle.fs_calls.specs.declared.reply.Reply.{Reply}
use Rattle.fs_laws.proofs.trees.Prefixes.{prefix_append, prefix_some, prefix_both, prefix_deeper}
use Rattle.fs_laws.proofs.trees.SeveralWrites.{all_under, writes_under, act_act, act_none}

-- what a resolution that finds its key went through
pub record Through (here child : Option Shape) (rest : Option Errno) : Type 0 where
  pub names : List Name
  pub dir : here ≡ Some (Dir names)
  pub found : rest ≡ None

pub through : (here child : Option Shape) (rest : Option Errno) → resolve_next here child rest ≡ None → Through here child rest
through (Some (Dir names)) (Some child) rest e = record { names = names; dir = refl; found = e }
through (Some (Dir names)) None rest e = cc
through (Some (File bytes)) child rest e = cc
through None child rest e = cc

next_same : (here child : Option Shape) (r q : Option Errno) → resolve_next here child r ≡ None → resolve_next here child q ≡ q
next_same (Some (Dir names)) (Some child) r q e = refl
next_same (Some (Dir names)) None r q e = cc
next_same (Some (File bytes)) child r q e = cc
next_same None child r q e = cc

-- resolution goes on from a key that is there
pub resolve_under : (tree : Map Shape) (k r : Key) → resolve tree k ≡ None → resolve tree (k ++ r) ≡ resolve (below k tree) r
resolve_under tree [] r e = refl
resolve_under tree (x ∷ k) r e =
    next_same (tree []) (tree (x ∷ [])) (resolve (below (x ∷ []) tree) k) (resolve (below (x ∷ []) tree) (k ++ r)) e
    ∙ resolve_under (below (x ∷ []) tree) k r (through (tree []) (tree (x ∷ [])) (resolve (below (x ∷ []) tree) k) e).found

pub dir_under : (k p : Key) → HasNames p → parent_of (k ++ p) ≡ k ++ parent_of p
dir_under [] p m = refl
dir_under (x ∷ []) [] m = absurd m
dir_under (x ∷ []) (y ∷ p) m = refl
dir_under (x ∷ z ∷ k) p m = ap (λ (l : Key). x ∷ l) (dir_under (z ∷ k) p m)

pub last_under : (k p : Key) → HasNames p → last_of (k ++ p) ≡ last_of p
last_under [] p m = refl
last_under (x ∷ []) [] m = absurd m
last_under (x ∷ []) (y ∷ p) m = refl
last_under (x ∷ z ∷ k) p m = last_under (z ∷ k) p m

-- a key is its parent's and its last name
pub key_is : (p : Key) → HasNames p → p ≡ parent_of p ++ last_of p ∷ []
key_is [] m = absurd m
key_is (x ∷ []) m = refl
key_is (x ∷ y ∷ p) m = ap (λ (l : Key). x ∷ l) (key_is (y ∷ p) tt)

-- calls that fit have names
pub in_more : (c : EntryCall) (p : Key) → by_text (AtEntry c p) ≡ None → HasNames p
in_more c [] e = cc
in_more c (x ∷ p) e = tt

pub from_more : (c : PairCall) (p q : Key) → by_text (AtPair c p q) ≡ None → HasNames p
from_more (pairs.Rename most) [] q e = cc
from_more pairs.Exchange [] q e = cc
from_more c (x ∷ p) q e = tt

pub to_more : (c : PairCall) (p q : Key) → by_text (AtPair c p q) ≡ None → HasNames q
to_more (pairs.Rename most) [] [] e = cc
to_more (pairs.Rename most) (x ∷ p) [] e = cc
to_more pairs.Exchange [] [] e = cc
to_more pairs.Exchange (x ∷ p) [] e = cc
to_more c p (y ∷ q) e = tt

-- what the paths of a pair decide, by what follows each of them in the other one
abbrev pub pair_text : PairCall → Option Key → Option Key → Option Errno
pair_text (pairs.Rename most) there back = if_below there
pair_text pairs.Exchange there back = first_failure (check (has_more there || has_more back) Einval ∷ [])

pub below_text : (c : PairCall) (p q : Key) → HasNames p → HasNames q → by_text (AtPair c p q) ≡ pair_text c (after_prefix p q) (after_prefix q p)
below_text c [] q m n = absurd m
below_text c (x ∷ p) [] m n = absurd n
below_text (pairs.Rename most) (x ∷ p) (y ∷ q) m n = refl
below_text pairs.Exchange (x ∷ p) (y ∷ q) m n = refl

-- so the second path does not go on from the first, and of an exchange neither from the other
pub not_under : (c : PairCall) (p q : Key) → by_text (AtPair c p q) ≡ None → has_more (after_prefix p q) ≡ true → ⊥
not_under c p q e h = go c (sym (below_text c p q (from_more c p q e) (to_more c p q e)) ∙ e)
  where
    go : (c : PairCall) → pair_text c (after_prefix p q) (after_prefix q p) ≡ None → ⊥
    go (pairs.Rename most) f = let z : ◌≡◌ {A = Option Errno} (Some Einval) None = sym (ap (λ (b : Bool). first_failure (check b Einval ∷ [])) h) ∙ f in cc
    go pairs.Exchange f = let z : ◌≡◌ {A = Option Errno} (Some Einval) None = sym (ap (λ (b : Bool). first_failure (check (b || has_more (after_prefix q p)) Einval ∷ [])) h) ∙ f in cc

pub not_over : (p q : Key) → by_text (AtPair pairs.Exchange p q) ≡ None → has_more (after_prefix q p) ≡ true → ⊥
not_over p q e h = go (has_more (after_prefix p q)) (sym (ap (λ (b : Bool). first_failure (check (has_more (after_prefix p q) || b) Einval ∷ [])) h) ∙ sym (below_text pairs.Exchange p q (from_more pairs.Exchange p q e) (to_more pairs.Exchange p q e)) ∙ e)
  where
    go : (b : Bool) → first_failure (check (b || true) Einval ∷ []) ≡ None → ⊥
    go true f = cc
    go false f = cc

-- two paths of which neither begins with the other
pub paths_aside : (c : PairCall) (p q : Key) → by_text (AtPair c p q) ≡ None → is_end (after_prefix p q) ≡ false → (has_more (after_prefix q p) ≡ true → ⊥) → (after_prefix p q ≡ None) × (after_prefix q p ≡ None)
paths_aside c p q fits other above = (first (after_prefix p q) refl, second (after_prefix q p) refl)
  where
    first : (o : Option Key) → after_prefix p q ≡ o → o ≡ None
    first None i = refl
    first (Some []) i = let z : is_end (Some []) ≡ false = ap is_end (sym i) ∙ other in cc
    first (Some (x ∷ r)) i = absurd (not_under c p q fits (ap has_more i))

    second : (o : Option Key) → after_prefix q p ≡ o → o ≡ None
    second None i = refl
    second (Some []) i =
        let e : p ≡ q = prefix_some q p [] i ∙ append-nil q in
        let f : after_prefix p q ≡ Some [] = ap (after_prefix p) (sym e ∙ sym (append-nil p)) ∙ prefix_append p [] in
        let z : is_end (Some []) ≡ false = ap is_end (sym f) ∙ other in cc
    second (Some (x ∷ r)) i = absurd (above (ap has_more i))

pub in_text : (c : EntryCall) (p : Key) → HasNames p → by_text (AtEntry c p) ≡ None
in_text c [] m = absurd m
in_text c (x ∷ p) m = refl

pub more_under : (k p : Key) → HasNames p → HasNames (k ++ p)
more_under [] p m = m
more_under (x ∷ k) p m = tt

pub fits_under : (k : Key) (call : Form) → Fits call → Fits (under k call)
fits_under k (AtNode c p) f = refl
fits_under k (AtEntry c p) f = in_text c (k ++ p) (more_under k p (in_more c p f))
fits_under k (AtPair c p q) f =
    let m : HasNames p = from_more c p q f in
    let n : HasNames q = to_more c p q f in
    below_text c (k ++ p) (k ++ q) (more_under k p m) (more_under k q n) ∙ ap₂ (pair_text c) (prefix_both k p q) (prefix_both k q p) ∙ sym (below_text c p q m n) ∙ f

-- a change on the tree below k, as it reads from the root
abbrev pub moves_under : Key → Rekeying → Rekeying
moves_under k Stay = Stay
moves_under k (MoveTo s t) = MoveTo (k ++ s) (k ++ t)
moves_under k (Swap s t) = Swap (k ++ s) (k ++ t)

abbrev pub change_under : Key → Change → Change
change_under k ch = record { writes = all_under k ch.writes; moves = moves_under k ch.moves }

abbrev pub outcome_under : Key → Reply × Change → Reply × Change
outcome_under k o = (o.0, change_under k o.1)

content_under : (k p : Key) (o : Option (List ℕ)) → content_change (k ++ p) o ≡ change_under k (content_change p o)
content_under k p None = refl
content_under k p (Some bytes) = refl

edit_under : (k d : Key) (names : List Name) (x : Name) (p : Key) (e : Edit) → edit_change (k ++ d) names x (k ++ p) e ≡ change_under k (edit_change d names x p e)
edit_under k d names x p Keep = refl
edit_under k d names x p (Add s) = refl
edit_under k d names x p Remove = refl

pub writes_at : (k : Key) (b : Bool) (d : Key) (names : List Name) (x : Name) (e : Key) (others : List Name) (y : Name) → rename_writes b (k ++ d) names x (k ++ e) others y ≡ all_under k (rename_writes b d names x e others y)
writes_at k true d names x e others y = refl
writes_at k false d names x e others y = refl

move_under : (k : Key) (b : Bool) (ws : List (Key × Option Shape)) (p q : Key) → move_change b (all_under k ws) (k ++ p) (k ++ q) ≡ change_under k (move_change b ws p q)
move_under k true ws p q = refl
move_under k false ws p q = refl

swap_under : (k : Key) (b : Bool) (p q : Key) → swap_change b (k ++ p) (k ++ q) ≡ change_under k (swap_change b p q)
swap_under k true p q = refl
swap_under k false p q = refl

in_under : (tree : Map Shape) (k : Key) (c : EntryCall) (p d : Key) (x : Name) → resolve tree k ≡ None → entry_looked tree c (k ++ p) (k ++ d) x ≡ outcome_under k (entry_looked (below k tree) c p d x)
in_under tree k c p d x at =
    let r : Option Errno = resolve_dir (below k tree) d in
    ap (λ (e : Option Errno). ((entry_row c (as_dir e (tree (k ++ d))) (tree (k ++ d)) (tree (k ++ p))).0, edit_change (k ++ d) (names_of (tree (k ++ d))) x (k ++ p) (entry_row c (as_dir e (tree (k ++ d))) (tree (k ++ d)) (tree (k ++ p))).1)) (resolve_under tree k d at)
    ∙ ap (λ (ch : Change). ((entry_row c r (tree (k ++ d)) (tree (k ++ p))).0, ch)) (edit_under k d (names_of (tree (k ++ d))) x p (entry_row c r (tree (k ++ d)) (tree (k ++ p))).1)

rename_under : (tree : Map Shape) (most : ℕ) (k p q d : Key) (x : Name) (e : Key) (y : Name) → resolve tree k ≡ None → rename_looked tree most (k ++ p) (k ++ q) (k ++ d) x (k ++ e) y ≡ outcome_under k (rename_looked (below k tree) most p q d x e y)
rename_under tree most k p q d x e y at =
    rw (resolve_under tree k d at, resolve_under tree k e at, prefix_both k p q, prefix_both k d e, writes_at k (is_end (after_prefix d e)) d (names_of (tree (k ++ d))) x e (names_of (tree (k ++ e))) y)
    (ap (λ (ch : Change). ((row (is_end (after_prefix d e))).0, ch)) (move_under k (row (is_end (after_prefix d e))).1 (rename_writes (is_end (after_prefix d e)) d (names_of (tree (k ++ d))) x e (names_of (tree (k ++ e))) y) p q))
  where
    row : Bool → Reply × Bool
    row b = rename_row (resolve_dir (below k tree) d) (resolve_dir (below k tree) e) (tree (k ++ p)) (is_end (after_prefix p q)) (tree (k ++ q)) (b || not (is_full most (tree (k ++ e))))

exchange_under : (tree : Map Shape) (k p q d e : Key) → resolve tree k ≡ None → exchange_looked tree (k ++ p) (k ++ q) (k ++ d) (k ++ e) ≡ outcome_under k (exchange_looked (below k tree) p q d e)
exchange_under tree k p q d e at =
    rw (resolve_under tree k d at, resolve_under tree k e at, prefix_both k p q)
    (ap (λ (ch : Change). (row.0, ch)) (swap_under k row.1 p q))
  where
    row : Reply × Bool
    row = exchange_row (resolve_dir (below k tree) d) (resolve_dir (below k tree) e) (tree (k ++ p)) (is_end (after_prefix p q)) (tree (k ++ q))

looked_located : (tree : Map Shape) (k : Key) (call : Form) → resolve tree k ≡ None → Fits call → looked tree (under k call) ≡ outcome_under k (looked (below k tree) call)
looked_located tree k (AtNode c p) at fits =
    ap (λ (e : Option Errno). ((node_row c e (tree (k ++ p))).0, content_change (k ++ p) (node_row c e (tree (k ++ p))).1)) (resolve_under tree k p at)
    ∙ ap (λ (ch : Change). ((node_row c (resolve (below k tree) p) (tree (k ++ p))).0, ch)) (content_under k p (node_row c (resolve (below k tree) p) (tree (k ++ p))).1)
looked_located tree k (AtEntry c p) at fits =
    let m : HasNames p = in_more c p fits in
    ap₂ (entry_looked tree c (k ++ p)) (dir_under k p m) (last_under k p m) ∙ in_under tree k c p (parent_of p) (last_of p) at
looked_located tree k (AtPair (pairs.Rename most) p q) at fits =
    let m : HasNames p = from_more (pairs.Rename most) p q fits in
    let n : HasNames q = to_more (pairs.Rename most) p q fits in
    ap₂ (λ (d : Key) (x : Name). rename_looked tree most (k ++ p) (k ++ q) d x (parent_of (k ++ q)) (last_of (k ++ q))) (dir_under k p m) (last_under k p m)
    ∙ ap₂ (rename_looked tree most (k ++ p) (k ++ q) (k ++ parent_of p) (last_of p)) (dir_under k q n) (last_under k q n)
    ∙ rename_under tree most k p q (parent_of p) (last_of p) (parent_of q) (last_of q) at
looked_located tree k (AtPair pairs.Exchange p q) at fits =
    ap₂ (exchange_looked tree (k ++ p) (k ++ q)) (dir_under k p (from_more pairs.Exchange p q fits)) (dir_under k q (to_more pairs.Exchange p q fits))
    ∙ exchange_under tree k p q (parent_of p) (parent_of q) at

pub outcome_located : (tree : Map Shape) (k : Key) (call : Form) → resolve tree k ≡ None → Fits call → outcome tree (under k call) ≡ outcome_under k (outcome (below k tree) call)
outcome_located tree k call at fits =
    ap (λ (e : Option Errno). if_sound e (looked tree (under k call))) (fits_under k call fits)
    ∙ looked_located tree k call at fits
    ∙ ap (λ (e : Option Errno). outcome_under k (if_sound e (looked (below k tree) call))) (sym fits)

-- a move below k, read from the root
move_at : (k s t : Key) (tree : Map Shape) → move (k ++ s) (k ++ t) tree ≡ act k (move s t) tree
move_at k s t tree = fun_ext (λ key. go key (after_prefix k key) refl)
  where
    from : (r : Key) (o : Option Key) → moved_from tree (k ++ r) o ≡ moved_from (below k tree) r o
    from r None = refl
    from r (Some q) = refl

    inside : (r : Key) (o : Option Key) → moved_to (k ++ s) tree (k ++ r) o ≡ moved_to s (below k tree) r o
    inside r None = rw (prefix_both k s r) (from r (after_prefix s r))
    inside r (Some q) = ap tree (append_assoc k s q)

    go : (key : Key) (o : Option Key) → after_prefix k key ≡ o → move (k ++ s) (k ++ t) tree key ≡ act_at (move s t) tree k key o
    go key None e = ap (moved_to (k ++ s) tree key) (prefix_deeper k t key e) ∙ ap (moved_from tree key) (prefix_deeper k s key e)
    go key (Some r) e = rw (prefix_some k key r e, prefix_both k t r) (inside r (after_prefix t r))

-- an exchange below k, read from the root
swap_at : (k s t : Key) (tree : Map Shape) → swap (k ++ s) (k ++ t) tree ≡ act k (swap s t) tree
swap_at k s t tree = fun_ext (λ key. go key (after_prefix k key) refl)
  where
    inside : (r : Key) (o p : Option Key) → swapped_by (k ++ s) (k ++ t) (k ++ r) o p ≡ k ++ swapped_by s t r o p
    inside r None None = refl
    inside r None (Some q) = append_assoc k s q
    inside r (Some q) p = append_assoc k t q

    go : (key : Key) (o : Option Key) → after_prefix k key ≡ o → swap (k ++ s) (k ++ t) tree key ≡ act_at (swap s t) tree k key o
    go key None e = ap tree (ap₂ (swapped_by (k ++ s) (k ++ t) key) (prefix_deeper k s key e) (prefix_deeper k t key e))
    go key (Some r) e = rw (prefix_some k key r e, prefix_both k s r, prefix_both k t r) (ap tree (inside r (after_prefix s r) (after_prefix t r)))

moved_at : (k : Key) (m : Rekeying) (tree : Map Shape) → moved_by (moves_under k m) tree ≡ act k (moved_by m) tree
moved_at k Stay tree = act_none k tree
moved_at k (MoveTo s t) tree = move_at k s t tree
moved_at k (Swap s t) tree = swap_at k s t tree

-- an act is a change below, read from the root
pub act_change : (k : Key) (ch : Change) (tree : Map Shape) → changed (change_under k ch) tree ≡ act k (changed ch) tree
act_change k ch tree =
    ap (moved_by (moves_under k ch.moves)) (writes_under ch.writes k tree)
    ∙ moved_at k ch.moves (act k (write_all ch.writes) tree)
    ∙ act_act k (write_all ch.writes) (moved_by ch.moves) tree

pub after_located : (tree : Map Shape) (k : Key) (call : Form) → resolve tree k ≡ None → Fits call → after tree (under k call) ≡ act k (λ t. after t call) tree
after_located tree k call at fits =
    ap (λ (o : Reply × Change). changed o.1 tree) (outcome_located tree k call at fits)
    ∙ act_change k (outcome (below k tree) call).1 tree
    ∙ fun_ext (λ key. same_at key (after_prefix k key))
  where
    same_at : (key : Key) (o : Option Key) → act_at (changed (outcome (below k tree) call).1) tree k key o ≡ act_at (λ t. after t call) tree k key o
    same_at key None = refl
    same_at key (Some r) = refl
