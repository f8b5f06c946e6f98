-- A link among rising links written anew, or in another place.
use Rattle.std.proofs.Common.{◌≡◌, ◌≢◌, ℕ, zero, suc, cond, not, List, [], ◌∷◌, slice_get, Some, IsTrue, refl, sym, ap, subst, ◌∙◌, T, Less, Equal, Greater, Ordering}
use Rattle.std.specs.Prelude.{slice_set, remove}
use Rattle.std.specs.Ordering.{is_eq, ordering_reverse}
use Rattle.std.specs.FinMap.{put, is_sorted}
use Rattle.std.specs.FinMap.Entries.{by_order, below_all, is_sorted-put}
use Rattle.std.proofs.lemmas.Cmp.{tied_itself}
use Rattle.std.proofs.lemmas.Float.{T_from_true}
use Rattle.fs_names.specs.Names.{Name, name_cmp}
use Rattle.fs_names.proofs.Lemmas.{name_total}
use Rattle.fs_seq_nodes.specs.code.Nodes.{name_of, without, IsNameAt}
use Rattle.fs_seq.proofs.Rewiring.{without-put}
use Rattle.fs_seq_nodes.proofs.SearchLemmas.{both_first, both_second, is_less}

-- a name below all is below the one at a place
below_named : (y x : Name) (links : List (Name × ℕ)) (i : ℕ) → T (below_all name_cmp y links) → name_of (slice_get links i) ≡ Some x → name_cmp y x ≡ Less
below_named y x [] i below e = absurd (cc)
below_named y x (l ∷ links) zero below e = let at : l.0 ≡ x = cc in ap (name_cmp y) (sym at) ∙ is_less (name_cmp y l.0) (both_first _ _ below)
below_named y x (l ∷ links) (suc i) below e = below_named y x links i (both_second _ _ below) e

-- a link is put by the order of the first one
put_by : (x : Name) (n : ℕ) (l : Name × ℕ) (links : List (Name × ℕ)) (o : Ordering) → name_cmp x l.0 ≡ o → put name_cmp x n (l ∷ links) ≡ by_order o ((x, n) ∷ l ∷ links) ((l.0, n) ∷ links) (l ∷ put name_cmp x n links)
put_by x n l links o e = ap (λ r. by_order r ((x, n) ∷ l ∷ links) ((l.0, n) ∷ links) (l ∷ put name_cmp x n links)) e

-- among rising links, to write a name anew where it stands is to put it
pub set_rising : (x : Name) (n : ℕ) (links : List (Name × ℕ)) (i : ℕ) → T (is_sorted name_cmp links) → name_of (slice_get links i) ≡ Some x → slice_set links i (x, n) ≡ put name_cmp x n links
set_rising x n [] i sorted e = absurd (cc)
set_rising x n (l ∷ links) zero sorted e =
    let at : l.0 ≡ x = cc in
    sym (put_by x n l links Equal (ap (name_cmp x) at ∙ tied_itself name_total x) ∙ ap (λ z. (z, n) ∷ links) at)
set_rising x n (l ∷ links) (suc i) sorted e =
    let below : name_cmp x l.0 ≡ Greater = name_total.antisymm x l.0 ∙ ap ordering_reverse (below_named l.0 x links i (both_first _ _ sorted) e) in
    ap (λ z. l ∷ z) (set_rising x n links i (both_second _ _ sorted) e) ∙ sym (put_by x n l links Greater below)

-- where a name stands, to write its link anew is to put it
pub set_in_place : (x : Name) (n : ℕ) (links : List (Name × ℕ)) (i : ℕ) → IsTrue (is_sorted name_cmp links) → IsNameAt links x i → slice_set links i (x, n) ≡ put name_cmp x n links
set_in_place x n links i sorted at = set_rising x n links i (T_from_true _ sorted) at.named

-- the order of two names, turned
turned_name : (x y : Name) (o : Ordering) → name_cmp y x ≡ o → name_cmp x y ≡ ordering_reverse o
turned_name x y o e = name_total.antisymm x y ∙ ap ordering_reverse e

-- what is above a name has it nowhere
kept_above : (x : Name) (links : List (Name × ℕ)) → T (below_all name_cmp x links) → without x links ≡ links
kept_above x [] below = refl
kept_above x (l ∷ links) below =
    ap (λ o. cond {A = List (Name × ℕ)} (not (is_eq o)) (l ∷ without x links) (without x links)) (is_less (name_cmp x l.0) (both_first _ _ below))
    ∙ ap (λ z. l ∷ z) (kept_above x links (both_second _ _ below))

-- to remove a link is to be without its name
pub remove_named : (x : Name) (links : List (Name × ℕ)) (i : ℕ) → T (is_sorted name_cmp links) → name_of (slice_get links i) ≡ Some x → remove links i ≡ without x links
remove_named x [] i sorted e = absurd (cc)
remove_named x (l ∷ links) zero sorted e =
    let at : l.0 ≡ x = cc in
    sym (kept_above x links (subst (λ y. T (below_all name_cmp y links)) at (both_first _ _ sorted)))
    ∙ sym (ap (λ o. cond {A = List (Name × ℕ)} (not (is_eq o)) (l ∷ without x links) (without x links)) (ap (name_cmp x) at ∙ tied_itself name_total x))
remove_named x (l ∷ links) (suc i) sorted e =
    let below : name_cmp x l.0 ≡ Greater = turned_name x l.0 Less (below_named l.0 x links i (both_first _ _ sorted) e) in
    ap (λ z. l ∷ z) (remove_named x links i (both_second _ _ sorted) e)
    ∙ sym (ap (λ o. cond {A = List (Name × ℕ)} (not (is_eq o)) (l ∷ without x links) (without x links)) below)

-- at all other places the links are as before
pub named_elsewhere : (links : List (Name × ℕ)) (i j : ℕ) (l : Name × ℕ) → i ≢ j → slice_get (slice_set links j l) i ≡ slice_get links i
named_elsewhere [] i j l other = refl
named_elsewhere (m ∷ links) zero zero l other = absurd (other refl)
named_elsewhere (m ∷ links) zero (suc j) l other = refl
named_elsewhere (m ∷ links) (suc i) zero l other = refl
named_elsewhere (m ∷ links) (suc i) (suc j) l other = named_elsewhere links i j l (λ e. other (ap suc e))

-- names that differ stand at places that differ
pub other_place : (links : List (Name × ℕ)) (x z : Name) (i j : ℕ) → x ≢ z → IsNameAt links x i → IsNameAt links z j → i ≢ j
other_place links x z i j apart at to same =
    let both : Some x ≡ Some z = sym at.named ∙ ap (λ k. name_of (slice_get links k)) same ∙ to.named in
    apart (let e : x ≡ z = cc in e)

-- rising links rise when one is written anew under its name
rising_set : (z : Name) (n : ℕ) (links : List (Name × ℕ)) (j : ℕ) → IsTrue (is_sorted name_cmp links) → IsNameAt links z j → T (is_sorted name_cmp (slice_set links j (z, n)))
rising_set z n links j rising to = subst (λ ls. T (is_sorted name_cmp ls)) (sym (set_in_place z n links j rising to)) (is_sorted-put name_cmp name_total z n links (T_from_true _ rising))

-- a link is written anew, and then another is taken out
pub set_then_removed : (x z : Name) (n : ℕ) (links : List (Name × ℕ)) (i j : ℕ) → IsTrue (is_sorted name_cmp links) → x ≢ z → IsNameAt links x i → IsNameAt links z j
    → remove (slice_set links j (z, n)) i ≡ put name_cmp z n (without x links)
set_then_removed x z n links i j rising apart at to =
    remove_named x (slice_set links j (z, n)) i (rising_set z n links j rising to) (ap name_of (named_elsewhere links i j (z, n) (other_place links x z i j apart at to)) ∙ at.named)
    ∙ ap (without x) (set_in_place z n links j rising to)
    ∙ without-put x z n links apart rising
