-- What a link and an unlink keep of a graph whatever the entry leads to.
use Rattle.std.proofs.Common.{◌≡◌, ℕ, Bool, true, false, cond, eqb, ◌&&◌, List, Some, None, refl, sym, ap, ◌∙◌}
use Rattle.fs_names.specs.Names.{Name, same_name, inserted_name, removed_name, has_name}
use Rattle.fs_names.specs.Shapes.{Shape, Dir, names_of}
use Rattle.fs_calls.specs.Graphs.{Graph, linked_in, unlinked_in, IsGraph}
use Rattle.fs_laws.proofs.trees.Prefixes.{same_true}
use Rattle.fs_laws.proofs.graphs.Walks.{eqb_true}
use Rattle.fs_laws.proofs.graphs.Listings.{has_with, with_else, has_without, without_else}

-- names and directories agree
pub record Local (graph : Graph) : Type 0 where
  pub of_dir : (n m : ℕ) (x : Name) → graph.child n x ≡ Some m → (names : List Name) × (graph.shape n ≡ Some (Dir names)) × (has_name x names ≡ true)
  pub to_used : (n m : ℕ) (x : Name) → graph.child n x ≡ Some m → (s : Shape) × (graph.shape m ≡ Some s)
  pub listed : (n : ℕ) (names : List Name) (x : Name) → graph.shape n ≡ Some (Dir names) → has_name x names ≡ true → (m : ℕ) × (graph.child n x ≡ Some m)
  pub root : (names : List Name) × (graph.shape 0 ≡ Some (Dir names))

pub local_of : (graph : Graph) → IsGraph graph → Local graph
local_of graph is = record { of_dir = is.of_dir; to_used = is.to_used; listed = is.listed; root = is.root }

pub local_linked : (graph : Graph) → Local graph → (dir : ℕ) (x : Name) (n : ℕ) (names : List Name) (t : Shape) → graph.shape n ≡ Some t → graph.shape dir ≡ Some (Dir names) → Local (linked_in dir x n graph)
local_linked graph is dir x n names t in_use dir_is = record {
  of_dir = λ m q z e. of_dir m q z (eqb m dir) (same_name z x) refl refl e;
  to_used = λ m q z e. used q (eqb q dir) (to_used m q z (eqb m dir && same_name z x) e);
  listed = λ m ns z e h. listed m ns z (eqb m dir) refl e h;
  root = root (eqb 0 dir) refl;
}
  where
    ns_is : names_of (graph.shape dir) ≡ names
    ns_is = ap names_of dir_is

    of_dir : (m q : ℕ) (z : Name) (b c : Bool) → eqb m dir ≡ b → same_name z x ≡ c → cond (b && c) (Some n) (graph.child m z) ≡ Some q
        → (ns : List Name) × (cond b (Some (Dir (inserted_name x (names_of (graph.shape dir))))) (graph.shape m) ≡ Some (Dir ns)) × (has_name z ns ≡ true)
    of_dir m q z true true i j e = (inserted_name x (names_of (graph.shape dir)), refl, ap (λ (y : Name). has_name y (inserted_name x (names_of (graph.shape dir)))) (same_true z x j) ∙ has_with x (names_of (graph.shape dir)))
    of_dir m q z true false i j e =
        let g : (ns : List Name) × (graph.shape m ≡ Some (Dir ns)) × (has_name z ns ≡ true) = is.of_dir m q z e in
        let f : names_of (graph.shape dir) ≡ g.0 = ap (λ (d : ℕ). names_of (graph.shape d)) (sym (eqb_true m dir i)) ∙ ap names_of g.1 in
        (inserted_name x (names_of (graph.shape dir)), refl, with_else x z (names_of (graph.shape dir)) j ∙ ap (has_name z) f ∙ g.2)
    of_dir m q z false true i j e = is.of_dir m q z e
    of_dir m q z false false i j e = is.of_dir m q z e

    to_used : (m q : ℕ) (z : Name) (b : Bool) → cond b (Some n) (graph.child m z) ≡ Some q → (s : Shape) × (graph.shape q ≡ Some s)
    to_used m q z true e = let f : n ≡ q = cc in (t, ap graph.shape (sym f) ∙ in_use)
    to_used m q z false e = is.to_used m q z e

    used : (q : ℕ) (b : Bool) → (s : Shape) × (graph.shape q ≡ Some s) → (s : Shape) × (cond b (Some (Dir (inserted_name x (names_of (graph.shape dir))))) (graph.shape q) ≡ Some s)
    used q true u = (Dir (inserted_name x (names_of (graph.shape dir))), refl)
    used q false u = u

    listed_here : (m : ℕ) (z : Name) (c : Bool) → m ≡ dir → same_name z x ≡ c → has_name z (inserted_name x (names_of (graph.shape dir))) ≡ true → (q : ℕ) × (cond (true && c) (Some n) (graph.child m z) ≡ Some q)
    listed_here m z true i j h = (n, refl)
    listed_here m z false i j h = is.listed m names z (ap graph.shape i ∙ dir_is) (ap (has_name z) (sym ns_is) ∙ sym (with_else x z (names_of (graph.shape dir)) j) ∙ h)

    listed : (m : ℕ) (ns : List Name) (z : Name) (b : Bool) → eqb m dir ≡ b → cond b (Some (Dir (inserted_name x (names_of (graph.shape dir))))) (graph.shape m) ≡ Some (Dir ns) → has_name z ns ≡ true → (q : ℕ) × (cond (b && same_name z x) (Some n) (graph.child m z) ≡ Some q)
    listed m ns z true i e h = let f : inserted_name x (names_of (graph.shape dir)) ≡ ns = cc in listed_here m z (same_name z x) (eqb_true m dir i) refl (ap (has_name z) f ∙ h)
    listed m ns z false i e h = is.listed m ns z e h

    root : (b : Bool) → eqb 0 dir ≡ b → (ns : List Name) × (cond b (Some (Dir (inserted_name x (names_of (graph.shape dir))))) (graph.shape 0) ≡ Some (Dir ns))
    root true i = (inserted_name x (names_of (graph.shape dir)), refl)
    root false i = is.root

pub local_unlinked : (graph : Graph) → Local graph → (dir : ℕ) (x : Name) (names : List Name) → graph.shape dir ≡ Some (Dir names) → Local (unlinked_in dir x graph)
local_unlinked graph is dir x names dir_is = record {
  of_dir = λ m q z e. of_dir m q z (eqb m dir) (same_name z x) refl refl e;
  to_used = λ m q z e. used q (eqb q dir) (is.to_used m q z (was m q z (eqb m dir && same_name z x) e));
  listed = λ m ns z e h. listed m ns z (eqb m dir) refl e h;
  root = root (eqb 0 dir);
}
  where
    was : (m q : ℕ) (z : Name) (b : Bool) → cond b None (graph.child m z) ≡ Some q → graph.child m z ≡ Some q
    was m q z true e = cc
    was m q z false e = e

    ns_is : names_of (graph.shape dir) ≡ names
    ns_is = ap names_of dir_is

    of_dir : (m q : ℕ) (z : Name) (b c : Bool) → eqb m dir ≡ b → same_name z x ≡ c → cond (b && c) None (graph.child m z) ≡ Some q
        → (ns : List Name) × (cond b (Some (Dir (removed_name x (names_of (graph.shape dir))))) (graph.shape m) ≡ Some (Dir ns)) × (has_name z ns ≡ true)
    of_dir m q z true true i j e = cc
    of_dir m q z true false i j e =
        let g : (ns : List Name) × (graph.shape m ≡ Some (Dir ns)) × (has_name z ns ≡ true) = is.of_dir m q z e in
        let f : names_of (graph.shape dir) ≡ g.0 = ap (λ (d : ℕ). names_of (graph.shape d)) (sym (eqb_true m dir i)) ∙ ap names_of g.1 in
        (removed_name x (names_of (graph.shape dir)), refl, without_else x z (names_of (graph.shape dir)) j ∙ ap (has_name z) f ∙ g.2)
    of_dir m q z false true i j e = is.of_dir m q z e
    of_dir m q z false false i j e = is.of_dir m q z e

    used : (q : ℕ) (b : Bool) → (s : Shape) × (graph.shape q ≡ Some s) → (s : Shape) × (cond b (Some (Dir (removed_name x (names_of (graph.shape dir))))) (graph.shape q) ≡ Some s)
    used q true u = (Dir (removed_name x (names_of (graph.shape dir))), refl)
    used q false u = u

    listed_here : (m : ℕ) (z : Name) (c : Bool) → m ≡ dir → same_name z x ≡ c → has_name z (removed_name x (names_of (graph.shape dir))) ≡ true → (q : ℕ) × (cond (true && c) None (graph.child m z) ≡ Some q)
    listed_here m z true i j h =
        let f : has_name z (removed_name x (names_of (graph.shape dir))) ≡ false = ap (λ (y : Name). has_name y (removed_name x (names_of (graph.shape dir)))) (same_true z x j) ∙ has_without x (names_of (graph.shape dir)) in
        let g : false ≡ true = sym f ∙ h in
        cc
    listed_here m z false i j h = is.listed m names z (ap graph.shape i ∙ dir_is) (ap (has_name z) (sym ns_is) ∙ sym (without_else x z (names_of (graph.shape dir)) j) ∙ h)

    listed : (m : ℕ) (ns : List Name) (z : Name) (b : Bool) → eqb m dir ≡ b → cond b (Some (Dir (removed_name x (names_of (graph.shape dir))))) (graph.shape m) ≡ Some (Dir ns) → has_name z ns ≡ true → (q : ℕ) × (cond (b && same_name z x) None (graph.child m z) ≡ Some q)
    listed m ns z true i e h = let f : removed_name x (names_of (graph.shape dir)) ≡ ns = cc in listed_here m z (same_name z x) (eqb_true m dir i) refl (ap (has_name z) f ∙ h)
    listed m ns z false i e h = is.listed m ns z e h

    root : (b : Bool) → (ns : List Name) × (cond b (Some (Dir (removed_name x (names_of (graph.shape dir))))) (graph.shape 0) ≡ Some (Dir ns))
    root true = (removed_name x (names_of (graph.shape dir)), refl)
    root false = is.root
