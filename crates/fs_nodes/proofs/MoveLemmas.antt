-- A move is an unlink and a link: what stands between the two.
use Rattle.std.proofs.Common.{◌≡◌, ℕ, Bool, true, false, cond, eqb, ◌&&◌, List, Option, Some, None, IfSome, refl, sym, ap, ap₂, subst, ◌∙◌}
use Rattle.std.specs.Prelude.{IsTrue}
use Rattle.fs_names.specs.Names.{Name, same_name, removed_name}
use Rattle.fs_names.specs.Shapes.{Shape, Dir, names_of, is_there, is_dir}
use Rattle.fs_names.proofs.Lemmas.{same_name_refl}
use Rattle.fs_nodes_places.specs.declared.place.Place.{Place}
use Rattle.fs_calls.specs.Graphs.{linked_in, unlinked_in, moved_in, IsReached}
use Rattle.fs_nodes_places.specs.Seen.{Seen}
use Rattle.fs_nodes.specs.code.Linked.{graph_of_places, IsPlaces}
use Rattle.fs_calls.proofs.CycleLemmas.{reached_less}
use Rattle.fs_calls.proofs.EqualLemmas.{eqb_refl}
use Rattle.fs_nodes_places.proofs.ExchangeLemmas.{IsBetween}
use Rattle.fs_nodes.proofs.EntryLemmas.{one_name, root_unlinked, child_used}

-- so it is among the places of a store
pub between : (ps : List Place) (from to n : ℕ) (x y : Name) → IsPlaces ps → (graph_of_places ps).child from x ≡ Some n → IsTrue (is_dir ((graph_of_places ps).shape to)) → (graph_of_places ps).child to y ≡ None → (IsReached (graph_of_places ps).child n to → ⊥) → IsBetween (unlinked_in from x (graph_of_places ps)) to n y
between ps from to n x y places there dir free apart = record {
  dir = go (eqb to from);
  absent = none (eqb to from && same_name y x);
  used = node (eqb n from);
  unlinked = λ d z e. gone d z e;
  not_root = λ e. root_unlinked ps from x places (there ∙ ap (λ (k : ℕ). Some k) e);
  apart = λ way. apart (reached_less (graph_of_places ps).child from x n to way);
}
  where
    names : ℕ → List Name
    names d = names_of ((graph_of_places ps).shape d)

    go : (b : Bool) → IsTrue (is_dir (cond b (Some (Dir (removed_name x (names from)))) ((graph_of_places ps).shape to)))
    go true = refl
    go false = dir

    none : (b : Bool) → cond b None ((graph_of_places ps).child to y) ≡ None
    none true = refl
    none false = free

    node : (b : Bool) → IsTrue (is_there (cond b (Some (Dir (removed_name x (names from)))) ((graph_of_places ps).shape n)))
    node true = refl
    node false = let r : (s : Shape) × ((graph_of_places ps).shape n ≡ Some s) = child_used ps from n x there in ap is_there r.1

    gone : (d : ℕ) (z : Name) → (unlinked_in from x (graph_of_places ps)).child d z ≡ Some n → ⊥
    gone d z e = by (eqb d from && same_name z x) refl e
      where
        by : (b : Bool) → (eqb d from && same_name z x) ≡ b → cond b None ((graph_of_places ps).child d z) ≡ Some n → ⊥
        by true f g = cc
        by false f g =
            let r : (d ≡ from) × (z ≡ x) = one_name ps d from n z x g there in
            let h : (eqb d from && same_name z x) ≡ true = ap₂ (λ (a : ℕ) (b : Name). eqb a from && same_name b x) r.0 r.1 ∙ ap₂ (λ (a b : Bool). a && b) (eqb_refl from) (same_name_refl x) in
            let w : true ≡ false = sym h ∙ f in cc

-- both, one after the other
pub moved_seen : (old middle new : Seen) (from to n : ℕ) (x y : Name) → old.graph.child from x ≡ Some n → middle ≡ record old { graph = unlinked_in from x old.graph } → new ≡ record middle { graph = linked_in to y n middle.graph }
    → IfSome (old.graph.child from x) (λ k. new ≡ record old { graph = moved_in from x to y k old.graph })
moved_seen old middle new from to n x y there e f = subst (λ (o : Option ℕ). IfSome o (λ k. new ≡ record old { graph = moved_in from x to y k old.graph })) (sym there) (f ∙ ap (λ (m : Seen). record m { graph = linked_in to y n m.graph }) e)
