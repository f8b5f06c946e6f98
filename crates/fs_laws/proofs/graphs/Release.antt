-- A number to which nothing leads leaves the graph, or comes into it.
use Rattle.std.proofs.Common.{◌≡◌, ℕ, true, List, [], ◌∷◌, ◌++◌, Option, Some, None, refl, sym, ap, ◌∙◌, subst, inl, inr}
use mathlib.Core.Path.{fun_ext}
use Rattle.fs_names.specs.Keys.{Key, parent_of, last_of}
use Rattle.fs_names.specs.Names.{Name, has_name}
use Rattle.fs_names.specs.Parts.{common}
use Rattle.fs_names.specs.Shapes.{Shape, Dir}
use Rattle.fs_names.specs.declared.limits.Limits.{Limits}
use Rattle.fs_calls.specs.Forms.{Form, AtNode, AtEntry, AtPair}
use Rattle.fs_calls.specs.Graphs.{Graph, at, then_at, numbers, graph_shapes, IsGraph, released_in, reserved_in}
use Rattle.fs_machine.specs.Records.{Record, Holdings, head_on}
use Rattle.fs_laws.specs.Invariants.{ForkedAt, HeadsSound, NumberFor, VictimAt, HasSpare, Own}
use Rattle.fs_laws.proofs.graphs.Walks.{at_child}
use Rattle.fs_laws.proofs.events.OneCallChanged.{Place, Here, Else, place}
use Rattle.fs_laws.proofs.events.Help.{upd_else}
use Rattle.fs_laws.proofs.calls.OwnRecord.{reached_used}

-- graphs with the same entries
pub well_children : (old new : Graph) → new.child ≡ old.child → (n : ℕ) (remaining : Form) (st : Holdings) → HeadsSound old n remaining st → HeadsSound new n remaining st
well_children old new same n (AtNode c p) st w = w
well_children old new same n (AtEntry c p) st w = w
well_children old new same n (AtPair c p q) st w = go (common (parent_of p) (parent_of q)) w
  where
    go : (l : Key) → ForkedAt old n p q st l → ForkedAt new n p q st l
    go [] w = record { stands = λ side. subst (λ (k : ℕ → Name → Option ℕ). at k n (head_on side st).walked ≡ Some (head_on side st).node) (sym same) (w.stands side); path = w.path }
    go (x ∷ l) w = w

victim_children : (old new : Graph) → new.child ≡ old.child → (remaining : Form) (st : Holdings) → VictimAt old remaining st → VictimAt new remaining st
victim_children old new same (AtNode c p) st w = w
victim_children old new same (AtEntry c p) st w = λ v e. ap (λ (k : ℕ → Name → Option ℕ). k st.node (last_of p)) same ∙ w v e
victim_children old new same (AtPair c p q) st w = λ v e. (ap (λ (k : ℕ → Name → Option ℕ). k st.dest.node (last_of q)) same ∙ (w v e).0, (w v e).1, (w v e).2)

pub numbers_children : (old new : Graph) → new.child ≡ old.child → (key : Key) → numbers new key ≡ numbers old key
numbers_children old new same key = ap (λ (k : ℕ → Name → Option ℕ). at k 0 key) same

number_children : (old new : Graph) → new.child ≡ old.child → (remaining : Form) (reserved : Option ℕ) → ((m : ℕ) → reserved ≡ Some m → new.shape m ≡ old.shape m) → NumberFor old remaining reserved → NumberFor new remaining reserved
number_children old new same (AtNode c p) reserved h w = w
number_children old new same (AtPair c p q) reserved h w = w
number_children old new same (AtEntry c p) reserved h w = λ shape e.
    (let g : (m : ℕ) × (reserved ≡ Some m) × (old.shape m ≡ Some shape) × ((key : Key) → numbers old key ≡ Some m → ⊥) = w shape e in
    (g.0, g.1, h g.0 g.1 ∙ g.2, λ key i. g.3 key (sym (numbers_children old new same key) ∙ i)))

-- what a call keeps where only other numbers change
pub own_children : {limits : Limits} (old new : Graph) → new.child ≡ old.child → (q : Record) → ((m : ℕ) → HasSpare q m → new.shape m ≡ old.shape m) → Own limits old q → Own limits new q
own_children old new same q h o = record {
  parts = o.parts;
  well = λ st e. well_children old new same st.node q.remaining st (o.well st e);
  spare = λ m e. (((o.spare m e).0.0, h m (inl e) ∙ (o.spare m e).0.1), λ key i. (o.spare m e).1 key (sym (numbers_children old new same key) ∙ i));
  number = λ u f. number_children old new same q.remaining q.reserved (λ m e. h m (inl e)) (o.number u f);
  placed = o.placed;
  gone = λ m e. ((o.gone m e).0, (λ key i. (o.gone m e).1 key (sym (numbers_children old new same key) ∙ i)), ((o.gone m e).2.0, h m (inr e) ∙ (o.gone m e).2.1));
  intact = o.intact;
  one_spare = o.one_spare;
  victim = λ u st e. victim_children old new same q.remaining st (o.victim u st e);
  starts = o.starts;
  single = o.single;
}

-- the tree that is spelled reads shapes of reached numbers alone
shapes_children : (old new : Graph) → new.child ≡ old.child → ((m : ℕ) (key : Key) → numbers old key ≡ Some m → new.shape m ≡ old.shape m) → graph_shapes new ≡ graph_shapes old
shapes_children old new same h = fun_ext (λ key. ap (λ (o : Option ℕ). then_at o new.shape) (numbers_children old new same key) ∙ go key (numbers old key) refl)
  where
    go : (key : Key) (o : Option ℕ) → numbers old key ≡ o → then_at o new.shape ≡ then_at o old.shape
    go key None e = refl
    go key (Some m) e = h m key e

pub release_else : (graph : Graph) (n m : ℕ) → (m ≡ n → ⊥) → (released_in n graph).shape m ≡ graph.shape m
release_else graph n m h = upd_else n None graph.shape m h

-- a number to which nothing leads leaves the graph
pub shapes_released : (graph : Graph) (n : ℕ) → ((key : Key) → numbers graph key ≡ Some n → ⊥) → graph_shapes (released_in n graph) ≡ graph_shapes graph
shapes_released graph n loose = shapes_children graph (released_in n graph) refl (λ m key e. release_else graph n m (λ i. loose key (e ∙ ap (λ (x : ℕ). Some x) i)))

pub graph_released : (graph : Graph) → IsGraph graph → (n : ℕ) → ((key : Key) → numbers graph key ≡ Some n → ⊥) → IsGraph (released_in n graph)
graph_released graph is n loose = record {
  one_key = is.one_key;
  of_dir = λ d m x e. (let g : (names : List Name) × (graph.shape d ≡ Some (Dir names)) × (has_name x names ≡ true) = is.of_dir d m x e in (g.0, release_else graph n d (not_dir d m x e) ∙ g.1, g.2));
  to_used = λ d m x e. (let g : (s : Shape) × (graph.shape m ≡ Some s) = is.to_used d m x e in (g.0, release_else graph n m (not_child d m x e) ∙ g.1));
  listed = λ d names x e h. is.listed d names x (was d (Dir names) e) h;
  root = (is.root.0, release_else graph n 0 (λ i. loose [] (ap (λ (x : ℕ). Some x) i)) ∙ is.root.1);
  loose = is.loose;
}
  where
    not_dir : (d m : ℕ) (x : Name) → graph.child d x ≡ Some m → d ≡ n → ⊥
    not_dir d m x e i = let l : (key : Key) × (numbers graph key ≡ Some d) = is.loose d m x e in loose l.0 (l.1 ∙ ap (λ (y : ℕ). Some y) i)

    not_child : (d m : ℕ) (x : Name) → graph.child d x ≡ Some m → m ≡ n → ⊥
    not_child d m x e i = let l : (key : Key) × (numbers graph key ≡ Some d) = is.loose d m x e in loose (l.0 ++ x ∷ []) (at_child graph.child 0 d l.0 x l.1 ∙ e ∙ ap (λ (y : ℕ). Some y) i)

    was : (d : ℕ) (s : Shape) → (released_in n graph).shape d ≡ Some s → graph.shape d ≡ Some s
    was d s e = go (place n None graph.shape d)
      where
        go : Place (Option Shape) n None graph.shape d → graph.shape d ≡ Some s
        go (Here i j) = let z : ◌≡◌ {A = Option Shape} None (Some s) = sym j ∙ e in cc
        go (Else k j) = sym j ∙ e

-- a number that was not in use comes into use
pub shapes_reserved : (graph : Graph) → IsGraph graph → (n : ℕ) (s : Shape) → graph.shape n ≡ None → graph_shapes (reserved_in n s graph) ≡ graph_shapes graph
shapes_reserved graph is n s free = shapes_children graph (reserved_in n s graph) refl (λ m key e. upd_else n (Some s) graph.shape m (λ i.
    (let u : (t : Shape) × (graph.shape m ≡ Some t) = reached_used graph is key m e in
    let z : ◌≡◌ {A = Option Shape} None (Some u.0) = sym free ∙ ap graph.shape (sym i) ∙ u.1 in cc)))

pub graph_reserved : (graph : Graph) → IsGraph graph → (n : ℕ) (s : Shape) → graph.shape n ≡ None → ((names : List Name) (x : Name) → s ≡ Dir names → has_name x names ≡ true → ⊥) → IsGraph (reserved_in n s graph)
graph_reserved graph is n s free bare = record {
  one_key = is.one_key;
  of_dir = λ d m x e. (let g : (names : List Name) × (graph.shape d ≡ Some (Dir names)) × (has_name x names ≡ true) = is.of_dir d m x e in (g.0, upd_else n (Some s) graph.shape d (used_else d (Dir g.0) g.1) ∙ g.1, g.2));
  to_used = λ d m x e. (let g : (t : Shape) × (graph.shape m ≡ Some t) = is.to_used d m x e in (g.0, upd_else n (Some s) graph.shape m (used_else m g.0 g.1) ∙ g.1));
  listed = λ d names x e h. listed d names x e h (place n (Some s) graph.shape d);
  root = (is.root.0, upd_else n (Some s) graph.shape 0 (used_else 0 (Dir is.root.0) is.root.1) ∙ is.root.1);
  loose = is.loose;
}
  where
    used_else : (m : ℕ) (t : Shape) → graph.shape m ≡ Some t → m ≡ n → ⊥
    used_else m t e i = let z : ◌≡◌ {A = Option Shape} None (Some t) = sym free ∙ ap graph.shape (sym i) ∙ e in cc

    listed : (d : ℕ) (names : List Name) (x : Name) → (reserved_in n s graph).shape d ≡ Some (Dir names) → has_name x names ≡ true → Place (Option Shape) n (Some s) graph.shape d → (m : ℕ) × (graph.child d x ≡ Some m)
    listed d names x e h (Here i j) = let z : ◌≡◌ {A = Option Shape} (Some s) (Some (Dir names)) = sym j ∙ e in absurd (bare names x (let y : s ≡ Dir names = cc in y) h)
    listed d names x e h (Else k j) = is.listed d names x (sym j ∙ e) h
