-- What the entries of places say of the nodes that they name.
use Rattle.std.proofs.Common.{◌≡◌, ℕ, ◌<◌, List, Option, Some, None, IfSome, option_map, length, refl, sym, ap, subst, ◌∙◌, arith}
use Rattle.std.specs.Prelude.{slice_get}
use Rattle.std.proofs.lemmas.Option.{slice_get_within}
use Rattle.std.proofs.lemmas.List.{length-map}
use Rattle.fs_names.specs.Names.{Name}
use Rattle.fs_names.specs.Shapes.{Shape}
use Rattle.fs_names.specs.declared.limits.TheConstants.{NODE_LIMIT}
use Rattle.fs_nodes_places.specs.declared.node.Link.{Link}
use Rattle.fs_nodes_places.specs.declared.node.Node.{Node}
use Rattle.fs_nodes_places.specs.declared.place.Place.{Place}
use Rattle.fs_calls.specs.Graphs.{then_at, IsParent, IsUnlinked}
use Rattle.fs_nodes_places.specs.Stores.{content_of, link_of, link_at, names_in, shape_with, with_child}
use Rattle.fs_nodes_places.specs.Plains.{plain, plains}
use Rattle.fs_nodes.specs.code.Linked.{graph_of_places, IsBeside, IsNextSibling, IsPlaces}
use Rattle.fs_nodes_places.proofs.PlaceLemmas.{child_link, read_within}
use Rattle.fs_nodes_places.proofs.PlainEditLemmas.{parent_is, no_parent}
use Rattle.fs_nodes.proofs.StepLemmas.{child_place, next_within}

-- one node, one entry
pub one_name : (ps : List Place) (d e n : ℕ) (x y : Name) → (graph_of_places ps).child d x ≡ Some n → (graph_of_places ps).child e y ≡ Some n → (d ≡ e) × (x ≡ y)
one_name ps d e n x y f g =
    let h : ◌≡◌ {A = Option Link} (Some (record { dir = d; name = x })) (Some (record { dir = e; name = y })) = sym (child_link (plains ps) d x n f) ∙ child_link (plains ps) e y n g in
    let k : ◌≡◌ {A = Link} (record { dir = d; name = x }) (record { dir = e; name = y }) = cc in
    (ap (λ (l : Link). l.dir) k, ap (λ (l : Link). l.name) k)

-- no entry names the root
pub root_unlinked : (ps : List Place) (d : ℕ) (x : Name) → IsPlaces ps → (graph_of_places ps).child d x ≡ Some 0 → ⊥
root_unlinked ps d x places e = let h : ◌≡◌ {A = Option Link} None (Some (record { dir = d; name = x })) = sym places.store.root_unlinked ∙ child_link (plains ps) d x 0 e in cc

-- what an entry names is in use
pub child_used : (ps : List Place) (d n : ℕ) (x : Name) → (graph_of_places ps).child d x ≡ Some n → (s : Shape) × ((graph_of_places ps).shape n ≡ Some s)
child_used ps d n x e = go (slice_get (plains ps) n) refl (child_link (plains ps) d x n e)
  where
    go : (o : Option (Option Node)) → slice_get (plains ps) n ≡ o → then_at o link_of ≡ Some (record { dir = d; name = x }) → (s : Shape) × ((graph_of_places ps).shape n ≡ Some s)
    go None f g = absurd (cc)
    go (Some None) f g = absurd (cc)
    go (Some (Some node)) f g = (shape_with (names_in (plains ps) n) node.content, ap (λ (o : Option (Option Node)). option_map (shape_with (names_in (plains ps) n)) (then_at o content_of)) f)

-- the directory of a node's entry
pub parent_read : (ps : List Place) (n d : ℕ) → IsPlaces ps → option_map (λ l. l.dir) (link_at (plains ps) n) ≡ Some d → IsParent (graph_of_places ps).child n d
parent_read ps n d places e = go (link_at (plains ps) n) refl e
  where
    go : (l : Option Link) → link_at (plains ps) n ≡ l → option_map (λ l. l.dir) l ≡ Some d → IsParent (graph_of_places ps).child n d
    go None f g = absurd (cc)
    go (Some link) f g = let h : link.dir ≡ d = cc in subst (IsParent (graph_of_places ps).child n) h (parent_is NODE_LIMIT (plains ps) n link places.store f)

-- a node without one
pub parent_none : (ps : List Place) (n : ℕ) → option_map (λ l. l.dir) (link_at (plains ps) n) ≡ None → IsUnlinked (graph_of_places ps).child n
parent_none ps n e = go (link_at (plains ps) n) refl e
  where
    go : (l : Option Link) → link_at (plains ps) n ≡ l → option_map (λ l. l.dir) l ≡ None → IsUnlinked (graph_of_places ps).child n
    go None f g = no_parent (plains ps) n f
    go (Some link) f g = absurd (cc)

-- a node with an entry has a place
pub linked_within : (ps : List Place) (n d : ℕ) → option_map (λ l. l.dir) (link_at (plains ps) n) ≡ Some d → n < length ps
linked_within ps n d e = go (link_at (plains ps) n) refl e
  where
    go : (l : Option Link) → link_at (plains ps) n ≡ l → option_map (λ l. l.dir) l ≡ Some d → n < length ps
    go None f g = absurd (cc)
    go (Some link) f g =
        let r : (q : Option Node) × (slice_get (plains ps) n ≡ Some q) × (link_of q ≡ Some link) = read_within link_of (plains ps) n link f in
        let w : n < length (plains ps) = slice_get_within (plains ps) n r.0 r.1 in
        let l : length (plains ps) ≡ length ps = length-map ps plain in
        omega arith

-- its place leads to the sibling after it
pub next_read : (ps : List Place) (n : ℕ) (p : Place) → IsPlaces ps → slice_get ps n ≡ Some p → IsNextSibling (graph_of_places ps) n p.next
next_read ps n p places e dir name child =
    let b : IsBeside (graph_of_places ps) n p.next p.prev (Some (record { dir = dir; name = name })) = subst (IsBeside (graph_of_places ps) n p.next p.prev) (child_place ps dir name n p e child) (places.each n p e).beside in
    b.0

-- which has a place too
pub next_inside : (ps : List Place) (n d : ℕ) (p : Place) → IsPlaces ps → slice_get ps n ≡ Some p → option_map (λ l. l.dir) (link_at (plains ps) n) ≡ Some d → IfSome p.next (λ k. k < length ps)
next_inside ps n d p places e linked = go p.next refl (parent_read ps n d places linked)
  where
    go : (o : Option ℕ) → p.next ≡ o → IsParent (graph_of_places ps).child n d → IfSome o (λ k. k < length ps)
    go None f r = tt
    go (Some k) f r = next_within ps d (Some r.0) k (sym (next_read ps n p places e d r.0 r.1) ∙ f)

-- nothing is not something
pub none_some : {A : Type 0} (o : Option A) (x : A) → o ≡ None → o ≡ Some x → ⊥
none_some o x e f = cc

-- the node of an entry that is told with its name
pub entry_child : (children : Name → Option ℕ) (o : Option Name) (x : Name) (n : ℕ) → ◌≡◌ {A = Option (Name × ℕ)} (Some (x, n)) (with_child children o) → children x ≡ Some n
entry_child children None x n e = absurd (cc)
entry_child children (Some y) x n e = go (children y) refl e
  where
    go : (o : Option ℕ) → children y ≡ o → ◌≡◌ {A = Option (Name × ℕ)} (Some (x, n)) (option_map (λ (m : ℕ). (y, m)) o) → children x ≡ Some n
    go None k f = absurd (cc)
    go (Some m) k f =
        let same : ◌≡◌ {A = Name × ℕ} (x, n) (y, m) = cc in
        let name : x ≡ y = ap (λ (p : Name × ℕ). p.0) same in
        let number : n ≡ m = ap (λ (p : Name × ℕ). p.1) same in
        ap children name ∙ k ∙ ap Some (sym number)
