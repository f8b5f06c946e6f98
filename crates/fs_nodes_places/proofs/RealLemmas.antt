-- What every store keeps, by its places, and how a change of them is seen.
use Rattle.std.proofs.Common.{◌≡◌, ℕ, ◌≤◌, Bool, true, false, List, [], ◌∷◌, length, Option, Some, None, option_map, is_some, refl, sym, ap, ap₂, ◌∙◌}
use Rattle.std.specs.Prelude.{slice_get}
use Rattle.fs_names.specs.Names.{Name, has_name}
use Rattle.fs_names.specs.Shapes.{Shape, names_of, has_any, has_entries}
use Rattle.fs_nodes_places.specs.declared.node.Content.{Content}
use Rattle.fs_nodes_places.specs.declared.node.Content.TheVariants as contents
use Rattle.fs_nodes_places.specs.declared.node.Link.{Link}
use Rattle.fs_nodes_places.specs.declared.node.Node.{Node}
use Rattle.fs_calls.specs.Graphs.{Graph, then_at, at, IsReached, IsUnlinked}
use Rattle.fs_nodes_places.specs.Stores.{content_of, link_of, content_at, child_in, names_in, shape_with, shape_in, graph_in, IsStore, graph_of, limit_of, room}
use Rattle.fs_nodes_places.specs.Seen.{Seen, seen, Ascends, IsReal}
use Rattle.fs_calls.proofs.CycleLemmas.{step_one}
use Rattle.fs_nodes_places.proofs.AscentLemmas.{names_ascend}
use Rattle.fs_nodes_places.proofs.PlainEditLemmas.{past_shape}
use Rattle.fs_nodes_places.proofs.PlaceLemmas.{child_link, names_child, read_within}

-- the names of each number ascend
shape_ascends : (ps : List (Option Node)) (d : ℕ) → Ascends None (names_of (shape_in ps d))
shape_ascends ps d = go (content_at ps d)
  where
    go : (o : Option Content) → Ascends None (names_of (option_map (shape_with (names_in ps d)) o))
    go None = tt
    go (Some contents.Dir) = names_ascend ps d
    go (Some (contents.File file)) = tt

-- and are those of its entries
shape_lists : (most : ℕ) (ps : List (Option Node)) → IsStore most ps → (d : ℕ) (x : Name) → has_name x (names_of (shape_in ps d)) ≡ is_some (child_in ps d x)
shape_lists most ps store d x = go (content_at ps d) refl
  where
    none : (o : Option ℕ) → child_in ps d x ≡ o → (content_at ps d ≡ Some contents.Dir → ⊥) → false ≡ is_some o
    none None k other = refl
    none (Some n) k other = absurd (other (store.of_dir n (record { dir = d; name = x }) (child_link ps d x n k)))

    go : (o : Option Content) → content_at ps d ≡ o → has_name x (names_of (option_map (shape_with (names_in ps d)) o)) ≡ is_some (child_in ps d x)
    go None e = none (child_in ps d x) refl (λ h. absurd (cc))
    go (Some contents.Dir) e = names_child ps d x
    go (Some (contents.File file)) e = none (child_in ps d x) refl (λ h. absurd (cc))

-- what an entry names is in use
pub child_shape : (ps : List (Option Node)) (d n : ℕ) (x : Name) → child_in ps d x ≡ Some n → (s : Shape) × (shape_in ps n ≡ Some s)
child_shape ps d n x e = go (read_within link_of ps n (record { dir = d; name = x }) (child_link ps d x n e))
  where
    go : ((p : Option Node) × (slice_get ps n ≡ Some p) × (link_of p ≡ Some (record { dir = d; name = x }))) → (s : Shape) × (shape_in ps n ≡ Some s)
    go (None, got, is) = absurd (cc)
    go (Some node, got, is) = (shape_with (names_in ps n) node.content, ap (λ (o : Option (Option Node)). option_map (shape_with (names_in ps n)) (then_at o content_of)) got)

-- a place without a node is that of a number not in use
pub free_shape : (ps : List (Option Node)) (n : ℕ) → slice_get ps n ≡ Some None → shape_in ps n ≡ None
free_shape ps n e = ap (λ (o : Option (Option Node)). option_map (shape_with (names_in ps n)) (then_at o content_of)) e

-- what is not in use is linked nowhere
pub free_unlinked : (ps : List (Option Node)) (n : ℕ) → shape_in ps n ≡ None → IsUnlinked (child_in ps) n
free_unlinked ps n free d x e = let s : (s : Shape) × (shape_in ps n ≡ Some s) = child_shape ps d n x e in absurd (cc)

same_link : (d e : ℕ) (x y : Name) → ◌≡◌ {A = Option Link} (Some (record { dir = d; name = x })) (Some (record { dir = e; name = y })) → (d ≡ e) × (x ≡ y)
same_link d e x y h = let k : ◌≡◌ {A = Link} (record { dir = d; name = x }) (record { dir = e; name = y }) = cc in (ap (λ (l : Link). l.dir) k, ap (λ (l : Link). l.name) k)

-- what a store keeps, of its places within a limit
pub real_of : {f : Bool} (most limit : ℕ) (ps : List (Option Node)) → IsStore most ps → length ps ≤ limit → IsReal (seen (record { limit = limit; in_blocks = f; places = ps }))
unfolding graph_of limit_of room
real_of most limit ps store within = record {
  root = (names_in ps 0, ap (option_map (shape_with (names_in ps 0))) store.root);
  root_unlinked = λ d x e. (let h : ◌≡◌ {A = Option Link} None (Some (record { dir = d; name = x })) = sym store.root_unlinked ∙ child_link ps d x 0 e in absurd (cc));
  of_dir = λ d n x e. (names_in ps d, ap (option_map (shape_with (names_in ps d))) (store.of_dir n (record { dir = d; name = x }) (child_link ps d x n e)));
  to_used = λ d n x e. child_shape ps d n x e;
  one_name = λ d e n x y f g. same_link d e x y (sym (child_link ps d x n f) ∙ child_link ps e y n g);
  acyclic = store.acyclic;
  listed = λ d x. shape_lists most ps store d x;
  ascend = λ d. shape_ascends ps d;
  made = λ n h. past_shape ps n h;
  within = within;
}

-- what is seen of places that have changed
pub seen_by : {f : Bool} (limit count : ℕ) (ps : List (Option Node)) (graph : Graph) → graph_in ps ≡ graph → length ps ≡ count → seen (record { limit = limit; in_blocks = f; places = ps }) ≡ record { graph = graph; limit = limit; room = count; in_blocks = f }
unfolding graph_of limit_of room
seen_by {f} limit count ps graph e g = ap₂ (λ (h : Graph) (n : ℕ). record { graph = h; limit = limit; room = n; in_blocks = f }) e g

-- from a node without entries no other one is reached
pub bare_reaches : (store : Seen) → IsReal store → (n m : ℕ) → has_entries (store.graph.shape n) ≡ false → IsReached store.graph.child n m → n ≡ m
bare_reaches store real n m bare ([], e) = cc
bare_reaches store real n m bare (x ∷ key, e) = absurd (go (store.graph.child n x) refl e)
  where
    by : (names : List Name) → has_any names ≡ false → has_name x names ≡ true → ⊥
    by [] f g = cc
    by (y ∷ names) f g = cc

    go : (o : Option ℕ) → store.graph.child n x ≡ o → then_at o (λ k. at store.graph.child k key) ≡ Some m → ⊥
    go None f g = cc
    go (Some k) f g = by (names_of (store.graph.shape n)) bare (real.listed n x ∙ ap is_some f)

-- nor its own directory from what an entry names
pub entry_apart : (store : Seen) → IsReal store → (from to n : ℕ) (x : Name) → store.graph.child from x ≡ Some n → from ≡ to → IsReached store.graph.child n to → ⊥
entry_apart store real from to n x child same (key, e) = real.acyclic from key x (step_one store.graph.child from n x key (Some from) child (e ∙ ap (λ (k : ℕ). Some k) (sym same)))
