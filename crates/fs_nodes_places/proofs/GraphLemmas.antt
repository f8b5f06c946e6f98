-- The graph after a change of one place.
use Rattle.std.proofs.Common.{◌≡◌, ℕ, Bool, true, false, cond, eqb, List, [], ◌∷◌, ◌++◌, Option, Some, None, is_some, option_map, set, length, refl, sym, ap, ap₂, ◌∙◌}
use Rattle.std.specs.Prelude.{slice_get}
use Rattle.std.proofs.lemmas.Option.{slice_get_within}
use Rattle.fs_blocks.specs.Files.{FileValue}
use Rattle.fs_names.specs.Names.{Name, inserted_name, removed_name, has_name}
use Rattle.fs_names.specs.Shapes.{Shape, Dir, File, names_of}
use Rattle.fs_names.specs.declared.kind.Kind.{Kind}
use Rattle.fs_names.specs.declared.kind.Kind.TheVariants as kinds
use Rattle.fs_nodes_places.specs.declared.node.Content.{Content}
use Rattle.fs_nodes_places.specs.declared.node.Content.TheVariants as contents
use Rattle.fs_nodes_places.specs.declared.node.Link.{Link}
use Rattle.fs_nodes_places.specs.declared.node.Node.{Node}
use Rattle.fs_calls.specs.Graphs.{Graph, then_at, set_child, set_at, linked_in, unlinked_in, moved_in, reserved_in, released_in, content_in}
use Rattle.fs_nodes_places.specs.Stores.{content_of, link_of, content_at, link_at, is_link, child_in, with_link, names_in, shape_with, shape_in, graph_in, new_shape}
use Rattle.fs_nodes_places.specs.code.PlainEdits.{new_content, new_node}
use Rattle.fs_calls.proofs.NameLemmas.{removed_inserted}
use Rattle.fs_calls.proofs.EqualLemmas.{eqb_true, eqb_refl, graph_by}
use Rattle.fs_nodes_places.proofs.PlaceLemmas.{link_exact, child_linked, child_same, child_push, child_link, names_child, names_relinked, names_same, names_push, at_set, at_push, same_set, set_back, set_twice, get_set}

-- a node that no entry named is named by one
pub linked_graph : (ps : List (Option Node)) (n : ℕ) (p q : Option Node) (link : Link) → slice_get ps n ≡ Some p → link_of p ≡ None → link_of q ≡ Some link → content_of q ≡ content_of p → child_in ps link.dir link.name ≡ None → content_at ps link.dir ≡ Some contents.Dir
    → graph_in (set ps n q) ≡ linked_in link.dir link.name n (graph_in ps)
linked_graph ps n p q link there old new same free dir = graph_by (child_linked ps n p q link free there old new) shapes
  where
    by : (m : ℕ) (b : Bool) → eqb m link.dir ≡ b → option_map (shape_with (cond b (inserted_name link.name (names_in ps m)) (names_in ps m))) (content_at ps m) ≡ cond b (Some (Dir (inserted_name link.name (names_of (shape_in ps link.dir))))) (shape_in ps m)
    by m true e = rw (eqb_true m link.dir e, dir) refl
    by m false e = refl

    shapes : (m : ℕ) → shape_in (set ps n q) m ≡ set_at link.dir (Some (Dir (inserted_name link.name (names_of (shape_in ps link.dir))))) (shape_in ps) m
    shapes m = ap₂ (λ (names : List Name) (content : Option Content). option_map (shape_with names) content) (names_relinked ps n p q there old m ∙ ap (λ (l : Option Link). with_link l m (names_in ps m)) new) (same_set content_of ps n p q there same m) ∙ by m (eqb m link.dir) refl

-- what was linked and is unlinked again
pub unlinked_linked : (graph : Graph) (dir : ℕ) (x : Name) (n : ℕ) (names : List Name) → graph.child dir x ≡ None → graph.shape dir ≡ Some (Dir names) → has_name x names ≡ false → unlinked_in dir x (linked_in dir x n graph) ≡ graph
unlinked_linked graph dir x n names free there absent = graph_by children shapes
  where
    children : (d : ℕ) (y : Name) → set_child dir x None (set_child dir x (Some n) graph.child) d y ≡ graph.child d y
    children d y = by (is_link (Some (record { dir = dir; name = x })) d y) refl
      where
        by : (b : Bool) → is_link (Some (record { dir = dir; name = x })) d y ≡ b → cond b None (cond b (Some n) (graph.child d y)) ≡ graph.child d y
        by true e = let two : (d ≡ dir) × (y ≡ x) = link_exact (record { dir = dir; name = x }) d y e in sym (ap₂ graph.child two.0 two.1 ∙ free)
        by false e = refl

    old : removed_name x (names_of (set_at dir (Some (Dir (inserted_name x (names_of (graph.shape dir))))) graph.shape dir)) ≡ names
    old = rw (eqb_refl dir, there) (removed_inserted x names absent)

    shapes : (m : ℕ) → (unlinked_in dir x (linked_in dir x n graph)).shape m ≡ graph.shape m
    shapes m = by (eqb m dir) refl
      where
        by : (b : Bool) → eqb m dir ≡ b → cond b (Some (Dir (removed_name x (names_of (set_at dir (Some (Dir (inserted_name x (names_of (graph.shape dir))))) graph.shape dir))))) (cond b (Some (Dir (inserted_name x (names_of (graph.shape dir))))) (graph.shape m)) ≡ graph.shape m
        by true e = ap (λ (l : List Name). Some (Dir l)) old ∙ sym (ap graph.shape (eqb_true m dir e) ∙ there)
        by false e = refl

-- each node's entry leads to it
abbrev pub IsFound : List (Option Node) → Type 0
IsFound ps = (n : ℕ) (link : Link) → link_at ps n ≡ Some link → child_in ps link.dir link.name ≡ Some n

-- once a node has lost its entry, that entry is found no more
pub gone : (ps : List (Option Node)) (n : ℕ) (p q : Option Node) (link : Link) → IsFound ps → slice_get ps n ≡ Some p → link_of p ≡ Some link → link_of q ≡ None → child_in (set ps n q) link.dir link.name ≡ None
gone ps n p q link found there old new = go (child_in (set ps n q) link.dir link.name) refl
  where
    own : child_in ps link.dir link.name ≡ Some n
    own = found n link (ap (λ (o : Option (Option Node)). then_at o link_of) there ∙ old)

    by : (m : ℕ) (b : Bool) → eqb m n ≡ b → cond b (link_of q) (link_at ps m) ≡ Some link → ⊥
    by m true e f = let g : ◌≡◌ {A = Option Link} None (Some link) = sym new ∙ f in cc
    by m false e f =
        let g : Some m ≡ Some n = sym (found m link f) ∙ own in
        let h : m ≡ n = cc in
        let k : true ≡ false = sym (eqb_refl n) ∙ ap (λ (z : ℕ). eqb z n) (sym h) ∙ e in cc

    go : (o : Option ℕ) → child_in (set ps n q) link.dir link.name ≡ o → child_in (set ps n q) link.dir link.name ≡ None
    go None e = e
    go (Some m) e = absurd (by m (eqb m n) refl (sym (at_set link_of ps n q (slice_get_within ps n p there) m) ∙ child_link (set ps n q) link.dir link.name m e))

-- where a node loses its entry, the graph was the new one with it
pub unlinked_back : (ps : List (Option Node)) (n : ℕ) (p q : Option Node) (link : Link) → IsFound ps → slice_get ps n ≡ Some p → link_of p ≡ Some link → link_of q ≡ None → content_of q ≡ content_of p → content_at ps link.dir ≡ Some contents.Dir
    → graph_in ps ≡ linked_in link.dir link.name n (graph_in (set ps n q))
unlinked_back ps n p q link found there old new same dir =
    let free : child_in (set ps n q) link.dir link.name ≡ None = gone ps n p q link found there old new in
    let dir0 : content_at (set ps n q) link.dir ≡ Some contents.Dir = same_set content_of ps n p q there same link.dir ∙ dir in
    ap graph_in (sym (set_back ps n p q there)) ∙ linked_graph (set ps n q) n q p link (get_set ps n p q there) new old (sym same) free dir0

-- a node loses its entry
pub unlinked_graph : (ps : List (Option Node)) (n : ℕ) (p q : Option Node) (link : Link) → IsFound ps → slice_get ps n ≡ Some p → link_of p ≡ Some link → link_of q ≡ None → content_of q ≡ content_of p → content_at ps link.dir ≡ Some contents.Dir
    → graph_in (set ps n q) ≡ unlinked_in link.dir link.name (graph_in ps)
unlinked_graph ps n p q link found there old new same dir =
    let free : child_in (set ps n q) link.dir link.name ≡ None = gone ps n p q link found there old new in
    let dir0 : content_at (set ps n q) link.dir ≡ Some contents.Dir = same_set content_of ps n p q there same link.dir ∙ dir in
    let absent : has_name link.name (names_in (set ps n q) link.dir) ≡ false = names_child (set ps n q) link.dir link.name ∙ ap is_some free in
    let back : graph_in ps ≡ linked_in link.dir link.name n (graph_in (set ps n q)) = ap graph_in (sym (set_back ps n p q there)) ∙ linked_graph (set ps n q) n q p link (get_set ps n p q there) new old (sym same) free dir0 in
    sym (ap (unlinked_in link.dir link.name) back ∙ unlinked_linked (graph_in (set ps n q)) link.dir link.name n (names_in (set ps n q) link.dir) free (ap (option_map (shape_with (names_in (set ps n q) link.dir))) dir0) absent)

-- an entry that is free stays so when another one goes
pub free_still : (ps : List (Option Node)) (n : ℕ) (p q : Option Node) (link new : Link) → IsFound ps → slice_get ps n ≡ Some p → link_of p ≡ Some link → link_of q ≡ None → content_of q ≡ content_of p → content_at ps link.dir ≡ Some contents.Dir → child_in ps new.dir new.name ≡ None → child_in (set ps n q) new.dir new.name ≡ None
free_still ps n p q link new found there old none same dir free = ap (λ (g : Graph). g.child new.dir new.name) (unlinked_graph ps n p q link found there old none same dir) ∙ go (is_link (Some link) new.dir new.name)
  where
    go : (b : Bool) → cond b None (child_in ps new.dir new.name) ≡ None
    go true = refl
    go false = free

-- a node goes from one entry to another
pub moved_graph : (ps : List (Option Node)) (n : ℕ) (p q r : Option Node) (link new : Link) → IsFound ps → slice_get ps n ≡ Some p → link_of p ≡ Some link → link_of q ≡ None → content_of q ≡ content_of p → link_of r ≡ Some new → content_of r ≡ content_of p
    → content_at ps link.dir ≡ Some contents.Dir → content_at ps new.dir ≡ Some contents.Dir → child_in ps new.dir new.name ≡ None
    → graph_in (set ps n r) ≡ moved_in link.dir link.name new.dir new.name n (graph_in ps)
moved_graph ps n p q r link new found there old none same to same' dir dir' free =
    ap graph_in (sym (set_twice ps n r q))
    ∙ linked_graph (set ps n q) n q r new (get_set ps n p q there) none to (same' ∙ sym same) (free_still ps n p q link new found there old none same dir free) (same_set content_of ps n p q there same new.dir ∙ dir')
    ∙ ap (linked_in new.dir new.name n) (unlinked_graph ps n p q link found there old none same dir)

-- a number comes into use
new_is : (f : Bool) (kind : Kind) (names : List Name) → names ≡ [] → shape_with names (new_content f kind) ≡ new_shape kind
new_is f kinds.Dir names e = ap (λ (l : List Name). Dir l) e
new_is f kinds.File names e = refl

-- a number with a free place comes into use
pub reserved_graph : (f : Bool) (ps : List (Option Node)) (n : ℕ) (kind : Kind) → slice_get ps n ≡ Some None → names_in ps n ≡ [] → graph_in (set ps n (Some (new_node f kind))) ≡ reserved_in n (new_shape kind) (graph_in ps)
reserved_graph f ps n kind there empty = graph_by (child_same ps n None (Some (new_node f kind)) there refl) shapes
  where
    by : (m : ℕ) (b : Bool) → eqb m n ≡ b → option_map (shape_with (names_in ps m)) (cond b (Some (new_content f kind)) (content_at ps m)) ≡ cond b (Some (new_shape kind)) (shape_in ps m)
    by m true e = ap (λ (s : Shape). Some s) (new_is f kind (names_in ps m) (ap (names_in ps) (eqb_true m n e) ∙ empty))
    by m false e = refl

    shapes : (m : ℕ) → shape_in (set ps n (Some (new_node f kind))) m ≡ set_at n (Some (new_shape kind)) (shape_in ps) m
    shapes m = ap₂ (λ (names : List Name) (content : Option Content). option_map (shape_with names) content) (names_same ps n None (Some (new_node f kind)) there refl m) (at_set content_of ps n (Some (new_node f kind)) (slice_get_within ps n None there) m) ∙ by m (eqb m n) refl

-- the number after the last place comes into use
pub pushed_graph : (f : Bool) (ps : List (Option Node)) (kind : Kind) → names_in ps (length ps) ≡ [] → graph_in (ps ++ Some (new_node f kind) ∷ []) ≡ reserved_in (length ps) (new_shape kind) (graph_in ps)
pushed_graph f ps kind empty = graph_by (child_push ps (Some (new_node f kind)) refl) shapes
  where
    by : (m : ℕ) (b : Bool) → eqb m (length ps) ≡ b → option_map (shape_with (names_in ps m)) (cond b (Some (new_content f kind)) (content_at ps m)) ≡ cond b (Some (new_shape kind)) (shape_in ps m)
    by m true e = ap (λ (s : Shape). Some s) (new_is f kind (names_in ps m) (ap (names_in ps) (eqb_true m (length ps) e) ∙ empty))
    by m false e = refl

    shapes : (m : ℕ) → shape_in (ps ++ Some (new_node f kind) ∷ []) m ≡ set_at (length ps) (Some (new_shape kind)) (shape_in ps) m
    shapes m = ap₂ (λ (names : List Name) (content : Option Content). option_map (shape_with names) content) (names_push ps (Some (new_node f kind)) refl m) (at_push content_of ps (Some (new_node f kind)) m) ∙ by m (eqb m (length ps)) refl

-- a number leaves use
pub released_graph : (ps : List (Option Node)) (n : ℕ) (p : Option Node) → slice_get ps n ≡ Some p → link_of p ≡ None → graph_in (set ps n None) ≡ released_in n (graph_in ps)
released_graph ps n p there old = graph_by (child_same ps n p None there (sym old)) shapes
  where
    by : (m : ℕ) (b : Bool) → eqb m n ≡ b → option_map (shape_with (names_in ps m)) (cond b None (content_at ps m)) ≡ cond b None (shape_in ps m)
    by m true e = refl
    by m false e = refl

    shapes : (m : ℕ) → shape_in (set ps n None) m ≡ set_at n None (shape_in ps) m
    shapes m = ap₂ (λ (names : List Name) (content : Option Content). option_map (shape_with names) content) (names_same ps n p None there (sym old) m) (at_set content_of ps n None (slice_get_within ps n p there) m) ∙ by m (eqb m n) refl

-- a file changes
pub refilled_graph : (ps : List (Option Node)) (n : ℕ) (p q : Option Node) (file : FileValue) → slice_get ps n ≡ Some p → link_of q ≡ link_of p → content_of q ≡ Some (contents.File file) → graph_in (set ps n q) ≡ content_in n file.bytes (graph_in ps)
refilled_graph ps n p q file there same new = graph_by (child_same ps n p q there same) shapes
  where
    by : (m : ℕ) (b : Bool) → eqb m n ≡ b → option_map (shape_with (names_in ps m)) (cond b (Some (contents.File file)) (content_at ps m)) ≡ cond b (Some (File file.bytes)) (shape_in ps m)
    by m true e = refl
    by m false e = refl

    shapes : (m : ℕ) → shape_in (set ps n q) m ≡ set_at n (Some (File file.bytes)) (shape_in ps) m
    shapes m = ap₂ (λ (names : List Name) (content : Option Content). option_map (shape_with names) content) (names_same ps n p q there same m) (at_set content_of ps n q (slice_get_within ps n p there) m ∙ ap (λ (c : Option Content). cond (eqb m n) c (content_at ps m)) new) ∙ by m (eqb m n) refl
