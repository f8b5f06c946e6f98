-- What each change of a store does to its graph, and that it keeps what a store keeps.
use Rattle.std.proofs.Common.{◌≡◌, ℕ, ◌<◌, ◌≤◌, Bool, false, List, [], ◌∷◌, ◌++◌, Option, Some, None, IsTrue, option_map, count_by, set, get_or, length, refl, sym, ap, ◌∙◌, arith, subst}
use Rattle.std.specs.Prelude.{slice_get}
use Rattle.std.specs.List.{find}
use Rattle.std.proofs.lemmas.Option.{slice_get_within, slice_get_read}
use Rattle.fs_blocks.specs.Files.{FileValue}
use Rattle.fs_names.specs.Names.{Name}
use Rattle.fs_names.specs.Shapes.{names_of, bytes_of, is_there, is_dir, is_file, has_entries}
use Rattle.fs_names.specs.declared.kind.Kind.{Kind}
use Rattle.fs_nodes_places.specs.declared.node.Content.{Content}
use Rattle.fs_nodes_places.specs.declared.node.Content.TheVariants as contents
use Rattle.fs_nodes_places.specs.declared.node.Link.{Link}
use Rattle.fs_nodes_places.specs.declared.node.Node.{Node}
use Rattle.fs_calls.specs.Graphs.{Graph, then_at, linked_in, unlinked_in, moved_in, reserved_in, released_in, content_in, IsReached, IsUnlinked, IsParent}
use Rattle.fs_nodes_places.specs.Stores.{content_of, link_of, content_at, link_at, is_in, child_in, names_in, shape_with, shape_in, graph_in, new_shape, next_entry, with_child, is_above, IsNextName, IsStore}
use Rattle.fs_nodes_places.specs.code.PlainEdits.{relinked, new_node, with_file, refilled, handed_out, given_back}
use Rattle.fs_nodes_places.proofs.PlaceLemmas.{child_link, names_none, read_within, past_end}
use Rattle.fs_nodes_places.proofs.PickLemmas.{count_names}
use Rattle.fs_nodes_places.proofs.AscentLemmas.{names_ascend, next_names, no_names_above}
use Rattle.fs_nodes_places.proofs.GraphLemmas.{linked_graph, unlinked_graph, moved_graph, reserved_graph, pushed_graph, released_graph, refilled_graph}
use Rattle.fs_nodes_places.proofs.StoreLemmas.{place_of_shape, dir_of_shape, file_of_shape, unlinked_place, no_names, store_reserved, store_pushed, store_released, store_refilled, store_linked, store_unlinked, store_moved}

-- the place of a number in use
pub place_within : (ps : List (Option Node)) (n : ℕ) → IsTrue (is_there (shape_in ps n)) → n < length ps
place_within ps n h = let r : (p : Option Node) × (content : Content) × (slice_get ps n ≡ Some p) × (content_of p ≡ Some content) = place_of_shape ps n h in slice_get_within ps n r.0 r.2

-- the place of what an entry names
pub child_within : (ps : List (Option Node)) (n dir : ℕ) (x : Name) → child_in ps dir x ≡ Some n → n < length ps
child_within ps n dir x e = let r : (p : Option Node) × (slice_get ps n ≡ Some p) × (link_of p ≡ Some (record { dir = dir; name = x })) = read_within link_of ps n (record { dir = dir; name = x }) (child_link ps dir x n e) in slice_get_within ps n r.0 r.1

-- the place of a file
pub file_within : (ps : List (Option Node)) (n : ℕ) → IsTrue (is_file (shape_in ps n)) → n < length ps
file_within ps n h =
    let f : (file : FileValue) × (content_at ps n ≡ Some (contents.File file)) = file_of_shape ps n h in
    let r : (p : Option Node) × (slice_get ps n ≡ Some p) × (content_of p ≡ Some (contents.File f.0)) = read_within content_of ps n (contents.File f.0) f.1 in slice_get_within ps n r.0 r.1

-- a relinked place holds what it held
pub relinked_content : (p : Option Node) (link : Option Link) → content_of (relinked p link) ≡ content_of p
relinked_content None link = refl
relinked_content (Some node) link = refl

-- a relinked place has the new entry
relinked_link : (p : Option Node) (content : Content) (link : Option Link) → content_of p ≡ Some content → link_of (relinked p link) ≡ link
relinked_link None content link e = absurd (cc)
relinked_link (Some node) content link e = refl

-- the place that an index leads to
pub at_of : (ps : List (Option Node)) (n : ℕ) (p : Option Node) → slice_get ps n ≡ Some p → link_at ps n ≡ link_of p
at_of ps n p e = ap (λ (o : Option (Option Node)). then_at o link_of) e

-- the place of a number in use has a node
some_content : (ps : List (Option Node)) (n : ℕ) (p : Option Node) → slice_get ps n ≡ Some p → IsTrue (is_there (shape_in ps n)) → (content : Content) × (content_of p ≡ Some content)
some_content ps n p e h =
    let r : (q : Option Node) × (content : Content) × (slice_get ps n ≡ Some q) × (content_of q ≡ Some content) = place_of_shape ps n h in
    let g : Some r.0 ≡ Some p = sym r.2 ∙ e in
    let f : r.0 ≡ p = cc in
    (r.1, ap content_of (sym f) ∙ r.3)

-- an edit: the graph that it makes, and that the store stays one
abbrev pub Makes : ℕ → List (Option Node) → Graph → Type 0
Makes limit ps graph = (graph_in ps ≡ graph) × IsStore limit ps

-- a node gets an entry
pub link_makes : (limit : ℕ) (ps : List (Option Node)) (n dir : ℕ) (x : Name) (p q : Option Node) → IsStore limit ps → slice_get ps n ≡ Some p → IsTrue (is_dir (shape_in ps dir)) → child_in ps dir x ≡ None → IsTrue (is_there (shape_in ps n)) → IsUnlinked (child_in ps) n → (n ≡ 0 → ⊥)
    → (IsReached (child_in ps) n dir → ⊥) → q ≡ relinked p (Some (record { dir = dir; name = x })) → Makes limit (set ps n q) (linked_in dir x n (graph_in ps))
link_makes limit ps n dir x p q store there is_dir free used unlinked other apart edit =
    let link : Link = record { dir = dir; name = x } in
    let some : (content : Content) × (content_of p ≡ Some content) = some_content ps n p there used in
    let old : link_of p ≡ None = sym (at_of ps n p there) ∙ unlinked_place limit ps n store unlinked in
    let new : link_of q ≡ Some link = ap link_of edit ∙ relinked_link p some.0 (Some link) some.1 in
    let same : content_of q ≡ content_of p = ap content_of edit ∙ relinked_content p (Some link) in
    let here : content_at ps dir ≡ Some contents.Dir = dir_of_shape ps dir is_dir in
    (linked_graph ps n p q link there old new same free here, store_linked limit ps n p q link store there old new same other free here apart)

-- the place that an entry leads to has that entry
pub found_link : (ps : List (Option Node)) (n dir : ℕ) (x : Name) (p : Option Node) → slice_get ps n ≡ Some p → child_in ps dir x ≡ Some n → link_of p ≡ Some (record { dir = dir; name = x })
found_link ps n dir x p there e = sym (at_of ps n p there) ∙ child_link ps dir x n e

-- a place with an entry has a node, which can be relinked
pub link_content : (p : Option Node) (link : Link) (new : Option Link) → link_of p ≡ Some link → link_of (relinked p new) ≡ new
link_content None link new e = absurd (cc)
link_content (Some node) link new e = refl

-- a node loses its entry
pub unlink_makes : (limit : ℕ) (ps : List (Option Node)) (n dir : ℕ) (x : Name) (p q : Option Node) → IsStore limit ps → slice_get ps n ≡ Some p → child_in ps dir x ≡ Some n → q ≡ relinked p None → Makes limit (set ps n q) (unlinked_in dir x (graph_in ps))
unlink_makes limit ps n dir x p q store there found edit =
    let link : Link = record { dir = dir; name = x } in
    let old : link_of p ≡ Some link = found_link ps n dir x p there found in
    let new : link_of q ≡ None = ap link_of edit ∙ link_content p link None old in
    let same : content_of q ≡ content_of p = ap content_of edit ∙ relinked_content p None in
    (unlinked_graph ps n p q link store.found there old new same (store.of_dir n link (at_of ps n p there ∙ old)), store_unlinked limit ps n p q link store there old new same)

-- a node goes from one entry to another
pub move_makes : (limit : ℕ) (ps : List (Option Node)) (n from : ℕ) (x : Name) (to : ℕ) (y : Name) (p q : Option Node) → IsStore limit ps → slice_get ps n ≡ Some p → child_in ps from x ≡ Some n → IsTrue (is_dir (shape_in ps to)) → child_in ps to y ≡ None
    → (IsReached (child_in ps) n to → ⊥) → q ≡ relinked p (Some (record { dir = to; name = y })) → Makes limit (set ps n q) (moved_in from x to y n (graph_in ps))
move_makes limit ps n from x to y p q store there found dir free apart edit =
    let link : Link = record { dir = from; name = x } in
    let next : Link = record { dir = to; name = y } in
    let old : link_of p ≡ Some link = found_link ps n from x p there found in
    let none : link_of (relinked p None) ≡ None = link_content p link None old in
    let new : link_of q ≡ Some next = ap link_of edit ∙ link_content p link (Some next) old in
    let same : content_of q ≡ content_of p = ap content_of edit ∙ relinked_content p (Some next) in
    let here : content_at ps to ≡ Some contents.Dir = dir_of_shape ps to dir in (
      moved_graph ps n p (relinked p None) q link next store.found there old none (relinked_content p None) new same (store.of_dir n link (at_of ps n p there ∙ old)) here free,
      store_moved limit ps n p (relinked p None) q link next store there old none (relinked_content p None) new same here free apart,
    )

-- a number leaves use
pub release_makes : (limit : ℕ) (ps : List (Option Node)) (n : ℕ) (p q : Option Node) → IsStore limit ps → slice_get ps n ≡ Some p → IsUnlinked (child_in ps) n → (n ≡ 0 → ⊥) → has_entries (shape_in ps n) ≡ false → q ≡ None → Makes limit (set ps n q) (released_in n (graph_in ps))
release_makes limit ps n p q store there unlinked other empty edit =
    let old : link_of p ≡ None = sym (at_of ps n p there) ∙ unlinked_place limit ps n store unlinked in
    subst (λ (r : Option Node). Makes limit (set ps n r) (released_in n (graph_in ps))) (sym edit) (released_graph ps n p there old, store_released limit ps n p store there old other empty)

-- a number with a place comes into use
pub reserve_makes : (f : Bool) (limit : ℕ) (ps : List (Option Node)) (n : ℕ) (q : Option Node) (kind : Kind) → IsStore limit ps → slice_get ps n ≡ Some None → q ≡ Some (new_node f kind) → Makes limit (set ps n q) (reserved_in n (new_shape kind) (graph_in ps))
reserve_makes f limit ps n q kind store there edit =
    let free : content_at ps n ≡ None = ap (λ (o : Option (Option Node)). then_at o content_of) there in
    subst (λ (r : Option Node). Makes limit (set ps n r) (reserved_in n (new_shape kind) (graph_in ps))) (sym edit) (reserved_graph f ps n kind there (no_names limit ps n store free), store_reserved f limit ps n kind store there)

-- the next number gets a place and comes into use
pub push_makes : (f : Bool) (limit : ℕ) (ps : List (Option Node)) (q : Option Node) (kind : Kind) → IsStore limit ps → length ps < limit → q ≡ Some (new_node f kind) → Makes limit (ps ++ q ∷ []) (reserved_in (length ps) (new_shape kind) (graph_in ps))
push_makes f limit ps q kind store h edit =
    let free : content_at ps (length ps) ≡ None = past_end content_of ps (length ps) (omega arith) in
    subst (λ (r : Option Node). Makes limit (ps ++ r ∷ []) (reserved_in (length ps) (new_shape kind) (graph_in ps))) (sym edit) (pushed_graph f ps kind (no_names limit ps (length ps) store free), store_pushed f limit ps kind store h)

-- another file in the place of one: no other entry names it
file_link : (p : Option Node) (file : FileValue) → link_of (with_file p file) ≡ link_of p
file_link None file = refl
file_link (Some node) file = refl

-- the new file stands there
file_content : (p : Option Node) (old file : FileValue) → content_of p ≡ Some (contents.File old) → content_of (with_file p file) ≡ Some (contents.File file)
file_content None old file e = absurd (cc)
file_content (Some node) old file e = let f : node.content ≡ contents.File old = cc in ap (λ (c : Content). Some (refilled c file)) f

-- and the old one comes back
file_old : (p : Option Node) (old file : FileValue) → content_of p ≡ Some (contents.File old) → handed_out p file ≡ old
file_old None old file e = absurd (cc)
file_old (Some node) old file e = let f : node.content ≡ contents.File old = cc in ap (λ (c : Content). given_back c file) f

-- the place of a file holds one
file_place : (ps : List (Option Node)) (n : ℕ) (p : Option Node) → slice_get ps n ≡ Some p → IsTrue (is_file (shape_in ps n)) → (old : FileValue) × (content_at ps n ≡ Some (contents.File old)) × (content_of p ≡ Some (contents.File old))
file_place ps n p there h = let r : (old : FileValue) × (content_at ps n ≡ Some (contents.File old)) = file_of_shape ps n h in (r.0, r.1, sym (ap (λ (o : Option (Option Node)). then_at o content_of) there) ∙ r.1)

-- another file comes in the place of one
pub swap_makes : (limit : ℕ) (ps : List (Option Node)) (n : ℕ) (p q : Option Node) (file : FileValue) → IsStore limit ps → slice_get ps n ≡ Some p → IsTrue (is_file (shape_in ps n)) → q ≡ with_file p file → Makes limit (set ps n q) (content_in n file.bytes (graph_in ps))
swap_makes limit ps n p q file store there at_file edit =
    let r : (old : FileValue) × (content_at ps n ≡ Some (contents.File old)) × (content_of p ≡ Some (contents.File old)) = file_place ps n p there at_file in
    let same : link_of q ≡ link_of p = ap link_of edit ∙ file_link p file in
    (refilled_graph ps n p q file there same (ap content_of edit ∙ file_content p r.0 file r.2), store_refilled limit ps n p q r.0 store there r.2 same)

-- the bytes of the file that comes back are those that were there
pub swap_hands : (ps : List (Option Node)) (n : ℕ) (p : Option Node) (file : FileValue) → slice_get ps n ≡ Some p → IsTrue (is_file (shape_in ps n)) → (handed_out p file).bytes ≡ bytes_of (shape_in ps n)
swap_hands ps n p file there at_file =
    let r : (old : FileValue) × (content_at ps n ≡ Some (contents.File old)) × (content_of p ≡ Some (contents.File old)) = file_place ps n p there at_file in
    ap (λ (f : FileValue). f.bytes) (file_old p r.0 file r.2) ∙ sym (ap (λ (c : Option Content). bytes_of (option_map (shape_with (names_in ps n)) c)) r.1)

-- the names of a shape, those of no directory being none
pub names_shape : (limit : ℕ) (ps : List (Option Node)) (n : ℕ) → IsStore limit ps → names_of (shape_in ps n) ≡ names_in ps n
names_shape limit ps n store = go (content_at ps n) refl
  where
    none : (c : Option Content) → content_at ps n ≡ c → (c ≡ Some contents.Dir → ⊥) → names_in ps n ≡ []
    none c e other = names_none ps n (λ m link f g. other (sym e ∙ ap (content_at ps) g ∙ store.of_dir m link f))

    go : (c : Option Content) → content_at ps n ≡ c → names_of (option_map (shape_with (names_in ps n)) c) ≡ names_in ps n
    go None e = sym (none None e (λ h. (cc)))
    go (Some contents.Dir) e = refl
    go (Some (contents.File file)) e = sym (none (Some (contents.File file)) e (λ h. (cc)))

-- how many entries a directory has
pub entries_are : (limit : ℕ) (ps : List (Option Node)) (dir : ℕ) → IsStore limit ps → count_by (λ place. is_in (link_of place) dir) ps ≡ length (names_of (shape_in ps dir))
entries_are limit ps dir store = count_names ps dir store.found ∙ ap length (sym (names_shape limit ps dir store))

-- the next entry, by its name and its node
pub next_is : (limit : ℕ) (ps : List (Option Node)) (dir n : ℕ) (low : Option Name) (x : Name) → IsStore limit ps → Some x ≡ find (is_above low) (names_in ps dir) → Some n ≡ child_in ps dir x → Some (x, n) ≡ next_entry (graph_in ps) dir low
next_is limit ps dir n low x store e f = ap (option_map (λ (m : ℕ). (x, m))) f ∙ ap (with_child (child_in ps dir)) e ∙ ap (λ (names : List Name). with_child (child_in ps dir) (find (is_above low) names)) (sym (names_shape limit ps dir store))

-- where no name is above the low one, there is none
pub next_none : (limit : ℕ) (ps : List (Option Node)) (dir : ℕ) (low : Option Name) → IsStore limit ps → None ≡ find (is_above low) (names_in ps dir) → None ≡ next_entry (graph_in ps) dir low
next_none limit ps dir low store e = ap (with_child (child_in ps dir)) e ∙ ap (λ (names : List Name). with_child (child_in ps dir) (find (is_above low) names)) (sym (names_shape limit ps dir store))

-- the parent of a node, by its entry
pub parent_is : (limit : ℕ) (ps : List (Option Node)) (n : ℕ) (link : Link) → IsStore limit ps → link_at ps n ≡ Some link → IsParent (child_in ps) n link.dir
parent_is limit ps n link store e = (link.name, store.found n link e)

-- a node without an entry has no parent
pub no_parent : (ps : List (Option Node)) (n : ℕ) → link_at ps n ≡ None → IsUnlinked (child_in ps) n
no_parent ps n e dir x f = let g : ◌≡◌ {A = Option Link} None (Some (record { dir = dir; name = x })) = sym e ∙ child_link ps dir x n f in cc

-- the place that the code reads
pub read_at : (ps : List (Option Node)) (n m : ℕ) (p : Option Node) → n < length ps → m ≡ n → p ≡ get_or ps m p → slice_get ps n ≡ Some p
read_at ps n m p h e v = slice_get_read ps _ n p refl h (subst (λ (k : ℕ). p ≡ get_or ps k p) e v)

-- the same edits, as the code makes them: at the index m, where p stood
pub link_edit : (limit : ℕ) (ps : List (Option Node)) (n dir : ℕ) (x : Name) (m : ℕ) (p q : Option Node) → IsStore limit ps → IsTrue (is_dir (shape_in ps dir)) → child_in ps dir x ≡ None → IsTrue (is_there (shape_in ps n)) → IsUnlinked (child_in ps) n → (n ≡ 0 → ⊥)
    → (IsReached (child_in ps) n dir → ⊥) → m ≡ n → p ≡ get_or ps m p → q ≡ relinked p (Some (record { dir = dir; name = x })) → Makes limit (set ps m q) (linked_in dir x n (graph_in ps))
link_edit limit ps n dir x m p q store is_dir free used unlinked other apart e v edit = subst (λ (k : ℕ). Makes limit (set ps k q) (linked_in dir x n (graph_in ps))) (sym e) (link_makes limit ps n dir x p q store (read_at ps n m p (place_within ps n used) e v) is_dir free used unlinked other apart edit)

-- a release
pub release_edit : (limit : ℕ) (ps : List (Option Node)) (n m : ℕ) (p q : Option Node) → IsStore limit ps → IsTrue (is_there (shape_in ps n)) → IsUnlinked (child_in ps) n → (n ≡ 0 → ⊥) → has_entries (shape_in ps n) ≡ false → m ≡ n → p ≡ get_or ps m p → q ≡ None → Makes limit (set ps m q) (released_in n (graph_in ps))
release_edit limit ps n m p q store used unlinked other empty e v edit = subst (λ (k : ℕ). Makes limit (set ps k q) (released_in n (graph_in ps))) (sym e) (release_makes limit ps n p q store (read_at ps n m p (place_within ps n used) e v) unlinked other empty edit)

-- a change of a file
pub swap_edit : (limit : ℕ) (ps : List (Option Node)) (n m : ℕ) (p q : Option Node) (file : FileValue) → IsStore limit ps → IsTrue (is_file (shape_in ps n)) → m ≡ n → p ≡ get_or ps m p → q ≡ with_file p file → Makes limit (set ps m q) (content_in n file.bytes (graph_in ps))
swap_edit limit ps n m p q file store at_file e v edit = subst (λ (k : ℕ). Makes limit (set ps k q) (content_in n file.bytes (graph_in ps))) (sym e) (swap_makes limit ps n p q file store (read_at ps n m p (file_within ps n at_file) e v) at_file edit)

-- the bytes of the file that it hands out
pub swap_old : (ps : List (Option Node)) (n m : ℕ) (p : Option Node) (file : FileValue) → IsTrue (is_file (shape_in ps n)) → m ≡ n → p ≡ get_or ps m p → (handed_out p file).bytes ≡ bytes_of (shape_in ps n)
swap_old ps n m p file at_file e v = swap_hands ps n p file (read_at ps n m p (file_within ps n at_file) e v) at_file

-- an unlink
pub unlink_edit : (limit : ℕ) (ps : List (Option Node)) (n dir : ℕ) (x : Name) (p q : Option Node) → IsStore limit ps → child_in ps dir x ≡ Some n → p ≡ get_or ps n p → q ≡ relinked p None → Makes limit (set ps n q) (unlinked_in dir x (graph_in ps))
unlink_edit limit ps n dir x p q store found v edit = unlink_makes limit ps n dir x p q store (read_at ps n n p (child_within ps n dir x found) refl v) found edit

-- the entry of the place that it leads to
pub old_link : (ps : List (Option Node)) (n dir : ℕ) (x : Name) (p : Option Node) → child_in ps dir x ≡ Some n → p ≡ get_or ps n p → link_of p ≡ Some (record { dir = dir; name = x })
old_link ps n dir x p found v = found_link ps n dir x p (read_at ps n n p (child_within ps n dir x found) refl v) found

-- a move
pub move_edit : (limit : ℕ) (ps : List (Option Node)) (n from : ℕ) (x : Name) (to : ℕ) (y : Name) (p q : Option Node) → IsStore limit ps → child_in ps from x ≡ Some n → IsTrue (is_dir (shape_in ps to)) → child_in ps to y ≡ None → (IsReached (child_in ps) n to → ⊥) → p ≡ get_or ps n p → q ≡ relinked p (Some (record { dir = to; name = y })) → Makes limit (set ps n q) (moved_in from x to y n (graph_in ps))
move_edit limit ps n from x to y p q store found dir free apart v edit = move_makes limit ps n from x to y p q store (read_at ps n n p (child_within ps n from x found) refl v) found dir free apart edit

-- a number past the places is not in use
pub past_shape : (ps : List (Option Node)) (n : ℕ) → length ps ≤ n → shape_in ps n ≡ None
past_shape ps n h = ap (option_map (shape_with (names_in ps n))) (past_end content_of ps n h)

-- the next entry's name, among those above the given one
pub next_name_is : (limit : ℕ) (ps : List (Option Node)) (dir : ℕ) (low found : Option Name) → IsStore limit ps → found ≡ find (is_above low) (names_in ps dir) → IsNextName (names_of (shape_in ps dir)) low found
next_name_is limit ps dir low found store e = subst (λ (names : List Name). IsNextName names low found) (sym (names_shape limit ps dir store)) (go found e)
  where
    go : (f : Option Name) → f ≡ find (is_above low) (names_in ps dir) → IsNextName (names_in ps dir) low f
    go None e = no_names_above low (names_in ps dir) (sym e)
    go (Some next) e = next_names low None next (names_in ps dir) (names_ascend ps dir) (sym e)
