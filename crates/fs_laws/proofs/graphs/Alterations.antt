-- What each change of a graph leaves.
use Rattle.std.proofs.Common.{◌≡◌, ℕ, List, [], ◌∷◌, ◌++◌, Option, Some, None, refl, sym, ap, ◌∙◌, append-nil, subst, ◌⊎◌, inl, inr}
use Rattle.fs_names.specs.Keys.{Key, after_prefix}
use Rattle.fs_names.specs.Names.{Name, inserted_name, removed_name}
use Rattle.fs_names.specs.Shapes.{Shape, Dir, File, names_of}
use Rattle.fs_laws.specs.Maps.{Map, put, put_at, move, moved_to, moved_from, swapped}
use Rattle.fs_calls.specs.Graphs.{Graph, Children, numbers, IsGraph, set_child, set_at, content_in, linked_in, unlinked_in, moved_in, swapped_in}
use Rattle.fs_machine.specs.Records.{Holds, Holdings}
use Rattle.fs_laws.proofs.trees.Prefixes.{prefix_append}
use Rattle.fs_laws.proofs.graphs.Walks.{at_child, set_else}
use Rattle.fs_laws.proofs.graphs.TreesOfChanges.{CanLink, CanUnlink, CanMove, numbers_linked, numbers_unlinked, numbers_moved}
use Rattle.fs_laws.proofs.graphs.Listings.{graph_content}
use Rattle.fs_laws.proofs.graphs.Link.{graph_linked}
use Rattle.fs_laws.proofs.graphs.Unlink.{graph_unlinked}
use Rattle.fs_laws.proofs.graphs.Move.{Replaced, graph_moved}
use Rattle.fs_laws.proofs.graphs.Swap.{CanSwap, numbers_swapped, graph_swapped}
use Rattle.fs_laws.proofs.events.OneCallChanged.{Place, Here, Else, place}

-- the same numbers stay in use, and only what is reached changes
pub record Shapes (old new : ℕ → Option Shape) (Reached : ℕ → Type 0) : Type 0 where
  pub to_new : (n : ℕ) (s : Shape) → old n ≡ Some s → (t : Shape) × (new n ≡ Some t)
  pub to_old : (n : ℕ) (s : Shape) → new n ≡ Some s → (t : Shape) × (old n ≡ Some t)
  pub loose : (n : ℕ) → (Reached n → ⊥) → new n ≡ old n

pub shapes_same : (f : ℕ → Option Shape) (Reached : ℕ → Type 0) → Shapes f f Reached
shapes_same f Reached = record { to_new = λ n s e. (s, e); to_old = λ n s e. (s, e); loose = λ n h. refl }

-- one number that is reached and in use gets another shape
pub shapes_set : (f : ℕ → Option Shape) (Reached : ℕ → Type 0) (dir : ℕ) (v s : Shape) → Reached dir → f dir ≡ Some s → Shapes f (set_at dir (Some v) f) Reached
shapes_set f Reached dir v s there was = record { to_new = λ n t e. new n t e (place dir (Some v) f n); to_old = λ n t e. old n t e (place dir (Some v) f n); loose = λ n h. loose n h (place dir (Some v) f n) }
  where
    new : (n : ℕ) (t : Shape) → f n ≡ Some t → Place (Option Shape) dir (Some v) f n → (t : Shape) × (set_at dir (Some v) f n ≡ Some t)
    new n t e (Here i j) = (v, j)
    new n t e (Else m j) = (t, j ∙ e)

    old : (n : ℕ) (t : Shape) → set_at dir (Some v) f n ≡ Some t → Place (Option Shape) dir (Some v) f n → (t : Shape) × (f n ≡ Some t)
    old n t e (Here i j) = (s, ap f i ∙ was)
    old n t e (Else m j) = (t, sym j ∙ e)

    loose : (n : ℕ) → (Reached n → ⊥) → Place (Option Shape) dir (Some v) f n → set_at dir (Some v) f n ≡ f n
    loose n h (Here i j) = absurd (h (subst Reached (sym i) there))
    loose n h (Else m j) = j

pub shapes_then : (f g h : ℕ → Option Shape) (Reached : ℕ → Type 0) → Shapes f g Reached → Shapes g h Reached → Shapes f h Reached
shapes_then f g h Reached a b = record {
  to_new = λ n s e. (let t : (t : Shape) × (g n ≡ Some t) = a.to_new n s e in b.to_new n t.0 t.1);
  to_old = λ n s e. (let t : (t : Shape) × (g n ≡ Some t) = b.to_old n s e in a.to_old n t.0 t.1);
  loose = λ n r. b.loose n r ∙ a.loose n r;
}

abbrev pub Reached : Graph → ℕ → Type 0
Reached graph n = (k : Key) × (numbers graph k ≡ Some n)

-- what a change by a call that stands so leaves; linked is the number that it links, if any
pub record Altered (old new : Graph) (linked : Option ℕ) (st : Holdings) : Type 0 where
  pub is_graph : IsGraph new
  pub reach : (l : Key) (n : ℕ) → numbers new l ≡ Some n → Reached old n ⊎ (linked ≡ Some n)
  pub shapes : Shapes old.shape new.shape (Reached old)
  pub child_same : (m : ℕ) (x : Name) → (Holds st m → ⊥) → new.child m x ≡ old.child m x

pub altered_same : (graph : Graph) (st : Holdings) → IsGraph graph → Altered graph graph None st
altered_same graph st is = record { is_graph = is; reach = λ l n e. inl (l, e); shapes = shapes_same graph.shape (Reached graph); child_same = λ m x h. refl }

pub altered_content : (graph : Graph) (st : Holdings) (k : Key) (bytes old : List ℕ) → IsGraph graph → numbers graph k ≡ Some st.node → graph.shape st.node ≡ Some (File old) → Altered graph (content_in st.node bytes graph) None st
altered_content graph st k bytes old is at_k file = record {
  is_graph = graph_content graph st.node old bytes file is;
  reach = λ l n e. inl (l, e);
  shapes = shapes_set graph.shape (Reached graph) st.node (File bytes) (File old) (k, at_k) file;
  child_same = λ m x h. refl;
}

put_reach : (t : Key) (v : Option ℕ) (tree : Map ℕ) (l : Key) (n : ℕ) → put t v tree l ≡ Some n → (tree l ≡ Some n) ⊎ (v ≡ Some n)
put_reach t v tree l n e = go (after_prefix t l) e
  where
    go : (o : Option Key) → put_at v tree l o ≡ Some n → (tree l ≡ Some n) ⊎ (v ≡ Some n)
    go None e = inl e
    go (Some []) e = inr e
    go (Some (x ∷ r)) e = inl e

child_else : (dir : ℕ) (x : Name) (v : Option ℕ) (child : Children) (st : Holdings) → Holds st dir → (m : ℕ) (y : Name) → (Holds st m → ⊥) → set_child dir x v child m y ≡ child m y
child_else dir x v child st held m y h = set_else dir x v child m y (λ i j. h (subst (Holds st) (sym i) held))

pub altered_linked : (graph : Graph) (st : Holdings) (k : Key) (x : Name) (n : ℕ) (names : List Name) → IsGraph graph → CanLink graph k st.node x n → graph.shape st.node ≡ Some (Dir names) → Altered graph (linked_in st.node x n graph) (Some n) st
altered_linked graph st k x n names is can dir = record {
  is_graph = graph_linked graph is k st.node x n names can dir;
  reach = λ l m e. reach l m (put_reach (k ++ x ∷ []) (Some n) (numbers graph) l m (ap (λ (t : Map ℕ). t l) (sym (numbers_linked graph is k st.node x n can)) ∙ e));
  shapes = shapes_set graph.shape (Reached graph) st.node (Dir (inserted_name x (names_of (graph.shape st.node)))) (Dir names) (k, can.dir_at) dir;
  child_same = λ m y h. child_else st.node x (Some n) graph.child st (inl refl) m y h;
}
  where
    reach : (l : Key) (m : ℕ) → (numbers graph l ≡ Some m) ⊎ (Some n ≡ Some m) → Reached graph m ⊎ (Some n ≡ Some m)
    reach l m (inl e) = inl (l, e)
    reach l m (inr e) = inr e

pub altered_unlinked : (graph : Graph) (st : Holdings) (k : Key) (x : Name) (n : ℕ) (names : List Name) → IsGraph graph → CanUnlink graph k st.node x n → graph.shape st.node ≡ Some (Dir names) → Altered graph (unlinked_in st.node x graph) None st
altered_unlinked graph st k x n names is can dir = record {
  is_graph = graph_unlinked graph is k st.node x n names can dir;
  reach = λ l m e. reach l m (put_reach (k ++ x ∷ []) None (numbers graph) l m (ap (λ (t : Map ℕ). t l) (sym (numbers_unlinked graph is k st.node x n can)) ∙ e));
  shapes = shapes_set graph.shape (Reached graph) st.node (Dir (removed_name x (names_of (graph.shape st.node)))) (Dir names) (k, can.dir_at) dir;
  child_same = λ m y h. child_else st.node x None graph.child st (inl refl) m y h;
}
  where
    reach : (l : Key) (m : ℕ) → (numbers graph l ≡ Some m) ⊎ (None ≡ Some m) → Reached graph m ⊎ (None ≡ Some m)
    reach l m (inl e) = inl (l, e)
    reach l m (inr e) = inr e

-- what a removal leaves is nowhere
pub unlinked_gone : (graph : Graph) → IsGraph graph → (k : Key) (dir : ℕ) (x : Name) (n : ℕ) → CanUnlink graph k dir x n → (l : Key) → numbers (unlinked_in dir x graph) l ≡ Some n → ⊥
unlinked_gone graph is k dir x n can l e = go (after_prefix (k ++ x ∷ []) l) refl (ap (λ (t : Map ℕ). t l) (sym (numbers_unlinked graph is k dir x n can)) ∙ e)
  where
    at_t : numbers graph (k ++ x ∷ []) ≡ Some n
    at_t = at_child graph.child 0 dir k x can.dir_at ∙ can.there

    same_key : numbers graph l ≡ Some n → (o : Option Key) → after_prefix (k ++ x ∷ []) l ≡ o → o ≡ Some []
    same_key f o i =
        let j : l ≡ (k ++ x ∷ []) ++ [] = is.one_key l (k ++ x ∷ []) n f at_t ∙ sym (append-nil (k ++ x ∷ [])) in
        sym i ∙ ap (after_prefix (k ++ x ∷ [])) j ∙ prefix_append (k ++ x ∷ []) []

    go : (o : Option Key) → after_prefix (k ++ x ∷ []) l ≡ o → put_at None (numbers graph) l o ≡ Some n → ⊥
    go None i f = let z : ◌≡◌ {A = Option Key} None (Some []) = same_key f None i in cc
    go (Some []) i f = cc
    go (Some (y ∷ r)) i f = let z : ◌≡◌ {A = Option Key} (Some (y ∷ r)) (Some []) = same_key f (Some (y ∷ r)) i in cc

-- what a move brings somewhere was somewhere
move_reach : (s t : Key) (tree : Map ℕ) (l : Key) (n : ℕ) → move s t tree l ≡ Some n → (k : Key) × (tree k ≡ Some n)
move_reach s t tree l n e = go (after_prefix t l) e
  where
    elsewhere : (o : Option Key) → moved_from tree l o ≡ Some n → (k : Key) × (tree k ≡ Some n)
    elsewhere None e = (l, e)
    elsewhere (Some r) e = cc

    go : (o : Option Key) → moved_to s tree l o ≡ Some n → (k : Key) × (tree k ≡ Some n)
    go (Some r) e = (s ++ r, e)
    go None e = elsewhere (after_prefix s l) e

pub altered_moved : (graph : Graph) (st : Holdings) → IsGraph graph → (kf : Key) (x : Name) (kt : Key) (y : Name) (n : ℕ) (names others : List Name) → CanMove graph kf st.source.node x kt st.dest.node y n
    → graph.shape st.source.node ≡ Some (Dir names) → graph.shape st.dest.node ≡ Some (Dir others) → Replaced graph st.dest.node y → Holds st st.source.node → Holds st st.dest.node
    → Altered graph (moved_in st.source.node x st.dest.node y n graph) None st
altered_moved graph st is kf x kt y n names others can from_dir to_dir replaced from_held to_held = record {
  is_graph = graph_moved graph is kf st.source.node x kt st.dest.node y n names others can from_dir to_dir replaced;
  reach = λ l m e. inl (move_reach (kf ++ x ∷ []) (kt ++ y ∷ []) (numbers graph) l m (ap (λ (t : Map ℕ). t l) (sym (numbers_moved graph is kf st.source.node x kt st.dest.node y n can)) ∙ e));
  shapes = shapes_then graph.shape cut (set_at st.dest.node (Some (Dir (inserted_name y (names_of (cut st.dest.node))))) cut) (Reached graph) first
      (shapes_set cut (Reached graph) st.dest.node (Dir (inserted_name y (names_of (cut st.dest.node)))) in_use.0 (kt, can.to_at) in_use.1);
  child_same = λ m z h. child_else st.dest.node y (Some n) (set_child st.source.node x None graph.child) st to_held m z h ∙ child_else st.source.node x None graph.child st from_held m z h;
}
  where
    cut : ℕ → Option Shape
    cut = (unlinked_in st.source.node x graph).shape

    first : Shapes graph.shape (unlinked_in st.source.node x graph).shape (Reached graph)
    first = shapes_set graph.shape (Reached graph) st.source.node (Dir (removed_name x (names_of (graph.shape st.source.node)))) (Dir names) (kf, can.from_at) from_dir

    in_use : (t : Shape) × ((unlinked_in st.source.node x graph).shape st.dest.node ≡ Some t)
    in_use = first.to_new st.dest.node (Dir others) to_dir

-- the victim of a move is nowhere
pub moved_gone : (graph : Graph) → IsGraph graph → (kf : Key) (from : ℕ) (x : Name) (kt : Key) (to : ℕ) (y : Name) (n v : ℕ) → CanMove graph kf from x kt to y n → graph.child to y ≡ Some v → (l : Key) → numbers (moved_in from x to y n graph) l ≡ Some v → ⊥
moved_gone graph is kf from x kt to y n v can there l e = go (after_prefix (kt ++ y ∷ []) l) refl (ap (λ (t : Map ℕ). t l) (sym (numbers_moved graph is kf from x kt to y n can)) ∙ e)
  where
    at_t : numbers graph (kt ++ y ∷ []) ≡ Some v
    at_t = at_child graph.child 0 to kt y can.to_at ∙ there

    elsewhere : (o : Option Key) → after_prefix (kt ++ y ∷ []) l ≡ None → moved_from (numbers graph) l o ≡ Some v → ⊥
    elsewhere (Some r) i f = cc
    elsewhere None i f =
        let j : l ≡ (kt ++ y ∷ []) ++ [] = is.one_key l (kt ++ y ∷ []) v f at_t ∙ sym (append-nil (kt ++ y ∷ [])) in
        let z : ◌≡◌ {A = Option Key} None (Some []) = sym i ∙ ap (after_prefix (kt ++ y ∷ [])) j ∙ prefix_append (kt ++ y ∷ []) [] in cc

    go : (o : Option Key) → after_prefix (kt ++ y ∷ []) l ≡ o → moved_to (kf ++ x ∷ []) (numbers graph) l o ≡ Some v → ⊥
    go None i f = elsewhere (after_prefix (kf ++ x ∷ []) l) i f
    go (Some r) i f =
        let j : (kf ++ x ∷ []) ++ r ≡ kt ++ y ∷ [] = is.one_key ((kf ++ x ∷ []) ++ r) (kt ++ y ∷ []) v f at_t in
        let z : ◌≡◌ {A = Option Key} None (Some r) = sym can.aside.0 ∙ ap (after_prefix (kf ++ x ∷ [])) (sym j) ∙ prefix_append (kf ++ x ∷ []) r in cc

-- an exchange: what it brings somewhere was somewhere, and no shape changes
pub altered_swapped : (graph : Graph) (st : Holdings) → IsGraph graph → (kf : Key) (x : Name) (n : ℕ) (kt : Key) (y : Name) (m : ℕ) → CanSwap graph kf st.source.node x n kt st.dest.node y m → Holds st st.source.node → Holds st st.dest.node
    → Altered graph (swapped_in st.source.node x n st.dest.node y m graph) None st
altered_swapped graph st is kf x n kt y m can from_held to_held = record {
  is_graph = graph_swapped graph is kf st.source.node x n kt st.dest.node y m can;
  reach = λ l q e. inl (swapped (kf ++ x ∷ []) (kt ++ y ∷ []) l, ap (λ (t : Map ℕ). t l) (sym (numbers_swapped graph is kf st.source.node x n kt st.dest.node y m can)) ∙ e);
  shapes = shapes_same graph.shape (Reached graph);
  child_same = λ q z h. child_else st.source.node x (Some m) (set_child st.dest.node y (Some n) graph.child) st from_held q z h ∙ child_else st.dest.node y (Some n) graph.child st to_held q z h;
}
