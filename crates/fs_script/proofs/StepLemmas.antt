-- A step of the walk through a store's nodes, and the whole walk.
use Rattle.std.proofs.Common.{◌≡◌, ℕ, suc, ◌-◌, ◌<◌, Bool, true, false, cond, List, [], ◌∷◌, ◌++◌, length, Some, None, Option, refl, sym, ap, subst, ◌∙◌, arith, length-append, append_assoc, codes}
use Rattle.std.specs.List.{flat_map, find}
use Rattle.fs_names.specs.Names.{Name}
use Rattle.fs_names.specs.Keys.{Key}
use Rattle.fs_names.specs.Shapes.{Shape, names_of, is_dir, is_there}
use Rattle.fs_names.specs.Shapes as shapes
use Rattle.fs_words.proofs.WriteLemmas.{root_word}
use Rattle.fs_calls.specs.Tree.{Node, Tree}
use Rattle.fs_calls.specs.Tree as tree
use Rattle.fs_seq_nodes.specs.code.Slots as forest
use Rattle.fs_seq_nodes.specs.code.Slots.{links_of, node_of, links_at, child, walk, spelled, keys_from, with_node, nodes_at, tree_of, IsForest}
use Rattle.fs_seq_nodes.proofs.GraphLemmas.{shorter}
use Rattle.fs_seq_nodes.proofs.Resolving as resolving
use Rattle.fs_nodes.specs.Graphs.{Children}
use Rattle.fs_nodes.specs.Seen.{Seen, IsReal}
use Rattle.fs_nodes.specs.Stores.{is_above, names_above, next_entry}
use Rattle.fs_nodes.proofs.EntryLemmas.{entry_child}
use Rattle.fs_script.specs.TreeText.{node_line, tree_text}
use Rattle.fs_script.specs.code.Walks.{number_or, links, place_of, forest_of, node_seen, WalkPlace, key_above, Leads, IsLast, links_above, pending, pending_at, text_at, Goes, Steps, visited, row_text, IsUp, at_root}
use Rattle.fs_script.specs.declared.tree.Step.{Step}
use Rattle.fs_script.proofs.ForestLemmas.{place_in, named_child, store_forest}
use Rattle.fs_seq.proofs.RisingLemmas.{walked_rows}
use Rattle.fs_script.proofs.PendingLemmas.{down, up, no_more, leads_down, leads_up, led, behind_all}

-- ---- links

links_by : (child : Children) (n : ℕ) (s : Option Shape) → links_of (place_of child n s) ≡ links child n (names_of s)
links_by child n None = refl
links_by child n (Some (shapes.Dir names)) = refl
links_by child n (Some (shapes.File bytes)) = refl

links_in : (st : Seen) → IsReal st → (n : ℕ) → links_at (forest_of st) n ≡ links st.graph.child n (names_of (st.graph.shape n))
links_in st real n = ap links_of (place_in st real n) ∙ links_by st.graph.child n (st.graph.shape n)

above_links : (child : Children) (n : ℕ) (low : Option Name) (names : List Name) → links_above low (links child n names) ≡ links child n (names_above low names)
above_links child n low [] = refl
above_links child n low (x ∷ names) = go (is_above low x) (above_links child n low names)
  where
    go : (b : Bool) → links_above low (links child n names) ≡ links child n (names_above low names)
        → cond b ((x, number_or (child n x)) ∷ links_above low (links child n names)) (links_above low (links child n names)) ≡ links child n (cond b (x ∷ names_above low names) (names_above low names))
    go true e = ap (λ (z : List (Name × ℕ)). (x, number_or (child n x)) ∷ z) e
    go false e = e

links_in_above : (st : Seen) → IsReal st → (n : ℕ) (low : Option Name) → links_above low (links_at (forest_of st) n) ≡ links st.graph.child n (names_above low (names_of (st.graph.shape n)))
links_in_above st real n low = ap (links_above low) (links_in st real n) ∙ above_links st.graph.child n low (names_of (st.graph.shape n))

-- the next link is that of the next name
pub next_links : (st : Seen) → IsReal st → (dir : ℕ) (low : Option Name) (x : Name) (m : ℕ)
    → names_above low (names_of (st.graph.shape dir)) ≡ x ∷ names_above (Some x) (names_of (st.graph.shape dir)) → st.graph.child dir x ≡ Some m
    → links_above low (links_at (forest_of st) dir) ≡ (x, m) ∷ links_above (Some x) (links_at (forest_of st) dir)
next_links st real dir low x m e k =
    links_in_above st real dir low ∙ ap (links st.graph.child dir) e
    ∙ ap (λ (o : Option ℕ). (x, number_or o) ∷ links st.graph.child dir (names_above (Some x) (names_of (st.graph.shape dir)))) k
    ∙ ap (λ (z : List (Name × ℕ)). (x, m) ∷ z) (sym (links_in_above st real dir (Some x)))

-- where no name is left, no link is
pub no_links : (st : Seen) → IsReal st → (dir : ℕ) (low : Option Name) → names_above low (names_of (st.graph.shape dir)) ≡ [] → links_above low (links_at (forest_of st) dir) ≡ []
no_links st real dir low e = links_in_above st real dir low ∙ ap (links st.graph.child dir) e

-- ---- rows

node_by : (child : Children) (n : ℕ) (s : Option Shape) → node_of (place_of child n s) ≡ node_seen s
node_by child n None = refl
node_by child n (Some (shapes.Dir names)) = refl
node_by child n (Some (shapes.File bytes)) = refl

node_in : (st : Seen) → IsReal st → (key : Key) (m : ℕ) → walk (forest_of st) key ≡ Some m → spelled (forest_of st) key ≡ node_seen (st.graph.shape m)
node_in st real key m w = resolving.spelled_at (forest_of st) key m w ∙ ap node_of (place_in st real m) ∙ node_by st.graph.child m (st.graph.shape m)

row_and : (key : Key) (o : Option Node) (rest : List (Key × Node)) → flat_map node_line (with_node key o rest) ≡ row_text key o ++ flat_map node_line rest
row_and key None rest = refl
row_and key (Some node) rest = refl

-- the text of one key more
text_and : (st : Seen) → IsReal st → (key : Key) (m : ℕ) (ks : List Key) → walk (forest_of st) key ≡ Some m → text_at (forest_of st) (key ∷ ks) ≡ row_text key (node_seen (st.graph.shape m)) ++ text_at (forest_of st) ks
text_and st real key m ks w =
    row_and key (spelled (forest_of st) key) (nodes_at (forest_of st) ks)
    ∙ ap (λ (o : Option Node). row_text key o ++ text_at (forest_of st) ks) (node_in st real key m w)

-- ---- steps

key-snoc : (steps : List Step) (s : Step) → key_above (steps ++ s ∷ []) ≡ key_above steps ++ s.name ∷ []
key-snoc [] s = refl
key-snoc (t ∷ steps) s = ap (λ (z : Key). t.name ∷ z) (key-snoc steps s)

length_key : (steps : List Step) → length (key_above steps) ≡ length steps
length_key [] = refl
length_key (s ∷ steps) = ap suc (length_key steps)

-- no steps lead farther than there are places
shallow : (st : Seen) → IsReal st → (steps : List Step) (dir : ℕ) → Leads (forest_of st) 0 steps dir → length steps < length (forest_of st)
shallow st real steps dir l =
    let forest = store_forest st real in
    let h : length (key_above steps) < length (forest_of st) = shorter (forest_of st) 0 (key_above steps) dir forest.once (λ k n w. forest.inside k n w) (led (forest_of st) 0 steps dir l) in
    omega (arith, length_key steps, h)

no_links_of_file : (st : Seen) → IsReal st → (m : ℕ) → is_dir (st.graph.shape m) ≡ false → links_above None (links_at (forest_of st) m) ≡ []
no_links_of_file st real m h = no_links st real m None (go (st.graph.shape m) h)
  where
    go : (s : Option Shape) → is_dir s ≡ false → names_above None (names_of s) ≡ []
    go None e = refl
    go (Some (shapes.Dir names)) e = absurd (cc)
    go (Some (shapes.File bytes)) e = refl

-- an entry was written, and the walk went on
pub visit_goes : (st : Seen) → IsReal st → (old new : WalkPlace) (before after : List ℕ) (x : Name) (m : ℕ)
    → Leads (forest_of st) 0 old.above old.dir
    → names_above old.low (names_of (st.graph.shape old.dir)) ≡ x ∷ names_above (Some x) (names_of (st.graph.shape old.dir)) → st.graph.child old.dir x ≡ Some m
    → after ≡ before ++ row_text (key_above old.above ++ x ∷ []) (node_seen (st.graph.shape m)) → new ≡ visited old x m (is_dir (st.graph.shape m))
    → Goes (forest_of st) old before new after
visit_goes st real old new before after x m l e k wrote went =
    go (is_dir (st.graph.shape m)) refl went
  where
    s : Step
    s = record { dir = old.dir; name = x }

    many : ℕ
    many = length (forest_of st) - 1

    below : Leads (forest_of st) 0 (old.above ++ s ∷ []) m
    below = leads_down (forest_of st) 0 old.above old.dir x m l (named_child st real old.dir x ∙ k)

    deep : length old.above < many
    deep = omega (arith, shallow st real (old.above ++ s ∷ []) m below, length-append old.above (s ∷ []))

    key_walk : walk (forest_of st) (key_above old.above ++ x ∷ []) ≡ Some m
    key_walk = subst (λ (z : Key). walk (forest_of st) z ≡ Some m) (key-snoc old.above s) (led (forest_of st) 0 (old.above ++ s ∷ []) m below)

    came : pending_at (forest_of st) old ≡ (key_above old.above ++ x ∷ []) ∷ pending many (forest_of st) [] (old.above ++ s ∷ []) m None
    came = down many (forest_of st) [] old.above old.dir old.low x m (next_links st real old.dir old.low x m e k) deep

    text_by : (ks : List Key) → ks ≡ pending many (forest_of st) [] (old.above ++ s ∷ []) m None → after ++ text_at (forest_of st) ks ≡ before ++ text_at (forest_of st) (pending_at (forest_of st) old)
    text_by ks same =
        ap (λ (z : List ℕ). z ++ text_at (forest_of st) ks) wrote
        ∙ append_assoc before (row_text (key_above old.above ++ x ∷ []) (node_seen (st.graph.shape m))) (text_at (forest_of st) ks)
        ∙ ap (λ (z : List ℕ). before ++ z) (sym (text_and st real (key_above old.above ++ x ∷ []) m ks key_walk)
        ∙ ap (λ (z : List Key). text_at (forest_of st) ((key_above old.above ++ x ∷ []) ∷ z)) same ∙ ap (text_at (forest_of st)) (sym came))

    fewer : (ks : List Key) → ks ≡ pending many (forest_of st) [] (old.above ++ s ∷ []) m None → length (pending_at (forest_of st) old) ≡ suc (length ks)
    fewer ks same = ap length came ∙ ap (λ (z : List Key). suc (length z)) (sym same)

    go : (b : Bool) → is_dir (st.graph.shape m) ≡ b → new ≡ visited old x m b → Goes (forest_of st) old before new after
    go true d w = subst (λ (z : WalkPlace). Goes (forest_of st) old before z after) (sym w) (record {
      leads = below;
      text = text_by _ refl;
      nearer = omega (arith, fewer _ refl, length-append old.above (s ∷ []));
    })
    go false d w =
        let rest : pending many (forest_of st) [] old.above old.dir (Some x) ≡ pending many (forest_of st) [] (old.above ++ s ∷ []) m None =
        sym (up many (forest_of st) [] old.above s m None (no_links_of_file st real m d) deep) in
        subst (λ (z : WalkPlace). Goes (forest_of st) old before z after) (sym w) (record {
          leads = l;
          text = text_by _ rest;
          nearer = omega (arith, fewer _ rest);
        })

-- the walk went up, or was at its end
pub up_goes : (st : Seen) → IsReal st → (old new : WalkPlace) (before after : List ℕ) (more : Bool)
    → Leads (forest_of st) 0 old.above old.dir → names_above old.low (names_of (st.graph.shape old.dir)) ≡ [] → IsUp old new more → after ≡ before
    → Steps (forest_of st) old before new after more
up_goes st real old new before after false l e u same =
    (ap (text_at (forest_of st)) (ap (λ (z : List Step). pending (length (forest_of st) - 1) (forest_of st) [] z old.dir old.low) u.0 ∙ no_more (length (forest_of st) - 1) (forest_of st) [] old.dir old.low (no_links st real old.dir old.low e)), same)
up_goes st real old new before after true l e u same =
    let s = u.0 in
    let above : Leads (forest_of st) 0 (new.above ++ s ∷ []) old.dir = subst (λ (z : List Step). Leads (forest_of st) 0 z old.dir) u.1 l in
    let deep : length new.above < length (forest_of st) - 1 = omega (arith, shallow st real (new.above ++ s ∷ []) old.dir above, length-append new.above (s ∷ [])) in
    let came : pending_at (forest_of st) old ≡ pending_at (forest_of st) new =
    ap (λ (z : List Step). pending (length (forest_of st) - 1) (forest_of st) [] z old.dir old.low) u.1
    ∙ up (length (forest_of st) - 1) (forest_of st) [] new.above s old.dir old.low (no_links st real old.dir old.low e) deep
    ∙ ap (λ (d : ℕ). pending (length (forest_of st) - 1) (forest_of st) [] new.above d (Some s.name)) (sym u.2)
    ∙ ap (λ (o : Option Name). pending (length (forest_of st) - 1) (forest_of st) [] new.above new.dir o) (sym u.3) in
    record {
      leads = subst (λ (d : ℕ). Leads (forest_of st) 0 new.above d) (sym u.2) (leads_up (forest_of st) 0 new.above s old.dir above);
      text = ap (λ (z : List ℕ). z ++ text_at (forest_of st) (pending_at (forest_of st) new)) same ∙ ap (λ (z : List Key). before ++ text_at (forest_of st) z) (sym came);
      nearer = omega (arith, ap length came, ap length u.1, length-append new.above (s ∷ []));
    }

-- ---- the whole walk

root_line : row_text [] (Some tree.Dir) ≡ codes "dir /\n"
root_line = ap (λ (z : List ℕ). codes "dir " ++ (z ++ 10 ∷ [])) (root_word [] refl)

pub tree_written : (st : Seen) → IsReal st → codes "tree\ndir /\n" ++ text_at (forest_of st) (pending_at (forest_of st) at_root) ≡ tree_text (tree_of (forest_of st))
unfolding tree_text
tree_written st real =
    let forest : IsForest (forest_of st) = store_forest st real in
    let some : 0 < length (forest_of st) = shorter (forest_of st) 0 [] 0 forest.once (λ k n w. forest.inside k n w) refl in
    let more : length (forest_of st) ≡ suc (length (forest_of st) - 1) = omega (arith, some) in
    let root : node_seen (st.graph.shape 0) ≡ Some tree.Dir = ap node_seen real.root.1 in
    let rows : flat_map node_line (tree_of (forest_of st)) ≡ codes "dir /\n" ++ text_at (forest_of st) (pending_at (forest_of st) at_root) =
    ap (flat_map node_line) (walked_rows (forest_of st) forest)
    ∙ ap (λ (k : ℕ). text_at (forest_of st) (keys_from k (forest_of st) 0)) more
    ∙ ap (text_at (forest_of st)) (behind_all (length (forest_of st) - 1) (forest_of st))
    ∙ text_and st real [] 0 (pending_at (forest_of st) at_root) refl
    ∙ ap (λ (o : Option Node). row_text [] o ++ text_at (forest_of st) (pending_at (forest_of st) at_root)) root
    ∙ ap (λ (z : List ℕ). z ++ text_at (forest_of st) (pending_at (forest_of st) at_root)) root_line in
    ap (λ (z : List ℕ). codes "tree\n" ++ z) (sym rows)

-- ---- what the store's answers say

child_there : (st : Seen) → IsReal st → (d m : ℕ) (x : Name) → st.graph.child d x ≡ Some m → is_there (st.graph.shape m) ≡ true
child_there st real d m x k = let s : (s : Shape) × (st.graph.shape m ≡ Some s) = real.to_used d m x k in ap is_there s.1

pub all_written : (st : Seen) → IsReal st → (line mid new : List ℕ) → mid ≡ line ++ codes "tree\ndir /\n" → new ≡ mid ++ text_at (forest_of st) (pending_at (forest_of st) at_root) → new ≡ line ++ tree_text (tree_of (forest_of st))
all_written st real line mid new a b =
    b ∙ ap (λ (z : List ℕ). z ++ text_at (forest_of st) (pending_at (forest_of st) at_root)) a
    ∙ append_assoc line (codes "tree\ndir /\n") (text_at (forest_of st) (pending_at (forest_of st) at_root))
    ∙ ap (λ (z : List ℕ). line ++ z) (tree_written st real)

-- the node that an entry names is there
pub entry_there : (st : Seen) → IsReal st → (dir m : ℕ) (low : Option Name) (x : Name) → ◌≡◌ {A = Option (Name × ℕ)} (Some (x, m)) (next_entry st.graph dir low) → is_there (st.graph.shape m) ≡ true
entry_there st real dir m low x e = child_there st real dir m x (entry_child (st.graph.child dir) (find (is_above low) (names_of (st.graph.shape dir))) x m e)

-- a step that writes an entry
pub step_visits : (st : Seen) → IsReal st → (old new : WalkPlace) (before after : List ℕ) (x : Name) (m : ℕ)
    → Leads (forest_of st) 0 old.above old.dir
    → names_above old.low (names_of (st.graph.shape old.dir)) ≡ x ∷ names_above (Some x) (names_of (st.graph.shape old.dir)) → ◌≡◌ {A = Option (Name × ℕ)} (Some (x, m)) (next_entry st.graph old.dir old.low)
    → after ≡ before ++ row_text (key_above old.above ++ x ∷ []) (node_seen (st.graph.shape m)) → new ≡ visited old x m (is_dir (st.graph.shape m))
    → Goes (forest_of st) old before new after
step_visits st real old new before after x m l rest entry wrote went =
    visit_goes st real old new before after x m l rest (entry_child (st.graph.child old.dir) (find (is_above old.low) (names_of (st.graph.shape old.dir))) x m entry) wrote went

-- behind which entry a walk stands
pub low_some : (child : Children) (dir n : ℕ) (low : Option Name) (last : Option ℕ) → IsLast child dir low last → last ≡ Some n → (x : Name) × (low ≡ Some x) × (child dir x ≡ Some n)
low_some child dir n None last h e = let z : ◌≡◌ {A = Option ℕ} None (Some n) = sym h ∙ e in absurd (cc)
low_some child dir n (Some x) last (m, h, k) e = (x, refl, k ∙ sym h ∙ e)

pub low_none : (child : Children) (dir : ℕ) (low : Option Name) (last : Option ℕ) → IsLast child dir low last → last ≡ None → low ≡ None
low_none child dir None last h e = refl
low_none child dir (Some x) last (m, h, k) e = let z : ◌≡◌ {A = Option ℕ} (Some m) None = sym h ∙ e in absurd (cc)

-- after an entry was written
pub last_visited : (child : Children) (old new : WalkPlace) (x : Name) (m : ℕ) (b : Bool) → child old.dir x ≡ Some m → new ≡ visited old x m b → IsLast child new.dir new.low new.last
last_visited child old new x m b k went = subst (λ (w : WalkPlace). IsLast child w.dir w.low w.last) (sym went) (go b)
  where
    go : (c : Bool) → IsLast child (visited old x m c).dir (visited old x m c).low (visited old x m c).last
    go true = refl
    go false = (m, refl, k)

-- after a step up
last_step : (g : forest.Slots) (n : ℕ) (steps : List Step) (s : Step) (dir : ℕ) → Leads g n (steps ++ s ∷ []) dir → child g s.dir s.name ≡ Some dir
last_step g n [] s dir (e, m, c, l) = ap (λ (k : ℕ). child g k s.name) (sym e) ∙ c ∙ ap Some l
last_step g n (t ∷ steps) s dir (e, m, c, l) = last_step g m steps s dir l

pub last_up : (st : Seen) → IsReal st → (old new : WalkPlace) (more : Bool) → Leads (forest_of st) 0 old.above old.dir → IsLast st.graph.child old.dir old.low old.last → IsUp old new more → IsLast st.graph.child new.dir new.low new.last
last_up st real old new false l last u = subst (λ (w : WalkPlace). IsLast st.graph.child w.dir w.low w.last) (sym u.1) last
last_up st real old new true l last u =
    let s : Step = u.0 in
    let above : Leads (forest_of st) 0 (new.above ++ s ∷ []) old.dir = subst (λ (z : List Step). Leads (forest_of st) 0 z old.dir) u.1 l in
    let child : st.graph.child new.dir s.name ≡ Some old.dir = ap (λ (d : ℕ). st.graph.child d s.name) u.2 ∙ sym (named_child st real s.dir s.name) ∙ last_step (forest_of st) 0 new.above s old.dir above in
    subst (λ (o : Option Name). IsLast st.graph.child new.dir o new.last) (sym u.3) (old.dir, u.4, child)

pub kept_after : (before added kept old new : List ℕ) (text : List ℕ) → kept ≡ before ++ added → before ≡ old → added ≡ new ++ text → new ≡ [] → kept ≡ old ++ text
kept_after before added kept old new text a b c d = a ∙ ap (λ (z : List ℕ). z ++ added) b ∙ ap (λ (z : List ℕ). old ++ z) (c ∙ ap (λ (z : List ℕ). z ++ text) d)
