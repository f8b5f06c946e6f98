-- What a store keeps, and how many of its numbers are in use.
use Rattle.std.proofs.Common.{◌≡◌, ℕ, zero, suc, ◌+◌, ◌-◌, ◌<◌, ◌≤◌, Bool, true, false, cond, eqb, List, [], ◌∷◌, ◌++◌, Option, Some, None, is_some, option_map, set, length, refl, sym, ap, ap₂, ◌∙◌, arith, subst, length-set, length-append}
use Rattle.std.specs.Prelude.{slice_get, IsTrue}
use Rattle.std.proofs.lemmas.Option.{slice_get_within}
use Rattle.fs_blocks.specs.Files.{FileValue}
use Rattle.fs_names.specs.Names.{Name, has_name}
use Rattle.fs_names.specs.Shapes.{Shape, is_there, is_dir, is_file, has_any, has_entries}
use Rattle.fs_names.specs.declared.kind.Kind.{Kind}
use Rattle.fs_nodes_places.specs.declared.node.Content.{Content}
use Rattle.fs_nodes_places.specs.declared.node.Content.TheVariants as contents
use Rattle.fs_nodes_places.specs.declared.node.Link.{Link}
use Rattle.fs_nodes_places.specs.declared.node.Node.{Node}
use mathlib.Core.Path.{fun_ext}
use Rattle.fs_calls.specs.Graphs.{Graph, Children, then_at, set_child, set_at, unlinked_in, IsReached, IsAcyclic, used_below, IsUnlinked}
use Rattle.fs_nodes_places.specs.Stores.{content_of, link_of, content_at, link_at, is_link, child_in, names_in, shape_with, shape_in, graph_in, IsStore}
use Rattle.fs_nodes_places.specs.code.PlainEdits.{new_node, IsTaken}
use Rattle.fs_calls.proofs.EqualLemmas.{eqb_true, eqb_refl}
use Rattle.fs_nodes_places.proofs.PlaceLemmas.{own_link, link_exact, child_linked, child_same, child_push, names_child, names_none, at_set, at_push, same_set, same_push, past_end, read_within, set_twice, get_set}
use Rattle.fs_calls.proofs.CycleLemmas.{acyclic_linked, acyclic_unlinked, reached_less}
use Rattle.fs_nodes_places.proofs.GraphLemmas.{free_still, unlinked_graph}

-- what the shape of a number says of its place
pub place_of_shape : (ps : List (Option Node)) (n : ℕ) → IsTrue (is_there (shape_in ps n)) → (p : Option Node) × (content : Content) × (slice_get ps n ≡ Some p) × (content_of p ≡ Some content)
place_of_shape ps n h = go (content_at ps n) refl h
  where
    go : (c : Option Content) → content_at ps n ≡ c → IsTrue (is_there (option_map (shape_with (names_in ps n)) c)) → (p : Option Node) × (content : Content) × (slice_get ps n ≡ Some p) × (content_of p ≡ Some content)
    go None e h = absurd (cc)
    go (Some content) e h = let r : (p : Option Node) × (slice_get ps n ≡ Some p) × (content_of p ≡ Some content) = read_within content_of ps n content e in (r.0, content, r.1, r.2)

-- a directory's
pub dir_of_shape : (ps : List (Option Node)) (n : ℕ) → IsTrue (is_dir (shape_in ps n)) → content_at ps n ≡ Some contents.Dir
dir_of_shape ps n h = go (content_at ps n) h
  where
    go : (c : Option Content) → IsTrue (is_dir (option_map (shape_with (names_in ps n)) c)) → c ≡ Some contents.Dir
    go None h = absurd (cc)
    go (Some contents.Dir) h = refl
    go (Some (contents.File file)) h = absurd (cc)

-- a file's
pub file_of_shape : (ps : List (Option Node)) (n : ℕ) → IsTrue (is_file (shape_in ps n)) → (file : FileValue) × (content_at ps n ≡ Some (contents.File file))
file_of_shape ps n h = go (content_at ps n) h
  where
    go : (c : Option Content) → IsTrue (is_file (option_map (shape_with (names_in ps n)) c)) → (file : FileValue) × (c ≡ Some (contents.File file))
    go None h = absurd (cc)
    go (Some contents.Dir) h = absurd (cc)
    go (Some (contents.File file)) h = (file, refl)

-- a node that no entry leads to has none
pub unlinked_place : (limit : ℕ) (ps : List (Option Node)) (n : ℕ) → IsStore limit ps → IsUnlinked (child_in ps) n → link_at ps n ≡ None
unlinked_place limit ps n store h = go (link_at ps n) refl
  where
    go : (l : Option Link) → link_at ps n ≡ l → link_at ps n ≡ None
    go None e = e
    go (Some link) e = absurd (h link.dir link.name (store.found n link e))

-- no entry leads from a number that is not a directory
pub no_names : (limit : ℕ) (ps : List (Option Node)) (n : ℕ) → IsStore limit ps → content_at ps n ≡ None → names_in ps n ≡ []
no_names limit ps n store e = names_none ps n (λ m link f g. (let h : ◌≡◌ {A = Option Content} None (Some contents.Dir) = sym e ∙ ap (content_at ps) g ∙ store.of_dir m link f in cc))

-- graphs with the same entries
same_children : (a b : Children) → ((d : ℕ) (y : Name) → a d y ≡ b d y) → a ≡ b
same_children a b h = fun_ext (λ d. fun_ext (λ y. h d y))

-- the invariant after a change that keeps the entries, and the directories that they are in
kept : (limit : ℕ) (ps qs : List (Option Node)) → IsStore limit ps → length qs ≤ limit → ((m : ℕ) → link_at qs m ≡ link_at ps m) → ((d : ℕ) (y : Name) → child_in qs d y ≡ child_in ps d y) → content_at qs 0 ≡ Some contents.Dir → ((m : ℕ) (link : Link) → link_at ps m ≡ Some link → content_at qs link.dir ≡ Some contents.Dir) → IsStore limit qs
kept limit ps qs store within links children root dirs = record {
  within = within;
  root = root;
  root_unlinked = links 0 ∙ store.root_unlinked;
  found = λ m link e. children link.dir link.name ∙ store.found m link (sym (links m) ∙ e);
  of_dir = λ m link e. dirs m link (sym (links m) ∙ e);
  acyclic = subst IsAcyclic (sym (same_children (child_in qs) (child_in ps) children)) store.acyclic;
}

-- a number comes into use
still_dir : (ps : List (Option Node)) (n m : ℕ) (c : Option Content) → content_at ps n ≡ None → content_at ps m ≡ Some contents.Dir → set_at n c (content_at ps) m ≡ Some contents.Dir
still_dir ps n m c free dir = go (eqb m n) refl
  where
    go : (b : Bool) → eqb m n ≡ b → cond b c (content_at ps m) ≡ Some contents.Dir
    go true e = let h : ◌≡◌ {A = Option Content} None (Some contents.Dir) = sym free ∙ sym (ap (content_at ps) (eqb_true m n e)) ∙ dir in absurd (cc)
    go false e = dir

-- a number with a free place comes into use
pub store_reserved : (f : Bool) (limit : ℕ) (ps : List (Option Node)) (n : ℕ) (kind : Kind) → IsStore limit ps → slice_get ps n ≡ Some None → IsStore limit (set ps n (Some (new_node f kind)))
store_reserved f limit ps n kind store there =
    let free : content_at ps n ≡ None = ap (λ (o : Option (Option Node)). then_at o content_of) there in
    let within : n < length ps = slice_get_within ps n None there in
    let contents : (m : ℕ) → content_at (set ps n (Some (new_node f kind))) m ≡ set_at n (content_of (Some (new_node f kind))) (content_at ps) m = at_set content_of ps n (Some (new_node f kind)) within in
    kept limit ps (set ps n (Some (new_node f kind))) store (let h : length ps ≤ limit = store.within in omega (arith, length-set {A = Option Node}))
    (same_set link_of ps n None (Some (new_node f kind)) there refl)
    (child_same ps n None (Some (new_node f kind)) there refl)
    (contents 0 ∙ still_dir ps n 0 (content_of (Some (new_node f kind))) free store.root)
    (λ m link e. contents link.dir ∙ still_dir ps n link.dir (content_of (Some (new_node f kind))) free (store.of_dir m link e))

-- the number after the last place comes into use
pub store_pushed : (f : Bool) (limit : ℕ) (ps : List (Option Node)) (kind : Kind) → IsStore limit ps → length ps < limit → IsStore limit (ps ++ Some (new_node f kind) ∷ [])
store_pushed f limit ps kind store h =
    let free : content_at ps (length ps) ≡ None = past_end content_of ps (length ps) (omega arith) in
    let contents : (m : ℕ) → content_at (ps ++ Some (new_node f kind) ∷ []) m ≡ set_at (length ps) (content_of (Some (new_node f kind))) (content_at ps) m = at_push content_of ps (Some (new_node f kind)) in
    kept limit ps (ps ++ Some (new_node f kind) ∷ []) store (omega (arith, length-append {A = Option Node}))
    (same_push link_of ps (Some (new_node f kind)) refl)
    (child_push ps (Some (new_node f kind)) refl)
    (contents 0 ∙ still_dir ps (length ps) 0 (content_of (Some (new_node f kind))) free store.root)
    (λ m link e. contents link.dir ∙ still_dir ps (length ps) link.dir (content_of (Some (new_node f kind))) free (store.of_dir m link e))

-- a number leaves use
other_dir : (ps : List (Option Node)) (n m : ℕ) (c : Option Content) → (m ≡ n → ⊥) → content_at ps m ≡ Some contents.Dir → set_at n c (content_at ps) m ≡ Some contents.Dir
other_dir ps n m c other dir = go (eqb m n) refl
  where
    go : (b : Bool) → eqb m n ≡ b → cond b c (content_at ps m) ≡ Some contents.Dir
    go true e = absurd (other (eqb_true m n e))
    go false e = dir

-- a node without entries is no directory of one
pub not_above : (limit : ℕ) (ps : List (Option Node)) (n m : ℕ) (link : Link) → IsStore limit ps → has_entries (shape_in ps n) ≡ false → link_at ps m ≡ Some link → link.dir ≡ n → ⊥
not_above limit ps n m link store empty e f =
    let dir : content_at ps n ≡ Some contents.Dir = ap (content_at ps) (sym f) ∙ store.of_dir m link e in
    let here : child_in ps n link.name ≡ Some m = ap (λ (d : ℕ). child_in ps d link.name) (sym f) ∙ store.found m link e in
    let has : has_name link.name (names_in ps n) ≡ true = names_child ps n link.name ∙ ap is_some here in
    let none : has_any (names_in ps n) ≡ false = sym (ap (λ (c : Option Content). has_entries (option_map (shape_with (names_in ps n)) c)) dir) ∙ empty in
    go (names_in ps n) has none
  where
    go : (names : List Name) → has_name link.name names ≡ true → has_any names ≡ false → ⊥
    go [] h g = cc
    go (x ∷ names) h g = cc

-- a number leaves use
pub store_released : (limit : ℕ) (ps : List (Option Node)) (n : ℕ) (p : Option Node) → IsStore limit ps → slice_get ps n ≡ Some p → link_of p ≡ None → (n ≡ 0 → ⊥) → has_entries (shape_in ps n) ≡ false → IsStore limit (set ps n None)
store_released limit ps n p store there old other empty =
    let contents : (m : ℕ) → content_at (set ps n None) m ≡ set_at n None (content_at ps) m = at_set content_of ps n None (slice_get_within ps n p there) in
    kept limit ps (set ps n None) store (let h : length ps ≤ limit = store.within in omega (arith, length-set {A = Option Node}))
    (same_set link_of ps n p None there (sym old))
    (child_same ps n p None there (sym old))
    (contents 0 ∙ other_dir ps n 0 None (λ e. other (sym e)) store.root)
    (λ m link e. contents link.dir ∙ other_dir ps n link.dir None (not_above limit ps n m link store empty e) (store.of_dir m link e))

-- a file changes
pub store_refilled : (limit : ℕ) (ps : List (Option Node)) (n : ℕ) (p q : Option Node) (old : FileValue) → IsStore limit ps → slice_get ps n ≡ Some p → content_of p ≡ Some (contents.File old) → link_of q ≡ link_of p → IsStore limit (set ps n q)
store_refilled limit ps n p q old store there file same =
    let read : (m : ℕ) → content_at (set ps n q) m ≡ set_at n (content_of q) (content_at ps) m = at_set content_of ps n q (slice_get_within ps n p there) in
    let here : content_at ps n ≡ Some (contents.File old) = ap (λ (o : Option (Option Node)). then_at o content_of) there ∙ file in
    let other : (m : ℕ) → content_at ps m ≡ Some contents.Dir → m ≡ n → ⊥ = λ m e f. (let h : ◌≡◌ {A = Option Content} (Some (contents.File old)) (Some contents.Dir) = sym here ∙ sym (ap (content_at ps) f) ∙ e in cc) in
    kept limit ps (set ps n q) store (let h : length ps ≤ limit = store.within in omega (arith, length-set {A = Option Node}))
    (same_set link_of ps n p q there same)
    (child_same ps n p q there same)
    (read 0 ∙ other_dir ps n 0 (content_of q) (other 0 store.root) store.root)
    (λ m link e. read link.dir ∙ other_dir ps n link.dir (content_of q) (other link.dir (store.of_dir m link e)) (store.of_dir m link e))

-- a node that no entry named is named by one of a directory that is not reached from it
pub store_linked : (limit : ℕ) (ps : List (Option Node)) (n : ℕ) (p q : Option Node) (link : Link) → IsStore limit ps → slice_get ps n ≡ Some p → link_of p ≡ None → link_of q ≡ Some link → content_of q ≡ content_of p → (n ≡ 0 → ⊥) → child_in ps link.dir link.name ≡ None → content_at ps link.dir ≡ Some contents.Dir → (IsReached (child_in ps) n link.dir → ⊥) → IsStore limit (set ps n q)
store_linked limit ps n p q link store there old new same other free dir apart = record {
  within = (let h : length ps ≤ limit = store.within in omega (arith, length-set {A = Option Node}));
  root = read 0 ∙ store.root;
  root_unlinked = links 0 ∙ root (eqb 0 n) refl;
  found = λ m l e. child_linked ps n p q link free there old new l.dir l.name ∙ found m l (eqb m n) refl (sym (links m) ∙ e);
  of_dir = λ m l e. read l.dir ∙ of_dir m l (eqb m n) (sym (links m) ∙ e);
  acyclic = subst IsAcyclic (sym (same_children _ _ (child_linked ps n p q link free there old new))) (acyclic_linked (child_in ps) link.dir link.name n store.acyclic apart);
}
  where
    read : (m : ℕ) → content_at (set ps n q) m ≡ content_at ps m
    read = same_set content_of ps n p q there same

    links : (m : ℕ) → link_at (set ps n q) m ≡ set_at n (link_of q) (link_at ps) m
    links = at_set link_of ps n q (slice_get_within ps n p there)

    root : (b : Bool) → eqb 0 n ≡ b → cond b (link_of q) (link_at ps 0) ≡ None
    root true e = absurd (other (sym (eqb_true 0 n e)))
    root false e = store.root_unlinked

    by : (m : ℕ) (l : Link) (b : Bool) → is_link (Some link) l.dir l.name ≡ b → link_at ps m ≡ Some l → cond b (Some n) (child_in ps l.dir l.name) ≡ Some m
    by m l true e f =
        let two : (l.dir ≡ link.dir) × (l.name ≡ link.name) = link_exact link l.dir l.name e in
        let h : ◌≡◌ {A = Option ℕ} None (Some m) = sym free ∙ ap₂ (child_in ps) (sym two.0) (sym two.1) ∙ store.found m l f in absurd (cc)
    by m l false e f = store.found m l f

    found : (m : ℕ) (l : Link) (b : Bool) → eqb m n ≡ b → cond b (link_of q) (link_at ps m) ≡ Some l → set_child link.dir link.name (Some n) (child_in ps) l.dir l.name ≡ Some m
    found m l true e f =
        let g : Some link ≡ Some l = sym new ∙ f in
        let h : link ≡ l = cc in
        let k : is_link (Some link) l.dir l.name ≡ true = subst (λ (z : Link). is_link (Some link) z.dir z.name ≡ true) h (own_link link) in
        rw k (ap (λ (z : ℕ). Some z) (sym (eqb_true m n e)))
    found m l false e f = by m l (is_link (Some link) l.dir l.name) refl f

    of_dir : (m : ℕ) (l : Link) (b : Bool) → cond b (link_of q) (link_at ps m) ≡ Some l → content_at ps l.dir ≡ Some contents.Dir
    of_dir m l true f =
        let g : Some link ≡ Some l = sym new ∙ f in
        let h : link ≡ l = cc in
        subst (λ (z : Link). content_at ps z.dir ≡ Some contents.Dir) h dir
    of_dir m l false f = store.of_dir m l f

-- a node loses its entry
pub store_unlinked : (limit : ℕ) (ps : List (Option Node)) (n : ℕ) (p q : Option Node) (link : Link) → IsStore limit ps → slice_get ps n ≡ Some p → link_of p ≡ Some link → link_of q ≡ None → content_of q ≡ content_of p → IsStore limit (set ps n q)
store_unlinked limit ps n p q link store there old new same = record {
  within = (let h : length ps ≤ limit = store.within in omega (arith, length-set {A = Option Node}));
  root = read 0 ∙ store.root;
  root_unlinked = links 0 ∙ root (eqb 0 n);
  found = λ m l e. ap (λ (g : Graph). g.child l.dir l.name) graph ∙ found m l (eqb m n) refl (sym (links m) ∙ e);
  of_dir = λ m l e. read l.dir ∙ of_dir m l (eqb m n) (sym (links m) ∙ e);
  acyclic = subst IsAcyclic (sym (ap (λ (g : Graph). g.child) graph)) (acyclic_unlinked (child_in ps) link.dir link.name store.acyclic);
}
  where
    own : link_at ps n ≡ Some link
    own = ap (λ (o : Option (Option Node)). then_at o link_of) there ∙ old

    graph : graph_in (set ps n q) ≡ unlinked_in link.dir link.name (graph_in ps)
    graph = unlinked_graph ps n p q link store.found there old new same (store.of_dir n link own)

    read : (m : ℕ) → content_at (set ps n q) m ≡ content_at ps m
    read = same_set content_of ps n p q there same

    links : (m : ℕ) → link_at (set ps n q) m ≡ set_at n (link_of q) (link_at ps) m
    links = at_set link_of ps n q (slice_get_within ps n p there)

    root : (b : Bool) → cond b (link_of q) (link_at ps 0) ≡ None
    root true = new
    root false = store.root_unlinked

    by : (m : ℕ) (l : Link) (b : Bool) → is_link (Some link) l.dir l.name ≡ b → eqb m n ≡ false → link_at ps m ≡ Some l → cond b None (child_in ps l.dir l.name) ≡ Some m
    by m l true e d f =
        let two : (l.dir ≡ link.dir) × (l.name ≡ link.name) = link_exact link l.dir l.name e in
        let h : Some m ≡ Some n = sym (store.found m l f) ∙ ap₂ (child_in ps) two.0 two.1 ∙ store.found n link own in
        let k : m ≡ n = cc in
        let z : true ≡ false = sym (eqb_refl n) ∙ ap (λ (i : ℕ). eqb i n) (sym k) ∙ d in absurd (cc)
    by m l false e d f = store.found m l f

    found : (m : ℕ) (l : Link) (b : Bool) → eqb m n ≡ b → cond b (link_of q) (link_at ps m) ≡ Some l → set_child link.dir link.name None (child_in ps) l.dir l.name ≡ Some m
    found m l true e f = let g : ◌≡◌ {A = Option Link} None (Some l) = sym new ∙ f in absurd (cc)
    found m l false e f = by m l (is_link (Some link) l.dir l.name) refl e f

    of_dir : (m : ℕ) (l : Link) (b : Bool) → cond b (link_of q) (link_at ps m) ≡ Some l → content_at ps l.dir ≡ Some contents.Dir
    of_dir m l true f = let g : ◌≡◌ {A = Option Link} None (Some l) = sym new ∙ f in absurd (cc)
    of_dir m l false f = store.of_dir m l f

-- a node goes from one entry to another
pub store_moved : (limit : ℕ) (ps : List (Option Node)) (n : ℕ) (p q r : Option Node) (link new : Link) → IsStore limit ps → slice_get ps n ≡ Some p → link_of p ≡ Some link → link_of q ≡ None → content_of q ≡ content_of p → link_of r ≡ Some new → content_of r ≡ content_of p
    → content_at ps new.dir ≡ Some contents.Dir → child_in ps new.dir new.name ≡ None → (IsReached (child_in ps) n new.dir → ⊥) → IsStore limit (set ps n r)
store_moved limit ps n p q r link new store there old none same to same' dir free apart =
    let own : link_at ps n ≡ Some link = ap (λ (o : Option (Option Node)). then_at o link_of) there ∙ old in
    let other : n ≡ 0 → ⊥ = λ e. (let h : ◌≡◌ {A = Option Link} None (Some link) = sym store.root_unlinked ∙ ap (link_at ps) (sym e) ∙ own in cc) in
    let graph : graph_in (set ps n q) ≡ unlinked_in link.dir link.name (graph_in ps) = unlinked_graph ps n p q link store.found there old none same (store.of_dir n link own) in
    subst (IsStore limit) (set_twice ps n r q)
    (store_linked limit (set ps n q) n q r new (store_unlinked limit ps n p q link store there old none same) (get_set ps n p q there) none to (same' ∙ sym same) other
    (free_still ps n p q link new store.found there old none same (store.of_dir n link own) free)
    (same_set content_of ps n p q there same new.dir ∙ dir)
    (λ way. apart (reached_less (child_in ps) link.dir link.name n new.dir (subst (λ (k : Children). IsReached k n new.dir) (ap (λ (g : Graph). g.child) graph) way))))

-- as many numbers are in use as there are, exactly where each is
used_least : (shapes : ℕ → Option Shape) (n : ℕ) → used_below shapes n ≤ n
used_least shapes zero = omega arith
used_least shapes (suc n) = go (is_there (shapes n)) (used_least shapes n)
  where
    go : (b : Bool) → used_below shapes n ≤ n → cond b (used_below shapes n + 1) (used_below shapes n) ≤ suc n
    go true h = omega arith
    go false h = omega arith

-- where each of the first numbers is in use, all are counted
pub used_all : (shapes : ℕ → Option Shape) (n : ℕ) → ((k : ℕ) → k < n → is_there (shapes k) ≡ true) → used_below shapes n ≡ n
used_all shapes zero h = refl
used_all shapes (suc n) h = let e : is_there (shapes n) ≡ true = h n (omega arith) in let f : used_below shapes n ≡ n = used_all shapes n (λ k g. h k (omega arith)) in rw e (omega arith)

-- and the other way round
pub used_each : (shapes : ℕ → Option Shape) (n : ℕ) → used_below shapes n ≡ n → (k : ℕ) → k < n → is_there (shapes k) ≡ true
used_each shapes zero e k h = absurd (omega arith)
used_each shapes (suc n) e k h = go (is_there (shapes n)) refl (used_least shapes n) e (λ f. used_each shapes n f k)
  where
    go : (b : Bool) → is_there (shapes n) ≡ b → used_below shapes n ≤ n → cond b (used_below shapes n + 1) (used_below shapes n) ≡ suc n → (used_below shapes n ≡ n → k < n → is_there (shapes k) ≡ true) → is_there (shapes k) ≡ true
    go false f l e rest = absurd (omega arith)
    go true f l e rest = by (eqb k n) refl
      where
        by : (b : Bool) → eqb k n ≡ b → is_there (shapes k) ≡ true
        by true g = ap (λ (i : ℕ). is_there (shapes i)) (eqb_true k n g) ∙ f
        by false g = rest (omega arith) (grind arith)

-- no more are in use than there are places
used_past : (shapes : ℕ → Option Shape) (n k : ℕ) → ((m : ℕ) → n ≤ m → is_there (shapes m) ≡ false) → used_below shapes (k + n) ≡ used_below shapes n
used_past shapes n zero h = ap (used_below shapes) (let e : 0 + n ≡ n = omega arith in e)
used_past shapes n (suc k) h = let e : is_there (shapes (k + n)) ≡ false = h (k + n) (omega arith) in let s : suc k + n ≡ suc (k + n) = omega arith in rw (s, e) (used_past shapes n k h)

-- a taken place is a number in use
taken_there : (ps : List (Option Node)) (n : ℕ) → IsTaken (slice_get ps n) → is_there (shape_in ps n) ≡ true
taken_there ps n h = go (slice_get ps n) h
  where
    go : (o : Option (Option Node)) → IsTaken o → is_there (option_map (shape_with (names_in ps n)) (then_at o content_of)) ≡ true
    go None h = absurd h
    go (Some None) h = absurd h
    go (Some (Some node)) h = refl

-- a place that holds nothing is none
not_there : (ps : List (Option Node)) (n : ℕ) → content_at ps n ≡ None → is_there (shape_in ps n) ≡ false
not_there ps n e = ap (λ (c : Option Content). is_there (option_map (shape_with (names_in ps n)) c)) e

-- where each place is taken, as many numbers are in use as there are places
pub used_places : (limit : ℕ) (ps : List (Option Node)) → length ps ≤ limit → ((k : ℕ) → k < length ps → IsTaken (slice_get ps k)) → used_below (shape_in ps) limit ≡ length ps
used_places limit ps h taken =
    let more : ℕ = limit - length ps in
    let e : limit ≡ more + length ps = omega arith in
    ap (used_below (shape_in ps)) e ∙ used_past (shape_in ps) (length ps) more (λ m g. not_there ps m (past_end content_of ps m g)) ∙ used_all (shape_in ps) (length ps) (λ k g. taken_there ps k (taken k g))

-- a place without a node is a number that is not in use
pub free_place : (limit : ℕ) (ps : List (Option Node)) (n : ℕ) → length ps ≤ limit → slice_get ps n ≡ Some None → used_below (shape_in ps) limit ≡ limit → ⊥
free_place limit ps n h there full =
    let within : n < length ps = slice_get_within ps n None there in
    let e : is_there (shape_in ps n) ≡ true = used_each (shape_in ps) limit full n (omega arith) in
    let f : is_there (shape_in ps n) ≡ false = not_there ps n (ap (λ (o : Option (Option Node)). then_at o content_of) there) in
    let g : true ≡ false = sym e ∙ f in cc

-- the root is in use
pub root_taken : (limit : ℕ) (ps : List (Option Node)) (n : ℕ) → IsStore limit ps → slice_get ps n ≡ Some None → (n ≡ 0 → ⊥)
root_taken limit ps n store e z =
    let k : ◌≡◌ {A = Option Content} None (Some contents.Dir) = sym (ap (λ (o : Option (Option Node)). then_at o content_of) e) ∙ ap (content_at ps) z ∙ store.root in
    absurd (cc)

pub root_within : (limit : ℕ) (ps : List (Option Node)) → IsStore limit ps → (length ps ≡ 0 → ⊥)
root_within limit [] store z =
    let k : ◌≡◌ {A = Option Content} None (Some contents.Dir) = store.root in
    absurd (cc)
root_within limit (p ∷ ps) store z = absurd (omega arith)
