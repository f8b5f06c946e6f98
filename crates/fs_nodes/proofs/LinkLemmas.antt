-- What a place says after a node has come between two siblings, or has left its place there.
use Rattle.std.proofs.Common.{◌≡◌, ℕ, ◌+◌, Bool, true, false, cond, eqb, ◌&&◌, List, Option, Some, None, ◌⊎◌, inl, inr, is_none, is_some, option_map, set, length, refl, sym, ap, ap₂, subst, ◌∙◌}
use Rattle.std.specs.Prelude.{slice_get, IsTrue}
use Rattle.std.specs.List.{find}
use Rattle.std.proofs.lemmas.Option.{slice_get-map}
use Rattle.fs_names.specs.Names.{Name, same_name, inserted_name}
use Rattle.fs_names.specs.Shapes.{Dir, names_of, is_there, is_dir}
use Rattle.fs_names.specs.declared.limits.TheConstants.{NODE_LIMIT}
use Rattle.fs_nodes_places.specs.declared.node.Content.{Content}
use Rattle.fs_nodes_places.specs.declared.node.Link.{Link}
use Rattle.fs_nodes_places.specs.declared.node.Node.{Node}
use Rattle.fs_nodes_places.specs.declared.place.Place.{Place}
use Rattle.fs_calls.specs.Graphs.{Graph, then_at, linked_in, IsReached, IsUnlinked}
use Rattle.fs_nodes_places.specs.Stores.{content_of, link_of, link_at, child_in, names_in, shape_with, graph_in, is_above, IsStore}
use Rattle.fs_nodes_places.specs.code.PlainEdits.{relinked}
use Rattle.fs_nodes_places.proofs.PlainEditLemmas.{Makes, link_makes}
use Rattle.fs_nodes_places.specs.Plains.{link_with, plain_with, plain, plains}
use Rattle.fs_nodes_places.specs.code.Edits.{edited}
use Rattle.fs_nodes.specs.code.Linked.{graph_of_places, next_child, IsPrev, IsLow, IsAt, IsGap, IsBeside, IsIndexed, IsPlaces, with_first, with_next, with_prev, with_entries, entered, led, followed, put_between}
use Rattle.fs_calls.proofs.EqualLemmas.{eqb_true, eqb_refl}
use Rattle.fs_nodes_places.proofs.PlaceLemmas.{child_link}
use Rattle.fs_nodes_places.proofs.EditLemmas.{get_edited, plains_edited, plains_set}
use Rattle.fs_nodes.proofs.StepLemmas.{dir_ascends, dir_has, link_of_place, next_child_name}
use Rattle.fs_nodes.proofs.GapLemmas.{IsFree, IsMember, count_linked, child_new, child_there, next_other, next_at, next_by, next_self, at_one, low_member}

-- whether a number is that one
abbrev pub is_at : Option ℕ → ℕ → Bool
is_at None m = false
is_at (Some k) m = eqb m k

-- each place, where a node came between two siblings
abbrev pub put_place : ℕ → ℕ → Name → Option ℕ → Option ℕ → ℕ → Place → Place
put_place dir n x prev next m p = record {
  content = p.content;
  name = cond (eqb m n) x p.name;
  parent = cond (eqb m n) (Some dir) p.parent;
  first = cond (eqb m dir && is_none prev) (Some n) p.first;
  next = cond (eqb m n) next (cond (is_at prev m) (Some n) p.next);
  prev = cond (eqb m n) prev (cond (is_at next m) (Some n) p.prev);
  entries = cond (eqb m dir) (p.entries + 1) p.entries;
  root = p.root;
  left = p.left;
  right = p.right;
}

-- the four edits, read at one number
pub get_led : (dir : ℕ) (prev to : Option ℕ) (ps : List Place) (m : ℕ) → slice_get (led dir prev to ps) m ≡ option_map {T = Place} {U = Place} (λ p. record p { first = cond (eqb m dir && is_none prev) to p.first; next = cond (is_at prev m) to p.next }) (slice_get ps m)
get_led dir None to ps m = get_edited dir (with_first to) ps m ∙ go (eqb m dir) (slice_get ps m)
  where
    go : (b : Bool) (o : Option Place) → option_map (λ p. cond b (with_first to p) p) o ≡ option_map {T = Place} {U = Place} (λ p. record p { first = cond (b && true) to p.first; next = p.next }) o
    go b None = refl
    go true (Some p) = refl
    go false (Some p) = refl
get_led dir (Some k) to ps m = get_edited k (with_next to) ps m ∙ go (eqb m dir) (eqb m k) (slice_get ps m)
  where
    go : (b t : Bool) (o : Option Place) → option_map (λ p. cond t (with_next to p) p) o ≡ option_map {T = Place} {U = Place} (λ p. record p { first = cond (b && false) to p.first; next = cond t to p.next }) o
    go b t None = refl
    go true true (Some p) = refl
    go true false (Some p) = refl
    go false true (Some p) = refl
    go false false (Some p) = refl

pub get_followed : (next to : Option ℕ) (ps : List Place) (m : ℕ) → slice_get (followed next to ps) m ≡ option_map {T = Place} {U = Place} (λ p. record p { prev = cond (is_at next m) to p.prev }) (slice_get ps m)
get_followed None to ps m = go (slice_get ps m)
  where
    go : (o : Option Place) → o ≡ option_map {T = Place} {U = Place} (λ p. record p { prev = p.prev }) o
    go None = refl
    go (Some p) = refl
get_followed (Some k) to ps m = get_edited k (with_prev to) ps m ∙ go (eqb m k) (slice_get ps m)
  where
    go : (t : Bool) (o : Option Place) → option_map (λ p. cond t (with_prev to p) p) o ≡ option_map {T = Place} {U = Place} (λ p. record p { prev = cond t to p.prev }) o
    go t None = refl
    go true (Some p) = refl
    go false (Some p) = refl

pub get_put : (dir n : ℕ) (x : Name) (prev next : Option ℕ) (ps : List Place) (m : ℕ) → slice_get (put_between dir n x prev next ps) m ≡ option_map (put_place dir n x prev next m) (slice_get ps m)
get_put dir n x prev next ps m =
    let count : Place → Place = λ p. with_entries (p.entries + 1) p in
    let one : List Place = edited dir count ps in
    let two : List Place = led dir prev (Some n) one in
    let three : List Place = followed next (Some n) two in
    get_edited n (entered (Some dir) x prev next) three m
    ∙ ap (option_map (λ p. cond (eqb m n) (entered (Some dir) x prev next p) p)) (get_followed next (Some n) two m ∙ ap (option_map {T = Place} {U = Place} (λ p. record p { prev = cond (is_at next m) (Some n) p.prev })) (get_led dir prev (Some n) one m ∙ ap (option_map {T = Place} {U = Place} (λ p. record p { first = cond (eqb m dir && is_none prev) (Some n) p.first; next = cond (is_at prev m) (Some n) p.next })) (get_edited dir count ps m)))
    ∙ go (eqb m n) (eqb m dir) (slice_get ps m)
  where
    go : (b t : Bool) (o : Option Place) → option_map (λ p. cond b (entered (Some dir) x prev next p) p) (option_map {T = Place} {U = Place} (λ p. record p { prev = cond (is_at next m) (Some n) p.prev }) (option_map {T = Place} {U = Place} (λ p. record p { first = cond (t && is_none prev) (Some n) p.first; next = cond (is_at prev m) (Some n) p.next }) (option_map (λ p. cond t (with_entries (p.entries + 1) p) p) o)))
        ≡ option_map {T = Place} {U = Place} (λ p. record { content = p.content; name = cond b x p.name; parent = cond b (Some dir) p.parent; first = cond (t && is_none prev) (Some n) p.first; next = cond b next (cond (is_at prev m) (Some n) p.next); prev = cond b prev (cond (is_at next m) (Some n) p.prev); entries = cond t (p.entries + 1) p.entries; root = p.root; left = p.left; right = p.right }) o
    go b t None = refl
    go true true (Some p) = refl
    go true false (Some p) = refl
    go false true (Some p) = refl
    go false false (Some p) = refl

-- what a number's place was before
place_before : (dir n : ℕ) (x : Name) (prev next : Option ℕ) (ps : List Place) (m : ℕ) (q : Place) → slice_get (put_between dir n x prev next ps) m ≡ Some q → (p : Place) × (slice_get ps m ≡ Some p) × (q ≡ put_place dir n x prev next m p)
place_before dir n x prev next ps m q e = go (slice_get ps m) refl (sym (get_put dir n x prev next ps m) ∙ e)
  where
    go : (o : Option Place) → slice_get ps m ≡ o → option_map (put_place dir n x prev next m) o ≡ Some q → (p : Place) × (slice_get ps m ≡ Some p) × (q ≡ put_place dir n x prev next m p)
    go None f g = absurd (cc)
    go (Some p) f g = let h : put_place dir n x prev next m p ≡ q = cc in (p, f, sym h)

-- a directory in which a name is free
pub free_in_dir : (ps : List Place) (dir : ℕ) (x : Name) → IsPlaces ps → (graph_of_places ps).child dir x ≡ None → IsFree (graph_of_places ps) dir x
free_in_dir ps dir x places e = record {
  ascends = dir_ascends ps dir places;
  has = λ y. dir_has ps dir y places;
  free = e;
}

-- the entry of a node stands in its own directory under its own name
pub one_entry : (ps : List Place) (m : ℕ) (link : Link) (d : ℕ) (y : Name) → link_at (plains ps) m ≡ Some link → child_in (plains ps) d y ≡ Some m → (d ≡ link.dir) × (y ≡ link.name)
one_entry ps m link d y e f =
    let h : Some (record { dir = d; name = y }) ≡ Some link = sym (child_link (plains ps) d y m f) ∙ e in
    let k : ◌≡◌ {A = Link} (record { dir = d; name = y }) link = cc in
    (ap (λ (l : Link). l.dir) k, ap (λ (l : Link). l.name) k)

-- a test of two numbers that differ
pub eqb_false : (b : Bool) → (b ≡ true → ⊥) → b ≡ false
eqb_false true h = absurd (h refl)
eqb_false false h = refl

-- the number that a place is at
pub at_true : (o : Option ℕ) (m : ℕ) → is_at o m ≡ true → o ≡ Some m
at_true None m e = cc
at_true (Some k) m e = ap (λ (z : ℕ). Some z) (sym (eqb_true m k e))

pub at_refl : (o : Option ℕ) (m : ℕ) → o ≡ Some m → is_at o m ≡ true
at_refl o m e = ap (λ (z : Option ℕ). is_at z m) e ∙ eqb_refl m

-- two names of one directory that lead to one node
pub child_name : (ps : List Place) (d : ℕ) (y z : Name) (m : ℕ) → child_in (plains ps) d y ≡ Some m → child_in (plains ps) d z ≡ Some m → z ≡ y
child_name ps d y z m e f =
    let h : ◌≡◌ {A = Option Link} (Some (record { dir = d; name = z })) (Some (record { dir = d; name = y })) = sym (child_link (plains ps) d z m f) ∙ child_link (plains ps) d y m e in
    let k : ◌≡◌ {A = Link} (record { dir = d; name = z }) (record { dir = d; name = y }) = cc in
    ap (λ (l : Link). l.name) k

-- the number of a low name
pub low_child : (graph : Graph) (dir : ℕ) (low : Option Name) (y : Name) (o : Option ℕ) (m : ℕ) → IsLow graph dir low o → low ≡ Some y → graph.child dir y ≡ Some m → o ≡ Some m
low_child graph dir None y o m l e k = let w : ◌≡◌ {A = Option Name} None (Some y) = e in absurd (cc)
low_child graph dir (Some z) y o m l e k = let h : z ≡ y = cc in l.2 ∙ sym l.1 ∙ ap (graph.child dir) h ∙ k

-- and its name
pub child_low : (graph : Graph) (dir : ℕ) (low : Option Name) (o : Option ℕ) (m : ℕ) → IsLow graph dir low o → o ≡ Some m → (y : Name) × (low ≡ Some y) × (graph.child dir y ≡ Some m)
child_low graph dir None o m l e = let w : ◌≡◌ {A = Option ℕ} None (Some m) = sym l ∙ e in absurd (cc)
child_low graph dir (Some z) o m l e = (z, refl, l.1 ∙ (let w : Some l.0 ≡ Some m = sym l.2 ∙ e in w))

-- what is true is not false
pub true_false : true ≡ false → ⊥
true_false e = cc

-- another directory's siblings are as before
pub prev_other : (graph : Graph) (dir d : ℕ) (x : Name) (n m : ℕ) (o : Option ℕ) → eqb d dir ≡ false → IsPrev graph d m o → IsPrev (linked_in dir x n graph) d m o
prev_other graph dir d x n m None e h = next_other graph dir d x n None e ∙ h
prev_other graph dir d x n m (Some k) e h = (h.0, ap (λ (b : Bool). cond (b && same_name h.0 x) (Some n) (graph.child d h.0)) e ∙ h.1, next_other graph dir d x n (Some h.0) e ∙ h.2)

-- the ways of the places where a node came between two siblings
pub put_indexed : (ps : List Place) (dir n : ℕ) (x : Name) (prev next : Option ℕ) (content : Content) (m : ℕ) (q : Place) → IsPlaces ps → (graph_of_places ps).child dir x ≡ None → IsGap (graph_of_places ps) dir x prev next
    → ((p : Place) → slice_get ps n ≡ Some p → p.content ≡ Some content) → slice_get (put_between dir n x prev next ps) m ≡ Some q → IsIndexed (linked_in dir x n (graph_of_places ps)) m q
put_indexed ps dir n x prev next content m q places free gap used there =
    let r : (p : Place) × (slice_get ps m ≡ Some p) × (q ≡ put_place dir n x prev next m p) = place_before dir n x prev next ps m q there in
    subst (IsIndexed (linked_in dir x n (graph_of_places ps)) m) (sym r.2) (record {
      entries = entries r.0 r.1 (eqb m dir) refl;
      first = first r.0 r.1 (eqb m dir) refl;
      beside = beside r.0 r.1 (eqb m n) refl;
    })
  where
    G : Graph
    G = graph_of_places ps

    f : IsFree G dir x
    f = free_in_dir ps dir x places free

    L : Graph
    L = linked_in dir x n G

    member : IsMember G dir gap.low
    member = low_member G dir x gap.low prev f gap.is_low

    entries : (p : Place) → slice_get ps m ≡ Some p → (b : Bool) → eqb m dir ≡ b → cond b (p.entries + 1) p.entries ≡ length (names_of ((linked_in dir x n G).shape m))
    entries p e true g =
        let h : m ≡ dir = eqb_true m dir g in
        let k : p.entries ≡ length (names_of (G.shape dir)) = (places.each m p e).entries ∙ ap (λ (z : ℕ). length (names_of (G.shape z))) h in
        ap (λ (z : ℕ). z + 1) k ∙ sym (count_linked G dir x n f) ∙ ap (λ (z : ℕ). length (names_of ((linked_in dir x n G).shape z))) (sym h)
    entries p e false g = (places.each m p e).entries ∙ ap (λ (t : Bool). length (names_of (cond t (Some (Dir (inserted_name x (names_of (G.shape dir))))) (G.shape m)))) (sym g)

    lead : (p : Place) → slice_get ps m ≡ Some p → m ≡ dir → (low : Option Name) → IsLow G dir low prev → IsAt G dir x low → cond (is_none prev) (Some n) p.first ≡ next_child (linked_in dir x n G) dir None
    lead p e h None l at = ap (λ (o : Option ℕ). cond (is_none o) (Some n) p.first) l ∙ sym (next_at G dir x n None f at)
    lead p e h (Some y) l at = ap (λ (o : Option ℕ). cond (is_none o) (Some n) p.first) l.2 ∙ (places.each m p e).first ∙ ap (λ (z : ℕ). next_child G z None) h ∙ by (next_by G dir x n None f)
      where
        by : (next_child (linked_in dir x n G) dir None ≡ next_child G dir None) ⊎ IsAt G dir x None → next_child G dir None ≡ next_child (linked_in dir x n G) dir None
        by (inl k) = sym k
        by (inr k) = let w : ◌≡◌ {A = Option Name} None (Some y) = at_one G dir x None (Some y) f tt (low_member G dir x (Some y) prev f l) k at in absurd (cc)

    first : (p : Place) → slice_get ps m ≡ Some p → (b : Bool) → eqb m dir ≡ b → cond (b && is_none prev) (Some n) p.first ≡ next_child (linked_in dir x n G) m None
    first p e true g = let h : m ≡ dir = eqb_true m dir g in lead p e h gap.low gap.is_low gap.at ∙ ap (λ (z : ℕ). next_child (linked_in dir x n G) z None) (sym h)
    first p e false g = (places.each m p e).first ∙ sym (next_other G dir m x n None g)

    -- the sibling before the new entry
    own : (low : Option Name) → (o : Option ℕ) → IsLow G dir low o → IsAt G dir x low → IsPrev (linked_in dir x n G) dir n o
    own None o l at = subst (IsPrev (linked_in dir x n G) dir n) (sym l) (next_at G dir x n None f at)
    own (Some y) o l at = subst (IsPrev (linked_in dir x n G) dir n) (sym l.2) (y, child_there G dir x y n l.0 f l.1, next_at G dir x n (Some y) f at)

    -- what a sibling says of the next one
    after : (p : Place) (y : Name) → child_in (plains ps) dir y ≡ Some m → p.next ≡ next_child G dir (Some y) → (b : Bool) → is_at prev m ≡ b → cond b (Some n) p.next ≡ next_child (linked_in dir x n G) dir (Some y)
    after p y k old true g =
        let r : (z : Name) × (gap.low ≡ Some z) × (G.child dir z ≡ Some m) = child_low G dir gap.low prev m gap.is_low (at_true prev m g) in
        let low : gap.low ≡ Some y = r.1 ∙ ap (λ (t : Name). Some t) (child_name ps dir y r.0 m k r.2) in
        sym (next_at G dir x n (Some y) f (subst (IsAt G dir x) low gap.at))
    after p y k old false g = old ∙ by (next_by G dir x n (Some y) f)
      where
        by : (next_child (linked_in dir x n G) dir (Some y) ≡ next_child G dir (Some y)) ⊎ IsAt G dir x (Some y) → next_child G dir (Some y) ≡ next_child (linked_in dir x n G) dir (Some y)
        by (inl h) = sym h
        by (inr h) =
            let low : gap.low ≡ Some y = at_one G dir x gap.low (Some y) f member (f.has y ∙ ap is_some k) gap.at h in
            absurd (true_false (sym (at_refl prev m (low_child G dir gap.low y prev m gap.is_low low k)) ∙ g))

    -- the place of the new name is not before a sibling that is not next
    not_here : (low : Option Name) → IsMember G dir low → IsAt G dir x low → next_child G dir low ≡ Some m → is_at next m ≡ false → ⊥
    not_here low in_dir at h g =
        let e : gap.low ≡ low = at_one G dir x gap.low low f member in_dir gap.at at in
        true_false (sym (at_refl next m (gap.next_is ∙ ap (next_child G dir) e ∙ h)) ∙ g)

    -- what a sibling says of the one before it
    before : (o : Option ℕ) → IsPrev G dir m o → (b : Bool) → is_at next m ≡ b → IsPrev (linked_in dir x n G) dir m (cond b (Some n) o)
    before o h true g = (x, child_new G dir x n, next_self G dir x n gap.low f gap.at ∙ sym gap.next_is ∙ at_true next m g)
    before None h false g = by (next_by G dir x n None f)
      where
        by : (next_child (linked_in dir x n G) dir None ≡ next_child G dir None) ⊎ IsAt G dir x None → next_child (linked_in dir x n G) dir None ≡ Some m
        by (inl k) = k ∙ h
        by (inr k) = absurd (not_here None tt k h g)
    before (Some o) h false g = (h.0, child_there G dir x h.0 n o f h.1, by (next_by G dir x n (Some h.0) f))
      where
        by : (next_child (linked_in dir x n G) dir (Some h.0) ≡ next_child G dir (Some h.0)) ⊎ IsAt G dir x (Some h.0) → next_child (linked_in dir x n G) dir (Some h.0) ≡ Some m
        by (inl k) = k ∙ h.2
        by (inr k) = absurd (not_here (Some h.0) (f.has h.0 ∙ ap is_some h.1) k h.2 g)

    -- a place of another directory is not beside the new entry
    not_beside : (link : Link) → link_at (plains ps) m ≡ Some link → eqb link.dir dir ≡ false → (y : Name) → G.child dir y ≡ Some m → ⊥
    not_beside link k h y e =
        let d : dir ≡ link.dir = (one_entry ps m link dir y k e).0 in
        true_false (sym (ap (λ (z : ℕ). eqb z dir) (sym d) ∙ eqb_refl dir) ∙ h)

    far_prev : (link : Link) → link_at (plains ps) m ≡ Some link → eqb link.dir dir ≡ false → is_at prev m ≡ false
    far_prev link k h = eqb_false (is_at prev m) (λ e. far (child_low G dir gap.low prev m gap.is_low (at_true prev m e)))
      where
        far : (y : Name) × (gap.low ≡ Some y) × (G.child dir y ≡ Some m) → ⊥
        far r = not_beside link k h r.0 r.2

    far_next : (link : Link) → link_at (plains ps) m ≡ Some link → eqb link.dir dir ≡ false → is_at next m ≡ false
    far_next link k h = eqb_false (is_at next m) (λ e. far (next_child_name G dir gap.low m (sym gap.next_is ∙ at_true next m e)))
      where
        far : (y : Name) × (find (is_above gap.low) (names_of (G.shape dir)) ≡ Some y) × (G.child dir y ≡ Some m) → ⊥
        far r = not_beside link k h r.0 r.2

    others : (p : Place) → slice_get ps m ≡ Some p → (l : Option Link) → link_of (plain p) ≡ l → IsBeside G m p.next p.prev l → IsBeside (linked_in dir x n G) m (cond (is_at prev m) (Some n) p.next) (cond (is_at next m) (Some n) p.prev) l
    others p e None k b = tt
    others p e (Some link) k b = by (eqb link.dir dir) refl
      where
        here : link_at (plains ps) m ≡ Some link
        here = link_of_place ps m p e ∙ k

        by : (t : Bool) → eqb link.dir dir ≡ t → IsBeside (linked_in dir x n G) m (cond (is_at prev m) (Some n) p.next) (cond (is_at next m) (Some n) p.prev) (Some link)
        by true h =
            let d : link.dir ≡ dir = eqb_true link.dir dir h in
            let child : G.child dir link.name ≡ Some m = ap (λ (z : ℕ). G.child z link.name) (sym d) ∙ places.store.found m link here in
            let old : p.next ≡ next_child G dir (Some link.name) = b.0 ∙ ap (λ (z : ℕ). next_child G z (Some link.name)) d in
            subst (λ (z : ℕ). IsBeside (linked_in dir x n G) m (cond (is_at prev m) (Some n) p.next) (cond (is_at next m) (Some n) p.prev) (Some (record { dir = z; name = link.name }))) (sym d)
            (after p link.name child old (is_at prev m) refl, before p.prev (subst (λ (z : ℕ). IsPrev G z m p.prev) d b.1) (is_at next m) refl)
        by false h =
            let s : is_at prev m ≡ false = far_prev link here h in
            let t : is_at next m ≡ false = far_next link here h in (
              subst (λ (z : Bool). cond z (Some n) p.next ≡ next_child (linked_in dir x n G) link.dir (Some link.name)) (sym s) (b.0 ∙ sym (next_other G dir link.dir x n (Some link.name) h)),
              subst (λ (z : Bool). IsPrev (linked_in dir x n G) link.dir m (cond z (Some n) p.prev)) (sym t) (prev_other G dir link.dir x n m p.prev h b.1),
            )

    beside : (p : Place) → slice_get ps m ≡ Some p → (b : Bool) → eqb m n ≡ b → IsBeside (linked_in dir x n G) m (cond b next (cond (is_at prev m) (Some n) p.next)) (cond b prev (cond (is_at next m) (Some n) p.prev)) (link_of (plain_with p.content (link_with (cond b (Some dir) p.parent) (cond b x p.name))))
    beside p e true g =
        let h : m ≡ n = eqb_true m n g in
        let k : p.content ≡ Some content = used p (ap (slice_get ps) (sym h) ∙ e) in
        subst (λ (c : Option Content). IsBeside (linked_in dir x n G) m next prev (link_of (plain_with c (Some (record { dir = dir; name = x }))))) (sym k)
        (gap.next_is ∙ sym (next_self G dir x n gap.low f gap.at), subst (λ (z : ℕ). IsPrev (linked_in dir x n G) dir z prev) (sym h) (own gap.low prev gap.is_low gap.at))
    beside p e false g = others p e (link_of (plain p)) refl (places.each m p e).beside

-- a list whose nodes are those of another one
pub same_plain : (ps qs : List Place) (n : ℕ) (p : Place) → plains qs ≡ plains ps → slice_get ps n ≡ Some p → (q : Place) × (slice_get qs n ≡ Some q) × (plain q ≡ plain p)
same_plain ps qs n p e f = go (slice_get qs n) refl (sym (slice_get-map plain qs n) ∙ ap (λ (l : List (Option Node)). slice_get l n) e ∙ slice_get-map plain ps n ∙ ap (option_map plain) f)
  where
    go : (o : Option Place) → slice_get qs n ≡ o → option_map plain o ≡ Some (plain p) → (q : Place) × (slice_get qs n ≡ Some q) × (plain q ≡ plain p)
    go None g h = absurd (cc)
    go (Some q) g h = let k : plain q ≡ plain p = cc in (q, g, k)

-- the nodes after a change of ways
pub plains_led : (dir : ℕ) (prev to : Option ℕ) (ps : List Place) → plains (led dir prev to ps) ≡ plains ps
plains_led dir None to ps = plains_edited dir (with_first to) ps (λ p. refl)
plains_led dir (Some k) to ps = plains_edited k (with_next to) ps (λ p. refl)

pub plains_followed : (next to : Option ℕ) (ps : List Place) → plains (followed next to ps) ≡ plains ps
plains_followed None to ps = refl
plains_followed (Some k) to ps = plains_edited k (with_prev to) ps (λ p. refl)

-- a place with another entry is a node with it
pub plain_relinked : (c : Option Content) (l k : Option Link) → plain_with c k ≡ relinked (plain_with c l) k
plain_relinked None l k = refl
plain_relinked (Some c) l k = refl

-- the nodes where one came between two siblings
pub plains_put : (dir n : ℕ) (x : Name) (prev next : Option ℕ) (ps : List Place) (p : Place) → slice_get ps n ≡ Some p → plains (put_between dir n x prev next ps) ≡ set (plains ps) n (relinked (plain p) (Some (record { dir = dir; name = x })))
plains_put dir n x prev next ps p e =
    let link : Option Link = Some (record { dir = dir; name = x }) in
    let one : List Place = edited dir (λ p. with_entries (p.entries + 1) p) ps in
    let two : List Place = led dir prev (Some n) one in
    let three : List Place = followed next (Some n) two in
    let same : plains three ≡ plains ps = plains_followed next (Some n) two ∙ plains_led dir prev (Some n) one ∙ plains_edited dir (λ p. with_entries (p.entries + 1) p) ps (λ p. refl) in
    let r : (q : Place) × (slice_get three n ≡ Some q) × (plain q ≡ plain p) = same_plain ps three n p same e in
    plains_set n (entered (Some dir) x prev next) three r.0 r.1
    ∙ ap₂ (λ (l : List (Option Node)) (q : Option Node). set l n q) same (plain_relinked r.0.content (link_with r.0.parent r.0.name) link ∙ ap (λ (q : Option Node). relinked q link) r.2)

-- a number in use has a node
pub used_content : (ps : List Place) (n : ℕ) (p : Place) → slice_get ps n ≡ Some p → IsTrue (is_there ((graph_of_places ps).shape n)) → (content : Content) × (p.content ≡ Some content)
used_content ps n p e h = go p.content (subst (λ (o : Option (Option Node)). IsTrue (is_there (option_map (shape_with (names_in (plains ps) n)) (then_at o content_of)))) (slice_get-map plain ps n ∙ ap (option_map plain) e) h)
  where
    go : (c : Option Content) → IsTrue (is_there (option_map (shape_with (names_in (plains ps) n)) (content_of (plain_with c (link_with p.parent p.name))))) → (content : Content) × (c ≡ Some content)
    go None k = absurd (cc)
    go (Some content) k = (content, refl)

-- a node comes between two siblings: the graph that this makes, and that the places stay those of a store
pub put_makes : (ps : List Place) (dir n : ℕ) (x : Name) (prev next : Option ℕ) (p : Place) → IsPlaces ps → slice_get ps n ≡ Some p → IsTrue (is_dir ((graph_of_places ps).shape dir)) → (graph_of_places ps).child dir x ≡ None → IsTrue (is_there ((graph_of_places ps).shape n)) → IsUnlinked (graph_of_places ps).child n → (n ≡ 0 → ⊥) → (IsReached (graph_of_places ps).child n dir → ⊥) → IsGap (graph_of_places ps) dir x prev next
    → (graph_of_places (put_between dir n x prev next ps) ≡ linked_in dir x n (graph_of_places ps)) × IsPlaces (put_between dir n x prev next ps)
put_makes ps dir n x prev next p places e is_dir free used unlinked other apart gap =
    let q : Option Node = relinked (plain p) (Some (record { dir = dir; name = x })) in
    let at : slice_get (plains ps) n ≡ Some (plain p) = slice_get-map plain ps n ∙ ap (option_map plain) e in
    let made : Makes NODE_LIMIT (set (plains ps) n q) (linked_in dir x n (graph_of_places ps)) = link_makes NODE_LIMIT (plains ps) n dir x (plain p) q places.store at is_dir free used unlinked other apart refl in
    let here : set (plains ps) n q ≡ plains (put_between dir n x prev next ps) = sym (plains_put dir n x prev next ps p e) in
    let graph : graph_of_places (put_between dir n x prev next ps) ≡ linked_in dir x n (graph_of_places ps) = subst (λ (l : List (Option Node)). graph_in l ≡ linked_in dir x n (graph_of_places ps)) here made.0 in
    let content : (c : Content) × (p.content ≡ Some c) = used_content ps n p e used in (
      graph,
      record {
        store = subst (IsStore NODE_LIMIT) here made.1;
        each = λ m r g. subst (λ (z : Graph). IsIndexed z m r) (sym graph) (put_indexed ps dir n x prev next content.0 m r places free gap (λ s h. (let k : s ≡ p = only_some (sym h ∙ e) in ap (λ (z : Place). z.content) k ∙ content.1)) g);
      },
    )
  where
    only_some : {a b : Place} → Some a ≡ Some b → a ≡ b
    only_some {a} {b} h = cc
