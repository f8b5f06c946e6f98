-- What a place says after a node has left its place between two siblings.
use Rattle.std.proofs.Common.{◌≡◌, ℕ, ◌+◌, ◌-◌, Bool, true, false, cond, eqb, ◌&&◌, List, Option, Some, None, IfSome, ◌⊎◌, inl, inr, is_none, is_some, option_map, set, length, refl, sym, ap, ap₂, subst, ◌∙◌, arith}
use Rattle.std.specs.Prelude.{slice_get}
use Rattle.std.specs.List.{find}
use Rattle.std.proofs.lemmas.Option.{slice_get-map}
use Rattle.fs_names.specs.Names.{Name, same_name, has_name, inserted_name}
use Rattle.fs_names.specs.Shapes.{Dir, names_of}
use Rattle.fs_names.specs.declared.limits.TheConstants.{NODE_LIMIT}
use Rattle.fs_names.proofs.Lemmas.{same_name_exact, same_name_refl}
use Rattle.fs_nodes_places.specs.declared.node.Content.{Content}
use Rattle.fs_nodes_places.specs.declared.node.Link.{Link}
use Rattle.fs_nodes_places.specs.declared.node.Node.{Node}
use Rattle.fs_nodes_places.specs.declared.place.Place.{Place}
use Rattle.fs_calls.specs.Graphs.{Graph, linked_in, unlinked_in}
use Rattle.fs_nodes_places.specs.Stores.{link_of, link_at, graph_in, is_above, IsStore}
use Rattle.fs_nodes_places.specs.code.PlainEdits.{relinked}
use Rattle.fs_nodes_places.proofs.PlainEditLemmas.{Makes, unlink_makes, names_shape, found_link, link_content, relinked_content, at_of}
use Rattle.fs_nodes_places.proofs.GraphLemmas.{unlinked_back}
use Rattle.fs_nodes_places.specs.Plains.{link_with, plain_with, plain, plains}
use Rattle.fs_nodes_places.specs.code.Edits.{edited}
use Rattle.fs_nodes.specs.code.Linked.{graph_of_places, next_child, IsPrev, IsLow, IsAt, IsGap, IsBeside, IsIndexed, IsPlaces, with_entries, entered, led, followed, taken_out}
use Rattle.fs_calls.proofs.EqualLemmas.{eqb_true, eqb_refl}
use Rattle.fs_nodes_places.proofs.PlaceLemmas.{child_link, names_child}
use Rattle.fs_nodes.proofs.StepLemmas.{link_of_place, next_child_name}
use Rattle.fs_nodes.proofs.GapLemmas.{IsFree, IsMember, count_linked, child_new, child_old, child_there, next_other, next_at, next_by, next_self, at_one, low_member}
use Rattle.fs_nodes_places.specs.Seen.{Ascends}
use Rattle.fs_nodes_places.proofs.AscentLemmas.{names_ascend, not_itself}
use Rattle.fs_nodes_places.proofs.EditLemmas.{get_edited, plains_edited, plains_set}
use Rattle.fs_nodes.proofs.LinkLemmas.{is_at, get_led, get_followed, plains_led, plains_followed, same_plain, plain_relinked, one_entry, child_name, low_child, child_low, at_true, at_refl, true_false, eqb_false}

-- each place, where a node left its place between two siblings
abbrev pub take_place : ℕ → ℕ → Name → Option ℕ → Option ℕ → ℕ → Place → Place
take_place dir n blank prev next m p = record {
  content = p.content;
  name = cond (eqb m n) blank p.name;
  parent = cond (eqb m n) None p.parent;
  first = cond (eqb m dir && is_none prev) next p.first;
  next = cond (eqb m n) None (cond (is_at prev m) next p.next);
  prev = cond (eqb m n) None (cond (is_at next m) prev p.prev);
  entries = cond (eqb m dir) (p.entries - 1) p.entries;
  root = p.root;
  left = p.left;
  right = p.right;
}

-- the four edits, read at one number
pub get_taken : (dir n : ℕ) (blank : Name) (prev next : Option ℕ) (ps : List Place) (m : ℕ) → slice_get (taken_out dir n blank prev next ps) m ≡ option_map (take_place dir n blank prev next m) (slice_get ps m)
get_taken dir n blank prev next ps m =
    let count : Place → Place = λ p. with_entries (p.entries - 1) p in
    let out : Place → Place = entered None blank None None in
    let one : List Place = edited dir count ps in
    let two : List Place = led dir prev next one in
    let three : List Place = followed next prev two in
    get_edited n out three m
    ∙ ap (option_map (λ p. cond (eqb m n) (out p) p)) (get_followed next prev two m ∙ ap (option_map {T = Place} {U = Place} (λ p. record p { prev = cond (is_at next m) prev p.prev })) (get_led dir prev next one m ∙ ap (option_map {T = Place} {U = Place} (λ p. record p { first = cond (eqb m dir && is_none prev) next p.first; next = cond (is_at prev m) next p.next })) (get_edited dir count ps m)))
    ∙ go (eqb m n) (eqb m dir) (slice_get ps m)
  where
    go : (b t : Bool) (o : Option Place) → option_map (λ p. cond b (entered None blank None None p) p) (option_map {T = Place} {U = Place} (λ p. record p { prev = cond (is_at next m) prev p.prev }) (option_map {T = Place} {U = Place} (λ p. record p { first = cond (t && is_none prev) next p.first; next = cond (is_at prev m) next p.next }) (option_map (λ p. cond t (with_entries (p.entries - 1) p) p) o)))
        ≡ option_map {T = Place} {U = Place} (λ p. record { content = p.content; name = cond b blank p.name; parent = cond b None p.parent; first = cond (t && is_none prev) next p.first; next = cond b None (cond (is_at prev m) next p.next); prev = cond b None (cond (is_at next m) prev p.prev); entries = cond t (p.entries - 1) p.entries; root = p.root; left = p.left; right = p.right }) o
    go b t None = refl
    go true true (Some p) = refl
    go true false (Some p) = refl
    go false true (Some p) = refl
    go false false (Some p) = refl

-- the three edits of ways change no name
pub name_before : (dir m : ℕ) (prev next : Option ℕ) (ps : List Place) (label : Name) → IfSome (slice_get (followed next prev (led dir prev next (edited dir (λ p. with_entries (p.entries - 1) p) ps))) m) (λ p. label ≡ p.name) → IfSome (slice_get ps m) (λ p. label ≡ p.name)
name_before dir m prev next ps label told =
    let one : List Place = edited dir (λ p. with_entries (p.entries - 1) p) ps in
    let two : List Place = led dir prev next one in
    go (slice_get ps m) (eqb m dir) (subst (λ (o : Option Place). IfSome o (λ p. label ≡ p.name)) (get_followed next prev two m ∙ ap (option_map {T = Place} {U = Place} (λ p. record p { prev = cond (is_at next m) prev p.prev })) (get_led dir prev next one m ∙ ap (option_map {T = Place} {U = Place} (λ p. record p { first = cond (eqb m dir && is_none prev) next p.first; next = cond (is_at prev m) next p.next })) (get_edited dir (λ p. with_entries (p.entries - 1) p) ps m))) told)
  where
    go : (o : Option Place) (t : Bool) → IfSome (option_map {T = Place} {U = Place} (λ p. record p { prev = cond (is_at next m) prev p.prev }) (option_map {T = Place} {U = Place} (λ p. record p { first = cond (eqb m dir && is_none prev) next p.first; next = cond (is_at prev m) next p.next }) (option_map (λ p. cond t (with_entries (p.entries - 1) p) p) o))) (λ p. label ≡ p.name) → IfSome o (λ p. label ≡ p.name)
    go None t h = tt
    go (Some p) true h = h
    go (Some p) false h = h

-- what a number's place was before
place_before : (dir n : ℕ) (blank : Name) (prev next : Option ℕ) (ps : List Place) (m : ℕ) (q : Place) → slice_get (taken_out dir n blank prev next ps) m ≡ Some q → (p : Place) × (slice_get ps m ≡ Some p) × (q ≡ take_place dir n blank prev next m p)
place_before dir n blank prev next ps m q e = go (slice_get ps m) refl (sym (get_taken dir n blank prev next ps m) ∙ e)
  where
    go : (o : Option Place) → slice_get ps m ≡ o → option_map (take_place dir n blank prev next m) o ≡ Some q → (p : Place) × (slice_get ps m ≡ Some p) × (q ≡ take_place dir n blank prev next m p)
    go None f g = absurd (cc)
    go (Some p) f g = let h : take_place dir n blank prev next m p ≡ q = cc in (p, f, sym h)

-- another directory's siblings were as they are now
prev_back : (graph : Graph) (dir d : ℕ) (x : Name) (n m : ℕ) (o : Option ℕ) → eqb d dir ≡ false → IsPrev (linked_in dir x n graph) d m o → IsPrev graph d m o
prev_back graph dir d x n m None e h = sym (next_other graph dir d x n None e) ∙ h
prev_back graph dir d x n m (Some k) e h = (h.0, sym (ap (λ (b : Bool). cond (b && same_name h.0 x) (Some n) (graph.child d h.0)) e) ∙ h.1, sym (next_other graph dir d x n (Some h.0) e) ∙ h.2)

-- the gap that a node leaves
pub gap_left : (ps : List Place) (S : Graph) (dir : ℕ) (x : Name) (n : ℕ) (p : Place) → IsPlaces ps → graph_of_places ps ≡ linked_in dir x n S → IsFree S dir x → slice_get ps n ≡ Some p → (graph_of_places ps).child dir x ≡ Some n → IsGap S dir x p.prev p.next
gap_left ps S dir x n p places back f e k = go p.prev refl b.1
  where
    L : Graph
    L = linked_in dir x n S

    l : link_of (plain p) ≡ Some (record { dir = dir; name = x })
    l = sym (link_of_place ps n p e) ∙ child_link (plains ps) dir x n k

    b : IsBeside (linked_in dir x n S) n p.next p.prev (Some (record { dir = dir; name = x }))
    b = subst (λ (g : Graph). IsBeside g n p.next p.prev (Some (record { dir = dir; name = x }))) back (subst (IsBeside (graph_of_places ps) n p.next p.prev) l (places.each n p e).beside)

    -- what leads to the node is its own name
    only : (low : Option Name) → next_child S dir low ≡ Some n → ⊥
    only low h =
        let r : (y : Name) × (find (is_above low) (names_of (S.shape dir)) ≡ Some y) × (S.child dir y ≡ Some n) = next_child_name S dir low n h in
        let g : (graph_of_places ps).child dir r.0 ≡ Some n = ap (λ (z : Graph). z.child dir r.0) back ∙ child_there S dir x r.0 n n f r.2 in
        let y : r.0 ≡ x = child_name ps dir x r.0 n k g in
        let w : ◌≡◌ {A = Option ℕ} None (Some n) = sym f.free ∙ ap (S.child dir) (sym y) ∙ r.2 in cc

    at : (low : Option Name) → next_child (linked_in dir x n S) dir low ≡ Some n → IsAt S dir x low
    at low h = by (next_by S dir x n low f)
      where
        by : (next_child (linked_in dir x n S) dir low ≡ next_child S dir low) ⊎ IsAt S dir x low → IsAt S dir x low
        by (inl g) = absurd (only low (sym g ∙ h))
        by (inr g) = g

    go : (o : Option ℕ) → p.prev ≡ o → IsPrev (linked_in dir x n S) dir n p.prev → IsGap S dir x p.prev p.next
    go None g h =
        let i : next_child (linked_in dir x n S) dir None ≡ Some n = subst (IsPrev (linked_in dir x n S) dir n) g h in
        record {
          low = None;
          is_low = g;
          at = at None i;
          next_is = b.0 ∙ next_self S dir x n None f (at None i);
        }
    go (Some m) g h =
        let i : (name : Name) × ((linked_in dir x n S).child dir name ≡ Some m) × (next_child (linked_in dir x n S) dir (Some name) ≡ Some n) = subst (IsPrev (linked_in dir x n S) dir n) g h in
        let a : IsAt S dir x (Some i.0) = at (Some i.0) i.2 in
        let d : same_name i.0 x ≡ false = eqb_false (same_name i.0 x) (λ t. true_false (sym a.0 ∙ ap (λ (z : Name). is_above (Some z) x) (same_name_exact i.0 x t) ∙ not_itself x)) in
        record {
          low = Some i.0;
          is_low = (m, sym (child_old S dir x i.0 n d) ∙ i.1, g);
          at = a;
          next_is = b.0 ∙ next_self S dir x n (Some i.0) f a;
        }

-- the ways of the places where a node left its place
pub take_indexed : (ps : List Place) (S : Graph) (dir n : ℕ) (x blank : Name) (prev next : Option ℕ) (m : ℕ) (q : Place) → IsPlaces ps → graph_of_places ps ≡ linked_in dir x n S → IsFree S dir x → IsGap S dir x prev next → (graph_of_places ps).child dir x ≡ Some n
    → slice_get (taken_out dir n blank prev next ps) m ≡ Some q → IsIndexed S m q
take_indexed ps S dir n x blank prev next m q places back f gap child there =
    let r : (p : Place) × (slice_get ps m ≡ Some p) × (q ≡ take_place dir n blank prev next m p) = place_before dir n blank prev next ps m q there in
    subst (IsIndexed S m) (sym r.2) (record {
      entries = entries r.0 r.1 (eqb m dir) refl;
      first = first r.0 r.1 (eqb m dir) refl;
      beside = beside r.0 r.1 (eqb m n) refl;
    })
  where
    was : (p : Place) → slice_get ps m ≡ Some p → IsIndexed (linked_in dir x n S) m p
    was p e = subst (λ (g : Graph). IsIndexed g m p) back (places.each m p e)

    member : IsMember S dir gap.low
    member = low_member S dir x gap.low prev f gap.is_low

    entries : (p : Place) → slice_get ps m ≡ Some p → (b : Bool) → eqb m dir ≡ b → cond b (p.entries - 1) p.entries ≡ length (names_of (S.shape m))
    entries p e true g =
        let h : m ≡ dir = eqb_true m dir g in
        let k : p.entries ≡ length (names_of (S.shape dir)) + 1 = (was p e).entries ∙ ap (λ (z : ℕ). length (names_of ((linked_in dir x n S).shape z))) h ∙ count_linked S dir x n f in
        let i : length (names_of (S.shape m)) ≡ length (names_of (S.shape dir)) = ap (λ (z : ℕ). length (names_of (S.shape z))) h in
        omega arith
    entries p e false g = (was p e).entries ∙ ap (λ (t : Bool). length (names_of (cond t (Some (Dir (inserted_name x (names_of (S.shape dir))))) (S.shape m)))) g

    lead : (p : Place) → slice_get ps m ≡ Some p → m ≡ dir → (low : Option Name) → gap.low ≡ low → IsLow S dir low prev → IsAt S dir x low → cond (is_none prev) next p.first ≡ next_child S dir None
    lead p e h None g l at = ap (λ (o : Option ℕ). cond (is_none o) next p.first) l ∙ gap.next_is ∙ ap (next_child S dir) g
    lead p e h (Some y) g l at = ap (λ (o : Option ℕ). cond (is_none o) next p.first) l.2 ∙ (was p e).first ∙ ap (λ (z : ℕ). next_child (linked_in dir x n S) z None) h ∙ by (next_by S dir x n None f)
      where
        by : (next_child (linked_in dir x n S) dir None ≡ next_child S dir None) ⊎ IsAt S dir x None → next_child (linked_in dir x n S) dir None ≡ next_child S dir None
        by (inl k) = k
        by (inr k) = let w : ◌≡◌ {A = Option Name} None (Some y) = at_one S dir x None (Some y) f tt (low_member S dir x (Some y) prev f l) k at in absurd (cc)

    first : (p : Place) → slice_get ps m ≡ Some p → (b : Bool) → eqb m dir ≡ b → cond (b && is_none prev) next p.first ≡ next_child S m None
    first p e true g = let h : m ≡ dir = eqb_true m dir g in lead p e h gap.low refl gap.is_low gap.at ∙ ap (λ (z : ℕ). next_child S z None) (sym h)
    first p e false g = (was p e).first ∙ next_other S dir m x n None g

    -- a sibling's name is not the one that goes
    not_gone : (y : Name) → eqb m n ≡ false → (linked_in dir x n S).child dir y ≡ Some m → same_name y x ≡ false
    not_gone y d k = eqb_false (same_name y x) (λ t.
        let w : Some n ≡ Some m = sym (child_new S dir x n) ∙ ap ((linked_in dir x n S).child dir) (sym (same_name_exact y x t)) ∙ k in
        let v : n ≡ m = cc in
        true_false (sym (eqb_refl n) ∙ ap (λ (z : ℕ). eqb z n) v ∙ d))

    here : (y : Name) → eqb m n ≡ false → (linked_in dir x n S).child dir y ≡ Some m → S.child dir y ≡ Some m
    here y d k = sym (child_old S dir x y n (not_gone y d k)) ∙ k

    -- what a sibling says of the next one
    after : (p : Place) (y : Name) → S.child dir y ≡ Some m → p.next ≡ next_child (linked_in dir x n S) dir (Some y) → (b : Bool) → is_at prev m ≡ b → cond b next p.next ≡ next_child S dir (Some y)
    after p y k old true g =
        let r : (z : Name) × (gap.low ≡ Some z) × (S.child dir z ≡ Some m) = child_low S dir gap.low prev m gap.is_low (at_true prev m g) in
        let s : (graph_of_places ps).child dir r.0 ≡ Some m = ap (λ (z : Graph). z.child dir r.0) back ∙ child_there S dir x r.0 n m f r.2 in
        let t : (graph_of_places ps).child dir y ≡ Some m = ap (λ (z : Graph). z.child dir y) back ∙ child_there S dir x y n m f k in
        gap.next_is ∙ ap (next_child S dir) (r.1 ∙ ap (λ (w : Name). Some w) (child_name ps dir y r.0 m t s))
    after p y k old false g = old ∙ by (next_by S dir x n (Some y) f)
      where
        by : (next_child (linked_in dir x n S) dir (Some y) ≡ next_child S dir (Some y)) ⊎ IsAt S dir x (Some y) → next_child (linked_in dir x n S) dir (Some y) ≡ next_child S dir (Some y)
        by (inl h) = h
        by (inr h) =
            let low : gap.low ≡ Some y = at_one S dir x gap.low (Some y) f member (f.has y ∙ ap is_some k) gap.at h in
            absurd (true_false (sym (at_refl prev m (low_child S dir gap.low y prev m gap.is_low low k)) ∙ g))

    -- what leads to the node that goes leads to no other one
    not_node : (low : Option Name) → eqb m n ≡ false → next_child (linked_in dir x n S) dir low ≡ Some m → IsAt S dir x low → ⊥
    not_node low d h a =
        let w : Some m ≡ Some n = sym h ∙ next_at S dir x n low f a in
        let v : n ≡ m = cc in
        true_false (sym (eqb_refl n) ∙ ap (λ (z : ℕ). eqb z n) v ∙ d)

    -- the sibling before, from the gap
    from_gap : (low : Option Name) → gap.low ≡ low → IsLow S dir low prev → next ≡ Some m → IsPrev S dir m prev
    from_gap None g l h = subst (IsPrev S dir m) (sym l) (ap (next_child S dir) (sym g) ∙ sym gap.next_is ∙ h)
    from_gap (Some y) g l h = subst (IsPrev S dir m) (sym l.2) (y, l.1, ap (next_child S dir) (sym g) ∙ sym gap.next_is ∙ h)

    -- what a sibling says of the one before it
    before : (o : Option ℕ) → eqb m n ≡ false → IsPrev (linked_in dir x n S) dir m o → (b : Bool) → is_at next m ≡ b → IsPrev S dir m (cond b prev o)
    before o d h true g = from_gap gap.low refl gap.is_low (at_true next m g)
    before None d h false g = by (next_by S dir x n None f)
      where
        by : (next_child (linked_in dir x n S) dir None ≡ next_child S dir None) ⊎ IsAt S dir x None → next_child S dir None ≡ Some m
        by (inl k) = sym k ∙ h
        by (inr k) = absurd (not_node None d h k)
    before (Some o) d h false g = (h.0, sym (child_old S dir x h.0 n other) ∙ h.1, by (next_by S dir x n (Some h.0) f))
      where
        other : same_name h.0 x ≡ false
        other = eqb_false (same_name h.0 x) (λ t.
            let w : next ≡ Some m = gap.next_is ∙ sym (next_self S dir x n gap.low f gap.at) ∙ ap (λ (z : Name). next_child (linked_in dir x n S) dir (Some z)) (sym (same_name_exact h.0 x t)) ∙ h.2 in
            true_false (sym (at_refl next m w) ∙ g))

        by : (next_child (linked_in dir x n S) dir (Some h.0) ≡ next_child S dir (Some h.0)) ⊎ IsAt S dir x (Some h.0) → next_child S dir (Some h.0) ≡ Some m
        by (inl k) = sym k ∙ h.2
        by (inr k) = absurd (not_node (Some h.0) d h.2 k)

    -- a place of another directory is not beside the entry that goes
    not_beside : (link : Link) → link_at (plains ps) m ≡ Some link → eqb link.dir dir ≡ false → (y : Name) → S.child dir y ≡ Some m → ⊥
    not_beside link k h y e =
        let s : (graph_of_places ps).child dir y ≡ Some m = ap (λ (z : Graph). z.child dir y) back ∙ child_there S dir x y n m f e in
        let d : dir ≡ link.dir = (one_entry ps m link dir y k s).0 in
        true_false (sym (ap (λ (z : ℕ). eqb z dir) (sym d) ∙ eqb_refl dir) ∙ h)

    far_prev : (link : Link) → link_at (plains ps) m ≡ Some link → eqb link.dir dir ≡ false → is_at prev m ≡ false
    far_prev link k h = eqb_false (is_at prev m) (λ e. far (child_low S dir gap.low prev m gap.is_low (at_true prev m e)))
      where
        far : (y : Name) × (gap.low ≡ Some y) × (S.child dir y ≡ Some m) → ⊥
        far r = not_beside link k h r.0 r.2

    far_next : (link : Link) → link_at (plains ps) m ≡ Some link → eqb link.dir dir ≡ false → is_at next m ≡ false
    far_next link k h = eqb_false (is_at next m) (λ e. far (next_child_name S dir gap.low m (sym gap.next_is ∙ at_true next m e)))
      where
        far : (y : Name) × (find (is_above gap.low) (names_of (S.shape dir)) ≡ Some y) × (S.child dir y ≡ Some m) → ⊥
        far r = not_beside link k h r.0 r.2

    others : (p : Place) → slice_get ps m ≡ Some p → eqb m n ≡ false → (l : Option Link) → link_of (plain p) ≡ l → IsBeside (linked_in dir x n S) m p.next p.prev l → IsBeside S m (cond (is_at prev m) next p.next) (cond (is_at next m) prev p.prev) l
    others p e d None k b = tt
    others p e d (Some link) k b = by (eqb link.dir dir) refl
      where
        there_link : link_at (plains ps) m ≡ Some link
        there_link = link_of_place ps m p e ∙ k

        by : (t : Bool) → eqb link.dir dir ≡ t → IsBeside S m (cond (is_at prev m) next p.next) (cond (is_at next m) prev p.prev) (Some link)
        by true h =
            let i : link.dir ≡ dir = eqb_true link.dir dir h in
            let in_ps : (graph_of_places ps).child dir link.name ≡ Some m = ap (λ (z : ℕ). (graph_of_places ps).child z link.name) (sym i) ∙ places.store.found m link there_link in
            let in_s : S.child dir link.name ≡ Some m = here link.name d (sym (ap (λ (z : Graph). z.child dir link.name) back) ∙ in_ps) in
            let old : p.next ≡ next_child (linked_in dir x n S) dir (Some link.name) = b.0 ∙ ap (λ (z : ℕ). next_child (linked_in dir x n S) z (Some link.name)) i in
            subst (λ (z : ℕ). IsBeside S m (cond (is_at prev m) next p.next) (cond (is_at next m) prev p.prev) (Some (record { dir = z; name = link.name }))) (sym i)
            (after p link.name in_s old (is_at prev m) refl, before p.prev d (subst (λ (z : ℕ). IsPrev (linked_in dir x n S) z m p.prev) i b.1) (is_at next m) refl)
        by false h =
            let s : is_at prev m ≡ false = far_prev link there_link h in
            let t : is_at next m ≡ false = far_next link there_link h in (
              subst (λ (z : Bool). cond z next p.next ≡ next_child S link.dir (Some link.name)) (sym s) (b.0 ∙ next_other S dir link.dir x n (Some link.name) h),
              subst (λ (z : Bool). IsPrev S link.dir m (cond z prev p.prev)) (sym t) (prev_back S dir link.dir x n m p.prev h b.1),
            )

    no_link : (c : Option Content) (name : Name) (o r : Option ℕ) → IsBeside S m o r (link_of (plain_with c (link_with None name)))
    no_link None name o r = tt
    no_link (Some c) name o r = tt

    beside : (p : Place) → slice_get ps m ≡ Some p → (b : Bool) → eqb m n ≡ b → IsBeside S m (cond b None (cond (is_at prev m) next p.next)) (cond b None (cond (is_at next m) prev p.prev)) (link_of (plain_with p.content (link_with (cond b None p.parent) (cond b blank p.name))))
    beside p e true g = no_link p.content blank None None
    beside p e false g = others p e g (link_of (plain p)) refl (was p e).beside

-- the nodes where one left its place
pub plains_taken : (dir n : ℕ) (blank : Name) (prev next : Option ℕ) (ps : List Place) (p : Place) → slice_get ps n ≡ Some p → plains (taken_out dir n blank prev next ps) ≡ set (plains ps) n (relinked (plain p) None)
plains_taken dir n blank prev next ps p e =
    let one : List Place = edited dir (λ p. with_entries (p.entries - 1) p) ps in
    let two : List Place = led dir prev next one in
    let three : List Place = followed next prev two in
    let same : plains three ≡ plains ps = plains_followed next prev two ∙ plains_led dir prev next one ∙ plains_edited dir (λ p. with_entries (p.entries - 1) p) ps (λ p. refl) in
    let r : (q : Place) × (slice_get three n ≡ Some q) × (plain q ≡ plain p) = same_plain ps three n p same e in
    plains_set n (entered None blank None None) three r.0 r.1
    ∙ ap₂ (λ (l : List (Option Node)) (q : Option Node). set l n q) same (plain_relinked r.0.content (link_with r.0.parent r.0.name) None ∙ ap (λ (q : Option Node). relinked q None) r.2)

-- a node leaves its place: the graph that this makes, and that the places stay those of a store
pub take_makes : (ps : List Place) (dir n : ℕ) (x blank : Name) (p : Place) → IsPlaces ps → slice_get ps n ≡ Some p → (graph_of_places ps).child dir x ≡ Some n
    → (graph_of_places (taken_out dir n blank p.prev p.next ps) ≡ unlinked_in dir x (graph_of_places ps)) × IsPlaces (taken_out dir n blank p.prev p.next ps) × IsGap (graph_of_places (taken_out dir n blank p.prev p.next ps)) dir x p.prev p.next
take_makes ps dir n x blank p places e k = (
  graph,
  record {
    store = subst (IsStore NODE_LIMIT) whole made.1;
    each = λ m r g. take_indexed ps S dir n x blank p.prev p.next m r places back free gap k g;
  },
  gap,
)
  where
    link : Link
    link = record { dir = dir; name = x }

    q : Option Node
    q = relinked (plain p) None

    at : slice_get (plains ps) n ≡ Some (plain p)
    at = slice_get-map plain ps n ∙ ap (option_map plain) e

    made : Makes NODE_LIMIT (set (plains ps) n (relinked (plain p) None)) (unlinked_in dir x (graph_of_places ps))
    made = unlink_makes NODE_LIMIT (plains ps) n dir x (plain p) (relinked (plain p) None) places.store at k refl

    whole : set (plains ps) n (relinked (plain p) None) ≡ plains (taken_out dir n blank p.prev p.next ps)
    whole = sym (plains_taken dir n blank p.prev p.next ps p e)

    S : Graph
    S = graph_of_places (taken_out dir n blank p.prev p.next ps)

    graph : graph_of_places (taken_out dir n blank p.prev p.next ps) ≡ unlinked_in dir x (graph_of_places ps)
    graph = subst (λ (l : List (Option Node)). graph_in l ≡ unlinked_in dir x (graph_of_places ps)) whole made.0

    old : link_of (plain p) ≡ Some (record { dir = dir; name = x })
    old = found_link (plains ps) n dir x (plain p) at k

    back : graph_of_places ps ≡ linked_in dir x n (graph_of_places (taken_out dir n blank p.prev p.next ps))
    back = unlinked_back (plains ps) n (plain p) (relinked (plain p) None) (record { dir = dir; name = x }) places.store.found at old (link_content (plain p) (record { dir = dir; name = x }) None old) (relinked_content (plain p) None) (places.store.of_dir n (record { dir = dir; name = x }) (at_of (plains ps) n (plain p) at ∙ old))
        ∙ ap (λ (l : List (Option Node)). linked_in dir x n (graph_in l)) whole

    free : IsFree (graph_of_places (taken_out dir n blank p.prev p.next ps)) dir x
    free = record {
      ascends = subst (Ascends None) (sym (names_shape NODE_LIMIT (plains (taken_out dir n blank p.prev p.next ps)) dir (subst (IsStore NODE_LIMIT) whole made.1))) (names_ascend (plains (taken_out dir n blank p.prev p.next ps)) dir);
      has = λ y. ap (has_name y) (names_shape NODE_LIMIT (plains (taken_out dir n blank p.prev p.next ps)) dir (subst (IsStore NODE_LIMIT) whole made.1)) ∙ names_child (plains (taken_out dir n blank p.prev p.next ps)) dir y;
      free = ap (λ (g : Graph). g.child dir x) graph ∙ ap₂ (λ (a b : Bool). cond (a && b) None ((graph_of_places ps).child dir x)) (eqb_refl dir) (same_name_refl x);
    }

    gap : IsGap (graph_of_places (taken_out dir n blank p.prev p.next ps)) dir x p.prev p.next
    gap = gap_left ps (graph_of_places (taken_out dir n blank p.prev p.next ps)) dir x n p places back free e k
