-- Looking along the siblings of a directory.
use Rattle.std.proofs.Common.{◌≡◌, ℕ, zero, suc, ◌<◌, ◌≤◌, Bool, true, false, cond, List, [], ◌∷◌, Option, Some, None, ◌⊎◌, inl, inr, is_some, option_map, length, get_or, refl, sym, ap, subst, ◌∙◌, arith}
use Rattle.std.specs.Prelude.{slice_get}
use Rattle.std.specs.List.{find}
use Rattle.std.specs.Ordering.{is_lt, is_gt}
use Rattle.std.specs.declared.cmp.Ordering.TheVariants.{Less, Equal, Greater}
use Rattle.std.proofs.lemmas.Cmp.{tied_itself}
use Rattle.fs_names.proofs.Lemmas.{name_total, name_exact}
use Rattle.std.proofs.lemmas.Option.{slice_get-map, slice_get_read}
use Rattle.std.proofs.lemmas.List.{length-map}
use Rattle.fs_names.specs.Names.{Name, name_cmp, has_name}
use Rattle.fs_names.specs.Shapes.{Shape, names_of}
use Rattle.fs_names.specs.declared.limits.TheConstants.{NODE_LIMIT}
use Rattle.fs_nodes_places.specs.declared.node.Content.{Content}
use Rattle.fs_nodes_places.specs.declared.node.Link.{Link}
use Rattle.fs_nodes_places.specs.declared.node.Node.{Node}
use Rattle.fs_nodes_places.specs.declared.place.Place.{Place}
use Rattle.fs_calls.specs.Graphs.{Graph, then_at}
use Rattle.fs_nodes_places.specs.Stores.{link_of, link_at, child_in, names_in, shape_in, is_above, names_above, next_entry, with_child, IsNextName}
use Rattle.fs_nodes_places.specs.Plains.{link_with, plain_with, plain, plains}
use Rattle.fs_nodes.specs.code.Linked.{graph_of_places, next_child, IsBefore, IsGap, IsBeside, IsPlaces, IsPassed, names_past, rank}
use Rattle.fs_calls.proofs.NameLemmas.{Compared, Below, Same, Above, compare}
use Rattle.fs_nodes_places.proofs.PlaceLemmas.{child_link, names_child}
use Rattle.fs_nodes_places.proofs.PlainEditLemmas.{names_shape, child_within, past_shape}
use Rattle.fs_nodes_places.specs.Seen.{Ascends}
use Rattle.fs_nodes_places.proofs.AscentLemmas.{names_ascend, next_names, no_names_above}
use Rattle.fs_nodes_places.proofs.EditLemmas.{read_place}
use Rattle.fs_nodes.proofs.OrderLemmas.{all_names, found_upto, found_has, names_length}

-- the names of a directory ascend
pub dir_ascends : (ps : List Place) (d : ℕ) → IsPlaces ps → Ascends None (names_of ((graph_of_places ps).shape d))
dir_ascends ps d places = subst (Ascends None) (sym (names_shape NODE_LIMIT (plains ps) d places.store)) (names_ascend (plains ps) d)

-- they are those of its entries
pub dir_has : (ps : List Place) (d : ℕ) (y : Name) → IsPlaces ps → has_name y (names_of ((graph_of_places ps).shape d)) ≡ is_some (child_in (plains ps) d y)
dir_has ps d y places = ap (has_name y) (names_shape NODE_LIMIT (plains ps) d places.store) ∙ names_child (plains ps) d y

-- what a place says of its entry
pub link_of_place : (ps : List Place) (n : ℕ) (p : Place) → slice_get ps n ≡ Some p → link_at (plains ps) n ≡ link_of (plain p)
link_of_place ps n p e = ap (λ (o : Option (Option Node)). then_at o link_of) (slice_get-map plain ps n ∙ ap (option_map plain) e)

-- the entry of a place, by its parts
pub entry_parts : (p : Place) (d : ℕ) (y : Name) → link_of (plain p) ≡ Some (record { dir = d; name = y }) → (p.parent ≡ Some d) × (p.name ≡ y)
entry_parts p d y e = go p.content p.parent e
  where
    go : (c : Option Content) (o : Option ℕ) → link_of (plain_with c (link_with o p.name)) ≡ Some (record { dir = d; name = y }) → (o ≡ Some d) × (p.name ≡ y)
    go None o e = absurd (cc)
    go (Some c) None e = absurd (cc)
    go (Some c) (Some m) e = let h : ◌≡◌ {A = Link} (record { dir = m; name = p.name }) (record { dir = d; name = y }) = cc in (ap (λ (l : Link). Some l.dir) h, ap (λ (l : Link). l.name) h)

-- a node's place is its entry's
pub child_place : (ps : List Place) (d : ℕ) (y : Name) (n : ℕ) (p : Place) → slice_get ps n ≡ Some p → child_in (plains ps) d y ≡ Some n → link_of (plain p) ≡ Some (record { dir = d; name = y })
child_place ps d y n p e k = sym (link_of_place ps n p e) ∙ child_link (plains ps) d y n k

-- a first entry, as a place has it
pub first_place : (ps : List Place) (d : ℕ) (p : Place) → IsPlaces ps → d < length ps → p ≡ get_or ps d p → p.first ≡ next_child (graph_of_places ps) d None
first_place ps d p places h v = (places.each d p (slice_get_read ps _ d p refl h v)).first

-- a number past the places has no entry
pub first_past : (ps : List Place) (d : ℕ) → length ps ≤ d → None ≡ next_child (graph_of_places ps) d None
first_past ps d h =
    let l : length (plains ps) ≡ length ps = length-map ps plain in
    let e : shape_in (plains ps) d ≡ None = past_shape (plains ps) d (omega arith) in
    ap (λ (o : Option Shape). then_at (find (is_above None) (names_of o)) ((graph_of_places ps).child d)) (sym e)

-- a node on the way: its name is the first above the low one
pub record IsMet (ps : List Place) (dir : ℕ) (low : Option Name) (n : ℕ) (p : Place) : Type 0 where
  pub found : find (is_above low) (names_of ((graph_of_places ps).shape dir)) ≡ Some p.name
  pub child : (graph_of_places ps).child dir p.name ≡ Some n
  pub next : p.next ≡ next_child (graph_of_places ps) dir (Some p.name)

-- what next_kid finds
pub next_child_name : (graph : Graph) (dir : ℕ) (low : Option Name) (n : ℕ) → next_child graph dir low ≡ Some n → (y : Name) × (find (is_above low) (names_of (graph.shape dir)) ≡ Some y) × (graph.child dir y ≡ Some n)
next_child_name graph dir low n e = go (find (is_above low) (names_of (graph.shape dir))) refl e
  where
    go : (o : Option Name) → find (is_above low) (names_of (graph.shape dir)) ≡ o → then_at o (graph.child dir) ≡ Some n → (y : Name) × (find (is_above low) (names_of (graph.shape dir)) ≡ Some y) × (graph.child dir y ≡ Some n)
    go None f g = absurd (cc)
    go (Some y) f g = (y, f, g)

-- the place of what is next is within
pub next_within : (ps : List Place) (dir : ℕ) (low : Option Name) (n : ℕ) → next_child (graph_of_places ps) dir low ≡ Some n → n < length ps
next_within ps dir low n e =
    let r : (y : Name) × (find (is_above low) (names_of ((graph_of_places ps).shape dir)) ≡ Some y) × ((graph_of_places ps).child dir y ≡ Some n) = next_child_name (graph_of_places ps) dir low n e in
    let w : n < length (plains ps) = child_within (plains ps) n dir r.0 r.2 in
    let l : length (plains ps) ≡ length ps = length-map ps plain in
    omega arith

pub met : (ps : List Place) (dir : ℕ) (low : Option Name) (n : ℕ) (p : Place) → IsPlaces ps → slice_get ps n ≡ Some p → next_child (graph_of_places ps) dir low ≡ Some n → IsMet ps dir low n p
met ps dir low n p places e h =
    let r : (y : Name) × (find (is_above low) (names_of ((graph_of_places ps).shape dir)) ≡ Some y) × ((graph_of_places ps).child dir y ≡ Some n) = next_child_name (graph_of_places ps) dir low n h in
    let l : link_of (plain p) ≡ Some (record { dir = dir; name = r.0 }) = child_place ps dir r.0 n p e r.2 in
    let q : p.name ≡ r.0 = (entry_parts p dir r.0 l).1 in
    let b : IsBeside (graph_of_places ps) n p.next p.prev (Some (record { dir = dir; name = r.0 })) = subst (IsBeside (graph_of_places ps) n p.next p.prev) l (places.each n p e).beside in
    record {
      found = r.1 ∙ ap (λ (w : Name). Some w) (sym q);
      child = ap ((graph_of_places ps).child dir) q ∙ r.2;
      next = b.0 ∙ ap (λ (w : Name). next_child (graph_of_places ps) dir (Some w)) (sym q);
    }

-- what was passed over is not there
pub passed : (ps : List Place) (dir : ℕ) (x : Name) (low : Option Name) → IsPlaces ps → is_above low x ≡ true → ((y : Name) → find (is_above low) (names_of ((graph_of_places ps).shape dir)) ≡ Some y → (y ≡ x) ⊎ (is_above (Some y) x ≡ true) → ⊥) → (graph_of_places ps).child dir x ≡ None
passed ps dir x low places b far = go ((graph_of_places ps).child dir x) refl
  where
    go : (o : Option ℕ) → (graph_of_places ps).child dir x ≡ o → (graph_of_places ps).child dir x ≡ None
    go None e = e
    go (Some m) e =
        let h : has_name x (names_of ((graph_of_places ps).shape dir)) ≡ true = dir_has ps dir x places ∙ ap is_some e in
        let r : (y : Name) × (find (is_above low) (names_of ((graph_of_places ps).shape dir)) ≡ Some y) × ((y ≡ x) ⊎ (is_above (Some y) x ≡ true)) = found_upto None low x (names_of ((graph_of_places ps).shape dir)) (dir_ascends ps dir places) h b in
        absurd (far r.0 r.1 r.2)

-- a number below the limit, times the size of a place, is a word
pub next_below : (ps : List Place) (dir : ℕ) (low : Option Name) (n : ℕ) → IsPlaces ps → next_child (graph_of_places ps) dir low ≡ Some n → n < NODE_LIMIT
next_below ps dir low n places e =
    let l : length (plains ps) ≡ length ps = length-map ps plain in
    let h : n < length ps = next_within ps dir low n e in
    let w : length (plains ps) ≤ NODE_LIMIT = places.store.within in
    omega arith

-- the search has found the name
pub sought_found : (ps : List Place) (dir : ℕ) (x : Name) (low : Option Name) (n : ℕ) (p : Place) → IsMet ps dir low n p → name_cmp p.name x ≡ Equal → (graph_of_places ps).child dir x ≡ Some n
sought_found ps dir x low n p m e = ap ((graph_of_places ps).child dir) (sym (name_exact p.name x e)) ∙ m.child

-- or is past it
pub sought_past : (ps : List Place) (dir : ℕ) (x : Name) (low : Option Name) (n : ℕ) (p : Place) → IsPlaces ps → IsMet ps dir low n p → is_above low x ≡ true → name_cmp p.name x ≡ Greater → (graph_of_places ps).child dir x ≡ None
sought_past ps dir x low n p places m b e = passed ps dir x low places b (λ y f at. far y (sym f ∙ m.found) at)
  where
    far : (y : Name) → Some y ≡ Some p.name → (y ≡ x) ⊎ (is_above (Some y) x ≡ true) → ⊥
    far y f (inl g) = let h : p.name ≡ x = cc in let k : name_cmp x x ≡ Greater = subst (λ (w : Name). name_cmp w x ≡ Greater) h e in let z : is_gt (name_cmp x x) ≡ false = ap is_gt (tied_itself name_total x) in let w : false ≡ true = sym z ∙ ap is_gt k in absurd (cc)
    far y f (inr g) = let h : y ≡ p.name = cc in let k : is_lt (name_cmp p.name x) ≡ true = subst (λ (w : Name). is_above (Some w) x ≡ true) h g in let w : false ≡ true = sym (ap is_lt e) ∙ k in absurd (cc)

-- or at the end without it
pub sought_end : (ps : List Place) (dir : ℕ) (x : Name) (low : Option Name) → IsPlaces ps → is_above low x ≡ true → next_child (graph_of_places ps) dir low ≡ None → (graph_of_places ps).child dir x ≡ None
sought_end ps dir x low places b e = passed ps dir x low places b (λ y f at. far y f)
  where
    far : (y : Name) → find (is_above low) (names_of ((graph_of_places ps).shape dir)) ≡ Some y → ⊥
    far y f =
        let h : has_name y (names_of ((graph_of_places ps).shape dir)) ≡ true = found_has low y (names_of ((graph_of_places ps).shape dir)) f in
        let k : is_some ((graph_of_places ps).child dir y) ≡ true = sym (dir_has ps dir y places) ∙ h in
        let g : (graph_of_places ps).child dir y ≡ None = sym (ap (λ (o : Option Name). then_at o ((graph_of_places ps).child dir)) f) ∙ e in
        let w : false ≡ true = sym (ap is_some g) ∙ k in absurd (cc)

-- a directory has at most as many entries as numbers may be in use
pub dir_length : (ps : List Place) (d : ℕ) → IsPlaces ps → length (names_of ((graph_of_places ps).shape d)) ≤ NODE_LIMIT
dir_length ps d places =
    let e : length (names_of ((graph_of_places ps).shape d)) ≡ length (names_in (plains ps) d) = ap length (names_shape NODE_LIMIT (plains ps) d places.store) in
    let h : length (names_in (plains ps) d) ≤ length (plains ps) = names_length (plains ps) d in
    let w : length (plains ps) ≤ NODE_LIMIT = places.store.within in
    omega arith

-- the start
pub passed_first : (ps : List Place) (dir : ℕ) (x : Name) (prev next : Option ℕ) → prev ≡ None → next ≡ next_child (graph_of_places ps) dir None → IsPassed ps dir x prev next
passed_first ps dir x prev next e f = record {
  low = None;
  is_low = e;
  below = refl;
  next_is = f;
}

-- what the code reads on the way
pub passed_here : (ps : List Place) (dir : ℕ) (x : Name) (prev next : Option ℕ) (n : ℕ) (p : Place) → IsPlaces ps → (s : IsPassed ps dir x prev next) → next ≡ Some n → p ≡ get_or ps n p → IsMet ps dir s.low n p
passed_here ps dir x prev next n p places s e v =
    let k : next_child (graph_of_places ps) dir s.low ≡ Some n = sym s.next_is ∙ e in
    met ps dir s.low n p places (read_place ps n p (next_within ps dir s.low n k) v) k

-- the search goes on
pub passed_more : (ps : List Place) (dir : ℕ) (x : Name) (prev next : Option ℕ) (n : ℕ) (p : Place) → IsPlaces ps → IsPassed ps dir x prev next → next ≡ Some n → p ≡ get_or ps n p → name_cmp p.name x ≡ Less → IsPassed ps dir x next p.next
passed_more ps dir x prev next n p places s e v less =
    let m : IsMet ps dir s.low n p = passed_here ps dir x prev next n p places s e v in
    record {
      low = Some p.name;
      is_low = (n, m.child, e);
      below = ap is_lt less;
      next_is = m.next;
    }

-- a place that is within is there
pub get_some : (l : List Place) (k : ℕ) → k < length l → (p : Place) × (slice_get l k ≡ Some p)
get_some [] k w = absurd (omega arith)
get_some (r ∷ l) zero w = (r, refl)
get_some (r ∷ l) (suc k) w = get_some l k (omega arith)

-- and not missing
slice_get_some : (l : List Place) (k : ℕ) → k < length l → slice_get l k ≡ None → ⊥
slice_get_some [] k w g = omega arith
slice_get_some (r ∷ l) zero w g = cc
slice_get_some (r ∷ l) (suc k) w g = slice_get_some l k (omega arith) g

-- with one entry fewer to come
pub rank_smaller : (ps : List Place) (dir : ℕ) (low : Option Name) (next : Option ℕ) (n : ℕ) (p : Place) → IsPlaces ps → next ≡ next_child (graph_of_places ps) dir low → next ≡ Some n → p ≡ get_or ps n p → rank ps dir p.next < rank ps dir next
rank_smaller ps dir low next n p places is e v =
    let k : next_child (graph_of_places ps) dir low ≡ Some n = sym is ∙ e in
    let g : slice_get ps n ≡ Some p = read_place ps n p (next_within ps dir low n k) v in
    let m : IsMet ps dir low n p = met ps dir low n p places g k in
    let here : rank ps dir next ≡ suc (length (names_above (Some p.name) (names_of ((graph_of_places ps).shape dir)))) = ap (rank ps dir) e ∙ ap (λ (o : Option Place). suc (names_past (names_of ((graph_of_places ps).shape dir)) o)) g in
    let there : rank ps dir p.next ≤ length (names_above (Some p.name) (names_of ((graph_of_places ps).shape dir))) = go p.next m.next in
    omega arith
  where
    go : (o : Option ℕ) → o ≡ next_child (graph_of_places ps) dir (Some p.name) → rank ps dir o ≤ length (names_above (Some p.name) (names_of ((graph_of_places ps).shape dir)))
    go None f = omega arith
    go (Some k) f =
        let w : k < length ps = next_within ps dir (Some p.name) k (sym f) in
        by (slice_get ps k) refl w
      where
        by : (o : Option Place) → slice_get ps k ≡ o → k < length ps → suc (names_past (names_of ((graph_of_places ps).shape dir)) o) ≤ length (names_above (Some p.name) (names_of ((graph_of_places ps).shape dir)))
        by None g w = absurd (slice_get_some ps k w g)
        by (Some q) g w =
            let m : IsMet ps dir (Some p.name) k q = met ps dir (Some p.name) k q places g (sym f) in
            let a : names_above (Some p.name) (names_of ((graph_of_places ps).shape dir)) ≡ q.name ∷ names_above (Some q.name) (names_of ((graph_of_places ps).shape dir)) = next_names (Some p.name) None q.name (names_of ((graph_of_places ps).shape dir)) (dir_ascends ps dir places) m.found in
            let b : length (names_above (Some p.name) (names_of ((graph_of_places ps).shape dir))) ≡ suc (length (names_above (Some q.name) (names_of ((graph_of_places ps).shape dir)))) = ap length a in
            omega arith

-- the same of a search that remembers the sibling before
pub passed_smaller : (ps : List Place) (dir : ℕ) (x : Name) (prev next : Option ℕ) (n : ℕ) (p : Place) → IsPlaces ps → IsPassed ps dir x prev next → next ≡ Some n → p ≡ get_or ps n p → rank ps dir p.next < rank ps dir next
passed_smaller ps dir x prev next n p places s e v = rank_smaller ps dir s.low next n p places s.next_is e v

-- the gap, before an entry with a greater name
pub passed_gap : (ps : List Place) (dir : ℕ) (x : Name) (prev next : Option ℕ) (n : ℕ) (p : Place) → IsPlaces ps → IsPassed ps dir x prev next → next ≡ Some n → p ≡ get_or ps n p → (graph_of_places ps).child dir x ≡ None → (name_cmp p.name x ≡ Less → ⊥) → IsGap (graph_of_places ps) dir x prev next
passed_gap ps dir x prev next n p places s e v free not_less =
    let m : IsMet ps dir s.low n p = passed_here ps dir x prev next n p places s e v in
    record {
      low = s.low;
      is_low = s.is_low;
      at = (s.below, subst (IsBefore x) (sym m.found) (go (compare x p.name) m.child));
      next_is = s.next_is;
    }
  where
    go : Compared x p.name → (graph_of_places ps).child dir p.name ≡ Some n → is_above (Some x) p.name ≡ true
    go (Below a b) k = ap is_lt a
    go (Same a) k = let w : ◌≡◌ {A = Option ℕ} None (Some n) = sym free ∙ ap ((graph_of_places ps).child dir) a ∙ k in absurd (cc)
    go (Above a b) k = absurd (not_less b)

-- or at the end
pub passed_end : (ps : List Place) (dir : ℕ) (x : Name) (prev next : Option ℕ) → IsPlaces ps → IsPassed ps dir x prev next → next ≡ None → IsGap (graph_of_places ps) dir x prev next
passed_end ps dir x prev next places s e = record {
  low = s.low;
  is_low = s.is_low;
  at = (s.below, go (find (is_above s.low) (names_of ((graph_of_places ps).shape dir))) refl);
  next_is = s.next_is;
}
  where
    go : (o : Option Name) → find (is_above s.low) (names_of ((graph_of_places ps).shape dir)) ≡ o → IsBefore x o
    go None f = tt
    go (Some y) f =
        let h : has_name y (names_of ((graph_of_places ps).shape dir)) ≡ true = found_has s.low y (names_of ((graph_of_places ps).shape dir)) f in
        let k : is_some ((graph_of_places ps).child dir y) ≡ true = sym (dir_has ps dir y places) ∙ h in
        let g : (graph_of_places ps).child dir y ≡ None = sym (ap (λ (o : Option Name). then_at o ((graph_of_places ps).child dir)) f) ∙ sym s.next_is ∙ e in
        let w : false ≡ true = sym (ap is_some g) ∙ k in absurd (cc)

-- a search for the least name above another one: those up to the base are not above it
pub record IsAsked (ps : List Place) (dir : ℕ) (low : Option Name) (next : Option ℕ) : Type 0 where
  pub base : Option Name
  pub next_is : next ≡ next_child (graph_of_places ps) dir base
  pub rest : find (is_above low) (names_of ((graph_of_places ps).shape dir)) ≡ find (is_above low) (names_above base (names_of ((graph_of_places ps).shape dir)))

-- the start
pub asked_first : (ps : List Place) (dir : ℕ) (low : Option Name) (next : Option ℕ) → next ≡ next_child (graph_of_places ps) dir None → IsAsked ps dir low next
asked_first ps dir low next e = record {
  base = None;
  next_is = e;
  rest = ap (find (is_above low)) (sym (all_names (names_of ((graph_of_places ps).shape dir))));
}

-- what the code reads on the way
pub asked_here : (ps : List Place) (dir : ℕ) (low : Option Name) (next : Option ℕ) (n : ℕ) (p : Place) → IsPlaces ps → (s : IsAsked ps dir low next) → next ≡ Some n → p ≡ get_or ps n p → IsMet ps dir s.base n p
asked_here ps dir low next n p places s e v =
    let k : next_child (graph_of_places ps) dir s.base ≡ Some n = sym s.next_is ∙ e in
    met ps dir s.base n p places (read_place ps n p (next_within ps dir s.base n k) v) k

-- the names that are left begin with the one met
asked_names : (ps : List Place) (dir : ℕ) (low base : Option Name) (n : ℕ) (p : Place) → IsPlaces ps → IsMet ps dir base n p → find (is_above low) (names_above base (names_of ((graph_of_places ps).shape dir))) ≡ cond (is_above low p.name) (Some p.name) (find (is_above low) (names_above (Some p.name) (names_of ((graph_of_places ps).shape dir))))
asked_names ps dir low base n p places m = ap (find (is_above low)) (next_names base None p.name (names_of ((graph_of_places ps).shape dir)) (dir_ascends ps dir places) m.found)

-- the search goes on
pub asked_more : (ps : List Place) (dir : ℕ) (low : Option Name) (next after : Option ℕ) (n : ℕ) (p : Place) → IsPlaces ps → IsAsked ps dir low next → next ≡ Some n → p ≡ get_or ps n p → is_above low p.name ≡ false → after ≡ p.next → IsAsked ps dir low after
asked_more ps dir low next after n p places s e v f a =
    let m : IsMet ps dir s.base n p = asked_here ps dir low next n p places s e v in
    record {
      base = Some p.name;
      next_is = a ∙ m.next;
      rest = s.rest ∙ asked_names ps dir low s.base n p places m ∙ ap (λ (b : Bool). cond b (Some p.name) (find (is_above low) (names_above (Some p.name) (names_of ((graph_of_places ps).shape dir))))) f;
    }

-- it has found the name
pub asked_found : (ps : List Place) (dir : ℕ) (low : Option Name) (next : Option ℕ) (n : ℕ) (p : Place) → IsPlaces ps → IsAsked ps dir low next → next ≡ Some n → p ≡ get_or ps n p → is_above low p.name ≡ true → Some n ≡ next_child (graph_of_places ps) dir low
asked_found ps dir low next n p places s e v f =
    let m : IsMet ps dir s.base n p = asked_here ps dir low next n p places s e v in
    let g : find (is_above low) (names_of ((graph_of_places ps).shape dir)) ≡ Some p.name = s.rest ∙ asked_names ps dir low s.base n p places m ∙ ap (λ (b : Bool). cond b (Some p.name) (find (is_above low) (names_above (Some p.name) (names_of ((graph_of_places ps).shape dir))))) f in
    sym (ap (λ (o : Option Name). then_at o ((graph_of_places ps).child dir)) g ∙ m.child)

-- or there is none
pub asked_end : (ps : List Place) (dir : ℕ) (low : Option Name) (next : Option ℕ) → IsPlaces ps → IsAsked ps dir low next → next ≡ None → None ≡ next_child (graph_of_places ps) dir low
asked_end ps dir low next places s e = go (find (is_above s.base) (names_of ((graph_of_places ps).shape dir))) refl
  where
    go : (o : Option Name) → find (is_above s.base) (names_of ((graph_of_places ps).shape dir)) ≡ o → None ≡ next_child (graph_of_places ps) dir low
    go None f = sym (ap (λ (o : Option Name). then_at o ((graph_of_places ps).child dir)) (s.rest ∙ ap (find (is_above low)) (no_names_above s.base (names_of ((graph_of_places ps).shape dir)) f)))
    go (Some y) f =
        let h : has_name y (names_of ((graph_of_places ps).shape dir)) ≡ true = found_has s.base y (names_of ((graph_of_places ps).shape dir)) f in
        let k : is_some ((graph_of_places ps).child dir y) ≡ true = sym (dir_has ps dir y places) ∙ h in
        let g : (graph_of_places ps).child dir y ≡ None = sym (ap (λ (o : Option Name). then_at o ((graph_of_places ps).child dir)) f) ∙ sym s.next_is ∙ e in
        let w : false ≡ true = sym (ap is_some g) ∙ k in absurd (cc)

-- the least entry above a name, as the code puts it together
pub entry_read : (ps : List Place) (dir : ℕ) (low : Option Name) (n : ℕ) (p : Place) → IsPlaces ps → next_child (graph_of_places ps) dir low ≡ Some n → p ≡ get_or ps n p → Some (p.name, n) ≡ next_entry (graph_of_places ps) dir low
entry_read ps dir low n p places k v =
    let m : IsMet ps dir low n p = met ps dir low n p places (read_place ps n p (next_within ps dir low n k) v) k in
    sym (ap (λ (o : Option Name). with_child ((graph_of_places ps).child dir) o) m.found ∙ ap (option_map (λ (i : ℕ). (p.name, i))) m.child)

-- there is none
pub entry_none : (ps : List Place) (dir : ℕ) (low : Option Name) → IsPlaces ps → next_child (graph_of_places ps) dir low ≡ None → find (is_above low) (names_of ((graph_of_places ps).shape dir)) ≡ None
entry_none ps dir low places e = go (find (is_above low) (names_of ((graph_of_places ps).shape dir))) refl
  where
    go : (o : Option Name) → find (is_above low) (names_of ((graph_of_places ps).shape dir)) ≡ o → find (is_above low) (names_of ((graph_of_places ps).shape dir)) ≡ None
    go None f = f
    go (Some y) f =
        let h : has_name y (names_of ((graph_of_places ps).shape dir)) ≡ true = found_has low y (names_of ((graph_of_places ps).shape dir)) f in
        let k : is_some ((graph_of_places ps).child dir y) ≡ true = sym (dir_has ps dir y places) ∙ h in
        let g : (graph_of_places ps).child dir y ≡ None = sym (ap (λ (o : Option Name). then_at o ((graph_of_places ps).child dir)) f) ∙ e in
        let w : false ≡ true = sym (ap is_some g) ∙ k in absurd (cc)

pub entry_past : (ps : List Place) (dir : ℕ) (low : Option Name) → IsPlaces ps → next_child (graph_of_places ps) dir low ≡ None → None ≡ next_entry (graph_of_places ps) dir low
entry_past ps dir low places e = sym (ap (λ (o : Option Name). with_child ((graph_of_places ps).child dir) o) (entry_none ps dir low places e))

-- and so the names above the low one go on
pub rest_read : (ps : List Place) (dir : ℕ) (low : Option Name) (n : ℕ) (p : Place) → IsPlaces ps → next_child (graph_of_places ps) dir low ≡ Some n → p ≡ get_or ps n p → IsNextName (names_of ((graph_of_places ps).shape dir)) low (Some p.name)
rest_read ps dir low n p places k v =
    let m : IsMet ps dir low n p = met ps dir low n p places (read_place ps n p (next_within ps dir low n k) v) k in
    next_names low None p.name (names_of ((graph_of_places ps).shape dir)) (dir_ascends ps dir places) m.found

pub rest_past : (ps : List Place) (dir : ℕ) (low : Option Name) → IsPlaces ps → next_child (graph_of_places ps) dir low ≡ None → IsNextName (names_of ((graph_of_places ps).shape dir)) low None
rest_past ps dir low places e = no_names_above low (names_of ((graph_of_places ps).shape dir)) (entry_none ps dir low places e)
