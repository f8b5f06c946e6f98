-- A walk along the siblings for an entry, beside one that was looked at before.
use Rattle.std.proofs.Common.{◌≡◌, ℕ, suc, ◌+◌, ◌<◌, ◌≤◌, true, false, List, Option, Some, None, IfSome, length, get_or, refl, sym, ap, subst, ◌∙◌, arith}
use Rattle.std.specs.Prelude.{slice_get}
use Rattle.std.specs.Ordering.{is_lt, is_gt}
use Rattle.std.specs.declared.cmp.Ordering.TheVariants.{Less, Equal, Greater}
use Rattle.std.proofs.lemmas.List.Sums.{length-filter, count_by-le-length}
use Rattle.fs_names.specs.Names.{Name, name_cmp}
use Rattle.fs_names.specs.Shapes.{names_of}
use Rattle.fs_names.specs.declared.limits.TheConstants.{NODE_LIMIT}
use Rattle.fs_nodes_places.specs.declared.place.Place.{Place}
use Rattle.fs_nodes_places.specs.Stores.{link_of, is_above, names_above}
use Rattle.fs_nodes_places.specs.Plains.{plain, plains}
use Rattle.fs_nodes.specs.code.Linked.{graph_of_places, next_child, IsPlaces, IsPassed, IsEntry, IsLesser, IsGreater, names_past, rank}
use Rattle.fs_nodes_places.specs.code.Spots.{is_number, one_of}
use Rattle.fs_calls.proofs.EqualLemmas.{eqb_true, eqb_refl}
use Rattle.fs_calls.proofs.NameLemmas.{Compared, Below, Same, Above, compare}
use Rattle.fs_nodes_places.proofs.AscentLemmas.{above_above, next_names, no_names_above, not_itself}
use Rattle.fs_nodes_places.proofs.PlainEditLemmas.{child_within}
use Rattle.std.proofs.lemmas.List.{length-map}
use Rattle.fs_nodes_places.proofs.EditLemmas.{read_place}
use Rattle.fs_nodes.proofs.StepLemmas.{IsMet, dir_ascends, entry_none, child_place, entry_parts, get_some, met, next_within, passed_first, passed_here, passed_more, passed_smaller, sought_found, sought_past, sought_end}
use Rattle.fs_nodes.proofs.OrderLemmas.{all_names}
use Rattle.fs_nodes.proofs.BehindLemmas.{entry_passed, single_passed, single_nearer, leap_nearer, not_greater, lesser_within}

-- how many entries are still to come, where a search stands
rank_left : (ps : List Place) (dir : ℕ) (x : Name) (prev next : Option ℕ) → IsPlaces ps → (s : IsPassed ps dir x prev next) → rank ps dir next ≡ length (names_above s.low (names_of ((graph_of_places ps).shape dir)))
rank_left ps dir x prev None places s = sym (ap length (no_names_above s.low (names_of ((graph_of_places ps).shape dir)) (entry_none ps dir s.low places (sym s.next_is))))
rank_left ps dir x prev (Some n) places s =
    let g : (p : Place) × (slice_get ps n ≡ Some p) = get_some ps n (next_within ps dir s.low n (sym s.next_is)) in
    let m : IsMet ps dir s.low n g.0 = met ps dir s.low n g.0 places g.1 (sym s.next_is) in
    ap (λ (o : Option Place). suc (names_past (names_of ((graph_of_places ps).shape dir)) o)) g.1 ∙ sym (ap length (next_names s.low None g.0.name (names_of ((graph_of_places ps).shape dir)) (dir_ascends ps dir places) m.found))

-- at the start these are all
rank_first : (ps : List Place) (dir : ℕ) (x : Name) (prev next : Option ℕ) → IsPlaces ps → prev ≡ None → next ≡ next_child (graph_of_places ps) dir None → rank ps dir next ≡ length (names_of ((graph_of_places ps).shape dir))
rank_first ps dir x prev next places e f = rank_left ps dir x prev next places (record { low = None; is_low = e; below = refl; next_is = f }) ∙ ap length (all_names (names_of ((graph_of_places ps).shape dir)))

-- and one at least, where the search is not at the end
some_left : (ps : List Place) (dir : ℕ) (next : Option ℕ) (n : ℕ) → next ≡ Some n → 0 < rank ps dir next
some_left ps dir None n e = absurd (cc)
some_left ps dir (Some m) n e = omega arith

-- how far a walk has come: how many entries it has looked at, and how many are to come
pub record IsWalk (ps : List Place) (dir : ℕ) (x : Name) (after next : Option ℕ) (steps : ℕ) : Type 0 where
  pub prev : Option ℕ
  pub passed : IsPassed ps dir x prev next
  pub count : steps + one_of after + rank ps dir next ≤ length (names_of ((graph_of_places ps).shape dir))

-- no more are to come than there are
rank_most : (ps : List Place) (dir : ℕ) (x : Name) (prev next : Option ℕ) → IsPlaces ps → IsPassed ps dir x prev next → rank ps dir next ≤ length (names_of ((graph_of_places ps).shape dir))
rank_most ps dir x prev next places s =
    let r : rank ps dir next ≡ length (names_above s.low (names_of ((graph_of_places ps).shape dir))) = rank_left ps dir x prev next places s in
    omega (arith, length-filter (is_above s.low) (names_of ((graph_of_places ps).shape dir)), count_by-le-length (is_above s.low) (names_of ((graph_of_places ps).shape dir)))

-- an entry's place
pub entry_place : (ps : List Place) (dir n : ℕ) → IsEntry (graph_of_places ps) dir n → n < length ps
entry_place ps dir n r =
    let w : n < length (plains ps) = child_within (plains ps) n dir r.0 r.1 in
    let l : length (plains ps) ≡ length ps = length-map ps plain in
    omega arith

-- and its name
pub entry_name : (ps : List Place) (dir n : ℕ) (p : Place) → p ≡ get_or ps n p → (r : IsEntry (graph_of_places ps) dir n) → p.name ≡ r.0
entry_name ps dir n p v r = (entry_parts p dir r.0 (child_place ps dir r.0 n p (read_place ps n p (entry_place ps dir n r) v) r.1)).1

-- the start at a directory's first entry
pub walk_first : (ps : List Place) (dir : ℕ) (x : Name) (after next : Option ℕ) → IsPlaces ps → after ≡ None → next ≡ next_child (graph_of_places ps) dir None → IsWalk ps dir x after next 0
walk_first ps dir x after next places none e = record {
  prev = None;
  passed = passed_first ps dir x None next refl e;
  count = (
      let r : rank ps dir next ≡ length (names_of ((graph_of_places ps).shape dir)) = rank_first ps dir x None next places refl e in
      let z : one_of after ≡ 0 = ap one_of none in
      omega arith);
}

-- or behind an entry
pub walk_after : (ps : List Place) (dir : ℕ) (x : Name) (after next : Option ℕ) (n : ℕ) (p : Place) → IsPlaces ps → after ≡ Some n → IsLesser (graph_of_places ps) dir x n → p ≡ get_or ps n p → next ≡ p.next → IsWalk ps dir x after next 0
walk_after ps dir x after next n p places is r v e = record {
  prev = Some n;
  passed = subst (IsPassed ps dir x (Some n)) (sym e) (single_passed ps dir x n p places r v);
  count = (
      let l : link_of (plain p) ≡ Some (record { dir = dir; name = r.0 }) = child_place ps dir r.0 n p (read_place ps n p (lesser_within ps dir x n r) v) r.1 in
      let q : p.name ≡ r.0 = (entry_parts p dir r.0 l).1 in
      let k : link_of (plain p) ≡ Some (record { dir = dir; name = p.name }) = l ∙ ap (λ (w : Name). Some (record { dir = dir; name = w })) (sym q) in
      let m : rank ps dir (Some n) ≤ length (names_of ((graph_of_places ps).shape dir)) = rank_most ps dir p.name p.prev (Some n) places (entry_passed ps dir p.name n p places (read_place ps n p (lesser_within ps dir x n r) v) k (not_greater p.name)) in
      let s : rank ps dir p.next < rank ps dir (Some n) = single_nearer ps dir x n p places r v in
      let f : rank ps dir next ≡ rank ps dir p.next = ap (rank ps dir) e in
      let z : one_of after ≡ 1 = ap one_of is in
      omega arith);
}

-- the next step
pub walk_more : (ps : List Place) (dir : ℕ) (x : Name) (after next to : Option ℕ) (steps n : ℕ) (p : Place) → IsPlaces ps → IsWalk ps dir x after next steps → next ≡ Some n → p ≡ get_or ps n p → name_cmp p.name x ≡ Less → to ≡ p.next → IsWalk ps dir x after to (steps + 1)
walk_more ps dir x after next to steps n p places s e v less t = record {
  prev = next;
  passed = subst (IsPassed ps dir x next) (sym t) (passed_more ps dir x s.prev next n p places s.passed e v less);
  count = (
      let m : rank ps dir p.next < rank ps dir next = passed_smaller ps dir x s.prev next n p places s.passed e v in
      let f : rank ps dir to ≡ rank ps dir p.next = ap (rank ps dir) t in
      let c : steps + one_of after + rank ps dir next ≤ length (names_of ((graph_of_places ps).shape dir)) = s.count in
      omega arith);
}

pub walk_smaller : (ps : List Place) (dir : ℕ) (x : Name) (after next to : Option ℕ) (steps n : ℕ) (p : Place) → IsPlaces ps → IsWalk ps dir x after next steps → next ≡ Some n → p ≡ get_or ps n p → to ≡ p.next → rank ps dir to < rank ps dir next
walk_smaller ps dir x after next to steps n p places s e v t = subst (λ (o : Option ℕ). rank ps dir o < rank ps dir next) (sym t) (passed_smaller ps dir x s.prev next n p places s.passed e v)

-- what the code reads on the way
pub walk_here : (ps : List Place) (dir : ℕ) (x : Name) (after next : Option ℕ) (steps n : ℕ) (p : Place) → IsPlaces ps → (s : IsWalk ps dir x after next steps) → next ≡ Some n → p ≡ get_or ps n p → IsMet ps dir s.passed.low n p
walk_here ps dir x after next steps n p places s e v = passed_here ps dir x s.prev next n p places s.passed e v

pub walk_within : (ps : List Place) (dir : ℕ) (x : Name) (after next : Option ℕ) (steps n : ℕ) → IsWalk ps dir x after next steps → next ≡ Some n → n < length ps
walk_within ps dir x after next steps n s e = next_within ps dir s.passed.low n (sym s.passed.next_is ∙ e)

-- a name above another one is greater
greater : (x y : Name) → is_above (Some x) y ≡ true → name_cmp y x ≡ Greater
greater x y h = go (compare x y)
  where
    go : Compared x y → name_cmp y x ≡ Greater
    go (Below a b) = b
    go (Same a) = let w : true ≡ false = sym h ∙ ap (λ (z : Name). is_above (Some x) z) (sym a) ∙ not_itself x in absurd (cc)
    go (Above a b) = let w : true ≡ false = sym h ∙ ap is_lt a in absurd (cc)

-- the entry where a walk ends is still to come, unless it is the next one
end_comes : (ps : List Place) (dir : ℕ) (x : Name) (after next : Option ℕ) (steps n m : ℕ) (p : Place) → IsPlaces ps → IsWalk ps dir x after next steps → next ≡ Some n → p ≡ get_or ps n p → IsGreater (graph_of_places ps) dir x m → (m ≡ n → ⊥) → rank ps dir (Some m) < rank ps dir (Some n)
end_comes ps dir x after next steps n m p places s e v r apart =
    let w : m < length ps = entry_place ps dir m (r.0, r.1) in
    let g : (q : Place) × (slice_get ps m ≡ Some q) = get_some ps m w in
    let l : link_of (plain g.0) ≡ Some (record { dir = dir; name = r.0 }) = child_place ps dir r.0 m g.0 g.1 r.1 in
    let q : g.0.name ≡ r.0 = (entry_parts g.0 dir r.0 l).1 in
    let k : (graph_of_places ps).child dir g.0.name ≡ Some m = ap ((graph_of_places ps).child dir) q ∙ r.1 in
    let here : slice_get ps n ≡ Some p = read_place ps n p (walk_within ps dir x after next steps n s e) v in
    leap_nearer ps dir n m p g.0 places here g.1 k (subst (λ (z : Name). is_above (Some p.name) z ≡ true) (sym q) (go (compare p.name r.0)))
  where
    m-met : IsMet ps dir s.passed.low n p
    m-met = walk_here ps dir x after next steps n p places s e v

    low : is_above s.passed.low r.0 ≡ true
    low = above_above s.passed.low x r.0 s.passed.below r.2

    go : Compared p.name r.0 → is_above (Some p.name) r.0 ≡ true
    go (Below a b) = ap is_lt a
    go (Same a) = let h : Some n ≡ Some m = sym m-met.child ∙ ap ((graph_of_places ps).child dir) a ∙ r.1 in absurd (apart (let i : m ≡ n = cc in i))
    go (Above a b) = let h : ◌≡◌ {A = Option ℕ} None (Some m) = sym (sought_past ps dir r.0 s.passed.low n p places m-met low a) ∙ r.1 in absurd (cc)

-- so a look at an entry beside it is within the bound
pub walk_looks : (ps : List Place) (dir : ℕ) (x : Name) (after end next : Option ℕ) (steps n : ℕ) (p : Place) → IsPlaces ps → IsWalk ps dir x after next steps → next ≡ Some n → p ≡ get_or ps n p → IfSome end (IsGreater (graph_of_places ps) dir x) → (end ≡ Some n → ⊥) → steps + 1 + one_of after + one_of end ≤ length (names_of ((graph_of_places ps).shape dir))
walk_looks ps dir x after None next steps n p places s e v r apart =
    let c : steps + one_of after + rank ps dir next ≤ length (names_of ((graph_of_places ps).shape dir)) = s.count in
    let h : 0 < rank ps dir next = some_left ps dir next n e in
    omega arith
walk_looks ps dir x after (Some m) next steps n p places s e v r apart =
    let c : steps + one_of after + rank ps dir next ≤ length (names_of ((graph_of_places ps).shape dir)) = s.count in
    let h : rank ps dir (Some m) < rank ps dir (Some n) = end_comes ps dir x after next steps n m p places s e v r (λ i. apart (ap (λ (z : ℕ). Some z) i)) in
    let k : 0 < rank ps dir (Some m) = some_left ps dir (Some m) m refl in
    let f : rank ps dir next ≡ rank ps dir (Some n) = ap (rank ps dir) e in
    omega arith

-- the walk has found the name
pub walk_found : (ps : List Place) (dir : ℕ) (x : Name) (after next : Option ℕ) (steps n : ℕ) (p : Place) → IsPlaces ps → IsWalk ps dir x after next steps → next ≡ Some n → p ≡ get_or ps n p → name_cmp p.name x ≡ Equal → Some n ≡ (graph_of_places ps).child dir x
walk_found ps dir x after next steps n p places s e v h = sym (sought_found ps dir x s.passed.low n p (walk_here ps dir x after next steps n p places s e v) h)

-- or is past it
pub walk_past : (ps : List Place) (dir : ℕ) (x : Name) (after next : Option ℕ) (steps n : ℕ) (p : Place) → IsPlaces ps → IsWalk ps dir x after next steps → next ≡ Some n → p ≡ get_or ps n p → name_cmp p.name x ≡ Greater → None ≡ (graph_of_places ps).child dir x
walk_past ps dir x after next steps n p places s e v h = sym (sought_past ps dir x s.passed.low n p places (walk_here ps dir x after next steps n p places s e v) s.passed.below h)

-- or has come to where it ends
pub walk_ends : (ps : List Place) (dir : ℕ) (x : Name) (after end next : Option ℕ) (steps n : ℕ) → IsPlaces ps → IsWalk ps dir x after next steps → next ≡ Some n → IfSome end (IsGreater (graph_of_places ps) dir x) → end ≡ Some n → (None ≡ (graph_of_places ps).child dir x) × (steps + one_of after + one_of end ≤ length (names_of ((graph_of_places ps).shape dir)))
walk_ends ps dir x after end next steps n places s e r is =
    let g : (q : Place) × (slice_get ps n ≡ Some q) = get_some ps n (walk_within ps dir x after next steps n s e) in
    let m : IsMet ps dir s.passed.low n g.0 = met ps dir s.passed.low n g.0 places g.1 (sym s.passed.next_is ∙ e) in
    let t : IsGreater (graph_of_places ps) dir x n = subst (λ (o : Option ℕ). IfSome o (IsGreater (graph_of_places ps) dir x)) is r in
    let l : link_of (plain g.0) ≡ Some (record { dir = dir; name = t.0 }) = child_place ps dir t.0 n g.0 g.1 t.1 in
    let q : g.0.name ≡ t.0 = (entry_parts g.0 dir t.0 l).1 in
    let c : steps + one_of after + rank ps dir next ≤ length (names_of ((graph_of_places ps).shape dir)) = s.count in
    let h : 0 < rank ps dir next = some_left ps dir next n e in
    let z : one_of end ≡ 1 = ap one_of is in (
      sym (sought_past ps dir x s.passed.low n g.0 places m s.passed.below (subst (λ (w : Name). name_cmp w x ≡ Greater) (sym q) (greater x t.0 t.2))),
      omega arith,
    )

-- or to the end of the siblings
pub walk_none : (ps : List Place) (dir : ℕ) (x : Name) (after end next : Option ℕ) (steps : ℕ) → IsPlaces ps → IsWalk ps dir x after next steps → next ≡ None → IfSome end (IsGreater (graph_of_places ps) dir x) → (None ≡ (graph_of_places ps).child dir x) × (steps + one_of after + one_of end ≤ length (names_of ((graph_of_places ps).shape dir)))
walk_none ps dir x after None next steps places s e r =
    let c : steps + one_of after + rank ps dir next ≤ length (names_of ((graph_of_places ps).shape dir)) = s.count in
    (sym (sought_end ps dir x s.passed.low places s.passed.below (sym s.passed.next_is ∙ e)), omega arith)
walk_none ps dir x after (Some m) next steps places s e r =
    let h : ◌≡◌ {A = Option ℕ} None (Some m) = sym (sought_end ps dir r.0 s.passed.low places (above_above s.passed.low x r.0 s.passed.below r.2) (sym s.passed.next_is ∙ e)) ∙ r.1 in
    absurd (cc)

-- an entry that was looked at is lesser or greater
pub lesser_by : (ps : List Place) (dir : ℕ) (x : Name) (n : ℕ) (p : Place) → p ≡ get_or ps n p → IsEntry (graph_of_places ps) dir n → name_cmp p.name x ≡ Less → IsLesser (graph_of_places ps) dir x n
lesser_by ps dir x n p v r h = (r.0, r.1, subst (λ (w : Name). is_above (Some w) x ≡ true) (entry_name ps dir n p v r) (ap is_lt h))

pub greater_by : (ps : List Place) (dir : ℕ) (x : Name) (n : ℕ) (p : Place) → p ≡ get_or ps n p → IsEntry (graph_of_places ps) dir n → name_cmp p.name x ≡ Greater → IsGreater (graph_of_places ps) dir x n
greater_by ps dir x n p v r h = (r.0, r.1, subst (λ (w : Name). is_above (Some x) w ≡ true) (entry_name ps dir n p v r) (go (compare p.name x)))
  where
    go : Compared p.name x → is_above (Some x) p.name ≡ true
    go (Below a b) = let w : ◌≡◌ Less Greater = sym a ∙ h in absurd (cc)
    go (Same a) = let w : true ≡ false = sym (ap is_gt (ap (λ (z : Name). name_cmp z x) (sym a) ∙ h)) ∙ not_greater x in absurd (cc)
    go (Above a b) = ap is_lt b

-- an entry of a name is found by the name
pub named_child : (ps : List Place) (dir : ℕ) (x : Name) (n : ℕ) (p : Place) → p ≡ get_or ps n p → IsEntry (graph_of_places ps) dir n → p.name ≡ x → Some n ≡ (graph_of_places ps).child dir x
named_child ps dir x n p v r e = sym (ap ((graph_of_places ps).child dir) (sym e ∙ entry_name ps dir n p v r) ∙ r.1)

-- where a name has an entry, there is one
pub some_entry : (ps : List Place) (dir : ℕ) (n : ℕ) → IsPlaces ps → IsEntry (graph_of_places ps) dir n → 1 ≤ length (names_of ((graph_of_places ps).shape dir))
some_entry ps dir n places r =
    let w : n < length ps = entry_place ps dir n r in
    let g : (q : Place) × (slice_get ps n ≡ Some q) = get_some ps n w in
    let l : link_of (plain g.0) ≡ Some (record { dir = dir; name = r.0 }) = child_place ps dir r.0 n g.0 g.1 r.1 in
    let q : g.0.name ≡ r.0 = (entry_parts g.0 dir r.0 l).1 in
    let k : link_of (plain g.0) ≡ Some (record { dir = dir; name = g.0.name }) = l ∙ ap (λ (z : Name). Some (record { dir = dir; name = z })) (sym q) in
    let m : rank ps dir (Some n) ≤ length (names_of ((graph_of_places ps).shape dir)) = rank_most ps dir g.0.name g.0.prev (Some n) places (entry_passed ps dir g.0.name n g.0 places g.1 k (not_greater g.0.name)) in
    let h : 0 < rank ps dir (Some n) = some_left ps dir (Some n) n refl in
    omega arith

-- a number that is this one, or is not
pub number_is : (o : Option ℕ) (n : ℕ) → is_number o n ≡ true → o ≡ Some n
number_is None n e = absurd (cc)
number_is (Some m) n e = ap (λ (z : ℕ). Some z) (eqb_true m n e)

pub number_is_not : (o : Option ℕ) (n : ℕ) → is_number o n ≡ false → o ≡ Some n → ⊥
number_is_not o n e f = let w : true ≡ false = sym (eqb_refl n) ∙ sym (ap (λ (z : Option ℕ). is_number z n) f) ∙ e in cc

-- an entry's number is below the limit
pub entry_below : (ps : List Place) (dir n : ℕ) → IsPlaces ps → IsEntry (graph_of_places ps) dir n → n < NODE_LIMIT
entry_below ps dir n places r =
    let w : n < length (plains ps) = child_within (plains ps) n dir r.0 r.1 in
    let h : length (plains ps) ≤ NODE_LIMIT = places.store.within in
    omega arith
