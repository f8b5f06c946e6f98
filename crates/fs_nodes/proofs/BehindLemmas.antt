-- Where a search stands behind an entry with a lesser name, and what a hint says that was asked.
use Rattle.std.proofs.Common.{◌≡◌, ℕ, ◌<◌, ◌≤◌, Bool, true, false, cond, List, [], ◌∷◌, Option, Some, None, IfSome, is_some, get_or, length, refl, sym, ap, subst, ◌∙◌, arith}
use Rattle.std.specs.Prelude.{slice_get, nat_lt}
use Rattle.std.specs.List.{find}
use Rattle.std.specs.Ordering.{is_gt}
use Rattle.std.proofs.lemmas.List.{length-map}
use Rattle.fs_names.specs.Names.{Name, name_cmp, same_name, has_name}
use Rattle.fs_names.specs.Shapes.{names_of}
use Rattle.fs_names.proofs.Lemmas.{name_total, same_name_exact}
use Rattle.std.proofs.lemmas.Cmp.{tied_itself}
use Rattle.fs_names.specs.declared.limits.TheConstants.{NODE_LIMIT}
use Rattle.fs_nodes_places.specs.declared.node.Content.{Content}
use Rattle.fs_nodes_places.specs.declared.place.Place.{Place}
use Rattle.fs_calls.specs.Graphs.{Graph}
use Rattle.fs_nodes_places.specs.Stores.{link_of, is_in, is_above, names_above}
use Rattle.fs_nodes_places.specs.Plains.{link_with, plain_with, plain, plains}
use Rattle.fs_nodes.specs.code.Linked.{graph_of_places, next_child, IsPrev, IsBeside, IsPlaces, IsPassed, IsEntry, IsLesser, is_lesser, names_past, rank}
use Rattle.fs_nodes_places.specs.code.Spots.{number_below, one_of}
use Rattle.fs_calls.proofs.NameLemmas.{Compared, Below, Same, Above, compare}
use Rattle.fs_nodes_places.proofs.AscentLemmas.{above_more, above_above, not_itself}
use Rattle.fs_calls.proofs.EqualLemmas.{eqb_true, both_true}
use Rattle.fs_nodes.proofs.OrderLemmas.{found_is_above}
use Rattle.fs_nodes_places.proofs.PlainEditLemmas.{child_within}
use Rattle.fs_nodes_places.proofs.EditLemmas.{read_place}
use Rattle.fs_nodes.proofs.StepLemmas.{IsAsked, link_of_place, child_place, entry_parts, dir_has, next_child_name, passed_smaller}
use Rattle.fs_nodes.proofs.LinkLemmas.{child_name}

-- a number that is below a bound
pub below_read : (bound : ℕ) (o : Option ℕ) (n : ℕ) → number_below bound o ≡ Some n → (o ≡ Some n) × (n < bound)
below_read bound None n e = absurd (cc)
below_read bound (Some m) n e = go (nat_lt m bound) refl e
  where
    go : (b : Bool) → nat_lt m bound ≡ b → cond b (Some m) None ≡ Some n → (Some m ≡ Some n) × (n < bound)
    go false f g = absurd (cc)
    go true f g = let h : m ≡ n = cc in (g, (let k : m < bound = grind arith in omega arith))

-- the entry of a place that is one of the directory
in_dir : (p : Place) (dir : ℕ) → is_in (link_of (plain p)) dir ≡ true → link_of (plain p) ≡ Some (record { dir = dir; name = p.name })
in_dir p dir e = go p.content p.parent e
  where
    go : (c : Option Content) (o : Option ℕ) → is_in (link_of (plain_with c (link_with o p.name))) dir ≡ true → link_of (plain_with c (link_with o p.name)) ≡ Some (record { dir = dir; name = p.name })
    go None o e = absurd (cc)
    go (Some c) None e = absurd (cc)
    go (Some c) (Some m) e = ap (λ (z : ℕ). Some (record { dir = z; name = p.name })) (sym (eqb_true dir m e))

-- it is found in the directory
pub entry_child : (ps : List Place) (dir n : ℕ) (p : Place) → IsPlaces ps → slice_get ps n ≡ Some p → link_of (plain p) ≡ Some (record { dir = dir; name = p.name }) → (graph_of_places ps).child dir p.name ≡ Some n
entry_child ps dir n p places e l = places.store.found n (record { dir = dir; name = p.name }) (link_of_place ps n p e ∙ l)

-- what is above no name that is not above x is above x
upto : (low : Option Name) (y x : Name) → is_above low y ≡ true → is_gt (name_cmp y x) ≡ false → is_above low x ≡ true
upto low y x h g = go (compare y x)
  where
    go : Compared y x → is_above low x ≡ true
    go (Below e f) = above_more low y x h e
    go (Same e) = subst (λ (w : Name). is_above low w ≡ true) e h
    go (Above e f) = let k : true ≡ false = sym (ap is_gt e) ∙ g in absurd (cc)

-- before an entry that is not above x a search for x may stand
pub entry_passed : (ps : List Place) (dir : ℕ) (x : Name) (n : ℕ) (p : Place) → IsPlaces ps → slice_get ps n ≡ Some p → link_of (plain p) ≡ Some (record { dir = dir; name = p.name }) → is_gt (name_cmp p.name x) ≡ false → IsPassed ps dir x p.prev (Some n)
entry_passed ps dir x n p places e l h = go p.prev b.1
  where
    b : IsBeside (graph_of_places ps) n p.next p.prev (Some (record { dir = dir; name = p.name }))
    b = subst (IsBeside (graph_of_places ps) n p.next p.prev) l (places.each n p e).beside

    above : (y : Name) → next_child (graph_of_places ps) dir (Some y) ≡ Some n → is_above (Some y) p.name ≡ true
    above y g =
        let r : (z : Name) × (find (is_above (Some y)) (names_of ((graph_of_places ps).shape dir)) ≡ Some z) × ((graph_of_places ps).child dir z ≡ Some n) = next_child_name (graph_of_places ps) dir (Some y) n g in
        let k : r.0 ≡ p.name = child_name ps dir p.name r.0 n (entry_child ps dir n p places e l) r.2 in
        subst (λ (w : Name). is_above (Some y) w ≡ true) k (found_is_above (Some y) r.0 (names_of ((graph_of_places ps).shape dir)) r.1)

    go : (o : Option ℕ) → IsPrev (graph_of_places ps) dir n o → IsPassed ps dir x o (Some n)
    go None g = record {
      low = None;
      is_low = refl;
      below = refl;
      next_is = sym g;
    }
    go (Some m) g = record {
      low = Some g.0;
      is_low = (m, g.1, refl);
      below = upto (Some g.0) p.name x (above g.0 g.2) h;
      next_is = sym g.2;
    }

-- of the names above a greater one there are no more
no_more_above : (y z : Name) (names : List Name) → is_above (Some y) z ≡ true → length (names_above (Some z) names) ≤ length (names_above (Some y) names)
no_more_above y z [] h = omega arith
no_more_above y z (w ∷ ws) h = go (is_above (Some z) w) refl (is_above (Some y) w) refl (no_more_above y z ws h)
  where
    go : (a : Bool) → is_above (Some z) w ≡ a → (b : Bool) → is_above (Some y) w ≡ b → length (names_above (Some z) ws) ≤ length (names_above (Some y) ws)
        → length (cond a (w ∷ names_above (Some z) ws) (names_above (Some z) ws)) ≤ length (cond b (w ∷ names_above (Some y) ws) (names_above (Some y) ws))
    go true e true f r = omega arith
    go true e false f r = let k : true ≡ false = sym (above_above (Some y) z w h e) ∙ f in absurd (cc)
    go false e true f r = omega arith
    go false e false f r = omega arith

-- and fewer, where the greater one is among them
fewer_above : (y z : Name) (names : List Name) → is_above (Some y) z ≡ true → has_name z names ≡ true → length (names_above (Some z) names) < length (names_above (Some y) names)
fewer_above y z [] h g = absurd (cc)
fewer_above y z (w ∷ ws) h g = here (same_name z w) refl g (λ k. fewer_above y z ws h k)
  where
    go : (a : Bool) → is_above (Some z) w ≡ a → (b : Bool) → is_above (Some y) w ≡ b → length (names_above (Some z) ws) < length (names_above (Some y) ws)
        → length (cond a (w ∷ names_above (Some z) ws) (names_above (Some z) ws)) < length (cond b (w ∷ names_above (Some y) ws) (names_above (Some y) ws))
    go true e true f r = omega arith
    go true e false f r = let k : true ≡ false = sym (above_above (Some y) z w h e) ∙ f in absurd (cc)
    go false e true f r = omega arith
    go false e false f r = omega arith

    drop : (a b : Bool) → a ≡ false → b ≡ true → length (cond a (w ∷ names_above (Some z) ws) (names_above (Some z) ws)) < length (cond b (w ∷ names_above (Some y) ws) (names_above (Some y) ws))
    drop true b e f = absurd (cc)
    drop false true e f = let k : length (names_above (Some z) ws) ≤ length (names_above (Some y) ws) = no_more_above y z ws h in omega arith
    drop false false e f = absurd (cc)

    here : (t : Bool) → same_name z w ≡ t → cond t true (has_name z ws) ≡ true → (has_name z ws ≡ true → length (names_above (Some z) ws) < length (names_above (Some y) ws)) → length (names_above (Some z) (w ∷ ws)) < length (names_above (Some y) (w ∷ ws))
    here true e k rest =
        let s : z ≡ w = same_name_exact z w e in
        drop (is_above (Some z) w) (is_above (Some y) w) (ap (λ (v : Name). is_above (Some z) v) (sym s) ∙ not_itself z) (ap (λ (v : Name). is_above (Some y) v) (sym s) ∙ h)
    here false e k rest = go (is_above (Some z) w) refl (is_above (Some y) w) refl (rest k)

-- so with a leap there are fewer entries to come
pub leap_nearer : (ps : List Place) (dir at n : ℕ) (p q : Place) → IsPlaces ps → slice_get ps at ≡ Some p → slice_get ps n ≡ Some q → (graph_of_places ps).child dir q.name ≡ Some n → is_above (Some p.name) q.name ≡ true → rank ps dir (Some n) < rank ps dir (Some at)
leap_nearer ps dir at n p q places e f k h =
    let names : List Name = names_of ((graph_of_places ps).shape dir) in
    let has : has_name q.name (names_of ((graph_of_places ps).shape dir)) ≡ true = dir_has ps dir q.name places ∙ ap is_some k in
    let less : length (names_above (Some q.name) (names_of ((graph_of_places ps).shape dir))) < length (names_above (Some p.name) (names_of ((graph_of_places ps).shape dir))) = fewer_above p.name q.name (names_of ((graph_of_places ps).shape dir)) h has in
    let a : names_past (names_of ((graph_of_places ps).shape dir)) (slice_get ps n) ≡ length (names_above (Some q.name) (names_of ((graph_of_places ps).shape dir))) = ap (names_past (names_of ((graph_of_places ps).shape dir))) f in
    let b : names_past (names_of ((graph_of_places ps).shape dir)) (slice_get ps at) ≡ length (names_above (Some p.name) (names_of ((graph_of_places ps).shape dir))) = ap (names_past (names_of ((graph_of_places ps).shape dir))) e in
    omega arith

-- a lesser entry's place is within
pub lesser_within : (ps : List Place) (dir : ℕ) (x : Name) (n : ℕ) → IsLesser (graph_of_places ps) dir x n → n < length ps
lesser_within ps dir x n r =
    let w : n < length (plains ps) = child_within (plains ps) n dir r.0 r.1 in
    let l : length (plains ps) ≡ length ps = length-map ps plain in
    omega arith

-- and below the limit
pub lesser_below : (ps : List Place) (dir : ℕ) (x : Name) (n : ℕ) → IsPlaces ps → IsLesser (graph_of_places ps) dir x n → n < NODE_LIMIT
lesser_below ps dir x n places r =
    let w : n < length (plains ps) = child_within (plains ps) n dir r.0 r.1 in
    let l : length (plains ps) ≤ NODE_LIMIT = places.store.within in
    omega arith

-- what its place says of it
lesser_entry : (ps : List Place) (dir : ℕ) (x : Name) (n : ℕ) (p : Place) → slice_get ps n ≡ Some p → IsLesser (graph_of_places ps) dir x n → (link_of (plain p) ≡ Some (record { dir = dir; name = p.name })) × (is_above (Some p.name) x ≡ true)
lesser_entry ps dir x n p e r =
    let l : link_of (plain p) ≡ Some (record { dir = dir; name = r.0 }) = child_place ps dir r.0 n p e r.1 in
    let q : p.name ≡ r.0 = (entry_parts p dir r.0 l).1 in
    (l ∙ ap (λ (w : Name). Some (record { dir = dir; name = w })) (sym q), subst (λ (w : Name). is_above (Some w) x ≡ true) (sym q) r.2)

-- a single step
pub single_passed : (ps : List Place) (dir : ℕ) (x : Name) (n : ℕ) (p : Place) → IsPlaces ps → IsLesser (graph_of_places ps) dir x n → p ≡ get_or ps n p → IsPassed ps dir x (Some n) p.next
single_passed ps dir x n p places r v =
    let e : slice_get ps n ≡ Some p = read_place ps n p (lesser_within ps dir x n r) v in
    let l : (link_of (plain p) ≡ Some (record { dir = dir; name = p.name })) × (is_above (Some p.name) x ≡ true) = lesser_entry ps dir x n p e r in
    let b : IsBeside (graph_of_places ps) n p.next p.prev (Some (record { dir = dir; name = p.name })) = subst (IsBeside (graph_of_places ps) n p.next p.prev) l.0 (places.each n p e).beside in
    record {
      low = Some p.name;
      is_low = (n, entry_child ps dir n p places e l.0, refl);
      below = l.1;
      next_is = b.0;
    }

-- no name is greater than itself
pub not_greater : (x : Name) → is_gt (name_cmp x x) ≡ false
not_greater x = ap is_gt (tied_itself name_total x)

-- with a single step too there are fewer entries to come
pub single_nearer : (ps : List Place) (dir : ℕ) (x : Name) (n : ℕ) (p : Place) → IsPlaces ps → IsLesser (graph_of_places ps) dir x n → p ≡ get_or ps n p → rank ps dir p.next < rank ps dir (Some n)
single_nearer ps dir x n p places r v =
    let e : slice_get ps n ≡ Some p = read_place ps n p (lesser_within ps dir x n r) v in
    let l : (link_of (plain p) ≡ Some (record { dir = dir; name = p.name })) × (is_above (Some p.name) x ≡ true) = lesser_entry ps dir x n p e r in
    passed_smaller ps dir p.name p.prev (Some n) n p places (entry_passed ps dir p.name n p places e l.0 (not_greater p.name)) refl v

-- what was told, and asked, is a lesser entry
pub told_lesser : (ps : List Place) (dir : ℕ) (x : Name) (n : ℕ) (p : Place) → IsPlaces ps → n < length ps → p ≡ get_or ps n p → is_lesser p dir x ≡ true → IsLesser (graph_of_places ps) dir x n
told_lesser ps dir x n p places w v h =
    let t : (is_in (link_of (plain p)) dir ≡ true) × (is_above (Some p.name) x ≡ true) = both_true (is_in (link_of (plain p)) dir) (is_above (Some p.name) x) h in
    (p.name, entry_child ps dir n p places (read_place ps n p w v) (in_dir p dir t.0), t.1)

-- a lesser entry is an entry
pub lesser_is_entry : (graph : Graph) (dir : ℕ) (x : Name) (o : Option ℕ) → IfSome o (IsLesser graph dir x) → IfSome o (IsEntry graph dir)
lesser_is_entry graph dir x None r = tt
lesser_is_entry graph dir x (Some n) r = (r.0, r.1)

-- there are no more places than numbers
pub places_few : (ps : List Place) → IsPlaces ps → length ps ≤ NODE_LIMIT
places_few ps places =
    let l : length (plains ps) ≡ length ps = length-map ps plain in
    let h : length (plains ps) ≤ NODE_LIMIT = places.store.within in
    omega arith

-- the first name above a greater one is among those above the lesser one
find_past : (low : Option Name) (x : Name) (names : List Name) → is_above low x ≡ true → find (is_above (Some x)) names ≡ find (is_above (Some x)) (names_above low names)
find_past low x [] h = refl
find_past low x (w ∷ ws) h = go (is_above (Some x) w) refl (is_above low w) refl (find_past low x ws h)
  where
    go : (a : Bool) → is_above (Some x) w ≡ a → (b : Bool) → is_above low w ≡ b → find (is_above (Some x)) ws ≡ find (is_above (Some x)) (names_above low ws)
        → cond a (Some w) (find (is_above (Some x)) ws) ≡ find (is_above (Some x)) (cond b (w ∷ names_above low ws) (names_above low ws))
    go true e true f r = ap (λ (t : Bool). cond t (Some w) (find (is_above (Some x)) (names_above low ws))) (sym e)
    go false e true f r = r ∙ ap (λ (t : Bool). cond t (Some w) (find (is_above (Some x)) (names_above low ws))) (sym e)
    go true e false f r = let k : true ≡ false = sym (above_above low x w h e) ∙ f in absurd (cc)
    go false e false f r = r

-- so a search for the least name above one may begin where a search for that one stands
pub asked_passed : (ps : List Place) (dir : ℕ) (x : Name) (prev next : Option ℕ) → IsPassed ps dir x prev next → IsAsked ps dir (Some x) next
asked_passed ps dir x prev next s = record {
  base = s.low;
  next_is = s.next_is;
  rest = find_past s.low x (names_of ((graph_of_places ps).shape dir)) s.below;
}

-- there is at most one number
pub one_most : (o : Option ℕ) → one_of o ≤ 1
one_most None = omega arith
one_most (Some n) = omega arith
