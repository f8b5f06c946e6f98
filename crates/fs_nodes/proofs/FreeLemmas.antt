-- The list of free places: what keeps it, what shortens it and what makes it longer.
use Rattle.std.proofs.Common.{◌≡◌, ℕ, zero, suc, ◌+◌, ◌-◌, ◌<◌, ◌≤◌, Bool, true, false, cond, eqb, List, [], ◌∷◌, Option, Some, None, is_none, is_some, option_map, IfSome, get_or, set, length, refl, sym, ap, ap₂, subst, ◌∙◌, arith}
use Rattle.std.specs.Prelude.{slice_get, IsTrue}
use Rattle.std.proofs.lemmas.Option.{slice_get-map, slice_get_within}
use Rattle.std.proofs.lemmas.List.{length-map}
use Rattle.fs_names.specs.Names.{Name, has_name}
use Rattle.fs_names.specs.Shapes.{Shape, is_there, is_dir, names_of}
use Rattle.fs_names.specs.declared.limits.TheConstants.{NODE_LIMIT}
use Rattle.fs_nodes_places.specs.declared.node.Content.{Content}
use Rattle.fs_nodes_places.specs.declared.node.Content.TheVariants as contents
use Rattle.fs_nodes_places.specs.declared.node.Link.{Link}
use Rattle.fs_nodes_places.specs.declared.node.Node.{Node}
use Rattle.fs_nodes_places.specs.declared.place.Place.{Place}
use Rattle.fs_nodes_places.specs.code.PlainEdits.{relinked}
use Rattle.fs_calls.specs.Graphs.{then_at, linked_in, unlinked_in, IsReached, IsUnlinked}
use Rattle.fs_nodes_places.specs.Stores.{content_of, link_of, content_at, link_at}
use Rattle.fs_nodes_places.specs.Plains.{link_with, plain_with, plain, plains}
use Rattle.fs_nodes.specs.code.Linked.{graph_of_places, IsGap, IsPlaces, put_between, taken_out, led, followed, with_entries, entered}
use Rattle.fs_nodes.specs.code.Frees.{is_in_list, is_free, next_at, IsChain, IsFreeList, IsLinked}
use Rattle.fs_calls.proofs.EqualLemmas.{eqb_true}
use Rattle.fs_nodes_places.proofs.PlaceLemmas.{child_link, read_within}
use Rattle.fs_nodes_places.proofs.PlainEditLemmas.{place_within, child_within, past_shape}
use Rattle.fs_nodes_places.proofs.EditLemmas.{read_place, length_edited}
use Rattle.fs_nodes.proofs.StepLemmas.{dir_has, get_some, next_within, dir_length, entry_parts, child_place}
use Rattle.fs_nodes.proofs.UnlinkLemmas.{take_place, get_taken, plains_taken, take_makes}
use Rattle.fs_nodes.proofs.LinkLemmas.{is_at, put_place, get_put, plains_put, put_makes, used_content, at_true, child_low, true_false, eqb_false}

-- a list whose places lead where they led
pub chain_kept : (ps qs : List Place) (head : Option ℕ) (list : List ℕ) → ((k : ℕ) → is_in_list k list ≡ true → next_at qs k ≡ next_at ps k) → IsChain ps head list → IsChain qs head list
chain_kept ps qs head [] h c = c
chain_kept ps qs head (n ∷ ns) h c = (c.0, subst (λ (o : Option ℕ). IsChain qs o ns) (sym (h n (ap (λ (b : Bool). cond b true (is_in_list n ns)) (let e : eqb n n ≡ true = grind arith in e)))) (chain_kept ps qs (next_at ps n) ns (λ k e. h k (more k (eqb k n) e)) c.1))
  where
    more : (k : ℕ) (b : Bool) → is_in_list k ns ≡ true → cond b true (is_in_list k ns) ≡ true
    more k true e = refl
    more k false e = e

-- the free places lead where they led, and are the same
pub list_kept : (ps qs : List Place) (head : Option ℕ) → ((k : ℕ) → is_free (slice_get (plains ps) k) ≡ true → next_at qs k ≡ next_at ps k) → ((k : ℕ) → is_free (slice_get (plains qs) k) ≡ is_free (slice_get (plains ps) k)) → IsFreeList ps head → IsFreeList qs head
list_kept ps qs head ways same l = record {
  frees = l.frees;
  chain = chain_kept ps qs head l.frees (λ k e. ways k (sym (l.all k) ∙ e)) l.chain;
  apart = l.apart;
  all = λ k. l.all k ∙ sym (same k);
}

-- another node in a place with one
pub free_set : (ps : List (Option Node)) (n : ℕ) (p q : Option Node) → slice_get ps n ≡ Some p → is_none q ≡ is_none p → (k : ℕ) → is_free (slice_get (set ps n q) k) ≡ is_free (slice_get ps k)
free_set [] n p q e f k = cc
free_set (r ∷ ps) zero p q e f zero = let h : r ≡ p = cc in free_by q ∙ f ∙ sym (free_by p) ∙ ap (λ (z : Option Node). is_free (Some z)) (sym h)
  where
    free_by : (o : Option Node) → is_free (Some o) ≡ is_none o
    free_by None = refl
    free_by (Some node) = refl
free_set (r ∷ ps) zero p q e f (suc k) = refl
free_set (r ∷ ps) (suc n) p q e f zero = refl
free_set (r ∷ ps) (suc n) p q e f (suc k) = free_set ps n p q e f k

-- a place with an entry is not free
pub linked_not_free : (ps : List (Option Node)) (n : ℕ) (link : Link) → link_at ps n ≡ Some link → is_free (slice_get ps n) ≡ true → ⊥
linked_not_free ps n link e f = go (slice_get ps n) e f
  where
    go : (o : Option (Option Node)) → then_at o link_of ≡ Some link → is_free o ≡ true → ⊥
    go None h g = cc
    go (Some None) h g = cc
    go (Some (Some node)) h g = cc

-- nor is one with a node
pub used_not_free : (ps : List Place) (n : ℕ) (p : Place) (content : Content) → slice_get ps n ≡ Some p → p.content ≡ Some content → is_free (slice_get (plains ps) n) ≡ true → ⊥
used_not_free ps n p content e c f =
    let h : slice_get (plains ps) n ≡ Some (plain_with (Some content) (link_with p.parent p.name)) = slice_get-map plain ps n ∙ ap (option_map plain) e ∙ ap (λ (z : Option Content). Some (plain_with z (link_with p.parent p.name))) c in
    true_false (sym f ∙ ap is_free h)

relinked_none : (p : Option Node) (link : Option Link) → is_none (relinked p link) ≡ is_none p
relinked_none None link = refl
relinked_none (Some node) link = refl

-- a node between two siblings: the free places are as before
pub put_list : (ps : List Place) (dir n : ℕ) (x : Name) (prev next head : Option ℕ) (p : Place) (content : Content) → slice_get ps n ≡ Some p → p.content ≡ Some content → IsGap (graph_of_places ps) dir x prev next → IsFreeList ps head → IsFreeList (put_between dir n x prev next ps) head
put_list ps dir n x prev next head p content e c gap l = list_kept ps (put_between dir n x prev next ps) head ways same l
  where
    same : (k : ℕ) → is_free (slice_get (plains (put_between dir n x prev next ps)) k) ≡ is_free (slice_get (plains ps) k)
    same k = ap (λ (z : List (Option Node)). is_free (slice_get z k)) (plains_put dir n x prev next ps p e) ∙ free_set (plains ps) n (plain p) (relinked (plain p) (Some (record { dir = dir; name = x }))) (slice_get-map plain ps n ∙ ap (option_map plain) e) (relinked_none (plain p) (Some (record { dir = dir; name = x }))) k

    not_prev : (k : ℕ) → is_free (slice_get (plains ps) k) ≡ true → is_at prev k ≡ false
    not_prev k f = eqb_false (is_at prev k) (λ g. far (child_low (graph_of_places ps) dir gap.low prev k gap.is_low (at_true prev k g)))
      where
        far : (y : Name) × (gap.low ≡ Some y) × ((graph_of_places ps).child dir y ≡ Some k) → ⊥
        far r = linked_not_free (plains ps) k (record { dir = dir; name = r.0 }) (child_link (plains ps) dir r.0 k r.2) f

    not_node : (k : ℕ) → is_free (slice_get (plains ps) k) ≡ true → eqb k n ≡ false
    not_node k f = eqb_false (eqb k n) (λ g. used_not_free ps n p content e c (ap (λ (z : ℕ). is_free (slice_get (plains ps) z)) (sym (eqb_true k n g)) ∙ f))

    ways : (k : ℕ) → is_free (slice_get (plains ps) k) ≡ true → next_at (put_between dir n x prev next ps) k ≡ next_at ps k
    ways k f = ap (λ (o : Option Place). then_at o (λ p. p.next)) (get_put dir n x prev next ps k) ∙ go (slice_get ps k)
      where
        go : (o : Option Place) → then_at (option_map (put_place dir n x prev next k) o) (λ p. p.next) ≡ then_at o (λ p. p.next)
        go None = refl
        go (Some q) = ap₂ (λ (a b : Bool). cond a next (cond b (Some n) q.next)) (not_node k f) (not_prev k f)

-- there are as many places as before
length_led : (dir : ℕ) (prev to : Option ℕ) (ps : List Place) → length (led dir prev to ps) ≡ length ps
length_led dir None to ps = length_edited dir _ ps
length_led dir (Some k) to ps = length_edited k _ ps

length_followed : (next to : Option ℕ) (ps : List Place) → length (followed next to ps) ≡ length ps
length_followed None to ps = refl
length_followed (Some k) to ps = length_edited k _ ps

pub length_put : (dir n : ℕ) (x : Name) (prev next : Option ℕ) (ps : List Place) → length (put_between dir n x prev next ps) ≡ length ps
length_put dir n x prev next ps = length_edited n (entered (Some dir) x prev next) _ ∙ length_followed next (Some n) _ ∙ length_led dir prev (Some n) _ ∙ length_edited dir (λ p. with_entries (p.entries + 1) p) ps

-- a number in use has a place
pub used_place : (ps : List Place) (n : ℕ) → IsTrue (is_there ((graph_of_places ps).shape n)) → (p : Place) × (slice_get ps n ≡ Some p)
used_place ps n h =
    let w : n < length (plains ps) = place_within (plains ps) n h in
    let l : length (plains ps) ≡ length ps = length-map ps plain in
    get_some ps n (omega arith)

-- a link, whole
pub linked_link : (limit : ℕ) (ps qs : List Place) (free : Option ℕ) (dir n : ℕ) (x : Name) (prev next : Option ℕ) → IsLinked limit ps free → IsTrue (is_dir ((graph_of_places ps).shape dir)) → (graph_of_places ps).child dir x ≡ None → IsTrue (is_there ((graph_of_places ps).shape n)) → IsUnlinked (graph_of_places ps).child n → (n ≡ 0 → ⊥) → (IsReached (graph_of_places ps).child n dir → ⊥) → IsGap (graph_of_places ps) dir x prev next
    → qs ≡ put_between dir n x prev next ps → (graph_of_places qs ≡ linked_in dir x n (graph_of_places ps)) × IsLinked limit qs free
linked_link limit ps qs free dir n x prev next s is_dir absent used unlinked other apart gap e =
    let r : (p : Place) × (slice_get ps n ≡ Some p) = used_place ps n used in
    let content : (c : Content) × (r.0.content ≡ Some c) = used_content ps n r.0 r.1 used in
    let made : (graph_of_places (put_between dir n x prev next ps) ≡ linked_in dir x n (graph_of_places ps)) × IsPlaces (put_between dir n x prev next ps) = put_makes ps dir n x prev next r.0 s.places r.1 is_dir absent used unlinked other apart gap in
    let l : length (put_between dir n x prev next ps) ≡ length ps = length_put dir n x prev next ps in
    subst (λ (z : List Place). (graph_of_places z ≡ linked_in dir x n (graph_of_places ps)) × IsLinked limit z free) (sym e) (
      made.0,
      record {
        most = s.most;
        within = (let h : length ps ≤ limit = s.within in omega arith);
        places = made.1;
        list = put_list ps dir n x prev next free r.0 content.0 r.1 content.1 gap s.list;
      },
    )

-- the siblings of a gap are places
pub gap_prev : (ps : List Place) (dir : ℕ) (x : Name) (prev next : Option ℕ) → IsGap (graph_of_places ps) dir x prev next → IfSome prev (λ k. k < length ps)
gap_prev ps dir x prev next gap = go prev refl
  where
    go : (o : Option ℕ) → prev ≡ o → IfSome o (λ k. k < length ps)
    go None e = tt
    go (Some k) e =
        let r : (y : Name) × (gap.low ≡ Some y) × ((graph_of_places ps).child dir y ≡ Some k) = child_low (graph_of_places ps) dir gap.low prev k gap.is_low e in
        let w : k < length (plains ps) = child_within (plains ps) k dir r.0 r.2 in
        let l : length (plains ps) ≡ length ps = length-map ps plain in
        omega arith

-- the one after
pub gap_next : (ps : List Place) (dir : ℕ) (x : Name) (prev next : Option ℕ) → IsGap (graph_of_places ps) dir x prev next → IfSome next (λ k. k < length ps)
gap_next ps dir x prev next gap = go next refl
  where
    go : (o : Option ℕ) → next ≡ o → IfSome o (λ k. k < length ps)
    go None e = tt
    go (Some k) e = next_within ps dir gap.low k (sym gap.next_is ∙ e)

-- a directory's count fits
pub few_entries : (ps : List Place) (dir : ℕ) → IsPlaces ps → IfSome (slice_get ps dir) (λ p. p.entries ≤ NODE_LIMIT)
few_entries ps dir places = go (slice_get ps dir) refl
  where
    go : (o : Option Place) → slice_get ps dir ≡ o → IfSome o (λ p. p.entries ≤ NODE_LIMIT)
    go None e = tt
    go (Some p) e =
        let h : p.entries ≡ length (names_of ((graph_of_places ps).shape dir)) = (places.each dir p e).entries in
        let k : length (names_of ((graph_of_places ps).shape dir)) ≤ NODE_LIMIT = dir_length ps dir places in
        omega arith

-- what the code reads of a count
pub count_read : (ps : List Place) (dir i : ℕ) (p : Place) → IsPlaces ps → i ≡ dir → i < length ps → p ≡ get_or ps i p → p.entries ≡ length (names_of ((graph_of_places ps).shape dir))
count_read ps dir i p places e h v = (places.each i p (read_place ps i p h v)).entries ∙ ap (λ (z : ℕ). length (names_of ((graph_of_places ps).shape z))) e

-- past the places there are no entries
pub count_past : (ps : List Place) (dir : ℕ) → length ps ≤ dir → 0 ≡ length (names_of ((graph_of_places ps).shape dir))
count_past ps dir h =
    let l : length (plains ps) ≡ length ps = length-map ps plain in
    let e : (graph_of_places ps).shape dir ≡ None = past_shape (plains ps) dir (omega arith) in
    ap (λ (o : Option Shape). length (names_of o)) (sym e)

-- there are as many places as before
pub length_taken : (dir n : ℕ) (blank : Name) (prev next : Option ℕ) (ps : List Place) → length (taken_out dir n blank prev next ps) ≡ length ps
length_taken dir n blank prev next ps = length_edited n (entered None blank None None) _ ∙ length_followed next prev _ ∙ length_led dir prev next _ ∙ length_edited dir (λ p. with_entries (p.entries - 1) p) ps

-- a node that leaves its place: the free places are as before
pub take_list : (ps : List Place) (dir n : ℕ) (x blank : Name) (prev next head : Option ℕ) (p : Place) → slice_get ps n ≡ Some p → (graph_of_places ps).child dir x ≡ Some n → IsGap (graph_of_places (taken_out dir n blank prev next ps)) dir x prev next → IsFreeList ps head → IsFreeList (taken_out dir n blank prev next ps) head
take_list ps dir n x blank prev next head p e child gap l = list_kept ps (taken_out dir n blank prev next ps) head ways same l
  where
    same : (k : ℕ) → is_free (slice_get (plains (taken_out dir n blank prev next ps)) k) ≡ is_free (slice_get (plains ps) k)
    same k = ap (λ (z : List (Option Node)). is_free (slice_get z k)) (plains_taken dir n blank prev next ps p e) ∙ free_set (plains ps) n (plain p) (relinked (plain p) None) (slice_get-map plain ps n ∙ ap (option_map plain) e) (relinked_none (plain p) None) k

    not_prev : (k : ℕ) → is_free (slice_get (plains ps) k) ≡ true → is_at prev k ≡ false
    not_prev k f = eqb_false (is_at prev k) (λ g. far (child_low (graph_of_places (taken_out dir n blank prev next ps)) dir gap.low prev k gap.is_low (at_true prev k g)))
      where
        far : (y : Name) × (gap.low ≡ Some y) × ((graph_of_places (taken_out dir n blank prev next ps)).child dir y ≡ Some k) → ⊥
        far r = linked_not_free (plains (taken_out dir n blank prev next ps)) k (record { dir = dir; name = r.0 }) (child_link (plains (taken_out dir n blank prev next ps)) dir r.0 k r.2) (same k ∙ f)

    not_node : (k : ℕ) → is_free (slice_get (plains ps) k) ≡ true → eqb k n ≡ false
    not_node k f = eqb_false (eqb k n) (λ g. linked_not_free (plains ps) n (record { dir = dir; name = x }) (child_link (plains ps) dir x n child) (ap (λ (z : ℕ). is_free (slice_get (plains ps) z)) (sym (eqb_true k n g)) ∙ f))

    ways : (k : ℕ) → is_free (slice_get (plains ps) k) ≡ true → next_at (taken_out dir n blank prev next ps) k ≡ next_at ps k
    ways k f = ap (λ (o : Option Place). then_at o (λ p. p.next)) (get_taken dir n blank prev next ps k) ∙ go (slice_get ps k)
      where
        go : (o : Option Place) → then_at (option_map (take_place dir n blank prev next k) o) (λ p. p.next) ≡ then_at o (λ p. p.next)
        go None = refl
        go (Some q) = ap₂ (λ (a b : Bool). cond a None (cond b next q.next)) (not_node k f) (not_prev k f)

-- an unlink, whole
pub linked_unlink : (limit : ℕ) (ps qs : List Place) (free : Option ℕ) (dir n : ℕ) (x blank : Name) (p : Place) (prev next : Option ℕ) → IsLinked limit ps free → slice_get ps n ≡ Some p → prev ≡ p.prev → next ≡ p.next → (graph_of_places ps).child dir x ≡ Some n
    → qs ≡ taken_out dir n blank prev next ps → (graph_of_places qs ≡ unlinked_in dir x (graph_of_places ps)) × IsLinked limit qs free
linked_unlink limit ps qs free dir n x blank p prev next s there a b child e =
    let made : (graph_of_places (taken_out dir n blank p.prev p.next ps) ≡ unlinked_in dir x (graph_of_places ps)) × IsPlaces (taken_out dir n blank p.prev p.next ps) × IsGap (graph_of_places (taken_out dir n blank p.prev p.next ps)) dir x p.prev p.next = take_makes ps dir n x blank p s.places there child in
    let l : length (taken_out dir n blank p.prev p.next ps) ≡ length ps = length_taken dir n blank p.prev p.next ps in
    let f : qs ≡ taken_out dir n blank p.prev p.next ps = e ∙ ap₂ (λ (i j : Option ℕ). taken_out dir n blank i j ps) a b in
    subst (λ (z : List Place). (graph_of_places z ≡ unlinked_in dir x (graph_of_places ps)) × IsLinked limit z free) (sym f) (
      made.0,
      record {
        most = s.most;
        within = (let h : length ps ≤ limit = s.within in omega arith);
        places = made.1;
        list = take_list ps dir n x blank p.prev p.next free p there child made.2 s.list;
      },
    )

-- the siblings of a node are places
pub side_within : (ps : List Place) (dir n : ℕ) (x : Name) (p : Place) → IsPlaces ps → slice_get ps n ≡ Some p → (graph_of_places ps).child dir x ≡ Some n → IfSome p.prev (λ k. k < length ps) × IfSome p.next (λ k. k < length ps)
side_within ps dir n x p places there child =
    let made : (graph_of_places (taken_out dir n x p.prev p.next ps) ≡ unlinked_in dir x (graph_of_places ps)) × IsPlaces (taken_out dir n x p.prev p.next ps) × IsGap (graph_of_places (taken_out dir n x p.prev p.next ps)) dir x p.prev p.next = take_makes ps dir n x x p places there child in
    let l : length (taken_out dir n x p.prev p.next ps) ≡ length ps = length_taken dir n x p.prev p.next ps in
    (subst (λ (z : ℕ). IfSome p.prev (λ k. k < z)) l (gap_prev (taken_out dir n x p.prev p.next ps) dir x p.prev p.next made.2), subst (λ (z : ℕ). IfSome p.next (λ k. k < z)) l (gap_next (taken_out dir n x p.prev p.next ps) dir x p.prev p.next made.2))

-- a directory with an entry counts one at least
pub some_entries : (ps : List Place) (dir n : ℕ) (x : Name) → IsPlaces ps → (graph_of_places ps).child dir x ≡ Some n → IfSome (slice_get ps dir) (λ p. 1 ≤ p.entries)
some_entries ps dir n x places child = go (slice_get ps dir) refl
  where
    long : (names : List Name) → has_name x names ≡ true → 1 ≤ length names
    long [] h = absurd (cc)
    long (y ∷ names) h = omega arith

    go : (o : Option Place) → slice_get ps dir ≡ o → IfSome o (λ p. 1 ≤ p.entries)
    go None e = tt
    go (Some p) e =
        let h : p.entries ≡ length (names_of ((graph_of_places ps).shape dir)) = (places.each dir p e).entries in
        let k : 1 ≤ length (names_of ((graph_of_places ps).shape dir)) = long (names_of ((graph_of_places ps).shape dir)) (dir_has ps dir x places ∙ ap is_some child) in
        omega arith

-- what an entry names has a place
pub child_read : (ps : List Place) (dir n : ℕ) (x : Name) (prev next : Option ℕ) → (graph_of_places ps).child dir x ≡ Some n → IfSome (slice_get ps n) (λ p. (prev ≡ p.prev) × (next ≡ p.next)) → (p : Place) × (slice_get ps n ≡ Some p) × (prev ≡ p.prev) × (next ≡ p.next)
child_read ps dir n x prev next child both =
    let w : n < length (plains ps) = child_within (plains ps) n dir x child in
    let l : length (plains ps) ≡ length ps = length-map ps plain in
    let r : (p : Place) × (slice_get ps n ≡ Some p) = get_some ps n (omega arith) in
    let t : (prev ≡ r.0.prev) × (next ≡ r.0.next) = subst (λ (o : Option Place). IfSome o (λ p. (prev ≡ p.prev) × (next ≡ p.next))) r.1 both in
    (r.0, r.1, t.0, t.1)

-- the place of what an entry names is within
pub child_inside : (ps : List Place) (dir n : ℕ) (x : Name) → (graph_of_places ps).child dir x ≡ Some n → n < length ps
child_inside ps dir n x child =
    let w : n < length (plains ps) = child_within (plains ps) n dir x child in
    let l : length (plains ps) ≡ length ps = length-map ps plain in
    omega arith

-- and has its name
pub label_read : (ps : List Place) (dir n : ℕ) (x label : Name) → (graph_of_places ps).child dir x ≡ Some n → IfSome (slice_get ps n) (λ p. label ≡ p.name) → label ≡ x
label_read ps dir n x label child told =
    let r : (p : Place) × (slice_get ps n ≡ Some p) = get_some ps n (child_inside ps dir n x child) in
    let h : label ≡ r.0.name = subst (λ (o : Option Place). IfSome o (λ p. label ≡ p.name)) r.1 told in
    h ∙ (entry_parts r.0 dir x (child_place ps dir x n r.0 r.1 child)).1

-- and so is its directory's
pub dir_inside : (ps : List Place) (dir n : ℕ) (x : Name) → IsPlaces ps → (graph_of_places ps).child dir x ≡ Some n → dir < length ps
dir_inside ps dir n x places child =
    let d : content_at (plains ps) dir ≡ Some contents.Dir = places.store.of_dir n (record { dir = dir; name = x }) (child_link (plains ps) dir x n child) in
    let r : (q : Option Node) × (slice_get (plains ps) dir ≡ Some q) × (content_of q ≡ Some contents.Dir) = read_within content_of (plains ps) dir contents.Dir d in
    let w : dir < length (plains ps) = slice_get_within (plains ps) dir r.0 r.1 in
    let l : length (plains ps) ≡ length ps = length-map ps plain in
    omega arith

-- the siblings that the code reads are places
pub side_read : (ps : List Place) (dir n : ℕ) (x : Name) (prev next : Option ℕ) → IsPlaces ps → (graph_of_places ps).child dir x ≡ Some n → IfSome (slice_get ps n) (λ p. (prev ≡ p.prev) × (next ≡ p.next)) → IfSome prev (λ k. k < length ps) × IfSome next (λ k. k < length ps)
side_read ps dir n x prev next places child both =
    let r : (p : Place) × (slice_get ps n ≡ Some p) × (prev ≡ p.prev) × (next ≡ p.next) = child_read ps dir n x prev next child both in
    let t : IfSome r.0.prev (λ k. k < length ps) × IfSome r.0.next (λ k. k < length ps) = side_within ps dir n x r.0 places r.1 child in
    (subst (λ (o : Option ℕ). IfSome o (λ k. k < length ps)) (sym r.2) t.0, subst (λ (o : Option ℕ). IfSome o (λ k. k < length ps)) (sym r.3) t.1)

-- an unlink, as the code makes it
pub unlink_read : (limit : ℕ) (ps qs : List Place) (free : Option ℕ) (dir n : ℕ) (x blank : Name) (prev next : Option ℕ) → IsLinked limit ps free → (graph_of_places ps).child dir x ≡ Some n → IfSome (slice_get ps n) (λ p. (prev ≡ p.prev) × (next ≡ p.next))
    → qs ≡ taken_out dir n blank prev next ps → (graph_of_places qs ≡ unlinked_in dir x (graph_of_places ps)) × IsLinked limit qs free
unlink_read limit ps qs free dir n x blank prev next s child both e =
    let r : (p : Place) × (slice_get ps n ≡ Some p) × (prev ≡ p.prev) × (next ≡ p.next) = child_read ps dir n x prev next child both in
    linked_unlink limit ps qs free dir n x blank r.0 prev next s r.1 r.2 r.3 child e
