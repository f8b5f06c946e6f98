-- Numbers that come into use and leave it.
use Rattle.std.proofs.Common.{◌≡◌, ◌⊎◌, inl, inr, ℕ, zero, suc, ◌<◌, ◌≤◌, Bool, true, false, cond, eqb, List, [], ◌∷◌, ◌++◌, Option, Some, None, option_map, IfSome, set, length, refl, sym, ap, ap₂, subst, ◌∙◌, arith}
use Rattle.std.specs.Prelude.{slice_get, IsTrue}
use Rattle.std.specs.List.{find}
use Rattle.std.proofs.lemmas.Option.{slice_get-map, slice_get_within}
use Rattle.std.proofs.lemmas.List.{length-map}
use Rattle.fs_names.specs.Names.{Name}
use Rattle.fs_names.specs.Shapes.{Shape, is_there, has_any, has_entries, names_of}
use Rattle.fs_names.specs.declared.kind.Kind.{Kind}
use Rattle.fs_names.specs.declared.kind.Kind.TheVariants as kinds
use Rattle.fs_names.specs.declared.limits.TheConstants.{NODE_LIMIT}
use Rattle.fs_nodes_places.specs.declared.node.Content.{Content}
use Rattle.fs_nodes_places.specs.declared.node.Link.{Link}
use Rattle.fs_nodes_places.specs.declared.node.Node.{Node}
use Rattle.fs_nodes_places.specs.declared.place.Place.{Place}
use Rattle.fs_nodes_places.specs.code.PlainEdits.{new_content, new_node, IsTaken}
use Rattle.fs_calls.specs.Graphs.{Graph, Children, then_at, set_at, released_in, reserved_in, used_below, IsUnlinked}
use Rattle.fs_nodes_places.specs.Stores.{content_of, link_of, names_in, shape_with, graph_in, is_above, new_shape, IsStore}
use Rattle.fs_nodes_places.specs.Plains.{link_with, plain_with, plain, plains}
use Rattle.fs_nodes_places.specs.code.Edits.{edited, vacated, filled}
use Rattle.fs_nodes.specs.code.Linked.{graph_of_places, next_child, IsPrev, IsBeside, IsIndexed, IsPlaces}
use Rattle.fs_nodes.specs.code.Frees.{is_in_list, IsApart, is_free, next_at, IsChain, IsFreeList, IsLinked}
use Rattle.fs_calls.proofs.EqualLemmas.{eqb_true, eqb_refl}
use Rattle.fs_nodes_places.proofs.PlainEditLemmas.{Makes, release_makes, reserve_makes, push_makes, past_shape}
use Rattle.fs_nodes_places.proofs.StoreLemmas.{used_places, free_place, root_taken}
use Rattle.fs_nodes_places.proofs.EditLemmas.{get_edited, length_edited, plains_set}
use Rattle.fs_nodes.proofs.LinkLemmas.{true_false, eqb_false, used_content}
use Rattle.fs_nodes.proofs.FreeLemmas.{chain_kept, used_not_free, used_place}

-- what comes next goes by the names alone
next_same : (children : Children) (old new : ℕ → Option Shape) (d : ℕ) (low : Option Name) → names_of (new d) ≡ names_of (old d) → next_child (record { child = children; shape = new }) d low ≡ next_child (record { child = children; shape = old }) d low
next_same children old new d low h = ap (λ (names : List Name). then_at (find (is_above low) names) (children d)) h

beside_same : (children : Children) (old new : ℕ → Option Shape) (n : ℕ) (next prev : Option ℕ) (l : Option Link) → ((d : ℕ) → names_of (new d) ≡ names_of (old d)) → IsBeside (record { child = children; shape = old }) n next prev l → IsBeside (record { child = children; shape = new }) n next prev l
beside_same children old new n next prev None h b = tt
beside_same children old new n next prev (Some link) h b = (b.0 ∙ sym (next_same children old new link.dir (Some link.name) (h link.dir)), go prev b.1)
  where
    go : (o : Option ℕ) → IsPrev (record { child = children; shape = old }) link.dir n o → IsPrev (record { child = children; shape = new }) link.dir n o
    go None i = next_same children old new link.dir None (h link.dir) ∙ i
    go (Some k) i = (i.0, i.1, next_same children old new link.dir (Some i.0) (h link.dir) ∙ i.2)

-- a place's ways, where each directory keeps its names
pub indexed_same : (children : Children) (old new : ℕ → Option Shape) (n : ℕ) (p q : Place) → ((d : ℕ) → names_of (new d) ≡ names_of (old d)) → q.entries ≡ p.entries → q.first ≡ p.first → IsBeside (record { child = children; shape = old }) n q.next q.prev (link_of (plain q)) → IsIndexed (record { child = children; shape = old }) n p → IsIndexed (record { child = children; shape = new }) n q
indexed_same children old new n p q h e f b i = record {
  entries = e ∙ i.entries ∙ sym (ap length (h n));
  first = f ∙ i.first ∙ sym (next_same children old new n None (h n));
  beside = beside_same children old new n q.next q.prev (link_of (plain q)) h b;
}

-- a number changes its shape and not its names
pub names_at : (shapes : ℕ → Option Shape) (n : ℕ) (s : Option Shape) → names_of s ≡ names_of (shapes n) → (d : ℕ) → names_of (set_at n s shapes d) ≡ names_of (shapes d)
names_at shapes n s h d = go (eqb d n) refl
  where
    go : (b : Bool) → eqb d n ≡ b → names_of (cond b s (shapes d)) ≡ names_of (shapes d)
    go true e = h ∙ ap (λ (z : ℕ). names_of (shapes z)) (sym (eqb_true d n e))
    go false e = refl

-- what is read after an edit of one place
pub edited_read : (n : ℕ) (f : Place → Place) (ps : List Place) (m : ℕ) (q : Place) → slice_get (edited n f ps) m ≡ Some q → (p : Place) × (slice_get ps m ≡ Some p) × (q ≡ cond (eqb m n) (f p) p)
edited_read n f ps m q e = go (slice_get ps m) refl (sym (get_edited n f ps m) ∙ e)
  where
    go : (o : Option Place) → slice_get ps m ≡ o → option_map (λ p. cond (eqb m n) (f p) p) o ≡ Some q → (p : Place) × (slice_get ps m ≡ Some p) × (q ≡ cond (eqb m n) (f p) p)
    go None g h = absurd (cc)
    go (Some p) g h = let k : cond (eqb m n) (f p) p ≡ q = cc in (p, g, sym k)

-- one place is edited, which no entry names then, and directories keep their names
pub one_indexed : (ps : List Place) (n : ℕ) (f : Place → Place) (s : Option Shape) → IsPlaces ps → names_of s ≡ names_of ((graph_of_places ps).shape n) → ((p : Place) → ((f p).entries ≡ p.entries) × ((f p).first ≡ p.first) × (link_of (plain (f p)) ≡ None))
    → (m : ℕ) (q : Place) → slice_get (edited n f ps) m ≡ Some q → IsIndexed (record { child = (graph_of_places ps).child; shape = set_at n s (graph_of_places ps).shape }) m q
one_indexed ps n f s places h k m q e =
    let r : (p : Place) × (slice_get ps m ≡ Some p) × (q ≡ cond (eqb m n) (f p) p) = edited_read n f ps m q e in
    subst (IsIndexed (record { child = (graph_of_places ps).child; shape = set_at n s (graph_of_places ps).shape }) m) (sym r.2) (go r.0 (places.each m r.0 r.1) (eqb m n))
  where
    names : (d : ℕ) → names_of (set_at n s (graph_of_places ps).shape d) ≡ names_of ((graph_of_places ps).shape d)
    names = names_at (graph_of_places ps).shape n s h

    go : (p : Place) → IsIndexed (graph_of_places ps) m p → (b : Bool) → IsIndexed (record { child = (graph_of_places ps).child; shape = set_at n s (graph_of_places ps).shape }) m (cond b (f p) p)
    go p i true = indexed_same (graph_of_places ps).child (graph_of_places ps).shape (set_at n s (graph_of_places ps).shape) m p (f p) names (k p).0 (k p).1 (subst (IsBeside (graph_of_places ps) m (f p).next (f p).prev) (sym (k p).2) tt) i
    go p i false = indexed_same (graph_of_places ps).child (graph_of_places ps).shape (set_at n s (graph_of_places ps).shape) m p p names refl refl i.beside i

-- the free places, where one node comes or goes
free_at : (ps : List (Option Node)) (n : ℕ) (p q : Option Node) → slice_get ps n ≡ Some p → (k : ℕ) → is_free (slice_get (set ps n q) k) ≡ cond (eqb k n) (is_free (Some q)) (is_free (slice_get ps k))
free_at [] n p q e k = cc
free_at (r ∷ ps) zero p q e zero = refl
free_at (r ∷ ps) zero p q e (suc k) = let h : false ≡ eqb (suc k) 0 = grind arith in ap (λ (b : Bool). cond b (is_free (Some q)) (is_free (slice_get ps k))) h
free_at (r ∷ ps) (suc n) p q e zero = let h : false ≡ eqb 0 (suc n) = grind arith in ap (λ (b : Bool). cond b (is_free (Some q)) (is_free (Some r))) h
free_at (r ∷ ps) (suc n) p q e (suc k) = free_at ps n p q e k ∙ (let h : eqb k n ≡ eqb (suc k) (suc n) = grind arith in ap (λ (b : Bool). cond b (is_free (Some q)) (is_free (slice_get ps k))) h)

-- where a place leads after an edit
pub next_edited : (n : ℕ) (f : Place → Place) (ps : List Place) (p : Place) → slice_get ps n ≡ Some p → (k : ℕ) → next_at (edited n f ps) k ≡ cond (eqb k n) (f p).next (next_at ps k)
next_edited n f ps p e k = ap (λ (o : Option Place). then_at o (λ q. q.next)) (get_edited n f ps k) ∙ go (eqb k n) refl
  where
    go : (b : Bool) → eqb k n ≡ b → then_at (option_map (λ q. cond b (f q) q) (slice_get ps k)) (λ q. q.next) ≡ cond b (f p).next (next_at ps k)
    go true h = ap (λ (o : Option Place). then_at (option_map f o) (λ q. q.next)) (ap (slice_get ps) (eqb_true k n h) ∙ e)
    go false h = same (slice_get ps k)
      where
        same : (o : Option Place) → then_at (option_map (λ q. q) o) (λ q. q.next) ≡ then_at o (λ q. q.next)
        same None = refl
        same (Some q) = refl

-- a place that becomes free comes first in the list
pub vacated_list : (ps : List Place) (n : ℕ) (p : Place) (content : Content) (head : Option ℕ) → slice_get ps n ≡ Some p → p.content ≡ Some content → IsFreeList ps head → IsFreeList (edited n (vacated head) ps) (Some n)
vacated_list ps n p content head e c l = record {
  frees = n ∷ l.frees;
  chain = (refl, subst (λ (o : Option ℕ). IsChain (edited n (vacated head) ps) o l.frees) (sym (next_edited n (vacated head) ps p e n ∙ ap (λ (b : Bool). cond b head (next_at ps n)) (eqb_refl n))) (chain_kept ps (edited n (vacated head) ps) head l.frees ways l.chain));
  apart = (out, l.apart);
  all = λ k. all k (eqb k n);
}
  where
    out : is_in_list n l.frees ≡ false
    out = eqb_false (is_in_list n l.frees) (λ h. used_not_free ps n p content e c (sym (l.all n) ∙ h))

    ways : (k : ℕ) → is_in_list k l.frees ≡ true → next_at (edited n (vacated head) ps) k ≡ next_at ps k
    ways k h = next_edited n (vacated head) ps p e k ∙ ap (λ (b : Bool). cond b head (next_at ps k)) (eqb_false (eqb k n) (λ g. true_false (sym h ∙ ap (λ (z : ℕ). is_in_list z l.frees) (eqb_true k n g) ∙ out)))

    all : (k : ℕ) (b : Bool) → is_in_list k (n ∷ l.frees) ≡ is_free (slice_get (plains (edited n (vacated head) ps)) k)
    all k b = ap (λ (t : Bool). cond (eqb k n) true t) (l.all k) ∙ sym (free_at (plains ps) n (plain p) None (slice_get-map plain ps n ∙ ap (option_map plain) e) k) ∙ ap (λ (z : List (Option Node)). is_free (slice_get z k)) (sym (plains_set n (vacated head) ps p e))

-- a shape without entries
no_entries : (s : Option Shape) → has_entries s ≡ false → names_of None ≡ names_of s
no_entries s h = go (names_of s) h
  where
    go : (names : List Name) → has_any names ≡ false → [] ≡ names
    go [] g = refl
    go (x ∷ names) g = cc

-- a release, whole
pub linked_release : (limit : ℕ) (ps qs : List Place) (free : Option ℕ) (n : ℕ) → IsLinked limit ps free → IsTrue (is_there ((graph_of_places ps).shape n)) → IsUnlinked (graph_of_places ps).child n → (n ≡ 0 → ⊥) → has_entries ((graph_of_places ps).shape n) ≡ false → qs ≡ edited n (vacated free) ps
    → (graph_of_places qs ≡ released_in n (graph_of_places ps)) × IsLinked limit qs (Some n)
linked_release limit ps qs free n s used unlinked other empty e =
    let r : (p : Place) × (slice_get ps n ≡ Some p) = used_place ps n used in
    let content : (c : Content) × (r.0.content ≡ Some c) = used_content ps n r.0 r.1 used in
    let at : slice_get (plains ps) n ≡ Some (plain r.0) = slice_get-map plain ps n ∙ ap (option_map plain) r.1 in
    let made : Makes NODE_LIMIT (set (plains ps) n None) (released_in n (graph_of_places ps)) = release_makes NODE_LIMIT (plains ps) n (plain r.0) None s.places.store at unlinked other empty refl in
    let here : set (plains ps) n None ≡ plains (edited n (vacated free) ps) = sym (plains_set n (vacated free) ps r.0 r.1) in
    let graph : graph_of_places (edited n (vacated free) ps) ≡ released_in n (graph_of_places ps) = subst (λ (l : List (Option Node)). graph_in l ≡ released_in n (graph_of_places ps)) here made.0 in
    let l : length (edited n (vacated free) ps) ≡ length ps = length_edited n (vacated free) ps in
    subst (λ (z : List Place). (graph_of_places z ≡ released_in n (graph_of_places ps)) × IsLinked limit z (Some n)) (sym e) (
      graph,
      record {
        most = s.most;
        within = (let h : length ps ≤ limit = s.within in omega arith);
        places = record {
          store = subst (IsStore NODE_LIMIT) here made.1;
          each = λ m q g. subst (λ (z : Graph). IsIndexed z m q) (sym graph) (one_indexed ps n (vacated free) None s.places (no_entries ((graph_of_places ps).shape n) empty) (λ p. (refl, refl, refl)) m q g);
        };
        list = vacated_list ps n r.0 content.0 free r.1 content.1 s.list;
      },
    )

-- the first place of the list
pub first_free : (ps : List Place) (n : ℕ) → (l : IsFreeList ps (Some n)) → (ns : List ℕ) × (l.frees ≡ n ∷ ns)
first_free ps n l = go l.frees l.chain
  where
    go : (list : List ℕ) → IsChain ps (Some n) list → (ns : List ℕ) × (list ≡ n ∷ ns)
    go [] c = let h : ◌≡◌ {A = Option ℕ} (Some n) None = c in absurd (cc)
    go (k ∷ ks) c = let h : n ≡ k = cc in (ks, ap (λ (z : ℕ). z ∷ ks) (sym h))

-- it is free
pub first_is_free : (ps : List Place) (n : ℕ) → IsFreeList ps (Some n) → slice_get (plains ps) n ≡ Some None
first_is_free ps n l =
    let r : (ns : List ℕ) × (l.frees ≡ n ∷ ns) = first_free ps n l in
    go (slice_get (plains ps) n) (sym (l.all n) ∙ ap (is_in_list n) r.1 ∙ ap (λ (b : Bool). cond b true (is_in_list n r.0)) (eqb_refl n))
  where
    go : (o : Option (Option Node)) → is_free o ≡ true → o ≡ Some None
    go None h = cc
    go (Some None) h = refl
    go (Some (Some node)) h = cc

-- the list without it
pub filled_list : (ps : List Place) (n : ℕ) (p : Place) (content : Content) → slice_get ps n ≡ Some p → IsFreeList ps (Some n) → IsFreeList (edited n (filled content) ps) p.next
filled_list ps n p content e l =
    let r : (ns : List ℕ) × (l.frees ≡ n ∷ ns) = first_free ps n l in
    let c : IsChain ps (Some n) (n ∷ r.0) = subst (IsChain ps (Some n)) r.1 l.chain in
    let a : IsApart (n ∷ r.0) = subst IsApart r.1 l.apart in
    let all : (k : ℕ) → is_in_list k (n ∷ r.0) ≡ is_free (slice_get (plains ps) k) = λ k. ap (is_in_list k) (sym r.1) ∙ l.all k in
    go r.0 c a all
  where
    node : Node
    node = record { content = content; link = None }

    go : (ns : List ℕ) → IsChain ps (Some n) (n ∷ ns) → IsApart (n ∷ ns) → ((k : ℕ) → is_in_list k (n ∷ ns) ≡ is_free (slice_get (plains ps) k)) → IsFreeList (edited n (filled content) ps) p.next
    go ns c a every = record {
      frees = ns;
      chain = chain_kept ps (edited n (filled content) ps) p.next ns ways (subst (λ (o : Option ℕ). IsChain ps o ns) (ap (λ (o : Option Place). then_at o (λ q. q.next)) e) c.1);
      apart = a.1;
      all = λ k. all k (eqb k n) refl;
    }
      where
        ways : (k : ℕ) → is_in_list k ns ≡ true → next_at (edited n (filled content) ps) k ≡ next_at ps k
        ways k h = next_edited n (filled content) ps p e k ∙ ap (λ (b : Bool). cond b None (next_at ps k)) (eqb_false (eqb k n) (λ g. true_false (sym h ∙ ap (λ (z : ℕ). is_in_list z ns) (eqb_true k n g) ∙ a.0)))

        there : (k : ℕ) → is_free (slice_get (plains (edited n (filled content) ps)) k) ≡ cond (eqb k n) false (is_free (slice_get (plains ps) k))
        there k = ap (λ (z : List (Option Node)). is_free (slice_get z k)) (plains_set n (filled content) ps p e) ∙ free_at (plains ps) n (plain p) (Some (record { content = content; link = None })) (slice_get-map plain ps n ∙ ap (option_map plain) e) k

        all : (k : ℕ) (b : Bool) → eqb k n ≡ b → is_in_list k ns ≡ is_free (slice_get (plains (edited n (filled content) ps)) k)
        all k true g = ap (λ (z : ℕ). is_in_list z ns) (eqb_true k n g) ∙ a.0 ∙ sym (there k ∙ ap (λ (t : Bool). cond t false (is_free (slice_get (plains ps) k))) g)
        all k false g = sym (ap (λ (t : Bool). cond t true (is_in_list k ns)) g) ∙ every k ∙ sym (there k ∙ ap (λ (t : Bool). cond t false (is_free (slice_get (plains ps) k))) g)

-- a new shape has no names
new_names : (kind : Kind) → names_of (Some (new_shape kind)) ≡ []
new_names kinds.Dir = refl
new_names kinds.File = refl

-- a reservation from the list, whole
pub linked_reserve : (b : Bool) (limit : ℕ) (ps qs : List Place) (free : Option ℕ) (n : ℕ) (p : Place) (kind : Kind) (next : Option ℕ) → IsLinked limit ps free → free ≡ Some n → slice_get ps n ≡ Some p → next ≡ p.next → qs ≡ edited n (filled (new_content b kind)) ps
    → (graph_of_places qs ≡ reserved_in n (new_shape kind) (graph_of_places ps)) × IsLinked limit qs next
linked_reserve b limit ps qs free n p kind next s first there e f =
    let list : IsFreeList ps (Some n) = subst (IsFreeList ps) first s.list in
    let at : slice_get (plains ps) n ≡ Some None = first_is_free ps n list in
    let made : Makes NODE_LIMIT (set (plains ps) n (Some (new_node b kind))) (reserved_in n (new_shape kind) (graph_of_places ps)) = reserve_makes b NODE_LIMIT (plains ps) n (Some (new_node b kind)) kind s.places.store at refl in
    let here : set (plains ps) n (Some (new_node b kind)) ≡ plains (edited n (filled (new_content b kind)) ps) = sym (plains_set n (filled (new_content b kind)) ps p there) in
    let graph : graph_of_places (edited n (filled (new_content b kind)) ps) ≡ reserved_in n (new_shape kind) (graph_of_places ps) = subst (λ (l : List (Option Node)). graph_in l ≡ reserved_in n (new_shape kind) (graph_of_places ps)) here made.0 in
    let l : length (edited n (filled (new_content b kind)) ps) ≡ length ps = length_edited n (filled (new_content b kind)) ps in
    let gone : names_of ((graph_of_places ps).shape n) ≡ [] = ap (λ (o : Option (Option Node)). names_of (option_map (shape_with (names_in (plains ps) n)) (then_at o content_of))) at in
    subst (λ (z : List Place). (graph_of_places z ≡ reserved_in n (new_shape kind) (graph_of_places ps)) × IsLinked limit z next) (sym f) (
      graph,
      record {
        most = s.most;
        within = (let h : length ps ≤ limit = s.within in omega arith);
        places = record {
          store = subst (IsStore NODE_LIMIT) here made.1;
          each = λ m q g. subst (λ (z : Graph). IsIndexed z m q) (sym graph) (one_indexed ps n (filled (new_content b kind)) (Some (new_shape kind)) s.places (new_names kind ∙ sym gone) (λ p. (refl, refl, refl)) m q g);
        };
        list = subst (IsFreeList (edited n (filled (new_content b kind)) ps)) (sym e) (filled_list ps n p (new_content b kind) there list);
      },
    )

-- what is not read is past the end
no_get : {A : Type 0} (ps : List A) (k : ℕ) → slice_get ps k ≡ None → length ps ≤ k
no_get [] k e = omega arith
no_get (p ∷ ps) zero e = cc
no_get (p ∷ ps) (suc k) e = let h : length ps ≤ k = no_get ps k e in omega arith

-- where the list is empty, each place has a node
pub none_free : (ps : List Place) → IsFreeList ps None → (k : ℕ) → k < length (plains ps) → IsTaken (slice_get (plains ps) k)
none_free ps l k h = go l.frees l.chain (l.all k)
  where
    go : (list : List ℕ) → IsChain ps None list → is_in_list k list ≡ is_free (slice_get (plains ps) k) → IsTaken (slice_get (plains ps) k)
    go (n ∷ ns) c e = let w : ◌≡◌ {A = Option ℕ} None (Some n) = c.0 in absurd (cc)
    go [] c e = by (slice_get (plains ps) k) refl e
      where
        by : (o : Option (Option Node)) → slice_get (plains ps) k ≡ o → false ≡ is_free o → IsTaken o
        by None f g = let w : length (plains ps) ≤ k = no_get (plains ps) k f in absurd (omega arith)
        by (Some None) f g = absurd (true_false (sym g))
        by (Some (Some node)) f g = tt

-- one place more
plains_push : (ps : List Place) (p : Place) → plains (ps ++ p ∷ []) ≡ plains ps ++ plain p ∷ []
plains_push [] p = refl
plains_push (q ∷ ps) p = ap (λ (l : List (Option Node)). plain q ∷ l) (plains_push ps p)

-- what is read of it
push_read : (ps : List Place) (p : Place) (m : ℕ) (q : Place) → slice_get (ps ++ p ∷ []) m ≡ Some q → (slice_get ps m ≡ Some q) ⊎ ((m ≡ length ps) × (q ≡ p))
push_read [] p zero q e = let h : p ≡ q = cc in inr (refl, sym h)
push_read [] p (suc m) q e = cc
push_read (r ∷ ps) p zero q e = inl e
push_read (r ∷ ps) p (suc m) q e = go (push_read ps p m q e)
  where
    go : (slice_get ps m ≡ Some q) ⊎ ((m ≡ length ps) × (q ≡ p)) → (slice_get ps m ≡ Some q) ⊎ ((suc m ≡ suc (length ps)) × (q ≡ p))
    go (inl h) = inl h
    go (inr h) = inr (ap suc h.0, h.1)

-- a place with a node at the end is not free
push_free : (ps : List (Option Node)) (node : Node) (k : ℕ) → is_free (slice_get (ps ++ Some node ∷ []) k) ≡ is_free (slice_get ps k)
push_free [] node zero = refl
push_free [] node (suc k) = refl
push_free (r ∷ ps) node zero = refl
push_free (r ∷ ps) node (suc k) = push_free ps node k

-- the places before it lead where they led
push_next : (ps : List Place) (p : Place) (k : ℕ) → k < length ps → next_at (ps ++ p ∷ []) k ≡ next_at ps k
push_next [] p k h = absurd (omega arith)
push_next (r ∷ ps) p zero h = refl
push_next (r ∷ ps) p (suc k) h = push_next ps p k (omega arith)

-- a free place is one of the places
free_within : (ps : List Place) (k : ℕ) → is_free (slice_get (plains ps) k) ≡ true → k < length ps
free_within ps k h =
    let l : length (plains ps) ≡ length ps = length-map ps plain in
    let w : k < length (plains ps) = go (slice_get (plains ps) k) refl h in
    omega arith
  where
    go : (o : Option (Option Node)) → slice_get (plains ps) k ≡ o → is_free o ≡ true → k < length (plains ps)
    go None f g = cc
    go (Some q) f g = slice_get_within (plains ps) k q f

-- a new place, whole
pub linked_push : (b : Bool) (limit : ℕ) (ps qs : List Place) (free : Option ℕ) (p : Place) (kind : Kind) → IsLinked limit ps free → length ps < limit → p.content ≡ Some (new_content b kind) → p.parent ≡ None → p.first ≡ None → p.entries ≡ 0 → qs ≡ ps ++ p ∷ []
    → (graph_of_places qs ≡ reserved_in (length ps) (new_shape kind) (graph_of_places ps)) × IsLinked limit qs free
linked_push b limit ps qs free p kind s room content parent first entries e =
    let l : length (plains ps) ≡ length ps = length-map ps plain in
    let w : length ps < NODE_LIMIT = (let h : limit ≤ NODE_LIMIT = s.most in omega arith) in
    let node : plain p ≡ Some (new_node b kind) = ap₂ (λ (c : Option Content) (o : Option ℕ). plain_with c (link_with o p.name)) content parent in
    let made : Makes NODE_LIMIT (plains ps ++ plain p ∷ []) (reserved_in (length (plains ps)) (new_shape kind) (graph_of_places ps)) = push_makes b NODE_LIMIT (plains ps) (plain p) kind s.places.store (omega arith) node in
    let here : plains ps ++ plain p ∷ [] ≡ plains (ps ++ p ∷ []) = sym (plains_push ps p) in
    let graph : graph_of_places (ps ++ p ∷ []) ≡ reserved_in (length ps) (new_shape kind) (graph_of_places ps) = ap graph_in (sym here) ∙ made.0 ∙ ap (λ (n : ℕ). reserved_in n (new_shape kind) (graph_of_places ps)) l in
    let last : length (ps ++ p ∷ []) ≡ suc (length ps) = long ps in
    subst (λ (z : List Place). (graph_of_places z ≡ reserved_in (length ps) (new_shape kind) (graph_of_places ps)) × IsLinked limit z free) (sym e) (
      graph,
      record {
        most = s.most;
        within = omega arith;
        places = record {
          store = subst (IsStore NODE_LIMIT) here made.1;
          each = λ m q g. subst (λ (z : Graph). IsIndexed z m q) (sym graph) (each m q (push_read ps p m q g));
        };
        list = record {
          frees = s.list.frees;
          chain = chain_kept ps (ps ++ p ∷ []) free s.list.frees (λ k h. push_next ps p k (free_within ps k (sym (s.list.all k) ∙ h))) s.list.chain;
          apart = s.list.apart;
          all = λ k. s.list.all k ∙ sym (ap (λ (z : List (Option Node)). is_free (slice_get z k)) (plains_push ps p ∙ ap (λ (o : Option Node). plains ps ++ o ∷ []) node) ∙ push_free (plains ps) (new_node b kind) k);
        };
      },
    )
  where
    long : (l : List Place) → length (l ++ p ∷ []) ≡ suc (length l)
    long [] = refl
    long (r ∷ l) = ap suc (long l)

    gone : (graph_of_places ps).shape (length ps) ≡ None
    gone = past_shape (plains ps) (length ps) (let l : length (plains ps) ≡ length ps = length-map ps plain in omega arith)

    names : (d : ℕ) → names_of (set_at (length ps) (Some (new_shape kind)) (graph_of_places ps).shape d) ≡ names_of ((graph_of_places ps).shape d)
    names = names_at (graph_of_places ps).shape (length ps) (Some (new_shape kind)) (new_names kind ∙ sym (ap names_of gone))

    none : (d : ℕ) → names_of ((graph_of_places ps).shape d) ≡ [] → next_child (graph_of_places ps) d None ≡ None
    none d h = ap (λ (n : List Name). then_at (find (is_above None) n) ((graph_of_places ps).child d)) h

    each : (m : ℕ) (q : Place) → (slice_get ps m ≡ Some q) ⊎ ((m ≡ length ps) × (q ≡ p)) → IsIndexed (reserved_in (length ps) (new_shape kind) (graph_of_places ps)) m q
    each m q (inl h) = indexed_same (graph_of_places ps).child (graph_of_places ps).shape (set_at (length ps) (Some (new_shape kind)) (graph_of_places ps).shape) m q q names refl refl (s.places.each m q h).beside (s.places.each m q h)
    each m q (inr h) =
        let empty : names_of ((graph_of_places ps).shape m) ≡ [] = ap (λ (z : ℕ). names_of ((graph_of_places ps).shape z)) h.0 ∙ ap names_of gone in
        indexed_same (graph_of_places ps).child (graph_of_places ps).shape (set_at (length ps) (Some (new_shape kind)) (graph_of_places ps).shape) m q q names refl refl (alone q h.1) (record {
          entries = ap (λ (z : Place). z.entries) h.1 ∙ entries ∙ sym (ap length empty);
          first = ap (λ (z : Place). z.first) h.1 ∙ first ∙ sym (none m empty);
          beside = alone q h.1;
        })
      where
        alone : (q : Place) → q ≡ p → IsBeside (graph_of_places ps) m q.next q.prev (link_of (plain q))
        alone q i = subst (λ (z : Place). IsBeside (graph_of_places ps) m z.next z.prev (link_of (plain z))) (sym i) (subst (IsBeside (graph_of_places ps) m p.next p.prev) (sym (ap₂ (λ (c : Option Content) (o : Option ℕ). link_of (plain_with c (link_with o p.name))) content parent)) tt)

-- a reservation from the list, as the code makes it
pub reserve_read : (b : Bool) (limit : ℕ) (ps qs : List Place) (free : Option ℕ) (n : ℕ) (kind : Kind) (next : Option ℕ) → IsLinked limit ps free → free ≡ Some n → IfSome (slice_get ps n) (λ p. next ≡ p.next) → qs ≡ edited n (filled (new_content b kind)) ps
    → (graph_of_places qs ≡ reserved_in n (new_shape kind) (graph_of_places ps)) × IsLinked limit qs next
reserve_read b limit ps qs free n kind next s first both f = go (slice_get ps n) refl both
  where
    go : (o : Option Place) → slice_get ps n ≡ o → IfSome o (λ p. next ≡ p.next) → (graph_of_places qs ≡ reserved_in n (new_shape kind) (graph_of_places ps)) × IsLinked limit qs next
    go None e h =
        let at : slice_get (plains ps) n ≡ Some None = first_is_free ps n (subst (IsFreeList ps) first s.list) in
        let w : ◌≡◌ {A = Option (Option Node)} None (Some None) = sym (slice_get-map plain ps n ∙ ap (option_map plain) e) ∙ at in absurd (cc)
    go (Some p) e h = linked_reserve b limit ps qs free n p kind next s first e h f

-- the first free place, among the places
pub free_plain : (limit : ℕ) (ps : List Place) (free : Option ℕ) (n : ℕ) → IsLinked limit ps free → free ≡ Some n → slice_get (plains ps) n ≡ Some None
free_plain limit ps free n s first = first_is_free ps n (subst (IsFreeList ps) first s.list)

pub free_inside : (limit : ℕ) (ps : List Place) (free : Option ℕ) (n : ℕ) → IsLinked limit ps free → free ≡ Some n → n < length ps
free_inside limit ps free n s first = free_within ps n (ap is_free (free_plain limit ps free n s first))

-- it is no number in use
pub free_shape : (limit : ℕ) (ps : List Place) (free : Option ℕ) (n : ℕ) → IsLinked limit ps free → free ≡ Some n → (graph_of_places ps).shape n ≡ None
free_shape limit ps free n s first = ap (λ (o : Option (Option Node)). option_map (shape_with (names_in (plains ps) n)) (then_at o content_of)) (free_plain limit ps free n s first)

-- nor the root
pub free_not_root : (limit : ℕ) (ps : List Place) (free : Option ℕ) (n : ℕ) → IsLinked limit ps free → free ≡ Some n → n ≡ 0 → ⊥
free_not_root limit ps free n s first = root_taken NODE_LIMIT (plains ps) n s.places.store (free_plain limit ps free n s first)

-- and the store is not full
pub free_not_full : (limit : ℕ) (ps : List Place) (free : Option ℕ) (n : ℕ) → IsLinked limit ps free → free ≡ Some n → used_below (graph_of_places ps).shape limit ≡ limit → ⊥
free_not_full limit ps free n s first =
    let l : length (plains ps) ≡ length ps = length-map ps plain in
    free_place limit (plains ps) n (let h : length ps ≤ limit = s.within in omega arith) (free_plain limit ps free n s first)

-- without free places as many numbers are in use as there are places
pub all_used : (limit : ℕ) (ps : List Place) (free : Option ℕ) → IsLinked limit ps free → free ≡ None → used_below (graph_of_places ps).shape limit ≡ length (plains ps)
all_used limit ps free s none =
    let l : length (plains ps) ≡ length ps = length-map ps plain in
    used_places limit (plains ps) (let h : length ps ≤ limit = s.within in omega arith) (none_free ps (subst (IsFreeList ps) none s.list))
