-- The keys of the entries that name the nodes of places.
use Rattle.std.proofs.Common.{◌≡◌, ℕ, zero, suc, ◌<◌, ◌≤◌, List, [], ◌∷◌, ◌++◌, Option, Some, None, set, length, refl, sym, ap, subst, ◌∙◌, arith}
use Rattle.std.specs.Prelude.{slice_get, IsTrue}
use Rattle.std.proofs.lemmas.List.{length-map, map-set, map_push, set-get_or}
use Rattle.std.proofs.lemmas.Option.{slice_get_within}
use Rattle.fs_blocks.specs.Files.{FileValue}
use Rattle.fs_names.specs.Names.{Name}
use Rattle.fs_names.specs.Shapes.{Shape, is_there, is_dir, is_file}
use Rattle.fs_names.specs.declared.limits.TheConstants.{NODE_LIMIT}
use Rattle.fs_nodes_places.specs.declared.node.Content.{Content}
use Rattle.fs_nodes_places.specs.declared.node.Content.TheVariants as contents
use Rattle.fs_nodes_places.specs.declared.node.Link.{Link}
use Rattle.fs_nodes_places.specs.declared.node.Node.{Node}
use Rattle.fs_nodes_places.specs.declared.place.Place.{Place}
use Rattle.fs_nodes_places.specs.declared.key.Key.{Key}
use Rattle.fs_nodes.specs.declared.index.Slot.{Slot}
use Rattle.fs_calls.specs.Graphs.{then_at, IsUnlinked}
use Rattle.fs_nodes_places.specs.Stores.{content_of, link_of, link_at}
use Rattle.fs_nodes_places.specs.code.PlainEdits.{relinked}
use Rattle.fs_nodes_places.proofs.PlainEditLemmas.{place_within, child_within}
use Rattle.fs_nodes_places.proofs.PlaceLemmas.{child_link, read_within}
use Rattle.fs_nodes_places.specs.Plains.{link_with, plain_with, plain, plains}
use Rattle.fs_nodes_places.specs.code.Edits.{edited, vacated, filled, with_content, content_with}
use Rattle.fs_nodes.specs.code.Linked.{graph_of_places, IsPlaces, IsEntry, put_between, taken_out}
use Rattle.fs_nodes_places.specs.code.Keys.{key_of, key_of_link, keys_of}
use Rattle.fs_nodes.specs.code.Indexes.{key_at, IsIndex, IsSome, HasEntry}
use Rattle.fs_nodes.proofs.StepLemmas.{link_of_place, get_some}
use Rattle.fs_nodes_places.proofs.EditLemmas.{plains_set}
use Rattle.fs_nodes.proofs.LinkLemmas.{plains_put, used_content}
use Rattle.fs_nodes.proofs.FreeLemmas.{used_place}
use Rattle.fs_nodes.proofs.IndexLemmas.{grown}
use Rattle.fs_nodes.proofs.UnlinkLemmas.{plains_taken}

-- the key of a number is that of its entry
pub key_link : (nodes : List (Option Node)) (n : ℕ) → key_at (keys_of nodes) n ≡ key_of_link (link_at nodes n)
key_link [] n = refl
key_link (o ∷ nodes) zero = refl
key_link (o ∷ nodes) (suc n) = key_link nodes n

-- as its place says
pub key_place : (ps : List Place) (n : ℕ) (p : Place) → slice_get ps n ≡ Some p → key_at (keys_of (plains ps)) n ≡ key_of_link (link_of (plain p))
key_place ps n p e = key_link (plains ps) n ∙ ap key_of_link (link_of_place ps n p e)

-- there are as many as places
pub keys_length : (ps : List Place) → length (keys_of (plains ps)) ≡ length ps
keys_length ps = length-map (plains ps) (λ o. key_of_link (link_of o)) ∙ length-map ps plain

pub keys_few : (ps : List Place) → IsPlaces ps → length (keys_of (plains ps)) ≤ NODE_LIMIT
keys_few ps places =
    let l : length (keys_of (plains ps)) ≡ length (plains ps) = length-map (plains ps) (λ o. key_of_link (link_of o)) in
    let h : length (plains ps) ≤ NODE_LIMIT = places.store.within in
    omega arith

-- a number with a key has an entry
link_there : (link : Option Link) (key : Key) → key_of_link link ≡ Some key → (l : Link) × (link ≡ Some l) × (key_of l.dir l.name ≡ key)
link_there None key e = absurd (cc)
link_there (Some l) key e = (l, refl, (let h : key_of l.dir l.name ≡ key = cc in h))

pub entry_key : (ps : List Place) (n : ℕ) (key : Key) → IsPlaces ps → key_at (keys_of (plains ps)) n ≡ Some key → IsEntry (graph_of_places ps) key.dir n
entry_key ps n key places e =
    let r : (l : Link) × (link_at (plains ps) n ≡ Some l) × (key_of l.dir l.name ≡ key) = link_there (link_at (plains ps) n) key (sym (key_link (plains ps) n) ∙ e) in
    (r.0.name, subst (λ (d : ℕ). (graph_of_places ps).child d r.0.name ≡ Some n) (ap (λ (k : Key). k.dir) r.2) (places.store.found n r.0 r.1))

-- and an entry's number has its key
pub key_child : (ps : List Place) (dir n : ℕ) (x : Name) → (graph_of_places ps).child dir x ≡ Some n → key_at (keys_of (plains ps)) n ≡ Some (key_of dir x)
key_child ps dir n x e = key_link (plains ps) n ∙ ap key_of_link (child_link (plains ps) dir x n e)

-- a number that no entry names has none
pub no_key : (ps : List Place) (n : ℕ) → link_at (plains ps) n ≡ None → key_at (keys_of (plains ps)) n ≡ None
no_key ps n e = key_link (plains ps) n ∙ ap key_of_link e

-- the directory of an entry is a number
pub dir_below : (ps : List Place) (n : ℕ) (key : Key) → IsPlaces ps → key_at (keys_of (plains ps)) n ≡ Some key → key.dir < NODE_LIMIT
dir_below ps n key places e =
    let r : (l : Link) × (link_at (plains ps) n ≡ Some l) × (key_of l.dir l.name ≡ key) = link_there (link_at (plains ps) n) key (sym (key_link (plains ps) n) ∙ e) in
    let q : (o : Option Node) × (slice_get (plains ps) r.0.dir ≡ Some o) × (content_of o ≡ Some contents.Dir) = read_within content_of (plains ps) r.0.dir contents.Dir (places.store.of_dir n r.0 r.1) in
    let w : r.0.dir < length (plains ps) = slice_get_within (plains ps) r.0.dir q.0 q.1 in
    let d : r.0.dir ≡ key.dir = ap (λ (k : Key). k.dir) r.2 in
    let h : length (plains ps) ≤ NODE_LIMIT = places.store.within in
    omega arith

-- the slots of places
pub some_of : (slots : List Slot) (ps : List Place) → IsPlaces ps → IsIndex slots (keys_of (plains ps)) → IsSome slots
some_of slots ps places s = record { keys = keys_of (plains ps); few = keys_few ps places; index = s }

pub entry_of : (slots : List Slot) (ps : List Place) (dir n : ℕ) (x : Name) → IsPlaces ps → IsIndex slots (keys_of (plains ps)) → (graph_of_places ps).child dir x ≡ Some n → HasEntry slots (key_of dir x) n
entry_of slots ps dir n x places s e = record { keys = keys_of (plains ps); few = keys_few ps places; index = s; entry = key_child ps dir n x e }

-- the keys where a node has another entry
keys_set : (nodes : List (Option Node)) (n : ℕ) (o : Option Node) → keys_of (set nodes n o) ≡ set (keys_of nodes) n (key_of_link (link_of o))
keys_set nodes n o = map-set (λ z. key_of_link (link_of z)) nodes n o

linked_node : (p : Place) (c : Content) (link : Option Link) → p.content ≡ Some c → link_of (relinked (plain p) link) ≡ link
linked_node p c link e = ap (λ (z : Option Content). link_of (relinked (plain_with z (link_with p.parent p.name)) link)) e

pub keys_put : (dir n : ℕ) (x : Name) (prev next : Option ℕ) (ps : List Place) (p : Place) (c : Content) → slice_get ps n ≡ Some p → p.content ≡ Some c → keys_of (plains (put_between dir n x prev next ps)) ≡ set (keys_of (plains ps)) n (Some (key_of dir x))
keys_put dir n x prev next ps p c e f = ap keys_of (plains_put dir n x prev next ps p e) ∙ keys_set (plains ps) n (relinked (plain p) (Some (record { dir = dir; name = x }))) ∙ ap (λ (l : Option Link). set (keys_of (plains ps)) n (key_of_link l)) (linked_node p c (Some (record { dir = dir; name = x })) f)

unlinked_node : (o : Option Node) → link_of (relinked o None) ≡ None
unlinked_node None = refl
unlinked_node (Some node) = refl

pub keys_taken : (dir n : ℕ) (blank : Name) (prev next : Option ℕ) (ps : List Place) (p : Place) → slice_get ps n ≡ Some p → keys_of (plains (taken_out dir n blank prev next ps)) ≡ set (keys_of (plains ps)) n None
keys_taken dir n blank prev next ps p e = ap keys_of (plains_taken dir n blank prev next ps p e) ∙ keys_set (plains ps) n (relinked (plain p) None) ∙ ap (λ (l : Option Link). set (keys_of (plains ps)) n (key_of_link l)) (unlinked_node (plain p))

-- the keys where a place has no other entry than before
pub keys_kept : (n : ℕ) (f : Place → Place) (ps : List Place) (p : Place) → slice_get ps n ≡ Some p → link_of (plain (f p)) ≡ link_of (plain p) → keys_of (plains (edited n f ps)) ≡ keys_of (plains ps)
keys_kept n f ps p e g =
    ap keys_of (plains_set n f ps p e) ∙ keys_set (plains ps) n (plain (f p))
    ∙ ap (set (keys_of (plains ps)) n) (ap key_of_link g ∙ sym (key_place ps n p e)) ∙ set-get_or (keys_of (plains ps)) n None

-- or where there is one place more, without an entry
pub keys_push : (ps : List Place) (p : Place) → link_of (plain p) ≡ None → keys_of (plains (ps ++ p ∷ [])) ≡ keys_of (plains ps) ++ None ∷ []
keys_push ps p e = ap keys_of (map_push plain ps p) ∙ map_push (λ z. key_of_link (link_of z)) (plains ps) (plain p) ∙ ap (λ (l : Option Link). keys_of (plains ps) ++ key_of_link l ∷ []) e

-- a number that is no entry's
pub unlinked_link : (ps : List Place) (n : ℕ) → IsPlaces ps → IsUnlinked (graph_of_places ps).child n → link_at (plains ps) n ≡ None
unlinked_link ps n places u = go (link_at (plains ps) n) refl
  where
    go : (o : Option Link) → link_at (plains ps) n ≡ o → o ≡ None
    go None e = refl
    go (Some l) e = absurd (u l.dir l.name (places.store.found n l e))

-- a directory and a number in use are below the limit
pub used_below_limit : (ps : List Place) (n : ℕ) → IsPlaces ps → IsTrue (is_there ((graph_of_places ps).shape n)) → n < NODE_LIMIT
used_below_limit ps n places h =
    let w : n < length (plains ps) = place_within (plains ps) n h in
    let m : length (plains ps) ≤ NODE_LIMIT = places.store.within in
    omega arith

dir_there : (s : Option Shape) → IsTrue (is_dir s) → IsTrue (is_there s)
dir_there None h = cc
dir_there (Some s) h = refl

pub dir_below_limit : (ps : List Place) (n : ℕ) → IsPlaces ps → IsTrue (is_dir ((graph_of_places ps).shape n)) → n < NODE_LIMIT
dir_below_limit ps n places h = used_below_limit ps n places (dir_there ((graph_of_places ps).shape n) h)

-- a number is linked: the slots have its key
pub index_linked : (slots others : List Slot) (ps qs : List Place) (dir n : ℕ) (x : Name) (prev next : Option ℕ) (key : Key) → IsPlaces ps → IsTrue (is_there ((graph_of_places ps).shape n)) → IsUnlinked (graph_of_places ps).child n → qs ≡ put_between dir n x prev next ps → key ≡ key_of dir x
    → IsIndex slots (keys_of (plains ps)) → ((keys : List (Option Key)) → IsIndex slots keys → key_at keys n ≡ None → n < length keys → IsIndex others (set keys n (Some key))) → IsIndex others (keys_of (plains qs))
index_linked slots others ps qs dir n x prev next key places used unlinked e k s more =
    let r : (p : Place) × (slice_get ps n ≡ Some p) = used_place ps n used in
    let content : (c : Content) × (r.0.content ≡ Some c) = used_content ps n r.0 r.1 used in
    let l : length (keys_of (plains ps)) ≡ length (plains ps) = length-map (plains ps) (λ o. key_of_link (link_of o)) in
    let w : n < length (plains ps) = place_within (plains ps) n used in
    let i : IsIndex others (set (keys_of (plains ps)) n (Some key)) = more (keys_of (plains ps)) s (no_key ps n (unlinked_link ps n places unlinked)) (omega arith) in
    subst (IsIndex others) (ap (λ (z : Key). set (keys_of (plains ps)) n (Some z)) k ∙ sym (ap (λ (z : List Place). keys_of (plains z)) e ∙ keys_put dir n x prev next ps r.0 content.0 r.1 content.1)) i

-- or is linked no more
pub index_taken : (slots others : List Slot) (ps qs : List Place) (dir n : ℕ) (x blank : Name) (prev next : Option ℕ) (key : Key) → (graph_of_places ps).child dir x ≡ Some n → qs ≡ taken_out dir n blank prev next ps → key ≡ key_of dir x
    → IsIndex slots (keys_of (plains ps)) → ((keys : List (Option Key)) → IsIndex slots keys → key_at keys n ≡ Some key → IsIndex others (set keys n None)) → IsIndex others (keys_of (plains qs))
index_taken slots others ps qs dir n x blank prev next key child e k s less =
    let w : n < length ps = (let h : n < length (plains ps) = child_within (plains ps) n dir x child in let l : length (plains ps) ≡ length ps = length-map ps plain in omega arith) in
    let r : (p : Place) × (slice_get ps n ≡ Some p) = get_some ps n w in
    subst (IsIndex others) (sym (ap (λ (z : List Place). keys_of (plains z)) e ∙ keys_taken dir n blank prev next ps r.0 r.1)) (less (keys_of (plains ps)) s (key_child ps dir n x child ∙ ap (λ (z : Key). Some z) (sym k)))

-- another place of the same entry
pub index_kept : (slots : List Slot) (n : ℕ) (f : Place → Place) (ps qs : List Place) (p : Place) → slice_get ps n ≡ Some p → link_of (plain (f p)) ≡ link_of (plain p) → qs ≡ edited n f ps → IsIndex slots (keys_of (plains ps)) → IsIndex slots (keys_of (plains qs))
index_kept slots n f ps qs p e g h s = subst (IsIndex slots) (sym (ap (λ (z : List Place). keys_of (plains z)) h ∙ keys_kept n f ps p e g)) s

-- one place more, without an entry
pub index_pushed : (slots : List Slot) (ps qs : List Place) (p : Place) → p.parent ≡ None → qs ≡ ps ++ p ∷ [] → IsIndex slots (keys_of (plains ps)) → IsIndex slots (keys_of (plains qs))
index_pushed slots ps qs p e h s = subst (IsIndex slots) (sym (ap (λ (z : List Place). keys_of (plains z)) h ∙ keys_push ps p (none p.content p.parent e))) (grown slots (keys_of (plains ps)) s)
  where
    none : (c : Option Content) (o : Option ℕ) → o ≡ None → link_of (plain_with c (link_with o p.name)) ≡ None
    none None o e = refl
    none (Some c) o e = ap (λ (z : Option ℕ). link_with z p.name) e

-- a place that becomes free named nothing, and one that was free does not either
pub vacated_link : (ps : List Place) (n : ℕ) (p : Place) (next : Option ℕ) → IsPlaces ps → IsUnlinked (graph_of_places ps).child n → slice_get ps n ≡ Some p → link_of (plain (vacated next p)) ≡ link_of (plain p)
vacated_link ps n p next places u e = sym (sym (link_of_place ps n p e) ∙ unlinked_link ps n places u)

pub filled_link : (ps : List Place) (n : ℕ) (p : Place) (content : Content) → slice_get ps n ≡ Some p → slice_get (plains ps) n ≡ Some None → link_of (plain (filled content p)) ≡ link_of (plain p)
filled_link ps n p content e f = sym (sym (link_of_place ps n p e) ∙ ap (λ (o : Option (Option Node)). then_at o link_of) f)

pub file_link : (p : Place) (file : FileValue) → link_of (plain (with_content file p)) ≡ link_of (plain p)
file_link p file = go p.content
  where
    go : (c : Option Content) → link_of (plain_with (content_with file c) (link_with p.parent p.name)) ≡ link_of (plain_with c (link_with p.parent p.name))
    go None = refl
    go (Some c) = refl

-- a key that no number has is no entry's
pub no_entry : (ps : List Place) (dir : ℕ) (x : Name) (key : Key) → key ≡ key_of dir x → ((n : ℕ) → key_at (keys_of (plains ps)) n ≡ Some key → ⊥) → None ≡ (graph_of_places ps).child dir x
no_entry ps dir x key k none = go ((graph_of_places ps).child dir x) refl
  where
    go : (o : Option ℕ) → (graph_of_places ps).child dir x ≡ o → None ≡ o
    go None e = refl
    go (Some n) e = absurd (none n (key_child ps dir n x e ∙ ap (λ (z : Key). Some z) (sym k)))

-- the changes of one place
pub index_vacated : (slots : List Slot) (n : ℕ) (next : Option ℕ) (ps qs : List Place) → IsPlaces ps → IsTrue (is_there ((graph_of_places ps).shape n)) → IsUnlinked (graph_of_places ps).child n → qs ≡ edited n (vacated next) ps → IsIndex slots (keys_of (plains ps)) → IsIndex slots (keys_of (plains qs))
index_vacated slots n next ps qs places used u e s =
    let r : (p : Place) × (slice_get ps n ≡ Some p) = used_place ps n used in
    index_kept slots n (vacated next) ps qs r.0 r.1 (vacated_link ps n r.0 next places u r.1) e s

pub index_filled : (slots : List Slot) (n : ℕ) (content : Content) (ps qs : List Place) → slice_get (plains ps) n ≡ Some None → qs ≡ edited n (filled content) ps → IsIndex slots (keys_of (plains ps)) → IsIndex slots (keys_of (plains qs))
index_filled slots n content ps qs free e s =
    let r : (p : Place) × (slice_get ps n ≡ Some p) = get_some ps n (let w : n < length (plains ps) = slice_get_within (plains ps) n None free in let l : length (plains ps) ≡ length ps = length-map ps plain in omega arith) in
    index_kept slots n (filled content) ps qs r.0 r.1 (filled_link ps n r.0 content r.1 free) e s

pub index_swapped : (slots : List Slot) (n : ℕ) (file : FileValue) (ps qs : List Place) → IsTrue (is_file ((graph_of_places ps).shape n)) → qs ≡ edited n (with_content file) ps → IsIndex slots (keys_of (plains ps)) → IsIndex slots (keys_of (plains qs))
index_swapped slots n file ps qs at_file e s =
    let r : (p : Place) × (slice_get ps n ≡ Some p) = used_place ps n (there ((graph_of_places ps).shape n) at_file) in
    index_kept slots n (with_content file) ps qs r.0 r.1 (file_link r.0 file) e s
  where
    there : (o : Option Shape) → IsTrue (is_file o) → IsTrue (is_there o)
    there None h = cc
    there (Some o) h = refl
