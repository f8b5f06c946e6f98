-- Another file comes in the place of one.
use Rattle.std.proofs.Common.{◌≡◌, ℕ, ◌≤◌, Bool, true, false, cond, eqb, List, Option, Some, None, is_none, option_map, IfSome, length, refl, sym, ap, subst, ◌∙◌, arith, set}
use Rattle.std.specs.Prelude.{slice_get, IsTrue}
use Rattle.std.proofs.lemmas.Option.{slice_get-map}
use Rattle.fs_blocks.specs.Files.{FileValue}
use Rattle.fs_names.specs.Shapes.{Shape, Dir, File, is_there, is_file, names_of, bytes_of}
use Rattle.fs_names.specs.declared.limits.TheConstants.{NODE_LIMIT}
use Rattle.fs_nodes_places.specs.declared.node.Content.{Content}
use Rattle.fs_nodes_places.specs.declared.node.Link.{Link}
use Rattle.fs_nodes_places.specs.declared.node.Node.{Node}
use Rattle.fs_nodes_places.specs.declared.place.Place.{Place}
use Rattle.fs_nodes_places.specs.code.PlainEdits.{with_file, handed_out}
use Rattle.fs_calls.specs.Graphs.{Graph, then_at, content_in}
use Rattle.fs_nodes_places.specs.Stores.{link_of, graph_in, IsStore}
use Rattle.fs_nodes_places.specs.Plains.{link_with, plain_with, plain, plains}
use Rattle.fs_nodes_places.specs.code.Edits.{edited, content_with, content_old, with_content}
use Rattle.fs_nodes.specs.code.Linked.{graph_of_places, IsBeside, IsIndexed}
use Rattle.fs_nodes.specs.code.Frees.{is_free, next_at, IsLinked}
use Rattle.fs_calls.proofs.EqualLemmas.{eqb_true}
use Rattle.fs_nodes_places.proofs.PlainEditLemmas.{Makes, swap_makes, swap_hands}
use Rattle.fs_nodes_places.proofs.EditLemmas.{length_edited, plains_set}
use Rattle.fs_nodes.specs.code.Forms.{HaveForm}
use Rattle.fs_nodes_places.proofs.FormLemmas.{form_at, form_handed}
use Rattle.fs_nodes.proofs.FormLemmas.{form_plains}
use Rattle.fs_nodes.proofs.FreeLemmas.{list_kept, free_set, used_place}
use Rattle.fs_nodes.proofs.ReserveLemmas.{names_at, indexed_same, edited_read, next_edited}

-- a place with another file is a node with it
plain_file : (file : FileValue) (c : Option Content) (l : Option Link) → plain_with (content_with file c) l ≡ with_file (plain_with c l) file
plain_file file None l = refl
plain_file file (Some c) l = refl

hands : (file : FileValue) (c : Option Content) (l : Option Link) → content_old file c ≡ handed_out (plain_with c l) file
hands file None l = refl
hands file (Some c) l = refl

none_same : (p : Option Node) (file : FileValue) → is_none (with_file p file) ≡ is_none p
none_same None file = refl
none_same (Some node) file = refl

link_same : (file : FileValue) (c : Option Content) (l : Option Link) → link_of (plain_with (content_with file c) l) ≡ link_of (plain_with c l)
link_same file None l = refl
link_same file (Some c) l = refl

-- a file is in use, and has no names
file_there : (s : Option Shape) → IsTrue (is_file s) → IsTrue (is_there s)
file_there None h = cc
file_there (Some s) h = refl

-- a file has no names
file_names : (s : Option Shape) (bytes : List ℕ) → IsTrue (is_file s) → names_of (Some (File bytes)) ≡ names_of s
file_names None bytes h = cc
file_names (Some (File b)) bytes h = refl
file_names (Some (Dir names)) bytes h = cc

-- a change of a file, whole
pub linked_swap : (limit : ℕ) (ps qs : List Place) (free : Option ℕ) (n : ℕ) (file : FileValue) → IsLinked limit ps free → IsTrue (is_file ((graph_of_places ps).shape n)) → qs ≡ edited n (with_content file) ps → (graph_of_places qs ≡ content_in n file.bytes (graph_of_places ps)) × IsLinked limit qs free
linked_swap limit ps qs free n file s at_file e =
    let r : (p : Place) × (slice_get ps n ≡ Some p) = used_place ps n (file_there ((graph_of_places ps).shape n) at_file) in
    let at : slice_get (plains ps) n ≡ Some (plain r.0) = slice_get-map plain ps n ∙ ap (option_map plain) r.1 in
    let made : Makes NODE_LIMIT (set (plains ps) n (with_file (plain r.0) file)) (content_in n file.bytes (graph_of_places ps)) = swap_makes NODE_LIMIT (plains ps) n (plain r.0) (with_file (plain r.0) file) file s.places.store at at_file refl in
    let here : set (plains ps) n (with_file (plain r.0) file) ≡ plains (edited n (with_content file) ps) = sym (plains_set n (with_content file) ps r.0 r.1 ∙ ap (set (plains ps) n) (plain_file file r.0.content (link_with r.0.parent r.0.name))) in
    let graph : graph_of_places (edited n (with_content file) ps) ≡ content_in n file.bytes (graph_of_places ps) = subst (λ (l : List (Option Node)). graph_in l ≡ content_in n file.bytes (graph_of_places ps)) here made.0 in
    let l : length (edited n (with_content file) ps) ≡ length ps = length_edited n (with_content file) ps in
    subst (λ (z : List Place). (graph_of_places z ≡ content_in n file.bytes (graph_of_places ps)) × IsLinked limit z free) (sym e) (
      graph,
      record {
        most = s.most;
        within = (let h : length ps ≤ limit = s.within in omega arith);
        places = record {
          store = subst (IsStore NODE_LIMIT) here made.1;
          each = λ m q g. subst (λ (z : Graph). IsIndexed z m q) (sym graph) (each m q (edited_read n (with_content file) ps m q g));
        };
        list = list_kept ps (edited n (with_content file) ps) free (λ k h. next_edited n (with_content file) ps r.0 r.1 k ∙ same_next k r.0 r.1 (eqb k n) refl) (λ k. ap (λ (z : List (Option Node)). is_free (slice_get z k)) (sym here) ∙ free_set (plains ps) n (plain r.0) (with_file (plain r.0) file) at (none_same (plain r.0) file) k) s.list;
      },
    )
  where
    same_next : (k : ℕ) (p : Place) → slice_get ps n ≡ Some p → (b : Bool) → eqb k n ≡ b → cond b p.next (next_at ps k) ≡ next_at ps k
    same_next k p h true g = sym (ap (λ (o : Option Place). then_at o (λ q. q.next)) (ap (slice_get ps) (eqb_true k n g) ∙ h))
    same_next k p h false g = refl

    names : (d : ℕ) → names_of ((content_in n file.bytes (graph_of_places ps)).shape d) ≡ names_of ((graph_of_places ps).shape d)
    names = names_at (graph_of_places ps).shape n (Some (File file.bytes)) (file_names ((graph_of_places ps).shape n) file.bytes at_file)

    go : (m : ℕ) (p : Place) → IsIndexed (graph_of_places ps) m p → (b : Bool) → IsIndexed (content_in n file.bytes (graph_of_places ps)) m (cond b (with_content file p) p)
    go m p i true = indexed_same (graph_of_places ps).child (graph_of_places ps).shape (content_in n file.bytes (graph_of_places ps)).shape m p (with_content file p) names refl refl (subst (IsBeside (graph_of_places ps) m p.next p.prev) (sym (link_same file p.content (link_with p.parent p.name))) i.beside) i
    go m p i false = indexed_same (graph_of_places ps).child (graph_of_places ps).shape (content_in n file.bytes (graph_of_places ps)).shape m p p names refl refl i.beside i

    each : (m : ℕ) (q : Place) → (p : Place) × (slice_get ps m ≡ Some p) × (q ≡ cond (eqb m n) (with_content file p) p) → IsIndexed (content_in n file.bytes (graph_of_places ps)) m q
    each m q r = subst (IsIndexed (content_in n file.bytes (graph_of_places ps)) m) (sym r.2) (go m r.0 (s.places.each m r.0 r.1) (eqb m n))

-- the file that comes back
module _ (limit : ℕ) (ps : List Place) (free : Option ℕ) (n : ℕ) (file old : FileValue) (s : IsLinked limit ps free) (at_file : IsTrue (is_file ((graph_of_places ps).shape n))) (h : IfSome (slice_get ps n) (λ p. old ≡ content_old file p.content)) where
  there : (p : Place) × (slice_get ps n ≡ Some p)
  there = used_place ps n (file_there ((graph_of_places ps).shape n) at_file)

  at : slice_get (plains ps) n ≡ Some (plain there.0)
  at = slice_get-map plain ps n ∙ ap (option_map plain) there.1

  handed : old ≡ handed_out (plain there.0) file
  handed = subst (λ (o : Option Place). IfSome o (λ p. old ≡ content_old file p.content)) there.1 h ∙ hands file there.0.content (link_with there.0.parent there.0.name)

  -- has the bytes that were there
  pub swap_read : old.bytes ≡ bytes_of ((graph_of_places ps).shape n)
  swap_read = ap (λ (f : FileValue). f.bytes) handed ∙ swap_hands (plains ps) n (plain there.0) file at at_file

  -- and the form of all files
  pub swap_form : (b : Bool) → HaveForm b ps → file.in_blocks ≡ b → old.in_blocks ≡ b
  swap_form b forms same = ap (λ (f : FileValue). f.in_blocks) handed ∙ form_handed b (plain there.0) file same (form_at b (plains ps) n (plain there.0) (form_plains b ps forms) at)
