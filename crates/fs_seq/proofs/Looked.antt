-- What the calls on one path answer, by what stands there.
use Rattle.std.proofs.lemmas.Bool.Decides.{nat_tests}
use Rattle.std.specs.Prelude.{nat_lt}
use Rattle.std.proofs.Common.{◌≡◌, ℕ, zero, suc, Bool, true, false, Option, ◌≤◌, ◌<◌, ◌++◌, get_or, arith, List, [], ◌∷◌, length, take, map, Some, None, refl, sym, ap, ◌∙◌}
use Rattle.fs_names.specs.Keys.{Key}
use Rattle.fs_names.specs.declared.limits.Limits.{Limits}
use Rattle.fs_seq_nodes.specs.declared.nodes.Link.{Link}
use Rattle.fs_seq_nodes.specs.code.Nodes.{pairs}
use Rattle.fs_calls.specs.declared.call.Call.{Call}
use Rattle.fs_calls.specs.declared.errno.Errno.{Errno}
use Rattle.fs_calls.specs.declared.errno.Errno.TheVariants.{Eoverflow}
use Rattle.fs_calls.specs.declared.reply.Reply.TheVariants as replies
use Rattle.fs_calls.specs.Tree.{Tree}
use Rattle.fs_calls.specs.Sights.{tree_shapes, row_in, names_of, has_any}
use Rattle.fs_calls.specs.Outcomes.{fault, success, reply, reply_of, replied, resolution}
use Rattle.fs_calls.specs.Forms.{NodeCall, Readdir, AtNode, form, by_text}
use Rattle.fs_names.specs.Failures.{check, or_else}
use Rattle.fs_names.specs.Shapes.{Shape, Dir, File}
use Rattle.fs_names.specs.declared.limits.TheConstants.{LIST_LIMIT}
use Rattle.fs_calls.specs.Rows.{node_fault, node_reply}
use Rattle.fs_seq_nodes.specs.code.Slots as places
use Rattle.fs_seq_nodes.specs.code.Slots.{Place, Slots, place_at, links_of, shape_of, walk, tree_of, IsForest}
use Rattle.fs_seq.specs.code.Effects.{IsFound, node_error}
use Rattle.fs_seq_nodes.proofs.NodeLemmas.{rising_got}
use Rattle.fs_seq_nodes.proofs.Resolving.{resolution_walked, seen_at}

-- the first error of a call on a node whose path leads nowhere
pub lost_error : (t : Tree) (c : NodeCall) (p : Key) (e : Errno) → resolution t p ≡ Some e → node_error t c p ≡ Some e
lost_error t c p e lost = ap (λ found. node_fault c found (tree_shapes t p)) lost

-- the first error of a call on the node where a path ends
pub error_there : (g : Slots) (c : NodeCall) (p : Key) (n : ℕ) (at : Place) → IsForest g → walk g p ≡ Some n → place_at g n ≡ Some at → node_error (tree_of g) c p ≡ node_fault c None (shape_of (Some at))
error_there g c p n at forest w placed = λ i. node_fault c (resolution_walked g p n forest w i) ((seen_at g p n forest w ∙ ap shape_of placed) i)

-- a node on which a call works, where the row has no error
pub is_found : (g : Slots) (c : NodeCall) (p : Key) (n : ℕ) (at : Place) → IsForest g → walk g p ≡ Some n → place_at g n ≡ Some at → node_fault c None (shape_of (Some at)) ≡ None → IsFound (tree_of g) c p at
is_found g c p n at forest w placed sound = record { sound = error_there g c p n at forest w placed ∙ sound; shape = seen_at g p n forest w ∙ ap shape_of placed; rising = rising_got g n (Some at) (links_of (Some at)) (forest.rising n) placed refl }

module _ (limits : Limits) (call : Call) (c : NodeCall) (p : Key) (on_node : form limits call ≡ AtNode c p) (t : Tree) where
  -- the first error of a call on a node
  pub looking_fault : fault limits t call ≡ node_error t c p
  unfolding fault
  looking_fault = ap (λ f. or_else (by_text f) (row_in (tree_shapes t) f)) on_node

  -- its reply where it fails
  pub failed_reply : (e : Errno) → node_error t c p ≡ Some e → replies.Failed e ≡ reply limits t call
  unfolding reply
  failed_reply e h = sym (ap (λ f. replied f (success limits t call)) (looking_fault ∙ h))

  -- its reply where it finds its node
  pub found_reply : (at : Place) → IsFound t c p at → node_reply c (shape_of (Some at)) ≡ reply limits t call
  unfolding reply
  found_reply at found = sym (λ i. replied ((looking_fault ∙ found.sound) i) ((ap (reply_of t) on_node ∙ ap (node_reply c) found.shape) i))

-- the names of the links of a place are those that are seen
pub link_names : (at : Place) → map (λ l. l.0) (links_of (Some at)) ≡ names_of (shape_of (Some at))
link_names (places.Dir links) = refl
link_names (places.File file) = refl

-- a directory of which all names are told has no more of them than a call answers
pub all_told : (found : Option Errno) (there : Option Shape) → node_fault Readdir found there ≡ None → length (names_of there) ≤ LIST_LIMIT
all_told (Some e) there h = absurd (cc)
all_told None None h = omega arith
all_told None (Some (File bytes)) h = omega arith
all_told None (Some (Dir names)) h = few (nat_lt LIST_LIMIT (length names)) refl h
  where
    few : (b : Bool) → nat_lt LIST_LIMIT (length names) ≡ b → or_else (check b Eoverflow) None ≡ None → length names ≤ LIST_LIMIT
    few true e h = absurd (cc)
    few false e h = grind (arith, nat_tests)

-- ---- names of links, one by one

-- where room for their names is asked for there is one
pub some_named : (links : List Link) → 0 < length links → has_any (map (λ l. l.0) (pairs links)) ≡ true
some_named [] h = absurd (omega arith)
some_named (l ∷ links) h = refl

-- one name more
pub names_next : (links : List Link) (i : ℕ) (l : Link) → i < length links → l ≡ get_or links i l → map (λ k. k.0) (pairs (take (suc i) links)) ≡ map (λ k. k.0) (pairs (take i links)) ++ l.name ∷ []
names_next [] i l h e = absurd (omega arith)
names_next (m ∷ links) zero l h e = ap (λ (z : Link). z.name ∷ []) (sym e)
names_next (m ∷ links) (suc i) l h e = ap (λ z. m.name ∷ z) (names_next links i l (omega arith) e)
