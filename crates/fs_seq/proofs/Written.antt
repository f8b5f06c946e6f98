-- What the calls that change the bytes of a file answer and leave.
use Rattle.std.proofs.Common.{◌≡◌, ℕ, ◌+◌, ◌&&◌, ◌||◌, List, length, Some, None, Option, IsTrue, refl, sym, ap, subst, ◌∙◌}
use Rattle.std.specs.Prelude.{nat_lt}
use Rattle.slab.specs.Slab.{Slab, get, with_value}
use Rattle.fs_names.specs.Limits.{file_limit, in_blocks}
use Rattle.fs_names.specs.Keys.{Key}
use Rattle.fs_names.specs.Names.{Name}
use Rattle.fs_names.specs.declared.limits.Limits.{Limits}
use Rattle.fs_calls.specs.declared.call.Call.{Call}
use Rattle.fs_calls.specs.declared.call.Call.TheVariants.{Write, Truncate}
use Rattle.fs_calls.specs.declared.errno.Errno.{Errno}
use Rattle.fs_calls.specs.declared.reply.Reply.{Reply}
use Rattle.fs_calls.specs.Forms as forms
use Rattle.fs_calls.specs.Forms.{NodeCall, AtNode, form}
use Rattle.fs_calls.specs.Tree.{Tree}
use Rattle.fs_calls.specs.Sights.{tree_shapes, has_any, bytes_of}
use Rattle.fs_calls.specs.Outcomes.{fault, reply, reply_of, after, change_of, replied, if_sound, filled}
use Rattle.fs_calls.specs.Rows.{node_fault, node_reply, new_bytes, node_row, answered}
use Rattle.fs_calls.proofs.RowNames.{on_dir}
use Rattle.fs_seq.specs.Memory.{needs_memory}
use Rattle.fs_seq_nodes.specs.declared.nodes.Node.{Node}
use Rattle.fs_seq_nodes.specs.code.Slots.{Place, Dir, File, shape_of, walk, tree_of, IsForest, HasForm, KeepsForm}
use Rattle.fs_seq_nodes.specs.code.Nodes.{place, graph}
use Rattle.fs_seq.specs.code.Effects.{AnswersWithin, Rewrites, refilled}
use Rattle.fs_seq_nodes.proofs.NodeLemmas.{place_got}
use Rattle.fs_seq_nodes.proofs.SlabLemmas.{sets_value, same_graph}
use Rattle.fs_seq_nodes.proofs.FormLemmas.{form_set}
use Rattle.fs_seq.proofs.KeptForms.{form_same}
use Rattle.fs_seq.proofs.GraphFilled.{forest_filled, tree_filled}
use Rattle.fs_seq.proofs.Looked.{error_there, looking_fault}
use Rattle.fs_seq.proofs.Replies.{needs}
use Rattle.fs_seq_nodes.proofs.Resolving.{seen_at}

-- what is replied by an error or by none is the row's reply
row_reply : (found : Option Errno) (well : Reply) (bytes : Option (List ℕ)) → (answered found None well bytes).0 ≡ replied found well
row_reply None well bytes = refl
row_reply (Some e) well bytes = refl

-- what is left by an error or by none is the row's change
row_change : (t : Tree) (p : Key) (found : Option Errno) (well : Reply) (bytes : Option (List ℕ)) → filled t p (answered found None well bytes).1 ≡ if_sound found t (filled t p bytes)
row_change t p None well bytes = refl
row_change t p (Some e) well bytes = refl

module _ (limits : Limits) (s : Slab Node) (call : Call) (c : NodeCall) (p : Key) (on_node : form limits call ≡ AtNode c p) (n : ℕ) (node : Node) (forest : IsForest (graph s)) (walked : walk (graph s) p ≡ Some n) (got : get s n ≡ Some node) where
  -- what is seen at the path
  pub seen : tree_shapes (tree_of (graph s)) p ≡ shape_of (Some (place node))
  seen = seen_at (graph s) p n forest walked ∙ ap shape_of (place_got s n node got)

  -- the call's first error
  pub node_found : fault limits (tree_of (graph s)) call ≡ node_fault c None (shape_of (Some (place node)))
  node_found = looking_fault limits call c p on_node (tree_of (graph s)) ∙ error_there (graph s) c p n (place node) forest walked (place_got s n node got)

  -- the tree with the new bytes of a file
  refills : (node' : Node) (at : Place) (o : Option (List ℕ)) → place node ≡ at → place node' ≡ refilled o at → ((links : List (Name × ℕ)) → at ≡ Dir links → o ≡ None)
      → (tree_of (graph (with_value s n node')) ≡ filled (tree_of (graph s)) p o) × IsForest (graph (with_value s n node')) × KeepsForm limits (graph s) (graph (with_value s n node'))
  refills node' at None was is files =
      let same = same_graph s n node node' got (is ∙ sym was) in (ap tree_of same, subst IsForest (sym same) forest, form_same limits (graph s) (graph (with_value s n node')) same)
  refills node' (Dir links) (Some new) was is files = let none = files links refl in absurd (cc)
  refills node' (File old) (Some new) was is files =
      let file = place_got s n node got ∙ ap (λ z. Some z) was in
      let now = record old { bytes = new } in
      let sets = sets_value s n node node' (File now) got is in (
        tree_filled (graph s) (graph (with_value s n node')) forest p n walked old now file sets,
        forest_filled (graph s) (graph (with_value s n node')) forest p n walked old now file sets,
        λ have. form_set (in_blocks limits) (graph s) (graph (with_value s n node')) n (Some (File now)) (subst (HasForm (in_blocks limits)) file (have.each n)) sets have,
      )

  -- what a call on a node answers and leaves
  pub is_rewritten : (node' : Node) (r : Reply) → Rewrites (place node) (place node') c r → AnswersWithin limits (graph s) (graph (with_value s n node')) call r
  unfolding reply after
  is_rewritten node' r rewrites =
      let there = shape_of (Some (place node)) in
      let t = tree_of (graph s) in
      let made = refills node' (place node) (node_row c None there).1 refl rewrites.place (λ links is. ap (λ at. (node_row c None (shape_of (Some at))).1) is ∙ on_dir c _) in
      record {
        reply = rewrites.reply ∙ row_reply (node_fault c None there) (node_reply c there) (new_bytes c there) ∙ (λ i. replied (sym node_found i) ((ap (node_reply c) (sym seen) ∙ sym (ap (reply_of t) on_node)) i));
        tree = made.0 ∙ row_change t p (node_fault c None there) (node_reply c there) (new_bytes c there) ∙ (λ i. if_sound (sym node_found i) t ((ap (λ z. filled t p (new_bytes c z)) (sym seen) ∙ sym (ap (change_of t) on_node)) i));
        forest = made.1;
        form = made.2;
      }

-- a write that needs memory
pub write_needs : (limits : Limits) (s : Slab Node) (p : Key) (off : ℕ) (bytes : List ℕ) (n : ℕ) (node : Node) → IsForest (graph s) → walk (graph s) p ≡ Some n → get s n ≡ Some node → node_fault (forms.Write (file_limit limits) off bytes) None (shape_of (Some (place node))) ≡ None
    → IsTrue (has_any bytes && (in_blocks limits || nat_lt (length (bytes_of (shape_of (Some (place node))))) (off + length bytes))) → IsTrue (needs_memory limits (tree_of (graph s)) (Write p off bytes))
write_needs limits s p off bytes n node forest walked got sound longer =
    needs limits (tree_of (graph s)) (Write p off bytes) (node_found limits s (Write p off bytes) (forms.Write (file_limit limits) off bytes) p refl n node forest walked got ∙ sound)
    (ap (λ z. has_any bytes && (in_blocks limits || nat_lt (length (bytes_of z)) (off + length bytes))) (seen limits s (Write p off bytes) (forms.Write (file_limit limits) off bytes) p refl n node forest walked got) ∙ longer)

-- a truncate that needs memory
pub truncate_needs : (limits : Limits) (s : Slab Node) (p : Key) (size : ℕ) (n : ℕ) (node : Node) → IsForest (graph s) → walk (graph s) p ≡ Some n → get s n ≡ Some node → node_fault (forms.Truncate (file_limit limits) size) None (shape_of (Some (place node))) ≡ None
    → IsTrue (in_blocks limits || nat_lt (length (bytes_of (shape_of (Some (place node))))) size) → IsTrue (needs_memory limits (tree_of (graph s)) (Truncate p size))
truncate_needs limits s p size n node forest walked got sound longer =
    needs limits (tree_of (graph s)) (Truncate p size) (node_found limits s (Truncate p size) (forms.Truncate (file_limit limits) size) p refl n node forest walked got ∙ sound)
    (ap (λ z. in_blocks limits || nat_lt (length (bytes_of z)) size) (seen limits s (Truncate p size) (forms.Truncate (file_limit limits) size) p refl n node forest walked got) ∙ longer)
