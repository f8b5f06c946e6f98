-- What the calls that remove a node answer and leave.
use Rattle.std.proofs.Common.{◌≡◌, ℕ, Ok, ◌<◌, [], ◌∷◌, length, Some, None, Option, refl, sym, ap, subst, ◌∙◌}
use Rattle.std.specs.Prelude.{remove}
use Rattle.std.specs.FinMap.{find}
use Rattle.slab.specs.Slab.{Slab, Updates}
use Rattle.fs_names.specs.Names.{Name, name_cmp}
use Rattle.fs_names.specs.Keys.{Key, is_root, parent_of, last_of}
use Rattle.fs_names.specs.Failures.{check, or_else, first_failure}
use Rattle.fs_names.specs.declared.limits.Limits.{Limits}
use Rattle.fs_names.specs.declared.limits.Limits.TheVariants.{V1}
use Rattle.fs_calls.specs.Forms.{new_shape, root_error}
use Rattle.fs_calls.specs.code.Targets.{entry_call}
use Rattle.fs_calls.specs.declared.target.EntryCall.{EntryCall}
use Rattle.fs_calls.specs.declared.target.EntryCall.TheVariants as entries
use Rattle.fs_calls.specs.declared.target.EntryCall.TheVariants.{Mkdir, Mknod}
use Rattle.fs_calls.specs.Rows.{entry_errors, entry_fault}
use Rattle.fs_seq_nodes.specs.declared.nodes.Spot.{Spot}
use Rattle.fs_calls.specs.declared.call.Call.{Call}
use Rattle.fs_calls.specs.declared.call.Call.TheVariants.{Unlink, Rmdir}
use Rattle.fs_calls.specs.declared.errno.Errno.{Errno}
use Rattle.fs_calls.specs.declared.errno.Errno.TheVariants.{Eperm, Ebusy}
use Rattle.fs_calls.specs.declared.reply.Reply.TheVariants.{Done, Failed}
use Rattle.fs_calls.specs.Tree.{Tree, removed}
use Rattle.fs_seq_nodes.specs.declared.nodes.Node.{Node}
use Rattle.fs_calls.specs.Sights.{Shape, tree_shapes}
use Rattle.fs_calls.proofs.RowNames.{unlinking, removing}
use Rattle.fs_calls.specs.Outcomes.{fault, success, change, parents_resolution}
use Rattle.fs_seq_nodes.specs.code.Slots.{Place, Dir, File, Slots, links_at, links_of, shape_of, child, tree_of, IsForest, Sets}
use Rattle.fs_seq_nodes.specs.code.Nodes.{graph, LooksUp, shape_there, without}
use Rattle.fs_seq.specs.code.Effects.{IsVictim, Detaches, Answers, HasFault, call_on}
use Rattle.fs_seq_nodes.proofs.NodeLemmas.{parent_and_last, child_got}
use Rattle.fs_seq_nodes.proofs.SlabLemmas.{sets_slot}
use Rattle.fs_seq.proofs.Spots.{not_root, root, spot_parents, spot_seen}
use Rattle.fs_seq.proofs.GraphCut.{forest_cut, tree_cut}
use Rattle.fs_seq.proofs.KeptForms.{form_detached}
use Rattle.fs_seq.proofs.Replies.{works, fails, answers, at_each}

-- a call on a path that is not the root, by its parent's error and what is there
pub record GoesBy (call : Call) (p : Key) (at_root : Errno) (rest : Option Errno → Option Shape → Option Errno) : Type 0 where
  pub errors : (limits : Limits) (t : Tree) → fault limits t call ≡ or_else (check (is_root p) at_root) (rest (parents_resolution t p) (tree_shapes t p))
  pub lost : (e : Errno) (there : Option Shape) → rest (Some e) there ≡ Some e
  pub well : (limits : Limits) (t : Tree) → success limits t call ≡ Done
  pub makes : (limits : Limits) (t : Tree) → change limits t call ≡ removed t p

-- unlink and rmdir are such calls
pub unlink_goes : (p : Key) → GoesBy (Unlink p) p Eperm unlinking
unfolding fault
unlink_goes p = record { errors = λ limits t. refl; lost = λ e there. refl; well = λ limits t. refl; makes = λ limits t. refl }

-- rmdir goes by its parent's error and what is there
pub rmdir_goes : (p : Key) → GoesBy (Rmdir p) p Ebusy removing
unfolding fault
rmdir_goes p = record { errors = λ limits t. refl; lost = λ e there. refl; well = λ limits t. refl; makes = λ limits t. refl }

-- so is each call on an entry that makes no node
pub entry_goes : (c : EntryCall) → new_shape (entry_call V1 c) ≡ None → (p : Key) → GoesBy (call_on c p) p (root_error (entry_call V1 c)) (λ parent there. entry_fault (entry_call V1 c) parent None there)
entry_goes Mkdir h p = absurd (cc)
entry_goes Mknod h p = absurd (cc)
entry_goes entries.Unlink h p = unlink_goes p
entry_goes entries.Rmdir h p = rmdir_goes p

-- what it removes has no entries
pub entry_leaf : (c : EntryCall) (o : Option Place) → new_shape (entry_call V1 c) ≡ None → first_failure (entry_errors (entry_call V1 c) None (shape_of o)) ≡ None → links_of o ≡ []
entry_leaf Mkdir o h e = absurd (cc)
entry_leaf Mknod o h e = absurd (cc)
entry_leaf c None h e = refl
entry_leaf c (Some (File file)) h e = refl
entry_leaf c (Some (Dir [])) h e = refl
entry_leaf entries.Unlink (Some (Dir (l ∷ links))) h e = absurd (cc)
entry_leaf entries.Rmdir (Some (Dir (l ∷ links))) h e = absurd (cc)

-- what such a call meets without an error is a node
pub entry_met : (c : EntryCall) → new_shape (entry_call V1 c) ≡ None → first_failure (entry_errors (entry_call V1 c) None None) ≡ None → ⊥
entry_met Mkdir h e = absurd (cc)
entry_met Mknod h e = absurd (cc)
entry_met entries.Unlink h e = absurd (cc)
entry_met entries.Rmdir h e = absurd (cc)

-- an entry and then its node are removed
pub detaches : (s0 s1 s2 : Slab Node) (dir i n : ℕ) → Sets (graph s0) (graph s1) dir (Some (Dir (remove (links_at (graph s0) dir) i))) → Updates s1 s2 n None → Detaches (graph s0) (graph s2) dir i n
detaches s0 s1 s2 dir i n unlinking removing = record { between = graph s1; unlinking = unlinking; removing = sets_slot s1 s2 n None removing }

module _ (call : Call) (p : Key) (at_root : Errno) (rest : Option Errno → Option Shape → Option Errno) (by : GoesBy call p at_root rest) where
  -- the error at the root
  pub root_fault : (t : Tree) → length p ≡ 0 → HasFault t call (Some at_root)
  root_fault t e limits = by.errors limits t ∙ ap (λ b. or_else (check b at_root) (rest (parents_resolution t p) (tree_shapes t p))) (root p e)

  -- the error of the parent
  pub parent_fault : (t : Tree) (e : Errno) → 0 < length p → parents_resolution t p ≡ Some e → HasFault t call (Some e)
  parent_fault t e named lost limits =
      by.errors limits t ∙ (λ i. or_else (check (not_root p named i) at_root) (rest (lost i) (tree_shapes t p))) ∙ by.lost e (tree_shapes t p)

  -- the error by what the name stands for
  pub spot_fault : (g : Slots) (spot : Spot) → IsForest g → 0 < length p → LooksUp g p (Ok spot) → HasFault (tree_of g) call (rest None (shape_there g spot))
  spot_fault g spot forest named at limits =
      by.errors limits (tree_of g) ∙ (λ j. or_else (check (not_root p named j) at_root) (rest (spot_parents g forest p named spot at j) (spot_seen g forest p named spot at j)))

  -- a call that fails changes nothing
  pub refused : (g : Slots) (e : Errno) → IsForest g → HasFault (tree_of g) call (Some e) → Answers g g call (Failed e)
  refused g e forest found = at_each g g call (Failed e) (λ limits. answers limits g g call (Some e) Done (removed (tree_of g) p) _ (found limits) (by.well limits (tree_of g)) (by.makes limits (tree_of g)) (λ have. have) (fails g (Some e) Done (removed (tree_of g) p) e refl forest))

  -- one that does not removes what it found
  pub is_removed : (g g' : Slots) (dir i n : ℕ) → IsForest g → IsVictim g call p dir i n → Detaches g g' dir i n → Answers g g' call Done
  is_removed g g' dir i n forest victim detached =
      let spot = victim.spot in
      let leaf : (y : Name) → child g n y ≡ None = λ y. nothing y in
      let there : find name_cmp (last_of p) (links_at g dir) ≡ Some n = sym (child_got g dir (last_of p) _ spot.directory) ∙ spot.leads in
      let unlinking' : Sets g detached.between dir (Some (Dir (without (last_of p) (links_at g dir)))) = subst (λ ls. Sets g detached.between dir (Some (Dir ls))) spot.stands.others detached.unlinking in
      at_each g g' call Done (λ limits. answers limits g g' call None Done (removed (tree_of g) p) Done (victim.sound limits) (by.well limits (tree_of g)) (by.makes limits (tree_of g)) (form_detached limits g g' dir i n detached)
      (works g g' None Done (removed (tree_of g) p) refl
      (tree_cut g detached.between g' forest (parent_of p) dir spot.parent (links_at g dir) spot.directory (last_of p) n there leaf unlinking' detached.removing ∙ ap (removed (tree_of g)) (sym (parent_and_last p victim.named)))
      (forest_cut g detached.between g' forest (parent_of p) dir spot.parent (links_at g dir) spot.directory (last_of p) n there leaf unlinking' detached.removing)))
    where
      nothing : (y : Name) → child g n y ≡ None
      nothing y = child_got g n y _ refl ∙ ap (find name_cmp y) victim.leaf
