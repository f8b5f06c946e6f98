-- What a rename answers and leaves.
use Rattle.std.proofs.Common.{◌≡◌, ◌≢◌, ℕ, ◌≤◌, Bool, true, false, cond, not, ◌&&◌, ◌||◌, List, length, Some, None, Option, is_some, Ok, refl, sym, ap, subst, ◌∙◌, IsTrue}
use Rattle.std.specs.Prelude.{insert, remove, slice_set}
use Rattle.std.specs.FinMap.{find, put, is_sorted}
use Rattle.fs_names.specs.Limits.{entry_limit}
use Rattle.fs_names.specs.Names.{Name, name_cmp, same_name, is_long}
use Rattle.fs_names.specs.declared.limits.Limits.{Limits}
use Rattle.fs_names.specs.Keys.{Key, parent_of, last_of}
use Rattle.fs_calls.specs.Tree.{Tree, renamed, Dir as IsDir}
use Rattle.fs_calls.specs.Sights.{is_missing, is_same}
use Rattle.fs_calls.specs.Forms.{AtPair, by_text}
use Rattle.fs_calls.specs.Forms as pairs
use Rattle.fs_calls.specs.Outcomes.{change}
use Rattle.fs_seq.specs.Memory.{needs_memory}
use Rattle.fs_seq_nodes.specs.code.Slots.{Dir, Slots, place_at, node_of, links_of, links_at, walk, node_at, tree_of, IsForest, Sets, KeepsForm}
use Rattle.fs_seq_nodes.specs.code.Nodes.{without, IsNameAt, IsTaken, IsFree, IsAt}
use Rattle.fs_seq.specs.code.Effects.{AnswersWithin, HasFaultBy}
use Rattle.fs_seq.specs.code.Renaming.{Moves, Plans, Displaces, Transfers}
use Rattle.fs_seq_nodes.specs.declared.nodes.Entry.{Entry}
use Rattle.fs_seq.specs.declared.rename.Plan.{Plan}
use Rattle.fs_seq.specs.declared.rename.Plan.TheVariants.{Stay, Onto, Within, Across}
use Rattle.fs_calls.specs.declared.call.Call.TheVariants.{Rename}
use Rattle.fs_calls.specs.declared.reply.Reply.TheVariants.{Done, Failed}
use Rattle.fs_calls.specs.declared.errno.Errno.{Errno}
use Rattle.fs_calls.proofs.KeyLemmas.{never_same, is_same_refl}
use Rattle.fs_seq_nodes.proofs.Resolving.{seen_none}
use Rattle.fs_calls.proofs.FaultLemmas.{Renames, by_text_none, rename_renames}
use Rattle.fs_seq.proofs.ForestTrees.{forest_tree}
use Rattle.fs_seq.proofs.Rewiring.{Crosses, Turns, Rewires, which, crossed, turned_in, renamed_free, renamed_onto, find-without, rising-without, other_last}
use Rattle.fs_seq.proofs.LinkEdits.{set_in_place, set_then_removed}
use Rattle.fs_seq.proofs.RenameFaults.{new_named, taken_walk, free_walk}
use Rattle.fs_seq.proofs.Spots.{has_names}
use Rattle.fs_seq.proofs.KeptForms.{form_displaced, form_transferred}
use Rattle.fs_seq_nodes.proofs.FormLemmas.{form_edit}
use Rattle.fs_seq.proofs.Replies.{works, fails, answers, needs}

-- ---- replies

-- a rename with an error leaves all as it was
pub failed : (limits : Limits) (g : Slots) (p q : Key) (e : Errno) → IsForest g → HasFaultBy limits (tree_of g) (Rename p q) (Some e) → AnswersWithin limits g g (Rename p q) (Failed e)
failed limits g p q e forest h =
    answers limits g g (Rename p q) (Some e) Done (change limits (tree_of g) (Rename p q)) (Failed e) h refl refl (λ have. have) (fails g (Some e) Done (change limits (tree_of g) (Rename p q)) e refl forest)

-- a rename without an error, which leaves the tree of its change
done : (limits : Limits) (g g' : Slots) (p q : Key) → HasFaultBy limits (tree_of g) (Rename p q) None → KeepsForm limits g g' → IsForest g' → tree_of g' ≡ change limits (tree_of g) (Rename p q) → AnswersWithin limits g g' (Rename p q) Done
done limits g g' p q h form forest made =
    answers limits g g' (Rename p q) None Done (change limits (tree_of g) (Rename p q)) Done h refl refl form (works g g' None Done (change limits (tree_of g) (Rename p q)) refl made forest)

-- and so does one of a path onto itself
pub stayed : (limits : Limits) (g : Slots) (p q : Key) → IsForest g → HasFaultBy limits (tree_of g) (Rename p q) None → p ≡ q → AnswersWithin limits g g (Rename p q) Done
stayed limits g p q forest h same = done limits g g p q h (λ have. have) forest (sym (same_after (tree_of g) p q same))
  where
    same_after : (t : Tree) (p q : Key) → p ≡ q → change limits t (Rename p q) ≡ t
    same_after t p q e = ap (λ b. cond {A = Tree} b t (renamed t p q)) (ap (is_same p) (sym e) ∙ is_same_refl p)

-- a rename that is done, by the tree that it leaves
moved : (limits : Limits) (g g' : Slots) (p q : Key) → Moves limits g p q → KeepsForm limits g g' → IsForest g' × (tree_of g' ≡ renamed (tree_of g) p q) → AnswersWithin limits g g' (Rename p q) Done
moved limits g g' p q may form made = done limits g g' p q may.allowed form made.0 (made.1 ∙ sym (ap (λ b. cond {A = Tree} b (tree_of g) (renamed (tree_of g) p q)) (never_same p q may.differ)))

-- ---- edits

-- a name is put into one directory, and another is taken out of a second one
crosses : (g between g' : Slots) (n m i : ℕ) (x z : Name) (s : ℕ) (new : List (Name × ℕ)) → n ≢ m → Sets g between m (Some (Dir new)) → new ≡ put name_cmp z s (links_at g m)
    → Sets between g' n (Some (Dir (remove (links_at between n) i))) → IsNameAt (links_at g n) x i → Crosses g g' n x m z s
crosses g between g' n m i x z s new apart linking put_in unlinking at = record {
  apart = apart;
  old = unlinking.here ∙ ap (λ o. Some (Dir (remove (links_of o) i))) (linking.elsewhere n apart) ∙ ap (λ ls. Some (Dir ls)) at.others;
  new = unlinking.elsewhere m (λ e. apart (sym e)) ∙ linking.here ∙ ap (λ ls. Some (Dir ls)) put_in;
  others = λ j not_n not_m. unlinking.elsewhere j not_n ∙ linking.elsewhere j not_m;
}

-- a name of a directory leads elsewhere, and another is taken out of it
turns : (g between g' : Slots) (n i j : ℕ) (x z : Name) (s : ℕ) → IsTrue (is_sorted name_cmp (links_at g n)) → x ≢ z → Sets g between n (Some (Dir (slice_set (links_at g n) j (z, s)))) → Sets between g' n (Some (Dir (remove (links_at between n) i)))
    → IsNameAt (links_at g n) x i → IsNameAt (links_at g n) z j → Turns g g' n x z s
turns g between g' n i j x z s rising apart leading unlinking at to = record {
  here = unlinking.here ∙ ap (λ o. Some (Dir (remove (links_of o) i))) leading.here ∙ ap (λ ls. Some (Dir ls)) (set_then_removed x z s (links_at g n) i j rising apart at to);
  elsewhere = λ k other. unlinking.elsewhere k other ∙ leading.elsewhere k other;
}

-- ---- the paths

-- what is planned has no error
pub allowed : (limits : Limits) (g : Slots) (p q : Key) (plan : Plan) → Plans limits g p q (Ok plan) → HasFaultBy limits (tree_of g) (Rename p q) None
allowed limits g p q Stay h = h.0
allowed limits g p q (Onto entry victim) h = h.0.allowed
allowed limits g p q (Within entry) h = h.0.allowed
allowed limits g p q (Across entry dir i) h = h.0.allowed

-- a rename that is done has a new path with a name
pub new_path_named : (limits : Limits) (g : Slots) (p q : Key) (plan : Plan) → IsForest g → Plans limits g p q (Ok plan) → 1 ≤ length q
new_path_named limits g p q plan forest h = has_names q (new_named limits g forest p q (by_text_none limits (tree_of g) (Rename p q) (allowed limits g p q plan h)))

module _ (limits : Limits) (g : Slots) (forest : IsForest g) (p q : Key) (may : Moves limits g p q) where
  -- what such a rename finds in the tree
  renames : Renames (tree_of g) p q
  renames = rename_renames limits (tree_of g) p q (forest_tree g forest) may.allowed may.differ

  -- the paths alone decide no error
  text : by_text (AtPair (pairs.Rename (entry_limit limits)) p q) ≡ None
  text = by_text_none limits (tree_of g) (Rename p q) may.allowed

  -- the number of a node at a path has a place
  pub node_placed : (dir i n : ℕ) → IsTaken g q dir i n → is_some (place_at g n) ≡ true
  node_placed dir i n to = forest.inside q n (taken_walk limits g forest p q text q dir i n renames.new_named to)

  -- ---- within a directory

  module _ (entry : Entry) (at : IsAt g p entry) where
    dir_node : node_at g entry.dir ≡ Some IsDir
    dir_node = ap node_of at.directory

    dir_placed : is_some (place_at g entry.dir) ≡ true
    dir_placed = ap is_some at.directory

    pub left_rising : IsTrue (is_sorted name_cmp (remove (links_at g entry.dir) entry.place))
    left_rising = ap (is_sorted name_cmp) at.stands.others ∙ rising-without (last_of p) (links_at g entry.dir) (forest.rising entry.dir)

    pub left_absent : (x : Name) (i entries : ℕ) → IsFree g q entry.dir i entries → last_of q ≡ x → find name_cmp x (remove (links_at g entry.dir) entry.place) ≡ None
    left_absent x i entries to last =
        ap (find name_cmp x) at.stands.others ∙ find-without (last_of p) x (links_at g entry.dir)
        ∙ ap (cond {A = Option ℕ} (same_name (last_of p) x) None) (ap (λ y. find name_cmp y (links_at g entry.dir)) (sym last) ∙ to.belongs.absent) ∙ either_none (same_name (last_of p) x)
      where
        either_none : (b : Bool) → cond {A = Option ℕ} b None None ≡ None
        either_none true = refl
        either_none false = refl

    pub moved_within : (g' : Slots) (x : Name) (i entries : ℕ) → IsFree g q entry.dir i entries → last_of q ≡ x → Sets g g' entry.dir (Some (Dir (put name_cmp x entry.node (remove (links_at g entry.dir) entry.place)))) → AnswersWithin limits g g' (Rename p q) Done
    moved_within g' x i entries to last edit =
        let links : put name_cmp x entry.node (remove (links_at g entry.dir) entry.place) ≡ put name_cmp (last_of q) entry.node (without (last_of p) (links_at g entry.dir)) = (λ j. put name_cmp (sym last j) entry.node (at.stands.others j)) in
        let turns : Turns g g' entry.dir (last_of p) (last_of q) entry.node = subst (λ ls. Sets g g' entry.dir (Some (Dir ls))) links edit in
        moved limits g g' p q may (form_edit limits g g' entry.dir _ edit) (renamed_free g forest p q entry.dir entry.node entry.dir renames at.parent at.leads to.parent g'
        (turned_in g g' forest.rising entry.dir (last_of p) (last_of q) entry.node dir_node dir_placed turns))

    -- such a rename needs memory only for a long name
    pub name_needed : (x : Name) (i entries : ℕ) → IsFree g q entry.dir i entries → last_of q ≡ x → IsTrue (is_long x) → IsTrue (needs_memory limits (tree_of g) (Rename p q))
    name_needed x i entries to last long =
        let none = seen_none g q forest (free_walk limits g forest p q text q entry.dir i entries renames.new_named to) in
        needs limits (tree_of g) (Rename p q) may.allowed
        ((λ j. is_missing (none j) && (not (is_same (parent_of p) (parent_of q)) || (ap is_long last ∙ long) j)) ∙ or_true (not (is_same (parent_of p) (parent_of q))))
      where
        or_true : (b : Bool) → b || true ≡ true
        or_true true = refl
        or_true false = refl

    -- ---- onto another entry

    module _ (victim : Entry) (to : IsAt g q victim) where
      rewired_across : (between unlinked : Slots) → entry.dir ≢ victim.dir → Sets g between victim.dir (Some (Dir (slice_set (links_at g victim.dir) victim.place (last_of q, entry.node))))
          → Sets between unlinked entry.dir (Some (Dir (remove (links_at between entry.dir) entry.place))) → Rewires g unlinked entry.dir (last_of p) victim.dir (last_of q) entry.node
      rewired_across between unlinked apart leading unlinking =
          crossed g unlinked forest.rising entry.dir (last_of p) victim.dir (last_of q) entry.node dir_node dir_placed (ap node_of to.directory)
          (crosses g between unlinked entry.dir victim.dir entry.place (last_of p) (last_of q) entry.node (slice_set (links_at g victim.dir) victim.place (last_of q, entry.node)) apart leading
          (set_in_place (last_of q) entry.node (links_at g victim.dir) victim.place (forest.rising victim.dir) to.stands) unlinking at.stands)

      rewired_within : (between unlinked : Slots) → victim.dir ≡ entry.dir → Sets g between victim.dir (Some (Dir (slice_set (links_at g victim.dir) victim.place (last_of q, entry.node))))
          → Sets between unlinked entry.dir (Some (Dir (remove (links_at between entry.dir) entry.place))) → Rewires g unlinked entry.dir (last_of p) victim.dir (last_of q) entry.node
      rewired_within between unlinked same leading unlinking =
          let leading_here : Sets g between entry.dir (Some (Dir (slice_set (links_at g entry.dir) victim.place (last_of q, entry.node)))) = subst (λ d. Sets g between d (Some (Dir (slice_set (links_at g d) victim.place (last_of q, entry.node))))) same leading in
          let stands_here : IsNameAt (links_at g entry.dir) (last_of q) victim.place = subst (λ d. IsNameAt (links_at g d) (last_of q) victim.place) same to.stands in
          let one : Turns g unlinked entry.dir (last_of p) (last_of q) entry.node = turns g between unlinked entry.dir entry.place victim.place (last_of p) (last_of q) entry.node (forest.rising entry.dir)
          (other_last g forest p q renames.named renames.new_named may.differ entry.dir at.parent (to.parent ∙ ap Some same)) leading_here unlinking at.stands stands_here in
          subst (λ d. Rewires g unlinked entry.dir (last_of p) d (last_of q) entry.node) (sym same) (turned_in g unlinked forest.rising entry.dir (last_of p) (last_of q) entry.node dir_node dir_placed one)

      pub moved_onto : (g' : Slots) (x : Name) → last_of q ≡ x → Displaces g g' entry victim x → AnswersWithin limits g g' (Rename p q) Done
      moved_onto g' x last edit =
          let leading : Sets g edit.between victim.dir (Some (Dir (slice_set (links_at g victim.dir) victim.place (last_of q, entry.node)))) = subst (λ y. Sets g edit.between victim.dir (Some (Dir (slice_set (links_at g victim.dir) victim.place (y, entry.node))))) (sym last) edit.leading in
          let rewires : Rewires g edit.unlinked entry.dir (last_of p) victim.dir (last_of q) entry.node =
          which victim.dir entry.dir (Rewires g edit.unlinked entry.dir (last_of p) victim.dir (last_of q) entry.node)
          (λ same. rewired_within edit.between edit.unlinked same leading edit.unlinking)
          (λ other. rewired_across edit.between edit.unlinked (λ e. other (sym e)) leading edit.unlinking) in
          moved limits g g' p q may (form_displaced limits g g' entry victim x edit) (renamed_onto g forest p q entry.dir entry.node victim.dir renames at.parent at.leads to.parent edit.unlinked g' victim.node to.leads rewires edit.removing)

    -- ---- to another directory

    module _ (dir i entries : ℕ) (to : IsFree g q dir i entries) (apart : entry.dir ≢ dir) where
      pub moved_across : (g' : Slots) (x : Name) → last_of q ≡ x → Transfers g g' entry dir i x → AnswersWithin limits g g' (Rename p q) Done
      moved_across g' x last edit =
          let put_in : insert (links_at g dir) i (x, entry.node) ≡ put name_cmp (last_of q) entry.node (links_at g dir) = ap (λ y. insert (links_at g dir) i (y, entry.node)) (sym last) ∙ sym (to.belongs.placed entry.node) in
          moved limits g g' p q may (form_transferred limits g g' entry dir i x edit) (renamed_free g forest p q entry.dir entry.node dir renames at.parent at.leads to.parent g'
          (crossed g g' forest.rising entry.dir (last_of p) dir (last_of q) entry.node dir_node dir_placed (ap node_of to.directory)
          (crosses g edit.between g' entry.dir dir entry.place (last_of p) (last_of q) entry.node (insert (links_at g dir) i (x, entry.node)) apart edit.linking put_in edit.unlinking at.stands)))

      -- to another directory the rename needs memory
      pub memory_needed : IsTrue (needs_memory limits (tree_of g) (Rename p q))
      memory_needed = needs limits (tree_of g) (Rename p q) may.allowed
          (λ j. is_missing (seen_none g q forest (free_walk limits g forest p q text q dir i entries renames.new_named to) j) && (not (never_same (parent_of p) (parent_of q) other j) || is_long (last_of q)))
        where
          other : parent_of p ≢ parent_of q
          other same = let both : Some entry.dir ≡ Some dir = sym at.parent ∙ ap (walk g) same ∙ to.parent in apart (let e : entry.dir ≡ dir = cc in e)
