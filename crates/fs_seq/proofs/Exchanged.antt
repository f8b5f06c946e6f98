-- What an exchange answers and leaves.
use Rattle.std.proofs.Common.{◌≡◌, ◌≢◌, ℕ, cond, ◌∷◌, [], ◌++◌, length, ◌<◌, slice_get, Some, None, Option, refl, sym, ap, ◌∙◌, subst, IsTrue, List}
use Rattle.std.proofs.lemmas.List.{length-set}
use Rattle.std.proofs.lemmas.Option.{slice_get-get_or}
use Rattle.std.specs.Prelude.{slice_set}
use Rattle.std.specs.FinMap.{find, put, is_sorted}
use Rattle.std.proofs.lemmas.Float.{T_from_true}
use Rattle.fs_names.specs.Names.{Name, name_cmp, same_name}
use Rattle.fs_names.specs.Keys.{Key, after_prefix, parent_of, last_of}
use Rattle.fs_names.proofs.Lemmas.{same_name_refl}
use Rattle.fs_names.specs.declared.limits.Limits.{Limits}
use Rattle.fs_names.specs.declared.limits.Limits.TheVariants.{V1}
use Rattle.fs_calls.specs.Tree.{Tree, exchanged, Dir as IsDir}
use Rattle.fs_calls.specs.Sights.{is_same}
use Rattle.fs_calls.specs.Outcomes.{change}
use Rattle.fs_calls.specs.declared.call.Call.TheVariants.{Exchange}
use Rattle.fs_calls.specs.declared.reply.Reply.TheVariants.{Done}
use Rattle.fs_calls.proofs.KeyLemmas.{never_same, is_same_refl, parent_and_last}
use Rattle.fs_calls.proofs.ExchangedTrees.{Beside}
use Rattle.fs_calls.proofs.FaultLemmas.{Exchanges, by_text_none, exchange_exchanges}
use Rattle.fs_seq_nodes.specs.declared.nodes.Entry.{Entry}
use Rattle.fs_seq_nodes.specs.code.Slots.{Dir, Slots, place_at, node_of, links_of, links_at, child, walk, node_at, tree_of, IsForest, Sets, KeepsForm}
use Rattle.fs_seq_nodes.specs.code.Nodes.{name_of, IsNameAt, IsAt}
use Rattle.fs_seq.specs.code.Effects.{Answers, HasFault}
use Rattle.fs_seq.specs.code.Exchanging.{Swaps}
use Rattle.fs_seq_nodes.proofs.Edits.{Links}
use Rattle.fs_seq.proofs.ForestTrees.{forest_tree}
use Rattle.fs_seq.proofs.LinkEdits.{set_rising, named_elsewhere, other_place}
use Rattle.fs_seq.proofs.ExchangeFaults.{named, other_named}
use Rattle.fs_seq.proofs.Spots.{taken_walk}
use Rattle.fs_seq_nodes.proofs.FormLemmas.{form_edit}
use Rattle.fs_seq.proofs.Replies.{at_each, works, answers}
use Rattle.fs_seq_nodes.proofs.Resolving.{child-find}
use Rattle.fs_seq.proofs.Rewiring.{which, other_name, other_last, find-put_link, rising-put, child_of, same_child}
use Rattle.fs_seq.proofs.Swapping.{Turned, forest_swapped, tree_swapped}

-- ---- one link

-- a name of a directory leads elsewhere: all directories stay, and their names rise
record Relinked (g g' : Slots) (dir : ℕ) (x : Name) (n : ℕ) : Type 0 where
  pub links : Links g g' dir x n
  pub rising : (j : ℕ) → IsTrue (is_sorted name_cmp (links_at g' j))
  pub kept : (j : ℕ) → node_at g' j ≡ node_at g j

module _ (g g' : Slots) (rising : (j : ℕ) → IsTrue (is_sorted name_cmp (links_at g j))) (dir i : ℕ) (x : Name) (n : ℕ) (is_dir : node_at g dir ≡ Some IsDir) (named : name_of (slice_get (links_at g dir) i) ≡ Some x)
    (edit : Sets g g' dir (Some (Dir (slice_set (links_at g dir) i (x, n))))) where
  -- the link written anew is the link put
  put_in : slice_set (links_at g dir) i (x, n) ≡ put name_cmp x n (links_at g dir)
  put_in = set_rising x n (links_at g dir) i (T_from_true _ (rising dir)) named

  relinked : Relinked g g' dir x n
  relinked = record {
    links = record {
      here = λ y. child_of g' dir y _ edit.here ∙ ap (find name_cmp y) put_in ∙ find-put_link x y n (links_at g dir) ∙ ap (cond (same_name x y) (Some n)) (sym (child-find g dir y));
      elsewhere = λ j y other. same_child g' g j y (edit.elsewhere j other);
    };
    rising = λ j. which j dir (IsTrue (is_sorted name_cmp (links_at g' j)))
        (λ at. ap (λ i. is_sorted name_cmp (links_at g' i)) at ∙ ap (λ o. is_sorted name_cmp (links_of o)) edit.here ∙ ap (is_sorted name_cmp) put_in ∙ rising-put x n (links_at g dir) (rising dir))
        (λ other. ap (λ o. is_sorted name_cmp (links_of o)) (edit.elsewhere j other) ∙ rising j);
    kept = λ j. which j dir (node_at g' j ≡ node_at g j)
        (λ at. ap (node_at g') at ∙ ap node_of edit.here ∙ sym is_dir ∙ sym (ap (node_at g) at))
        (λ other. ap node_of (edit.elsewhere j other));
  }

-- the name leads there
leads_there : (g g' : Slots) (dir : ℕ) (x : Name) (n : ℕ) → Links g g' dir x n → child g' dir x ≡ Some n
leads_there g g' dir x n links = links.here x ∙ ap (λ b. cond {A = Option ℕ} b (Some n) (child g dir x)) (same_name_refl x)

-- all other names lead where they led
as_before : (g g' : Slots) (dir : ℕ) (x : Name) (n : ℕ) → Links g g' dir x n → (j : ℕ) (y : Name) → (j ≡ dir → y ≢ x) → child g' j y ≡ child g j y
as_before g g' dir x n links j y other = which j dir (child g' j y ≡ child g j y)
    (λ at.
    ap (λ i. child g' i y) at ∙ links.here y
    ∙ ap (λ b. cond {A = Option ℕ} b (Some n) (child g dir y)) (other_name x y (λ e. other at (sym e))) ∙ sym (ap (λ i. child g i y) at))
    (λ not_there. links.elsewhere j y not_there)

-- ---- two links

-- two names that led to s1 and s2 lead to s2 and s1
both_relinked : (g between g' : Slots) (n1 : ℕ) (x1 : Name) (s1 n2 : ℕ) (x2 : Name) (s2 : ℕ) → (n1 ≡ n2 → x1 ≢ x2) → Relinked g between n1 x1 s2 → Relinked between g' n2 x2 s1 → Turned g g' n1 x1 s1 n2 x2 s2
both_relinked g between g' n1 x1 s1 n2 x2 s2 apart one other = record {
  first = as_before between g' n2 x2 s1 other.links n1 x1 apart ∙ leads_there g between n1 x1 s2 one.links;
  second = leads_there between g' n2 x2 s1 other.links;
  others = λ j y not_first not_second. as_before between g' n2 x2 s1 other.links j y not_second ∙ as_before g between n1 x1 s2 one.links j y not_first;
  kept = λ j. other.kept j ∙ one.kept j;
  rising = other.rising;
}

-- a link among others has a name
pub has_name : (links : List (Name × ℕ)) (i : ℕ) → i < length links → (x : Name) × (name_of (slice_get links i) ≡ Some x)
has_name links i within = by_case (slice_get links i) refl
  where
    by_case : (o : Option (Name × ℕ)) → slice_get links i ≡ o → (x : Name) × (name_of (slice_get links i) ≡ Some x)
    by_case None e = let some = slice_get-get_or links i ([], 0) within in absurd (cc)
    by_case (Some l) e = (l.0, ap name_of e)

-- where one name leads elsewhere, another one stands where it stood
pub still_named : (g between : Slots) (n1 i : ℕ) (x1 : Name) (s n2 j : ℕ) (x2 : Name) → (n2 ≡ n1 → j ≢ i) → Sets g between n1 (Some (Dir (slice_set (links_at g n1) i (x1, s)))) → name_of (slice_get (links_at g n2) j) ≡ Some x2
    → name_of (slice_get (links_at between n2) j) ≡ Some x2
still_named g between n1 i x1 s n2 j x2 apart edit named = which n2 n1 (name_of (slice_get (links_at between n2) j) ≡ Some x2)
    (λ same.
    ap (λ n. name_of (slice_get (links_at between n) j)) same ∙ ap (λ o. name_of (slice_get (links_of o) j)) edit.here
    ∙ ap name_of (named_elsewhere (links_at g n1) j i (x1, s) (apart same)) ∙ ap (λ n. name_of (slice_get (links_at g n) j)) (sym same) ∙ named)
    (λ other. ap (λ o. name_of (slice_get (links_of o) j)) (edit.elsewhere n2 other) ∙ named)

-- a directory is still one, with as many links
pub still_dir : (g between : Slots) (n1 i : ℕ) (l : Name × ℕ) (n2 : ℕ) → Sets g between n1 (Some (Dir (slice_set (links_at g n1) i l))) → place_at g n2 ≡ Some (Dir (links_at g n2)) → place_at between n2 ≡ Some (Dir (links_at between n2))
still_dir g between n1 i l n2 edit is_dir = which n2 n1 (place_at between n2 ≡ Some (Dir (links_at between n2)))
    (λ same. whole n2 _ (ap (place_at between) same ∙ edit.here))
    (λ other. whole n2 _ (edit.elsewhere n2 other ∙ is_dir))
  where
    whole : (n : ℕ) (links : List (Name × ℕ)) → place_at between n ≡ Some (Dir links) → place_at between n ≡ Some (Dir (links_at between n))
    whole n links e = e ∙ ap (λ o. Some (Dir (links_of o))) (sym e)

pub still_within : (g between : Slots) (n1 i : ℕ) (l : Name × ℕ) (n2 j : ℕ) → Sets g between n1 (Some (Dir (slice_set (links_at g n1) i l))) → j < length (links_at g n2) → j < length (links_at between n2)
still_within g between n1 i l n2 j edit within = which n2 n1 (j < length (links_at between n2))
    (λ same. subst (λ n. j < n) (ap (λ n. length (links_at g n)) same ∙ sym (ap (λ n. length (links_at between n)) same ∙ ap (λ o. length (links_of o)) edit.here ∙ length-set (links_at g n1) i l)) within)
    (λ other. subst (λ n. j < n) (sym (ap (λ o. length (links_of o)) (edit.elsewhere n2 other))) within)

-- ---- replies

-- an exchange without an error, which leaves the tree of its change
done : (g g' : Slots) (p q : Key) → HasFault (tree_of g) (Exchange p q) None → ((limits : Limits) → KeepsForm limits g g') → IsForest g' → tree_of g' ≡ change V1 (tree_of g) (Exchange p q) → Answers g g' (Exchange p q) Done
done g g' p q sound form forest made =
    at_each g g' (Exchange p q) Done (λ limits. answers limits g g' (Exchange p q) None Done (change limits (tree_of g) (Exchange p q)) Done (sound limits) refl refl (form limits) (works g g' None Done (change limits (tree_of g) (Exchange p q)) refl made forest))

module _ (g : Slots) (forest : IsForest g) (p q : Key) (sound : HasFault (tree_of g) (Exchange p q) None) (one two : Entry) (at : IsAt g p one) (to : IsAt g q two) where
  -- the first path leads to the first node
  to_one : walk g p ≡ Some one.node
  to_one = taken_walk g forest p (named g forest p q (by_text_none V1 (tree_of g) (Exchange p q) (sound V1))) one.dir one.place one.node at

  -- and the second one to the second
  to_two : walk g q ≡ Some two.node
  to_two = taken_walk g forest q (other_named g forest p q (by_text_none V1 (tree_of g) (Exchange p q) (sound V1))) two.dir two.place two.node to

  -- one node at both paths
  pub stayed : one.node ≡ two.node → Answers g g (Exchange p q) Done
  stayed same =
      let paths : p ≡ q = forest.once p q two.node (to_one ∙ ap Some same) to_two in
      done g g p q sound (λ limits have. have) forest (sym (ap (λ b. cond {A = Tree} b (tree_of g) (exchanged (tree_of g) p q)) (ap (is_same p) (sym paths) ∙ is_same_refl p)))

  -- two nodes, which change places
  pub swapped : one.node ≢ two.node → (g' : Slots) → Swaps g g' one two → Answers g g' (Exchange p q) Done
  swapped other g' edit = done g g' p q sound form whole made
    where
      differ : p ≢ q
      differ e = let both : Some one.node ≡ Some two.node = sym to_one ∙ ap (walk g) e ∙ to_two in other (let same : one.node ≡ two.node = cc in same)

      finds : Exchanges (tree_of g) p q
      finds = exchange_exchanges V1 (tree_of g) p q (forest_tree g forest) (sound V1) differ

      -- both paths by their parents
      first_key : p ≡ parent_of p ++ last_of p ∷ []
      first_key = parent_and_last p finds.named

      second_key : q ≡ parent_of q ++ last_of q ∷ []
      second_key = parent_and_last q finds.other_named

      beside : Beside (parent_of p ++ last_of p ∷ []) (parent_of q ++ last_of q ∷ [])
      beside = record {
        there = (λ i. after_prefix (sym first_key i) (sym second_key i)) ∙ finds.beside.there;
        back = (λ i. after_prefix (sym second_key i) (sym first_key i)) ∙ finds.beside.back;
      }

      -- in one directory the names differ
      apart : one.dir ≡ two.dir → last_of p ≢ last_of q
      apart same = other_last g forest p q finds.named finds.other_named differ two.dir (at.parent ∙ ap Some same) to.parent

      -- and so do the places
      places : two.dir ≡ one.dir → two.place ≢ one.place
      places same = other_place (links_at g one.dir) (last_of q) (last_of p) two.place one.place (λ e. apart (sym same) (sym e)) (subst (λ d. IsNameAt (links_at g d) (last_of q) two.place) same to.stands) at.stands

      first : Sets g edit.between one.dir (Some (Dir (slice_set (links_at g one.dir) one.place (last_of p, two.node))))
      first = edit.first (last_of p) at.stands.named

      one_link : Relinked g edit.between one.dir (last_of p) two.node
      one_link = relinked g edit.between forest.rising one.dir one.place (last_of p) two.node (ap node_of at.directory) at.stands.named first

      there : name_of (slice_get (links_at edit.between two.dir) two.place) ≡ Some (last_of q)
      there = still_named g edit.between one.dir one.place (last_of p) two.node two.dir two.place (last_of q) places first to.stands.named

      other_link : Relinked edit.between g' two.dir (last_of q) one.node
      other_link = relinked edit.between g' one_link.rising two.dir two.place (last_of q) one.node (one_link.kept two.dir ∙ ap node_of to.directory) there (edit.second (last_of q) there)

      form : (limits : Limits) → KeepsForm limits g g'
      form limits = λ have. form_edit limits edit.between g' two.dir _ (edit.second (last_of q) there) (form_edit limits g edit.between one.dir _ first have)

      turned : Turned g g' one.dir (last_of p) one.node two.dir (last_of q) two.node
      turned = both_relinked g edit.between g' one.dir (last_of p) one.node two.dir (last_of q) two.node apart one_link other_link

      whole : IsForest g'
      whole = forest_swapped g g' forest (parent_of p) one.dir (last_of p) one.node (parent_of q) two.dir (last_of q) two.node beside at.parent at.leads to.parent to.leads turned

      made : tree_of g' ≡ change V1 (tree_of g) (Exchange p q)
      made =
          tree_swapped g g' forest (parent_of p) one.dir (last_of p) one.node (parent_of q) two.dir (last_of q) two.node beside at.parent at.leads to.parent to.leads turned
          ∙ (λ i. exchanged (tree_of g) (sym first_key i) (sym second_key i))
          ∙ sym (ap (λ b. cond {A = Tree} b (tree_of g) (exchanged (tree_of g) p q)) (never_same p q differ))
