-- The errors of a rename, by what was looked up.
use Rattle.std.proofs.Common.{◌≡◌, ◌≢◌, ℕ, suc, Bool, true, false, not, ◌||◌, ◌&&◌, List, [], ◌∷◌, length, map, Some, None, Option, is_some, Ok, refl, sym, ap, ◌∙◌, arith, nat_eq}
use Rattle.std.specs.Prelude.{nat_le}
use Rattle.std.proofs.lemmas.Bool.Decides.{nat_tests}
use Rattle.fs_names.specs.Failures.{check, or_else, first_failure}
use Rattle.fs_names.specs.Limits.{entry_limit}
use Rattle.fs_names.specs.Names.{Name}
use Rattle.fs_names.specs.Keys.{Key, is_root, is_proper_prefix, parent_of, last_of}
use Rattle.fs_names.proofs.FailureLemmas.{check-none}
use Rattle.fs_names.specs.declared.limits.Limits.{Limits}
use Rattle.fs_calls.specs.Tree.{Tree}
use Rattle.fs_calls.specs.Sights.{Shape, tree_shapes, is_missing, is_file, is_dir, has_entries, is_same}
use Rattle.fs_calls.specs.Forms.{AtPair, by_text}
use Rattle.fs_calls.specs.Forms as pairs
use Rattle.fs_calls.specs.Rows.{has_room, place_fault, rename_errors, rename_fault}
use Rattle.fs_calls.specs.Outcomes.{parents_resolution, row}
use Rattle.fs_seq_nodes.specs.code.Slots.{Place, Dir, File, Slots, place_at, shape_of, links_at, walk, shape_at, tree_of, IsForest}
use Rattle.fs_seq_nodes.specs.code.Nodes.{IsTaken, IsFree, LooksUp}
use Rattle.fs_seq_nodes.specs.declared.nodes.Spot.{Spot}
use Rattle.fs_seq_nodes.specs.declared.nodes.Spot.TheVariants.{Taken, Free}
use Rattle.fs_seq.specs.code.Effects.{HasFaultBy}
use Rattle.fs_seq.specs.code.Renaming.{Moves}
use Rattle.fs_calls.specs.declared.call.Call.TheVariants.{Rename}
use Rattle.fs_calls.specs.declared.errno.Errno.{Errno}
use Rattle.fs_calls.specs.declared.errno.Errno.TheVariants.{Enoent, Enotdir, Eisdir, Enotempty, Einval, Ebusy, Enospc}
use Rattle.fs_calls.proofs.KeyLemmas.{no_true, never_same, is_same_refl, is_same_exact, parent_and_last}
use Rattle.fs_seq_nodes.proofs.Resolving.{walk_on, walk_off, seen_at, seen_none, child-find}
use Rattle.fs_seq_nodes.proofs.Parents.{parents_found}
use Rattle.fs_seq.proofs.Replies.{fault_by_row}
use Rattle.fs_calls.proofs.FaultLemmas.{all_none, or_first, or_second}

-- ---- kinds

-- where something stands, nobody asks for room
any_room : (moved there : Option Shape) (room : Bool) → is_missing there ≡ false → place_fault moved there true ≡ place_fault moved there room
any_room moved there room h = without true ∙ sym (without room)
  where
    kinds : Option Errno → Option Errno
    kinds last = first_failure (check (is_file there && is_dir moved) Enotdir ∷ check (is_dir there && is_file moved) Eisdir ∷ check (has_entries there) Enotempty ∷ last ∷ [])

    without : (b : Bool) → place_fault moved there b ≡ kinds None
    without b = ap (λ z. kinds (check (z && not b) Enospc)) h

-- what is seen of a place is what stands there, so its row is that of a node that moves
pub place_row : (moved there : Option Shape) (room : Bool) → is_missing moved ≡ false → first_failure (rename_errors moved false there room) ≡ place_fault moved there room
place_row moved there room h = ap (λ b. or_else (check b Enoent) (place_fault moved there room)) h

-- ---- the rows

-- the errors of a rename, by all that is read
row_by : (t : Tree) (p q : Key) (source dest : Option Errno) (moved there : Option Shape) (one_path one_parent : Bool) (dir : Option Shape)
    → parents_resolution t p ≡ source → parents_resolution t q ≡ dest → tree_shapes t p ≡ moved → is_same p q ≡ one_path → tree_shapes t q ≡ there → is_same (parent_of p) (parent_of q) ≡ one_parent → tree_shapes t (parent_of q) ≡ dir
    → (limits : Limits) → row limits t (Rename p q) ≡ rename_fault source dest moved one_path there (has_room (entry_limit limits) one_parent dir)
row_by t p q source dest moved there one_path one_parent dir a b c d e f h limits = λ i. rename_fault (a i) (b i) (c i) (d i) (e i) (has_room (entry_limit limits) (f i) (h i))

-- a check before none is the check
alone : (o : Option Errno) → or_else o None ≡ o
alone None = refl
alone (Some e) = refl

-- the checks of a rename of a node that is there
no_error : (moved there : Option Shape) (room : Bool) → is_missing moved ≡ false → rename_fault None None moved true there room ≡ None
no_error moved there room h = ap (λ b. or_else (check b Enoent) None) h

-- another path asks for the kinds and for room
replaced : (moved there : Option Shape) (room : Bool) → is_missing moved ≡ false → rename_fault None None moved false there room ≡ place_fault moved there room
replaced moved there room h = ap (λ b. or_else (check b Enoent) (place_fault moved there room)) h

-- at a place where nothing stands, only room is asked for
to_free : (moved : Option Shape) (room : Bool) → place_fault moved None room ≡ check (not room) Enospc
to_free moved room = alone (check (not room) Enospc)

-- numbers that the test finds equal are equal
nat_same : (a b : ℕ) → nat_eq a b ≡ true → a ≡ b
nat_same a b h = grind (arith, nat_tests)

-- numbers that differ are not equal by the test
nat_apart : (a b : ℕ) → a ≢ b → nat_eq a b ≡ false
nat_apart a b h = grind (arith, nat_tests)

-- a number is equal to itself by the test
nat_self : (a : ℕ) → nat_eq a a ≡ true
nat_self a = grind (arith, nat_tests)

-- and never unequal
nat_itself : (a : ℕ) → nat_eq a a ≡ false → ⊥
nat_itself a h = let e = nat_self a in absurd (cc)

-- there are as many names as links
length_names : (links : List (Name × ℕ)) → length (map (λ l. l.0) links) ≡ length links
length_names [] = refl
length_names (l ∷ links) = ap suc (length_names links)

-- what has a place is not missing
pub there_not_missing : (o : Option Place) → is_some o ≡ true → is_missing (shape_of o) ≡ false
there_not_missing None e = absurd (cc)
there_not_missing (Some (Dir links)) e = refl
there_not_missing (Some (File file)) e = refl

module _ (limits : Limits) (g : Slots) (forest : IsForest g) (p q : Key) (text : by_text (AtPair (pairs.Rename (entry_limit limits)) p q) ≡ None) where
  -- neither path is the root
  roots : is_root p || is_root q ≡ false
  roots = check-none (is_root p || is_root q) Ebusy (all_none (check (is_root p || is_root q) Ebusy ∷ check (is_proper_prefix p q) Einval ∷ []) text).0

  -- the old path has a name
  pub named : is_root p ≡ false
  named = or_first (is_root p) (is_root q) roots

  -- the new path has a name
  pub new_named : is_root q ≡ false
  new_named = or_second (is_root p) (is_root q) roots

  -- the error of the old path's parent
  pub fault_source : (e : Errno) → parents_resolution (tree_of g) p ≡ Some e → HasFaultBy limits (tree_of g) (Rename p q) (Some e)
  fault_source e h = fault_by_row limits (tree_of g) (Rename p q) (Some e) text (row_by (tree_of g) p q (Some e) _ _ _ _ _ _ h refl refl refl refl refl refl limits)

  -- the error of the new path's parent
  pub fault_dest : (e : Errno) → parents_resolution (tree_of g) p ≡ None → parents_resolution (tree_of g) q ≡ Some e → HasFaultBy limits (tree_of g) (Rename p q) (Some e)
  fault_dest e h f = fault_by_row limits (tree_of g) (Rename p q) (Some e) text (row_by (tree_of g) p q None (Some e) _ _ _ _ _ h f refl refl refl refl refl limits)

  -- nothing at the old path
  pub fault_missing : parents_resolution (tree_of g) p ≡ None → parents_resolution (tree_of g) q ≡ None → tree_shapes (tree_of g) p ≡ None → HasFaultBy limits (tree_of g) (Rename p q) (Some Enoent)
  fault_missing h f none = fault_by_row limits (tree_of g) (Rename p q) (Some Enoent) text (row_by (tree_of g) p q None None None _ _ _ _ h f none refl refl refl refl limits)

  -- what was looked up has a directory as its parent
  pub looked_up : (r : Key) (spot : Spot) → LooksUp g r (Ok spot) → parents_resolution (tree_of g) r ≡ None
  looked_up r (Taken dir i n) at = parents_found g r dir (Dir (links_at g dir)) forest at.parent at.directory
  looked_up r (Free dir i entries) at = parents_found g r dir (Dir (links_at g dir)) forest at.parent at.directory

  -- a path whose last name was found leads to its node
  pub taken_walk : (r : Key) (dir i n : ℕ) → is_root r ≡ false → IsTaken g r dir i n → walk g r ≡ Some n
  taken_walk r dir i n h at = ap (walk g) (parent_and_last r h) ∙ walk_on g (parent_of r) dir (last_of r) n at.parent at.leads

  -- a path whose last name was not found leads nowhere
  pub free_walk : (r : Key) (dir i entries : ℕ) → is_root r ≡ false → IsFree g r dir i entries → walk g r ≡ None
  free_walk r dir i entries h at = ap (walk g) (parent_and_last r h) ∙ walk_off g (parent_of r) dir (last_of r) at.parent (child-find g dir (last_of r) ∙ at.belongs.absent)

  -- nothing stands at the old path
  pub missing : (dir i entries : ℕ) (spot : Spot) → IsFree g p dir i entries → LooksUp g q (Ok spot) → HasFaultBy limits (tree_of g) (Rename p q) (Some Enoent)
  missing dir i entries spot at to = fault_missing (looked_up p (Free dir i entries) at) (looked_up q spot to) (seen_none g p forest (free_walk p dir i entries named at))

  -- a node stands there
  module _ (dir i n : ℕ) (at : IsTaken g p dir i n) where
    from : walk g p ≡ Some n
    from = taken_walk p dir i n named at

    seen_from : tree_shapes (tree_of g) p ≡ shape_at g n
    seen_from = seen_at g p n forest from

    there : is_missing (shape_at g n) ≡ false
    there = there_not_missing (place_at g n) (forest.inside p n from)

    fault_there : (there : Option Shape) (one_path one_parent : Bool) (dest : Option Shape) (o : Option Errno) → parents_resolution (tree_of g) q ≡ None
        → is_same p q ≡ one_path → tree_shapes (tree_of g) q ≡ there → is_same (parent_of p) (parent_of q) ≡ one_parent → tree_shapes (tree_of g) (parent_of q) ≡ dest → rename_fault None None (shape_at g n) one_path there (has_room (entry_limit limits) one_parent dest) ≡ o → HasFaultBy limits (tree_of g) (Rename p q) o
    fault_there there one_path one_parent dest o h e f k l found =
        fault_by_row limits (tree_of g) (Rename p q) o text (row_by (tree_of g) p q None None (shape_at g n) there one_path one_parent dest (looked_up p (Taken dir i n) at) h seen_from e f k l limits ∙ found)

    -- and the same at the new path
    pub stays : (dir2 i2 n2 : ℕ) → IsTaken g q dir2 i2 n2 → n2 ≡ n → HasFaultBy limits (tree_of g) (Rename p q) None × (p ≡ q)
    stays dir2 i2 n2 to e =
        let same : p ≡ q = forest.once p q n from (taken_walk q dir2 i2 n2 new_named to ∙ ap Some e) in (
          fault_there (tree_shapes (tree_of g) q) true (is_same (parent_of p) (parent_of q)) (tree_shapes (tree_of g) (parent_of q)) None (looked_up q (Taken dir2 i2 n2) to) (ap (is_same p) (sym same) ∙ is_same_refl p) refl refl refl
              (no_error (shape_at g n) (tree_shapes (tree_of g) q) (has_room (entry_limit limits) (is_same (parent_of p) (parent_of q)) (tree_shapes (tree_of g) (parent_of q))) there),
          same,
        )

    -- another node stands at the new path
    other_path : (dir2 i2 n2 : ℕ) → IsTaken g q dir2 i2 n2 → n2 ≢ n → p ≢ q
    other_path dir2 i2 n2 to other e =
        let both : Some n2 ≡ Some n = sym (taken_walk q dir2 i2 n2 new_named to) ∙ ap (walk g) (sym e) ∙ from in
        other (let same : n2 ≡ n = cc in same)

    pub onto : (dir2 i2 n2 : ℕ) (o : Option Errno) → IsTaken g q dir2 i2 n2 → n2 ≢ n → o ≡ place_fault (shape_at g n) (shape_at g n2) true → HasFaultBy limits (tree_of g) (Rename p q) o
    onto dir2 i2 n2 o to other is =
        let w : walk g q ≡ Some n2 = taken_walk q dir2 i2 n2 new_named to in
        let one = is_same (parent_of p) (parent_of q) in
        let dest = tree_shapes (tree_of g) (parent_of q) in
        fault_there (shape_at g n2) false one dest o (looked_up q (Taken dir2 i2 n2) to) (never_same p q (other_path dir2 i2 n2 to other)) (seen_at g q n2 forest w) refl refl
        (replaced (shape_at g n) (shape_at g n2) (has_room (entry_limit limits) one dest) there ∙ sym (is ∙ any_room (shape_at g n) (shape_at g n2) (has_room (entry_limit limits) one dest) (there_not_missing (place_at g n2) (forest.inside q n2 w))))

    pub moves_onto : (dir2 i2 n2 : ℕ) → IsTaken g q dir2 i2 n2 → n2 ≢ n → None ≡ place_fault (shape_at g n) (shape_at g n2) true → Moves limits g p q
    moves_onto dir2 i2 n2 to other is = record { allowed = onto dir2 i2 n2 None to other is; differ = other_path dir2 i2 n2 to other }

    -- nothing stands at the new path
    one_parent : (dir2 i2 entries : ℕ) → IsFree g q dir2 i2 entries → is_same (parent_of p) (parent_of q) ≡ nat_eq dir dir2
    one_parent dir2 i2 entries to =
        elim (nat_eq dir dir2) as (λ b. nat_eq dir dir2 ≡ b → is_same (parent_of p) (parent_of q) ≡ b) [
          | true ↦ λ e.
              let same : parent_of p ≡ parent_of q = forest.once (parent_of p) (parent_of q) dir at.parent (to.parent ∙ ap Some (sym (nat_same dir dir2 e))) in
              ap (is_same (parent_of p)) (sym same) ∙ is_same_refl (parent_of p)
          | false ↦ λ e. no_true (is_same (parent_of p) (parent_of q)) (λ same.
              let both : Some dir ≡ Some dir2 = sym at.parent ∙ ap (walk g) (is_same_exact (parent_of p) (parent_of q) same) ∙ to.parent in
              let equal : dir ≡ dir2 = cc in
              let tested : nat_eq dir dir ≡ false = ap (nat_eq dir) equal ∙ e in
              nat_itself dir tested)
        ] refl

    other_free : (dir2 i2 entries : ℕ) → IsFree g q dir2 i2 entries → p ≢ q
    other_free dir2 i2 entries to e = let both : None ≡ Some n = sym (free_walk q dir2 i2 entries new_named to) ∙ ap (walk g) (sym e) ∙ from in absurd (cc)

    fault_free : (dir2 i2 entries : ℕ) → IsFree g q dir2 i2 entries → HasFaultBy limits (tree_of g) (Rename p q) (check (not (nat_eq dir dir2 || not (nat_le (entry_limit limits) entries))) Enospc)
    fault_free dir2 i2 entries to =
        let dest : tree_shapes (tree_of g) (parent_of q) ≡ shape_of (Some (Dir (links_at g dir2))) = seen_at g (parent_of q) dir2 forest to.parent ∙ ap shape_of to.directory in
        let many : length (map (λ l. l.0) (links_at g dir2)) ≡ entries = length_names (links_at g dir2) ∙ sym to.count in
        let room = has_room (entry_limit limits) (nat_eq dir dir2) (shape_of (Some (Dir (links_at g dir2)))) in
        fault_there None false (nat_eq dir dir2) _ _ (looked_up q (Free dir2 i2 entries) to) (never_same p q (other_free dir2 i2 entries to)) (seen_none g q forest (free_walk q dir2 i2 entries new_named to)) (one_parent dir2 i2 entries to) dest
        (replaced (shape_at g n) None room there ∙ to_free (shape_at g n) room ∙ ap (λ m. check (not (nat_eq dir dir2 || not (nat_le (entry_limit limits) m))) Enospc) many)

    pub free : (dir2 i2 entries : ℕ) (o : Option Errno) → IsFree g q dir2 i2 entries → dir2 ≢ dir → o ≡ place_fault (shape_at g n) None (not (nat_le (entry_limit limits) entries)) → HasFaultBy limits (tree_of g) (Rename p q) o
    free dir2 i2 entries o to other is =
        fault_free dir2 i2 entries to ∙ ap (λ b. check (not (b || not (nat_le (entry_limit limits) entries))) Enospc) (nat_apart dir dir2 (λ e. other (sym e))) ∙ sym (is ∙ to_free (shape_at g n) (not (nat_le (entry_limit limits) entries)))

    pub moves_beside : (dir2 i2 entries : ℕ) → IsFree g q dir2 i2 entries → dir2 ≡ dir → Moves limits g p q
    moves_beside dir2 i2 entries to same = record {
      allowed = fault_free dir2 i2 entries to ∙ ap (λ b. check (not (b || not (nat_le (entry_limit limits) entries))) Enospc) (ap (nat_eq dir) same ∙ nat_self dir);
      differ = other_free dir2 i2 entries to;
    }

    pub moves_to : (dir2 i2 entries : ℕ) → IsFree g q dir2 i2 entries → dir2 ≢ dir → None ≡ place_fault (shape_at g n) None (not (nat_le (entry_limit limits) entries)) → Moves limits g p q
    moves_to dir2 i2 entries to other is = record { allowed = free dir2 i2 entries None to other is; differ = other_free dir2 i2 entries to }
