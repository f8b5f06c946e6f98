-- The parent of a path, and what stands in it, in the tree that a graph spells.
use Rattle.std.proofs.Common.{◌≡◌, ℕ, ◌+◌, List, length, take, slice_get, Some, None, refl, sym, ap, subst, ◌∙◌}
use Rattle.fs_names.specs.Names.{Name}
use Rattle.fs_names.specs.Keys.{Key, parent_of, last_of}
use Rattle.fs_names.specs.Failures.{check}
use Rattle.fs_calls.specs.declared.errno.Errno.{Errno}
use Rattle.fs_calls.specs.declared.errno.Errno.TheVariants.{Enotdir}
use Rattle.fs_seq_nodes.specs.declared.nodes.Link.{Link}
use Rattle.fs_calls.specs.Tree.{Tree}
use Rattle.fs_calls.specs.Sights.{tree_shapes, is_file}
use Rattle.fs_calls.specs.Outcomes.{resolution, parents_resolution}
use Rattle.fs_calls.specs.Rows.{as_dir}
use Rattle.fs_seq_nodes.specs.code.Slots.{Place, Dir, File, Slots, place_at, links_at, child, walk, tree_of, shape_of, IsForest}
use Rattle.fs_seq_nodes.specs.code.Nodes.{pairs, IsNameAt, BelongsAt, IsTaken, IsFree, number_of}
use Rattle.fs_seq_nodes.proofs.Resolving.{resolution_walked, seen_at}
use Rattle.fs_seq_nodes.proofs.NodeLemmas.{take_parent, last_got, links_got, step_found, length-pairs}

-- a parent that is not resolved gives its error
pub parents_lost : (t : Tree) (p : Key) (n : ℕ) (e : Errno) → n + 1 ≡ length p → resolution t (take n p) ≡ Some e → parents_resolution t p ≡ Some e
parents_lost t p n e len h = ap (λ z. as_dir z (tree_shapes t (parent_of p))) (ap (resolution t) (sym (take_parent p n len)) ∙ h)

-- a parent that is resolved is what stands there
pub parents_found : (g : Slots) (p : Key) (dir : ℕ) (at : Place) → IsForest g → walk g (parent_of p) ≡ Some dir → place_at g dir ≡ Some at → parents_resolution (tree_of g) p ≡ check (is_file (shape_of (Some at))) Enotdir
parents_found g p dir at forest w is = (λ i. as_dir (resolution_walked g (parent_of p) dir forest w i) ((seen_at g (parent_of p) dir forest w ∙ ap shape_of is) i)) ∙ by_place at
  where
    by_place : (at : Place) → as_dir None (shape_of (Some at)) ≡ check (is_file (shape_of (Some at))) Enotdir
    by_place (Dir links) = refl
    by_place (File file) = refl

-- a name that was found in the parent
pub is_taken : (g : Slots) (p : Key) (n dir i : ℕ) (x : Name) (links : List Link) (m : ℕ) → n + 1 ≡ length p → slice_get p n ≡ Some x → walk g (take n p) ≡ Some dir → place_at g dir ≡ Some (Dir (pairs links)) → IsNameAt (pairs links) x i → number_of (slice_get (pairs links) i) ≡ Some m
    → IsTaken g p dir i m
is_taken g p n dir i x links m len named w at stands read =
    let last : x ≡ last_of p = sym (last_got p n x len named) in
    let same : pairs links ≡ links_at g dir = sym (links_got g dir _ at) in
    record {
      parent = ap (walk g) (sym (take_parent p n len)) ∙ w;
      directory = at ∙ ap (λ ls. Some (Dir ls)) same;
      stands = subst (λ z. IsNameAt (links_at g dir) z i) last (subst (λ ls. IsNameAt ls x i) same stands);
      leads = ap (child g dir) (sym last) ∙ step_found g dir x (pairs links) i m at stands read;
    }

-- a name that was not
pub is_free : (g : Slots) (p : Key) (n dir i entries : ℕ) (x : Name) (links : List Link) → n + 1 ≡ length p → slice_get p n ≡ Some x → walk g (take n p) ≡ Some dir → place_at g dir ≡ Some (Dir (pairs links)) → BelongsAt (pairs links) x i → entries ≡ length links
    → IsFree g p dir i entries
is_free g p n dir i entries x links len named w at belongs count =
    let last : x ≡ last_of p = sym (last_got p n x len named) in
    let same : pairs links ≡ links_at g dir = sym (links_got g dir _ at) in
    record {
      parent = ap (walk g) (sym (take_parent p n len)) ∙ w;
      directory = at ∙ ap (λ ls. Some (Dir ls)) same;
      belongs = subst (λ z. BelongsAt (links_at g dir) z i) last (subst (λ ls. BelongsAt ls x i) same belongs);
      count = count ∙ sym (length-pairs links) ∙ ap length same;
    }
