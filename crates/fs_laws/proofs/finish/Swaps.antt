-- An exchange that really moves: what is known where it finishes, and the tree that it leaves.
use Rattle.std.proofs.Common.{◌≡◌, ℕ, Bool, true, false, [], ◌∷◌, ◌++◌, Option, Some, None, refl, ap, ap₂, ◌∙◌}
use Rattle.fs_names.specs.Keys.{Key, after_prefix, parent_of, last_of, is_end}
use Rattle.fs_names.specs.Names.{Name}
use Rattle.fs_names.specs.Parts.{left}
use Rattle.fs_names.specs.Shapes.{Shape}
use Rattle.fs_laws.specs.Changes.{changed, swap_change}
use Rattle.fs_calls.specs.Forms.{AtPair, Fits}
use Rattle.fs_calls.specs.Rows.{exchange_row}
use Rattle.fs_calls.specs.Forms as pairs
use Rattle.fs_calls.specs.declared.errno.Errno.{Errno}
use Rattle.fs_laws.specs.Maps.{swap}
use Rattle.fs_calls.specs.Graphs.{Graph, numbers, graph_shapes, entry_shape, IsGraph}
use Rattle.fs_machine.specs.Finishes.{swap_effect, exchange_effect}
use Rattle.fs_machine.specs.Moves.{dir_error, exchange_at}
use Rattle.fs_machine.specs.Records.{Holdings, Source, Dest, Side, of_side, head_on}
use Rattle.fs_laws.specs.Invariants.{Forked}
use Rattle.fs_laws.specs.Placed.{Aside}
use Rattle.fs_laws.proofs.trees.Prefixes.{prefix_both}
use Rattle.fs_laws.proofs.calls.Located.{change_under, paths_aside, not_over}
use Rattle.fs_laws.proofs.graphs.Walks.{at_from}
use Rattle.fs_laws.proofs.graphs.Swap.{CanSwap, shapes_swapped}
use Rattle.fs_laws.proofs.finish.Readings.{path_walked, entry_key}
use Rattle.fs_laws.proofs.finish.Replies.{some_entry}

-- a row by which an exchange really moves
pub record ReallySwaps (a b : Option Errno) (one : Option Shape) (same_path : Bool) (other : Option Shape) : Type 0 where
  pub source : a ≡ None
  pub dest : b ≡ None
  pub first : (s : Shape) × (one ≡ Some s)
  pub second : (s : Shape) × (other ≡ Some s)
  pub apart : same_path ≡ false

pub really_swaps : (a b : Option Errno) (one : Option Shape) (same_path : Bool) (other : Option Shape) → (exchange_row a b one same_path other).1 ≡ true → ReallySwaps a b one same_path other
really_swaps (Some e) b one same_path other i = cc
really_swaps None (Some e) one same_path other i = cc
really_swaps None None None same_path other i = cc
really_swaps None None (Some s) same_path None i = cc
really_swaps None None (Some s) true (Some t) i = cc
really_swaps None None (Some s) false (Some t) i = record { source = refl; dest = refl; first = (s, refl); second = (t, refl); apart = refl }

-- an exchange that really moves stands at both parents, and both entries are there
pub record RealSwap (graph : Graph) (p q : Key) (st : Holdings) : Type 0 where
  pub path : (side : Side) → parent_of (of_side side p q) ≡ (head_on side st).walked
  pub source_none : dir_error (left st.source.walked (parent_of p)) (graph.shape st.source.node) ≡ None
  pub dest_none : dir_error (left st.dest.walked (parent_of q)) (graph.shape st.dest.node) ≡ None
  pub one : (m : ℕ) × (graph.child st.source.node (last_of p) ≡ Some m)
  pub other : (m : ℕ) × (graph.child st.dest.node (last_of q) ≡ Some m)
  pub apart : is_end (after_prefix p q) ≡ false

pub real_swap : (graph : Graph) (n : ℕ) (p q : Key) (st : Holdings) → Forked graph n p q st → (exchange_at graph p q st).1 ≡ true → RealSwap graph p q st
real_swap graph n p q st f i = record {
  path = path;
  source_none = w.source;
  dest_none = w.dest;
  one = entry st.source.node (last_of p) w.first;
  other = entry st.dest.node (last_of q) w.second;
  apart = w.apart;
}
  where
    w : ReallySwaps (dir_error (left st.source.walked (parent_of p)) (graph.shape st.source.node)) (dir_error (left st.dest.walked (parent_of q)) (graph.shape st.dest.node)) (entry_shape graph st.source.node (last_of p)) (is_end (after_prefix p q)) (entry_shape graph st.dest.node (last_of q))
    w = really_swaps (dir_error (left st.source.walked (parent_of p)) (graph.shape st.source.node)) (dir_error (left st.dest.walked (parent_of q)) (graph.shape st.dest.node)) (entry_shape graph st.source.node (last_of p)) (is_end (after_prefix p q)) (entry_shape graph st.dest.node (last_of q)) i

    path : (side : Side) → parent_of (of_side side p q) ≡ (head_on side st).walked
    path Source = path_walked Source graph n p q st f w.source
    path Dest = path_walked Dest graph n p q st f w.dest

    entry : (node : ℕ) (x : Name) → (s : Shape) × (entry_shape graph node x ≡ Some s) → (m : ℕ) × (graph.child node x ≡ Some m)
    entry node x (s, e) = let g : (m : ℕ) × (graph.child node x ≡ Some m) × (graph.shape m ≡ Some s) = some_entry graph node x s e in (g.0, g.1)

-- neither path begins with the other
pub swap_aside : (graph : Graph) (p q : Key) (st : Holdings) → Fits (AtPair pairs.Exchange p q) → RealSwap graph p q st → Aside p q
swap_aside graph p q st fits real = paths_aside pairs.Exchange p q fits real.apart (not_over p q fits)

-- from where a call stands, by the keys of both entries
pub can_swap : (graph : Graph) (k p q : Key) (st : Holdings) → ((side : Side) → numbers graph (k ++ (head_on side st).walked) ≡ Some (head_on side st).node) → Fits (AtPair pairs.Exchange p q) → (real : RealSwap graph p q st)
    → CanSwap graph (k ++ st.source.walked) st.source.node (last_of p) real.one.0 (k ++ st.dest.walked) st.dest.node (last_of q) real.other.0
can_swap graph k p q st stands fits real = record {
  from_at = stands Source;
  to_at = stands Dest;
  there = real.one.1;
  there_too = real.other.1;
  aside = (
    ap₂ after_prefix s_is t_is ∙ prefix_both k p q ∙ (swap_aside graph p q st fits real).0,
    ap₂ after_prefix t_is s_is ∙ prefix_both k q p ∙ (swap_aside graph p q st fits real).1,
  );
}
  where
    s_is : (k ++ st.source.walked) ++ last_of p ∷ [] ≡ k ++ p
    s_is = entry_key Source k pairs.Exchange p q st fits (real.path Source)

    t_is : (k ++ st.dest.walked) ++ last_of q ∷ [] ≡ k ++ q
    t_is = entry_key Dest k pairs.Exchange p q st fits (real.path Dest)

-- it lets both trees change places
pub swap_tree : (graph : Graph) → IsGraph graph → (k : Key) (n : ℕ) (p q : Key) (st : Holdings) (reserved : Option ℕ) → numbers graph k ≡ Some n → Fits (AtPair pairs.Exchange p q) → Forked graph n p q st → (exchange_at graph p q st).1 ≡ true
    → graph_shapes (exchange_effect graph p q st reserved []).graph ≡ changed (change_under k (swap_change true p q)) (graph_shapes graph)
swap_tree graph is k n p q st reserved at_k fits f i =
    ap (λ (b : Bool). graph_shapes (swap_effect graph st (last_of p) (last_of q) reserved (exchange_at graph p q st).0 b (graph.child st.source.node (last_of p)) (graph.child st.dest.node (last_of q))).graph) i
    ∙ ap₂ (λ (s t : Option ℕ). graph_shapes (swap_effect graph st (last_of p) (last_of q) reserved (exchange_at graph p q st).0 true s t).graph) real.one.1 real.other.1
    ∙ shapes_swapped graph is (k ++ st.source.walked) st.source.node (last_of p) real.one.0 (k ++ st.dest.walked) st.dest.node (last_of q) real.other.0 (can_swap graph k p q st stands fits real)
    ∙ ap₂ (λ (s t : Key). swap s t (graph_shapes graph)) (entry_key Source k pairs.Exchange p q st fits (real.path Source)) (entry_key Dest k pairs.Exchange p q st fits (real.path Dest))
  where
    real : RealSwap graph p q st
    real = real_swap graph n p q st f i

    stands : (side : Side) → numbers graph (k ++ (head_on side st).walked) ≡ Some (head_on side st).node
    stands side = at_from graph.child 0 n k (head_on side st).walked at_k ∙ f.stands side
