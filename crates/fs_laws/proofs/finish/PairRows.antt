-- A call on two entries, whichever it is: what it reads at both parents, its row, its change, and what it makes of the graph.
use Rattle.std.proofs.Common.{◌≡◌, ℕ, Bool, true, false, not, ◌||◌, List, [], ◌∷◌, Option, Some, None, refl, ap}
use Rattle.fs_names.specs.Keys.{Key, after_prefix, parent_of, last_of, is_end}
use Rattle.fs_names.specs.Names.{Name}
use Rattle.fs_names.specs.Shapes.{Shape, is_full, names_of}
use Rattle.fs_laws.specs.Changes.{Change, no_change, resolve_dir, looked, move_change, swap_change, rename_writes}
use Rattle.fs_laws.specs.Maps.{Map}
use Rattle.fs_calls.specs.Forms.{AtPair, PairCall}
use Rattle.fs_calls.specs.Rows.{rename_row, exchange_row}
use Rattle.fs_calls.specs.Forms as pairs
use Rattle.fs_calls.specs.declared.errno.Errno.{Errno}
use Rattle.fs_calls.specs.declared.reply.Reply.{Reply}
use Rattle.fs_calls.specs.declared.reply.Reply.TheVariants.{Failed}
use Rattle.fs_calls.specs.Graphs.{Graph}
use Rattle.fs_machine.specs.Finishes.{Effect, no_effect, move_effect, rename_effect, swap_effect, exchange_effect, effect_at}
use Rattle.fs_machine.specs.Moves.{target, walk_errno, rename_at, exchange_at}
use Rattle.fs_machine.specs.Records.{Holdings}

-- the reply and whether it really moves, by what it reads at both parents
abbrev pub pair_at : Graph → PairCall → Key → Key → Holdings → Reply × Bool
pair_at graph (pairs.Rename most) p q st = rename_at graph most p q st
pair_at graph pairs.Exchange p q st = exchange_at graph p q st

-- the same, by what stands at the keys
abbrev pub pair_row : Map Shape → PairCall → Key → Key → Reply × Bool
pair_row tree (pairs.Rename most) p q = rename_row (resolve_dir tree (parent_of p)) (resolve_dir tree (parent_of q)) (tree p) (is_end (after_prefix p q)) (tree q) (is_end (after_prefix (parent_of p) (parent_of q)) || not (is_full most (tree (parent_of q))))
pair_row tree pairs.Exchange p q = exchange_row (resolve_dir tree (parent_of p)) (resolve_dir tree (parent_of q)) (tree p) (is_end (after_prefix p q)) (tree q)

-- the names that a rename writes
abbrev pub pair_writes : Map Shape → Key → Key → List (Key × Option Shape)
pair_writes tree p q = rename_writes (is_end (after_prefix (parent_of p) (parent_of q))) (parent_of p) (names_of (tree (parent_of p))) (last_of p) (parent_of q) (names_of (tree (parent_of q))) (last_of q)

-- the change, by whether it really moves
abbrev pub pair_change : Map Shape → PairCall → Key → Key → Bool → Change
pair_change tree (pairs.Rename most) p q b = move_change b (pair_writes tree p q) p q
pair_change tree pairs.Exchange p q b = swap_change b p q

-- what it makes of the graph
abbrev pub pair_effect : Graph → PairCall → Key → Key → Holdings → Option ℕ → Key → Effect
pair_effect graph (pairs.Rename most) p q st reserved l = rename_effect graph most p q st reserved l
pair_effect graph pairs.Exchange p q st reserved l = exchange_effect graph p q st reserved l

pub looked_pair : (tree : Map Shape) (c : PairCall) (p q : Key) → looked tree (AtPair c p q) ≡ ((pair_row tree c p q).0, pair_change tree c p q (pair_row tree c p q).1)
looked_pair tree (pairs.Rename most) p q = refl
looked_pair tree pairs.Exchange p q = refl

pub effect_pair : (graph : Graph) (c : PairCall) (p q : Key) (st : Holdings) (reserved : Option ℕ) → effect_at graph (AtPair c p q) st reserved ≡ pair_effect graph c p q st reserved (target (AtPair c p q))
effect_pair graph (pairs.Rename most) p q st reserved = refl
effect_pair graph pairs.Exchange p q st reserved = refl

-- where the first parent does not resolve, that is the error
pub row_stuck : (tree : Map Shape) (c : PairCall) (p q : Key) (e : Errno) → resolve_dir tree (parent_of p) ≡ Some e → pair_row tree c p q ≡ (Failed e, false)
row_stuck tree (pairs.Rename most) p q e h = ap (λ (z : Option Errno). rename_row z (resolve_dir tree (parent_of q)) (tree p) (is_end (after_prefix p q)) (tree q) (is_end (after_prefix (parent_of p) (parent_of q)) || not (is_full most (tree (parent_of q))))) h
row_stuck tree pairs.Exchange p q e h = ap (λ (z : Option Errno). exchange_row z (resolve_dir tree (parent_of q)) (tree p) (is_end (after_prefix p q)) (tree q)) h

-- a pair that did not come to its common directory makes nothing
pub effect_stuck : (graph : Graph) (c : PairCall) (p q : Key) (st : Holdings) (reserved : Option ℕ) (x : Name) (l : Key) → pair_effect graph c p q st reserved (x ∷ l) ≡ no_effect (Failed (walk_errno (graph.shape st.node))) graph reserved
effect_stuck graph (pairs.Rename most) p q st reserved x l = refl
effect_stuck graph pairs.Exchange p q st reserved x l = refl

-- nor does one that does not really move
pub effect_still : (graph : Graph) (c : PairCall) (p q : Key) (st : Holdings) (reserved : Option ℕ) → (pair_at graph c p q st).1 ≡ false → pair_effect graph c p q st reserved [] ≡ no_effect (pair_at graph c p q st).0 graph reserved
effect_still graph (pairs.Rename most) p q st reserved e = ap (λ (b : Bool). move_effect graph st (last_of p) (last_of q) reserved (rename_at graph most p q st).0 b (graph.child st.source.node (last_of p))) e
effect_still graph pairs.Exchange p q st reserved e = ap (λ (b : Bool). swap_effect graph st (last_of p) (last_of q) reserved (exchange_at graph p q st).0 b (graph.child st.source.node (last_of p)) (graph.child st.dest.node (last_of q))) e

pub change_still : (tree : Map Shape) (c : PairCall) (p q : Key) → pair_change tree c p q false ≡ no_change
change_still tree (pairs.Rename most) p q = refl
change_still tree pairs.Exchange p q = refl

-- it replies what its row says
moved_reply : (graph : Graph) (st : Holdings) (x y : Name) (reserved : Option ℕ) (r : Reply) (b : Bool) (s : Option ℕ) → (move_effect graph st x y reserved r b s).reply ≡ r
moved_reply graph st x y reserved r false s = refl
moved_reply graph st x y reserved r true None = refl
moved_reply graph st x y reserved r true (Some s) = refl

swapped_reply : (graph : Graph) (st : Holdings) (x y : Name) (reserved : Option ℕ) (r : Reply) (b : Bool) (s t : Option ℕ) → (swap_effect graph st x y reserved r b s t).reply ≡ r
swapped_reply graph st x y reserved r false s t = refl
swapped_reply graph st x y reserved r true None t = refl
swapped_reply graph st x y reserved r true (Some s) None = refl
swapped_reply graph st x y reserved r true (Some s) (Some t) = refl

pub effect_reply : (graph : Graph) (c : PairCall) (p q : Key) (st : Holdings) (reserved : Option ℕ) → (pair_effect graph c p q st reserved []).reply ≡ (pair_at graph c p q st).0
effect_reply graph (pairs.Rename most) p q st reserved = moved_reply graph st (last_of p) (last_of q) reserved (rename_at graph most p q st).0 (rename_at graph most p q st).1 (graph.child st.source.node (last_of p))
effect_reply graph pairs.Exchange p q st reserved = swapped_reply graph st (last_of p) (last_of q) reserved (exchange_at graph p q st).0 (exchange_at graph p q st).1 (graph.child st.source.node (last_of p)) (graph.child st.dest.node (last_of q))
