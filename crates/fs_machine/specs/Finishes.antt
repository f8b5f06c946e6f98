-- What a finish replies and makes of the graph, by the rows, read at held nodes (of an entry's node its kind alone, unless it is held as a victim).
use Rattle.std.specs.Prelude.{ℕ, Bool, true, false, List, [], ◌∷◌, Option, Some, None}
use Rattle.fs_names.specs.Keys.{Key, parent_of, last_of}
use Rattle.fs_names.specs.Names.{Name}
use Rattle.fs_calls.specs.Forms.{Form, AtNode, AtEntry, AtPair, by_paths}
use Rattle.fs_calls.specs.Forms as pairs
use Rattle.fs_calls.specs.Rows.{node_row, Edit, Keep, Add, Remove, entry_row}
use Rattle.fs_calls.specs.declared.errno.Errno.{Errno}
use Rattle.fs_calls.specs.declared.errno.Errno.TheVariants.{Enoent}
use Rattle.fs_calls.specs.declared.reply.Reply.{Reply}
use Rattle.fs_calls.specs.declared.reply.Reply.TheVariants.{Failed}
use Rattle.fs_calls.specs.Graphs.{Graph, entry_shape, content_in, linked_in, unlinked_in, moved_in, swapped_in}
use Rattle.fs_machine.specs.Moves.{target, walk_errno, path_error, dir_error, rename_at, exchange_at}
use Rattle.fs_machine.specs.Records.{Holdings, Record}

-- the reply, the new graph, the reserved number if it is still unused, the node that was removed
pub record Effect : Type 0 where
  pub reply : Reply
  pub graph : Graph
  pub reserved : Option ℕ
  pub removed : Option ℕ

-- a graph that stays as it is
abbrev pub no_effect : Reply → Graph → Option ℕ → Effect
no_effect r graph reserved = record { reply = r; graph = graph; reserved = reserved; removed = None }

-- a call on a node
abbrev pub node_effect : Graph → ℕ → Option ℕ → Reply × Option (List ℕ) → Effect
node_effect graph n reserved (r, None) = no_effect r graph reserved
node_effect graph n reserved (r, Some bytes) = no_effect r (content_in n bytes graph) reserved

-- a call on an entry: a new node has the reserved number, and the number of a removed one is kept
abbrev pub entry_effect : Graph → ℕ → Name → Option ℕ → Reply × Edit → Effect
entry_effect graph n x reserved (r, Keep) = no_effect r graph reserved
entry_effect graph n x None (r, Add shape) = no_effect r graph None
entry_effect graph n x (Some m) (r, Add shape) = record { reply = r; graph = linked_in n x m graph; reserved = None; removed = None }
entry_effect graph n x reserved (r, Remove) = record { reply = r; graph = unlinked_in n x graph; reserved = reserved; removed = graph.child n x }

-- a rename
abbrev pub move_effect : Graph → Holdings → Name → Name → Option ℕ → Reply → Bool → Option ℕ → Effect
move_effect graph st x y reserved r false s = no_effect r graph reserved
move_effect graph st x y reserved r true None = no_effect r graph reserved
move_effect graph st x y reserved r true (Some s) = record { reply = r; graph = moved_in st.source.node x st.dest.node y s graph; reserved = reserved; removed = st.victim }

-- a rename that did not come to its common directory fails where it stands
abbrev pub rename_effect : Graph → ℕ → Key → Key → Holdings → Option ℕ → Key → Effect
rename_effect graph most p q st reserved (z ∷ l) = no_effect (Failed (walk_errno (graph.shape st.node))) graph reserved
rename_effect graph most p q st reserved [] =
    let r : Reply × Bool = rename_at graph most p q st in
    move_effect graph st (last_of p) (last_of q) reserved r.0 r.1 (graph.child st.source.node (last_of p))

-- an exchange: no number comes into use or leaves it
abbrev pub swap_effect : Graph → Holdings → Name → Name → Option ℕ → Reply → Bool → Option ℕ → Option ℕ → Effect
swap_effect graph st x y reserved r false s t = no_effect r graph reserved
swap_effect graph st x y reserved r true None t = no_effect r graph reserved
swap_effect graph st x y reserved r true (Some s) None = no_effect r graph reserved
swap_effect graph st x y reserved r true (Some s) (Some t) = no_effect r (swapped_in st.source.node x s st.dest.node y t graph) reserved

-- an exchange that did not come to its common directory fails where it stands
abbrev pub exchange_effect : Graph → Key → Key → Holdings → Option ℕ → Key → Effect
exchange_effect graph p q st reserved (z ∷ l) = no_effect (Failed (walk_errno (graph.shape st.node))) graph reserved
exchange_effect graph p q st reserved [] =
    let r : Reply × Bool = exchange_at graph p q st in
    swap_effect graph st (last_of p) (last_of q) reserved r.0 r.1 (graph.child st.source.node (last_of p)) (graph.child st.dest.node (last_of q))

-- each form of call where it stands
abbrev pub effect_at : Graph → Form → Holdings → Option ℕ → Effect
effect_at graph (AtNode c p) st reserved = node_effect graph st.node reserved (node_row c (path_error p (graph.shape st.node)) (graph.shape st.node))
effect_at graph (AtEntry c p) st reserved =
    entry_effect graph st.node (last_of p) reserved (entry_row c (dir_error (parent_of p) (graph.shape st.node)) (graph.shape st.node) (entry_shape graph st.node (last_of p)))
effect_at graph (AtPair (pairs.Rename most) p q) st reserved = rename_effect graph most p q st reserved (target (AtPair (pairs.Rename most) p q))
effect_at graph (AtPair pairs.Exchange p q) st reserved = exchange_effect graph p q st reserved (target (AtPair pairs.Exchange p q))

-- a call that its paths decide, and else where it stands
abbrev pub effect_of : Graph → Record → Option Errno → Option Holdings → Effect
effect_of graph op (Some e) st = no_effect (Failed e) graph op.reserved
effect_of graph op None None = no_effect (Failed Enoent) graph op.reserved  -- a call finishes at a node or by its paths
effect_of graph op None (Some st) = effect_at graph op.remaining st op.reserved

-- the finish of a call under way
abbrev pub finish : Graph → Record → Effect
finish graph op = effect_of graph op (by_paths op.call) op.holdings
