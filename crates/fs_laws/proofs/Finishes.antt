-- What a finish makes, under a renaming.
use Rattle.std.proofs.Common.{◌≡◌, ℕ, Bool, true, false, List, [], ◌∷◌, Option, Some, None, refl, sym, ap, ap₂, ◌∙◌}
use Rattle.std.specs.Prelude.{option_map}
use Rattle.fs_names.specs.Keys.{Key, parent_of, last_of}
use Rattle.fs_names.specs.Names.{Name}
use Rattle.fs_names.specs.Shapes.{Shape}
use Rattle.fs_calls.specs.Forms.{Form, AtNode, AtEntry, AtPair, by_paths}
use Rattle.fs_calls.specs.Forms as pairs
use Rattle.fs_calls.specs.Rows.{node_row, Edit, Keep, Add, Remove, entry_row}
use Rattle.fs_calls.specs.declared.errno.Errno.{Errno}
use Rattle.fs_calls.specs.declared.reply.Reply.{Reply}
use Rattle.fs_calls.specs.declared.reply.Reply.TheVariants.{Failed}
use Rattle.fs_calls.specs.Graphs.{Graph, entry_shape}
use Rattle.fs_machine.specs.Finishes.{Effect, no_effect, node_effect, entry_effect, move_effect, rename_effect, swap_effect, exchange_effect, effect_at, effect_of, finish}
use Rattle.fs_machine.specs.Leaving.{finished_op}
use Rattle.fs_machine.specs.Moves.{target, walk_errno, path_error, dir_error, rename_at, exchange_at}
use Rattle.fs_machine.specs.Records.{Holdings, Record}
use Rattle.fs_laws.specs.Renamings.{Renaming, renamed_number, renamed_graph, renamed_holdings, renamed_record, renamed_made}
use Rattle.fs_laws.proofs.Edits.{old_at, child_at, entry_at, content_renamed, linked_renamed, unlinked_renamed, moved_renamed, swapped_renamed}
use Rattle.fs_laws.proofs.Moves.{row_renamed, exchange_row_renamed}

-- of made graphs the graph alone is to be looked at
same_made : (reply : Reply) (reserved removed : Option ℕ) (g h : Graph) → g ≡ h → ◌≡◌ {A = Effect} (record { reply = reply; graph = g; reserved = reserved; removed = removed }) (record { reply = reply; graph = h; reserved = reserved; removed = removed })
same_made reply reserved removed g h e = ap (λ (x : Graph). record { reply = reply; graph = x; reserved = reserved; removed = removed }) e

on_renamed : (r : Renaming) (graph : Graph) (n : ℕ) (reserved : Option ℕ) (row : Reply × Option (List ℕ)) → node_effect (renamed_graph r graph) (r.to n) (renamed_number r reserved) row ≡ renamed_made r (node_effect graph n reserved row)
on_renamed r graph n reserved (reply, None) = refl
on_renamed r graph n reserved (reply, Some bytes) = same_made reply (renamed_number r reserved) None _ _ (sym (content_renamed r n bytes graph))

in_renamed : (r : Renaming) (graph : Graph) (n : ℕ) (x : Name) (reserved : Option ℕ) (row : Reply × Edit) → entry_effect (renamed_graph r graph) (r.to n) x (renamed_number r reserved) row ≡ renamed_made r (entry_effect graph n x reserved row)
in_renamed r graph n x reserved (reply, Keep) = refl
in_renamed r graph n x None (reply, Add shape) = refl
in_renamed r graph n x (Some m) (reply, Add shape) = same_made reply None None _ _ (sym (linked_renamed r n x m graph))
in_renamed r graph n x None (reply, Remove) = ap₂ (λ (g : Graph) (o : Option ℕ). record { reply = reply; graph = g; reserved = None; removed = o }) (sym (unlinked_renamed r n x graph)) (child_at r graph.child n x)
in_renamed r graph n x (Some m) (reply, Remove) = ap₂ (λ (g : Graph) (o : Option ℕ). record { reply = reply; graph = g; reserved = Some (r.to m); removed = o }) (sym (unlinked_renamed r n x graph)) (child_at r graph.child n x)

move_renamed : (r : Renaming) (graph : Graph) (st : Holdings) (x y : Name) (reserved : Option ℕ) (reply : Reply) (really : Bool) (s : Option ℕ) → move_effect (renamed_graph r graph) (renamed_holdings r st) x y (renamed_number r reserved) reply really (renamed_number r s) ≡ renamed_made r (move_effect graph st x y reserved reply really s)
move_renamed r graph st x y reserved reply false s = refl
move_renamed r graph st x y reserved reply true None = refl
move_renamed r graph st x y reserved reply true (Some s) = same_made reply (renamed_number r reserved) (renamed_number r st.victim) _ _ (sym (moved_renamed r st.source.node x st.dest.node y s graph))

rename_renamed : (r : Renaming) (graph : Graph) (most : ℕ) (p q : Key) (st : Holdings) (reserved : Option ℕ) (l : Key) → rename_effect (renamed_graph r graph) most p q (renamed_holdings r st) (renamed_number r reserved) l ≡ renamed_made r (rename_effect graph most p q st reserved l)
rename_renamed r graph most p q st reserved (z ∷ l) = ap (λ (s : Option Shape). no_effect (Failed (walk_errno s)) (renamed_graph r graph) (renamed_number r reserved)) (old_at r graph.shape st.node)
rename_renamed r graph most p q st reserved [] =
    ap₂ (λ (row : Reply × Bool) (s : Option ℕ). move_effect (renamed_graph r graph) (renamed_holdings r st) (last_of p) (last_of q) (renamed_number r reserved) row.0 row.1 s) (row_renamed r graph most p q st) (child_at r graph.child st.source.node (last_of p))
    ∙ move_renamed r graph st (last_of p) (last_of q) reserved (rename_at graph most p q st).0 (rename_at graph most p q st).1 (graph.child st.source.node (last_of p))

swap_renamed : (r : Renaming) (graph : Graph) (st : Holdings) (x y : Name) (reserved : Option ℕ) (reply : Reply) (really : Bool) (s t : Option ℕ) → swap_effect (renamed_graph r graph) (renamed_holdings r st) x y (renamed_number r reserved) reply really (renamed_number r s) (renamed_number r t) ≡ renamed_made r (swap_effect graph st x y reserved reply really s t)
swap_renamed r graph st x y reserved reply false s t = refl
swap_renamed r graph st x y reserved reply true None t = refl
swap_renamed r graph st x y reserved reply true (Some s) None = refl
swap_renamed r graph st x y reserved reply true (Some s) (Some t) = same_made reply (renamed_number r reserved) None _ _ (sym (swapped_renamed r st.source.node x s st.dest.node y t graph))

exchange_renamed : (r : Renaming) (graph : Graph) (p q : Key) (st : Holdings) (reserved : Option ℕ) (l : Key) → exchange_effect (renamed_graph r graph) p q (renamed_holdings r st) (renamed_number r reserved) l ≡ renamed_made r (exchange_effect graph p q st reserved l)
exchange_renamed r graph p q st reserved (z ∷ l) = ap (λ (s : Option Shape). no_effect (Failed (walk_errno s)) (renamed_graph r graph) (renamed_number r reserved)) (old_at r graph.shape st.node)
exchange_renamed r graph p q st reserved [] =
    ap (λ (row : Reply × Bool). swap_effect (renamed_graph r graph) (renamed_holdings r st) (last_of p) (last_of q) (renamed_number r reserved) row.0 row.1 ((renamed_graph r graph).child (r.to st.source.node) (last_of p)) ((renamed_graph r graph).child (r.to st.dest.node) (last_of q))) (exchange_row_renamed r graph p q st)
    ∙ ap₂ (λ (s t : Option ℕ). swap_effect (renamed_graph r graph) (renamed_holdings r st) (last_of p) (last_of q) (renamed_number r reserved) (exchange_at graph p q st).0 (exchange_at graph p q st).1 s t) (child_at r graph.child st.source.node (last_of p)) (child_at r graph.child st.dest.node (last_of q))
    ∙ swap_renamed r graph st (last_of p) (last_of q) reserved (exchange_at graph p q st).0 (exchange_at graph p q st).1 (graph.child st.source.node (last_of p)) (graph.child st.dest.node (last_of q))

at_renamed : (r : Renaming) (graph : Graph) (remaining : Form) (st : Holdings) (reserved : Option ℕ) → effect_at (renamed_graph r graph) remaining (renamed_holdings r st) (renamed_number r reserved) ≡ renamed_made r (effect_at graph remaining st reserved)
at_renamed r graph (AtNode c p) st reserved =
    ap (λ (s : Option Shape). node_effect (renamed_graph r graph) (r.to st.node) (renamed_number r reserved) (node_row c (path_error p s) s)) (old_at r graph.shape st.node)
    ∙ on_renamed r graph st.node reserved (node_row c (path_error p (graph.shape st.node)) (graph.shape st.node))
at_renamed r graph (AtEntry c p) st reserved =
    ap₂ (λ (s t : Option Shape). entry_effect (renamed_graph r graph) (r.to st.node) (last_of p) (renamed_number r reserved) (entry_row c (dir_error (parent_of p) s) s t)) (old_at r graph.shape st.node) (entry_at r graph st.node (last_of p))
    ∙ in_renamed r graph st.node (last_of p) reserved (entry_row c (dir_error (parent_of p) (graph.shape st.node)) (graph.shape st.node) (entry_shape graph st.node (last_of p)))
at_renamed r graph (AtPair (pairs.Rename most) p q) st reserved = rename_renamed r graph most p q st reserved (target (AtPair (pairs.Rename most) p q))
at_renamed r graph (AtPair pairs.Exchange p q) st reserved = exchange_renamed r graph p q st reserved (target (AtPair pairs.Exchange p q))

by_renamed : (r : Renaming) (graph : Graph) (op : Record) (e : Option Errno) (holdings : Option Holdings) → effect_of (renamed_graph r graph) (renamed_record r op) e (option_map (renamed_holdings r) holdings) ≡ renamed_made r (effect_of graph op e holdings)
by_renamed r graph op (Some e) holdings = refl
by_renamed r graph op None None = refl
by_renamed r graph op None (Some st) = at_renamed r graph op.remaining st op.reserved

pub finish_renamed : (r : Renaming) (graph : Graph) (op : Record) → finish (renamed_graph r graph) (renamed_record r op) ≡ renamed_made r (finish graph op)
finish_renamed r graph op = by_renamed r graph op (by_paths op.call) op.holdings

pub finished_renamed : (r : Renaming) (graph : Graph) (op : Record) → finished_op (renamed_record r op) (finish (renamed_graph r graph) (renamed_record r op)) ≡ renamed_record r (finished_op op (finish graph op))
finished_renamed r graph op = ap (finished_op (renamed_record r op)) (finish_renamed r graph op)
