-- A call's next move, and its record after a take and after a let go, under a renaming.
use Rattle.std.proofs.Common.{◌≡◌, ℕ, Bool, true, false, not, ◌&&◌, ◌||◌, eqb, [], ◌∷◌, Option, Some, None, refl, sym, ap, ap₂, ◌∙◌}
use Rattle.std.specs.Prelude.{option_map}
use Rattle.fs_names.specs.Keys.{Key, after_prefix, has_more, parent_of, last_of, is_end}
use Rattle.fs_names.specs.Names.{Name}
use Rattle.fs_names.specs.Parts.{left}
use Rattle.fs_names.specs.Shapes.{Shape, Dir, File, is_full}
use Rattle.fs_calls.specs.Forms.{Form, AtNode, AtEntry, AtPair, by_paths, EntryCall, PairCall}
use Rattle.fs_calls.specs.Forms as pairs
use Rattle.fs_calls.specs.Rows.{rename_row, exchange_row}
use Rattle.fs_calls.specs.declared.errno.Errno.{Errno}
use Rattle.fs_calls.specs.declared.reply.Reply.{Reply}
use Rattle.fs_calls.specs.Graphs.{Graph, entry_shape}
use Rattle.fs_machine.specs.Leaving.{is_removed, cleared, releasing, let_go, unreserved}
use Rattle.fs_machine.specs.Moves.{first_of, target, walk_move, victim_of, take_if, entry_move, there_by, same_kind, dir_error, rename_at, moved_node, rename_move, exchange_at, moved_nodes, exchange_move, parents_move, dir_then, fork_move, target_move, first_walked, last_held, next_by, next, head_took, victim_took, step_or, target_took, took_by, took, left_heads, left_last, left_holdings, behind_first, step_move, next_on}
use Rattle.fs_machine.specs.declared.moves.Move.{Move}
use Rattle.fs_machine.specs.declared.moves.Move.TheVariants.{Take as Takes, LetGo as Leaves, Finish as Finishes}
use Rattle.fs_machine.specs.declared.moves.Moved.{Moved}
use Rattle.fs_machine.specs.declared.moves.Moved.TheVariants.{Nothing}
use Rattle.fs_machine.specs.Records.{Holdings, Phase, Walking, Placed, Finished, Record, Side, Source, Dest, held_on}
use Rattle.fs_laws.specs.Renamings.{Renaming, renamed_number, renamed_children, renamed_graph, renamed_head, renamed_holdings, renamed_record, renamed_moved, renamed_move}
use Rattle.fs_laws.proofs.Edits.{eqb_old, old_at, child_at, entry_at, released_renamed}

-- ---- the next move

walk_renamed : (r : Renaming) (s : Option Shape) (child : Option ℕ) → walk_move s (renamed_number r child) ≡ renamed_move r (walk_move s child)
walk_renamed r None child = refl
walk_renamed r (Some (File bytes)) child = refl
walk_renamed r (Some (Dir names)) None = refl
walk_renamed r (Some (Dir names)) (Some m) = refl

step_renamed : (r : Renaming) (graph : Graph) (n : ℕ) (l : Key) → step_move (renamed_graph r graph) (r.to n) l ≡ option_map (renamed_move r) (step_move graph n l)
step_renamed r graph n [] = refl
step_renamed r graph n (x ∷ l) = ap (λ (m : Move). Some m) (ap₂ walk_move (old_at r graph.shape n) (child_at r graph.child n x) ∙ walk_renamed r (graph.shape n) (graph.child n x))

first_renamed : (r : Renaming) (o : Option Move) (m : Move) → first_of (option_map (renamed_move r) o) (renamed_move r m) ≡ renamed_move r (first_of o m)
first_renamed r None m = refl
first_renamed r (Some k) m = refl

step_then : (r : Renaming) (graph : Graph) (n : ℕ) (l : Key) (m k : Move) → k ≡ renamed_move r m → first_of (step_move (renamed_graph r graph) (r.to n) l) k ≡ renamed_move r (first_of (step_move graph n l) m)
step_then r graph n l m k e = ap₂ first_of (step_renamed r graph n l) e ∙ first_renamed r (step_move graph n l) m

behind_then : (r : Renaming) (behind : Option ℕ) (m k : Move) → k ≡ renamed_move r m → behind_first (renamed_number r behind) k ≡ renamed_move r (behind_first behind m)
behind_then r None m k e = e
behind_then r (Some n) m k e = refl

dir_renamed : (r : Renaming) (s : Option Shape) (m : Move) → dir_then s (renamed_move r m) ≡ renamed_move r (dir_then s m)
dir_renamed r None m = refl
dir_renamed r (Some (Dir names)) m = refl
dir_renamed r (Some (File bytes)) m = refl

dir_here : (r : Renaming) (graph : Graph) (n : ℕ) (m k : Move) → k ≡ renamed_move r m → dir_then ((renamed_graph r graph).shape (r.to n)) k ≡ renamed_move r (dir_then (graph.shape n) m)
dir_here r graph n m k e = ap₂ dir_then (old_at r graph.shape n) e ∙ dir_renamed r (graph.shape n) m

take_renamed : (r : Renaming) (wanted : Bool) (child held : Option ℕ) (m : Move) → take_if wanted (renamed_number r child) (renamed_number r held) (renamed_move r m) ≡ renamed_move r (take_if wanted child held m)
take_renamed r false child held m = refl
take_renamed r true None held m = refl
take_renamed r true (Some n) None m = refl
take_renamed r true (Some n) (Some v) m = refl

in_renamed : (r : Renaming) (graph : Graph) (c : EntryCall) (x : Name) (st : Holdings) → entry_move (renamed_graph r graph) c x (renamed_holdings r st) ≡ renamed_move r (entry_move graph c x st)
in_renamed r graph c x st =
    ap₂ (λ (s : Option Shape) (k : Option ℕ). take_if (victim_of c s) k (renamed_number r st.victim) (Finishes Nothing)) (entry_at r graph st.node x) (child_at r graph.child st.node x)
    ∙ take_renamed r (victim_of c (entry_shape graph st.node x)) (graph.child st.node x) st.victim (Finishes Nothing)

-- what a rename reads has no numbers
row_by : ℕ → Key → Key → Holdings → Option Shape → Option Shape → Option Shape → Option Shape → Reply × Bool
row_by most p q st from to moved there =
    rename_row (dir_error (left st.source.walked (parent_of p)) from) (dir_error (left st.dest.walked (parent_of q)) to) moved (is_end (after_prefix p q))
    (there_by (has_more (after_prefix q p)) there) (is_end (after_prefix (parent_of p) (parent_of q)) || not (is_full most to))

pub row_renamed : (r : Renaming) (graph : Graph) (most : ℕ) (p q : Key) (st : Holdings) → rename_at (renamed_graph r graph) most p q (renamed_holdings r st) ≡ rename_at graph most p q st
unfolding row_by
row_renamed r graph most p q st =
    ap₂ (λ (a b : Option Shape). row_by most p q st a b (entry_shape (renamed_graph r graph) (r.to st.source.node) (last_of p)) (entry_shape (renamed_graph r graph) (r.to st.dest.node) (last_of q))) (old_at r graph.shape st.source.node) (old_at r graph.shape st.dest.node)
    ∙ ap₂ (λ (a b : Option Shape). row_by most p q st (graph.shape st.source.node) (graph.shape st.dest.node) a b) (entry_at r graph st.source.node (last_of p)) (entry_at r graph st.dest.node (last_of q))

moved_node_renamed : (r : Renaming) (really : Bool) (s : Option ℕ) → moved_node really (renamed_number r s) ≡ renamed_moved r (moved_node really s)
moved_node_renamed r true None = refl
moved_node_renamed r true (Some n) = refl
moved_node_renamed r false s = refl

rename_renamed : (r : Renaming) (graph : Graph) (most : ℕ) (p q : Key) (st : Holdings) → rename_move (renamed_graph r graph) most p q (renamed_holdings r st) ≡ renamed_move r (rename_move graph most p q st)
rename_renamed r graph most p q st =
    ap₂ (λ (b : Bool) (k : Option ℕ). take_if b k (renamed_number r st.victim) (Finishes (moved_node (rename_at (renamed_graph r graph) most p q (renamed_holdings r st)).1 (renamed_children r graph.child (r.to st.source.node) (last_of p)))))
    (ap₂ (λ (a b : Option Shape). same_kind a b && not (is_end (after_prefix p q)) && not (has_more (after_prefix q p))) (entry_at r graph st.source.node (last_of p)) (entry_at r graph st.dest.node (last_of q)))
    (child_at r graph.child st.dest.node (last_of q))
    ∙ ap (λ (o : Moved). take_if (same_kind (entry_shape graph st.source.node (last_of p)) (entry_shape graph st.dest.node (last_of q)) && not (is_end (after_prefix p q)) && not (has_more (after_prefix q p))) (renamed_number r (graph.child st.dest.node (last_of q))) (renamed_number r st.victim) (Finishes o))
    (ap₂ moved_node (ap (λ (row : Reply × Bool). row.1) (row_renamed r graph most p q st)) (child_at r graph.child st.source.node (last_of p)) ∙ moved_node_renamed r (rename_at graph most p q st).1 (graph.child st.source.node (last_of p)))
    ∙ take_renamed r (same_kind (entry_shape graph st.source.node (last_of p)) (entry_shape graph st.dest.node (last_of q)) && not (is_end (after_prefix p q)) && not (has_more (after_prefix q p))) (graph.child st.dest.node (last_of q)) st.victim (Finishes (moved_node (rename_at graph most p q st).1 (graph.child st.source.node (last_of p))))

-- nor has what an exchange reads
exchange_by : Key → Key → Holdings → Option Shape → Option Shape → Option Shape → Option Shape → Reply × Bool
exchange_by p q st from to one other =
    exchange_row (dir_error (left st.source.walked (parent_of p)) from) (dir_error (left st.dest.walked (parent_of q)) to) one (is_end (after_prefix p q)) other

pub exchange_row_renamed : (r : Renaming) (graph : Graph) (p q : Key) (st : Holdings) → exchange_at (renamed_graph r graph) p q (renamed_holdings r st) ≡ exchange_at graph p q st
unfolding exchange_by
exchange_row_renamed r graph p q st =
    ap₂ (λ (a b : Option Shape). exchange_by p q st a b (entry_shape (renamed_graph r graph) (r.to st.source.node) (last_of p)) (entry_shape (renamed_graph r graph) (r.to st.dest.node) (last_of q))) (old_at r graph.shape st.source.node) (old_at r graph.shape st.dest.node)
    ∙ ap₂ (λ (a b : Option Shape). exchange_by p q st (graph.shape st.source.node) (graph.shape st.dest.node) a b) (entry_at r graph st.source.node (last_of p)) (entry_at r graph st.dest.node (last_of q))

moved_nodes_renamed : (r : Renaming) (really : Bool) (s t : Option ℕ) → moved_nodes really (renamed_number r s) (renamed_number r t) ≡ renamed_moved r (moved_nodes really s t)
moved_nodes_renamed r true (Some n) (Some m) = refl
moved_nodes_renamed r true (Some n) None = refl
moved_nodes_renamed r true None t = refl
moved_nodes_renamed r false s t = refl

exchange_renamed : (r : Renaming) (graph : Graph) (p q : Key) (st : Holdings) → exchange_move (renamed_graph r graph) p q (renamed_holdings r st) ≡ renamed_move r (exchange_move graph p q st)
exchange_renamed r graph p q st =
    ap (λ (m : Moved). Finishes m)
    (ap (λ (row : Reply × Bool). moved_nodes row.1 (renamed_children r graph.child (r.to st.source.node) (last_of p)) (renamed_children r graph.child (r.to st.dest.node) (last_of q))) (exchange_row_renamed r graph p q st)
    ∙ ap₂ (moved_nodes (exchange_at graph p q st).1) (child_at r graph.child st.source.node (last_of p)) (child_at r graph.child st.dest.node (last_of q))
    ∙ moved_nodes_renamed r (exchange_at graph p q st).1 (graph.child st.source.node (last_of p)) (graph.child st.dest.node (last_of q)))

parents_renamed : (r : Renaming) (graph : Graph) (c : PairCall) (p q : Key) (st : Holdings) → parents_move (renamed_graph r graph) c p q (renamed_holdings r st) ≡ renamed_move r (parents_move graph c p q st)
parents_renamed r graph (pairs.Rename most) p q st = rename_renamed r graph most p q st
parents_renamed r graph pairs.Exchange p q st = exchange_renamed r graph p q st

fork_renamed : (r : Renaming) (graph : Graph) (c : PairCall) (p q : Key) (st : Holdings) → fork_move (renamed_graph r graph) c p q (renamed_holdings r st) ≡ renamed_move r (fork_move graph c p q st)
fork_renamed r graph c p q st =
    dir_here r graph st.node _ _ (step_then r graph st.source.node (left st.source.walked (parent_of p)) _ _
    (dir_here r graph st.source.node _ _ (step_then r graph st.dest.node (left st.dest.walked (parent_of q)) _ _
    (dir_here r graph st.dest.node (parents_move graph c p q st) (parents_move (renamed_graph r graph) c p q (renamed_holdings r st)) (parents_renamed r graph c p q st)))))

target_renamed : (r : Renaming) (graph : Graph) (remaining : Form) (st : Holdings) → target_move (renamed_graph r graph) remaining (renamed_holdings r st) ≡ renamed_move r (target_move graph remaining st)
target_renamed r graph (AtNode c p) st = refl
target_renamed r graph (AtEntry c p) st = in_renamed r graph c (last_of p) st
target_renamed r graph (AtPair c p q) st = fork_renamed r graph c p q st

on_renamed : (r : Renaming) (graph : Graph) (remaining : Form) (st : Holdings) → next_on (renamed_graph r graph) remaining (renamed_holdings r st) ≡ renamed_move r (next_on graph remaining st)
on_renamed r graph remaining st = behind_then r st.behind _ _ (step_then r graph st.node (target remaining) _ _ (target_renamed r graph remaining st))

-- what is let go last
first_walked_renamed : (r : Renaming) (walked : Key) (n m : ℕ) → first_walked walked (r.to n) (r.to m) ≡ r.to (first_walked walked n m)
first_walked_renamed r [] n m = refl
first_walked_renamed r (x ∷ walked) n m = refl

last_renamed : (r : Renaming) (st : Holdings) (victim : Option ℕ) → last_held (renamed_holdings r st) (renamed_number r victim) ≡ r.to (last_held st victim)
last_renamed r st (Some v) = refl
last_renamed r st None =
    ap (first_walked st.dest.walked (r.to st.dest.node)) (first_walked_renamed r st.source.walked st.source.node st.node)
    ∙ first_walked_renamed r st.dest.walked st.dest.node (first_walked st.source.walked st.source.node st.node)

by_renamed : (r : Renaming) (graph : Graph) (op : Record) (e : Option Errno) (phase : Phase) (holdings : Option Holdings) → next_by (renamed_graph r graph) (renamed_record r op) e phase (option_map (renamed_holdings r) holdings) ≡ renamed_move r (next_by graph op e phase holdings)
by_renamed r graph op e (Finished reply) None = refl
by_renamed r graph op e (Finished reply) (Some st) = ap Leaves (last_renamed r st st.victim)
by_renamed r graph op (Some e) Walking holdings = refl
by_renamed r graph op (Some e) (Placed i) holdings = refl
by_renamed r graph op None Walking None = ap Takes (sym r.root)
by_renamed r graph op None (Placed i) None = ap Takes (sym r.root)
by_renamed r graph op None Walking (Some st) = on_renamed r graph op.remaining st
by_renamed r graph op None (Placed i) (Some st) = on_renamed r graph op.remaining st

pub next_renamed : (r : Renaming) (graph : Graph) (op : Record) → next (renamed_graph r graph) (renamed_record r op) ≡ renamed_move r (next graph op)
next_renamed r graph op = by_renamed r graph op (by_paths op.call) op.phase op.holdings

-- ---- after a take

behind_renamed : (r : Renaming) (walked : Key) (n : ℕ) → held_on walked (r.to n) ≡ renamed_number r (held_on walked n)
behind_renamed r [] n = refl
behind_renamed r (x ∷ walked) n = refl

step_or_renamed : (side : Side) (r : Renaming) (l : Key) (st : Holdings) (n : ℕ) (other new : Holdings) → new ≡ renamed_holdings r other → step_or side l (renamed_holdings r st) (r.to n) new ≡ renamed_holdings r (step_or side l st n other)
step_or_renamed side r [] st n other new e = e
step_or_renamed Source r (x ∷ l) st n other new e = ap (λ (b : Option ℕ). record (renamed_holdings r st) { behind = b; source = renamed_head r (head_took st.source x n) }) (behind_renamed r st.source.walked st.source.node)
step_or_renamed Dest r (x ∷ l) st n other new e = ap (λ (b : Option ℕ). record (renamed_holdings r st) { behind = b; dest = renamed_head r (head_took st.dest x n) }) (behind_renamed r st.dest.walked st.dest.node)

target_took_renamed : (r : Renaming) (remaining : Form) (st : Holdings) (n : ℕ) → target_took remaining (renamed_holdings r st) (r.to n) ≡ renamed_holdings r (target_took remaining st n)
target_took_renamed r (AtNode c p) st n = refl
target_took_renamed r (AtEntry c p) st n = refl
target_took_renamed r (AtPair c p q) st n =
    step_or_renamed Source r (left st.source.walked (parent_of p)) st n _ _ (step_or_renamed Dest r (left st.dest.walked (parent_of q)) st n (victim_took st n) _ refl)

took_by_renamed : (r : Renaming) (op : Record) (holdings : Option Holdings) (l : Key) (n : ℕ) → took_by (renamed_record r op) (option_map (renamed_holdings r) holdings) l (r.to n) ≡ renamed_record r (took_by op holdings l n)
took_by_renamed r op None l n = refl
took_by_renamed r op (Some st) [] n = ap (λ (s : Holdings). record (renamed_record r op) { holdings = Some s }) (target_took_renamed r op.remaining st n)
took_by_renamed r op (Some st) (x ∷ l) n = refl

pub took_renamed : (r : Renaming) (op : Record) (n : ℕ) → took (renamed_record r op) (r.to n) ≡ renamed_record r (took op n)
took_renamed r op n = took_by_renamed r op op.holdings (target op.remaining) n

-- ---- after a let go, and a return

left_heads_renamed : (r : Renaming) (st : Holdings) (dest source : Key) → left_heads (renamed_holdings r st) dest source ≡ option_map (renamed_holdings r) (left_heads st dest source)
left_heads_renamed r st (x ∷ dest) source = refl
left_heads_renamed r st [] (x ∷ source) = refl
left_heads_renamed r st [] [] = refl

left_last_renamed : (r : Renaming) (st : Holdings) (victim : Option ℕ) → left_last (renamed_holdings r st) (renamed_number r victim) ≡ option_map (renamed_holdings r) (left_last st victim)
left_last_renamed r st (Some v) = refl
left_last_renamed r st None = left_heads_renamed r st st.dest.walked st.source.walked

left_renamed : (r : Renaming) (phase : Phase) (holdings : Option Holdings) → left_holdings phase (option_map (renamed_holdings r) holdings) ≡ option_map (renamed_holdings r) (left_holdings phase holdings)
left_renamed r phase None = refl
left_renamed r (Finished reply) (Some st) = left_last_renamed r st st.victim
left_renamed r Walking (Some st) = refl
left_renamed r (Placed i) (Some st) = refl

eqb_new : (r : Renaming) (m n : ℕ) → eqb (r.to m) (r.to n) ≡ eqb m n
eqb_new r m n = sym (eqb_old r (r.to m) n) ∙ ap (λ (k : ℕ). eqb k n) (r.there m)

pub removed_renamed : (r : Renaming) (removed : Option ℕ) (n : ℕ) → is_removed (renamed_number r removed) (r.to n) ≡ is_removed removed n
removed_renamed r None n = refl
removed_renamed r (Some m) n = eqb_new r m n

cleared_renamed : (r : Renaming) (b : Bool) (removed : Option ℕ) → cleared b (renamed_number r removed) ≡ renamed_number r (cleared b removed)
cleared_renamed r true removed = refl
cleared_renamed r false removed = refl

pub let_go_renamed : (r : Renaming) (op : Record) (n : ℕ) → let_go (renamed_record r op) (r.to n) ≡ renamed_record r (let_go op n)
let_go_renamed r op n =
    ap₂ (λ (s : Option Holdings) (o : Option ℕ). record (renamed_record r op) { holdings = s; removed = o }) (left_renamed r op.phase op.holdings)
    (ap (λ (b : Bool). cleared b (renamed_number r op.removed)) (removed_renamed r op.removed n) ∙ cleared_renamed r (is_removed op.removed n) op.removed)

releasing_by : (r : Renaming) (b : Bool) (n : ℕ) (graph : Graph) → releasing b (r.to n) (renamed_graph r graph) ≡ renamed_graph r (releasing b n graph)
releasing_by r true n graph = sym (released_renamed r n graph)
releasing_by r false n graph = refl

pub releasing_renamed : (r : Renaming) (removed : Option ℕ) (n : ℕ) (graph : Graph) → releasing (is_removed (renamed_number r removed) (r.to n)) (r.to n) (renamed_graph r graph) ≡ renamed_graph r (releasing (is_removed removed n) n graph)
releasing_renamed r removed n graph = ap (λ (b : Bool). releasing b (r.to n) (renamed_graph r graph)) (removed_renamed r removed n) ∙ releasing_by r (is_removed removed n) n graph

pub unreserved_renamed : (r : Renaming) (reserved : Option ℕ) (graph : Graph) → unreserved (renamed_number r reserved) (renamed_graph r graph) ≡ renamed_graph r (unreserved reserved graph)
unreserved_renamed r None graph = refl
unreserved_renamed r (Some n) graph = sym (released_renamed r n graph)
