-- What the finish of each form of call does.
use Rattle.std.proofs.Common.{◌≡◌, ℕ, Bool, true, false, [], ◌++◌, Some, refl, sym, ap, ◌∙◌, subst}
use Rattle.fs_names.specs.Keys.{Key, parent_of, last_of}
use Rattle.fs_names.specs.Parts.{common}
use Rattle.fs_names.specs.Shapes.{Shape, names_of}
use Rattle.fs_laws.specs.Changes.{Change, resolve, resolve_dir, looked}
use Rattle.fs_calls.specs.Forms.{Form, AtNode, AtEntry, AtPair, Fits, by_text, PairCall}
use Rattle.fs_calls.specs.Forms as pairs
use Rattle.fs_laws.specs.Maps.{Map, below}
use Rattle.fs_calls.specs.Rows.{node_row, entry_row}
use Rattle.fs_calls.specs.declared.reply.Reply.{Reply}
use Rattle.fs_calls.specs.declared.reply.Reply.TheVariants.{Failed}
use Rattle.fs_calls.specs.Graphs.{Graph, numbers, graph_shapes, entry_shape}
use Rattle.fs_machine.specs.Finishes.{no_effect, effect_at}
use Rattle.fs_machine.specs.Moves.{next_on, entry_move, fork_move, path_error, dir_error, walk_errno}
use Rattle.fs_machine.specs.declared.moves.Move.TheVariants.{Finish as Finishes}
use Rattle.fs_machine.specs.declared.moves.Moved.{Moved}
use Rattle.fs_machine.specs.Records.{Record, Records, Holdings}
use Rattle.fs_laws.specs.Invariants.{Forked, HeadsSound}
use Rattle.fs_laws.specs.CallFacts.{Located}
use Rattle.fs_laws.proofs.calls.Located.{from_more, to_more, change_under}
use Rattle.fs_laws.proofs.finish.Readings.{ForkAt, below_is, pair_finish, arrived, dir_of_none}
use Rattle.fs_laws.proofs.finish.PairRows.{pair_at, pair_row, pair_writes, pair_change, pair_effect, looked_pair, effect_pair, row_stuck, effect_stuck, effect_still, change_still}
use Rattle.fs_laws.proofs.calls.Behind.{finish_on}
use Rattle.fs_laws.proofs.finish.Pairs.{step_stops, Standing, Stuck, At_fork, standing, stuck_read}
use Rattle.fs_laws.proofs.finish.RenameChanges.{does_rename}
use Rattle.fs_laws.proofs.finish.ExchangeChanges.{does_exchange}
use Rattle.fs_laws.proofs.finish.Changes.{Finisher, Does, does_nothing, does_on, does_in, content_of}

-- a call on two entries
does_pair : (graph : Graph) (ops : Records) (key : ℕ → Key) (c : ℕ) (op : Record) (st : Holdings) (o : Moved) (pair : PairCall) (p q : Key) (s : Shape) → Finisher graph ops key c op st o → op.remaining ≡ AtPair pair p q → Fits (AtPair pair p q) → graph.shape st.node ≡ Some s
    → Does graph ops key st op.reserved (change_under (key c) (looked (below (key c) (graph_shapes graph)) (AtPair pair p q)).1) (effect_at graph (AtPair pair p q) st op.reserved)
does_pair graph ops key c op st o pair p q s f rem fits u =
    subst (λ (r : Reply × Change). Does graph ops key st op.reserved (change_under (key c) r.1) (effect_at graph (AtPair pair p q) st op.reserved)) (sym (looked_pair (below (key c) (graph_shapes graph)) pair p q))
    (subst (Does graph ops key st op.reserved (ch (pair_row (below (key c) (graph_shapes graph)) pair p q).1)) (sym (effect_pair graph pair p q st op.reserved))
    (by (standing graph f.is_graph pair p q st o (subst (λ (x : Form). HeadsSound graph st.node x st) rem f.well) (ap (λ (x : Form). next_on graph x st) (sym rem) ∙ f.next))))
  where
    loc : Located (numbers graph) (key c) st
    loc = (f.kept.each c op st f.is f.on).located

    ch : Bool → Change
    ch b = change_under (key c) (pair_change (below (key c) (graph_shapes graph)) pair p q b)

    still : (b : Bool) (r : Reply) → b ≡ false → Does graph ops key st op.reserved (change_under (key c) (pair_change (below (key c) (graph_shapes graph)) pair p q b)) (no_effect r graph op.reserved)
    still b r i = does_nothing graph ops key st op.reserved (ch b) r f.is_graph f.kept (ap (λ (x : Bool). (ch x).moves) i ∙ ap (λ (x : Change). (change_under (key c) x).moves) (change_still (below (key c) (graph_shapes graph)) pair p q))

    real : (pair : PairCall) → op.remaining ≡ AtPair pair p q → Fits (AtPair pair p q) → Forked graph st.node p q st → fork_move graph pair p q st ≡ Finishes o → (pair_at graph pair p q st).1 ≡ true
        → Does graph ops key st op.reserved (change_under (key c) (pair_change (below (key c) (graph_shapes graph)) pair p q true)) (pair_effect graph pair p q st op.reserved [])
    real (pairs.Rename most) rem fits w fork j = does_rename graph ops key c op st o most p q (pair_writes (below (key c) (graph_shapes graph)) p q) f rem fits w fork j
    real pairs.Exchange rem fits w fork j = does_exchange graph ops key c op st o p q f fits w fork j

    at_parents : ForkAt graph st.node p q st → fork_move graph pair p q st ≡ Finishes o → (b : Bool) → (pair_at graph pair p q st).1 ≡ b → Does graph ops key st op.reserved (change_under (key c) (pair_change (below (key c) (graph_shapes graph)) pair p q (pair_at graph pair p q st).1)) (pair_effect graph pair p q st op.reserved [])
    at_parents at_c fork false j = subst (Does graph ops key st op.reserved (ch (pair_at graph pair p q st).1)) (sym (effect_still graph pair p q st op.reserved j)) (still (pair_at graph pair p q st).1 (pair_at graph pair p q st).0 j)
    at_parents at_c fork true j = subst (λ (b : Bool). Does graph ops key st op.reserved (ch b) (pair_effect graph pair p q st op.reserved [])) (sym j) (real pair rem fits at_c.fork fork j)

    by : Standing graph pair p q st o → Does graph ops key st op.reserved (change_under (key c) (pair_change (below (key c) (graph_shapes graph)) pair p q (pair_row (below (key c) (graph_shapes graph)) pair p q).1)) (pair_effect graph pair p q st op.reserved (common (parent_of p) (parent_of q)))
    by (Stuck x l i stop) =
        subst (λ (k : Key). Does graph ops key st op.reserved (ch (pair_row (below (key c) (graph_shapes graph)) pair p q).1) (pair_effect graph pair p q st op.reserved k)) (sym i)
        (subst (Does graph ops key st op.reserved (ch (pair_row (below (key c) (graph_shapes graph)) pair p q).1)) (sym (effect_stuck graph pair p q st op.reserved x l))
        (still (pair_row (below (key c) (graph_shapes graph)) pair p q).1 (Failed (walk_errno (graph.shape st.node)))
        (ap (λ (r : Reply × Bool). r.1) (row_stuck (below (key c) (graph_shapes graph)) pair p q (walk_errno (graph.shape st.node))
        (ap (λ (t : Map Shape). resolve_dir t (parent_of p)) (below_is graph (key c) st.node loc.here) ∙ stuck_read graph f.is_graph s p q st x l u i stop)))))
    by (At_fork i at_c fork) =
        subst (λ (k : Key). Does graph ops key st op.reserved (ch (pair_row (below (key c) (graph_shapes graph)) pair p q).1) (pair_effect graph pair p q st op.reserved k)) (sym i)
        (subst (λ (r : Reply × Bool). Does graph ops key st op.reserved (ch r.1) (pair_effect graph pair p q st op.reserved []))
        (pair_finish graph f.is_graph st.node s pair p q st (from_more pair p q fits) (to_more pair p q fits) u at_c ∙ ap (λ (t : Map Shape). pair_row t pair p q) (sym (below_is graph (key c) st.node loc.here)))
        (at_parents at_c fork (pair_at graph pair p q st).1 refl))

-- each form of call
pub does : (graph : Graph) (ops : Records) (key : ℕ → Key) (c : ℕ) (op : Record) (st : Holdings) (o : Moved) (s : Shape) → Finisher graph ops key c op st o → Fits op.remaining → graph.shape st.node ≡ Some s
    → Does graph ops key st op.reserved (change_under (key c) (looked (below (key c) (graph_shapes graph)) op.remaining).1) (effect_at graph op.remaining st op.reserved)
does graph ops key c op st o s f fits u = go op.remaining refl
  where
    loc : Located (numbers graph) (key c) st
    loc = (f.kept.each c op st f.is f.on).located

    by : (rem : Form) → op.remaining ≡ rem → Fits rem → next_on graph rem st ≡ Finishes o → Does graph ops key st op.reserved (change_under (key c) (looked (below (key c) (graph_shapes graph)) rem).1) (effect_at graph rem st op.reserved)
    by (AtNode e p) i fit n = does_on graph ops key st op.reserved (key c) p (node_row e (resolve (below (key c) (graph_shapes graph)) p) (graph_shapes graph (key c ++ p))).1 (node_row e (path_error p (graph.shape st.node)) (graph.shape st.node)) f.is_graph f.kept loc.here (λ bytes h. content_of e (path_error p (graph.shape st.node)) (graph.shape st.node) bytes h)
    by (AtEntry e p) i fit n =
        does_in graph ops key c op st o e p (parent_of p) (names_of (graph_shapes graph (key c ++ parent_of p))) (last_of p) p (entry_row e (resolve_dir (below (key c) (graph_shapes graph)) (parent_of p)) (graph_shapes graph (key c ++ parent_of p)) (graph_shapes graph (key c ++ p))).1
        (dir_error (parent_of p) (graph.shape st.node)) (graph.shape st.node) f i
        (λ h. dir_of_none (parent_of p) (graph.shape st.node) h)
        (λ h. (step_stops graph st.node (parent_of p) (entry_move graph e (last_of p) st) o (finish_on graph (AtEntry e p) st o n)).1 (arrived (parent_of p) (graph.shape st.node) h))
        (entry_row e (dir_error (parent_of p) (graph.shape st.node)) (graph.shape st.node) (entry_shape graph st.node (last_of p))) refl
    by (AtPair pair p q) i fit n = does_pair graph ops key c op st o pair p q s f i fit u

    go : (rem : Form) → op.remaining ≡ rem → Does graph ops key st op.reserved (change_under (key c) (looked (below (key c) (graph_shapes graph)) op.remaining).1) (effect_at graph op.remaining st op.reserved)
    go rem i = subst (λ (x : Form). Does graph ops key st op.reserved (change_under (key c) (looked (below (key c) (graph_shapes graph)) x).1) (effect_at graph x st op.reserved)) (sym i) (by rem i (ap by_text (sym i) ∙ fits) (ap (λ (x : Form). next_on graph x st) (sym i) ∙ f.next))
