-- What the finish of an exchange that really moves does.
use Rattle.std.proofs.Common.{◌≡◌, ℕ, Bool, true, [], ◌∷◌, ◌++◌, Option, Some, None, refl, sym, subst, inl, inr}
use Rattle.fs_names.specs.Keys.{Key, last_of}
use Rattle.fs_laws.specs.Changes.{swap_change}
use Rattle.fs_calls.specs.Forms.{AtPair, Fits}
use Rattle.fs_calls.specs.Forms as pairs
use Rattle.fs_laws.specs.Maps.{Map, swap, swapped}
use Rattle.fs_calls.specs.Graphs.{Graph, numbers, swapped_in}
use Rattle.fs_machine.specs.Finishes.{swap_effect, exchange_effect}
use Rattle.fs_machine.specs.Moves.{fork_move, exchange_at}
use Rattle.fs_machine.specs.declared.moves.Move.TheVariants.{Finish as Finishes}
use Rattle.fs_machine.specs.declared.moves.Moved.{Moved}
use Rattle.fs_machine.specs.declared.moves.Moved.TheVariants.{Two}
use Rattle.fs_machine.specs.Records.{Record, Records, Holdings, Source, Dest, Side, of_side}
use Rattle.fs_machine.specs.States.{IsMoved}
use Rattle.fs_laws.specs.Invariants.{Forked}
use Rattle.fs_laws.specs.CallFacts.{Located, CallFacts}
use Rattle.fs_laws.proofs.calls.Located.{change_under}
use Rattle.fs_laws.proofs.calls.NodesHeld.{node_held}
use Rattle.fs_laws.proofs.graphs.Alterations.{altered_swapped}
use Rattle.fs_laws.proofs.graphs.Swap.{CanSwap, numbers_swapped, swap_one}
use Rattle.fs_laws.proofs.events.OneCallChanged.{kept_swap}
use Rattle.fs_laws.proofs.helping.MovesSpareOthers.{Moves, off_heads, spares_both}
use Rattle.fs_laws.proofs.finish.Readings.{entry_key}
use Rattle.fs_laws.proofs.finish.Swaps.{RealSwap, real_swap, can_swap}
use Rattle.fs_laws.proofs.finish.RealMoves.{moves_two}
use Rattle.fs_laws.proofs.finish.Changes.{Finisher, Does, mover_of, moves_of}

-- where it stands at both parents
pub does_exchange : (graph : Graph) (ops : Records) (key : ℕ → Key) (c : ℕ) (op : Record) (st : Holdings) (o : Moved) (p q : Key) → Finisher graph ops key c op st o → Fits (AtPair pairs.Exchange p q)
    → Forked graph st.node p q st → fork_move graph pairs.Exchange p q st ≡ Finishes o → (exchange_at graph p q st).1 ≡ true
    → Does graph ops key st op.reserved (change_under (key c) (swap_change true p q)) (exchange_effect graph p q st op.reserved [])
does_exchange graph ops key c op st o p q f fits w fork j =
    subst (λ (b : Bool). Does graph ops key st op.reserved (change_under (key c) (swap_change true p q)) (swap_effect graph st (last_of p) (last_of q) op.reserved (exchange_at graph p q st).0 b (graph.child st.source.node (last_of p)) (graph.child st.dest.node (last_of q)))) (sym j)
    (subst (λ (t : Option ℕ). Does graph ops key st op.reserved (change_under (key c) (swap_change true p q)) (swap_effect graph st (last_of p) (last_of q) op.reserved (exchange_at graph p q st).0 true (graph.child st.source.node (last_of p)) t)) (sym real.other.1)
    (subst (λ (s : Option ℕ). Does graph ops key st op.reserved (change_under (key c) (swap_change true p q)) (swap_effect graph st (last_of p) (last_of q) op.reserved (exchange_at graph p q st).0 true s (Some real.other.0))) (sym real.one.1) made))
  where
    loc : Located (numbers graph) (key c) st
    loc = (f.kept.each c op st f.is f.on).located

    real : RealSwap graph p q st
    real = real_swap graph st.node p q st w j

    can : CanSwap graph (key c ++ st.source.walked) st.source.node (last_of p) real.one.0 (key c ++ st.dest.walked) st.dest.node (last_of q) real.other.0
    can = can_swap graph (key c) p q st loc.head fits real

    two : Two real.one.0 real.other.0 ≡ o
    two = moves_two graph f.is_graph p q st o w real j fork

    moves : (side : Side) → Moves ops key c op st side (of_side side (last_of p) (last_of q))
    moves Source = moves_of graph ops key c op st o f Source (last_of p) real.one.0 real.one.1 (subst (λ (t : Moved). IsMoved t real.one.0) two (inl refl)) (off_heads (key c) st (last_of p) (last_of q) can.aside Source)
    moves Dest = moves_of graph ops key c op st o f Dest (last_of q) real.other.0 real.other.1 (subst (λ (t : Moved). IsMoved t real.other.0) two (inr refl)) (off_heads (key c) st (last_of p) (last_of q) can.aside Dest)

    kept : CallFacts (swap ((key c ++ st.source.walked) ++ last_of p ∷ []) ((key c ++ st.dest.walked) ++ last_of q ∷ []) (numbers graph)) ops (λ d. swapped ((key c ++ st.source.walked) ++ last_of p ∷ []) ((key c ++ st.dest.walked) ++ last_of q ∷ []) (key d))
    kept = kept_swap (numbers graph) ops key (key c ++ st.source.walked) (last_of p) (key c ++ st.dest.walked) (last_of q) f.kept can.aside
        (swap_one (numbers graph) ((key c ++ st.source.walked) ++ last_of p ∷ []) ((key c ++ st.dest.walked) ++ last_of q ∷ []) can.aside f.kept.one_key)
        (spares_both (numbers graph) ops key c op st (last_of p) (last_of q) f.kept (mover_of graph ops key c op st o f) moves)

    new_kept : CallFacts (numbers (swapped_in st.source.node (last_of p) real.one.0 st.dest.node (last_of q) real.other.0 graph)) ops (λ d. swapped (key c ++ p) (key c ++ q) (key d))
    new_kept =
        subst (λ (t : Map ℕ). CallFacts t ops (λ d. swapped (key c ++ p) (key c ++ q) (key d))) (sym (numbers_swapped graph f.is_graph (key c ++ st.source.walked) st.source.node (last_of p) real.one.0 (key c ++ st.dest.walked) st.dest.node (last_of q) real.other.0 can))
        (subst (λ (t : Key). CallFacts (swap ((key c ++ st.source.walked) ++ last_of p ∷ []) ((key c ++ st.dest.walked) ++ last_of q ∷ []) (numbers graph)) ops (λ d. swapped (key c ++ p) t (key d))) (entry_key Dest (key c) pairs.Exchange p q st fits (real.path Dest))
        (subst (λ (s : Key). CallFacts (swap ((key c ++ st.source.walked) ++ last_of p ∷ []) ((key c ++ st.dest.walked) ++ last_of q ∷ []) (numbers graph)) ops (λ d. swapped s ((key c ++ st.dest.walked) ++ last_of q ∷ []) (key d))) (entry_key Source (key c) pairs.Exchange p q st fits (real.path Source)) kept))

    made : Does graph ops key st op.reserved (change_under (key c) (swap_change true p q)) (swap_effect graph st (last_of p) (last_of q) op.reserved (exchange_at graph p q st).0 true (Some real.one.0) (Some real.other.0))
    made = record {
      linked = None;
      altered = altered_swapped graph st f.is_graph (key c ++ st.source.walked) (last_of p) real.one.0 (key c ++ st.dest.walked) (last_of q) real.other.0 can (node_held Source (numbers graph) (key c) st loc) (node_held Dest (numbers graph) (key c) st loc);
      kept = new_kept;
      links = λ n i. cc;
      reserved = λ n i. i;
      removed = λ n i. cc;
    }
