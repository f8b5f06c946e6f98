-- A finish keeps each number in use.
use Rattle.std.proofs.Common.{◌≡◌, ℕ, Bool, true, false, cond, eqb, List, [], ◌∷◌, Option, Some, None, IsTrue, refl, sym, subst}
use Rattle.fs_names.specs.Keys.{Key, last_of, parent_of}
use Rattle.fs_names.specs.Names.{Name}
use Rattle.fs_names.specs.Shapes.{Shape, is_there}
use Rattle.fs_calls.specs.Forms.{Form, AtNode, AtEntry, AtPair, by_paths}
use Rattle.fs_calls.specs.Forms as pairs
use Rattle.fs_calls.specs.declared.errno.Errno.{Errno}
use Rattle.fs_calls.specs.declared.reply.Reply.{Reply}
use Rattle.fs_calls.specs.Rows.{node_row, entry_row, Edit, Keep, Add, Remove}
use Rattle.fs_calls.specs.Graphs.{Graph, set_at, entry_shape, unlinked_in}
use Rattle.fs_machine.specs.Finishes.{node_effect, entry_effect, move_effect, rename_effect, swap_effect, exchange_effect, effect_at, effect_of, finish}
use Rattle.fs_machine.specs.Laws.{FreesByLeavingAlone}
use Rattle.fs_machine.specs.Moves.{target, path_error, dir_error, rename_at, exchange_at}
use Rattle.fs_machine.specs.Records.{Holdings, Record}
use Rattle.fs_machine.specs.States.{State}
use Rattle.fs_machine.specs.declared.answers.Stepped.TheVariants.{Idle, Took, Busy, LetGo, Helped, Committed, CarriedOut, Returned}

-- a number is in use
abbrev Used : Graph → ℕ → Type 0
Used graph n = IsTrue (is_there (graph.shape n))

set_keeps : (f : ℕ → Option Shape) (n : ℕ) (v : Shape) (m : ℕ) → IsTrue (is_there (f m)) → IsTrue (is_there (set_at n (Some v) f m))
set_keeps f n v m used = go (eqb m n)
  where
    go : (b : Bool) → IsTrue (is_there (cond b (Some v) (f m)))
    go true = refl
    go false = used

node_keeps : (graph : Graph) (n : ℕ) (reserved : Option ℕ) (made : Reply × Option (List ℕ)) (m : ℕ) → Used graph m → Used (node_effect graph n reserved made).graph m
node_keeps graph n reserved (r, None) m used = used
node_keeps graph n reserved (r, Some bytes) m used = set_keeps graph.shape n _ m used

entry_keeps : (graph : Graph) (n : ℕ) (x : Name) (reserved : Option ℕ) (made : Reply × Edit) (m : ℕ) → Used graph m → Used (entry_effect graph n x reserved made).graph m
entry_keeps graph n x reserved (r, Keep) m used = used
entry_keeps graph n x None (r, Add shape) m used = used
entry_keeps graph n x (Some k) (r, Add shape) m used = set_keeps graph.shape n _ m used
entry_keeps graph n x reserved (r, Remove) m used = set_keeps graph.shape n _ m used

move_keeps : (graph : Graph) (st : Holdings) (x y : Name) (reserved : Option ℕ) (r : Reply) (b : Bool) (s : Option ℕ) (m : ℕ) → Used graph m → Used (move_effect graph st x y reserved r b s).graph m
move_keeps graph st x y reserved r false s m used = used
move_keeps graph st x y reserved r true None m used = used
move_keeps graph st x y reserved r true (Some s) m used =
    set_keeps (unlinked_in st.source.node x graph).shape st.dest.node _ m (set_keeps graph.shape st.source.node _ m used)

rename_keeps : (graph : Graph) (most : ℕ) (p q : Key) (st : Holdings) (reserved : Option ℕ) (l : Key) (m : ℕ) → Used graph m → Used (rename_effect graph most p q st reserved l).graph m
rename_keeps graph most p q st reserved (z ∷ l) m used = used
rename_keeps graph most p q st reserved [] m used =
    move_keeps graph st (last_of p) (last_of q) reserved (rename_at graph most p q st).0 (rename_at graph most p q st).1 (graph.child st.source.node (last_of p)) m used

swap_keeps : (graph : Graph) (st : Holdings) (x y : Name) (reserved : Option ℕ) (r : Reply) (b : Bool) (s t : Option ℕ) (m : ℕ) → Used graph m → Used (swap_effect graph st x y reserved r b s t).graph m
swap_keeps graph st x y reserved r false s t m used = used
swap_keeps graph st x y reserved r true None t m used = used
swap_keeps graph st x y reserved r true (Some s) None m used = used
swap_keeps graph st x y reserved r true (Some s) (Some t) m used = used

exchange_keeps : (graph : Graph) (p q : Key) (st : Holdings) (reserved : Option ℕ) (l : Key) (m : ℕ) → Used graph m → Used (exchange_effect graph p q st reserved l).graph m
exchange_keeps graph p q st reserved (z ∷ l) m used = used
exchange_keeps graph p q st reserved [] m used =
    swap_keeps graph st (last_of p) (last_of q) reserved (exchange_at graph p q st).0 (exchange_at graph p q st).1 (graph.child st.source.node (last_of p)) (graph.child st.dest.node (last_of q)) m used

at_keeps : (graph : Graph) (f : Form) (st : Holdings) (reserved : Option ℕ) (m : ℕ) → Used graph m → Used (effect_at graph f st reserved).graph m
at_keeps graph (AtNode c p) st reserved m used = node_keeps graph st.node reserved (node_row c (path_error p (graph.shape st.node)) (graph.shape st.node)) m used
at_keeps graph (AtEntry c p) st reserved m used =
    entry_keeps graph st.node (last_of p) reserved (entry_row c (dir_error (parent_of p) (graph.shape st.node)) (graph.shape st.node) (entry_shape graph st.node (last_of p))) m used
at_keeps graph (AtPair (pairs.Rename most) p q) st reserved m used = rename_keeps graph most p q st reserved (target (AtPair (pairs.Rename most) p q)) m used
at_keeps graph (AtPair pairs.Exchange p q) st reserved m used = exchange_keeps graph p q st reserved (target (AtPair pairs.Exchange p q)) m used

of_keeps : (graph : Graph) (op : Record) (e : Option Errno) (st : Option Holdings) (m : ℕ) → Used graph m → Used (effect_of graph op e st).graph m
of_keeps graph op (Some e) st m used = used
of_keeps graph op None None m used = used
of_keeps graph op None (Some st) m used = at_keeps graph op.remaining st op.reserved m used

pub finish_keeps : (graph : Graph) (op : Record) (m : ℕ) → Used graph m → Used (finish graph op).graph m
finish_keeps graph op m used = of_keeps graph op (by_paths op.call) op.holdings m used

kept : (new other : State) (n : ℕ) → new ≡ other → Used other.graph n → Used new.graph n
kept new other n e used = subst (λ (s : State). Used s.graph n) (sym e) used

pub frees_alone : (s : State) → FreesByLeavingAlone s
frees_alone s seat n Idle new (off, e) not_free used = kept new s n e used
frees_alone s seat n (Took k) new (c, op, m, free, e) not_free used = kept new _ n e used
frees_alone s seat n (Busy k h) new (c, op, m, held, e) not_free used = kept new s n e used
frees_alone s seat n (LetGo k) new (c, op, m, e) not_free used = absurd (not_free tt)
frees_alone s seat n (Helped h) new (c, op, t, m, walks, pick, q, is, e) not_free used = kept new _ n e used
frees_alone s seat n Committed new (c, op, o, m, walks, none, e) not_free used = kept new _ n e (finish_keeps s.graph op n used)
frees_alone s seat n CarriedOut new (c, op, o, i, m, placed, e) not_free used = kept new _ n e (finish_keeps s.graph op n used)
frees_alone s seat n (Returned r) new (c, op, m, ph, e) not_free used = absurd (not_free tt)
