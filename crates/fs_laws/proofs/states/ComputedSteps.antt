-- Only a finished call returns, and only one that is not finishes.
use Rattle.std.proofs.Common.{◌≡◌, ℕ, Bool, true, false, [], ◌∷◌, Option, Some, None, refl, ◌∙◌, sym}
use Rattle.fs_names.specs.Keys.{Key, parent_of, last_of}
use Rattle.fs_names.specs.Parts.{left}
use Rattle.fs_names.specs.Shapes.{Shape, Dir, File}
use Rattle.fs_calls.specs.Forms.{Form, AtNode, AtEntry, AtPair, PairCall}
use Rattle.fs_calls.specs.declared.errno.Errno.{Errno}
use Rattle.fs_calls.specs.declared.reply.Reply.{Reply}
use Rattle.fs_calls.specs.Graphs.{Graph}
use Rattle.fs_machine.specs.Moves.{behind_first, first_of, step_move, walk_move, take_if, dir_then, parents_move, target_move, target, next_on, next_by}
use Rattle.fs_machine.specs.declared.moves.Move.{Move}
use Rattle.fs_machine.specs.declared.moves.Move.TheVariants.{Finish as Finishes, Return as Ends}
use Rattle.fs_machine.specs.declared.moves.Moved.{Moved}
use Rattle.fs_machine.specs.Records.{Holdings, Phase, Walking, Placed, Finished, Record}
use Rattle.fs_laws.proofs.calls.Behind.{AtParents, at_parents}

walk_ends : (s : Option Shape) (k : Option ℕ) → walk_move s k ≡ Ends → ⊥
walk_ends None k e = cc
walk_ends (Some (File bytes)) k e = cc
walk_ends (Some (Dir names)) None e = cc
walk_ends (Some (Dir names)) (Some m) e = cc

first_ends : (graph : Graph) (n : ℕ) (l : Key) (m : Move) → (m ≡ Ends → ⊥) → first_of (step_move graph n l) m ≡ Ends → ⊥
first_ends graph n [] m h e = h e
first_ends graph n (x ∷ l) m h e = walk_ends (graph.shape n) (graph.child n x) e

behind_ends : (behind : Option ℕ) (m : Move) → (m ≡ Ends → ⊥) → behind_first behind m ≡ Ends → ⊥
behind_ends None m h e = h e
behind_ends (Some n) m h e = cc

dir_ends : (s : Option Shape) (m : Move) → (m ≡ Ends → ⊥) → dir_then s m ≡ Ends → ⊥
dir_ends None m h e = cc
dir_ends (Some (File bytes)) m h e = cc
dir_ends (Some (Dir names)) m h e = h e

take_ends : (b : Bool) (k v : Option ℕ) (s : Moved) → take_if b k v (Finishes s) ≡ Ends → ⊥
take_ends true (Some n) None s e = cc
take_ends true (Some n) (Some v) s e = cc
take_ends true None v s e = cc
take_ends false k v s e = cc

some_ends : (b : Bool) (k v : Option ℕ) (s : Moved) (m : Move) → take_if b k v (Finishes s) ≡ m → m ≡ Ends → ⊥
some_ends b k v s m i e = take_ends b k v s (i ∙ e)

parents_ends : (graph : Graph) (c : PairCall) (p q : Key) (st : Holdings) (m : Move) → parents_move graph c p q st ≡ m → m ≡ Ends → ⊥
parents_ends graph c p q st m i e = let both : AtParents graph c p q st = at_parents graph c p q st in some_ends both.wanted (graph.child st.dest.node (last_of q)) st.victim both.moves m (sym both.is ∙ i) e

target_ends : (graph : Graph) (remaining : Form) (st : Holdings) → target_move graph remaining st ≡ Ends → ⊥
target_ends graph (AtNode c p) st e = cc
target_ends graph (AtEntry c p) st e = some_ends _ _ _ _ Ends e refl
target_ends graph (AtPair c p q) st e =
    dir_ends (graph.shape st.node) _
    (first_ends graph st.source.node (left st.source.walked (parent_of p)) _
    (dir_ends (graph.shape st.source.node) _
    (first_ends graph st.dest.node (left st.dest.walked (parent_of q)) _
    (dir_ends (graph.shape st.dest.node) (parents_move graph c p q st) (parents_ends graph c p q st (parents_move graph c p q st) refl))))) e

pub on_ends : (graph : Graph) (remaining : Form) (st : Holdings) → next_on graph remaining st ≡ Ends → ⊥
on_ends graph remaining st e = behind_ends st.behind (first_of (step_move graph st.node (target remaining)) (target_move graph remaining st)) (first_ends graph st.node (target remaining) (target_move graph remaining st) (target_ends graph remaining st)) e

-- only a finished call returns
pub by_ends : (graph : Graph) (op : Record) (e : Option Errno) (phase : Phase) (st : Option Holdings) → next_by graph op e phase st ≡ Ends → (r : Reply) × (phase ≡ Finished r)
by_ends graph op e (Finished r) st i = (r, refl)
by_ends graph op (Some f) Walking st i = cc
by_ends graph op (Some f) (Placed j) st i = cc
by_ends graph op None Walking None i = cc
by_ends graph op None (Placed j) None i = cc
by_ends graph op None Walking (Some st) i = absurd (on_ends graph op.remaining st i)
by_ends graph op None (Placed j) (Some st) i = absurd (on_ends graph op.remaining st i)

-- only one that is not finished finishes
pub by_finishes : (graph : Graph) (op : Record) (e : Option Errno) (r : Reply) (st : Option Holdings) (s : Moved) → next_by graph op e (Finished r) st ≡ Finishes s → ⊥
by_finishes graph op e r None s i = cc
by_finishes graph op e r (Some st) s i = cc
