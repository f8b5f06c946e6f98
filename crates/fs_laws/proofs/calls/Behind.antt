-- What a call holds behind goes before all else, so any other move comes where nothing is behind.
use Rattle.std.proofs.Common.{◌≡◌, ℕ, Bool, false, Option, Some, None, refl, ap, ◌⊎◌, inl, inr}
use Rattle.fs_names.specs.Keys.{Key, last_of}
use Rattle.fs_calls.specs.Forms.{Form, PairCall}
use Rattle.fs_calls.specs.Forms as pairs
use Rattle.fs_calls.specs.Graphs.{Graph}
use Rattle.fs_machine.specs.Moves.{behind_first, first_of, take_if, parents_move, next_on, step_move, target, target_move}
use Rattle.fs_machine.specs.declared.moves.Move.{Move}
use Rattle.fs_machine.specs.declared.moves.Move.TheVariants.{Take as Takes, LetGo as Leaves, Finish as Finishes}
use Rattle.fs_machine.specs.declared.moves.Moved.{Moved}
use Rattle.fs_machine.specs.Records.{Holdings}

pub take_past : (behind : Option ℕ) (m : Move) (n : ℕ) → behind_first behind m ≡ Takes n → (behind ≡ None) × (m ≡ Takes n)
take_past None m n e = (refl, e)
take_past (Some k) m n e = cc

pub finish_past : (behind : Option ℕ) (m : Move) (o : Moved) → behind_first behind m ≡ Finishes o → (behind ≡ None) × (m ≡ Finishes o)
finish_past None m o e = (refl, e)
finish_past (Some k) m o e = cc

pub leave_past : (behind : Option ℕ) (m : Move) (n : ℕ) → behind_first behind m ≡ Leaves n → (behind ≡ Some n) ⊎ (m ≡ Leaves n)
leave_past None m n e = inr e
leave_past (Some k) m n e = inl (let z : k ≡ n = cc in ap (λ (x : ℕ). Some x) z)

-- a call that finishes where it stands does so by its steps and its target alone
pub finish_on : (graph : Graph) (remaining : Form) (st : Holdings) (o : Moved) → next_on graph remaining st ≡ Finishes o → first_of (step_move graph st.node (target remaining)) (target_move graph remaining st) ≡ Finishes o
finish_on graph remaining st o e = (finish_past st.behind (first_of (step_move graph st.node (target remaining)) (target_move graph remaining st)) o e).1

-- at both parents a call on two entries takes a victim, or finishes
pub record AtParents (graph : Graph) (c : PairCall) (p q : Key) (st : Holdings) : Type 0 where
  pub wanted : Bool
  pub moves : Moved
  pub is : parents_move graph c p q st ≡ take_if wanted (graph.child st.dest.node (last_of q)) st.victim (Finishes moves)

pub at_parents : (graph : Graph) (c : PairCall) (p q : Key) (st : Holdings) → AtParents graph c p q st
at_parents graph (pairs.Rename most) p q st = record { wanted = _; moves = _; is = refl }
at_parents graph pairs.Exchange p q st = record { wanted = false; moves = _; is = refl }
