-- A call that finishes holds nothing behind; and what a call still holds after a let go.
use Rattle.std.proofs.Common.{◌≡◌, ℕ, Option, Some, None, refl, sym, ap₂, ◌∙◌, subst, inl, inr}
use Rattle.fs_names.specs.Parts.{HasNames}
use Rattle.fs_calls.specs.Forms.{Form, by_paths}
use Rattle.fs_calls.specs.declared.errno.Errno.{Errno}
use Rattle.fs_calls.specs.declared.reply.Reply.{Reply}
use Rattle.fs_calls.specs.Graphs.{Graph}
use Rattle.fs_machine.specs.Leaving.{let_go}
use Rattle.fs_machine.specs.Moves.{next, next_by, next_on, first_of, step_move, target, target_move, left_holdings, left_last, last_held}
use Rattle.fs_machine.specs.declared.moves.Move.TheVariants.{LetGo as Leaves, Finish as Finishes}
use Rattle.fs_machine.specs.declared.moves.Moved.{Moved}
use Rattle.fs_machine.specs.Records.{Phase, Walking, Placed, Finished, Holds, Record, Holdings}
use Rattle.fs_laws.proofs.calls.Behind.{finish_past}
use Rattle.fs_laws.proofs.events.LetGo.{held_on_move, still_holds, lets_behind, LetsLast, One, All, lets_last}
use Rattle.fs_laws.proofs.calls.HeadOrder.{IsClosed, HeadsOfCallInOrder, neat_heads}
use Rattle.fs_laws.proofs.calls.NodesHeld.{one_holdings, none_some}

-- a call that finishes where it stands
pub finish_closed : (graph : Graph) (remaining : Form) (st : Holdings) (o : Moved) → next_on graph remaining st ≡ Finishes o → IsClosed st
finish_closed graph remaining st o e = (finish_past st.behind (first_of (step_move graph st.node (target remaining)) (target_move graph remaining st)) o e).0

-- what a call holds but for one node
abbrev pub StillHolds : Option Holdings → ℕ → Type 0
StillHolds s m = (new : Holdings) × (s ≡ Some new) × Holds new m

-- a finished call that has let go the last taken
end_holds : (st : Holdings) (n m : ℕ) → IsClosed st → last_held st st.victim ≡ n → (m ≡ n → ⊥) → Holds st m → StillHolds (left_last st st.victim) m
end_holds st n m cl e d h = go (lets_last st n e)
  where
    go : LetsLast st n (left_last st st.victim) → StillHolds (left_last st st.victim) m
    go (One new is l behind only) = (new, is, still_holds st new n m l d h)
    go (All is node source dest victim) = absurd (nowhere h)
      where
        nowhere : Holds st m → ⊥
        nowhere (inl g) = d (sym g ∙ node)
        nowhere (inr (inl g)) = none_some st.behind m cl g
        nowhere (inr (inr (inl g))) = subst HasNames source g.0
        nowhere (inr (inr (inr (inl g)))) = subst HasNames dest g.0
        nowhere (inr (inr (inr (inr g)))) = none_some st.victim m victim g

-- what a let go leaves
pub record LeftWell (graph : Graph) (op : Record) (n : ℕ) : Type 0 where
  pub stays : (st : Holdings) (m : ℕ) → op.holdings ≡ Some st → Holds st m → (m ≡ n → ⊥) → StillHolds (left_holdings op.phase op.holdings) m
  pub neat : (new : Holdings) → left_holdings op.phase op.holdings ≡ Some new → HeadsOfCallInOrder graph (let_go op n) new

way_left : (graph : Graph) (op : Record) (n : ℕ) (st : Holdings) (p : Phase) → op.phase ≡ p → ((r : Reply) → p ≡ Finished r → ⊥) → op.holdings ≡ Some st → HeadsOfCallInOrder graph op st → left_holdings p (Some st) ≡ Some (record st { behind = None }) → st.behind ≡ Some n → LeftWell graph op n
way_left graph op n st p ph unfinished on w is b = record {
  stays = λ s m e h d. (record st { behind = None }, left_is, still_holds st (record st { behind = None }) n m (lets_behind st n b) d (subst (λ (y : Holdings). Holds y m) (one_holdings e on) h));
  neat = λ new e. (let z : ◌≡◌ {A = Option Holdings} (Some (record st { behind = None })) (Some new) = sym left_is ∙ e in subst (HeadsOfCallInOrder graph (let_go op n)) (let y : record st { behind = None } ≡ new = cc in y)
      (record { under_way = λ u. neat_heads graph op.remaining st (record st { behind = None }) (record { source = refl; node = refl; dest = refl; victim = refl }) (w.under_way u); closed = λ r i. absurd (unfinished r (sym ph ∙ i)) }));
}
  where
    left_is : left_holdings op.phase op.holdings ≡ Some (record st { behind = None })
    left_is = ap₂ left_holdings ph on ∙ is

last_closed : (st new : Holdings) (n : ℕ) → IsClosed st → last_held st st.victim ≡ n → left_last st st.victim ≡ Some new → IsClosed new
last_closed st new n c e is = go (lets_last st n e)
  where
    go : LetsLast st n (left_last st st.victim) → IsClosed new
    go (One made i l behind only) = subst IsClosed (one_holdings i is) (behind ∙ c)
    go (All i node source dest victim) = none_some (left_last st st.victim) new i is

end_left : (graph : Graph) (op : Record) (n : ℕ) (st : Holdings) (r : Reply) → op.phase ≡ Finished r → op.holdings ≡ Some st → HeadsOfCallInOrder graph op st → last_held st st.victim ≡ n → LeftWell graph op n
end_left graph op n st r ph on w e = record {
  stays = λ s m i h d. (let g : StillHolds (left_last st st.victim) m = end_holds st n m (w.closed r ph) e d (subst (λ (y : Holdings). Holds y m) (one_holdings i on) h) in (g.0, left_is ∙ g.1, g.2));
  neat = λ new i. record { under_way = λ u. absurd (u r ph); closed = λ q j. last_closed st new n (w.closed r ph) e (sym left_is ∙ i) };
}
  where
    left_is : left_holdings op.phase op.holdings ≡ left_last st st.victim
    left_is = ap₂ left_holdings ph on

pub left_well : (graph : Graph) (op : Record) (n : ℕ) → ((st : Holdings) → op.holdings ≡ Some st → HeadsOfCallInOrder graph op st) → next graph op ≡ Leaves n → LeftWell graph op n
left_well graph op n w m = go op.phase (by_paths op.call) op.holdings refl refl m
  where
    leaves_is : (a b : ℕ) → Leaves a ≡ Leaves b → a ≡ b
    leaves_is a b e = cc

    go : (p : Phase) (e : Option Errno) (s : Option Holdings) → op.phase ≡ p → op.holdings ≡ s → next_by graph op e p s ≡ Leaves n → LeftWell graph op n
    go (Finished r) e None i j f = cc
    go (Finished r) e (Some st) i j f = end_left graph op n st r i j (w st j) (leaves_is (last_held st st.victim) n f)
    go Walking (Some e) s i j f = cc
    go (Placed k) (Some e) s i j f = cc
    go Walking None None i j f = cc
    go (Placed k) None None i j f = cc
    go Walking None (Some st) i j f = way_left graph op n st Walking i (λ r e. cc) j (w st j) refl (held_on_move graph op.remaining st n f)
    go (Placed k) None (Some st) i j f = way_left graph op n st (Placed k) i (λ r e. cc) j (w st j) refl (held_on_move graph op.remaining st n f)
