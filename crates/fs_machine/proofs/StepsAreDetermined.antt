-- What a step answers, and the state after it, are determined by the state.
use Rattle.std.proofs.Common.{◌≡◌, ℕ, ◌≤◌, Option, Some, None, refl, sym, ap, ap₂, ◌∙◌, arith, subst}
use Rattle.fs_calls.specs.declared.reply.Reply.{Reply}
use Rattle.fs_machine.specs.Moves.{next}
use Rattle.fs_machine.specs.declared.moves.Move.{Move}
use Rattle.fs_machine.specs.declared.moves.Moved.{Moved}
use Rattle.fs_machine.specs.declared.moves.Move.TheVariants.{Take as Takes, LetGo as Leaves, Finish as Finishes, Return as Ends}
use Rattle.fs_machine.specs.Records.{Phase, Walking, Placed, Finished, Record}
use Rattle.fs_machine.specs.Laws.{IsDetermined}
use Rattle.fs_machine.specs.States.{State, Moves, NoneBelow, IsChosen, taking, letting_go, helping, carrying, committing, returning}
use Rattle.fs_machine.specs.declared.answers.Stepped.TheVariants.{Idle, Took, Busy, LetGo, Helped, Committed, CarriedOut, Returned}

-- three equations at once
ap3 : {A B C D : Type 0} (f : A → B → C → D) {a b : A} {c d : B} {x y : C} → a ≡ b → c ≡ d → x ≡ y → f a c x ≡ f b d y
ap3 f {a} {b} {c} {d} {x} {y} e g h = ap₂ (λ i j. f i j x) e g ∙ ap (f b d) h

none_some : {A : Type 0} (o : Option A) (v : A) → o ≡ None → o ≡ Some v → ⊥
none_some o v e f = let z : ◌≡◌ {A = Option _} None (Some v) = sym e ∙ f in cc

number_is : (a b : ℕ) → ◌≡◌ {A = Option ℕ} (Some a) (Some b) → a ≡ b
number_is a b e = cc

record_is : (a b : Record) → ◌≡◌ {A = Option Record} (Some a) (Some b) → a ≡ b
record_is a b e = cc

takes_is : (a b : ℕ) → Takes a ≡ Takes b → a ≡ b
takes_is a b e = cc

leaves_is : (a b : ℕ) → Leaves a ≡ Leaves b → a ≡ b
leaves_is a b e = cc

finishes_is : (a b : Moved) → Finishes a ≡ Finishes b → a ≡ b
finishes_is a b e = cc

reply_is : (a b : Reply) → ◌≡◌ {A = Phase} (Finished a) (Finished b) → a ≡ b
reply_is a b e = cc

-- the call on a seat, its record and its next move are one
same_move : (s : State) (seat c d : ℕ) (op q : Record) (m k : Move) → Moves s seat c op m → Moves s seat d q k → (c ≡ d) × (op ≡ q) × (m ≡ k)
same_move s seat c d op q m k (on, is, move) (on_d, is_d, move_d) =
    let a : c ≡ d = number_is c d (sym on ∙ on_d) in
    let b : op ≡ q = record_is op q (sym is ∙ ap s.ops a ∙ is_d) in
    (a, b, sym move ∙ ap (next s.graph) b ∙ move_d)

-- only one is chosen
one_chosen : (s : State) (n : Moved) (d e : ℕ) → IsChosen s n d → IsChosen s n e → d ≡ e
one_chosen s n d e a b = let x : d ≤ e = a.1 e b.0 in let y : e ≤ d = b.1 d a.0 in omega (arith, x, y)

pub one_step : (s : State) → IsDetermined s
one_step s seat Idle Idle new other (off, e) (off2, e2) = (refl, e ∙ sym e2)
one_step s seat Idle (Took k) new other (off, e) (d, q, w, free2, e2) = absurd (none_some (s.on_seat seat) d off w.0)
one_step s seat Idle (Busy k h2) new other (off, e) (d, q, w, held2, e2) = absurd (none_some (s.on_seat seat) d off w.0)
one_step s seat Idle (LetGo k) new other (off, e) (d, q, w, e2) = absurd (none_some (s.on_seat seat) d off w.0)
one_step s seat Idle (Helped h2) new other (off, e) (d, q, t2, w, walks2, pick2, p2, is2, e2) = absurd (none_some (s.on_seat seat) d off w.0)
one_step s seat Idle Committed new other (off, e) (d, q, o2, w, walks2, none2, e2) = absurd (none_some (s.on_seat seat) d off w.0)
one_step s seat Idle CarriedOut new other (off, e) (d, q, o2, i2, w, placed2, e2) = absurd (none_some (s.on_seat seat) d off w.0)
one_step s seat Idle (Returned r2) new other (off, e) (d, q, w, ph2, e2) = absurd (none_some (s.on_seat seat) d off w.0)
one_step s seat (Took n) Idle new other (c, op, m, free, e) (off2, e2) = absurd (none_some (s.on_seat seat) c off2 m.0)
one_step s seat (Took n) (Took k) new other (c, op, m, free, e) (d, q, w, free2, e2) = (let x : n ≡ k = takes_is n k (same_move s seat c d op q (Takes n) (Takes k) m w).2 in (ap (λ (j : ℕ). Took j) x, e ∙ ap3 (taking s) (same_move s seat c d op q (Takes n) (Takes k) m w).0 (same_move s seat c d op q (Takes n) (Takes k) m w).1 x ∙ sym e2))
one_step s seat (Took n) (Busy k h2) new other (c, op, m, free, e) (d, q, w, held2, e2) = absurd (none_some (s.holder n) h2 free (ap s.holder (takes_is n k (same_move s seat c d op q (Takes n) (Takes k) m w).2) ∙ held2))
one_step s seat (Took n) (LetGo k) new other (c, op, m, free, e) (d, q, w, e2) = (let z : Takes n ≡ Leaves k = (same_move s seat c d op q (Takes n) (Leaves k) m w).2 in cc)
one_step s seat (Took n) (Helped h2) new other (c, op, m, free, e) (d, q, t2, w, walks2, pick2, p2, is2, e2) = (let z : Takes n ≡ Finishes t2 = (same_move s seat c d op q (Takes n) (Finishes t2) m w).2 in cc)
one_step s seat (Took n) Committed new other (c, op, m, free, e) (d, q, o2, w, walks2, none2, e2) = (let z : Takes n ≡ Finishes o2 = (same_move s seat c d op q (Takes n) (Finishes o2) m w).2 in cc)
one_step s seat (Took n) CarriedOut new other (c, op, m, free, e) (d, q, o2, i2, w, placed2, e2) = (let z : Takes n ≡ Finishes o2 = (same_move s seat c d op q (Takes n) (Finishes o2) m w).2 in cc)
one_step s seat (Took n) (Returned r2) new other (c, op, m, free, e) (d, q, w, ph2, e2) = (let z : Takes n ≡ Ends = (same_move s seat c d op q (Takes n) Ends m w).2 in cc)
one_step s seat (Busy n h) Idle new other (c, op, m, held, e) (off2, e2) = absurd (none_some (s.on_seat seat) c off2 m.0)
one_step s seat (Busy n h) (Took k) new other (c, op, m, held, e) (d, q, w, free2, e2) = absurd (none_some (s.holder n) h (ap s.holder (takes_is n k (same_move s seat c d op q (Takes n) (Takes k) m w).2) ∙ free2) held)
one_step s seat (Busy n h) (Busy k h2) new other (c, op, m, held, e) (d, q, w, held2, e2) = (let x : n ≡ k = takes_is n k (same_move s seat c d op q (Takes n) (Takes k) m w).2 in let y : h ≡ h2 = number_is h h2 (sym held ∙ ap s.holder x ∙ held2) in (ap₂ (λ (i j : ℕ). Busy i j) x y, e ∙ sym e2))
one_step s seat (Busy n h) (LetGo k) new other (c, op, m, held, e) (d, q, w, e2) = (let z : Takes n ≡ Leaves k = (same_move s seat c d op q (Takes n) (Leaves k) m w).2 in cc)
one_step s seat (Busy n h) (Helped h2) new other (c, op, m, held, e) (d, q, t2, w, walks2, pick2, p2, is2, e2) = (let z : Takes n ≡ Finishes t2 = (same_move s seat c d op q (Takes n) (Finishes t2) m w).2 in cc)
one_step s seat (Busy n h) Committed new other (c, op, m, held, e) (d, q, o2, w, walks2, none2, e2) = (let z : Takes n ≡ Finishes o2 = (same_move s seat c d op q (Takes n) (Finishes o2) m w).2 in cc)
one_step s seat (Busy n h) CarriedOut new other (c, op, m, held, e) (d, q, o2, i2, w, placed2, e2) = (let z : Takes n ≡ Finishes o2 = (same_move s seat c d op q (Takes n) (Finishes o2) m w).2 in cc)
one_step s seat (Busy n h) (Returned r2) new other (c, op, m, held, e) (d, q, w, ph2, e2) = (let z : Takes n ≡ Ends = (same_move s seat c d op q (Takes n) Ends m w).2 in cc)
one_step s seat (LetGo n) Idle new other (c, op, m, e) (off2, e2) = absurd (none_some (s.on_seat seat) c off2 m.0)
one_step s seat (LetGo n) (Took k) new other (c, op, m, e) (d, q, w, free2, e2) = (let z : Leaves n ≡ Takes k = (same_move s seat c d op q (Leaves n) (Takes k) m w).2 in cc)
one_step s seat (LetGo n) (Busy k h2) new other (c, op, m, e) (d, q, w, held2, e2) = (let z : Leaves n ≡ Takes k = (same_move s seat c d op q (Leaves n) (Takes k) m w).2 in cc)
one_step s seat (LetGo n) (LetGo k) new other (c, op, m, e) (d, q, w, e2) = (let x : n ≡ k = leaves_is n k (same_move s seat c d op q (Leaves n) (Leaves k) m w).2 in (ap (λ (j : ℕ). LetGo j) x, e ∙ ap3 (letting_go s) (same_move s seat c d op q (Leaves n) (Leaves k) m w).0 (same_move s seat c d op q (Leaves n) (Leaves k) m w).1 x ∙ sym e2))
one_step s seat (LetGo n) (Helped h2) new other (c, op, m, e) (d, q, t2, w, walks2, pick2, p2, is2, e2) = (let z : Leaves n ≡ Finishes t2 = (same_move s seat c d op q (Leaves n) (Finishes t2) m w).2 in cc)
one_step s seat (LetGo n) Committed new other (c, op, m, e) (d, q, o2, w, walks2, none2, e2) = (let z : Leaves n ≡ Finishes o2 = (same_move s seat c d op q (Leaves n) (Finishes o2) m w).2 in cc)
one_step s seat (LetGo n) CarriedOut new other (c, op, m, e) (d, q, o2, i2, w, placed2, e2) = (let z : Leaves n ≡ Finishes o2 = (same_move s seat c d op q (Leaves n) (Finishes o2) m w).2 in cc)
one_step s seat (LetGo n) (Returned r2) new other (c, op, m, e) (d, q, w, ph2, e2) = (let z : Leaves n ≡ Ends = (same_move s seat c d op q (Leaves n) Ends m w).2 in cc)
one_step s seat (Helped h) Idle new other (c, op, t, m, walks, pick, p, is, e) (off2, e2) = absurd (none_some (s.on_seat seat) c off2 m.0)
one_step s seat (Helped h) (Took k) new other (c, op, t, m, walks, pick, p, is, e) (d, q, w, free2, e2) = (let z : Finishes t ≡ Takes k = (same_move s seat c d op q (Finishes t) (Takes k) m w).2 in cc)
one_step s seat (Helped h) (Busy k h2) new other (c, op, t, m, walks, pick, p, is, e) (d, q, w, held2, e2) = (let z : Finishes t ≡ Takes k = (same_move s seat c d op q (Finishes t) (Takes k) m w).2 in cc)
one_step s seat (Helped h) (LetGo k) new other (c, op, t, m, walks, pick, p, is, e) (d, q, w, e2) = (let z : Finishes t ≡ Leaves k = (same_move s seat c d op q (Finishes t) (Leaves k) m w).2 in cc)
one_step s seat (Helped h) (Helped h2) new other (c, op, t, m, walks, pick, p, is, e) (d, q, t2, w, walks2, pick2, p2, is2, e2) = (let x : t ≡ t2 = finishes_is t t2 (same_move s seat c d op q (Finishes t) (Finishes t2) m w).2 in let y : h ≡ h2 = one_chosen s t2 h h2 (subst (λ (j : Moved). IsChosen s j h) x pick) pick2 in (ap (λ (j : ℕ). Helped j) y, e ∙ ap₂ (helping s) y (record_is p p2 (sym is ∙ ap s.ops y ∙ is2)) ∙ sym e2))
one_step s seat (Helped h) Committed new other (c, op, t, m, walks, pick, p, is, e) (d, q, o2, w, walks2, none2, e2) = absurd ((subst (NoneBelow s) (sym (finishes_is t o2 (same_move s seat c d op q (Finishes t) (Finishes o2) m w).2)) none2) h pick.0.0)
one_step s seat (Helped h) CarriedOut new other (c, op, t, m, walks, pick, p, is, e) (d, q, o2, i2, w, placed2, e2) = (let z : ◌≡◌ {A = Phase} Walking (Placed i2) = sym walks ∙ ap (λ (y : Record). y.phase) (same_move s seat c d op q (Finishes t) (Finishes o2) m w).1 ∙ placed2 in cc)
one_step s seat (Helped h) (Returned r2) new other (c, op, t, m, walks, pick, p, is, e) (d, q, w, ph2, e2) = (let z : Finishes t ≡ Ends = (same_move s seat c d op q (Finishes t) Ends m w).2 in cc)
one_step s seat Committed Idle new other (c, op, o, m, walks, none, e) (off2, e2) = absurd (none_some (s.on_seat seat) c off2 m.0)
one_step s seat Committed (Took k) new other (c, op, o, m, walks, none, e) (d, q, w, free2, e2) = (let z : Finishes o ≡ Takes k = (same_move s seat c d op q (Finishes o) (Takes k) m w).2 in cc)
one_step s seat Committed (Busy k h2) new other (c, op, o, m, walks, none, e) (d, q, w, held2, e2) = (let z : Finishes o ≡ Takes k = (same_move s seat c d op q (Finishes o) (Takes k) m w).2 in cc)
one_step s seat Committed (LetGo k) new other (c, op, o, m, walks, none, e) (d, q, w, e2) = (let z : Finishes o ≡ Leaves k = (same_move s seat c d op q (Finishes o) (Leaves k) m w).2 in cc)
one_step s seat Committed (Helped h2) new other (c, op, o, m, walks, none, e) (d, q, t2, w, walks2, pick2, p2, is2, e2) = absurd ((subst (NoneBelow s) (finishes_is o t2 (same_move s seat c d op q (Finishes o) (Finishes t2) m w).2) none) h2 pick2.0.0)
one_step s seat Committed Committed new other (c, op, o, m, walks, none, e) (d, q, o2, w, walks2, none2, e2) = (refl, e ∙ ap₂ (committing s) (same_move s seat c d op q (Finishes o) (Finishes o2) m w).0 (same_move s seat c d op q (Finishes o) (Finishes o2) m w).1 ∙ sym e2)
one_step s seat Committed CarriedOut new other (c, op, o, m, walks, none, e) (d, q, o2, i2, w, placed2, e2) = (let z : ◌≡◌ {A = Phase} Walking (Placed i2) = sym walks ∙ ap (λ (y : Record). y.phase) (same_move s seat c d op q (Finishes o) (Finishes o2) m w).1 ∙ placed2 in cc)
one_step s seat Committed (Returned r2) new other (c, op, o, m, walks, none, e) (d, q, w, ph2, e2) = (let z : Finishes o ≡ Ends = (same_move s seat c d op q (Finishes o) Ends m w).2 in cc)
one_step s seat CarriedOut Idle new other (c, op, o, i, m, placed, e) (off2, e2) = absurd (none_some (s.on_seat seat) c off2 m.0)
one_step s seat CarriedOut (Took k) new other (c, op, o, i, m, placed, e) (d, q, w, free2, e2) = (let z : Finishes o ≡ Takes k = (same_move s seat c d op q (Finishes o) (Takes k) m w).2 in cc)
one_step s seat CarriedOut (Busy k h2) new other (c, op, o, i, m, placed, e) (d, q, w, held2, e2) = (let z : Finishes o ≡ Takes k = (same_move s seat c d op q (Finishes o) (Takes k) m w).2 in cc)
one_step s seat CarriedOut (LetGo k) new other (c, op, o, i, m, placed, e) (d, q, w, e2) = (let z : Finishes o ≡ Leaves k = (same_move s seat c d op q (Finishes o) (Leaves k) m w).2 in cc)
one_step s seat CarriedOut (Helped h2) new other (c, op, o, i, m, placed, e) (d, q, t2, w, walks2, pick2, p2, is2, e2) = (let z : ◌≡◌ {A = Phase} (Placed i) Walking = sym placed ∙ ap (λ (y : Record). y.phase) (same_move s seat c d op q (Finishes o) (Finishes t2) m w).1 ∙ walks2 in cc)
one_step s seat CarriedOut Committed new other (c, op, o, i, m, placed, e) (d, q, o2, w, walks2, none2, e2) = (let z : ◌≡◌ {A = Phase} (Placed i) Walking = sym placed ∙ ap (λ (y : Record). y.phase) (same_move s seat c d op q (Finishes o) (Finishes o2) m w).1 ∙ walks2 in cc)
one_step s seat CarriedOut CarriedOut new other (c, op, o, i, m, placed, e) (d, q, o2, i2, w, placed2, e2) = (refl, e ∙ ap₂ (carrying s) (same_move s seat c d op q (Finishes o) (Finishes o2) m w).0 (same_move s seat c d op q (Finishes o) (Finishes o2) m w).1 ∙ sym e2)
one_step s seat CarriedOut (Returned r2) new other (c, op, o, i, m, placed, e) (d, q, w, ph2, e2) = (let z : Finishes o ≡ Ends = (same_move s seat c d op q (Finishes o) Ends m w).2 in cc)
one_step s seat (Returned r) Idle new other (c, op, m, ph, e) (off2, e2) = absurd (none_some (s.on_seat seat) c off2 m.0)
one_step s seat (Returned r) (Took k) new other (c, op, m, ph, e) (d, q, w, free2, e2) = (let z : Ends ≡ Takes k = (same_move s seat c d op q Ends (Takes k) m w).2 in cc)
one_step s seat (Returned r) (Busy k h2) new other (c, op, m, ph, e) (d, q, w, held2, e2) = (let z : Ends ≡ Takes k = (same_move s seat c d op q Ends (Takes k) m w).2 in cc)
one_step s seat (Returned r) (LetGo k) new other (c, op, m, ph, e) (d, q, w, e2) = (let z : Ends ≡ Leaves k = (same_move s seat c d op q Ends (Leaves k) m w).2 in cc)
one_step s seat (Returned r) (Helped h2) new other (c, op, m, ph, e) (d, q, t2, w, walks2, pick2, p2, is2, e2) = (let z : Ends ≡ Finishes t2 = (same_move s seat c d op q Ends (Finishes t2) m w).2 in cc)
one_step s seat (Returned r) Committed new other (c, op, m, ph, e) (d, q, o2, w, walks2, none2, e2) = (let z : Ends ≡ Finishes o2 = (same_move s seat c d op q Ends (Finishes o2) m w).2 in cc)
one_step s seat (Returned r) CarriedOut new other (c, op, m, ph, e) (d, q, o2, i2, w, placed2, e2) = (let z : Ends ≡ Finishes o2 = (same_move s seat c d op q Ends (Finishes o2) m w).2 in cc)
one_step s seat (Returned r) (Returned r2) new other (c, op, m, ph, e) (d, q, w, ph2, e2) = (let x : r ≡ r2 = reply_is r r2 (sym ph ∙ ap (λ (y : Record). y.phase) (same_move s seat c d op q Ends Ends m w).1 ∙ ph2) in (ap (λ (j : Reply). Returned j) x, e ∙ ap3 (returning s) (same_move s seat c d op q Ends Ends m w).0 (same_move s seat c d op q Ends Ends m w).1 x ∙ sym e2))
