-- Below a call that was helped stands no walking call.
use Rattle.std.proofs.Common.{◌≡◌, ℕ, Bool, true, false, cond, eqb, Option, Some, refl, sym, ap, ◌∙◌, subst, arith}
use Rattle.fs_calls.specs.Graphs.{set_at}
use Rattle.fs_timeline.specs.Timeline.{commit_count}
use Rattle.fs_machine.specs.Laws.{HelpsTheLowest}
use Rattle.fs_machine.specs.Records.{Phase, Walking, Placed, Record, Records}
use Rattle.fs_machine.specs.States.{State, IsWalkingBelow, helping}

-- the records after a help: the one that was helped has its place, and each other is as it was
data Helped (ops : Records) (d place : ℕ) (q : Record) (e : ℕ) (op : Record) : Type 0 where
  Itself : d ≡ e → op ≡ record q { phase = Placed place } → Helped ops d place q e op
  Another : (d ≡ e → ⊥) → ops e ≡ Some op → Helped ops d place q e op

record_is : (a b : Record) → ◌≡◌ {A = Option Record} (Some a) (Some b) → a ≡ b
record_is a b e = cc

equal : (a b : ℕ) → eqb a b ≡ true → a ≡ b
equal a b e = grind arith

unequal : (a b : ℕ) → eqb a b ≡ false → b ≡ a → ⊥
unequal a b e f = grind arith

which : (ops : Records) (d place : ℕ) (q : Record) (e : ℕ) (op : Record) → set_at d (Some (record q { phase = Placed place })) ops e ≡ Some op → Helped ops d place q e op
which ops d place q e op is = go (eqb e d) refl
  where
    put : Record
    put = record q { phase = Placed place }

    go : (b : Bool) → eqb e d ≡ b → Helped ops d place q e op
    go true i = Itself (sym (equal e d i)) (record_is op put (sym is ∙ ap (λ (x : Bool). cond x (Some put) (ops e)) i))
    go false i = Another (unequal e d i) (sym (ap (λ (x : Bool). cond x (Some put) (ops e)) i) ∙ is)

pub helps_lowest : (s : State) → HelpsTheLowest s
helps_lowest s seat d e new op st (c, mover, t, m, walks, pick, q, is, same) now on below =
    by (which s.ops d (commit_count s.timeline) q d op (ap (λ (x : State). x.ops d) (sym same) ∙ now))
  where
    below_then : IsWalkingBelow (helping s d q) st.node e
    below_then = subst (λ (x : State). IsWalkingBelow x st.node e) same below

    other : q.holdings ≡ Some st → Helped s.ops d (commit_count s.timeline) q e below_then.0 → ⊥
    other stands (Itself i j) = let z : ◌≡◌ {A = Phase} Walking (Placed (commit_count s.timeline)) = sym below_then.2 ∙ ap (λ (x : Record). x.phase) j in cc
    other stands (Another h j) = pick.0.1 q st e is stands h (below_then.0, j, below_then.2, below_then.3)

    by : Helped s.ops d (commit_count s.timeline) q d op → ⊥
    by (Another h j) = h refl
    by (Itself i j) = other (sym (ap (λ (x : Record). x.holdings) j) ∙ on) (which s.ops d (commit_count s.timeline) q e below_then.0 below_then.1)
