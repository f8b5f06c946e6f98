-- A take keeps what every state keeps.
use Rattle.std.proofs.Common.{◌≡◌, ℕ, Bool, true, false, cond, [], ◌∷◌, ◌++◌, Option, Some, None, refl, sym, ap, ap₂, ◌∙◌, append_assoc, subst, ◌⊎◌, inl, inr}
use Rattle.fs_names.specs.Keys.{Key, after_prefix, parent_of}
use Rattle.fs_names.specs.Names.{Name, same_name}
use Rattle.fs_names.specs.Parts.{common, left}
use Rattle.fs_names.specs.Shapes.{Shape, Dir, File}
use Rattle.fs_names.specs.declared.limits.Limits.{Limits}
use Rattle.fs_calls.specs.Forms.{form, NodeCall, Form, AtNode, AtEntry, AtPair, by_text, under, Fits, by_paths, PairCall, EntryCall}
use Rattle.fs_calls.specs.declared.errno.Errno.{Errno}
use Rattle.fs_calls.specs.declared.reply.Reply.{Reply}
use Rattle.fs_calls.proofs.FormLemmas.{by_text_any}
use Rattle.fs_calls.specs.Graphs.{Graph, at, numbers, set_at}
use Rattle.fs_machine.specs.Moves.{next, next_by, next_on, first_of, step_move, walk_move, target, inner, took, took_by}
use Rattle.fs_machine.specs.declared.moves.Move.{Move}
use Rattle.fs_machine.specs.declared.moves.Move.TheVariants.{Take as Takes}
use Rattle.fs_machine.specs.Records.{Phase, Walking, Placed, Finished, Holds, Record, Holdings, holdings_at, Head, Side, of_side}
use Rattle.fs_laws.specs.Invariants.{ForkedAt, HeadsSound, NumberFor, VictimAt, HasSpare, IsSingle, IsUnfinished, Own, Invariant, limits_of}
use Rattle.fs_laws.specs.CallFacts.{IsFree, Keeps, CallFacts}
use Rattle.fs_machine.specs.States.{State, taking}
use Rattle.fs_laws.proofs.trees.Prefixes.{same_true, same_refl}
use Rattle.fs_laws.proofs.graphs.Walks.{at_child}
use Rattle.fs_laws.proofs.events.OneCallChanged.{Place, Here, Else, place, kept_take, takes_walk}
use Rattle.fs_laws.proofs.events.OtherChanges.{kept_root}
use Rattle.fs_laws.proofs.events.JustFinished.{Either, Changed, Old}
use Rattle.fs_laws.proofs.events.RecordChanged.{renewed, renews_keep}
use Rattle.fs_laws.proofs.calls.NodesHeld.{heads_at, only_at, located_at, single_at, one_holdings, none_some}
use Rattle.fs_laws.proofs.calls.Located.{below_text, pair_text}

-- a call that takes: the root first, or from where it stands
pub data TakesFrom (graph : Graph) (op : Record) (n : ℕ) : Type 0 where
  From_nowhere : by_paths op.call ≡ None → op.holdings ≡ None → 0 ≡ n → TakesFrom graph op n
  From_holdings : (st : Holdings) → op.holdings ≡ Some st → next_on graph op.remaining st ≡ Takes n → TakesFrom graph op n

pub takes_from : (graph : Graph) (op : Record) (n : ℕ) → next graph op ≡ Takes n → TakesFrom graph op n × IsUnfinished op
takes_from graph op n m = go op.phase (by_paths op.call) op.holdings refl refl refl m
  where
    walking : (p : Phase) → op.phase ≡ p → ((r : Reply) → p ≡ Finished r → ⊥) → IsUnfinished op
    walking p i f r e = f r (sym i ∙ e)

    go : (p : Phase) (e : Option Errno) (s : Option Holdings) → op.phase ≡ p → by_paths op.call ≡ e → op.holdings ≡ s → next_by graph op e p s ≡ Takes n → TakesFrom graph op n × IsUnfinished op
    go (Finished r) e None h i j f = cc
    go (Finished r) e (Some st) h i j f = cc
    go Walking (Some e) s h i j f = cc
    go (Placed k) (Some e) s h i j f = cc
    go Walking None None h i j f = (From_nowhere i j (let z : 0 ≡ n = cc in z), walking Walking h (λ r e. cc))
    go (Placed k) None None h i j f = (From_nowhere i j (let z : 0 ≡ n = cc in z), walking (Placed k) h (λ r e. cc))
    go Walking None (Some st) h i j f = (From_holdings st j f, walking Walking h (λ r e. cc))
    go (Placed k) None (Some st) h i j f = (From_holdings st j f, walking (Placed k) h (λ r e. cc))

-- a call that stands at one node stands well, and has no victim
pub fresh_well : (graph : Graph) (n : ℕ) (behind : Option ℕ) (remaining : Form) → HeadsSound graph n remaining (holdings_at n behind)
fresh_well graph n behind (AtNode c p) = tt
fresh_well graph n behind (AtEntry c p) = tt
fresh_well graph n behind (AtPair c p q) = go (common (parent_of p) (parent_of q))
  where
    go : (l : Key) → ForkedAt graph n p q (holdings_at n behind) l
    go [] = record {
      stands = heads_at (λ (side : Side) (h : Head). at graph.child n h.walked ≡ Some h.node) n behind (λ side. refl);
      path = heads_at (λ (side : Side) (h : Head). parent_of (of_side side p q) ≡ h.walked ++ left h.walked (parent_of (of_side side p q))) n behind (λ side. refl);
    }
    go (x ∷ l) = tt

pub fresh_victim : (graph : Graph) (n : ℕ) (behind : Option ℕ) (remaining : Form) → VictimAt graph remaining (holdings_at n behind)
fresh_victim graph n behind (AtNode c p) = tt
fresh_victim graph n behind (AtEntry c p) = λ v e. cc
fresh_victim graph n behind (AtPair c p q) = λ v e. cc

-- what every take shares
pub record Taker (old : State) (inv : Invariant old) (c : ℕ) (op : Record) (n : ℕ) : Type 0 where
  pub is : old.ops c ≡ Some op
  pub unfinished : IsUnfinished op
  pub free : old.holder n ≡ None

pub is_free : (old : State) (inv : Invariant old) (n : ℕ) → old.holder n ≡ None → IsFree old.ops n
is_free old inv n free d q other e f h = let z : ◌≡◌ {A = Option ℕ} None (Some d) = sym free ∙ inv.held d q other n e f h in cc

-- the state after a take, by what its record keeps
pub take_keeps : (old : State) (inv : Invariant old) (c : ℕ) (op v : Record) (n : ℕ) (k : Key) → Taker old inv c op n
    → v.seat ≡ op.seat → v.call ≡ op.call → v.phase ≡ op.phase → v.reserved ≡ op.reserved → v.removed ≡ op.removed
    → CallFacts (numbers old.graph) (set_at c (Some v) old.ops) (set_at c k inv.key)
    → ((i : ℕ) → op.phase ≡ Placed i → under k v.remaining ≡ under (inv.key c) op.remaining)
    → Own (limits_of old) old.graph v
    → ((st : Holdings) (q : ℕ) → v.holdings ≡ Some st → Holds st q → (q ≡ n) ⊎ (old.holder q ≡ Some c))
    → Invariant (renewed old c v old.graph (set_at n (Some c) old.holder))
take_keeps old inv c op v n k t seat call phase reserved removed kept same own holds = renews_keep old inv c op v old.graph (set_at n (Some c) old.holder) k (record {
  is = t.is;
  seat = seat;
  call = call;
  phase = phase;
  is_graph = inv.is_graph;
  kept = kept;
  spelled = refl;
  under_same = same;
  own = own;
  own_other = λ d q m e. inv.own d q e;
  held = held;
  spares = spares;
})
  where
    spares : (m : ℕ) → HasSpare v m → HasSpare op m
    spares m (inl e) = inl (sym reserved ∙ e)
    spares m (inr e) = inr (sym removed ∙ e)

    new_holder : (d q : ℕ) → old.holder q ≡ Some d → set_at n (Some c) old.holder q ≡ Some d
    new_holder d q e = go (place n (Some c) old.holder q)
      where
        go : Place (Option ℕ) n (Some c) old.holder q → set_at n (Some c) old.holder q ≡ Some d
        go (Here i j) = let z : ◌≡◌ {A = Option ℕ} None (Some d) = sym t.free ∙ ap old.holder (sym i) ∙ e in cc
        go (Else m j) = j ∙ e

    taken : (q : ℕ) → q ≡ n → set_at n (Some c) old.holder q ≡ Some c
    taken q e = go (place n (Some c) old.holder q)
      where
        go : Place (Option ℕ) n (Some c) old.holder q → set_at n (Some c) old.holder q ≡ Some c
        go (Here i j) = j
        go (Else m j) = absurd (m e)

    held : (d : ℕ) (q : Record) (st : Holdings) (m : ℕ) → Either old.ops c v d q → q.holdings ≡ Some st → Holds st m → set_at n (Some c) old.holder m ≡ Some d
    held d q st m (Changed e g) f h = by (holds st m (ap (λ (o : Record). o.holdings) g ∙ f) h)
      where
        by : (m ≡ n) ⊎ (old.holder m ≡ Some c) → set_at n (Some c) old.holder m ≡ Some d
        by (inl i) = taken m i ∙ ap (λ (x : ℕ). Some x) (sym e)
        by (inr i) = new_holder c m i ∙ ap (λ (x : ℕ). Some x) (sym e)
    held d q st m (Old k e) f h = new_holder d m (inv.held d q st m e f h)

-- what a record keeps that now stands at one node
own_fresh : (limits : Limits) (graph : Graph) (op v : Record) (n : ℕ) (behind : Option ℕ) → Own limits graph op → IsUnfinished op → v.phase ≡ op.phase → v.reserved ≡ op.reserved → v.removed ≡ op.removed → v.call ≡ op.call → v.holdings ≡ Some (holdings_at n behind)
    → under v.walked v.remaining ≡ form limits op.call → (NumberFor graph op.remaining op.reserved → NumberFor graph v.remaining op.reserved) → (behind ≡ Some n → ⊥) → Own limits graph v
own_fresh limits graph op v n behind o unf phase reserved removed call on parts number differs = record {
  parts = parts ∙ ap (form limits) (sym call);
  well = λ st e. subst (λ (s : Holdings). HeadsSound graph s.node v.remaining s) (one_holdings on e) (fresh_well graph n behind v.remaining);
  spare = λ m e. o.spare m (sym reserved ∙ e);
  number = λ u f. subst (NumberFor graph v.remaining) (sym reserved) (number (o.number unf (ap by_paths (sym call) ∙ f)));
  placed = λ i e. (holdings_at n behind, on);
  gone = λ m e. none_some op.removed m (o.intact unf) (sym removed ∙ e);
  intact = λ u. removed ∙ o.intact unf;
  one_spare = λ m e f. o.one_spare m (sym reserved ∙ e) (sym removed ∙ f);
  victim = λ u st e. subst (λ (s : Holdings). VictimAt graph v.remaining s) (one_holdings on e) (fresh_victim graph n behind v.remaining);
  starts = λ u e. (let z : ◌≡◌ {A = Option Holdings} None (Some (holdings_at n behind)) = sym e ∙ on in cc);
  single = λ st e. subst IsSingle (one_holdings on e) (single_at n behind differs);
}

pub under_nil : (call : Form) → under [] call ≡ call
under_nil (AtNode c p) = refl
under_nil (AtEntry c p) = refl
under_nil (AtPair c p q) = refl

-- the root
pub take_root : (old : State) (inv : Invariant old) (c : ℕ) (op : Record) (n : ℕ) → Taker old inv c op n → by_paths op.call ≡ None → op.holdings ≡ None → 0 ≡ n → Invariant (taking old c op n)
take_root old inv c op n t text off at_root = subst (λ (v : Record). Invariant (renewed old c v old.graph (set_at n (Some c) old.holder))) (sym took_is)
    (take_keeps old inv c op (record op { holdings = Some (holdings_at n None) }) n [] t refl refl refl refl refl kept (λ i e. absurd (not_placed i e)) own holds)
  where
    o : Own (limits_of old) old.graph op
    o = inv.own c op t.is

    took_is : took op n ≡ record op { holdings = Some (holdings_at n None) }
    took_is = ap (λ (s : Option Holdings). took_by op s (target op.remaining) n) off

    not_placed : (i : ℕ) → op.phase ≡ Placed i → ⊥
    not_placed i e = let p : (st : Holdings) × (op.holdings ≡ Some st) = o.placed i e in let z : ◌≡◌ {A = Option Holdings} None (Some p.0) = sym off ∙ p.1 in cc

    walks : op.phase ≡ Walking
    walks = go op.phase refl
      where
        go : (p : Phase) → op.phase ≡ p → op.phase ≡ Walking
        go Walking i = i
        go (Placed k) i = absurd (not_placed k i)
        go (Finished r) i = absurd (t.unfinished r i)

    walked : op.walked ≡ []
    walked = o.starts t.unfinished off

    fits : Fits op.remaining
    fits = ap by_text (sym (under_nil op.remaining) ∙ ap (λ (k : Key). under k op.remaining) (sym walked) ∙ o.parts) ∙ by_text_any (limits_of old) op.call ∙ text

    kept : CallFacts (numbers old.graph) (set_at c (Some (record op { holdings = Some (holdings_at n None) })) old.ops) (set_at c [] inv.key)
    kept = kept_root (numbers old.graph) old.ops inv.key c op (record op { holdings = Some (holdings_at n None) }) n inv.kept t.is walks walks walked fits refl (ap (λ (m : ℕ). Some m) at_root) (is_free old inv n t.free)

    own : Own (limits_of old) old.graph (record op { holdings = Some (holdings_at n None) })
    own = own_fresh (limits_of old) old.graph op (record op { holdings = Some (holdings_at n None) }) n None o t.unfinished refl refl refl refl refl o.parts (λ x. x) (λ e. cc)

    holds : (st : Holdings) (q : ℕ) → ◌≡◌ {A = Option Holdings} (Some (holdings_at n None)) (Some st) → Holds st q → (q ≡ n) ⊎ (old.holder q ≡ Some c)
    holds st q e h = let z : holdings_at n None ≡ st = cc in inl (only_at n q (subst (λ (s : Holdings). Holds s q) (sym z) h))

-- one name on, the call is the same
pub record Inner (k x : Key) (rem : Form) : Type 0 where
  pub fits : Fits rem → Fits (inner rem)
  pub same : under (k ++ x) (inner rem) ≡ under k rem

-- paths with the same first name are in the same relation without it
pair_inner : (c : PairCall) (y z : Name) (p : Key) (w u : Name) (q : Key) → same_name y w ≡ true → Fits (AtPair c (y ∷ z ∷ p) (w ∷ u ∷ q)) → Fits (AtPair c (z ∷ p) (u ∷ q))
pair_inner c y z p w u q i g =
    let j : same_name w y ≡ true = rw (same_true y w i) (same_refl w) in
    below_text c (z ∷ p) (u ∷ q) tt tt
    ∙ sym (ap₂ (λ (a b : Bool). pair_text c (cond a (after_prefix (z ∷ p) (u ∷ q)) None) (cond b (after_prefix (u ∷ q) (z ∷ p)) None)) i j)
    ∙ sym (below_text c (y ∷ z ∷ p) (w ∷ u ∷ q) tt tt)
    ∙ g

pub inner_on : (k : Key) (x : Name) (l : Key) (rem : Form) → target rem ≡ x ∷ l → Inner k (x ∷ []) rem
inner_on k x l (AtNode c []) e = cc
inner_on k x l (AtNode c (y ∷ p)) e = let z : y ≡ x = cc in record { fits = λ f. refl; same = append_step c k x y p z }
  where
    append_step : (c : NodeCall) (k : Key) (x y : Name) (p : Key) → y ≡ x → AtNode c ((k ++ x ∷ []) ++ p) ≡ AtNode c (k ++ y ∷ p)
    append_step c k x y p z = ap (λ (l : Key). AtNode c l) (append_assoc k (x ∷ []) p ∙ ap (λ (n : Name). k ++ n ∷ p) (sym z))
inner_on k x l (AtEntry c []) e = cc
inner_on k x l (AtEntry c (y ∷ [])) e = cc
inner_on k x l (AtEntry c (y ∷ z ∷ p)) e = let i : y ≡ x = cc in record { fits = λ f. refl; same = append_step c k x y (z ∷ p) i }
  where
    append_step : (c : EntryCall) (k : Key) (x y : Name) (p : Key) → y ≡ x → AtEntry c ((k ++ x ∷ []) ++ p) ≡ AtEntry c (k ++ y ∷ p)
    append_step c k x y p z = ap (λ (l : Key). AtEntry c l) (append_assoc k (x ∷ []) p ∙ ap (λ (n : Name). k ++ n ∷ p) (sym z))
inner_on k x l (AtPair c [] q) e = cc
inner_on k x l (AtPair c (y ∷ []) q) e = cc
inner_on k x l (AtPair c (y ∷ z ∷ p) []) e = cc
inner_on k x l (AtPair c (y ∷ z ∷ p) (w ∷ [])) e = cc
inner_on k x l (AtPair c (y ∷ z ∷ p) (w ∷ u ∷ q)) e = go (same_name y w) refl e
  where
    append_step : (k : Key) (x y : Name) (p : Key) → y ≡ x → (k ++ x ∷ []) ++ p ≡ k ++ y ∷ p
    append_step k x y p z = append_assoc k (x ∷ []) p ∙ ap (λ (n : Name). k ++ n ∷ p) (sym z)

    go : (b : Bool) → same_name y w ≡ b → cond b (y ∷ common (parent_of (z ∷ p)) (parent_of (u ∷ q))) [] ≡ x ∷ l → Inner k (x ∷ []) (AtPair c (y ∷ z ∷ p) (w ∷ u ∷ q))
    go false i f = cc
    go true i f =
        let s : y ≡ x = cc in
        let t : y ≡ w = same_true y w i in
        record {
          fits = λ g. pair_inner c y z p w u q i g;
          same = ap₂ (AtPair c) (append_step k x y (z ∷ p) s) (append_step k x w (u ∷ q) (sym t ∙ s));
        }

pub number_inner : (graph : Graph) (rem : Form) (reserved : Option ℕ) → NumberFor graph rem reserved → NumberFor graph (inner rem) reserved
number_inner graph (AtNode c p) reserved n = n
number_inner graph (AtEntry c p) reserved n = n
number_inner graph (AtPair c p q) reserved n = n

-- a walk that takes
pub walk_takes : (s : Option Shape) (child : Option ℕ) (n : ℕ) → walk_move s child ≡ Takes n → child ≡ Some n
walk_takes None child n e = cc
walk_takes (Some (File bytes)) child n e = cc
walk_takes (Some (Dir names)) None n e = cc
walk_takes (Some (Dir names)) (Some m) n e = cc

pub step_takes : (graph : Graph) (h : ℕ) (x : Name) (l : Key) (m : Move) (n : ℕ) → first_of (step_move graph h (x ∷ l)) m ≡ Takes n → graph.child h x ≡ Some n
step_takes graph h x l m n e = walk_takes (graph.shape h) (graph.child h x) n e

-- the next node on the way to the target
pub take_walk : (old : State) (inv : Invariant old) (c : ℕ) (op : Record) (n : ℕ) (st : Holdings) (x : Name) (l : Key) → Taker old inv c op n → op.holdings ≡ Some st → target op.remaining ≡ x ∷ l → old.graph.child st.node x ≡ Some n → Invariant (taking old c op n)
take_walk old inv c op n st x l t on way child = subst (λ (v : Record). Invariant (renewed old c v old.graph (set_at n (Some c) old.holder))) (sym took_is)
    (take_keeps old inv c op v n (inv.key c ++ x ∷ []) t refl refl refl refl refl kept (λ i e. step.same) own holds)
  where
    v : Record
    v = record op { walked = op.walked ++ x ∷ []; remaining = inner op.remaining; holdings = Some (holdings_at n (Some st.node)) }

    o : Own (limits_of old) old.graph op
    o = inv.own c op t.is

    took_is : took op n ≡ record op { walked = op.walked ++ x ∷ []; remaining = inner op.remaining; holdings = Some (holdings_at n (Some st.node)) }
    took_is = ap₂ (λ (s : Option Holdings) (k : Key). took_by op s k n) on way

    k : Keeps (numbers old.graph) (inv.key c) op st
    k = inv.kept.each c op st t.is on

    step : Inner (inv.key c) (x ∷ []) op.remaining
    step = inner_on (inv.key c) x l op.remaining way

    at_n : numbers old.graph (inv.key c ++ x ∷ []) ≡ Some n
    at_n = at_child old.graph.child 0 st.node (inv.key c) x k.located.here ∙ child

    kept : CallFacts (numbers old.graph) (set_at c (Some (record op { walked = op.walked ++ x ∷ []; remaining = inner op.remaining; holdings = Some (holdings_at n (Some st.node)) })) old.ops) (set_at c (inv.key c ++ x ∷ []) inv.key)
    kept = kept_take (numbers old.graph) old.ops inv.key c op st n (inv.key c ++ x ∷ []) (holdings_at n (Some st.node)) (record op { walked = op.walked ++ x ∷ []; remaining = inner op.remaining; holdings = Some (holdings_at n (Some st.node)) }) inv.kept t.is on refl refl (is_free old inv n t.free)
        (takes_walk (numbers old.graph) (inv.key c) st x n k.located.here at_n)
        (record {
          located = located_at (numbers old.graph) (inv.key c ++ x ∷ []) n (Some st.node) at_n;
          walking = λ w. ap (λ (y : Key). y ++ x ∷ []) (k.walking w);
          fits = step.fits k.fits;
        })

    own : Own (limits_of old) old.graph (record op { walked = op.walked ++ x ∷ []; remaining = inner op.remaining; holdings = Some (holdings_at n (Some st.node)) })
    own = own_fresh (limits_of old) old.graph op (record op { walked = op.walked ++ x ∷ []; remaining = inner op.remaining; holdings = Some (holdings_at n (Some st.node)) }) n (Some st.node) o t.unfinished refl refl refl refl refl ((inner_on op.walked x l op.remaining way).same ∙ o.parts) (number_inner old.graph op.remaining op.reserved)
        (λ e. (let z : st.node ≡ n = cc in let y : ◌≡◌ {A = Option ℕ} None (Some c) = sym t.free ∙ ap old.holder (sym z) ∙ inv.held c op st st.node t.is on (inl refl) in cc))

    holds : (s : Holdings) (q : ℕ) → ◌≡◌ {A = Option Holdings} (Some (holdings_at n (Some st.node))) (Some s) → Holds s q → (q ≡ n) ⊎ (old.holder q ≡ Some c)
    holds s q e h = let z : holdings_at n (Some st.node) ≡ s = cc in by (subst (λ (y : Holdings). Holds y q) (sym z) h)
      where
        by : Holds (holdings_at n (Some st.node)) q → (q ≡ n) ⊎ (old.holder q ≡ Some c)
        by (inl i) = inl (sym i)
        by (inr (inl i)) = inr (let y : st.node ≡ q = cc in subst (λ (m : ℕ). old.holder m ≡ Some c) y (inv.held c op st st.node t.is on (inl refl)))
        by (inr (inr (inl i))) = absurd i.0
        by (inr (inr (inr (inl i)))) = absurd i.0
        by (inr (inr (inr (inr i)))) = cc
