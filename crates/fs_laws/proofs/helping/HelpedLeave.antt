-- Who walks below a node that is about to move has walked there before each event, and a helped call does no longer.
use Rattle.std.proofs.Common.{◌≡◌, ℕ, suc, ◌≤◌, length, arith, Bool, true, false, List, [], ◌∷◌, ◌++◌, Option, Some, None, refl, sym, ap, ◌∙◌, append_assoc, append-nil, subst, ◌⊎◌, inl, inr, Ok, Err}
use Rattle.fs_names.specs.Keys.{Key, last_of}
use Rattle.fs_names.specs.Names.{Name}
use Rattle.fs_names.specs.Shapes.{Shape}
use Rattle.fs_calls.specs.Forms.{reserved_by}
use Rattle.fs_calls.specs.declared.call.Call.{Call}
use Rattle.fs_calls.specs.declared.reply.Reply.{Reply}
use Rattle.fs_calls.specs.Graphs.{Graph, Children, at, numbers, set_at, reserved_in, then_at}
use Rattle.fs_machine.specs.Finishes.{finish}
use Rattle.fs_machine.specs.Leaving.{is_removed, releasing, let_go, finished_op, unreserved}
use Rattle.fs_machine.specs.Moves.{next, took, target, took_by}
use Rattle.fs_machine.specs.declared.moves.Move.TheVariants.{Take as Takes, LetGo as Leaves, Finish as Finishes}
use Rattle.fs_machine.specs.declared.moves.Moved.{Moved}
use Rattle.fs_machine.specs.Records.{Phase, Walking, Placed, Finished, Holds, Record, Holdings, holdings_at, Side, of_side, head_on}
use Rattle.fs_laws.specs.Below.{IsHolding, IsAboutToMove, Meanwhile, Now, Begins_another, Steps_another, Helps_one, EachBelow, HelpsAreFew}
use Rattle.fs_timeline.specs.Timeline.{commit_count}
use Rattle.fs_laws.specs.Invariants.{IsIn, Own, Invariant, limits_of}
use Rattle.fs_laws.specs.CallFacts.{IsAfter, Located}
use Rattle.fs_machine.specs.States.{State, Begun, Begins, Reserves, new_op, began, Step, Run, Beginning, Stepping, taking, letting_go, helping, carrying, returning, IsMoved, IsWalkingBelow, IsWalkingBelowMoved}
use Rattle.fs_machine.specs.declared.answers.Refusal.TheVariants.{SeatBusy, Full, OutOfMemory}
use Rattle.fs_machine.specs.declared.answers.Stepped.{Stepped}
use Rattle.fs_machine.specs.declared.answers.Stepped.TheVariants.{Idle, Took, Busy, LetGo, Helped, Committed, CarriedOut, Returned}
use Rattle.fs_laws.proofs.graphs.Walks.{at_child, at_from, then_some}
use Rattle.fs_laws.proofs.events.OneCallChanged.{Place, Here, Else, place}
use Rattle.fs_laws.proofs.events.TwoCalls.{Ends as Snoc, ends, ends_same}
use Rattle.fs_laws.proofs.calls.NodesHeld.{node_held, none_some, one_holdings}
use Rattle.fs_laws.proofs.events.JustFinished.{Either, Changed, Old, either}
use Rattle.fs_laws.proofs.events.LetGo.{LetsGo, On_way, At_end, Last, lets_go}
use Rattle.fs_laws.proofs.events.Take.{TakesFrom, From_nowhere, From_holdings, takes_from}
use Rattle.fs_laws.proofs.calls.Takes.{Take, Walk, There, stands, same_node, takes_by, with_holdings, walked_on}
use Rattle.fs_laws.proofs.states.Headline.{run_keeps}
use Rattle.fs_laws.proofs.helping.WhoStandsBelow.{not_below}
use Rattle.fs_laws.proofs.helping.NobodyEnters.{moved_on, side_of, ToMove, to_move, NewEntry, Same_entry, Linked, Moved_entry, finish_entries}

-- what is known of the mover of a node before an event
record Mover (s : State) (c moved : ℕ) : Type 0 where
  pub inv : Invariant s
  pub op : Record
  pub is : s.ops c ≡ Some op
  pub walks : op.phase ≡ Walking
  pub side : Side
  pub to : ToMove s.graph op side moved
  pub all : Moved
  pub move : next s.graph op ≡ Finishes all

mover : (s : State) (c : ℕ) (all : Moved) (moved : ℕ) → Run s → IsAboutToMove s c all → IsMoved all moved → Mover s c moved
mover s c all moved run (op, is, walks, m) one =
    let on : (side : Side) × (moved_on all side ≡ Some moved) = side_of all moved one in
    record { inv = run_keeps s run; op = op; is = is; walks = walks; side = on.0; to = to_move s.graph op all on.0 moved m on.1; all = all; move = m }

-- the key of the parent, and of the moved node
abbrev parent_key : (s : State) (c moved : ℕ) → Mover s c moved → Key
parent_key s c moved m = m.inv.key c ++ (head_on m.side m.to.st).walked

-- its name there
abbrev last_name : (s : State) (c moved : ℕ) → Mover s c moved → Name
last_name s c moved m = last_of (of_side m.side m.to.p m.to.q)

moved_located : (s : State) (c moved : ℕ) (m : Mover s c moved) → Located (numbers s.graph) (m.inv.key c) m.to.st
moved_located s c moved m = (m.inv.kept.each c m.op m.to.st m.is m.to.on).located

at_moved : (s : State) (c moved : ℕ) (m : Mover s c moved) → numbers s.graph (parent_key s c moved m ++ last_name s c moved m ∷ []) ≡ Some moved
at_moved s c moved m = at_child s.graph.child 0 (head_on m.side m.to.st).node (parent_key s c moved m) (last_name s c moved m) ((moved_located s c moved m).head m.side) ∙ m.to.child

at_below : (s : State) (c moved : ℕ) (m : Mover s c moved) (key : Key) (n : ℕ) → at s.graph.child moved key ≡ Some n → numbers s.graph ((parent_key s c moved m ++ last_name s c moved m ∷ []) ++ key) ≡ Some n
at_below s c moved m key n e = at_from s.graph.child 0 moved (parent_key s c moved m ++ last_name s c moved m ∷ []) key (at_moved s c moved m) ∙ e

snoc_nil : (a b : Key) (x : Name) → (a ++ x ∷ []) ++ b ≡ [] → ⊥
snoc_nil [] b x e = cc
snoc_nil (y ∷ a) b x e = cc

-- a step of the walk leads below the node from below it alone
walk_below : (s : State) (c moved : ℕ) (m : Mover s c moved) (f n : ℕ) (op : Record) (st : Holdings) (x : Name) (key : Key) → (f ≡ c → ⊥) → IsHolding s f op st → s.graph.child st.node x ≡ Some n → at s.graph.child moved key ≡ Some n → (r : Key) × (at s.graph.child moved r ≡ Some st.node)
walk_below s c moved m f n op st x key differs a child e = go key e
  where
    there : Located (numbers s.graph) (m.inv.key f) st
    there = (m.inv.kept.each f op st a.is a.on).located

    at_n : numbers s.graph (m.inv.key f ++ x ∷ []) ≡ Some n
    at_n = at_child s.graph.child 0 st.node (m.inv.key f) x there.here ∙ child

    same : (key : Key) → at s.graph.child moved key ≡ Some n → (parent_key s c moved m ++ last_name s c moved m ∷ []) ++ key ≡ m.inv.key f ++ x ∷ []
    same key e = m.inv.is_graph.one_key ((parent_key s c moved m ++ last_name s c moved m ∷ []) ++ key) (m.inv.key f ++ x ∷ []) n (at_below s c moved m key n e) at_n

    -- a call that stands at the parent would share it
    shared : m.inv.key c ++ (head_on m.side m.to.st).walked ≡ m.inv.key f → ⊥
    shared i =
        let z : ◌≡◌ {A = Option ℕ} (Some (head_on m.side m.to.st).node) (Some st.node) = sym ((moved_located s c moved m).head m.side) ∙ ap (numbers s.graph) i ∙ there.here in
        let y : (head_on m.side m.to.st).node ≡ st.node = cc in
        (m.inv.kept.pairs c f m.op op m.to.st st (λ j. differs (sym j)) m.is a.is m.to.on a.on).apart st.node (subst (Holds m.to.st) y (node_held m.side (numbers s.graph) (m.inv.key c) m.to.st (moved_located s c moved m))) (inl refl)

    go : (key : Key) → at s.graph.child moved key ≡ Some n → (r : Key) × (at s.graph.child moved r ≡ Some st.node)
    go [] e = absurd (shared (ends_same (m.inv.key c ++ (head_on m.side m.to.st).walked) (m.inv.key f) (last_name s c moved m) x (sym (append-nil (parent_key s c moved m ++ last_name s c moved m ∷ [])) ∙ same [] e)).0)
    go (y ∷ key) e =
        let d : Snoc (y ∷ key) = ends (y ∷ key) tt in
        let k : (parent_key s c moved m ++ last_name s c moved m ∷ []) ++ d.front ≡ m.inv.key f =
        (ends_same ((parent_key s c moved m ++ last_name s c moved m ∷ []) ++ d.front) (m.inv.key f) d.last x
        (append_assoc (parent_key s c moved m ++ last_name s c moved m ∷ []) d.front (d.last ∷ []) ∙ ap (λ (l : Key). (parent_key s c moved m ++ last_name s c moved m ∷ []) ++ l) (sym d.is) ∙ same (y ∷ key) e)).0 in
        (d.front, sym (at_from s.graph.child 0 moved (parent_key s c moved m ++ last_name s c moved m ∷ []) d.front (at_moved s c moved m)) ∙ ap (numbers s.graph) k ∙ there.here)

-- the root is not below it
root_not_below : (s : State) (c moved : ℕ) (m : Mover s c moved) (key : Key) (n : ℕ) → 0 ≡ n → at s.graph.child moved key ≡ Some n → ⊥
root_not_below s c moved m key n z e = snoc_nil (parent_key s c moved m) key (last_name s c moved m) (m.inv.is_graph.one_key ((parent_key s c moved m ++ last_name s c moved m ∷ []) ++ key) [] n (at_below s c moved m key n e) (ap (λ (x : ℕ). Some x) z))

-- a take
took_outside : (s : State) (c moved : ℕ) (m : Mover s c moved) (f n : ℕ) (op : Record) → s.ops f ≡ Some op → next s.graph op ≡ Takes n → (d : ℕ) → IsWalkingBelow (taking s f op n) moved d → IsWalkingBelow s moved d
took_outside s c moved m f n op is move d (q, q_is, walks, (st, key, on, e)) = go (either s.ops f (took op n) d q q_is)
  where
    not_mover : f ≡ c → ⊥
    not_mover i =
        let a : ◌≡◌ {A = Option Record} (Some op) (Some m.op) = sym is ∙ ap s.ops i ∙ m.is in
        let b : op ≡ m.op = cc in
        let z : Takes n ≡ Finishes m.all = sym move ∙ ap (next s.graph) b ∙ m.move in cc

    -- where it stood
    from : (before : Holdings) (v : Record) → took op n ≡ v → v.phase ≡ op.phase → op.holdings ≡ Some before → (r : Key) × (at s.graph.child moved r ≡ Some before.node) → d ≡ f → took op n ≡ q → IsWalkingBelow s moved d
    from before v v_is ph on_before r i j = (op, ap s.ops i ∙ is, sym ph ∙ ap (λ (o : Record). o.phase) (sym v_is ∙ j) ∙ walks, (before, r.0, on_before, r.1))

    at_new : (v : Record) (new : Holdings) → took op n ≡ v → v.holdings ≡ Some new → took op n ≡ q → new ≡ st
    at_new v new v_is on_v j = one_holdings on_v (ap (λ (o : Record). o.holdings) (sym v_is ∙ j) ∙ on)

    here : (before new : Holdings) (v : Record) → took op n ≡ v → v.phase ≡ op.phase → v.holdings ≡ Some new → new.node ≡ before.node → op.holdings ≡ Some before → d ≡ f → took op n ≡ q → IsWalkingBelow s moved d
    here before new v v_is ph on_v same on_before i j = from before v v_is ph on_before (key, e ∙ ap (λ (x : Holdings). Some x.node) (sym (at_new v new v_is on_v j)) ∙ ap (λ (x : ℕ). Some x) same) i j

    by : (before : Holdings) → op.holdings ≡ Some before → Take s.graph op n before → d ≡ f → took op n ≡ q → IsWalkingBelow s moved d
    by before on_b (Walk x l way b child t) i j =
        let new : Holdings = holdings_at n (Some before.node) in
        let at_n : at s.graph.child moved key ≡ Some n = e ∙ ap (λ (z : Holdings). Some z.node) (sym (at_new (walked_on op before x n) (holdings_at n (Some before.node)) t refl j)) in
        from before (walked_on op before x n) t refl on_b (walk_below s c moved m f n op before x key not_mover (record { is = is; on = on_b }) child at_n) i j
    by before on_b (There at_target b t) i j = here before (stands at_target) (with_holdings op (stands at_target)) t refl refl (same_node at_target) on_b i j

    taken : TakesFrom s.graph op n → d ≡ f → took op n ≡ q → IsWalkingBelow s moved d
    taken (From_nowhere text off z) i j =
        let v : took op n ≡ record op { holdings = Some (holdings_at n None) } = ap (λ (o : Option Holdings). took_by op o (target op.remaining) n) off in
        absurd (root_not_below s c moved m key st.node (z ∙ ap (λ (x : Holdings). x.node) (at_new (record op { holdings = Some (holdings_at n None) }) (holdings_at n None) v refl j)) e)
    taken (From_holdings before on_b t) i j = by before on_b (takes_by s.graph op n before on_b t) i j

    go : Either s.ops f (took op n) d q → IsWalkingBelow s moved d
    go (Changed i j) = taken (takes_from s.graph op n move).0 i j
    go (Old k i) = (q, i, walks, (st, key, on, e))

-- a let go
child_released : (b : Bool) (n : ℕ) (graph : Graph) → (releasing b n graph).child ≡ graph.child
child_released true n graph = refl
child_released false n graph = refl

child_unreserved : (o : Option ℕ) (graph : Graph) → (unreserved o graph).child ≡ graph.child
child_unreserved None graph = refl
child_unreserved (Some n) graph = refl

let_go_outside : (s : State) (moved f n : ℕ) (op : Record) → s.ops f ≡ Some op → next s.graph op ≡ Leaves n → (d : ℕ) → IsWalkingBelow (letting_go s f op n) moved d → IsWalkingBelow s moved d
let_go_outside s moved f n op is move d (q, q_is, walks, (st, key, on, e)) = go (either s.ops f (let_go op n) d q q_is)
  where
    at_old : at s.graph.child moved key ≡ Some st.node
    at_old = sym (ap (λ (k : Children). at k moved key) (child_released (is_removed op.removed n) n s.graph)) ∙ e

    left : LetsGo op n → d ≡ f → let_go op n ≡ q → IsWalkingBelow s moved d
    left (On_way before new u on_b left_is lets same) i j =
        let l : new ≡ st = one_holdings left_is (ap (λ (o : Record). o.holdings) j ∙ on) in
        (op, ap s.ops i ∙ is, ap (λ (o : Record). o.phase) j ∙ walks, (before, key, on_b, at_old ∙ ap (λ (x : ℕ). Some x) (sym (ap (λ (x : Holdings). x.node) l) ∙ lets.node)))
    left (At_end before new r ph on_b left_is l only) i j = let z : ◌≡◌ {A = Phase} (Finished r) Walking = sym ph ∙ ap (λ (o : Record). o.phase) j ∙ walks in cc
    left (Last before r ph on_b left_is node only) i j = let z : ◌≡◌ {A = Phase} (Finished r) Walking = sym ph ∙ ap (λ (o : Record). o.phase) j ∙ walks in cc

    go : Either s.ops f (let_go op n) d q → IsWalkingBelow s moved d
    go (Changed i j) = left (lets_go s.graph op n move) i j
    go (Old k i) = (q, i, walks, (st, key, on, at_old))

-- a finish of another call
finish_outside : (s : State) (inv : Invariant s) (moved f : ℕ) (op : Record) (o : Moved) → s.ops f ≡ Some op → next s.graph op ≡ Finishes o
    → ((d b : ℕ) (q : Record) (st before : Holdings) (r w : Key) → (d ≡ f → ⊥) → IsHolding s d q st → q.phase ≡ Walking → op.holdings ≡ Some before → at s.graph.child before.node w ≡ Some b → IsMoved o b → at s.graph.child b r ≡ Some st.node → ⊥)
    → (d : ℕ) (q : Record) (st : Holdings) (key : Key) → (d ≡ f → ⊥) → s.ops d ≡ Some q → q.phase ≡ Walking → q.holdings ≡ Some st → at (finish s.graph op).graph.child moved key ≡ Some st.node → at s.graph.child moved key ≡ Some st.node
finish_outside s inv moved f op o is move alone d q st key differs q_is walks on e = same key moved e
  where
    own : Own (limits_of s) s.graph op
    own = inv.own f op is

    there : numbers s.graph (inv.key d) ≡ Some st.node
    there = (inv.kept.each d q st q_is on).located.here

    -- nothing leads from a reserved number, and nobody stands there
    loose : (b : ℕ) (w : Key) → op.reserved ≡ Some b → at s.graph.child b w ≡ Some st.node → ⊥
    loose b [] r g = (own.spare b r).1 (inv.key d) (there ∙ sym g)
    loose b (y ∷ w) r g =
        let k : (v : ℕ) × (s.graph.child b y ≡ Some v) × (at s.graph.child v w ≡ Some st.node) = then_some (s.graph.child b y) (λ v. at s.graph.child v w) st.node g in
        let l : (key : Key) × (numbers s.graph key ≡ Some b) = inv.is_graph.loose b k.0 y k.1 in
        (own.spare b r).1 l.0 l.1

    step : (a b : ℕ) (x : Name) (w : Key) → NewEntry s.graph op o a b x → at s.graph.child b w ≡ Some st.node → at s.graph.child a (x ∷ w) ≡ Some st.node
    step a b x w (Same_entry g) h = ap (λ (v : Option ℕ). then_at v (λ k. at s.graph.child k w)) g ∙ h
    step a b x w (Linked g) h = absurd (loose b w g h)
    step a b x w (Moved_entry before v on_b g i) h = absurd (alone d b q st before w v differs (record { is = q_is; on = on }) walks on_b g i h)

    same : (w : Key) (a : ℕ) → at (finish s.graph op).graph.child a w ≡ Some st.node → at s.graph.child a w ≡ Some st.node
    same [] a g = g
    same (x ∷ w) a g =
        let k : (b : ℕ) × ((finish s.graph op).graph.child a x ≡ Some b) × (at (finish s.graph op).graph.child b w ≡ Some st.node) = then_some ((finish s.graph op).graph.child a x) (λ b. at (finish s.graph op).graph.child b w) st.node g in
        step a k.0 x w (finish_entries s.graph inv.is_graph op o own.well move a k.0 x k.1) (same w k.0 k.2)

finishing_outside : (s : State) (inv : Invariant s) (moved f : ℕ) (op : Record) (o : Moved) → s.ops f ≡ Some op → next s.graph op ≡ Finishes o
    → ((d b : ℕ) (q : Record) (st before : Holdings) (r w : Key) → (d ≡ f → ⊥) → IsHolding s d q st → q.phase ≡ Walking → op.holdings ≡ Some before → at s.graph.child before.node w ≡ Some b → IsMoved o b → at s.graph.child b r ≡ Some st.node → ⊥)
    → (d : ℕ) → IsWalkingBelow (carrying s f op) moved d → IsWalkingBelow s moved d
finishing_outside s inv moved f op o is move alone d (q, q_is, walks, (st, key, on, e)) = go (either s.ops f (finished_op op (finish s.graph op)) d q q_is)
  where
    go : Either s.ops f (finished_op op (finish s.graph op)) d q → IsWalkingBelow s moved d
    go (Changed i j) = let z : ◌≡◌ {A = Phase} (Finished (finish s.graph op).reply) Walking = ap (λ (x : Record). x.phase) j ∙ walks in cc
    go (Old k i) = (q, i, walks, (st, key, on, finish_outside s inv moved f op o is move alone d q st key k i walks on e))

-- helping
helped_outside : (s : State) (moved h : ℕ) (op : Record) → s.ops h ≡ Some op → (d : ℕ) → IsWalkingBelow (helping s h op) moved d → IsWalkingBelow s moved d × (d ≡ h → ⊥)
helped_outside s moved h op is d (q, q_is, walks, (st, key, on, e)) = go (either s.ops h (record op { phase = Placed (commit_count s.timeline) }) d q q_is)
  where
    go : Either s.ops h (record op { phase = Placed (commit_count s.timeline) }) d q → IsWalkingBelow s moved d × (d ≡ h → ⊥)
    go (Changed i j) = let z : ◌≡◌ {A = Phase} (Placed (commit_count s.timeline)) Walking = ap (λ (x : Record). x.phase) j ∙ walks in cc
    go (Old k i) = ((q, i, walks, (st, key, on, e)), k)

-- a return
returned_outside : (s : State) (moved f : ℕ) (op : Record) (r : Reply) (d : ℕ) → IsWalkingBelow (returning s f op r) moved d → IsWalkingBelow s moved d
returned_outside s moved f op r d (q, q_is, walks, (st, key, on, e)) = go (place f None s.ops d)
  where
    go : Place (Option Record) f None s.ops d → IsWalkingBelow s moved d
    go (Here i j) = absurd (none_some (set_at f None s.ops d) q j q_is)
    go (Else k j) = (q, sym j ∙ q_is, walks, (st, key, on, sym (ap (λ (g : Children). at g moved key) (child_unreserved op.reserved s.graph)) ∙ e))

-- a begin
began_outside : (s : State) (moved seat : ℕ) (call : Call) (c : ℕ) (reserved : Option ℕ) (graph : Graph) → graph.child ≡ s.graph.child → (d : ℕ) → IsWalkingBelow (began s seat call c reserved graph) moved d → IsWalkingBelow s moved d
began_outside s moved seat call c reserved graph children d (q, q_is, walks, (st, key, on, e)) = go (either s.ops c (new_op s.start.limits seat call reserved) d q q_is)
  where
    go : Either s.ops c (new_op s.start.limits seat call reserved) d q → IsWalkingBelow s moved d
    go (Changed i j) = let z : ◌≡◌ {A = Option Holdings} None (Some st) = ap (λ (x : Record). x.holdings) j ∙ on in cc
    go (Old k i) = (q, i, walks, (st, key, on, sym (ap (λ (g : Children). at g moved key) children) ∙ e))

-- any step while a call is about to move the node
step_outside : (old new : State) (c moved seat : ℕ) (answer : Stepped) → Mover old c moved → Step old seat answer new → (d : ℕ) → IsWalkingBelow new moved d → IsWalkingBelow old moved d
step_outside old new c moved seat Idle m st d w = subst (λ (s : State). IsWalkingBelow s moved d) st.1 w
step_outside old new c moved seat (Took n) m (f, op, moves, free, same) d w = took_outside old c moved m f n op moves.1 moves.2 d (subst (λ (s : State). IsWalkingBelow s moved d) same w)
step_outside old new c moved seat (Busy n h) m (f, op, moves, held, same) d w = subst (λ (s : State). IsWalkingBelow s moved d) same w
step_outside old new c moved seat (LetGo n) m (f, op, moves, same) d w = let_go_outside old moved f n op moves.1 moves.2 d (subst (λ (s : State). IsWalkingBelow s moved d) same w)
step_outside old new c moved seat (Helped h) m (f, op, t, moves, walks, chosen, q, is, same) d w = (helped_outside old moved h q is d (subst (λ (s : State). IsWalkingBelow s moved d) same w)).0
step_outside old new c moved seat Committed m (f, op, o, moves, walks, none, same) d w =
    finishing_outside old m.inv moved f op o moves.1 moves.2
    (λ e b q st before r v differs a q_walks on at_b is at_st. none e (b, is, (q, a.is, q_walks, (st, r, a.on, at_st))))
    d (subst (λ (s : State). IsWalkingBelow s moved d) same w)
step_outside old new c moved seat CarriedOut m (f, op, o, i, moves, placed, same) d w =
    finishing_outside old m.inv moved f op o moves.1 moves.2
    (λ e b q st before r v differs a q_walks on at_b is at_st.
    not_below old m.inv f e op q before (λ j. differs (sym j)) (record { is = moves.1; on = on }) a.is (subst (λ (x : Phase). IsAfter x q.phase) (sym placed) (subst (IsAfter (Placed i)) (sym q_walks) tt)) (st, v ++ r, a.on, at_from old.graph.child before.node b v r at_b ∙ at_st))
    d (subst (λ (s : State). IsWalkingBelow s moved d) same w)
step_outside old new c moved seat (Returned r) m (f, op, moves, ph, same) d w = returned_outside old moved f op r d (subst (λ (s : State). IsWalkingBelow s moved d) same w)

begin_outside : (old new : State) (moved seat : ℕ) (call : Call) (answer : Begun) → Begins old seat call answer new → (d : ℕ) → IsWalkingBelow new moved d → IsWalkingBelow old moved d
begin_outside old new moved seat call (Err SeatBusy) (x, on, same) d w = subst (λ (s : State). IsWalkingBelow s moved d) same w
begin_outside old new moved seat call (Err Full) (on, full, same) d w = subst (λ (s : State). IsWalkingBelow s moved d) same w
begin_outside old new moved seat call (Err OutOfMemory) (on, full, same) d w = subst (λ (s : State). IsWalkingBelow s moved d) same w
begin_outside old new moved seat call (Ok c) (free, number, r) d w = go (reserved_by call) r
  where
    go : (o : Option Shape) → Reserves old seat call c o new → IsWalkingBelow old moved d
    go None same = began_outside old moved seat call c None old.graph refl d (subst (λ (s : State). IsWalkingBelow s moved d) same w)
    go (Some shape) (n, less, unused, same) = began_outside old moved seat call c (Some n) (reserved_in n shape old.graph) refl d (subst (λ (s : State). IsWalkingBelow s moved d) same w)

-- the same of all nodes that it is about to move
step_outside_all : (old new : State) (c seat : ℕ) (all : Moved) (answer : Stepped) → Run old → IsAboutToMove old c all → Step old seat answer new → (d : ℕ) → IsWalkingBelowMoved new all d → IsWalkingBelowMoved old all d
step_outside_all old new c seat all answer run a st d (moved, one, w) = (moved, one, step_outside old new c moved seat answer (mover old c all moved run a one) st d w)

begin_outside_all : (old new : State) (all : Moved) (seat : ℕ) (call : Call) (answer : Begun) → Begins old seat call answer new → (d : ℕ) → IsWalkingBelowMoved new all d → IsWalkingBelowMoved old all d
begin_outside_all old new all seat call answer b d (moved, one, w) = (moved, one, begin_outside old new moved seat call answer b d w)

helped_outside_all : (s : State) (all : Moved) (h : ℕ) (op : Record) → s.ops h ≡ Some op → (d : ℕ) → IsWalkingBelowMoved (helping s h op) all d → IsWalkingBelowMoved s all d × (d ≡ h → ⊥)
helped_outside_all s all h op is d (moved, one, w) = let o : IsWalkingBelow s moved d × (d ≡ h → ⊥) = helped_outside s moved h op is d w in ((moved, one, o.0), o.1)

-- the call is about to move the nodes at the last state of the piece, and that is a state of the run
at_last : (c : ℕ) (moved : Moved) (s new : State) (helped : List ℕ) → Meanwhile c moved s helped new → IsAboutToMove new c moved
at_last c moved s new helped (Now a) = a
at_last c moved s new helped (Begins_another seat call answer _ w b a) = a
at_last c moved s new helped (Steps_another seat answer _ w n st a) = a
at_last c moved s new helped (Helps_one seat d _ w on st a) = a

run_on : (c : ℕ) (moved : Moved) (s new : State) (helped : List ℕ) → Run s → Meanwhile c moved s helped new → Run new
run_on c moved s new helped run (Now a) = run
run_on c moved s new helped run (Begins_another {helped = _} {old} seat call answer _ w b a) = Beginning seat call answer new (run_on c moved s old helped run w) b
run_on c moved s new helped run (Steps_another {helped = _} {old} seat answer _ w n st a) = Stepping seat answer new (run_on c moved s old helped run w) st
run_on c moved s new (_ ∷ helped) run (Helps_one {helped = _} {old} seat d _ w on st a) = Stepping seat (Helped d) new (run_on c moved s old helped run w) st

-- what is known of the calls that it helped, without their count
record EachOnce (c : ℕ) (moved : Moved) (s : State) (helped : List ℕ) (new : State) : Type 0 where
  pub helps : EachBelow s moved helped
  pub still : (d : ℕ) → IsWalkingBelowMoved new moved d → IsWalkingBelowMoved s moved d × (IsIn d helped → ⊥)

helps_each_once : (c : ℕ) (moved : Moved) (s new : State) (helped : List ℕ) → Run s → Meanwhile c moved s helped new → EachOnce c moved s helped new
helps_each_once c moved s new helped run (Now a) = record { helps = tt; still = λ d w. (w, λ i. i) }
helps_each_once c moved s new helped run (Begins_another {helped = _} {old} seat call answer _ w b a) =
    let r : EachOnce c moved s helped old = helps_each_once c moved s old helped run w in
    record { helps = r.helps; still = λ d x. r.still d (begin_outside_all old new moved seat call answer b d x) }
helps_each_once c moved s new helped run (Steps_another {helped = _} {old} seat answer _ w n st a) =
    let r : EachOnce c moved s helped old = helps_each_once c moved s old helped run w in
    record { helps = r.helps; still = λ d x. r.still d (step_outside_all old new c seat moved answer (run_on c moved s old helped run w) (at_last c moved s old helped w) st d x) }
helps_each_once c moved s new (_ ∷ helped) run (Helps_one {helped = _} {old} seat h _ w on st a) = go (at_last c moved s old helped w) st (helps_each_once c moved s old helped run w)
  where
    go : IsAboutToMove old c moved → Step old seat (Helped h) new → EachOnce c moved s helped old → EachOnce c moved s (h ∷ helped) new
    go (mine, mine_is, mine_walks, mine_move) (f, op, t, moves, walks, chosen, q, is, same) r =
        let i : ◌≡◌ {A = Option ℕ} (Some c) (Some f) = sym on ∙ moves.0 in
        let j : c ≡ f = cc in
        let k : ◌≡◌ {A = Option Record} (Some mine) (Some op) = sym mine_is ∙ ap old.ops j ∙ moves.1 in
        let l : mine ≡ op = cc in
        let z : Finishes moved ≡ Finishes t = sym mine_move ∙ ap (next old.graph) l ∙ moves.2 in
        let y : t ≡ moved = cc in
        let was : IsWalkingBelowMoved old moved h = subst (λ (x : Moved). IsWalkingBelowMoved old x h) y chosen.0.0 in
        let first : IsWalkingBelowMoved s moved h × (IsIn h helped → ⊥) = r.still h was in
        record {
          helps = (first.0, first.1, r.helps);
          still = λ d x.
              (let b : IsWalkingBelowMoved old moved d × (d ≡ h → ⊥) = helped_outside_all old moved h q is d (subst (λ (v : State). IsWalkingBelowMoved v moved d) same x) in
              let g : IsWalkingBelowMoved s moved d × (IsIn d helped → ⊥) = r.still d b.0 in
              (g.0, λ v. out (d ≡ h) (IsIn d helped) b.1 g.1 v));
        }
      where
        out : (A B : Type 0) → (A → ⊥) → (B → ⊥) → A ⊎ B → ⊥
        out A B a b (inl x) = a x
        out A B a b (inr x) = b x

-- each of them walked below a moved node
each_walks : (s : State) (moved : Moved) (d : ℕ) (helped : List ℕ) → EachBelow s moved helped → IsIn d helped → IsWalkingBelowMoved s moved d
each_walks s moved d [] each i = absurd i
each_walks s moved d (h ∷ helped) (below, apart, rest) (inl same) = subst (IsWalkingBelowMoved s moved) (sym same) below
each_walks s moved d (h ∷ helped) (below, apart, rest) (inr i) = each_walks s moved d helped rest i

-- a list without one of its numbers
record Without (d : ℕ) (es : List ℕ) : Type 0 where
  pub rest : List ℕ
  pub shorter : length es ≡ suc (length rest)
  pub others : (x : ℕ) → (d ≡ x → ⊥) → IsIn x es → IsIn x rest

one_more : (d e : ℕ) (es : List ℕ) → Without d es → Without d (e ∷ es)
one_more d e es w = record { rest = e ∷ w.rest; shorter = ap suc w.shorter; others = others }
  where
    others : (x : ℕ) → (d ≡ x → ⊥) → IsIn x (e ∷ es) → IsIn x (e ∷ w.rest)
    others x differs (inl here) = inl here
    others x differs (inr i) = inr (w.others x differs i)

without : (d : ℕ) (es : List ℕ) → IsIn d es → Without d es
without d [] i = absurd i
without d (e ∷ es) (inr there) = one_more d e es (without d es there)
without d (e ∷ es) (inl same) = record { rest = es; shorter = refl; others = others }
  where
    others : (x : ℕ) → (d ≡ x → ⊥) → IsIn x (e ∷ es) → IsIn x es
    others x differs (inl here) = absurd (differs (same ∙ sym here))
    others x differs (inr i) = i

-- calls that are each there once are no more than those of a list that has them all
no_more : (s : State) (moved : Moved) (helped below : List ℕ) → EachBelow s moved helped → ((d : ℕ) → IsIn d helped → IsIn d below) → length helped ≤ length below
no_more s moved [] below each all = omega arith
no_more s moved (h ∷ helped) below (first, apart, rest) all =
    let w : Without h below = without h below (all h (inl refl)) in
    let less : length helped ≤ length w.rest = no_more s moved helped w.rest rest (λ d i. w.others d (λ same. apart (subst (λ (x : ℕ). IsIn x helped) (sym same) i)) (all d (inr i))) in
    subst (λ (n : ℕ). suc (length helped) ≤ n) (sym w.shorter) (omega arith)

pub helps_are_few : (s : State) → Run s → HelpsAreFew s
helps_are_few s run c moved new helped w =
    let r : EachOnce c moved s helped new = helps_each_once c moved s new helped run w in
    record { helps = r.helps; still = r.still; most = λ below all. no_more s moved helped below r.helps (λ d i. all d (each_walks s moved d helped r.helps i)) }
