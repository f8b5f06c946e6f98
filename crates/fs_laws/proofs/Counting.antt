-- No more numbers are in use than the start tree has nodes, and one for each call that began.
use Rattle.std.proofs.Common.{◌≡◌, ℕ, zero, suc, ◌+◌, ◌≤◌, Bool, true, false, cond, List, [], ◌∷◌, ◌++◌, Option, Some, None, length, refl, sym, ap, ap₂, ◌∙◌, subst, arith, Ok, Err}
use Rattle.fs_names.specs.Shapes.{Shape, Dir, is_there}
use Rattle.std.specs.FinMap.{find}
use Rattle.fs_names.specs.Keys.{Key, key_cmp, same_key}
use Rattle.fs_calls.specs.Sights.{shape_of}
use Rattle.fs_calls.proofs.LookLemmas.{look-find, same_key_exact}
use Rattle.fs_calls.specs.Tree.{Tree, Node, look}
use Rattle.fs_calls.specs.Starts.{Start}
use Rattle.fs_calls.specs.Forms.{reserved_by}
use Rattle.fs_calls.specs.declared.call.Call.{Call}
use Rattle.fs_laws.specs.Invariants.{limits_of}
use Rattle.fs_calls.specs.Graphs.{Graph, set_at, numbers, graph_shapes, then_at, used_below}
use Rattle.fs_timeline.specs.declared.entry.Entry.TheVariants.{Begin}
use Rattle.fs_machine.specs.Finishes.{finish}
use Rattle.fs_machine.specs.Leaving.{is_removed, releasing, unreserved}
use Rattle.fs_machine.specs.Records.{Record}
use Rattle.fs_timeline.specs.Timeline.{begins}
use Rattle.fs_machine.specs.States.{State, IsStart, Run, Starting, Beginning, Stepping, Begun, Begins, Reserves, Step}
use Rattle.fs_machine.specs.declared.answers.Refusal.TheVariants.{SeatBusy, Full, OutOfMemory}
use Rattle.fs_machine.specs.declared.answers.Stepped.{Stepped}
use Rattle.fs_machine.specs.declared.answers.Stepped.TheVariants.{Idle, Took, Busy, LetGo, Helped, Committed, CarriedOut, Returned}
use Rattle.fs_laws.proofs.events.OneCallChanged.{Place, Here, Else, place}
use Rattle.fs_laws.proofs.events.Help.{begins_push}
use Rattle.fs_laws.proofs.journal.OneMoreEntry.{returns_begins, begins_begins}
use Rattle.fs_laws.proofs.states.Headline.{run_keeps}
use Rattle.fs_laws.proofs.states.Agreement.{run_accounts}
use Rattle.fs_laws.proofs.finish.Limits.{finish_resizes, own_limited}

-- ---- counts of numbers in use

-- one more where there is a node
abbrev one_there : Option Shape → ℕ → ℕ
one_there o n = cond (is_there o) (n + 1) n

-- what is in use in the first is in use in the second
abbrev AllIn : (ℕ → Option Shape) → (ℕ → Option Shape) → Type 0
AllIn f g = (n : ℕ) (s : Shape) → f n ≡ Some s → (t : Shape) × (g n ≡ Some t)

one_fewer : (o p : Option Shape) (m n : ℕ) → ((s : Shape) → o ≡ Some s → (t : Shape) × (p ≡ Some t)) → m ≤ n → one_there o m ≤ one_there p n
one_fewer None None m n h less = less
one_fewer None (Some t) m n h less = omega (arith, less)
one_fewer (Some s) (Some t) m n h less = omega (arith, less)
one_fewer (Some s) None m n h less = let g : (t : Shape) × (◌≡◌ {A = Option Shape} None (Some t)) = h s refl in absurd (let z : ◌≡◌ {A = Option Shape} None (Some g.0) = g.1 in cc)

fewer : (f g : ℕ → Option Shape) (limit : ℕ) → AllIn f g → used_below f limit ≤ used_below g limit
fewer f g zero h = omega arith
fewer f g (suc n) h = one_fewer (f n) (g n) (used_below f n) (used_below g n) (h n) (fewer f g n h)

-- one number comes into use
one_most : (o : Option Shape) (n : ℕ) → one_there o n ≤ n + 1
one_most None n = omega arith
one_most (Some s) n = omega arith

one_least : (o : Option Shape) (n : ℕ) → n ≤ one_there o n
one_least None n = omega arith
one_least (Some s) n = omega arith

used_apart : (f : ℕ → Option Shape) (n : ℕ) (v : Option Shape) (limit : ℕ) → limit ≤ n → used_below (set_at n v f) limit ≡ used_below f limit
used_apart f n v zero less = refl
used_apart f n v (suc k) less = ap₂ one_there (by (place n v f k)) (used_apart f n v k (omega (arith, less)))
  where
    by : Place (Option Shape) n v f k → set_at n v f k ≡ f k
    by (Here i j) = absurd (omega (arith, less, i))
    by (Else h j) = j

used_set : (f : ℕ → Option Shape) (n : ℕ) (v : Option Shape) (limit : ℕ) → used_below (set_at n v f) limit ≤ used_below f limit + 1
used_set f n v zero = omega arith
used_set f n v (suc k) = by (used_set f n v k) (place n v f k)
  where
    more : (o : Option Shape) (a b : ℕ) → a ≤ b + 1 → one_there o a ≤ one_there o b + 1
    more None a b h = h
    more (Some s) a b h = omega (arith, h)

    by : used_below (set_at n v f) k ≤ used_below f k + 1 → Place (Option Shape) n v f k → one_there (set_at n v f k) (used_below (set_at n v f) k) ≤ one_there (f k) (used_below f k) + 1
    by h (Here i j) =
        let a : used_below (set_at n v f) k ≡ used_below f k = used_apart f n v k (omega (arith, i)) in
        let b : one_there (set_at n v f k) (used_below (set_at n v f) k) ≤ used_below (set_at n v f) k + 1 = one_most (set_at n v f k) (used_below (set_at n v f) k) in
        let c : used_below f k ≤ one_there (f k) (used_below f k) = one_least (f k) (used_below f k) in
        omega (arith, a, b, c)
    by h (Else g j) = subst (λ (o : Option Shape). one_there o (used_below (set_at n v f) k) ≤ one_there (f k) (used_below f k) + 1) (sym j) (more (f k) (used_below (set_at n v f) k) (used_below f k) h)

used_none : (limit : ℕ) → used_below (λ n. None) limit ≡ 0
used_none zero = refl
used_none (suc n) = used_none n

-- ---- states

-- no more are in use than a number that the start tree has, and one for each call that began
abbrev pub Counted : (Start → ℕ) → State → Type 0
Counted first s = used_below s.graph.shape s.limit ≤ begins s.timeline + first s.start

counted_by : (first : Start → ℕ) (s new : State) → AllIn new.graph.shape s.graph.shape → new.limit ≡ s.limit → begins new.timeline ≡ begins s.timeline → first new.start ≡ first s.start → Counted first s → Counted first new
counted_by first s new h limit begun start k =
    let a : used_below new.graph.shape new.limit ≡ used_below new.graph.shape s.limit = ap (used_below new.graph.shape) limit in
    let b : used_below new.graph.shape s.limit ≤ used_below s.graph.shape s.limit = fewer new.graph.shape s.graph.shape s.limit h in
    omega (arith, a, b, begun, start, k)

same_in : (f : ℕ → Option Shape) → AllIn f f
same_in f n s e = (s, e)

none_in : (f : ℕ → Option Shape) (m : ℕ) → AllIn (set_at m None f) f
none_in f m n s e = by (place m None f n)
  where
    by : Place (Option Shape) m None f n → (t : Shape) × (f n ≡ Some t)
    by (Here i j) = absurd (let z : ◌≡◌ {A = Option Shape} None (Some s) = sym j ∙ e in cc)
    by (Else h j) = (s, sym j ∙ e)

releasing_in : (b : Bool) (n : ℕ) (graph : Graph) → AllIn (releasing b n graph).shape graph.shape
releasing_in true n graph = none_in graph.shape n
releasing_in false n graph = same_in graph.shape

unreserved_in : (o : Option ℕ) (graph : Graph) → AllIn (unreserved o graph).shape graph.shape
unreserved_in None graph = same_in graph.shape
unreserved_in (Some n) graph = none_in graph.shape n

finish_in : (s : State) → Run s → (c : ℕ) (op : Record) → s.ops c ≡ Some op → AllIn (finish s.graph op).graph.shape s.graph.shape
finish_in s run c op is n shape e = (finish_resizes (limits_of s) s.graph (run_keeps s run).is_graph (run_accounts s run).within op (own_limited (limits_of s) s.graph op ((run_keeps s run).own c op is)) ((run_keeps s run).own c op is).well).to_old n shape e

pub counted_step : (first : Start → ℕ) (s new : State) (seat : ℕ) (answer : Stepped) → Run s → Step s seat answer new → Counted first s → Counted first new
counted_step first s new seat Idle run (off, same) k = subst (Counted first) (sym same) k
counted_step first s new seat (Busy n d) run (c, op, moves, held, same) k = subst (Counted first) (sym same) k
counted_step first s new seat (Took n) run (c, op, moves, free, same) k = subst (Counted first) (sym same) k
counted_step first s new seat (LetGo n) run (c, op, moves, same) k = counted_by first s new (subst (λ (x : State). AllIn x.graph.shape s.graph.shape) (sym same) (releasing_in (is_removed op.removed n) n s.graph)) (ap (λ (x : State). x.limit) same) (ap (λ (x : State). begins x.timeline) same) (ap (λ (x : State). first x.start) same) k
counted_step first s new seat (Helped d) run (c, op, u, moves, w, pick, q, is, same) k = counted_by first s new (subst (λ (x : State). AllIn x.graph.shape s.graph.shape) (sym same) (same_in s.graph.shape)) (ap (λ (x : State). x.limit) same) (ap (λ (x : State). begins x.timeline) same ∙ begins_push s.timeline d) (ap (λ (x : State). first x.start) same) k
counted_step first s new seat Committed run (c, op, o, moves, w, below, same) k = counted_by first s new (subst (λ (x : State). AllIn x.graph.shape s.graph.shape) (sym same) (finish_in s run c op moves.1)) (ap (λ (x : State). x.limit) same) (ap (λ (x : State). begins x.timeline) same ∙ begins_push s.timeline c) (ap (λ (x : State). first x.start) same) k
counted_step first s new seat CarriedOut run (c, op, o, i, moves, placed, same) k = counted_by first s new (subst (λ (x : State). AllIn x.graph.shape s.graph.shape) (sym same) (finish_in s run c op moves.1)) (ap (λ (x : State). x.limit) same) (ap (λ (x : State). begins x.timeline) same) (ap (λ (x : State). first x.start) same) k
counted_step first s new seat (Returned r) run (c, op, moves, ph, same) k = counted_by first s new (subst (λ (x : State). AllIn x.graph.shape s.graph.shape) (sym same) (unreserved_in op.reserved s.graph)) (ap (λ (x : State). x.limit) same) (ap (λ (x : State). begins x.timeline) same ∙ returns_begins s.timeline c r) (ap (λ (x : State). first x.start) same) k

pub counted_begin : (first : Start → ℕ) (s new : State) (seat : ℕ) (call : Call) (answer : Begun) → Begins s seat call answer new → Counted first s → Counted first new
counted_begin first s new seat call (Err SeatBusy) (c, on, same) k = subst (Counted first) (sym same) k
counted_begin first s new seat call (Err Full) (off, full, same) k = subst (Counted first) (sym same) k
counted_begin first s new seat call (Err OutOfMemory) (off, room, same) k = subst (Counted first) (sym same) k
counted_begin first s new seat call (Ok c) (off, number, r) k = go (reserved_by call) r
  where
    go : (o : Option Shape) → Reserves s seat call c o new → Counted first new
    go None same = subst (Counted first) (sym same) (let b : begins (s.timeline ++ Begin c seat call ∷ []) ≡ begins s.timeline + 1 = begins_begins s.timeline c seat call in omega (arith, b, k))
    go (Some shape) (n, less, free, same) = subst (Counted first) (sym same)
        (let b : begins (s.timeline ++ Begin c seat call ∷ []) ≡ begins s.timeline + 1 = begins_begins s.timeline c seat call in
        let a : used_below (set_at n (Some shape) s.graph.shape) s.limit ≤ used_below s.graph.shape s.limit + 1 = used_set s.graph.shape n (Some shape) s.limit in
        omega (arith, a, b, k))

-- ---- where a timeline begins

-- one number more, if there is one
abbrev covering : Option ℕ → (ℕ → Option Shape) → ℕ → Option Shape
covering None f = f
covering (Some n) f = set_at n (Some (Dir [])) f

-- the numbers to which the keys of entries lead
abbrev covered : Graph → List (Key × Node) → ℕ → Option Shape
covered graph [] = λ n. None
covered graph (e ∷ es) = covering (numbers graph e.0) (covered graph es)

used_covering : (o : Option ℕ) (f : ℕ → Option Shape) (limit : ℕ) → used_below (covering o f) limit ≤ used_below f limit + 1
used_covering None f limit = omega arith
used_covering (Some n) f limit = used_set f n (Some (Dir [])) limit

used_covered : (graph : Graph) (es : List (Key × Node)) (limit : ℕ) → used_below (covered graph es) limit ≤ length es
used_covered graph [] limit = let a : used_below (λ n. None) limit ≡ 0 = used_none limit in omega (arith, a)
used_covered graph (e ∷ es) limit =
    let a : used_below (covered graph (e ∷ es)) limit ≤ used_below (covered graph es) limit + 1 = used_covering (numbers graph e.0) (covered graph es) limit in
    let b : used_below (covered graph es) limit ≤ length es = used_covered graph es limit in
    omega (arith, a, b)

covering_here : (o : Option ℕ) (f : ℕ → Option Shape) (n : ℕ) → o ≡ Some n → (s : Shape) × (covering o f n ≡ Some s)
covering_here None f n e = cc
covering_here (Some m) f n e = by (place m (Some (Dir [])) f n)
  where
    by : Place (Option Shape) m (Some (Dir [])) f n → (s : Shape) × (set_at m (Some (Dir [])) f n ≡ Some s)
    by (Here i j) = (Dir [], j)
    by (Else h j) = absurd (h (let z : m ≡ n = cc in sym z))

covering_more : (o : Option ℕ) (f : ℕ → Option Shape) (n : ℕ) → (s : Shape) × (f n ≡ Some s) → (s : Shape) × (covering o f n ≡ Some s)
covering_more None f n h = h
covering_more (Some m) f n h = by (place m (Some (Dir [])) f n)
  where
    by : Place (Option Shape) m (Some (Dir [])) f n → (s : Shape) × (set_at m (Some (Dir [])) f n ≡ Some s)
    by (Here i j) = (Dir [], j)
    by (Else k j) = (h.0, j ∙ h.1)

-- the number of a key that is found is among them
covers : (graph : Graph) (es : List (Key × Node)) (key : Key) (node : Node) (n : ℕ) → find key_cmp key es ≡ Some node → numbers graph key ≡ Some n → (s : Shape) × (covered graph es n ≡ Some s)
covers graph [] key node n found leads = cc
covers graph (e ∷ es) key node n found leads = by (same_key key e.0) refl (λ more. covers graph es key node n more leads)
  where
    by : (b : Bool) → same_key key e.0 ≡ b → (find key_cmp key es ≡ Some node → (s : Shape) × (covered graph es n ≡ Some s)) → (s : Shape) × (covered graph (e ∷ es) n ≡ Some s)
    by true same rest = covering_here (numbers graph e.0) (covered graph es) n (ap (numbers graph) (sym (same_key_exact key e.0 same)) ∙ leads)
    by false other rest = covering_more (numbers graph e.0) (covered graph es) n (rest (sym (ap (λ (b : Bool). cond b (Some e.1) (find key_cmp key es)) other) ∙ found))

-- what a tree shows at a key, it has there
shown : (t : Tree) (key : Key) (o : Option Node) (s : Shape) → shape_of t key o ≡ Some s → (node : Node) × (o ≡ Some node)
shown t key None s e = cc
shown t key (Some node) s e = (node, refl)

-- a graph that spells a tree has no more numbers in use than the tree has nodes
used_at_start : (limit : ℕ) (start : Start) (graph : Graph) → IsStart limit start graph → used_below graph.shape limit ≤ length start.tree
used_at_start limit start graph h =
    let a : used_below graph.shape limit ≤ used_below (covered graph start.tree) limit = fewer graph.shape (covered graph start.tree) limit all in
    let b : used_below (covered graph start.tree) limit ≤ length start.tree = used_covered graph start.tree limit in
    omega (arith, a, b)
  where
    all : AllIn graph.shape (covered graph start.tree)
    all n s e =
        let r : (key : Key) × (numbers graph key ≡ Some n) = h.reached n s e in
        let sees : graph_shapes graph r.0 ≡ Some s = ap (λ (o : Option ℕ). then_at o graph.shape) r.1 ∙ e in
        let there : (node : Node) × (look start.tree r.0 ≡ Some node) = shown start.tree r.0 (look start.tree r.0) s (sym (ap (λ (f : Key → Option Shape). f r.0) h.spelled) ∙ sees) in
        covers graph start.tree r.0 there.0 n (sym (look-find start.tree r.0) ∙ there.1) r.1

-- the nodes of a start tree
abbrev nodes : Start → ℕ
nodes start = length start.tree

pub numbers_counted : (s : State) → Run s → used_below s.graph.shape s.limit ≤ begins s.timeline + length s.start.tree
numbers_counted s (Starting limit start graph h) = let a : used_below graph.shape limit ≤ length start.tree = used_at_start limit start graph h in omega (arith, a)
numbers_counted s (Beginning {old} seat call answer new run begin) = counted_begin nodes old s seat call answer begin (numbers_counted old run)
numbers_counted s (Stepping {old} seat answer new run step) = counted_step nodes old s seat answer run step (numbers_counted old run)
