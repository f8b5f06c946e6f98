-- What both heads of a call on two entries do next.
use Rattle.std.proofs.Common.{◌≡◌, ℕ, ◌+◌, ◌≤◌, Bool, true, false, ◌||◌, [], List, length, drop, slice_get, Option, Some, None, refl, sym, ap, ◌∙◌, arith}
use Rattle.std.specs.Prelude.{not, is_some}
use Rattle.fs_names.specs.Keys.{Key, parent_of, last_of, after_prefix, has_more, is_end}
use Rattle.fs_names.specs.Names.{Name}
use Rattle.fs_names.specs.Parts.{left, common}
use Rattle.fs_names.specs.Shapes.{Shape, Dir, is_full}
use Rattle.fs_calls.specs.Forms.{AtPair, PairCall}
use Rattle.fs_calls.specs.Forms as pairs
use Rattle.fs_nodes.specs.Graphs.{Graph, entry_shape}
use Rattle.fs_calls.specs.Rows.{answered, rename_fault, exchange_fault, rename_row, exchange_row}
use Rattle.fs_calls.specs.declared.errno.Errno.{Errno}
use Rattle.fs_calls.specs.declared.reply.Reply.TheVariants.{Done}
use Rattle.fs_ops_effects.specs.Plans.{pair_plan, moving, swapping, moved_by}
use Rattle.fs_ops_effects.specs.declared.plan.Plan.{Plan}
use Rattle.fs_walk.specs.declared.head.Head as count
use Rattle.fs_walk.specs.declared.want.Want.TheVariants.{Arrived}
use Rattle.fs_walk.specs.Ways.{Way, ForkWay, head_name}
use Rattle.fs_walk.specs.Wants.{at_dir, dir_want, then_want, step_want, heads_want, fork_want}
use Rattle.fs_machine.specs.Moves.{dir_error, parents_move, fork_move, first_of, step_move, behind_first, dir_then, there_by, moved_node, moved_nodes, take_if}
use Rattle.fs_machine.specs.declared.moves.Move.TheVariants.{Finish as Finishes}
use Rattle.fs_machine.specs.declared.moves.Move.{Move}
use Rattle.fs_machine.specs.declared.moves.Moved.{Moved}
use Rattle.fs_machine.specs.Records.{Holdings}
use Rattle.fs_ops.specs.code.NextByNodes.{to_take, take_or, replaces, between_next, heads_next}
use Rattle.fs_ops.specs.PlanOf.{move_of, parents_plan}
use Rattle.fs_ops.specs.code.TakeAndLetGo.{started}
use Rattle.fs_ops.specs.OpValue.{Forks, IsForked, head_of, holdings_with}
use Rattle.fs_ops.proofs.KeyLemmas.{parent_drop, drop_get, drop_prefix, drop_prefix_back, common_parents, last_drop}
use Rattle.fs_ops.proofs.TookLemmas.{ahead_none, started_forked, started_holdings}
use Rattle.fs_ops.proofs.WantLemmas.{want_then, move_want, behind_arrived, behind_tie, left_head, head_dir_tie, dir_tie, then_tie, then_arrived, dir_arrived, step_arrived, want_then_same}

-- a head that has arrived at a directory met no error
no_error : (l : Key) (s : Option Shape) (names : List Name) → l ≡ [] → s ≡ Some (Dir names) → dir_error l s ≡ None
no_error l s names e f = rw (e, f) refl

pub parent_reached : (graph : Graph) (p : Key) (k : ℕ) (head : count.Head) → k + head.walked ≤ length (parent_of p) → dir_want graph head (head_name p k head) ≡ Arrived
    → dir_error (left (head_of p k head).walked (parent_of (drop k p))) (graph.shape head.node) ≡ None
parent_reached graph p k head h e =
    let both = then_arrived (step_want graph head.node (head_name p k head)) (at_dir (graph.shape head.node)) e in
    let dir = dir_arrived (graph.shape head.node) both.1 in
    let name : slice_get (parent_of (drop k p)) head.walked ≡ None = ap (λ (l : Key). slice_get l head.walked) (parent_drop k p) ∙ (drop_get k head.walked (parent_of p) ∙ step_arrived graph head.node (head_name p k head) both.0) in
    no_error (left (head_of p k head).walked (parent_of (drop k p))) (graph.shape head.node) dir.0 (left_head k head.walked p h ∙ ahead_none (parent_of (drop k p)) head.walked name) dir.1

-- ---- moves of plans

pub move_take : (b : Bool) (there victim : Option ℕ) (plan : Plan) → move_of (take_or (to_take b there victim) plan) ≡ take_if b there victim (Finishes (moved_by plan))
move_take true (Some n) None plan = refl
move_take true (Some n) (Some v) plan = refl
move_take true None victim plan = refl
move_take false there victim plan = refl

moved_rename : (fault : Option Errno) (same_path replaces : Bool) (child : Option ℕ)
    → moved_by (pair_plan fault same_path (moving replaces child)) ≡ moved_node (answered fault false Done (not same_path)).1 child
moved_rename (Some e) same_path replaces child = refl
moved_rename None true replaces child = refl
moved_rename None false replaces None = refl
moved_rename None false true (Some n) = refl
moved_rename None false false (Some n) = refl

moved_exchange : (fault : Option Errno) (same_path : Bool) (one other : Option ℕ)
    → moved_by (pair_plan fault same_path (swapping one other)) ≡ moved_nodes (answered fault false Done (not same_path)).1 one other
moved_exchange (Some e) same_path one other = refl
moved_exchange None true one other = refl
moved_exchange None false None other = refl
moved_exchange None false (Some n) None = refl
moved_exchange None false (Some n) (Some m) = refl

-- what a call on two entries would really move, from one directory to another
abbrev moved_between : Graph → PairCall → ℕ → Name → ℕ → Name → Bool → Bool → Bool → Moved
moved_between graph (pairs.Rename most) source x dest y same_path above one_parent =
    moved_node (rename_row None None (entry_shape graph source x) same_path (there_by above (entry_shape graph dest y)) (one_parent || not (is_full most (graph.shape dest)))).1 (graph.child source x)
moved_between graph pairs.Exchange source x dest y same_path above one_parent =
    moved_nodes (exchange_row None None (entry_shape graph source x) same_path (entry_shape graph dest y)).1 (graph.child source x) (graph.child dest y)

moved_parents : (graph : Graph) (c : PairCall) (source : ℕ) (x : Name) (dest : ℕ) (y : Name) (same_path above one_parent : Bool)
    → moved_by (parents_plan graph c source x dest y same_path above one_parent None None) ≡ moved_between graph c source x dest y same_path above one_parent
moved_parents graph (pairs.Rename most) source x dest y same_path above one_parent =
    let fault : Option Errno = rename_fault None None (entry_shape graph source x) same_path (there_by above (entry_shape graph dest y)) (one_parent || not (is_full most (graph.shape dest))) in
    moved_rename fault same_path (is_some (graph.child dest y)) (graph.child source x)
moved_parents graph pairs.Exchange source x dest y same_path above one_parent =
    moved_exchange (exchange_fault None None (entry_shape graph source x) (entry_shape graph dest y)) same_path (graph.child source x) (graph.child dest y)

-- and its move
abbrev between_move : Graph → PairCall → ℕ → Name → ℕ → Name → Bool → Bool → Bool → Option ℕ → Move
between_move graph c source x dest y same_path above one_parent victim =
    take_if (replaces c (entry_shape graph source x) (entry_shape graph dest y) same_path above) (graph.child dest y) victim
    (Finishes (moved_between graph c source x dest y same_path above one_parent))

move_between : (graph : Graph) (c : PairCall) (source : ℕ) (x : Name) (dest : ℕ) (y : Name) (same_path above one_parent : Bool) (victim : Option ℕ)
    → move_of (between_next graph c source x dest y same_path above one_parent victim) ≡ between_move graph c source x dest y same_path above one_parent victim
move_between graph c source x dest y same_path above one_parent victim =
    let wanted : Bool = replaces c (entry_shape graph source x) (entry_shape graph dest y) same_path above in
    move_take wanted (graph.child dest y) victim _
    ∙ ap (λ (m : Moved). take_if wanted (graph.child dest y) victim (Finishes m)) (moved_parents graph c source x dest y same_path above one_parent)

-- with both parents held
between_is : (graph : Graph) (c : PairCall) (p q : Key) (fork : ForkWay) (m : ℕ) (behind victim : Option ℕ) → fork.names + fork.source.walked ≤ length (parent_of p) → fork.names + fork.dest.walked ≤ length (parent_of q) → fork.names ≤ length (common (parent_of p) (parent_of q))
    → fork_want graph p q fork ≡ Arrived
    → between_move graph c fork.source.node (last_of p) fork.dest.node (last_of q) (is_end (after_prefix p q)) (has_more (after_prefix q p)) (is_end (after_prefix (parent_of p) (parent_of q))) victim
    ≡ parents_move graph c (drop fork.names p) (drop fork.names q) (holdings_with (AtPair c p q) m behind (Some fork) victim)
between_is graph c p q fork m behind victim hs hd hc e =
    let k = fork.names in
    let heads = (then_arrived (at_dir (graph.shape fork.node)) (then_want (dir_want graph fork.source (head_name p k fork.source)) (dir_want graph fork.dest (head_name q k fork.dest))) (behind_arrived fork.behind (heads_want graph p q fork) e)).1 in
    let both = then_arrived (dir_want graph fork.source (head_name p k fork.source)) (dir_want graph fork.dest (head_name q k fork.dest)) heads in
    let from = parent_reached graph p k fork.source hs both.0 in
    let to = parent_reached graph q k fork.dest hd both.1 in
    let whole : length (common (parent_of p) (parent_of q)) ≤ length (common p q) = common_parents p q in
    let parents : after_prefix (parent_of (drop k p)) (parent_of (drop k q)) ≡ after_prefix (parent_of p) (parent_of q) = rw (parent_drop k p, parent_drop k q) (drop_prefix k (parent_of p) (parent_of q) hc) in
    by c from to (last_drop k p (omega arith)) (last_drop k q (omega arith)) (drop_prefix k p q (omega arith)) (drop_prefix_back k p q (omega arith)) parents
  where
    by : (c : PairCall) → dir_error (left (head_of p fork.names fork.source).walked (parent_of (drop fork.names p))) (graph.shape fork.source.node) ≡ None
        → dir_error (left (head_of q fork.names fork.dest).walked (parent_of (drop fork.names q))) (graph.shape fork.dest.node) ≡ None → last_of (drop fork.names p) ≡ last_of p → last_of (drop fork.names q) ≡ last_of q
        → after_prefix (drop fork.names p) (drop fork.names q) ≡ after_prefix p q → after_prefix (drop fork.names q) (drop fork.names p) ≡ after_prefix q p
        → after_prefix (parent_of (drop fork.names p)) (parent_of (drop fork.names q)) ≡ after_prefix (parent_of p) (parent_of q)
        → between_move graph c fork.source.node (last_of p) fork.dest.node (last_of q) (is_end (after_prefix p q)) (has_more (after_prefix q p)) (is_end (after_prefix (parent_of p) (parent_of q))) victim
        ≡ parents_move graph c (drop fork.names p) (drop fork.names q) (holdings_with (AtPair c p q) m behind (Some fork) victim)
    by (pairs.Rename most) from to x y same above parents = rw (from, to, x, y, same, above, parents) refl
    by pairs.Exchange from to x y same above parents = rw (from, to, x, y, same) refl

-- from a common directory
fork_tie : (graph : Graph) (p q : Key) (fork : ForkWay) (m : Move) → fork.names + fork.source.walked ≤ length (parent_of p) → fork.names + fork.dest.walked ≤ length (parent_of q)
    → behind_first fork.behind (dir_then (graph.shape fork.node)
    (first_of (step_move graph fork.source.node (left (head_of p fork.names fork.source).walked (parent_of (drop fork.names p))))
    (dir_then (graph.shape fork.source.node)
    (first_of (step_move graph fork.dest.node (left (head_of q fork.names fork.dest).walked (parent_of (drop fork.names q))))
    (dir_then (graph.shape fork.dest.node) m)))))
    ≡ want_then (fork_want graph p q fork) m
fork_tie graph p q fork m hs hd =
    ap (λ (k : Move). behind_first fork.behind (dir_then (graph.shape fork.node) (first_of (step_move graph fork.source.node (left (head_of p fork.names fork.source).walked (parent_of (drop fork.names p)))) (dir_then (graph.shape fork.source.node) k)))) (head_dir_tie graph q fork.names fork.dest m hd)
    ∙ ap (λ (k : Move). behind_first fork.behind (dir_then (graph.shape fork.node) k)) (head_dir_tie graph p fork.names fork.source (want_then (dir_want graph fork.dest (head_name q fork.names fork.dest)) m) hs)
    ∙ ap (behind_first fork.behind) (dir_tie (graph.shape fork.node) (want_then (dir_want graph fork.source (head_name p fork.names fork.source)) (want_then (dir_want graph fork.dest (head_name q fork.names fork.dest)) m))
    ∙ ap (want_then (at_dir (graph.shape fork.node))) (sym (then_tie (dir_want graph fork.source (head_name p fork.names fork.source)) (dir_want graph fork.dest (head_name q fork.names fork.dest)) m))
    ∙ sym (then_tie (at_dir (graph.shape fork.node)) (then_want (dir_want graph fork.source (head_name p fork.names fork.source)) (dir_want graph fork.dest (head_name q fork.names fork.dest))) m))
    ∙ behind_tie fork.behind (heads_want graph p q fork) m

-- a call on two entries at its common directory does what its heads want, and then what it does between both parents
pair_from : (graph : Graph) (c : PairCall) (p q : Key) (way : Way) (behind : Option ℕ) (f : ForkWay) (victim : Option ℕ) (n : ℕ) → IsForked p q way f → way.node ≡ Some n → way.names ≡ length (common (parent_of p) (parent_of q))
    → move_of (heads_next graph c p q f victim) ≡ behind_first f.behind (fork_move graph c (drop way.walked p) (drop way.walked q) (holdings_with (AtPair c p q) n behind (Some f) victim))
pair_from graph c p q way behind f victim n h at names =
    let short : f.names ≤ length (common (parent_of p) (parent_of q)) = (let a = h.names in let b = h.arrived in omega arith) in
    let same : f.node ≡ n = (let i : way.node ≡ Some f.node = h.node in cc) in
    move_want (fork_want graph p q f) (between_next graph c f.source.node (last_of p) f.dest.node (last_of q) (is_end (after_prefix p q)) (has_more (after_prefix q p)) (is_end (after_prefix (parent_of p) (parent_of q))) victim)
    ∙ ap (want_then (fork_want graph p q f)) (move_between graph c f.source.node (last_of p) f.dest.node (last_of q) (is_end (after_prefix p q)) (has_more (after_prefix q p)) (is_end (after_prefix (parent_of p) (parent_of q))) victim)
    ∙ want_then_same (fork_want graph p q f) _ (parents_move graph c (drop f.names p) (drop f.names q) (holdings_with (AtPair c p q) n behind (Some f) victim)) (between_is graph c p q f n behind victim h.source h.dest short)
    ∙ sym (fork_tie graph p q f (parents_move graph c (drop f.names p) (drop f.names q) (holdings_with (AtPair c p q) n behind (Some f) victim)) h.source h.dest)
    ∙ ap (λ (m : ℕ). behind_first f.behind (dir_then (graph.shape m)
    (first_of (step_move graph f.source.node (left (head_of p f.names f.source).walked (parent_of (drop f.names p))))
    (dir_then (graph.shape f.source.node)
    (first_of (step_move graph f.dest.node (left (head_of q f.names f.dest).walked (parent_of (drop f.names q))))
    (dir_then (graph.shape f.dest.node) (parents_move graph c (drop f.names p) (drop f.names q) (holdings_with (AtPair c p q) n behind (Some f) victim)))))))) same
    ∙ ap (λ (k : ℕ). behind_first f.behind (fork_move graph c (drop k p) (drop k q) (holdings_with (AtPair c p q) n behind (Some f) victim))) h.names

pub pair_is : (graph : Graph) (c : PairCall) (p q : Key) (way : Way) (behind : Option ℕ) (fork : Option ForkWay) (victim : Option ℕ) (n : ℕ) → way.node ≡ Some n → way.walked ≡ way.names → way.names ≡ length (common (parent_of p) (parent_of q)) → Forks (AtPair c p q) way fork
    → move_of (heads_next graph c p q (started fork n way.names) victim) ≡ behind_first (started fork n way.names).behind (fork_move graph c (drop way.walked p) (drop way.walked q) (holdings_with (AtPair c p q) n behind fork victim))
pair_is graph c p q way behind fork victim n at all names forks =
    pair_from graph c p q way behind (started fork n way.names) victim n (started_forked c p q way fork n at all names forks) at names
    ∙ ap (λ (st : Holdings). behind_first (started fork n way.names).behind (fork_move graph c (drop way.walked p) (drop way.walked q) st)) (sym (started_holdings (AtPair c p q) n way.names behind fork victim))
