-- On plans, by counts of walked names.
use Rattle.std.proofs.Common.{◌≡◌, ℕ, suc, ◌+◌, ◌≤◌, [], ◌∷◌, length, take, drop, slice_get, ◌⊎◌, inl, inr, Option, Some, None, refl, sym, ap, ap₂, subst, ◌∙◌, arith}
use Rattle.fs_names.specs.Keys.{Key, parent_of, last_of, after_prefix, has_more, is_end}
use Rattle.fs_names.specs.Names.{Name}
use Rattle.fs_names.specs.Parts.{left, common}
use Rattle.fs_names.specs.Shapes.{Shape, Dir, File}
use Rattle.fs_calls.specs.Forms.{Form, AtNode, AtEntry, AtPair, NodeCall, new_shape, EntryCall, PairCall}
use Rattle.fs_calls.specs.Forms as pairs
use Rattle.fs_calls.specs.declared.errno.Errno.{Errno}
use Rattle.fs_calls.specs.Rows.{as_dir, entry_fault}
use Rattle.fs_nodes.specs.Graphs.{Graph, entry_shape}
use Rattle.fs_walk.specs.declared.head.Head as count
use Rattle.fs_walk.specs.declared.want.Want.{Want}
use Rattle.fs_walk.specs.declared.want.Want.TheVariants.{Take, LetGo, Arrived, Fails as Lost}
use Rattle.fs_walk.specs.Ways.{Way, ForkWay, name_ahead, head_name}
use Rattle.fs_walk.specs.Wants.{name_want, step_want, then_want, at_dir, dir_want, way_want, want, fork_want, behind_or, heads_want}
use Rattle.fs_ops_effects.specs.Paths.{first_path}
use Rattle.fs_ops_effects.specs.Plans.{node_plan, entry_plan}
use Rattle.fs_ops_effects.specs.declared.plan.Plan.{Plan}
use Rattle.fs_ops_effects.specs.declared.plan.Plan.TheVariants.{Fails, Answers}
use Rattle.fs_machine.specs.Moves.{target, path_error, dir_error, walk_errno}
use Rattle.fs_machine.specs.Records.{Holdings}
use Rattle.fs_ops.specs.OpValue.{behind_in, Forks, IsForked, dropped, holdings_with, holdings_of}
use Rattle.fs_ops.specs.PlanOf.{parents_plan, pair_plan_at, plan_at, plan_by, SetsOut, IfFinish}
use Rattle.fs_ops.specs.code.NextByNodes.{take_or, want_next, heads_next, target_next, way_next_at}
use Rattle.fs_ops.specs.code.TakeAndLetGo.{started}
use Rattle.fs_ops.specs.declared.next.Next.{Next}
use Rattle.fs_ops.specs.declared.next.Next.TheVariants.{Take as Takes, LetGo as Leaves, Finish as Finishes, Return as Ends}
use Rattle.fs_ops.proofs.KeyLemmas.{parent_drop, drop_get, last_drop, target_drop, target_take}
use Rattle.fs_ops.proofs.HeadLemmas.{head_error, none_left, same_left, above_left, one_parent_left}
use Rattle.fs_ops.proofs.TookLemmas.{holdings_node, started_forked, started_holdings, ahead_some, ahead_none}
use Rattle.fs_ops.proofs.WantLemmas.{behind_arrived, left_head, then_arrived}
use Rattle.fs_ops.proofs.ForkLemmas.{parent_reached}
use Rattle.fs_ops.proofs.NextLemmas.{arrived_by, has_walked}

-- ---- the plan of a call that stands somewhere

-- with names left it fails there
pub lost_plan : (graph : Graph) (rest : Form) (st : Holdings) (z : Name) (l : Key) → target rest ≡ z ∷ l → plan_at graph rest st ≡ Fails (walk_errno (graph.shape st.node))
lost_plan graph (AtNode c p) st z l e = ap (λ (k : Key). node_plan (path_error k (graph.shape st.node)) st.node) e
lost_plan graph (AtEntry c p) st z l e = ap (λ (k : Key). entry_plan (entry_fault c (dir_error k (graph.shape st.node)) (graph.shape st.node) (entry_shape graph st.node (last_of p))) (new_shape c) st.node) e
lost_plan graph (AtPair c p q) st z l e = ap (λ (k : Key). pair_plan_at graph c p q st k) e

-- a call on two entries by its heads, and by what kept them from their parents
abbrev pub pair_by : Graph → PairCall → Key → Key → ForkWay → Option Errno → Option Errno → Plan
pair_by graph c p q heads a b =
    parents_plan graph c heads.source.node (last_of p) heads.dest.node (last_of q) (is_end (after_prefix p q)) (has_more (after_prefix q p)) (is_end (after_prefix (parent_of p) (parent_of q))) a b

-- what kept the first one, or else the second, is its error
lost_first : (graph : Graph) (c : PairCall) (p q : Key) (heads : ForkWay) (e : Errno) (b : Option Errno) → pair_by graph c p q heads (Some e) b ≡ Fails e
lost_first graph (pairs.Rename most) p q heads e b = refl
lost_first graph pairs.Exchange p q heads e b = refl

lost_second : (graph : Graph) (c : PairCall) (p q : Key) (heads : ForkWay) (e : Errno) → pair_by graph c p q heads None (Some e) ≡ Fails e
lost_second graph (pairs.Rename most) p q heads e = refl
lost_second graph pairs.Exchange p q heads e = refl

abbrev pub heads_plan : Graph → PairCall → Key → Key → ForkWay → Plan
heads_plan graph c p q heads = pair_by graph c p q heads (head_error graph p heads.names heads.source) (head_error graph q heads.names heads.dest)

module _ (graph : Graph) (way : Way) (n : ℕ) (behind : Option ℕ) (fork : Option ForkWay) (victim : Option ℕ) (arrived : way.walked ≡ way.names) where
  -- at its target: a call on a node
  pub node_is : (c : NodeCall) (p : Key) → way.names ≡ length p → plan_at graph (dropped way.walked (AtNode c p)) (holdings_with (AtNode c p) n behind fork victim) ≡ Answers n
  node_is c p names =
      let at : (holdings_with (AtNode c p) n behind fork victim).node ≡ n = holdings_node (AtNode c p) n behind fork victim in
      let none : drop way.walked p ≡ [] = none_left way.walked p (omega arith) in
      (λ i. node_plan (path_error (none i) (graph.shape (at i))) (at i))

  -- a call on an entry
  pub entry_is : (c : EntryCall) (p : Key) → way.names ≡ length (parent_of p)
      → plan_at graph (dropped way.walked (AtEntry c p)) (holdings_with (AtEntry c p) n behind fork victim) ≡ entry_plan (entry_fault c (as_dir None (graph.shape n)) (graph.shape n) (entry_shape graph n (last_of p))) (new_shape c) n
  entry_is c p names =
      let at : (holdings_with (AtEntry c p) n behind fork victim).node ≡ n = holdings_node (AtEntry c p) n behind fork victim in
      let none : parent_of (drop way.walked p) ≡ [] = parent_drop way.walked p ∙ none_left way.walked (parent_of p) (omega arith) in
      let last : last_of (drop way.walked p) ≡ last_of p = last_drop way.walked p (omega arith) in
      (λ i. entry_plan (entry_fault c (dir_error (none i) (graph.shape (at i))) (graph.shape (at i)) (entry_shape graph (at i) (last i))) (new_shape c) (at i))

  -- a call on two entries
  pub pair_is : (c : PairCall) (p q : Key) → way.node ≡ Some n → way.names ≡ length (common (parent_of p) (parent_of q)) → Forks (AtPair c p q) way fork
      → plan_at graph (dropped way.walked (AtPair c p q)) (holdings_with (AtPair c p q) n behind fork victim) ≡ heads_plan graph c p q (started fork n way.names)
  pair_is c p q node names forks =
      let heads : ForkWay = started fork n way.names in
      let forked : IsForked p q way heads = started_forked c p q way fork n node arrived names forks in
      let st : Holdings = holdings_with (AtPair c p q) n behind (Some heads) victim in
      let k : ℕ = heads.names in
      let none : target (dropped way.walked (AtPair c p q)) ≡ [] = target_drop way.walked (AtPair c p q) (omega arith) ∙ none_left way.walked (target (AtPair c p q)) (omega arith) in
      let short : k ≤ length (common (parent_of p) (parent_of q)) = omega (arith, forked.names) in
      let x : last_of (drop k p) ≡ last_of p = last_drop k p (omega (arith, forked.source)) in
      let y : last_of (drop k q) ≡ last_of q = last_drop k q (omega (arith, forked.dest)) in
      let s : is_end (after_prefix (drop k p) (drop k q)) ≡ is_end (after_prefix p q) = same_left p q k short in
      let u : has_more (after_prefix (drop k q) (drop k p)) ≡ has_more (after_prefix q p) = above_left p q k short in
      let o : is_end (after_prefix (parent_of (drop k p)) (parent_of (drop k q))) ≡ is_end (after_prefix (parent_of p) (parent_of q)) = one_parent_left p q k short in
      let a : Option Errno = head_error graph p k heads.source in
      let b : Option Errno = head_error graph q k heads.dest in
      ap (λ (l : Key). pair_plan_at graph c (drop way.walked p) (drop way.walked q) (holdings_with (AtPair c p q) n behind fork victim) l) none
      ∙ ap (λ (z : Holdings). pair_plan_at graph c (drop way.walked p) (drop way.walked q) z []) (started_holdings (AtPair c p q) n way.names behind fork victim)
      ∙ ap (λ (m : ℕ). pair_plan_at graph c (drop m p) (drop m q) st []) (sym forked.names)
      ∙ (λ i. parents_plan graph c heads.source.node (x i) heads.dest.node (y i) (s i) (u i) (o i) a b)

-- ---- the plan that comes with a next move

pub if_finish : (next : Next) (P Q : Plan → Type 0) → ((plan : Plan) → P plan → Q plan) → IfFinish next P → IfFinish next Q
if_finish (Takes n) P Q f h = tt
if_finish (Leaves n) P Q f h = tt
if_finish (Finishes plan) P Q f h = f plan h
if_finish Ends P Q f h = tt

if_take : (o : Option ℕ) (plan : Plan) (P : Plan → Type 0) → P plan → IfFinish (take_or o plan) P
if_take None plan P h = h
if_take (Some n) plan P h = tt

if_want : (w : Want) (next : Next) (P : Plan → Type 0) → (w ≡ Arrived → IfFinish next P) → ((e : Errno) → w ≡ Lost e → P (Fails e)) → IfFinish (want_next w next) P
if_want (Take n) next P h f = tt
if_want (LetGo n) next P h f = tt
if_want Arrived next P h f = h refl
if_want (Lost e) next P h f = f e refl

-- ---- errors of walks

name_lost : (s : Option Shape) (child : Option ℕ) (next : Want) (e : Errno) → then_want (name_want s child) next ≡ Lost e → walk_errno s ≡ e
name_lost None child next e h = cc
name_lost (Some (File bytes)) child next e h = cc
name_lost (Some (Dir names)) None next e h = cc
name_lost (Some (Dir names)) (Some n) next e h = absurd (cc)

dir_lost : (s : Option Shape) (e : Errno) → at_dir s ≡ Lost e → as_dir None s ≡ Some e
dir_lost None e h = cc
dir_lost (Some (File bytes)) e h = cc
dir_lost (Some (Dir names)) e h = absurd (cc)

-- a head that fails
head_lost : (graph : Graph) (p : Key) (k : ℕ) (head : count.Head) (e : Errno) → k + head.walked ≤ length (parent_of p) → dir_want graph head (head_name p k head) ≡ Lost e → head_error graph p k head ≡ Some e
head_lost graph p k head e h lost = by (head_name p k head) (ap (λ (l : Key). slice_get l head.walked) (parent_drop k p) ∙ drop_get k head.walked (parent_of p)) lost
  where
    rest : left (take head.walked (drop k p)) (parent_of (drop k p)) ≡ drop head.walked (parent_of (drop k p))
    rest = left_head k head.walked p h

    by : (name : Option Name) → slice_get (parent_of (drop k p)) head.walked ≡ name → then_want (step_want graph head.node name) (at_dir (graph.shape head.node)) ≡ Lost e → head_error graph p k head ≡ Some e
    by None is l = ap (λ (z : Key). dir_error z (graph.shape head.node)) (rest ∙ ahead_none (parent_of (drop k p)) head.walked is) ∙ dir_lost (graph.shape head.node) e l
    by (Some x) is l =
        ap (λ (z : Key). dir_error z (graph.shape head.node)) (rest ∙ ahead_some (parent_of (drop k p)) head.walked x is) ∙ ap (λ (f : Errno). Some f) (name_lost (graph.shape head.node) (graph.child head.node x) (at_dir (graph.shape head.node)) e l)

-- the first of two wants fails, or it has arrived and the second one fails
then_lost : (a b : Want) (e : Errno) → then_want a b ≡ Lost e → (a ≡ Lost e) ⊎ ((a ≡ Arrived) × (b ≡ Lost e))
then_lost (Take n) b e h = absurd (cc)
then_lost (LetGo n) b e h = absurd (cc)
then_lost Arrived b e h = inr (refl, h)
then_lost (Lost f) b e h = inl h

behind_lost : (behind : Option ℕ) (w : Want) (e : Errno) → behind_or behind w ≡ Lost e → w ≡ Lost e
behind_lost None w e h = h
behind_lost (Some n) w e h = absurd (cc)

-- ---- at the common directory of a call on two entries

module _ (graph : Graph) (c : PairCall) (p q : Key) (heads : ForkWay) (victim : Option ℕ) (source : heads.names + heads.source.walked ≤ length (parent_of p)) (dest : heads.names + heads.dest.walked ≤ length (parent_of q)) where
  abbrev source_error : Option Errno
  source_error = head_error graph p heads.names heads.source

  abbrev dest_error : Option Errno
  dest_error = head_error graph q heads.names heads.dest

  fails_first : (e : Errno) → source_error ≡ Some e → Fails e ≡ heads_plan graph c p q heads
  fails_first e h = sym (ap (λ (o : Option Errno). pair_by graph c p q heads o dest_error) h ∙ lost_first graph c p q heads e dest_error)

  fails_second : (e : Errno) → source_error ≡ None → dest_error ≡ Some e → Fails e ≡ heads_plan graph c p q heads
  fails_second e h g = sym (ap₂ (pair_by graph c p q heads) h g ∙ lost_second graph c p q heads e)

  abbrev source_want : Want
  source_want = dir_want graph heads.source (head_name p heads.names heads.source)

  abbrev dest_want : Want
  dest_want = dir_want graph heads.dest (head_name q heads.names heads.dest)

  -- one that fails
  pair_lost : ((e : Errno) → as_dir None (graph.shape heads.node) ≡ Some e → source_error ≡ Some e) → (e : Errno) → heads_want graph p q heads ≡ Lost e → Fails e ≡ heads_plan graph c p q heads
  pair_lost sets e lost = first (then_lost (at_dir (graph.shape heads.node)) (then_want source_want dest_want) e lost)
    where
      second : (source_want ≡ Lost e) ⊎ ((source_want ≡ Arrived) × (dest_want ≡ Lost e)) → Fails e ≡ heads_plan graph c p q heads
      second (inl h) = fails_first e (head_lost graph p heads.names heads.source e source h)
      second (inr h) = fails_second e (parent_reached graph p heads.names heads.source source h.0) (head_lost graph q heads.names heads.dest e dest h.1)

      first : (at_dir (graph.shape heads.node) ≡ Lost e) ⊎ ((at_dir (graph.shape heads.node) ≡ Arrived) × (then_want source_want dest_want ≡ Lost e)) → Fails e ≡ heads_plan graph c p q heads
      first (inl h) = fails_first e (sets e (dir_lost (graph.shape heads.node) e h))
      first (inr h) = second (then_lost source_want dest_want e h.1)

  -- and what comes with its next move
  pub pair_found : IfFinish (heads_next graph c p q heads victim) (λ plan. ((e : Errno) → as_dir None (graph.shape heads.node) ≡ Some e → source_error ≡ Some e) → plan ≡ heads_plan graph c p q heads)
  pair_found =
      if_want (fork_want graph p q heads) _ (λ plan. ((e : Errno) → as_dir None (graph.shape heads.node) ≡ Some e → source_error ≡ Some e) → plan ≡ heads_plan graph c p q heads)
      (λ there.
      let heads_there = (then_arrived (at_dir (graph.shape heads.node)) (then_want source_want dest_want) (behind_arrived heads.behind (heads_want graph p q heads) there)).1 in
      let both = then_arrived source_want dest_want heads_there in
      if_take _ (pair_by graph c p q heads None None) (λ plan. ((e : Errno) → as_dir None (graph.shape heads.node) ≡ Some e → source_error ≡ Some e) → plan ≡ heads_plan graph c p q heads)
      (λ sets. sym (ap₂ (pair_by graph c p q heads) (parent_reached graph p heads.names heads.source source both.0) (parent_reached graph q heads.names heads.dest dest both.1))))
      (λ e lost sets. pair_lost sets e (behind_lost heads.behind (heads_want graph p q heads) e lost))

-- ---- each call

-- at its target
target_found : (graph : Graph) (call : Form) (way : Way) (n : ℕ) (behind : Option ℕ) (fork : Option ForkWay) (victim : Option ℕ) → way.node ≡ Some n → way.names ≡ length (target call) → way.walked ≡ way.names → Forks call way fork
    → IfFinish (target_next graph call n way.names fork victim) (λ plan. SetsOut graph (dropped way.walked call) (holdings_with call n behind fork victim) → plan ≡ plan_at graph (dropped way.walked call) (holdings_with call n behind fork victim))
target_found graph (AtNode c p) way n behind fork victim node names arrived forks = λ sets. sym (node_is graph way n behind fork victim arrived c p names)
target_found graph (AtEntry c p) way n behind fork victim node names arrived forks =
    if_take _ _ (λ plan. Unit {0} → plan ≡ plan_at graph (dropped way.walked (AtEntry c p)) (holdings_with (AtEntry c p) n behind fork victim)) (λ sets. sym (entry_is graph way n behind fork victim arrived c p names))
target_found graph (AtPair c p q) way n behind fork victim node names arrived forks =
    let heads : ForkWay = started fork n way.names in
    let forked : IsForked p q way heads = started_forked c p q way fork n node arrived names forks in
    let st : Holdings = holdings_with (AtPair c p q) n behind (Some heads) victim in
    let same : n ≡ heads.node = (let i : way.node ≡ Some heads.node = forked.node in cc) in
    if_finish (heads_next graph c p q heads victim) (λ plan. ((e : Errno) → as_dir None (graph.shape heads.node) ≡ Some e → head_error graph p heads.names heads.source ≡ Some e) → plan ≡ heads_plan graph c p q heads) _
    (λ plan f sets.
    let there : SetsOut graph (AtPair c (drop heads.names p) (drop heads.names q)) st = subst (λ (m : ℕ). SetsOut graph (AtPair c (drop m p) (drop m q)) st) (sym forked.names) (subst (λ (z : Holdings). SetsOut graph (AtPair c (drop way.walked p) (drop way.walked q)) z) (started_holdings (AtPair c p q) n way.names behind fork victim) sets) in
    f (λ e h. there e (ap (λ (m : ℕ). as_dir None (graph.shape m)) same ∙ h)) ∙ sym (pair_is graph way n behind fork victim arrived c p q node names forks))
    (pair_found graph c p q heads victim forked.source forked.dest)

plain : (w : Want) → then_want w Arrived ≡ w
plain (Take m) = refl
plain (LetGo m) = refl
plain Arrived = refl
plain (Lost f) = refl

ahead_one : (l : Key) (k : ℕ) (x : Name) → slice_get l k ≡ Some x → drop k l ≡ x ∷ drop (k + 1) l
ahead_one l k x is = let more : suc k ≡ k + 1 = omega arith in ahead_some l k x is ∙ ap (λ (m : ℕ). x ∷ drop m l) more

-- on its way
walk_lost : (graph : Graph) (call : Form) (way : Way) (n : ℕ) (behind : Option ℕ) (fork : Option ForkWay) (victim : Option ℕ) (e : Errno) → way.node ≡ Some n → way.names ≡ length (target call) → way.walked ≤ way.names → want graph (first_path call) way ≡ Lost e
    → Fails e ≡ plan_at graph (dropped way.walked call) (holdings_with call n behind fork victim)
walk_lost graph call way n behind fork victim e node names within lost = by (name_ahead (first_path call) way) refl (behind_lost way.behind (step_want graph n (name_ahead (first_path call) way)) e (sym (ap (λ (o : Option ℕ). way_want graph o way.behind (name_ahead (first_path call) way)) node) ∙ lost))
  where
    st : Holdings
    st = holdings_with call n behind fork victim

    ahead : name_ahead (first_path call) way ≡ slice_get (target call) way.walked
    ahead = ap (λ (m : ℕ). slice_get (take m (first_path call)) way.walked) names ∙ ap (λ (l : Key). slice_get l way.walked) (target_take call)

    by : (name : Option Name) → name_ahead (first_path call) way ≡ name → step_want graph n name ≡ Lost e → Fails e ≡ plan_at graph (dropped way.walked call) st
    by None is l = absurd (cc)
    by (Some x) is l =
        let rest : target (dropped way.walked call) ≡ x ∷ drop (way.walked + 1) (target call) = target_drop way.walked call (omega arith) ∙ ahead_one (target call) way.walked x (sym ahead ∙ is) in
        sym (lost_plan graph (dropped way.walked call) st x (drop (way.walked + 1) (target call)) rest
        ∙ ap (λ (f : Errno). Fails f) (ap (λ (m : ℕ). walk_errno (graph.shape m)) (holdings_node call n behind fork victim) ∙ name_lost (graph.shape n) (graph.child n x) Arrived e (plain (name_want (graph.shape n) (graph.child n x)) ∙ l)))

-- the plan that comes with the next move of a call that its paths do not decide
pub way_found : (graph : Graph) (call : Form) (error : Option Errno) (way : Way) (fork : Option ForkWay) (victim : Option ℕ) (o : Option ℕ) → way.node ≡ o → error ≡ None → way.names ≡ length (target call) → way.walked ≤ way.names → Forks call way fork
    → IfFinish (way_next_at graph call way o fork victim)
    (λ plan. ((st : Holdings) → holdings_of call o (behind_in way.behind fork) fork victim ≡ Some st → SetsOut graph (dropped way.walked call) st) → plan ≡ plan_by graph error (dropped way.walked call) (holdings_of call o (behind_in way.behind fork) fork victim))
way_found graph call error way fork victim None node text names within forks = tt
way_found graph call error way None victim (Some n) node text names within forks =
    let st : Holdings = holdings_with call n way.behind None victim in
    let rest : Form = dropped way.walked call in
    let by : plan_at graph rest st ≡ plan_by graph error rest (Some st) = ap (λ (x : Option Errno). plan_by graph x rest (Some st)) (sym text) in
    if_want (want graph (first_path call) way) (target_next graph call n way.names None victim) _
    (λ there. if_finish (target_next graph call n way.names None victim) (λ plan. SetsOut graph rest st → plan ≡ plan_at graph rest st) _ (λ plan f sets. f (sets st refl) ∙ by)
    (target_found graph call way n way.behind None victim node names (has_walked graph call way n node names within there) forks))
    (λ e lost sets. walk_lost graph call way n way.behind None victim e node names within lost ∙ by)
way_found graph call error way (Some heads) victim (Some n) node text names within forks =
    let st : Holdings = holdings_with call n heads.behind (Some heads) victim in
    let rest : Form = dropped way.walked call in
    let by : plan_at graph rest st ≡ plan_by graph error rest (Some st) = ap (λ (x : Option Errno). plan_by graph x rest (Some st)) (sym text) in
    if_finish (target_next graph call n way.names (Some heads) victim) (λ plan. SetsOut graph rest st → plan ≡ plan_at graph rest st) _ (λ plan f sets. f (sets st refl) ∙ by)
    (target_found graph call way n heads.behind (Some heads) victim node names (arrived_by call way heads forks) forks)
