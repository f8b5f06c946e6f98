-- A call after a take, told by counts of names.
use Rattle.std.proofs.Common.{◌≡◌, ℕ, zero, suc, ◌+◌, ◌≤◌, ◌<◌, nat_lt, Bool, true, false, cond, [], ◌∷◌, ◌++◌, length, take, drop, slice_get, Option, Some, None, refl, sym, ap, ◌∙◌, subst₂, arith, add-one}
use Rattle.std.proofs.lemmas.Option.{slice_get_past, slice_get_within}
use Rattle.std.proofs.lemmas.Bool.Decides.{nat_tests}
use Rattle.fs_names.specs.Keys.{Key, parent_of}
use Rattle.fs_names.specs.Names.{Name, same_name}
use Rattle.fs_names.specs.Parts.{common}
use Rattle.fs_names.specs.declared.limits.Limits.{Limits}
use Rattle.fs_calls.specs.Forms.{form, Form, AtNode, AtEntry, AtPair, PairCall}
use Rattle.fs_calls.specs.code.Targets.{form_of}
use Rattle.fs_calls.specs.declared.target.Target.{Target}
use Rattle.fs_calls.specs.declared.target.Target.TheVariants.{Node, Entry, Pair}
use Rattle.fs_calls.specs.declared.call.Call.{Call}
use Rattle.fs_walk.specs.declared.head.Head as count
use Rattle.fs_walk.specs.declared.head.Side.{Side}
use Rattle.fs_walk.specs.declared.head.Side.TheVariants as sides
use Rattle.fs_walk.specs.Ways as ways
use Rattle.fs_walk.specs.Ways.{Way, ForkWay, new_fork, head_name, may_take, walking, fork_took, has_arrived, has_set_out}
use Rattle.fs_machine.specs.Moves.{target, inner, head_took, victim_took, step_or, target_took}
use Rattle.fs_machine.specs.Records.{Source, Dest, held_on}
use Rattle.fs_ops_effects.specs.Paths.{first_path}
use Rattle.fs_ops.specs.OpValue.{behind_in, dropped, head_of, holdings_with, op_value, Forks, IsForked}
use Rattle.fs_ops.specs.declared.stand.Stand.{Stand}
use Rattle.fs_ops.specs.code.TakeAndLetGo.{started, heads_after, walk_on, TakesTo}
use Rattle.fs_machine.specs.OpValues.{IsTook}
use Rattle.fs_ops.specs.declared.outcome.Outcome.{Outcome}
use Rattle.fs_ops.proofs.KeyLemmas.{parent_drop, drop_get, tail_drop, target_drop, target_take, take_get}
use Rattle.fs_ops.proofs.WantLemmas.{left_head}

-- with a name ahead, and without one
pub ahead_some : (l : Key) (k : ℕ) (x : Name) → slice_get l k ≡ Some x → drop k l ≡ x ∷ drop (suc k) l
ahead_some [] k x e = absurd (cc)
ahead_some (y ∷ l) zero x e = let s : y ≡ x = cc in ap (λ (z : Name). z ∷ l) s
ahead_some (y ∷ l) (suc k) x e = ahead_some l k x e

pub ahead_none : (l : Key) (k : ℕ) → slice_get l k ≡ None → drop k l ≡ []
ahead_none [] zero e = refl
ahead_none [] (suc k) e = refl
ahead_none (y ∷ l) zero e = absurd (cc)
ahead_none (y ∷ l) (suc k) e = ahead_none l k e

within_some : (l : Key) (k : ℕ) → k < length l → (x : Name) × (slice_get l k ≡ Some x)
within_some [] k h = absurd (omega arith)
within_some (x ∷ l) zero h = (x, refl)
within_some (x ∷ l) (suc k) h = within_some l k (omega arith)

take_more_suc : (l : Key) (k : ℕ) (x : Name) → slice_get l k ≡ Some x → take (suc k) l ≡ take k l ++ x ∷ []
take_more_suc [] k x e = absurd (cc)
take_more_suc (y ∷ l) zero x e = let s : y ≡ x = cc in ap (λ (z : Name). z ∷ []) s
take_more_suc (y ∷ l) (suc k) x e = ap (λ (z : Key). y ∷ z) (take_more_suc l k x e)

take_more : (l : Key) (k : ℕ) (x : Name) → slice_get l k ≡ Some x → take (k + 1) l ≡ take k l ++ x ∷ []
take_more l k x e = rw add-one (take_more_suc l k x e)

parent_some : (p : Key) (i : ℕ) (x : Name) → slice_get (parent_of p) i ≡ Some x → slice_get p i ≡ Some x
parent_some [] i x e = absurd (cc)
parent_some (y ∷ []) i x e = absurd (cc)
parent_some (y ∷ z ∷ p) zero x e = e
parent_some (y ∷ z ∷ p) (suc i) x e = parent_some (z ∷ p) i x e

inner_dropped : (k : ℕ) (call : Form) → inner (dropped k call) ≡ dropped (k + 1) call
inner_dropped k (AtNode c p) = ap (AtNode c) (tail_drop k p)
inner_dropped k (AtEntry c p) = ap (AtEntry c) (tail_drop k p)
inner_dropped k (AtPair c p q) = rw (tail_drop k p, tail_drop k q) refl

-- the root is taken
root_took : (limits : Limits) (call : Call) (stand : Stand) (reserved removed : Option ℕ) (outcome : Outcome) (n : ℕ) → stand.walk.node ≡ None → IsTook (op_value limits call stand reserved removed outcome) n (op_value limits call (walk_on stand n) reserved removed outcome)
root_took limits call stand reserved removed outcome n e seat place = rw e refl

-- the position of holdings
pub holdings_node : (call : Form) (n : ℕ) (behind : Option ℕ) (fork : Option ForkWay) (victim : Option ℕ) → (holdings_with call n behind fork victim).node ≡ n
holdings_node call n behind None victim = refl
holdings_node call n behind (Some f) victim = refl

-- a name further
step_by : (limits : Limits) (call : Call) (stand : Stand) (reserved removed : Option ℕ) (outcome : Outcome) (n m : ℕ) (x : Name) (l : Key) → stand.walk.node ≡ Some m
    → target (dropped stand.walk.walked (form limits call)) ≡ x ∷ l → take (stand.walk.walked + 1) (first_path (form limits call)) ≡ take stand.walk.walked (first_path (form limits call)) ++ x ∷ []
    → IsTook (op_value limits call stand reserved removed outcome) n (op_value limits call (walk_on stand n) reserved removed outcome)
step_by limits call stand reserved removed outcome n m x l at rest more seat place = rw (at, rest, more, inner_dropped stand.walk.walked (form limits call), holdings_node (form limits call) m (behind_in stand.walk.behind stand.fork) stand.fork stand.victim) refl

step_took : (limits : Limits) (call : Call) (stand : Stand) (reserved removed : Option ℕ) (outcome : Outcome) (n m : ℕ) → stand.walk.node ≡ Some m → stand.walk.names ≡ length (target (form limits call)) → stand.walk.walked < stand.walk.names
    → IsTook (op_value limits call stand reserved removed outcome) n (op_value limits call (walk_on stand n) reserved removed outcome)
step_took limits call stand reserved removed outcome n m at names less =
    let k = stand.walk.walked in
    let name : (x : Name) × (slice_get (target (form limits call)) k ≡ Some x) = within_some (target (form limits call)) k (omega arith) in
    let rest : target (dropped k (form limits call)) ≡ name.0 ∷ drop (suc k) (target (form limits call)) = target_drop k (form limits call) (omega arith) ∙ ahead_some (target (form limits call)) k name.0 name.1 in
    let whole : slice_get (first_path (form limits call)) k ≡ Some name.0 = sym (take_get (length (target (form limits call))) k (first_path (form limits call)) (omega arith)) ∙ (ap (λ (l : Key). slice_get l k) (target_take (form limits call)) ∙ name.1) in
    step_by limits call stand reserved removed outcome n m name.0 (drop (suc k) (target (form limits call))) at rest (take_more (first_path (form limits call)) k name.0 whole)

-- at the target
arrived_took : (limits : Limits) (call : Call) (stand new : Stand) (reserved removed : Option ℕ) (outcome : Outcome) (n m : ℕ) → stand.walk.node ≡ Some m → stand.walk.names ≡ length (target (form limits call)) → stand.walk.walked ≡ stand.walk.names → new.walk ≡ stand.walk
    → TakesTo (form limits call) stand.walk m n stand.fork stand.victim new.fork new.victim → IsTook (op_value limits call stand reserved removed outcome) n (op_value limits call new reserved removed outcome)
arrived_took limits call stand new reserved removed outcome n m at names all same to seat place =
    let rest : target (dropped stand.walk.walked (form limits call)) ≡ [] = target_drop stand.walk.walked (form limits call) (omega arith) ∙ ahead_none (target (form limits call)) stand.walk.walked (slice_get_past (target (form limits call)) stand.walk.walked (omega arith)) in
    rw (same, at, rest, to) refl

-- what a head that steps leaves behind, and where it is then
behind_is : (l : Key) (k n : ℕ) (x : Name) → slice_get l k ≡ Some x → held_on (take k l) n ≡ cond (nat_lt 0 k) (Some n) None
behind_is [] k n x e = absurd (cc)
behind_is (y ∷ l) zero n x e = refl
behind_is (y ∷ l) (suc k) n x e = let t : nat_lt 0 (suc k) ≡ true = grind (arith, nat_tests) in rw t refl

head_leaves : (p : Key) (names : ℕ) (head : count.Head) (x : Name) → slice_get (parent_of p) (names + head.walked) ≡ Some x → held_on (head_of p names head).walked head.node ≡ ways.head_held head
head_leaves p names head x e = behind_is (drop names p) head.walked head.node x (drop_get names head.walked p ∙ parent_some p (names + head.walked) x e)

head_stepped : (p : Key) (names : ℕ) (head : count.Head) (n : ℕ) (x : Name) → slice_get (parent_of p) (names + head.walked) ≡ Some x → head_took (head_of p names head) x n ≡ head_of p names (ways.head_took head n)
head_stepped p names head n x e =
    let at : slice_get (drop names p) head.walked ≡ Some x = drop_get names head.walked p ∙ parent_some p (names + head.walked) x e in
    rw (take_more (drop names p) head.walked x at) refl

-- what is behind the heads of a pair after a take: a victim leaves it as it is
abbrev left_behind : Key → Key → ForkWay → Option ℕ → ℕ → Option ℕ
left_behind p q fork behind n = cond (has_arrived p q fork) behind (fork_took p q fork n).behind

-- the heads of a pair after a take
heads_took : (c : PairCall) (p q : Key) (n m : ℕ) (behind : Option ℕ) (fork : ForkWay) (victim : Option ℕ) → fork.names + fork.source.walked ≤ length (parent_of p) → fork.names + fork.dest.walked ≤ length (parent_of q)
    → target_took (dropped fork.names (AtPair c p q)) (holdings_with (AtPair c p q) m behind (Some fork) victim) n ≡ holdings_with (AtPair c p q) m (left_behind p q fork behind n) (Some (fork_took p q fork n)) (cond (has_arrived p q fork) (Some n) victim)
heads_took c p q n m behind fork victim hs hd =
    rw (left_head fork.names fork.source.walked p hs, left_head fork.names fork.dest.walked q hd) (by_source (head_name p fork.names fork.source) refl)
  where
    names : (r : Key) (head : count.Head) → slice_get (parent_of (drop fork.names r)) head.walked ≡ head_name r fork.names head
    names r head = ap (λ (l : Key). slice_get l head.walked) (parent_drop fork.names r) ∙ drop_get fork.names head.walked (parent_of r)

    by_dest : (o : Option Name) → head_name q fork.names fork.dest ≡ o → head_name p fork.names fork.source ≡ None
        → step_or Source (drop fork.source.walked (parent_of (drop fork.names p))) (holdings_with (AtPair c p q) m behind (Some fork) victim) n (step_or Dest (drop fork.dest.walked (parent_of (drop fork.names q))) (holdings_with (AtPair c p q) m behind (Some fork) victim) n (victim_took (holdings_with (AtPair c p q) m behind (Some fork) victim) n))
        ≡ holdings_with (AtPair c p q) m (left_behind p q fork behind n) (Some (fork_took p q fork n)) (cond (has_arrived p q fork) (Some n) victim)
    by_dest None e f = rw (ahead_none (parent_of (drop fork.names p)) fork.source.walked (names p fork.source ∙ f), ahead_none (parent_of (drop fork.names q)) fork.dest.walked (names q fork.dest ∙ e), e, f) refl
    by_dest (Some x) e f =
        rw (ahead_none (parent_of (drop fork.names p)) fork.source.walked (names p fork.source ∙ f), ahead_some (parent_of (drop fork.names q)) fork.dest.walked x (names q fork.dest ∙ e), head_stepped q fork.names fork.dest n x e, head_leaves q fork.names fork.dest x e, e, f) refl

    by_source : (o : Option Name) → head_name p fork.names fork.source ≡ o
        → step_or Source (drop fork.source.walked (parent_of (drop fork.names p))) (holdings_with (AtPair c p q) m behind (Some fork) victim) n (step_or Dest (drop fork.dest.walked (parent_of (drop fork.names q))) (holdings_with (AtPair c p q) m behind (Some fork) victim) n (victim_took (holdings_with (AtPair c p q) m behind (Some fork) victim) n))
        ≡ holdings_with (AtPair c p q) m (left_behind p q fork behind n) (Some (fork_took p q fork n)) (cond (has_arrived p q fork) (Some n) victim)
    by_source None e = by_dest (head_name q fork.names fork.dest) refl e
    by_source (Some x) e = rw (ahead_some (parent_of (drop fork.names p)) fork.source.walked x (names p fork.source ∙ e), head_stepped p fork.names fork.source n x e, head_leaves p fork.names fork.source x e, e) refl

-- heads that have arrived stay as they are
arrived_stay : (p q : Key) (fork : ForkWay) (n : ℕ) → has_arrived p q fork ≡ true → fork_took p q fork n ≡ fork
arrived_stay p q fork n t = go (walking p q fork) refl
  where
    go : (side : Option Side) → walking p q fork ≡ side → fork_took p q fork n ≡ fork
    go None e = rw e refl
    go (Some side) e = let z : false ≡ true = rw e at t in absurd (cc)

behind_now : (p q : Key) (fork : ForkWay) (n : ℕ) → left_behind p q fork fork.behind n ≡ (fork_took p q fork n).behind
behind_now p q fork n = go (has_arrived p q fork) refl
  where
    go : (b : Bool) → has_arrived p q fork ≡ b → left_behind p q fork fork.behind n ≡ (fork_took p q fork n).behind
    go true t = rw (t, arrived_stay p q fork n t) refl
    go false t = rw t refl

-- the heads of a pair set out from its common directory
pub started_holdings : (call : Form) (n names : ℕ) (behind : Option ℕ) (fork : Option ForkWay) (victim : Option ℕ) → holdings_with call n behind fork victim ≡ holdings_with call n behind (Some (started fork n names)) victim
started_holdings call n names behind None victim = refl
started_holdings call n names behind (Some fork) victim = refl

pub common_short : (a b : Key) → (length (common a b) ≤ length a) × (length (common a b) ≤ length b)
common_short [] b = (omega arith, omega arith)
common_short (x ∷ a) [] = (omega arith, omega arith)
common_short (x ∷ a) (y ∷ b) = go (same_name x y) (common_short a b)
  where
    go : (s : Bool) → (length (common a b) ≤ length a) × (length (common a b) ≤ length b) → (length (cond s (x ∷ common a b) []) ≤ suc (length a)) × (length (cond s (x ∷ common a b) []) ≤ suc (length b))
    go true h = (omega arith, omega arith)
    go false h = (omega arith, omega arith)

pub started_forked : (c : PairCall) (p q : Key) (way : Way) (fork : Option ForkWay) (m : ℕ) → way.node ≡ Some m → way.walked ≡ way.names → way.names ≡ length (common (parent_of p) (parent_of q)) → Forks (AtPair c p q) way fork → IsForked p q way (started fork m way.names)
started_forked c p q way (Some fork) m at all names forks = forks
started_forked c p q way None m at all names forks =
    let short : (length (common (parent_of p) (parent_of q)) ≤ length (parent_of p)) × (length (common (parent_of p) (parent_of q)) ≤ length (parent_of q)) = common_short (parent_of p) (parent_of q) in
    record { node = at; names = sym all; arrived = all; source = omega arith; dest = omega arith }

-- the first to set out has walked a name
first_sets_out : (p q : Key) (m names n : ℕ) → has_arrived p q (new_fork m names) ≡ false → has_set_out (fork_took p q (new_fork m names) n) ≡ true
first_sets_out p q m names n t = go (walking p q (new_fork m names)) refl
  where
    go : (side : Option Side) → walking p q (new_fork m names) ≡ side → has_set_out (fork_took p q (new_fork m names) n) ≡ true
    go (Some sides.Source) e = rw e refl
    go (Some sides.Dest) e = rw e refl
    go None e = let z : true ≡ false = rw e at t in absurd (cc)

pair_stands : (c : PairCall) (p q : Key) (way : Way) (fork : Option ForkWay) (victim : Option ℕ) (n m : ℕ) → way.node ≡ Some m → way.walked ≡ way.names → way.names ≡ length (common (parent_of p) (parent_of q)) → Forks (AtPair c p q) way fork
    → TakesTo (AtPair c p q) way m n fork victim (heads_after p q fork m way.names n) (cond (has_arrived p q (started fork m way.names)) (Some n) victim)
pair_stands c p q way fork victim n m at all names forks = go fork forks
  where
    took : (f : Option ForkWay) → Forks (AtPair c p q) way f → (behind : Option ℕ)
        → target_took (dropped way.walked (AtPair c p q)) (holdings_with (AtPair c p q) m behind f victim) n
        ≡ holdings_with (AtPair c p q) m (left_behind p q (started f m way.names) behind n) (Some (fork_took p q (started f m way.names) n)) (cond (has_arrived p q (started f m way.names)) (Some n) victim)
    took f h behind =
        let heads = started_forked c p q way f m at all names h in
        rw (started_holdings (AtPair c p q) m way.names behind f victim, ← heads.names) (heads_took c p q n m behind (started f m way.names) victim heads.source heads.dest)

    go : (f : Option ForkWay) → Forks (AtPair c p q) way f → TakesTo (AtPair c p q) way m n f victim (heads_after p q f m way.names n) (cond (has_arrived p q (started f m way.names)) (Some n) victim)
    go (Some f) h = took (Some f) h f.behind ∙ ap (λ (b : Option ℕ). holdings_with (AtPair c p q) m b (Some (fork_took p q f n)) (cond (has_arrived p q f) (Some n) victim)) (behind_now p q f n)
    go None h = by (has_arrived p q (new_fork m way.names)) refl
      where
        by : (b : Bool) → has_arrived p q (new_fork m way.names) ≡ b → TakesTo (AtPair c p q) way m n None victim (heads_after p q None m way.names n) (cond (has_arrived p q (new_fork m way.names)) (Some n) victim)
        by true t = took None h way.behind ∙ rw (t, arrived_stay p q (new_fork m way.names) n t) refl
        by false t = took None h way.behind ∙ rw (t, first_sets_out p q m way.names n t) refl

pub pair_takes : (c : PairCall) (p q : Key) (way : Way) (fork fork_new : Option ForkWay) (victim victim_new : Option ℕ) (n m : ℕ) → way.node ≡ Some m → way.walked ≡ way.names → way.names ≡ length (common (parent_of p) (parent_of q)) → Forks (AtPair c p q) way fork
    → heads_after p q fork m way.names n ≡ fork_new → cond (has_arrived p q (started fork m way.names)) (Some n) victim ≡ victim_new → TakesTo (AtPair c p q) way m n fork victim fork_new victim_new
pair_takes c p q way fork fork_new victim victim_new n m at all names forks heads taken =
    subst₂ (λ (f : Option ForkWay) (v : Option ℕ). TakesTo (AtPair c p q) way m n fork victim f v) heads taken (pair_stands c p q way fork victim n m at all names forks)

-- which call on two entries it is, the heads do not ask
pub any_pair : (a c : PairCall) (p q : Key) (way : Way) (fork : Option ForkWay) → Forks (AtPair a p q) way fork → Forks (AtPair c p q) way fork
any_pair a c p q way None forks = tt
any_pair a c p q way (Some f) forks = forks

-- what the heads and the victim are after the first take from the common directory
pub set_out : (p q : Key) (fork : Option ForkWay) (n m names : ℕ) (first heads : ForkWay) (is_out : Bool) → fork ≡ None → first ≡ new_fork m names → heads ≡ fork_took p q first n → is_out ≡ has_set_out heads
    → heads_after p q fork m names n ≡ cond is_out (Some heads) None
set_out p q fork n m names first heads is_out none start took out = rw (none, out, took, start) refl

pub first_victim : (p q : Key) (fork : Option ForkWay) (n m names : ℕ) (first : ForkWay) (victim new : Option ℕ) → fork ≡ None → first ≡ new_fork m names → new ≡ cond (has_arrived p q first) (Some n) victim → cond (has_arrived p q (started fork m names)) (Some n) victim ≡ new
first_victim p q fork n m names first victim new none start is = rw (none, is, start) refl

-- and stay within their paths
parent_within : (p : Key) (i : ℕ) (x : Name) → slice_get (parent_of p) i ≡ Some x → i + 1 ≤ length (parent_of p)
parent_within p i x e = let h : i < length (parent_of p) = slice_get_within (parent_of p) i x e in omega arith

took_forked : (p q : Key) (way : Way) (fork : ForkWay) (n : ℕ) → IsForked p q way fork → IsForked p q way (fork_took p q fork n)
took_forked p q way fork n h = by_source (head_name p fork.names fork.source) refl (head_name q fork.names fork.dest) refl
  where
    by_source : (a : Option Name) → head_name p fork.names fork.source ≡ a → (b : Option Name) → head_name q fork.names fork.dest ≡ b → IsForked p q way (fork_took p q fork n)
    by_source (Some x) e b f =
        let r : fork.names + fork.source.walked + 1 ≤ length (parent_of p) = parent_within p (fork.names + fork.source.walked) x e in
        rw e (record { node = h.node; names = h.names; arrived = h.arrived; source = omega arith; dest = h.dest })
    by_source None e (Some x) f =
        let r : fork.names + fork.dest.walked + 1 ≤ length (parent_of q) = parent_within q (fork.names + fork.dest.walked) x f in
        rw (e, f) (record { node = h.node; names = h.names; arrived = h.arrived; source = h.source; dest = omega arith })
    by_source None e None f = rw (e, f) h

pub pair_forks : (c : PairCall) (p q : Key) (way : Way) (fork : Option ForkWay) (n m : ℕ) → way.node ≡ Some m → way.walked ≡ way.names → way.names ≡ length (common (parent_of p) (parent_of q)) → Forks (AtPair c p q) way fork
    → Forks (AtPair c p q) way (heads_after p q fork m way.names n)
pair_forks c p q way fork n m at all names forks = go fork (took_forked p q way (started fork m way.names) n (started_forked c p q way fork m at all names forks))
  where
    go : (f : Option ForkWay) → IsForked p q way (fork_took p q (started f m way.names) n) → Forks (AtPair c p q) way (heads_after p q f m way.names n)
    go (Some f) h = h
    go None h = by (has_set_out (fork_took p q (new_fork m way.names) n))
      where
        by : (b : Bool) → Forks (AtPair c p q) way (cond b (Some (fork_took p q (new_fork m way.names) n)) None)
        by true = h
        by false = tt

-- a walk that may take a node takes it
pub walk_took : (limits : Limits) (call : Call) (stand : Stand) (reserved removed : Option ℕ) (outcome : Outcome) (n : ℕ) → stand.walk.names ≡ length (target (form limits call)) → may_take stand.walk ≡ true → IsTook (op_value limits call stand reserved removed outcome) n (op_value limits call (walk_on stand n) reserved removed outcome)
walk_took limits call stand reserved removed outcome n names may = by_node stand.walk.node refl
  where
    by_node : (o : Option ℕ) → stand.walk.node ≡ o → IsTook (op_value limits call stand reserved removed outcome) n (op_value limits call (walk_on stand n) reserved removed outcome)
    by_node None e = root_took limits call stand reserved removed outcome n e
    by_node (Some m) e =
        let test : nat_lt stand.walk.walked stand.walk.names ≡ true = rw e at may in
        step_took limits call stand reserved removed outcome n m e names (grind (arith, nat_tests))

-- and one that may not has arrived
pub walk_arrived : (way : Way) → may_take way ≡ false → way.walked ≤ way.names → (way.walked ≡ way.names) × ((m : ℕ) × (way.node ≡ Some m))
walk_arrived way may within = by_node way.node refl
  where
    by_node : (o : Option ℕ) → way.node ≡ o → (way.walked ≡ way.names) × ((m : ℕ) × (way.node ≡ Some m))
    by_node None e = let wrong : true ≡ false = rw e at may in absurd (cc)
    by_node (Some m) e =
        let test : nat_lt way.walked way.names ≡ false = rw e at may in
        (grind (arith, nat_tests), (m, e))

pub target_took_is : (limits : Limits) (call : Call) (stand new : Stand) (reserved removed : Option ℕ) (outcome : Outcome) (n : ℕ) → stand.walk.names ≡ length (target (form limits call)) → may_take stand.walk ≡ false → stand.walk.walked ≤ stand.walk.names → new.walk ≡ stand.walk
    → ((at : ℕ) → stand.walk.node ≡ Some at → TakesTo (form limits call) stand.walk at n stand.fork stand.victim new.fork new.victim)
    → IsTook (op_value limits call stand reserved removed outcome) n (op_value limits call new reserved removed outcome)
target_took_is limits call stand new reserved removed outcome n names may within same to =
    let arrived : (stand.walk.walked ≡ stand.walk.names) × ((m : ℕ) × (stand.walk.node ≡ Some m)) = walk_arrived stand.walk may within in
    arrived_took limits call stand new reserved removed outcome n arrived.1.0 arrived.1.1 names arrived.0 same (to arrived.1.0 arrived.1.1)

-- ---- where a call goes, and its heads, are the same by every limit of files

pub target_any : (limits other : Limits) (aim : Target) → target (form_of limits aim) ≡ target (form_of other aim)
target_any limits other (Node c p) = refl
target_any limits other (Entry c p) = refl
target_any limits other (Pair c p q) = refl

pub forks_any : (limits other : Limits) (aim : Target) (way : Way) (fork : Option ForkWay) → Forks (form_of limits aim) way fork → Forks (form_of other aim) way fork
forks_any limits other aim way None h = tt
forks_any limits other (Node c p) way (Some fork) h = absurd h
forks_any limits other (Entry c p) way (Some fork) h = absurd h
forks_any limits other (Pair c p q) way (Some fork) h = h
