-- On finishes: a plan does what the machine's finish does, and it can be carried out.
use Rattle.std.proofs.Common.{◌≡◌, ℕ, ◌+◌, ◌≤◌, ◌<◌, Bool, true, false, List, [], ◌∷◌, length, take, drop, ◌-◌, ◌⊎◌, inl, inr, Option, Some, None, refl, sym, ap, ap₂, subst, ◌∙◌, ◌||◌, arith, length-drop}
use Rattle.std.specs.Prelude.{not, is_some, IfSome, IsSome}
use Rattle.fs_names.specs.Failures.{check, or_else, first_failure}
use Rattle.fs_names.specs.Names.{Name}
use Rattle.fs_names.specs.Keys.{Key, last_of, parent_of, after_prefix, has_more, is_end}
use Rattle.fs_names.specs.Parts.{common}
use Rattle.fs_names.specs.Shapes.{Shape, Dir, File, is_there, has_entries, is_full}
use Rattle.fs_names.specs.declared.limits.Limits.{Limits}
use Rattle.fs_nodes.specs.Graphs.{Graph, then_at, entry_shape, IsReached}
use Rattle.fs_nodes.specs.Seen.{Seen, IsReal}
use Rattle.fs_calls.specs.Forms.{Form, AtNode, AtEntry, AtPair, by_text, by_paths, form, new_shape, PairCall, EntryCall}
use Rattle.fs_calls.proofs.FormLemmas.{by_text_any}
use Rattle.fs_calls.specs.Forms as forms
use Rattle.fs_calls.specs.Rows.{Keep, answered, edit_of, as_dir, entry_errors, entry_fault, place_errors, rename_fault, exchange_fault}
use Rattle.fs_calls.specs.declared.call.Call.{Call}
use Rattle.fs_calls.specs.declared.errno.Errno.{Errno}
use Rattle.fs_calls.specs.declared.errno.Errno.TheVariants.{Enoent, Eexist, Enospc}
use Rattle.fs_calls.specs.declared.reply.Reply.TheVariants.{Failed, Done}
use Rattle.fs_walk.specs.Ways.{Way, ForkWay}
use Rattle.fs_ops_effects.specs.declared.finish.Finish.{Finish}
use Rattle.fs_ops_effects.specs.declared.plan.Route.{Route}
use Rattle.fs_ops_effects.specs.declared.plan.Plan.{Plan}
use Rattle.fs_ops_effects.specs.declared.plan.Plan.TheVariants.{Fails, Stays, Answers, Adds, Removes, Moves, Replaces, Swaps}
use Rattle.fs_ops_effects.specs.Endings.{IsEffect}
use Rattle.fs_ops_effects.specs.Paths.{last_name, new_name}
use Rattle.fs_ops_effects.specs.Plans.{node_plan, entry_plan, pair_plan, moving, moves, swapping, along, between, carried, added, removed, moved, swapped, Changes, CanCarryOut, CanMove, CanSwap}
use Rattle.fs_machine.specs.Finishes.{Effect, no_effect, entry_effect, move_effect, swap_effect, effect_at, effect_of, finish}
use Rattle.fs_machine.specs.Moves.{target, path_error, dir_error, there_by}
use Rattle.fs_machine.specs.Records.{Holdings, Record, Finished, taken_if}
use Rattle.fs_machine.specs.OpValues.{OpValue, CanFinish, HeadsApart, MovesApart, SpareIf, IsFinished, graph_after, record_of}
use Rattle.fs_ops.specs.declared.outcome.Outcome.{Outcome}
use Rattle.fs_ops.specs.declared.outcome.Outcome.TheVariants.{Fixed}
use Rattle.fs_ops.specs.OpValue.{behind_in, dropped, holdings_of, holdings_with, op_value, stands, with_held, IsForked, Forks, IsOp}
use Rattle.fs_ops.specs.declared.stand.Stand.{Stand}
use Rattle.fs_ops.proofs.HeldLemmas.{none_went}
use Rattle.fs_ops.specs.PlanOf.{pair_plan_at, plan_at, plan_by, plan_of, IsPlan}
use Rattle.fs_ops.specs.code.NextByNodes.{route_by}
use Rattle.fs_ops.specs.code.TakeAndLetGo.{started}
use Rattle.fs_ops.proofs.KeyLemmas.{last_drop, target_drop}
use Rattle.fs_ops.proofs.HeadLemmas.{head_error, text_named, is_parent, head_dir, heads_apart, heads_below, heads_beside}
use Rattle.fs_ops.proofs.PlanLemmas.{pair_by, lost_plan, node_is, entry_is, pair_is}
use Rattle.fs_ops.proofs.TookLemmas.{common_short, holdings_node, started_forked, started_holdings}

-- ---- a plan does what the machine's finish does

-- by what is left of the call
entry_carried : (graph : Graph) (c : EntryCall) (p : Key) (n : ℕ) (route : Route) (reserved : Option ℕ) (fault : Option Errno) (new : Option Shape) → carried graph (AtEntry c p) route reserved (entry_plan fault new n) ≡ entry_effect graph n (last_of p) reserved (answered fault Keep Done (edit_of new))
entry_carried graph c p n route None (Some e) new = refl
entry_carried graph c p n route (Some m) (Some e) new = refl
entry_carried graph c p n route None None (Some s) = refl
entry_carried graph c p n route (Some m) None (Some s) = refl
entry_carried graph c p n route None None None = refl
entry_carried graph c p n route (Some m) None None = refl

-- the route of a call on two entries where it stands
abbrev route_at : Holdings → Route
route_at st = record { source = st.source.node; dest = st.dest.node; victim = st.victim }

rename_carried : (graph : Graph) (most : ℕ) (p q : Key) (st : Holdings) (replaces : Bool) (reserved : Option ℕ) (fault : Option Errno) (same_path : Bool) (child : Option ℕ)
    → carried graph (AtPair (forms.Rename most) p q) (route_at st) reserved (pair_plan fault same_path (moving replaces child))
    ≡ move_effect graph st (last_of p) (last_of q) reserved (answered fault false Done (not same_path)).0 (answered fault false Done (not same_path)).1 child
rename_carried graph most p q st replaces reserved (Some e) same_path child = refl
rename_carried graph most p q st replaces reserved None true child = refl
rename_carried graph most p q st replaces reserved None false None = refl
rename_carried graph most p q st true reserved None false (Some n) = refl
rename_carried graph most p q st false reserved None false (Some n) = refl

exchange_carried : (graph : Graph) (p q : Key) (st : Holdings) (reserved : Option ℕ) (fault : Option Errno) (same_path : Bool) (one other : Option ℕ)
    → carried graph (AtPair forms.Exchange p q) (route_at st) reserved (pair_plan fault same_path (swapping one other))
    ≡ swap_effect graph st (last_of p) (last_of q) reserved (answered fault false Done (not same_path)).0 (answered fault false Done (not same_path)).1 one other
exchange_carried graph p q st reserved (Some e) same_path one other = refl
exchange_carried graph p q st reserved None true one other = refl
exchange_carried graph p q st reserved None false None other = refl
exchange_carried graph p q st reserved None false (Some n) None = refl
exchange_carried graph p q st reserved None false (Some n) (Some m) = refl

carried_at : (graph : Graph) (rest : Form) (st : Holdings) (reserved : Option ℕ) → carried graph rest (route_at st) reserved (plan_at graph rest st) ≡ effect_at graph rest st reserved
carried_at graph (AtNode c []) st reserved = refl
carried_at graph (AtNode c (x ∷ p)) st reserved = refl
carried_at graph (AtEntry c p) st reserved = entry_carried graph c p st.node (route_at st) reserved (entry_fault c (dir_error (parent_of p) (graph.shape st.node)) (graph.shape st.node) (entry_shape graph st.node (last_of p))) (new_shape c)
carried_at graph (AtPair (forms.Rename most) p q) st reserved = by (target (AtPair (forms.Rename most) p q))
  where
    by : (l : Key) → carried graph (AtPair (forms.Rename most) p q) (route_at st) reserved (pair_plan_at graph (forms.Rename most) p q st l) ≡ Rattle.fs_machine.specs.Finishes.rename_effect graph most p q st reserved l
    by (z ∷ l) = refl
    by [] = rename_carried graph most p q st (is_some (graph.child st.dest.node (last_of q))) reserved _ (is_end (after_prefix p q)) (graph.child st.source.node (last_of p))
carried_at graph (AtPair forms.Exchange p q) st reserved = by (target (AtPair forms.Exchange p q))
  where
    by : (l : Key) → carried graph (AtPair forms.Exchange p q) (route_at st) reserved (pair_plan_at graph forms.Exchange p q st l) ≡ Rattle.fs_machine.specs.Finishes.exchange_effect graph p q st reserved l
    by (z ∷ l) = refl
    by [] = exchange_carried graph p q st reserved _ (is_end (after_prefix p q)) (graph.child st.source.node (last_of p)) (graph.child st.dest.node (last_of q))

-- and by the whole call, whose last names are the same
names_carried : (graph : Graph) (c : PairCall) (p q x y : Key) (route : Route) (reserved : Option ℕ) → last_of p ≡ last_of x → last_of q ≡ last_of y → (plan : Plan) → carried graph (AtPair c p q) route reserved plan ≡ carried graph (AtPair c x y) route reserved plan
names_carried graph c p q x y route reserved e f (Fails errno) = refl
names_carried graph c p q x y route reserved e f Stays = refl
names_carried graph c p q x y route reserved e f (Answers n) = refl
names_carried graph c p q x y route reserved e f (Adds dir) = ap (λ (z : Name). added graph dir z reserved) e
names_carried graph c p q x y route reserved e f (Removes dir) = ap (λ (z : Name). removed graph dir z reserved) e
names_carried graph c p q x y route reserved e f (Moves n) = ap₂ (λ (z w : Name). moved graph (along route n false) z w reserved) e f
names_carried graph c p q x y route reserved e f (Replaces n) = ap₂ (λ (z w : Name). moved graph (along route n true) z w reserved) e f
names_carried graph c p q x y route reserved e f (Swaps n m) = ap₂ (λ (z w : Name). swapped graph (between route n m) z w reserved) e f

name_carried : (graph : Graph) (c : EntryCall) (p x : Key) (route : Route) (reserved : Option ℕ) → last_of p ≡ last_of x → (plan : Plan) → carried graph (AtEntry c p) route reserved plan ≡ carried graph (AtEntry c x) route reserved plan
name_carried graph c p x route reserved e (Fails errno) = refl
name_carried graph c p x route reserved e Stays = refl
name_carried graph c p x route reserved e (Answers n) = refl
name_carried graph c p x route reserved e (Adds dir) = ap (λ (z : Name). added graph dir z reserved) e
name_carried graph c p x route reserved e (Removes dir) = ap (λ (z : Name). removed graph dir z reserved) e
name_carried graph c p x route reserved e (Moves n) = ap₂ (λ (z w : Name). moved graph (along route n false) z w reserved) e e
name_carried graph c p x route reserved e (Replaces n) = ap₂ (λ (z w : Name). moved graph (along route n true) z w reserved) e e
name_carried graph c p x route reserved e (Swaps n m) = ap₂ (λ (z w : Name). swapped graph (between route n m) z w reserved) e e

carried_whole : (graph : Graph) (call : Form) (k : ℕ) (st : Holdings) (route : Route) (reserved : Option ℕ) → k ≤ length (target call) → carried graph call route reserved (plan_at graph (dropped k call) st) ≡ carried graph (dropped k call) route reserved (plan_at graph (dropped k call) st)
carried_whole graph (AtNode c p) k st route reserved h = by (path_error (drop k p) (graph.shape st.node))
  where
    by : (o : Option Errno) → carried graph (AtNode c p) route reserved (node_plan o st.node) ≡ carried graph (AtNode c (drop k p)) route reserved (node_plan o st.node)
    by None = refl
    by (Some e) = refl
carried_whole graph (AtEntry c p) k st route reserved h = name_carried graph c p (drop k p) route reserved (sym (last_drop k p h)) (plan_at graph (AtEntry c (drop k p)) st)
carried_whole graph (AtPair c p q) k st route reserved h =
    let s = common_short (parent_of p) (parent_of q) in
    names_carried graph c p q (drop k p) (drop k q) route reserved (sym (last_drop k p (omega arith))) (sym (last_drop k q (omega arith))) (plan_at graph (AtPair c (drop k p) (drop k q)) st)

-- a finish by the paths, by what is left of the call and where it stands
abbrev finished_by : Graph → Option Errno → Form → Option Holdings → Option ℕ → Effect
finished_by graph (Some e) rest st reserved = no_effect (Failed e) graph reserved
finished_by graph None rest None reserved = no_effect (Failed Enoent) graph reserved
finished_by graph None rest (Some st) reserved = effect_at graph rest st reserved

carried_by : (graph : Graph) (call : Form) (k : ℕ) (e : Option Errno) (st : Option Holdings) (route : Route) (reserved : Option ℕ) → ((s : Holdings) → st ≡ Some s → route ≡ route_at s) → k ≤ length (target call) → carried graph call route reserved (plan_by graph e (dropped k call) st) ≡ finished_by graph e (dropped k call) st reserved
carried_by graph call k (Some e) st route reserved at h = refl
carried_by graph call k None None route reserved at h = refl
carried_by graph call k None (Some st) route reserved at h =
    ap (λ (z : Route). carried graph call z reserved (plan_at graph (dropped k call) st)) (at st refl) ∙ carried_whole graph call k st (route_at st) reserved h ∙ carried_at graph (dropped k call) st reserved

finish_by : (graph : Graph) (op : Record) (e : Option Errno) (st : Option Holdings) → effect_of graph op e st ≡ finished_by graph e op.remaining st op.reserved
finish_by graph op (Some e) st = refl
finish_by graph op None None = refl
finish_by graph op None (Some st) = refl

-- the route by what the code of a call keeps
route_with : (call : Form) (n : ℕ) (behind : Option ℕ) (fork : Option ForkWay) (victim : Option ℕ) → route_by (Some n) fork victim ≡ route_at (holdings_with call n behind fork victim)
route_with call n behind None victim = refl
route_with call n behind (Some heads) victim = refl

route_there : (call : Form) (o behind : Option ℕ) (fork : Option ForkWay) (victim : Option ℕ) (st : Holdings) → holdings_of call o behind fork victim ≡ Some st → route_by o fork victim ≡ route_at st
route_there call None behind fork victim st e = absurd (cc)
route_there call (Some n) behind fork victim st e = let s : holdings_with call n behind fork victim ≡ st = cc in route_with call n behind fork victim ∙ ap route_at s

-- the record and the graph after a finish
module _ (graph : Graph) (limits : Limits) (call : Call) (stand : Stand) (reserved removed : Option ℕ) (error : Option Errno) (outcome : Outcome) (op : IsOp limits call error stand outcome)
    (plan : Plan) (is : plan ≡ plan_of graph (op_value limits call stand reserved removed outcome)) (done : Finish) (new : Graph) (made : IsEffect (carried graph (form limits call) (route_by stand.walk.node stand.fork stand.victim) reserved plan) done new) where
  abbrev before : OpValue
  before = op_value limits call stand reserved removed outcome

  effect_is : (seat : ℕ) (place : Option ℕ) → carried graph (form limits call) (route_by stand.walk.node stand.fork stand.victim) reserved plan ≡ finish graph (record_of seat place before)
  effect_is seat place =
      let h : stand.walk.walked ≤ length (target (form limits call)) = omega (arith, op.within, op.names) in
      ap (carried graph (form limits call) (route_by stand.walk.node stand.fork stand.victim) reserved) is
      ∙ carried_by graph (form limits call) stand.walk.walked (by_paths call) before.holdings (route_by stand.walk.node stand.fork stand.victim) reserved (route_there (form limits call) stand.walk.node (behind_in stand.walk.behind stand.fork) stand.fork stand.victim) h
      ∙ sym (finish_by graph (record_of seat place before) (by_paths call) before.holdings)

  pub finished_is : (held : List ℕ) → held ≡ taken_if before.holdings → IsFinished graph before (with_held (Fixed done.replies held) (op_value limits call stand done.reserved done.removed (Fixed done.replies held)))
  finished_is held all seat place =
      let e = effect_is seat place in
      let r : done.replies ≡ (finish graph (record_of seat place before)).reply = made.reply ∙ ap (λ (m : Effect). m.reply) e in
      let s : done.reserved ≡ (finish graph (record_of seat place before)).reserved = made.reserved ∙ ap (λ (m : Effect). m.reserved) e in
      let t : done.removed ≡ (finish graph (record_of seat place before)).removed = made.removed ∙ ap (λ (m : Effect). m.removed) e in
      (λ i. record {
        seat = seat;
        call = call;
        walked = before.walked;
        remaining = before.remaining;
        holdings = none_went done.replies held before.holdings all i;
        phase = Finished (r i);
        reserved = s i;
        removed = t i;
      })

  pub graph_is : new ≡ graph_after graph before
  graph_is = made.graph_is ∙ ap (λ (m : Effect). m.graph) (effect_is 0 None)

pub finished_as : (graph : Graph) (old seen new : OpValue) → old ≡ seen → IsFinished graph old new → IsFinished graph seen new
finished_as graph old seen new e h = subst (λ (w : OpValue). IsFinished graph w new) e h

-- ---- a plan can be carried out

both_none : (a b : Option Errno) → or_else a b ≡ None → (a ≡ None) × (b ≡ None)
both_none None b e = (refl, e)
both_none (Some f) b e = absurd (cc)

makes_free : (full : Bool) (there : Option Shape) → first_failure (check (is_there there) Eexist ∷ check full Enospc ∷ []) ≡ None → there ≡ None
makes_free full None e = refl
makes_free full (Some s) e = absurd (cc)

unlinks_bare : (parent : Option Shape) (there : Option Shape) → first_failure (entry_errors forms.Unlink parent there) ≡ None → (is_there there ≡ true) × (has_entries there ≡ false)
unlinks_bare parent None e = absurd (cc)
unlinks_bare parent (Some (Dir l)) e = absurd (cc)
unlinks_bare parent (Some (File bytes)) e = (refl, refl)

removes_bare : (parent : Option Shape) (there : Option Shape) → first_failure (entry_errors forms.Rmdir parent there) ≡ None → (is_there there ≡ true) × (has_entries there ≡ false)
removes_bare parent None e = absurd (cc)
removes_bare parent (Some (Dir [])) e = (refl, refl)
removes_bare parent (Some (Dir (x ∷ l))) e = absurd (cc)
removes_bare parent (Some (File bytes)) e = absurd (cc)

-- what an entry names
child_free : (store : Seen) (n : ℕ) (x : Name) → IsReal store → entry_shape store.graph n x ≡ None → store.graph.child n x ≡ None
child_free store n x real e = by (store.graph.child n x) refl
  where
    by : (o : Option ℕ) → store.graph.child n x ≡ o → o ≡ None
    by None k = refl
    by (Some m) k = let s = real.to_used n m x k in let z : ◌≡◌ {A = Option Shape} None (Some s.0) = sym e ∙ ap (λ (o : Option ℕ). then_at o store.graph.shape) k ∙ s.1 in absurd (cc)

bare_if : (o : Option ℕ) (shapes : ℕ → Option Shape) → has_entries (then_at o shapes) ≡ false → IfSome o (λ n. has_entries (shapes n) ≡ false)
bare_if None shapes e = tt
bare_if (Some n) shapes e = e

there_if : (o : Option ℕ) (shapes : ℕ → Option Shape) → is_there (then_at o shapes) ≡ true → IsSome o
there_if None shapes e = absurd (cc)
there_if (Some n) shapes e = refl

-- a path with names has a last one
last_named : (p : Key) → 0 < length p → last_name p ≡ Some (last_of p)
last_named [] h = absurd (omega (arith, h))
last_named (x ∷ p) h = refl

-- a call on an entry
module _ (store : Seen) (p : Key) (n : ℕ) (route : Route) (reserved : Option ℕ) (named : 0 < length p) (spare : SpareIf store.graph reserved) (other : reserved ≡ Some n → ⊥) where
  abbrev there : Option Shape
  there = entry_shape store.graph n (last_of p)

  can_add : (c : EntryCall) → new_name (AtEntry c p) ≡ last_name p → IsReal store → as_dir None (store.graph.shape n) ≡ None → there ≡ None → CanCarryOut store (AtEntry c p) route reserved (Adds n)
  can_add c name real dir free = (named, name ∙ last_named p named, record { real = real; dir = is_parent (store.graph.shape n) dir; absent = child_free store n (last_of p) real free; spare = spare; other = other })

  can_remove : (c : EntryCall) → (is_there there ≡ true) × (has_entries there ≡ false) → CanCarryOut store (AtEntry c p) route reserved (Removes n)
  can_remove c h = (named, record { there = there_if (store.graph.child n (last_of p)) store.graph.shape h.0; bare = bare_if (store.graph.child n (last_of p)) store.graph.shape h.1 })

  entry_can : (c : EntryCall) (fault : Option Errno) → entry_fault c (as_dir None (store.graph.shape n)) (store.graph.shape n) there ≡ fault → Changes (entry_plan fault (new_shape c) n) (IsReal store)
      → CanCarryOut store (AtEntry c p) route reserved (entry_plan fault (new_shape c) n)
  entry_can c (Some e) h real = tt
  entry_can (forms.Mkdir most) None h real = let b = both_none (as_dir None (store.graph.shape n)) _ h in can_add (forms.Mkdir most) refl real b.0 (makes_free (is_full most (store.graph.shape n)) there b.1)
  entry_can (forms.Mknod most) None h real = let b = both_none (as_dir None (store.graph.shape n)) _ h in can_add (forms.Mknod most) refl real b.0 (makes_free (is_full most (store.graph.shape n)) there b.1)
  entry_can forms.Unlink None h real = can_remove forms.Unlink (unlinks_bare (store.graph.shape n) there (both_none (as_dir None (store.graph.shape n)) _ h).1)
  entry_can forms.Rmdir None h real = can_remove forms.Rmdir (removes_bare (store.graph.shape n) there (both_none (as_dir None (store.graph.shape n)) _ h).1)

-- what a rename may replace has no entries
place_bare : (s t : Option Shape) (room : Bool) → first_failure (place_errors s t room) ≡ None → has_entries t ≡ false
place_bare s None room e = refl
place_bare s (Some (File bytes)) room e = refl
place_bare s (Some (Dir [])) room e = refl
place_bare s (Some (Dir (x ∷ l))) room e = absurd (full s e)
  where
    full : (s : Option Shape) → first_failure (place_errors s (Some (Dir (x ∷ l))) room) ≡ None → ⊥
    full None h = cc
    full (Some (Dir m)) h = cc
    full (Some (File bytes)) h = cc

there_bare : (above : Bool) (there : Option Shape) → has_entries (there_by above there) ≡ false → has_entries there ≡ false
there_bare true there e = absurd (cc)
there_bare false there e = e

-- a rename
module _ (store : Seen) (most : ℕ) (p q : Key) (heads : ForkWay) (m : ℕ) (behind victim reserved : Option ℕ) (text : by_text (AtPair (forms.Rename most) p q) ≡ None) (short : heads.names ≤ length (common (parent_of p) (parent_of q)))
    (source : heads.names + heads.source.walked ≤ length (parent_of p)) (dest : heads.names + heads.dest.walked ≤ length (parent_of q))
    (apart : heads.source.node ≡ heads.dest.node → take heads.source.walked (drop heads.names p) ≡ take heads.dest.walked (drop heads.names q))
    (below : MovesApart store.graph (AtPair (forms.Rename most) (drop heads.names p) (drop heads.names q)) (holdings_with (AtPair (forms.Rename most) p q) m behind (Some heads) victim)) where
  abbrev a : Option Errno
  a = head_error store.graph p heads.names heads.source

  abbrev b : Option Errno
  b = head_error store.graph q heads.names heads.dest

  abbrev from : Option Shape
  from = entry_shape store.graph heads.source.node (last_of p)

  abbrev to : Option Shape
  to = there_by (has_more (after_prefix q p)) (entry_shape store.graph heads.dest.node (last_of q))

  abbrev room : Bool
  room = is_end (after_prefix (parent_of p) (parent_of q)) || not (is_full most (store.graph.shape heads.dest.node))

  abbrev replaces : Bool
  replaces = is_some (store.graph.child heads.dest.node (last_of q))

  abbrev route : Route
  route = record { source = heads.source.node; dest = heads.dest.node; victim = victim }

  can_move : (n : ℕ) → is_end (after_prefix p q) ≡ false → rename_fault a b from false to room ≡ None → store.graph.child heads.source.node (last_of p) ≡ Some n → IsReal store
      → (0 < length p) × (0 < length q) × CanMove store (along route n replaces) (last_of p) (last_of q)
  can_move n other none child real =
      let named = text_named (forms.Rename most) p q text in
      let one = both_none a _ none in
      let two = both_none b _ one.1 in
      let rest = both_none (Rattle.fs_names.specs.Failures.check (Rattle.fs_names.specs.Shapes.is_missing from) Enoent) _ two.1 in (
        named.0,
        named.1,
        record {
          real = real;
          there = child;
          dir = head_dir _ (store.graph.shape heads.dest.node) two.0;
          replaces = refl;
          bare = bare_if (store.graph.child heads.dest.node (last_of q)) store.graph.shape (there_bare (has_more (after_prefix q p)) (entry_shape store.graph heads.dest.node (last_of q)) (place_bare from to room rest.1));
          apart = λ n l. (let same : is_end (after_prefix p q) ≡ true = heads_apart store.graph (forms.Rename most) p q heads text short source dest one.0 two.0 apart n l in cc);
          below = heads_below store.graph (forms.Rename most) p q heads text short source dest one.0 two.0 most m behind victim below n child;
        },
      )

  can_moves : (n : ℕ) (r : Bool) → (0 < length p) × (0 < length q) × CanMove store (along route n r) (last_of p) (last_of q) → CanCarryOut store (AtPair (forms.Rename most) p q) route reserved (moves r n)
  can_moves n true h = (h.0, h.1, last_named q h.1, h.2)
  can_moves n false h = (h.0, h.1, last_named q h.1, h.2)

  real_of : (r : Bool) (n : ℕ) → Changes (moves r n) (IsReal store) → IsReal store
  real_of true n h = h
  real_of false n h = h

  rename_can_by : (same_path : Bool) → is_end (after_prefix p q) ≡ same_path → (fault : Option Errno) → rename_fault a b from same_path to room ≡ fault → (o : Option ℕ) → store.graph.child heads.source.node (last_of p) ≡ o
      → Changes (pair_plan fault same_path (moving replaces o)) (IsReal store) → CanCarryOut store (AtPair (forms.Rename most) p q) route reserved (pair_plan fault same_path (moving replaces o))
  rename_can_by same_path e (Some f) h o k real = tt
  rename_can_by true e None h o k real = tt
  rename_can_by false e None h None k real = tt
  rename_can_by false e None h (Some n) k real = can_moves n replaces (can_move n e h k (real_of replaces n real))

  rename_can : Changes (pair_by store.graph (forms.Rename most) p q heads a b) (IsReal store) → CanCarryOut store (AtPair (forms.Rename most) p q) route reserved (pair_by store.graph (forms.Rename most) p q heads a b)
  rename_can real = rename_can_by (is_end (after_prefix p q)) refl (rename_fault a b from (is_end (after_prefix p q)) to room) refl (store.graph.child heads.source.node (last_of p)) refl real

-- an exchange
module _ (store : Seen) (p q : Key) (heads : ForkWay) (m : ℕ) (behind victim reserved : Option ℕ) (text : by_text (AtPair forms.Exchange p q) ≡ None) (short : heads.names ≤ length (common (parent_of p) (parent_of q)))
    (source : heads.names + heads.source.walked ≤ length (parent_of p)) (dest : heads.names + heads.dest.walked ≤ length (parent_of q))
    (apart : heads.source.node ≡ heads.dest.node → take heads.source.walked (drop heads.names p) ≡ take heads.dest.walked (drop heads.names q))
    (beside : MovesApart store.graph (AtPair forms.Exchange (drop heads.names p) (drop heads.names q)) (holdings_with (AtPair forms.Exchange p q) m behind (Some heads) victim)) where
  abbrev first_error : Option Errno
  first_error = head_error store.graph p heads.names heads.source

  abbrev second_error : Option Errno
  second_error = head_error store.graph q heads.names heads.dest

  abbrev ends : Route
  ends = record { source = heads.source.node; dest = heads.dest.node; victim = victim }

  abbrev seen_fault : Option Errno
  seen_fault = exchange_fault first_error second_error (entry_shape store.graph heads.source.node (last_of p)) (entry_shape store.graph heads.dest.node (last_of q))

  can_swap : (n l : ℕ) → is_end (after_prefix p q) ≡ false → seen_fault ≡ None → store.graph.child heads.source.node (last_of p) ≡ Some n → store.graph.child heads.dest.node (last_of q) ≡ Some l → IsReal store
      → (0 < length p) × (0 < length q) × CanSwap store (between ends n l) (last_of p) (last_of q)
  can_swap n l other none one two real =
      let named = text_named forms.Exchange p q text in
      let first = both_none first_error _ none in
      let second = both_none second_error _ first.1 in
      let two_paths : n ≡ l → ⊥ = (λ e.
      let entry = real.one_name heads.source.node heads.dest.node n (last_of p) (last_of q) one (two ∙ ap (λ (k : ℕ). Some k) (sym e)) in
      let same : is_end (after_prefix p q) ≡ true = heads_apart store.graph forms.Exchange p q heads text short source dest first.0 second.0 apart entry.0 entry.1 in
      cc) in (
        named.0,
        named.1,
        record { there = one; there_too = two; apart = by two_paths (heads_beside store.graph forms.Exchange p q heads text short source dest first.0 second.0 m behind victim beside n l one two) },
      )
    where
      by : (n ≡ l → ⊥) → (n ≡ l) ⊎ ((IsReached store.graph.child n l → ⊥) × (IsReached store.graph.child l n → ⊥)) → (IsReached store.graph.child n l → ⊥) × (IsReached store.graph.child l n → ⊥)
      by differ (inl e) = absurd (differ e)
      by differ (inr h) = h

  exchange_can_by : (same_path : Bool) → is_end (after_prefix p q) ≡ same_path → (fault : Option Errno) → seen_fault ≡ fault → (o : Option ℕ) → store.graph.child heads.source.node (last_of p) ≡ o → (u : Option ℕ) → store.graph.child heads.dest.node (last_of q) ≡ u
      → Changes (pair_plan fault same_path (swapping o u)) (IsReal store) → CanCarryOut store (AtPair forms.Exchange p q) ends reserved (pair_plan fault same_path (swapping o u))
  exchange_can_by same_path e (Some f) h o k u l real = tt
  exchange_can_by true e None h o k u l real = tt
  exchange_can_by false e None h None k u l real = tt
  exchange_can_by false e None h (Some n) k None l real = tt
  exchange_can_by false e None h (Some n) k (Some i) l real = can_swap n i e h k l real

  exchange_can : Changes (pair_by store.graph forms.Exchange p q heads first_error second_error) (IsReal store) → CanCarryOut store (AtPair forms.Exchange p q) ends reserved (pair_by store.graph forms.Exchange p q heads first_error second_error)
  exchange_can real = exchange_can_by (is_end (after_prefix p q)) refl seen_fault refl (store.graph.child heads.source.node (last_of p)) refl (store.graph.child heads.dest.node (last_of q)) refl real

-- ---- each call

entry_named : (c : EntryCall) (p : Key) → by_text (AtEntry c p) ≡ None → 0 < length p
entry_named c [] e = absurd (cc)
entry_named c (x ∷ p) e = omega arith

abbrev CanBy : Seen → Form → Route → Option ℕ → Plan → Type 0
CanBy store call route reserved plan = Changes plan (IsReal store) → CanCarryOut store call route reserved plan

-- a call on two entries, each as above
pair_can : (store : Seen) (c : PairCall) (p q : Key) (heads : ForkWay) (m : ℕ) (behind victim reserved : Option ℕ) → by_text (AtPair c p q) ≡ None → heads.names ≤ length (common (parent_of p) (parent_of q))
    → heads.names + heads.source.walked ≤ length (parent_of p) → heads.names + heads.dest.walked ≤ length (parent_of q)
    → (heads.source.node ≡ heads.dest.node → take heads.source.walked (drop heads.names p) ≡ take heads.dest.walked (drop heads.names q))
    → MovesApart store.graph (AtPair c (drop heads.names p) (drop heads.names q)) (holdings_with (AtPair c p q) m behind (Some heads) victim)
    → CanBy store (AtPair c p q) (record { source = heads.source.node; dest = heads.dest.node; victim = victim }) reserved (pair_by store.graph c p q heads (head_error store.graph p heads.names heads.source) (head_error store.graph q heads.names heads.dest))
pair_can store (forms.Rename most) p q heads m behind victim reserved text short source dest apart below = rename_can store most p q heads m behind victim reserved text short source dest apart below
pair_can store forms.Exchange p q heads m behind victim reserved text short source dest apart beside = exchange_can store p q heads m behind victim reserved text short source dest apart beside

route_started : (n names : ℕ) (fork : Option ForkWay) (victim : Option ℕ) → route_by (Some n) (Some (started fork n names)) victim ≡ route_by (Some n) fork victim
route_started n names None victim = refl
route_started n names (Some heads) victim = refl

-- at its target
arrived_can : (store : Seen) (call : Form) (way : Way) (n : ℕ) (behind : Option ℕ) (fork : Option ForkWay) (victim reserved : Option ℕ) → by_text call ≡ None → way.node ≡ Some n → way.names ≡ length (target call) → way.walked ≡ way.names → Forks call way fork
    → CanFinish store.graph reserved (dropped way.walked call) (Some (holdings_with call n behind fork victim)) → CanBy store call (route_by (Some n) fork victim) reserved (plan_at store.graph (dropped way.walked call) (holdings_with call n behind fork victim))
arrived_can store (AtNode c p) way n behind fork victim reserved text node names arrived forks can = subst (CanBy store (AtNode c p) (route_by (Some n) fork victim) reserved) (sym (node_is store.graph way n behind fork victim arrived c p names)) (λ real. tt)
arrived_can store (AtEntry c p) way n behind fork victim reserved text node names arrived forks can =
    let at : (holdings_with (AtEntry c p) n behind fork victim).node ≡ n = holdings_node (AtEntry c p) n behind fork victim in
    subst (CanBy store (AtEntry c p) (route_by (Some n) fork victim) reserved) (sym (entry_is store.graph way n behind fork victim arrived c p names))
    (entry_can store p n (route_by (Some n) fork victim) reserved (entry_named c p text) can.spare (λ e. can.other _ refl (e ∙ ap (λ (m : ℕ). Some m) (sym at))) c (entry_fault c (as_dir None (store.graph.shape n)) (store.graph.shape n) (entry_shape store.graph n (last_of p))) refl)
arrived_can store (AtPair c p q) way n behind fork victim reserved text node names arrived forks can =
    let heads : ForkWay = started fork n way.names in
    let forked : IsForked p q way heads = started_forked c p q way fork n node arrived names forks in
    let short : heads.names ≤ length (common (parent_of p) (parent_of q)) = omega (arith, forked.names) in
    let same = started_holdings (AtPair c p q) n way.names behind fork victim in
    let apart : HeadsApart (AtPair c (drop way.walked p) (drop way.walked q)) (holdings_with (AtPair c p q) n behind (Some heads) victim) = subst (λ (z : Holdings). HeadsApart (AtPair c (drop way.walked p) (drop way.walked q)) z) same (can.heads _ refl) in
    let moves : MovesApart store.graph (AtPair c (drop way.walked p) (drop way.walked q)) (holdings_with (AtPair c p q) n behind (Some heads) victim) = subst (λ (z : Holdings). MovesApart store.graph (AtPair c (drop way.walked p) (drop way.walked q)) z) same (can.apart _ refl) in
    let below : MovesApart store.graph (AtPair c (drop heads.names p) (drop heads.names q)) (holdings_with (AtPair c p q) n behind (Some heads) victim) =
    subst (λ (m : ℕ). MovesApart store.graph (AtPair c (drop m p) (drop m q)) (holdings_with (AtPair c p q) n behind (Some heads) victim)) (sym forked.names) moves in
    subst (λ (z : Route). CanBy store (AtPair c p q) z reserved (plan_at store.graph (dropped way.walked (AtPair c p q)) (holdings_with (AtPair c p q) n behind fork victim))) (route_started n way.names fork victim)
    (subst (CanBy store (AtPair c p q) (record { source = heads.source.node; dest = heads.dest.node; victim = victim }) reserved) (sym (pair_is store.graph way n behind fork victim arrived c p q node names forks))
    (pair_can store c p q heads n behind victim reserved text short forked.source forked.dest apart below))

left_none : (k : ℕ) (l : Key) → drop k l ≡ [] → length l ≤ k
left_none k l e = let h : length (drop k l) ≡ length l - k = length-drop k l in let z : length (drop k l) ≡ 0 = ap length e in omega (arith, h, z)

can_by : (store : Seen) (call : Form) (way : Way) (behind : Option ℕ) (fork : Option ForkWay) (victim reserved : Option ℕ) (e : Option Errno) (o : Option ℕ) → by_text call ≡ e → way.node ≡ o → way.names ≡ length (target call) → way.walked ≤ way.names → Forks call way fork
    → CanFinish store.graph reserved (dropped way.walked call) (holdings_of call o behind fork victim) → CanBy store call (route_by o fork victim) reserved (plan_by store.graph e (dropped way.walked call) (holdings_of call o behind fork victim))
can_by store call way behind fork victim reserved (Some e) o text node names within forks can = λ real. tt
can_by store call way behind fork victim reserved None None text node names within forks can = λ real. tt
can_by store call way behind fork victim reserved None (Some n) text node names within forks can = by (target (dropped way.walked call)) refl
  where
    st : Holdings
    st = holdings_with call n behind fork victim

    by : (l : Key) → target (dropped way.walked call) ≡ l → CanBy store call (route_by (Some n) fork victim) reserved (plan_at store.graph (dropped way.walked call) st)
    by (z ∷ l) is = subst (CanBy store call (route_by (Some n) fork victim) reserved) (sym (lost_plan store.graph (dropped way.walked call) st z l is)) (λ real. tt)
    by [] is =
        let past : length (target call) ≤ way.walked = left_none way.walked (target call) (sym (target_drop way.walked call (omega arith)) ∙ is) in
        arrived_can store call way n behind fork victim reserved text node names (omega arith) forks can

-- the plan of a call in a store
pub can_carry_out : (store : Seen) (limits : Limits) (call : Call) (stand : Stand) (reserved removed : Option ℕ) (error : Option Errno) (outcome : Outcome) (plan : Plan) → IsOp limits call error stand outcome → IsPlan store (op_value limits call stand reserved removed outcome) plan
    → CanFinish store.graph reserved (dropped stand.walk.walked (form limits call)) (stands (form limits call) stand) → CanCarryOut store (form limits call) (route_by stand.walk.node stand.fork stand.victim) reserved plan
can_carry_out store limits call stand reserved removed error outcome plan op planned can =
    subst (CanBy store (form limits call) (route_by stand.walk.node stand.fork stand.victim) reserved) (sym planned.is)
    (can_by store (form limits call) stand.walk (behind_in stand.walk.behind stand.fork) stand.fork stand.victim reserved (by_paths call) stand.walk.node (by_text_any limits call) refl op.names op.within op.forks can) planned.real
