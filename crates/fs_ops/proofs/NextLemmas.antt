-- Next moves by the nodes where a call stands, and those of the machine.
use Rattle.std.proofs.Common.{◌≡◌, ℕ, zero, suc, ◌≤◌, false, [], ◌∷◌, length, slice_get, Option, Some, None, refl, sym, ap, ◌∙◌, arith}
use Rattle.std.specs.Option.{is_some}
use Rattle.std.proofs.lemmas.Option.{slice_get_past}
use Rattle.fs_names.specs.Keys.{Key, parent_of, last_of}
use Rattle.fs_names.specs.Shapes.{Shape}
use Rattle.fs_names.specs.declared.limits.Limits.{Limits}
use Rattle.fs_nodes.specs.Graphs.{Graph, entry_shape}
use Rattle.fs_calls.specs.Forms.{form, Form, AtNode, AtEntry, AtPair, by_paths, new_shape, EntryCall}
use Rattle.fs_calls.specs.declared.call.Call.{Call}
use Rattle.fs_calls.specs.Rows.{as_dir, entry_fault}
use Rattle.fs_calls.specs.declared.errno.Errno.{Errno}
use Rattle.fs_walk.specs.declared.want.Want.TheVariants.{Arrived}
use Rattle.fs_walk.specs.Ways.{Way, ForkWay, name_ahead}
use Rattle.fs_walk.specs.Wants.{step_want, want, way_want}
use Rattle.fs_ops_effects.specs.Plans.{entry_plan, moved_by}
use Rattle.fs_machine.specs.Moves.{take_if, victim_of, target, target_move, first_of, step_move, behind_first, next_on, next_by}
use Rattle.fs_machine.specs.declared.moves.Move.{Move}
use Rattle.fs_machine.specs.declared.moves.Move.TheVariants.{Finish as Finishes}
use Rattle.fs_machine.specs.declared.moves.Moved.{Moved}
use Rattle.fs_machine.specs.declared.moves.Moved.TheVariants.{Nothing}
use Rattle.fs_ops.specs.code.NextByNodes.{entry_next, target_next, way_next, way_next_at}
use Rattle.fs_ops.specs.PlanOf.{move_of}
use Rattle.fs_machine.specs.Records.{Walking}
use Rattle.fs_ops_effects.specs.Paths.{first_path}
use Rattle.fs_ops.specs.OpValue.{IsOp, Forks, behind_in, dropped, holdings_with, holdings_of, op_value, reply_of}
use Rattle.fs_machine.specs.OpValues.{OpValue, record_of, next_of}
use Rattle.fs_ops.specs.declared.stand.Stand.{Stand}
use Rattle.fs_ops.specs.declared.outcome.Outcome.{Outcome}
use Rattle.fs_ops.specs.declared.outcome.Outcome.TheVariants.{Open, Fixed}
use Rattle.fs_ops.proofs.KeyLemmas.{last_drop, target_drop, target_take}
use Rattle.fs_ops.proofs.TookLemmas.{ahead_none, holdings_node}
use Rattle.fs_ops.proofs.ForkLemmas.{move_take, pair_is}
use Rattle.fs_ops.proofs.WantLemmas.{behind_arrived, walk_tie, step_arrived, move_want, want_then_same}

-- holdings by what the fork is
holdings_victim : (call : Form) (n : ℕ) (behind : Option ℕ) (fork : Option ForkWay) (victim : Option ℕ) → (holdings_with call n behind fork victim).victim ≡ victim
holdings_victim call n behind None victim = refl
holdings_victim call n behind (Some f) victim = refl

-- a call at its target
moved_entry : (fault : Option Errno) (new : Option Shape) (n : ℕ) → moved_by (entry_plan fault new n) ≡ Nothing
moved_entry (Some e) new n = refl
moved_entry None None n = refl
moved_entry None (Some s) n = refl

entry_is : (graph : Graph) (c : EntryCall) (p : Key) (way : Way) (behind : Option ℕ) (fork : Option ForkWay) (victim : Option ℕ) (n : ℕ) → way.names ≡ length (parent_of p) → way.walked ≡ way.names
    → move_of (entry_next graph n c (last_of p) victim) ≡ target_move graph (dropped way.walked (AtEntry c p)) (holdings_with (AtEntry c p) n behind fork victim)
entry_is graph c p way behind fork victim n names all =
    move_take (victim_of c (entry_shape graph n (last_of p))) (graph.child n (last_of p)) victim _
    ∙ ap (λ (m : Moved). take_if (victim_of c (entry_shape graph n (last_of p))) (graph.child n (last_of p)) victim (Finishes m)) (moved_entry (entry_fault c (as_dir None (graph.shape n)) (graph.shape n) (entry_shape graph n (last_of p))) (new_shape c) n)
    ∙ rw (last_drop way.walked p (omega arith), holdings_node (AtEntry c p) n behind fork victim, holdings_victim (AtEntry c p) n behind fork victim) refl

target_is : (graph : Graph) (call : Form) (way : Way) (behind : Option ℕ) (fork : Option ForkWay) (victim : Option ℕ) (n : ℕ) → way.node ≡ Some n → way.names ≡ length (target call) → way.walked ≡ way.names → Forks call way fork
    → move_of (target_next graph call n way.names fork victim) ≡ behind_first (behind_in None fork) (target_move graph (dropped way.walked call) (holdings_with call n behind fork victim))
target_is graph (AtNode c p) way behind None victim n at names all forks = refl
target_is graph (AtNode c p) way behind (Some f) victim n at names all forks = absurd forks
target_is graph (AtEntry c p) way behind None victim n at names all forks = entry_is graph c p way behind None victim n names all
target_is graph (AtEntry c p) way behind (Some f) victim n at names all forks = absurd forks
target_is graph (AtPair c p q) way behind None victim n at names all forks = pair_is graph c p q way behind None victim n at all names forks
target_is graph (AtPair c p q) way behind (Some f) victim n at names all forks = pair_is graph c p q way behind (Some f) victim n at all names forks

none_past : (l : Key) (k : ℕ) → slice_get l k ≡ None → length l ≤ k
none_past [] k e = omega arith
none_past (x ∷ l) zero e = absurd (cc)
none_past (x ∷ l) (suc k) e = let h : length l ≤ k = none_past l k e in omega arith

-- heads set out from where the walk has arrived
pub arrived_by : (call : Form) (way : Way) (f : ForkWay) → Forks call way (Some f) → way.walked ≡ way.names
arrived_by (AtNode c p) way f forks = absurd forks
arrived_by (AtEntry c p) way f forks = absurd forks
arrived_by (AtPair c p q) way f forks = forks.arrived

-- where it has arrived, it has walked all its names
pub has_walked : (graph : Graph) (call : Form) (way : Way) (n : ℕ) → way.node ≡ Some n → way.names ≡ length (target call) → way.walked ≤ way.names → want graph (first_path call) way ≡ Arrived → way.walked ≡ way.names
has_walked graph call way n at names within arrived =
    let here : way_want graph (Some n) way.behind (name_ahead (first_path call) way) ≡ Arrived = rw at at arrived in
    let name : name_ahead (first_path call) way ≡ None = step_arrived graph n (name_ahead (first_path call) way) (behind_arrived way.behind (step_want graph n (name_ahead (first_path call) way)) here) in
    let ahead : slice_get (target call) way.walked ≡ None = sym (rw names (ap (λ (l : Key). slice_get l way.walked) (target_take call))) ∙ name in
    let past : length (target call) ≤ way.walked = none_past (target call) way.walked ahead in
    omega arith

-- a call on its way does what its walk wants, and once its heads have set out what they want
way_is : (graph : Graph) (call : Form) (way : Way) (fork : Option ForkWay) (victim : Option ℕ) (n : ℕ) → way.node ≡ Some n → way.names ≡ length (target call) → way.walked ≤ way.names → Forks call way fork
    → move_of (way_next_at graph call way (Some n) fork victim) ≡ next_on graph (dropped way.walked call) (holdings_with call n (behind_in way.behind fork) fork victim)
way_is graph call way None victim n at names within forks =
    let move : Move = target_move graph (dropped way.walked call) (holdings_with call n way.behind None victim) in
    move_want (want graph (first_path call) way) (target_next graph call n way.names None victim)
    ∙ want_then_same (want graph (first_path call) way) _ move (λ e. target_is graph call way way.behind None victim n at names (has_walked graph call way n at names within e) forks)
    ∙ sym (walk_tie graph call way n move at names within)
way_is graph call way (Some f) victim n at names within forks =
    let all : way.walked ≡ way.names = arrived_by call way f forks in
    let rest : target (dropped way.walked call) ≡ [] = target_drop way.walked call (omega (arith, within, names)) ∙ ahead_none (target call) way.walked (slice_get_past (target call) way.walked (omega (arith, all, names))) in
    target_is graph call way f.behind (Some f) victim n at names all forks
    ∙ ap (λ (l : Key). behind_first f.behind (first_of (step_move graph n l) (target_move graph (dropped way.walked call) (holdings_with call n f.behind (Some f) victim)))) (sym rest)

pub next_is : (graph : Graph) (limits : Limits) (call : Call) (stand : Stand) (reserved removed : Option ℕ) (error : Option Errno) (outcome : Outcome) → IsOp limits call error stand outcome → is_some (reply_of outcome) ≡ false → by_paths call ≡ None
    → move_of (way_next graph (form limits call) stand.walk stand.fork stand.victim) ≡ next_of graph (op_value limits call stand reserved removed outcome)
next_is graph limits call stand reserved removed error (Fixed r held) op unfinished text = absurd (cc)
next_is graph limits call stand reserved removed error (Open prepared) op unfinished text = by stand.walk.node refl
  where
    value : OpValue
    value = op_value limits call stand reserved removed (Open prepared)

    by : (o : Option ℕ) → stand.walk.node ≡ o → move_of (way_next_at graph (form limits call) stand.walk o stand.fork stand.victim) ≡ next_by graph (record_of 0 None value) (by_paths call) Walking (holdings_of (form limits call) o (behind_in stand.walk.behind stand.fork) stand.fork stand.victim)
    by None e = ap (λ (x : Option Errno). next_by graph (record_of 0 None value) x Walking None) (sym text)
    by (Some n) e =
        way_is graph (form limits call) stand.walk stand.fork stand.victim n e op.names op.within op.forks
        ∙ ap (λ (x : Option Errno). next_by graph (record_of 0 None value) x Walking (Some (holdings_with (form limits call) n (behind_in stand.walk.behind stand.fork) stand.fork stand.victim))) (sym text)
