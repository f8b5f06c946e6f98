-- What walks want is what the machine does next.
use Rattle.std.proofs.Common.{◌≡◌, ℕ, zero, suc, ◌+◌, ◌-◌, ◌≤◌, [], ◌∷◌, List, length, take, drop, slice_get, Option, Some, None, refl, ap, ◌∙◌, arith, length-drop}
use Rattle.fs_names.specs.Names.{Name}
use Rattle.fs_names.specs.Keys.{Key, parent_of}
use Rattle.fs_names.specs.Parts.{left}
use Rattle.fs_names.specs.Shapes.{Shape, Dir, File}
use Rattle.fs_calls.specs.Forms.{Form}
use Rattle.fs_nodes.specs.Graphs.{Graph}
use Rattle.fs_walk.specs.declared.head.Head.{Head}
use Rattle.fs_walk.specs.declared.want.Want.{Want}
use Rattle.fs_walk.specs.declared.want.Want.TheVariants.{Take, LetGo, Arrived, Fails}
use Rattle.fs_walk.specs.Ways.{Way, head_name, name_ahead}
use Rattle.fs_walk.specs.Wants.{name_want, step_want, behind_or, then_want, at_dir, dir_want, want}
use Rattle.fs_machine.specs.Moves.{first_of, walk_move, step_move, behind_first, dir_then, target}
use Rattle.fs_machine.specs.declared.moves.Move.{Move}
use Rattle.fs_machine.specs.declared.moves.Move.TheVariants.{Take as Takes, LetGo as Leaves, Finish as Finishes}
use Rattle.fs_machine.specs.declared.moves.Moved.TheVariants.{Nothing}
use Rattle.fs_ops.specs.code.NextByNodes.{want_next}
use Rattle.fs_ops.specs.PlanOf.{move_of}
use Rattle.fs_ops.specs.declared.next.Next.{Next}
use Rattle.fs_ops_effects.specs.Paths.{first_path}
use Rattle.fs_ops.specs.OpValue.{dropped, head_of}
use Rattle.fs_ops.proofs.KeyLemmas.{left_take, parent_drop, drop_get, target_drop, target_take}

-- the move that a walk wants, and what comes when it has arrived; one that fails finishes
abbrev pub want_then : Want → Move → Move
want_then (Take n) next = Takes n
want_then (LetGo n) next = Leaves n
want_then Arrived next = next
want_then (Fails e) next = Finishes Nothing

pub move_want : (w : Want) (next : Next) → move_of (want_next w next) ≡ want_then w (move_of next)
move_want (Take n) next = refl
move_want (LetGo n) next = refl
move_want Arrived next = refl
move_want (Fails e) next = refl

name_tie : (s : Option Shape) (child : Option ℕ) (m : Move) → walk_move s child ≡ want_then (name_want s child) m
name_tie None child m = refl
name_tie (Some (File bytes)) child m = refl
name_tie (Some (Dir names)) None m = refl
name_tie (Some (Dir names)) (Some n) m = refl

-- a step from a node with these names ahead
pub step_tie : (graph : Graph) (n : ℕ) (l : Key) (k : ℕ) (m : Move) → first_of (step_move graph n (drop k l)) m ≡ want_then (step_want graph n (slice_get l k)) m
step_tie graph n [] zero m = refl
step_tie graph n [] (suc k) m = refl
step_tie graph n (x ∷ l) zero m = name_tie (graph.shape n) (graph.child n x) m
step_tie graph n (x ∷ l) (suc k) m = step_tie graph n l k m

-- at a node that has to be a directory
pub dir_tie : (s : Option Shape) (m : Move) → dir_then s m ≡ want_then (at_dir s) m
dir_tie None m = refl
dir_tie (Some (File bytes)) m = refl
dir_tie (Some (Dir names)) m = refl

-- one want after the other
pub then_tie : (a b : Want) (m : Move) → want_then (then_want a b) m ≡ want_then a (want_then b m)
then_tie (Take n) b m = refl
then_tie (LetGo n) b m = refl
then_tie Arrived b m = refl
then_tie (Fails e) b m = refl

-- what is behind goes first
pub behind_tie : (behind : Option ℕ) (w : Want) (m : Move) → behind_first behind (want_then w m) ≡ want_then (behind_or behind w) m
behind_tie None w m = refl
behind_tie (Some n) w m = refl

pub behind_arrived : (behind : Option ℕ) (w : Want) → behind_or behind w ≡ Arrived → w ≡ Arrived
behind_arrived None w e = e
behind_arrived (Some n) w e = absurd (cc)

-- the walk of a call
pub walk_tie : (graph : Graph) (call : Form) (way : Way) (n : ℕ) (m : Move) → way.node ≡ Some n → way.names ≡ length (target call) → way.walked ≤ way.names
    → behind_first way.behind (first_of (step_move graph n (target (dropped way.walked call))) m) ≡ want_then (want graph (first_path call) way) m
walk_tie graph call way n m at names within =
    let ahead : name_ahead (first_path call) way ≡ slice_get (target call) way.walked = rw names (ap (λ (l : Key). slice_get l way.walked) (target_take call)) in
    let rest : target (dropped way.walked call) ≡ drop way.walked (target call) = target_drop way.walked call (omega arith) in
    rw (rest, at, ahead) (ap (behind_first way.behind) (step_tie graph n (target call) way.walked m) ∙ behind_tie way.behind (step_want graph n (slice_get (target call) way.walked)) m)

-- a head behind a common directory has walked names of its parent's path
pub take_parent_front : (j : ℕ) (p : Key) → j ≤ length (parent_of p) → take j p ≡ take j (parent_of p)
take_parent_front zero p h = refl
take_parent_front (suc j) [] h = refl
take_parent_front (suc j) (x ∷ []) h = absurd (omega arith)
take_parent_front (suc j) (x ∷ y ∷ p) h = ap (λ (l : Key). x ∷ l) (take_parent_front j (y ∷ p) (omega arith))

-- what is left to a head
pub left_head : (k j : ℕ) (p : Key) → k + j ≤ length (parent_of p) → left (take j (drop k p)) (parent_of (drop k p)) ≡ drop j (parent_of (drop k p))
left_head k j p h =
    let len : length (parent_of (drop k p)) ≡ length (parent_of p) - k = ap length (parent_drop k p) ∙ length-drop k (parent_of p) in
    rw (take_parent_front j (drop k p) (omega arith)) (left_take j (parent_of (drop k p)))

-- one head of a call on two entries on its way to its parent
pub head_dir_tie : (graph : Graph) (p : Key) (k : ℕ) (head : Head) (m : Move) → k + head.walked ≤ length (parent_of p)
    → first_of (step_move graph head.node (left (head_of p k head).walked (parent_of (drop k p)))) (dir_then (graph.shape head.node) m) ≡ want_then (dir_want graph head (head_name p k head)) m
head_dir_tie graph p k head m h =
    let name : slice_get (parent_of (drop k p)) head.walked ≡ head_name p k head = ap (λ (l : Key). slice_get l head.walked) (parent_drop k p) ∙ drop_get k head.walked (parent_of p) in
    rw (left_head k head.walked p h, dir_tie (graph.shape head.node) m, then_tie, ← name) (step_tie graph head.node (parent_of (drop k p)) head.walked (want_then (at_dir (graph.shape head.node)) m))

-- both have arrived
pub then_arrived : (a b : Want) → then_want a b ≡ Arrived → (a ≡ Arrived) × (b ≡ Arrived)
then_arrived Arrived b e = (refl, e)
then_arrived (Take n) b e = absurd (cc)
then_arrived (LetGo n) b e = absurd (cc)
then_arrived (Fails f) b e = absurd (cc)

pub dir_arrived : (s : Option Shape) → at_dir s ≡ Arrived → (names : List Name) × (s ≡ Some (Dir names))
dir_arrived None e = absurd (cc)
dir_arrived (Some (File bytes)) e = absurd (cc)
dir_arrived (Some (Dir names)) e = (names, refl)

never_arrived : (s : Option Shape) (child : Option ℕ) → name_want s child ≡ Arrived → ⊥
never_arrived None child e = cc
never_arrived (Some (File bytes)) child e = cc
never_arrived (Some (Dir names)) None e = cc
never_arrived (Some (Dir names)) (Some n) e = cc

pub step_arrived : (graph : Graph) (n : ℕ) (name : Option Name) → step_want graph n name ≡ Arrived → name ≡ None
step_arrived graph n None e = refl
step_arrived graph n (Some x) e = absurd (never_arrived (graph.shape n) (graph.child n x) e)

-- what comes after an arrival matters only where there is one
pub want_then_same : (w : Want) (m k : Move) → (w ≡ Arrived → m ≡ k) → want_then w m ≡ want_then w k
want_then_same (Take n) m k h = refl
want_then_same (LetGo n) m k h = refl
want_then_same Arrived m k h = h refl
want_then_same (Fails e) m k h = refl
