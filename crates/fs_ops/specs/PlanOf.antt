-- What a call does next, of a finish with its plan, and the plan by what the code of a call keeps.
use Rattle.std.specs.Prelude.{ℕ, Bool, ◌≡◌, ◌||◌, not, is_some, [], ◌∷◌, Option, Some, None}
use Rattle.fs_names.specs.Keys.{Key, after_prefix, has_more, is_end, parent_of, last_of}
use Rattle.fs_names.specs.Names.{Name}
use Rattle.fs_names.specs.Parts.{left}
use Rattle.fs_names.specs.Shapes.{is_full}
use Rattle.fs_nodes.specs.Graphs.{Graph, entry_shape}
use Rattle.fs_nodes.specs.Seen.{Seen, IsReal}
use Rattle.fs_calls.specs.Forms.{Form, AtNode, AtEntry, AtPair, by_paths, new_shape, PairCall}
use Rattle.fs_calls.specs.Forms as pairs
use Rattle.fs_calls.specs.Rows.{as_dir, entry_fault, rename_fault, exchange_fault}
use Rattle.fs_calls.specs.declared.errno.Errno.{Errno}
use Rattle.fs_calls.specs.declared.errno.Errno.TheVariants.{Enoent}
use Rattle.fs_ops_effects.specs.Plans.{node_plan, entry_plan, pair_plan, moving, swapping, moved_by, Changes}
use Rattle.fs_ops_effects.specs.declared.plan.Plan.{Plan}
use Rattle.fs_ops_effects.specs.declared.plan.Plan.TheVariants.{Fails}
use Rattle.fs_machine.specs.Moves.{target, walk_errno, path_error, dir_error, there_by}
use Rattle.fs_machine.specs.declared.moves.Move.{Move}
use Rattle.fs_machine.specs.declared.moves.Move.TheVariants as moves
use Rattle.fs_machine.specs.Records.{Holdings}
use Rattle.fs_machine.specs.OpValues.{OpValue}
use Rattle.fs_ops.specs.declared.next.Next.{Next}
use Rattle.fs_ops.specs.declared.next.Next.TheVariants.{Take as Takes, LetGo as Leaves, Finish as Finishes, Return as Ends}

-- ---- next moves

-- the machine's move
abbrev pub move_of : Next → Move
move_of (Takes n) = moves.Take n
move_of (Leaves n) = moves.LetGo n
move_of (Finishes plan) = moves.Finish (moved_by plan)
move_of Ends = moves.Return

-- what holds of the plan of a finish
abbrev pub IfFinish : Next → (Plan → Type 0) → Type 0
IfFinish (Takes n) P = Unit {0}
IfFinish (Leaves n) P = Unit {0}
IfFinish (Finishes plan) P = P plan
IfFinish Ends P = Unit {0}

-- a finish that changes a directory was found in a store
abbrev pub IsFound : Next → Seen → Type 0
IsFound next store = IfFinish next (λ plan. Changes plan (IsReal store))

-- ---- plans

-- a call on two entries where both heads stand, by how its paths stand to each other and by what kept the heads from both parents
abbrev pub parents_plan : Graph → PairCall → ℕ → Name → ℕ → Name → Bool → Bool → Bool → Option Errno → Option Errno → Plan
parents_plan graph (pairs.Rename most) source x dest y same_path above one_parent a b =
    pair_plan
    (rename_fault a b (entry_shape graph source x) same_path (there_by above (entry_shape graph dest y)) (one_parent || not (is_full most (graph.shape dest))))
    same_path
    (moving (is_some (graph.child dest y)) (graph.child source x))
parents_plan graph pairs.Exchange source x dest y same_path above one_parent a b =
    pair_plan (exchange_fault a b (entry_shape graph source x) (entry_shape graph dest y)) same_path (swapping (graph.child source x) (graph.child dest y))

-- the same at its common directory; one that did not come there fails where it stands
abbrev pub pair_plan_at : Graph → PairCall → Key → Key → Holdings → Key → Plan
pair_plan_at graph c p q st (z ∷ l) = Fails (walk_errno (graph.shape st.node))
pair_plan_at graph c p q st [] =
    parents_plan graph c st.source.node (last_of p) st.dest.node (last_of q) (is_end (after_prefix p q)) (has_more (after_prefix q p)) (is_end (after_prefix (parent_of p) (parent_of q)))
    (dir_error (left st.source.walked (parent_of p)) (graph.shape st.source.node))
    (dir_error (left st.dest.walked (parent_of q)) (graph.shape st.dest.node))

-- each form of call where it stands
abbrev pub plan_at : Graph → Form → Holdings → Plan
plan_at graph (AtNode c p) st = node_plan (path_error p (graph.shape st.node)) st.node
plan_at graph (AtEntry c p) st = entry_plan (entry_fault c (dir_error (parent_of p) (graph.shape st.node)) (graph.shape st.node) (entry_shape graph st.node (last_of p))) (new_shape c) st.node
plan_at graph (AtPair c p q) st = pair_plan_at graph c p q st (target (AtPair c p q))

-- a call that its paths decide, and else where it stands
abbrev pub plan_by : Graph → Option Errno → Form → Option Holdings → Plan
plan_by graph (Some e) remaining st = Fails e
plan_by graph None remaining None = Fails Enoent
plan_by graph None remaining (Some st) = plan_at graph remaining st

-- the plan of a call under way
abbrev pub plan_of : Graph → OpValue → Plan
plan_of graph op = plan_by graph (by_paths op.call) op.remaining op.holdings

-- the plan of a call in a store; where it changes a directory, the store is one as all stores are
pub record IsPlan (store : Seen) (op : OpValue) (plan : Plan) : Type 0 where
  pub is : plan ≡ plan_of store.graph op
  pub real : Changes plan (IsReal store)

-- the source head of a pair has not left a common directory that is a file or is not there
abbrev pub SetsOut : Graph → Form → Holdings → Type 0
SetsOut graph (AtNode c p) st = Unit {0}
SetsOut graph (AtEntry c p) st = Unit {0}
SetsOut graph (AtPair c p q) st = (e : Errno) → as_dir None (graph.shape st.node) ≡ Some e → dir_error (left st.source.walked (parent_of p)) (graph.shape st.source.node) ≡ Some e

-- the same of all that a call may hold
abbrev pub HasSetOut : Graph → OpValue → Type 0
HasSetOut graph op = (st : Holdings) → op.holdings ≡ Some st → SetsOut graph op.remaining st
