-- What a call does next, by the nodes where it stands.
use Rattle.std.specs.Prelude.{ℕ, Bool, not, ◌&&◌, true, false, Option, Some, None}
use Rattle.fs_names.specs.Keys.{Key, parent_of, last_of, after_prefix, has_more, is_end}
use Rattle.fs_names.specs.Names.{Name}
use Rattle.fs_names.specs.Shapes.{Shape}
use Rattle.fs_calls.specs.Forms.{Form, AtNode, AtEntry, AtPair, new_shape, EntryCall, PairCall}
use Rattle.fs_calls.specs.Forms as pairs
use Rattle.fs_calls.specs.Rows.{as_dir, entry_fault}
use Rattle.fs_nodes.specs.Graphs.{Graph, entry_shape}
use Rattle.fs_walk.specs.Ways.{Way, ForkWay}
use Rattle.fs_walk.specs.Wants.{want, fork_want}
use Rattle.fs_walk.specs.declared.want.Want.{Want}
use Rattle.fs_walk.specs.declared.want.Want.TheVariants as wants
use Rattle.fs_ops_effects.specs.Paths.{first_path}
use Rattle.fs_ops_effects.specs.Plans.{entry_plan}
use Rattle.fs_ops_effects.specs.declared.plan.Route.{Route}
use Rattle.fs_ops_effects.specs.declared.plan.Plan.{Plan}
use Rattle.fs_ops_effects.specs.declared.plan.Plan.TheVariants.{Fails, Answers}
use Rattle.fs_machine.specs.Moves.{same_kind, victim_of}
use Rattle.fs_ops.specs.declared.next.Next.{Next}
use Rattle.fs_ops.specs.declared.next.Next.TheVariants.{Take as Takes, LetGo as Leaves, Finish as Finishes, Return as Ends}
use Rattle.fs_ops.specs.PlanOf.{parents_plan}
use Rattle.fs_ops.specs.code.TakeAndLetGo.{started}

-- the route of a call on two entries
abbrev pub route_by : Option ℕ → Option ForkWay → Option ℕ → Route
route_by _ (Some fork) victim = record { source = fork.source.node; dest = fork.dest.node; victim = victim }
route_by (Some n) None victim = record { source = n; dest = n; victim = victim }
route_by None None victim = record { source = 0; dest = 0; victim = victim }

-- a finished call lets go of what it took last; one that holds nothing returns
abbrev pub last_next : Option ℕ → Next
last_next None = Ends
last_next (Some n) = Leaves n

-- a victim that is wanted, there and not yet held
abbrev pub to_take : Bool → Option ℕ → Option ℕ → Option ℕ
to_take true (Some n) None = Some n
to_take _ _ _ = None

-- is taken, and else the call finishes
abbrev pub take_or : Option ℕ → Plan → Next
take_or (Some n) plan = Takes n
take_or None plan = Finishes plan

-- a call on an entry at its directory
abbrev pub entry_next : Graph → ℕ → EntryCall → Name → Option ℕ → Next
entry_next graph n c x victim =
    take_or (to_take (victim_of c (entry_shape graph n x)) (graph.child n x) victim)
    (entry_plan (entry_fault c (as_dir None (graph.shape n)) (graph.shape n) (entry_shape graph n x)) (new_shape c) n)

-- whether what stands at the second name goes, by what stands at both and by how the paths stand to each other
abbrev pub replaces : PairCall → Option Shape → Option Shape → Bool → Bool → Bool
replaces (pairs.Rename most) moved there same_path above = same_kind moved there && not same_path && not above
replaces pairs.Exchange one other same_path above = false

-- a call on two entries, with the directories of both held
abbrev pub between_next : Graph → PairCall → ℕ → Name → ℕ → Name → Bool → Bool → Bool → Option ℕ → Next
between_next graph c source x dest y same_path above one_parent victim =
    take_or
    (to_take (replaces c (entry_shape graph source x) (entry_shape graph dest y) same_path above) (graph.child dest y) victim)
    (parents_plan graph c source x dest y same_path above one_parent None None)

-- what a walk wants, and what comes when it has arrived; one that fails finishes
abbrev pub want_next : Want → Next → Next
want_next (wants.Take n) next = Takes n
want_next (wants.LetGo n) next = Leaves n
want_next wants.Arrived next = next
want_next (wants.Fails e) next = Finishes (Fails e)

-- what both heads of a call on two entries want, and what comes at both parents
abbrev pub heads_next : Graph → PairCall → Key → Key → ForkWay → Option ℕ → Next
heads_next graph c p q fork victim =
    want_next (fork_want graph p q fork)
    (between_next graph c fork.source.node (last_of p) fork.dest.node (last_of q) (is_end (after_prefix p q)) (has_more (after_prefix q p)) (is_end (after_prefix (parent_of p) (parent_of q))) victim)

-- a call at its target, to which so many names lead
abbrev pub target_next : Graph → Form → ℕ → ℕ → Option ForkWay → Option ℕ → Next
target_next graph (AtNode c p) n names fork victim = Finishes (Answers n)
target_next graph (AtEntry c p) n names fork victim = entry_next graph n c (last_of p) victim
target_next graph (AtPair c p q) n names fork victim = heads_next graph c p q (started fork n names) victim

-- a call that is not finished, and that its paths do not decide: it takes the root first; where heads have set out the walk is over
abbrev pub way_next_at : Graph → Form → Way → Option ℕ → Option ForkWay → Option ℕ → Next
way_next_at graph call way None fork victim = Takes 0
way_next_at graph call way (Some n) None victim = want_next (want graph (first_path call) way) (target_next graph call n way.names None victim)
way_next_at graph call way (Some n) (Some fork) victim = target_next graph call n way.names (Some fork) victim

-- the same by where its walk is
abbrev pub way_next : Graph → Form → Way → Option ForkWay → Option ℕ → Next
way_next graph call way fork victim = way_next_at graph call way way.node fork victim
