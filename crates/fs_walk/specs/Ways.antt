-- Where walks stand.
use Rattle.std.specs.Prelude.{ℕ, ◌+◌, ◌≤◌, Bool, true, not, ◌||◌, eqb, cond, nat_lt, is_some, slice_get, take, Option, Some, None}
use Rattle.fs_names.specs.Names.{Name}
use Rattle.fs_names.specs.Keys.{Key, parent_of}
use Rattle.fs_names.specs.declared.limits.TheConstants.{PATH_LIMIT}
use Rattle.fs_walk.specs.declared.head.Head.{Head}
use Rattle.fs_walk.specs.declared.head.Side.{Side}
use Rattle.fs_walk.specs.declared.head.Side.TheVariants.{Source, Dest}

-- one head: along how many names it goes, how many it has walked, its node (None: it holds nothing), and a node behind it that it still holds
pub record Way : Type 0 where
  pub names : ℕ
  pub walked : ℕ
  pub node : Option ℕ
  pub behind : Option ℕ

-- two heads: the common directory, how many names lead there, both heads, and a node behind one of them that is still held
pub record ForkWay : Type 0 where
  pub node : ℕ
  pub names : ℕ
  pub source : Head
  pub dest : Head
  pub behind : Option ℕ

-- no more names than a path has
pub record IsWay (names walked : ℕ) : Type 0 where
  pub within : walked ≤ names
  pub most : names ≤ PATH_LIMIT

-- the same of two heads
pub record IsForkWay (names : ℕ) (source dest : Head) : Type 0 where
  pub most : names ≤ PATH_LIMIT
  pub source_most : source.walked ≤ PATH_LIMIT
  pub dest_most : dest.walked ≤ PATH_LIMIT

-- a walk that holds nothing yet
abbrev pub new_way : ℕ → Way
new_way names = record { names = names; walked = 0; node = None; behind = None }

-- a head at the common directory
abbrev pub start_at : ℕ → Head
start_at n = record { walked = 0; node = n }

-- both heads at the common directory
abbrev pub new_fork : ℕ → ℕ → ForkWay
new_fork n names = record { node = n; names = names; source = start_at n; dest = start_at n; behind = None }

-- whether a head has walked a name
abbrev pub has_set_out : ForkWay → Bool
has_set_out fork = nat_lt 0 fork.source.walked || nat_lt 0 fork.dest.walked

-- one head after a take: at the root, or a step further
abbrev pub way_took_by : Option ℕ → Way → ℕ → Way
way_took_by None way n = record way { node = Some n; behind = None }
way_took_by (Some m) way n = record way { walked = way.walked + 1; node = Some n; behind = Some m }

-- the same, by the node that it holds
abbrev pub way_took : Way → ℕ → Way
way_took way n = way_took_by way.node way n

-- whether a walk may take a node: it holds nothing, or a name is ahead
abbrev pub may_take_by : Option ℕ → Bool → Bool
may_take_by None ahead = true
may_take_by (Some n) ahead = ahead

-- the same, by where the walk stands
abbrev pub may_take : Way → Bool
may_take way = may_take_by way.node (nat_lt way.walked way.names)

-- what is behind, after a let go of a node
abbrev pub behind_left : Option ℕ → ℕ → Option ℕ
behind_left None n = None
behind_left (Some m) n = cond (eqb m n) None (Some m)

-- one head after it let go of a node behind it
abbrev pub way_left : Way → ℕ → Way
way_left way n = record way { behind = behind_left way.behind n }

-- a head after a step
abbrev pub head_took : Head → ℕ → Head
head_took head n = record { walked = head.walked + 1; node = n }

-- the node that it holds, and that a step leaves behind: where it stands, if that is not the common directory
abbrev pub head_held : Head → Option ℕ
head_held head = cond (nat_lt 0 head.walked) (Some head.node) None

-- the name ahead of a walk
abbrev pub name_ahead : Key → Way → Option Name
name_ahead path way = slice_get (take way.names path) way.walked

-- the name ahead of a head on its way to the parent of a path
abbrev pub head_name : Key → ℕ → Head → Option Name
head_name path names head = slice_get (parent_of path) (names + head.walked)

-- the side of the head that walks next: the source, where a name is ahead of its head, or else the destination
abbrev pub walking_by : Option Name → Option Name → Option Side
walking_by (Some x) dest = Some Source
walking_by None (Some x) = Some Dest
walking_by None None = None

-- the same, by the paths of a call on two entries
abbrev pub walking : Key → Key → ForkWay → Option Side
walking source dest fork = walking_by (head_name source fork.names fork.source) (head_name dest fork.names fork.dest)

-- whether both heads have arrived
abbrev pub has_arrived : Key → Key → ForkWay → Bool
has_arrived source dest fork = not (is_some (walking source dest fork))

-- both heads after a step of the one on a side
abbrev pub fork_stepped : Option Side → ForkWay → ℕ → ForkWay
fork_stepped (Some Source) fork n = record fork { source = head_took fork.source n; behind = head_held fork.source }
fork_stepped (Some Dest) fork n = record fork { dest = head_took fork.dest n; behind = head_held fork.dest }
fork_stepped None fork n = fork

-- both heads after a take, by the paths of a call on two entries
abbrev pub fork_took : Key → Key → ForkWay → ℕ → ForkWay
fork_took source dest fork n = fork_stepped (walking source dest fork) fork n

-- both heads after they let go of a node behind
abbrev pub fork_left : ForkWay → ℕ → ForkWay
fork_left fork n = record fork { behind = behind_left fork.behind n }
