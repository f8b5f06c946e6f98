-- What walks want next on a graph.
use Rattle.std.specs.Prelude.{ℕ, Option, Some, None}
use Rattle.fs_names.specs.Names.{Name}
use Rattle.fs_names.specs.Keys.{Key}
use Rattle.fs_names.specs.Shapes.{Shape, Dir, File}
use Rattle.fs_calls.specs.declared.errno.Errno.TheVariants.{Enoent, Enotdir}
use Rattle.fs_nodes.specs.Graphs.{Graph}
use Rattle.fs_walk.specs.declared.head.Head.{Head}
use Rattle.fs_walk.specs.declared.want.Want.{Want}
use Rattle.fs_walk.specs.declared.want.Want.TheVariants.{Take, LetGo, Arrived, Fails}
use Rattle.fs_walk.specs.Ways.{Way, ForkWay, name_ahead, head_name}

-- at a node with a name ahead: a file or a missing name fails, a name that is there is taken
abbrev pub name_want : Option Shape → Option ℕ → Want
name_want None child = Fails Enoent
name_want (Some (File bytes)) child = Fails Enotdir
name_want (Some (Dir names)) None = Fails Enoent
name_want (Some (Dir names)) (Some m) = Take m

-- a step: to the name ahead, or none where there is none
abbrev pub step_want : Graph → ℕ → Option Name → Want
step_want graph n None = Arrived
step_want graph n (Some x) = name_want (graph.shape n) (graph.child n x)

-- what is behind is let go before all else
abbrev pub behind_or : Option ℕ → Want → Want
behind_or (Some m) want = LetGo m
behind_or None want = want

-- a walk: first the root, then a step
abbrev pub way_want : Graph → Option ℕ → Option ℕ → Option Name → Want
way_want graph None behind name = Take 0
way_want graph (Some n) behind name = behind_or behind (step_want graph n name)

-- what a walk along a path wants next
abbrev pub want : Graph → Key → Way → Want
want graph path way = way_want graph way.node way.behind (name_ahead path way)

-- what comes after an arrival
abbrev pub then_want : Want → Want → Want
then_want (Take n) next = Take n
then_want (LetGo n) next = LetGo n
then_want Arrived next = next
then_want (Fails e) next = Fails e

-- an arrival at a directory
abbrev pub at_dir : Option Shape → Want
at_dir None = Fails Enoent
at_dir (Some (File bytes)) = Fails Enotdir
at_dir (Some (Dir names)) = Arrived

-- a head on its way to a directory
abbrev pub dir_want : Graph → Head → Option Name → Want
dir_want graph head name = then_want (step_want graph head.node name) (at_dir (graph.shape head.node))

-- both heads: from a common directory first the source head, then the destination head
abbrev pub heads_want : Graph → Key → Key → ForkWay → Want
heads_want graph source dest fork =
    then_want (at_dir (graph.shape fork.node))
    (then_want (dir_want graph fork.source (head_name source fork.names fork.source))
    (dir_want graph fork.dest (head_name dest fork.names fork.dest)))

-- a fork: what is behind, then its heads
abbrev pub fork_want : Graph → Key → Key → ForkWay → Want
fork_want graph source dest fork = behind_or fork.behind (heads_want graph source dest fork)
