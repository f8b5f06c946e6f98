-- What a take and a let go make of a walk, of a fork and of a victim.
use Rattle.std.specs.Prelude.{ℕ, ◌≡◌, cond, option_to_list, List, [], ◌∷◌, ◌++◌, Option, Some, None}
use Rattle.fs_calls.specs.Forms.{Form}
use Rattle.fs_names.specs.Keys.{Key}
use Rattle.fs_walk.specs.Ways.{Way, ForkWay, new_fork, has_set_out, head_held, way_took, fork_took}
use Rattle.fs_machine.specs.Moves.{target_took}
use Rattle.fs_ops.specs.declared.stand.Stand.{Stand}
use Rattle.fs_ops.specs.OpValue.{behind_in, dropped, holdings_with}

-- the heads, at a node with so many names before it until they set out
abbrev pub started : Option ForkWay → ℕ → ℕ → ForkWay
started None n names = new_fork n names
started (Some fork) n names = fork

-- where a call stands after a take of its walk
abbrev pub walk_on : Stand → ℕ → Stand
walk_on stand n = record { walk = way_took stand.walk n; fork = None; victim = None }

-- a take at the target leads from these heads and this victim to those
abbrev pub TakesTo : Form → Way → ℕ → ℕ → Option ForkWay → Option ℕ → Option ForkWay → Option ℕ → Type 0
TakesTo call way at n fork victim fork_new victim_new =
    target_took (dropped way.walked call) (holdings_with call at (behind_in way.behind fork) fork victim) n ≡ holdings_with call at (behind_in way.behind fork_new) fork_new victim_new

-- the heads of a call on two entries after a take, once one of them has set out
abbrev pub heads_after : Key → Key → Option ForkWay → ℕ → ℕ → ℕ → Option ForkWay
heads_after p q (Some fork) at names n = Some (fork_took p q fork n)
heads_after p q None at names n = cond (has_set_out (fork_took p q (new_fork at names) n)) (Some (fork_took p q (new_fork at names) n)) None

-- a walk with nothing behind it
abbrev pub way_freed : Way → Way
way_freed way = record way { behind = None }

-- where heads have set out, what is behind is theirs
abbrev pub way_let_go : Option ForkWay → Way → Way
way_let_go None way = way_freed way
way_let_go (Some fork) way = way

-- the heads with nothing behind them
abbrev pub fork_let_go : Option ForkWay → Option ForkWay
fork_let_go None = None
fork_let_go (Some fork) = Some (record fork { behind = None })

-- the nodes that the heads hold
abbrev pub heads_held : Option ForkWay → List ℕ
heads_held None = []
heads_held (Some fork) = option_to_list (head_held fork.source) ++ option_to_list (head_held fork.dest)

-- what a call that finishes holds, in the order taken
abbrev pub all_held : Option ℕ → Option ForkWay → Option ℕ → List ℕ
all_held None fork victim = []
all_held (Some n) fork victim = n ∷ heads_held fork ++ option_to_list victim
