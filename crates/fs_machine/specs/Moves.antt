-- The next move of a call under way, and its record after a take and after a let go.
-- The moves are those of `src/moves.rt`, read here as sentences: a call takes a node, leaves one, finishes, ends.
-- A number of a move is that of the table in `docs/MACHINE.md`.
use Rattle.std.specs.Prelude.{ℕ, Bool, true, false, not, ◌&&◌, [], ◌∷◌, ◌++◌, Option, Some, None}
use Rattle.fs_names.specs.Keys.{Key, after_prefix, has_more, parent_of, last_of, is_end}
use Rattle.fs_names.specs.Names.{Name}
use Rattle.fs_names.specs.Parts.{common, left}
use Rattle.fs_names.specs.Shapes.{Shape, Dir, File}
use Rattle.fs_calls.specs.Forms as pairs
use Rattle.fs_calls.specs.Forms.{Form, AtNode, AtEntry, AtPair, EntryCall, Unlink, Rmdir, PairCall, by_paths}
use Rattle.fs_calls.specs.Rows.{as_dir, has_room, rename_row, exchange_row}
use Rattle.fs_calls.specs.declared.errno.Errno.{Errno}
use Rattle.fs_calls.specs.declared.errno.Errno.TheVariants.{Enoent, Enotdir}
use Rattle.fs_calls.specs.declared.reply.Reply.{Reply}
use Rattle.fs_calls.specs.Graphs.{Graph, entry_shape}
use Rattle.fs_machine.specs.declared.moves.Move.{Move}
use Rattle.fs_machine.specs.declared.moves.Moved.{Moved}
use Rattle.fs_machine.specs.declared.moves.Moved.TheVariants.{Nothing, One, Two}
use Rattle.fs_machine.specs.declared.moves.Move.TheVariants.{Take as Takes, LetGo as Leaves, Finish as Finishes, Return as Ends}
use Rattle.fs_machine.specs.Records.{Head, Holdings, Side, Source, Dest, head_on, with_head, Phase, Walking, Placed, Finished, Record, head_at, holdings_at, held_on}

-- the first of two moves
abbrev pub first_of : Option Move → Move → Move
first_of None m = m
first_of (Some m) n = m

-- the names left to the target
abbrev pub target : Form → Key
target (AtNode c p) = p
target (AtEntry c p) = parent_of p
target (AtPair c p q) = common (parent_of p) (parent_of q)

-- move 3, at a node with a name left: a file or a missing name finishes, a name that is there is taken
abbrev pub walk_move : Option Shape → Option ℕ → Move
walk_move None child = Finishes Nothing
walk_move (Some (File bytes)) child = Finishes Nothing
walk_move (Some (Dir names)) None = Finishes Nothing
walk_move (Some (Dir names)) (Some m) = Takes m

-- move 3 from a node: a step; None where no name is left
abbrev pub step_move : Graph → ℕ → Key → Option Move
step_move graph n [] = None
step_move graph n (x ∷ l) = Some (walk_move (graph.shape n) (graph.child n x))

-- the victim of an unlink or rmdir, taken where its kind is the right one
abbrev pub victim_of : EntryCall → Option Shape → Bool
victim_of Unlink (Some (File bytes)) = true
victim_of Rmdir (Some (Dir names)) = true
victim_of _ _ = false

-- a victim that is wanted, there and not yet held is taken
abbrev pub take_if : Bool → Option ℕ → Option ℕ → Move → Move
take_if true (Some n) None m = Takes n
take_if _ _ _ m = m

-- move 4, at the parent of an entry
abbrev pub entry_move : Graph → EntryCall → Name → Holdings → Move
entry_move graph c x st = take_if (victim_of c (entry_shape graph st.node x)) (graph.child st.node x) st.victim (Finishes Nothing)

-- of a q that is a proper prefix of p it is known by the paths that it is a directory with entries
abbrev pub there_by : Bool → Option Shape → Option Shape
there_by true there = Some (Dir ([] ∷ []))
there_by false there = there

-- whether both are there and are directories, or files
abbrev pub same_kind : Option Shape → Option Shape → Bool
same_kind (Some (Dir a)) (Some (Dir b)) = true
same_kind (Some (File a)) (Some (File b)) = true
same_kind _ _ = false

-- why a walk with names left ends at a node
abbrev pub walk_errno : Option Shape → Errno
walk_errno None = Enoent
walk_errno (Some (Dir names)) = Enoent
walk_errno (Some (File bytes)) = Enotdir

-- the error at a node with these names left to a path: with names left, the walk failed there
abbrev pub path_error : Key → Option Shape → Option Errno
path_error [] shape = None
path_error (x ∷ l) shape = Some (walk_errno shape)

-- the same of the parent of a path; None: it has arrived at a directory
abbrev pub dir_error : Key → Option Shape → Option Errno
dir_error [] shape = as_dir None shape
dir_error (x ∷ l) shape = Some (walk_errno shape)

-- a rename at both parents: the reply and whether it really moves, by what it reads there
abbrev pub rename_at : Graph → ℕ → Key → Key → Holdings → Reply × Bool
rename_at graph most p q st =
    rename_row
    (dir_error (left st.source.walked (parent_of p)) (graph.shape st.source.node))
    (dir_error (left st.dest.walked (parent_of q)) (graph.shape st.dest.node))
    (entry_shape graph st.source.node (last_of p))
    (is_end (after_prefix p q))
    (there_by (has_more (after_prefix q p)) (entry_shape graph st.dest.node (last_of q)))
    (has_room most (is_end (after_prefix (parent_of p) (parent_of q))) (graph.shape st.dest.node))

-- the node that a rename would really move
abbrev pub moved_node : Bool → Option ℕ → Moved
moved_node true (Some s) = One s
moved_node true None = Nothing
moved_node false s = Nothing

-- move 6: a victim is taken where q is there with p's kind, p is another path and q no proper prefix of p
abbrev pub rename_move : Graph → ℕ → Key → Key → Holdings → Move
rename_move graph most p q st =
    take_if
    (same_kind (entry_shape graph st.source.node (last_of p)) (entry_shape graph st.dest.node (last_of q)) && not (is_end (after_prefix p q)) && not (has_more (after_prefix q p)))
    (graph.child st.dest.node (last_of q)) st.victim
    (Finishes (moved_node (rename_at graph most p q st).1 (graph.child st.source.node (last_of p))))

-- an exchange at both parents: the reply and whether it really moves, by what it reads there
abbrev pub exchange_at : Graph → Key → Key → Holdings → Reply × Bool
exchange_at graph p q st =
    exchange_row
    (dir_error (left st.source.walked (parent_of p)) (graph.shape st.source.node))
    (dir_error (left st.dest.walked (parent_of q)) (graph.shape st.dest.node))
    (entry_shape graph st.source.node (last_of p))
    (is_end (after_prefix p q))
    (entry_shape graph st.dest.node (last_of q))

-- the nodes that an exchange would really move
abbrev pub moved_nodes : Bool → Option ℕ → Option ℕ → Moved
moved_nodes true (Some s) (Some t) = Two s t
moved_nodes true (Some s) None = Nothing
moved_nodes true None t = Nothing
moved_nodes false s t = Nothing

-- it takes no victim: neither node is taken
abbrev pub exchange_move : Graph → Key → Key → Holdings → Move
exchange_move graph p q st = Finishes (moved_nodes (exchange_at graph p q st).1 (graph.child st.source.node (last_of p)) (graph.child st.dest.node (last_of q)))

-- a pair at both parents
abbrev pub parents_move : Graph → PairCall → Key → Key → Holdings → Move
parents_move graph (pairs.Rename most) p q st = rename_move graph most p q st
parents_move graph pairs.Exchange p q st = exchange_move graph p q st

-- a parent that is a file finishes before the next head sets out
abbrev pub dir_then : Option Shape → Move → Move
dir_then (Some (Dir names)) m = m
dir_then (Some (File bytes)) m = Finishes Nothing
dir_then None m = Finishes Nothing

-- move 5, at the common directory
abbrev pub fork_move : Graph → PairCall → Key → Key → Holdings → Move
fork_move graph c p q st =
    dir_then (graph.shape st.node)
    (first_of (step_move graph st.source.node (left st.source.walked (parent_of p)))
    (dir_then (graph.shape st.source.node)
    (first_of (step_move graph st.dest.node (left st.dest.walked (parent_of q)))
    (dir_then (graph.shape st.dest.node) (parents_move graph c p q st)))))

-- moves 4 to 6, at the target
abbrev pub target_move : Graph → Form → Holdings → Move
target_move graph (AtNode c p) st = Finishes Nothing
target_move graph (AtEntry c p) st = entry_move graph c (last_of p) st
target_move graph (AtPair c p q) st = fork_move graph c p q st

-- what a step left behind is let go before the next move
abbrev pub behind_first : Option ℕ → Move → Move
behind_first (Some n) m = Leaves n
behind_first None m = m

-- moves 3 to 6: a call that holds a node and is not finished
abbrev pub next_on : Graph → Form → Holdings → Move
next_on graph remaining st = behind_first st.behind (first_of (step_move graph st.node (target remaining)) (target_move graph remaining st))

-- the first of two nodes, if its head has set out, and else the second
abbrev pub first_walked : Key → ℕ → ℕ → ℕ
first_walked [] n m = m
first_walked (x ∷ walked) n m = n

-- the node that was taken last, by both heads: the destination head sets out second
abbrev pub last_of_heads : ℕ → Head → Head → ℕ
last_of_heads n first second = first_walked second.walked second.node (first_walked first.walked first.node n)

-- the node that was taken last, which a finished call lets go first (move 9)
abbrev pub last_held : Holdings → Option ℕ → ℕ
last_held st (Some v) = v
last_held st None = last_of_heads st.node st.source st.dest

-- in this order: moves 10 and 9 of a finished call, 1 by its paths, 2 at the root, 3 to 6 from where it stands
abbrev pub next_by : Graph → Record → Option Errno → Phase → Option Holdings → Move
next_by graph op e (Finished r) None = Ends
next_by graph op e (Finished r) (Some st) = Leaves (last_held st st.victim)
next_by graph op (Some e) phase st = Finishes Nothing
next_by graph op None phase None = Takes 0
next_by graph op None phase (Some st) = next_on graph op.remaining st

-- the next move of a record on a graph
abbrev pub next : Graph → Record → Move
next graph op = next_by graph op (by_paths op.call) op.phase op.holdings

-- a path without its first name
abbrev pub tail_of : Key → Key
tail_of [] = []
tail_of (x ∷ p) = p

-- what is left of the paths of a call after a step of its walk
abbrev pub inner : Form → Form
inner (AtNode c p) = AtNode c (tail_of p)
inner (AtEntry c p) = AtEntry c (tail_of p)
inner (AtPair c p q) = AtPair c (tail_of p) (tail_of q)

-- a head after a step to a node
abbrev pub head_took : Head → Name → ℕ → Head
head_took h x n = record { walked = h.walked ++ x ∷ []; node = n }

-- a victim is taken
abbrev pub victim_took : Holdings → ℕ → Holdings
victim_took st n = record st { victim = Some n }

-- the head on a side takes a step; the node that it held is behind then
abbrev pub stepped : Side → Holdings → Name → ℕ → Holdings
stepped side st x n = record (with_head side (head_took (head_on side st) x n) st) { behind = held_on (head_on side st).walked (head_on side st).node }

-- with names left to it the head on a side takes a step, and else the call stands as told
abbrev pub step_or : Side → Key → Holdings → ℕ → Holdings → Holdings
step_or side [] st n other = other
step_or side (x ∷ l) st n other = stepped side st x n

-- where a call stands after a take at its target: a victim, or a step of a head, the source's first
abbrev pub target_took : Form → Holdings → ℕ → Holdings
target_took (AtNode c p) st n = st
target_took (AtEntry c p) st n = victim_took st n
target_took (AtPair c p q) st n =
    step_or Source (left st.source.walked (parent_of p)) st n (step_or Dest (left st.dest.walked (parent_of q)) st n (victim_took st n))

-- the record after a take: of the root, at the target, of the next node of the walk
abbrev pub took_by : Record → Option Holdings → Key → ℕ → Record
took_by op None l n = record op { holdings = Some (holdings_at n None) }
took_by op (Some st) [] n = record op { holdings = Some (target_took op.remaining st n) }
took_by op (Some st) (x ∷ l) n = record op { walked = op.walked ++ x ∷ []; remaining = inner op.remaining; holdings = Some (holdings_at n (Some st.node)) }

-- the same, by where it stands and what is left to its target
abbrev pub took : Record → ℕ → Record
took op n = took_by op op.holdings (target op.remaining) n

-- the node of the destination head goes, else that of the source head, else the position, and nothing is held
abbrev pub left_heads : Holdings → Key → Key → Option Holdings
left_heads st (x ∷ second) first = Some (record st { dest = head_at st.node })
left_heads st [] (x ∷ first) = Some (record st { source = head_at st.node })
left_heads st [] [] = None

-- of a finished call the victim goes first, then what its heads hold
abbrev pub left_last : Holdings → Option ℕ → Option Holdings
left_last st (Some v) = Some (record st { victim = None })
left_last st None = left_heads st st.dest.walked st.source.walked

-- of a finished call goes what was taken last, of another one what is behind
abbrev pub left_by_phase : Phase → Holdings → Option Holdings
left_by_phase (Finished r) st = left_last st st.victim
left_by_phase Walking st = Some (record st { behind = None })
left_by_phase (Placed i) st = Some (record st { behind = None })

-- where a call stands after a let go
abbrev pub left_holdings : Phase → Option Holdings → Option Holdings
left_holdings phase None = None
left_holdings phase (Some st) = left_by_phase phase st
