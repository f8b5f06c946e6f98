-- Renamings of node numbers, and what they make of a state.
use Rattle.std.specs.Prelude.{ℕ, ◌≡◌, Option, option_map}
use Rattle.fs_calls.specs.Graphs.{Graph, Children}
use Rattle.fs_machine.specs.Finishes.{Effect}
use Rattle.fs_machine.specs.declared.moves.Move.{Move}
use Rattle.fs_machine.specs.declared.moves.Move.TheVariants.{Take as Takes, LetGo as Leaves, Finish as Finishes, Return as Ends}
use Rattle.fs_machine.specs.declared.moves.Moved.{Moved}
use Rattle.fs_machine.specs.declared.moves.Moved.TheVariants.{Nothing, One, Two}
use Rattle.fs_machine.specs.Records.{Head, Holdings, Record, Records}
use Rattle.fs_machine.specs.States.{State}
use Rattle.fs_machine.specs.declared.answers.Stepped.{Stepped}
use Rattle.fs_machine.specs.declared.answers.Stepped.TheVariants.{Idle, Took, Busy, LetGo, Helped, Committed, CarriedOut, Returned}

-- a renaming has an inverse, and leaves the root's number
pub record Renaming : Type 0 where
  pub to : ℕ → ℕ
  pub from : ℕ → ℕ
  pub there : (n : ℕ) → from (to n) ≡ n
  pub back : (n : ℕ) → to (from n) ≡ n
  pub root : to 0 ≡ 0

-- a function of numbers, read at the old one
abbrev pub by_old : {A : Type 0} → Renaming → (ℕ → A) → ℕ → A
by_old r f n = f (r.from n)

-- a number that may be there
abbrev pub renamed_number : Renaming → Option ℕ → Option ℕ
renamed_number r o = option_map r.to o

-- what each entry names
abbrev pub renamed_children : Renaming → Children → Children
renamed_children r child n x = renamed_number r (child (r.from n) x)

-- a graph
abbrev pub renamed_graph : Renaming → Graph → Graph
renamed_graph r graph = record { child = renamed_children r graph.child; shape = by_old r graph.shape }

-- where a call stands
abbrev pub renamed_head : Renaming → Head → Head
renamed_head r h = record { walked = h.walked; node = r.to h.node }

-- where a call stands, with its numbers renamed
abbrev pub renamed_holdings : Renaming → Holdings → Holdings
renamed_holdings r st = record { node = r.to st.node; behind = renamed_number r st.behind; source = renamed_head r st.source; dest = renamed_head r st.dest; victim = renamed_number r st.victim }

-- a call under way
abbrev pub renamed_record : Renaming → Record → Record
renamed_record r op = record {
  seat = op.seat;
  call = op.call;
  walked = op.walked;
  remaining = op.remaining;
  holdings = option_map (renamed_holdings r) op.holdings;
  phase = op.phase;
  reserved = renamed_number r op.reserved;
  removed = renamed_number r op.removed;
}

-- all calls under way; numbers of calls stay
abbrev pub renamed_records : Renaming → Records → Records
renamed_records r ops c = option_map (renamed_record r) (ops c)

-- a state; its limit, start tree, seats and timeline stay
abbrev pub renamed : Renaming → State → State
renamed r s = record { limit = s.limit; start = s.start; graph = renamed_graph r s.graph; holder = by_old r s.holder; ops = renamed_records r s.ops; on_seat = s.on_seat; timeline = s.timeline }

-- what a finish makes
abbrev pub renamed_made : Renaming → Effect → Effect
renamed_made r made = record { reply = made.reply; graph = renamed_graph r made.graph; reserved = renamed_number r made.reserved; removed = renamed_number r made.removed }

-- what a finish moves
abbrev pub renamed_moved : Renaming → Moved → Moved
renamed_moved r Nothing = Nothing
renamed_moved r (One n) = One (r.to n)
renamed_moved r (Two n m) = Two (r.to n) (r.to m)

-- a move
abbrev pub renamed_move : Renaming → Move → Move
renamed_move r (Takes n) = Takes (r.to n)
renamed_move r (Leaves n) = Leaves (r.to n)
renamed_move r (Finishes o) = Finishes (renamed_moved r o)
renamed_move r Ends = Ends

-- what a step answers
abbrev pub renamed_answer : Renaming → Stepped → Stepped
renamed_answer r Idle = Idle
renamed_answer r (Took n) = Took (r.to n)
renamed_answer r (Busy n c) = Busy (r.to n) c
renamed_answer r (LetGo n) = LetGo (r.to n)
renamed_answer r (Helped c) = Helped c
renamed_answer r Committed = Committed
renamed_answer r CarriedOut = CarriedOut
renamed_answer r (Returned reply) = Returned reply

-- the second state is the first with its numbers renamed
abbrev pub Alike : State → State → Type 0
Alike a b = (r : Renaming) × (b ≡ renamed r a)
