-- The settled graph, by the moves that placed calls have left, and the settled tree, by present calls.
use Rattle.std.specs.Prelude.{ℕ, zero, suc, ◌+◌, List, [], ◌∷◌, Option, Some, None, length}
use Rattle.fs_names.specs.Keys.{Key}
use Rattle.fs_names.specs.Shapes.{Shape}
use Rattle.fs_laws.specs.Changes.{reply, after}
use Rattle.fs_calls.specs.Forms.{Form, AtNode, AtEntry, AtPair, under}
use Rattle.fs_laws.specs.Maps.{Map}
use Rattle.fs_calls.specs.declared.reply.Reply.{Reply}
use Rattle.fs_calls.specs.Graphs.{Graph}
use Rattle.fs_machine.specs.Finishes.{Effect, finish}
use Rattle.fs_machine.specs.Moves.{next, took, left_holdings}
use Rattle.fs_machine.specs.declared.moves.Move.{Move}
use Rattle.fs_machine.specs.declared.moves.Move.TheVariants.{Take as Takes, LetGo as Leaves, Finish as Finishes, Return as Ends}
use Rattle.fs_machine.specs.Records.{Record, Records}

-- the record's own moves up to its finish, as if nobody else held a node: at most `steps` of them
abbrev pub alone_by : ℕ → Graph → Record → Move → Effect
alone_by zero graph op move = finish graph op
alone_by (suc steps) graph op (Takes n) = alone_by steps graph (took op n) (next graph (took op n))
alone_by (suc steps) graph op (Leaves n) = alone_by steps graph (record op { holdings = left_holdings op.phase op.holdings }) (next graph (record op { holdings = left_holdings op.phase op.holdings }))
alone_by (suc steps) graph op (Finishes s) = finish graph op
alone_by (suc steps) graph op Ends = finish graph op

-- each name left is one take and one let go; besides, the root, and a victim
abbrev pub names_left : Form → ℕ
names_left (AtNode c p) = length p
names_left (AtEntry c p) = length p
names_left (AtPair c p q) = length p + length q

-- what a call makes of the graph alone
abbrev pub alone : Graph → Record → Effect
alone graph op = alone_by (names_left op.remaining + names_left op.remaining + 4) graph op (next graph op)

-- the same of a call that may be there
abbrev pub settled_by : Graph → Option Record → Graph
settled_by graph None = graph
settled_by graph (Some op) = (alone graph op).graph

-- the placed calls, in the order of commits
abbrev pub settled_graph : Graph → Records → List ℕ → Graph
settled_graph graph ops [] = graph
settled_graph graph ops (c ∷ cs) = settled_graph (settled_by graph (ops c)) ops cs

-- what each of them replies
abbrev pub settled_reply : Graph → Option Record → List Reply → List Reply
settled_reply graph None rs = rs
settled_reply graph (Some op) rs = (alone graph op).reply ∷ rs

-- the replies of all of them, in order
abbrev pub settled_replies : Graph → Records → List ℕ → List Reply
settled_replies graph ops [] = []
settled_replies graph ops (c ∷ cs) = settled_reply graph (ops c) (settled_replies (settled_by graph (ops c)) ops cs)

-- the settled tree: calls, each with the key of its position and what it has left, one after another
abbrev pub settle : Map Shape → List (Key × Form) → Map Shape
settle tree [] = tree
settle tree (p ∷ ps) = settle (after tree (under p.0 p.1)) ps

-- what each of them replies
abbrev pub settle_replies : Map Shape → List (Key × Form) → List Reply
settle_replies tree [] = []
settle_replies tree (p ∷ ps) = reply tree (under p.0 p.1) ∷ settle_replies (after tree (under p.0 p.1)) ps
