-- What every state of a run keeps.
use Rattle.std.specs.Prelude.{ℕ, ◌≡◌, ◌<◌, false, List, [], ◌∷◌, ◌++◌, Option, Some, None, ◌⊎◌}
use Rattle.fs_names.specs.Keys.{Key, parent_of, last_of}
use Rattle.fs_names.specs.Parts.{left}
use Rattle.fs_names.specs.Shapes.{Shape}
use Rattle.fs_names.specs.declared.limits.Limits.{Limits}
use Rattle.fs_calls.specs.Forms.{form, Stat, Form, AtNode, AtEntry, AtPair, under, new_shape, by_paths, PairCall, EntryCall}
use Rattle.fs_calls.specs.Forms as pairs
use Rattle.fs_laws.specs.Maps.{Map}
use Rattle.fs_calls.specs.declared.reply.Reply.{Reply}
use Rattle.fs_calls.specs.declared.call.Call.{Call}
use Rattle.fs_calls.specs.Graphs.{Graph, at, numbers, graph_shapes, IsGraph}
use Rattle.fs_machine.specs.Moves.{target}
use Rattle.fs_machine.specs.Records.{Holdings, Side, of_side, head_on, Walking, Placed, Finished, Record, Records, Holds}
use Rattle.fs_laws.specs.JournalViews.{JournalView, start, view_after, IsLawful}
use Rattle.fs_timeline.specs.Timeline.{begins, commit_count}
use Rattle.fs_laws.specs.Settled.{settle, settle_replies}
use Rattle.fs_laws.specs.CallFacts.{CallFacts}
use Rattle.fs_machine.specs.States.{State, Begun, Begins, Step}
use Rattle.fs_machine.specs.declared.answers.Stepped.{Stepped}

-- what a pair keeps at its common directory
pub record Forked (graph : Graph) (n : ℕ) (p q : Key) (st : Holdings) : Type 0 where
  pub stands : (side : Side) → at graph.child n (head_on side st).walked ≡ Some (head_on side st).node
  pub path : (side : Side) → parent_of (of_side side p q) ≡ (head_on side st).walked ++ left (head_on side st).walked (parent_of (of_side side p q))

-- what a call keeps where it stands; a pair's heads set out at its common directory
abbrev pub ForkedAt : Graph → ℕ → Key → Key → Holdings → Key → Type 0
ForkedAt graph n p q st [] = Forked graph n p q st
ForkedAt graph n p q st (x ∷ l) = Unit {0}

-- the same of each form of call
abbrev pub HeadsSound : Graph → ℕ → Form → Holdings → Type 0
HeadsSound graph n (AtNode c p) st = Unit {0}
HeadsSound graph n (AtEntry c p) st = Unit {0}
HeadsSound graph n (AtPair c p q) st = ForkedAt graph n p q st (target (AtPair c p q))

-- the number that a call reserved, where it has one to link
abbrev pub HasNumber : Graph → EntryCall → Option ℕ → Type 0
HasNumber graph c reserved = (shape : Shape) → new_shape c ≡ Some shape → (m : ℕ) × (reserved ≡ Some m) × (graph.shape m ≡ Some shape) × ((key : Key) → numbers graph key ≡ Some m → ⊥)

-- the same of each form of call
abbrev pub NumberFor : Graph → Form → Option ℕ → Type 0
NumberFor graph (AtNode c p) reserved = Unit {0}
NumberFor graph (AtEntry c p) reserved = HasNumber graph c reserved
NumberFor graph (AtPair c p q) reserved = Unit {0}

-- what is left of a call, from where it stands
abbrev pub remaining_of : Option Record → Form
remaining_of None = AtNode Stat []
remaining_of (Some op) = op.remaining

-- the placed calls in the order of their commits
abbrev pub spots : Records → (ℕ → Key) → List ℕ → List (Key × Form)
spots ops key [] = []
spots ops key (c ∷ cs) = (key c, remaining_of (ops c)) ∷ spots ops key cs

-- a call under way that is placed
pub record IsPlaced (ops : Records) (c : ℕ) : Type 0 where
  pub op : Record
  pub holdings : Holdings
  pub place : ℕ
  pub is : ops c ≡ Some op
  pub on : op.holdings ≡ Some holdings
  pub phase : op.phase ≡ Placed place

-- each has a greater place than the one before
abbrev pub AllLater : Records → ℕ → List ℕ → Type 0
AllLater ops i [] = Unit {0}
AllLater ops i (c ∷ cs) = ((p : IsPlaced ops c) → i < p.place) × AllLater ops i cs

-- placed calls, each with a greater place than those before it
abbrev pub InOrder : Records → List ℕ → Type 0
InOrder ops [] = Unit {0}
InOrder ops (c ∷ cs) = (p : IsPlaced ops c) × AllLater ops p.place cs × InOrder ops cs

-- each of these calls is due this reply
abbrev pub Dues : JournalView → List ℕ → List Reply → Type 0
Dues view [] rs = Unit {0}
Dues view (c ∷ cs) [] = ⊥
Dues view (c ∷ cs) (r ∷ rs) = (view.due c ≡ Some r) × Dues view cs rs

-- the actual tree and the calls under way, against the timeline's view
pub record Tied (tree : Map Shape) (ops : Records) (key : ℕ → Key) (order : List ℕ) (view : JournalView) : Type 0 where
  pub played : settle tree (spots ops key order) ≡ view.tree
  pub dues : Dues view order (settle_replies tree (spots ops key order))
  pub fixed : (c : ℕ) (op : Record) (r : Reply) → ops c ≡ Some op → op.phase ≡ Finished r → view.due c ≡ Some r
  pub fresh : (c : ℕ) (op : Record) → ops c ≡ Some op → op.phase ≡ Walking → view.due c ≡ None
  pub calls : (c : ℕ) (op : Record) → ops c ≡ Some op → view.call c ≡ Some op.call

-- a number is in a list
abbrev pub IsIn : ℕ → List ℕ → Type 0
IsIn c [] = ⊥
IsIn c (d ∷ ds) = (c ≡ d) ⊎ IsIn c ds

-- whether a call on two entries takes a victim: an exchange never does
abbrev pub TakesVictim : PairCall → Type 0
TakesVictim (pairs.Rename most) = Unit {0}
TakesVictim pairs.Exchange = ⊥

-- a victim that a call holds before it finishes is what its entry leads to
abbrev pub VictimAt : Graph → Form → Holdings → Type 0
VictimAt graph (AtNode c p) st = Unit {0}
VictimAt graph (AtEntry c p) st = (v : ℕ) → st.victim ≡ Some v → graph.child st.node (last_of p) ≡ Some v
VictimAt graph (AtPair c p q) st = (v : ℕ) → st.victim ≡ Some v → (graph.child st.dest.node (last_of q) ≡ Some v) × (parent_of q ≡ st.dest.walked) × TakesVictim c

-- the places of its holdings at which a call may hold a node
pub data Slot : Type 0 where
  At_node At_behind At_victim : Slot
  At_head : Side → Slot

-- a node of a head that has set out
abbrev pub if_walked : Key → Option ℕ → Option ℕ
if_walked [] n = None
if_walked (x ∷ walked) n = n

-- the node at each of these places
abbrev pub in_slot : Holdings → Slot → Option ℕ
in_slot st At_node = Some st.node
in_slot st At_behind = st.behind
in_slot st (At_head side) = if_walked (head_on side st).walked (Some (head_on side st).node)
in_slot st At_victim = st.victim

-- no node is held at two places
abbrev pub IsSingle : Holdings → Type 0
IsSingle st = (a b : Slot) (n : ℕ) → in_slot st a ≡ Some n → in_slot st b ≡ Some n → a ≡ b

-- a call that is not finished
abbrev pub IsUnfinished : Record → Type 0
IsUnfinished op = (r : Reply) → op.phase ≡ Finished r → ⊥

-- what one call under way keeps of its own record, by these limits
pub record Own (limits : Limits) (graph : Graph) (op : Record) : Type 0 where
  -- the names walked and what is left make the call
  pub parts : under op.walked op.remaining ≡ form limits op.call
  -- an unfinished call stands well, by its heads, and has its number if it wants one
  pub well : (st : Holdings) → op.holdings ≡ Some st → HeadsSound graph st.node op.remaining st
  -- a reserved number is in use, and nothing leads to it
  pub spare : (n : ℕ) → op.reserved ≡ Some n → ((s : Shape) × (graph.shape n ≡ Some s)) × ((key : Key) → numbers graph key ≡ Some n → ⊥)
  pub number : IsUnfinished op → by_paths op.call ≡ None → NumberFor graph op.remaining op.reserved
  -- a placed call stands somewhere, and its paths do not decide it
  pub placed : (i : ℕ) → op.phase ≡ Placed i → (st : Holdings) × (op.holdings ≡ Some st)
  -- the removed node is the victim, named by nobody and without entries
  pub gone : (n : ℕ) → op.removed ≡ Some n → ((st : Holdings) × (op.holdings ≡ Some st) × (st.victim ≡ Some n)) × ((key : Key) → numbers graph key ≡ Some n → ⊥) × ((s : Shape) × (graph.shape n ≡ Some s))
  pub intact : IsUnfinished op → op.removed ≡ None
  pub one_spare : (n : ℕ) → op.reserved ≡ Some n → op.removed ≡ Some n → ⊥
  pub victim : IsUnfinished op → (st : Holdings) → op.holdings ≡ Some st → VictimAt graph op.remaining st
  -- a call that holds nothing yet has walked nothing
  pub starts : IsUnfinished op → op.holdings ≡ None → op.walked ≡ []
  pub single : (st : Holdings) → op.holdings ≡ Some st → IsSingle st

-- a number that is in use for this call alone
abbrev pub HasSpare : Record → ℕ → Type 0
HasSpare op n = (op.reserved ≡ Some n) ⊎ (op.removed ≡ Some n)

-- the limits that hold
abbrev pub limits_of : State → Limits
limits_of s = s.start.limits

-- what every state of a run keeps; key has the key of each position, order the placed calls by their commits
pub record Invariant (s : State) : Type 0 where
  pub key : ℕ → Key
  pub order : List ℕ
  pub is_graph : IsGraph s.graph
  pub kept : CallFacts (numbers s.graph) s.ops key
  pub in_order : InOrder s.ops order
  pub all_placed : (c : ℕ) (op : Record) (i : ℕ) → s.ops c ≡ Some op → op.phase ≡ Placed i → (i < commit_count s.timeline) × IsIn c order
  pub lawful : IsLawful (start s.start) s.timeline
  pub tied : Tied (graph_shapes s.graph) s.ops key order (view_after (start s.start) s.timeline)
  pub own : (c : ℕ) (op : Record) → s.ops c ≡ Some op → Own (limits_of s) s.graph op
  -- holders: who stands at a node holds it, and nobody else does
  pub held : (c : ℕ) (op : Record) (st : Holdings) (n : ℕ) → s.ops c ≡ Some op → op.holdings ≡ Some st → Holds st n → s.holder n ≡ Some c
  -- two calls have no reserved or removed number in common
  pub apart : (c d n : ℕ) (p q : Record) → (c ≡ d → ⊥) → s.ops c ≡ Some p → s.ops d ≡ Some q → HasSpare p n → HasSpare q n → ⊥
  -- seats and numbers
  pub seated : (seat c : ℕ) → s.on_seat seat ≡ Some c → (op : Record) × (s.ops c ≡ Some op) × (op.seat ≡ seat)
  pub busy : (seat : ℕ) → (view_after (start s.start) s.timeline).busy seat ≡ s.on_seat seat
  pub seat_of : (c : ℕ) (op : Record) → s.ops c ≡ Some op → ((view_after (start s.start) s.timeline).seat_of c ≡ Some op.seat) × ((view_after (start s.start) s.timeline).back c ≡ false)
  pub fresh : (c : ℕ) → begins s.timeline < c → (view_after (start s.start) s.timeline).call c ≡ None

-- one event keeps it: the invariant
abbrev pub StepKeeps : Stepped → Type 0
StepKeeps answer = (old new : State) (seat : ℕ) → Invariant old → Step old seat answer new → Invariant new

-- the same of a begin
abbrev pub BeginKeeps : Begun → Type 0
BeginKeeps answer = (old new : State) (seat : ℕ) (call : Call) → Invariant old → Begins old seat call answer new → Invariant new
