-- Where calls stand, and the record of a call under way.
use Rattle.std.specs.Prelude.{ℕ, ◌≡◌, List, [], ◌∷◌, ◌++◌, option_to_list, Option, Some, None, ◌⊎◌}
use Rattle.fs_names.specs.Keys.{Key}
use Rattle.fs_names.specs.Parts.{HasNames}
use Rattle.fs_calls.specs.declared.call.Call.{Call}
use Rattle.fs_calls.specs.Forms.{Form}
use Rattle.fs_calls.specs.declared.reply.Reply.{Reply}

-- a head of a call on two entries: the names that it has walked from the common directory, and its node
pub record Head : Type 0 where
  pub walked : Key
  pub node : ℕ

-- where a call stands: the position, a node that its last step left behind and that it still holds, the two heads (of a call on two entries;
-- else they have walked nothing), a victim
pub record Holdings : Type 0 where
  pub node : ℕ
  pub behind : Option ℕ
  pub source : Head
  pub dest : Head
  pub victim : Option ℕ

-- the two sides of a call on two entries, each with a head
pub data Side : Type 0 where
  Source Dest : Side

-- of two things the one of a side: the first is the source's
abbrev pub of_side : {A : Type 0} → Side → A → A → A
of_side Source a b = a
of_side Dest a b = b

-- the head on a side
abbrev pub head_on : Side → Holdings → Head
head_on side st = of_side side st.source st.dest

-- the holdings with another head on a side
abbrev pub with_head : Side → Head → Holdings → Holdings
with_head side h st = record st { source = of_side side h st.source; dest = of_side side st.dest h }

-- how far a call is
pub data Phase : Type 0 where
  Walking : Phase
  Placed : ℕ → Phase  -- the number of commits before its own
  Finished : Reply → Phase

-- a call under way: what it has walked of its own paths, what is left of it from there, where it stands (None: it holds nothing),
-- its reserved number until it is used, and the node that it removed until it lets it go
pub record Record : Type 0 where
  pub seat : ℕ
  pub call : Call
  pub walked : Key
  pub remaining : Form
  pub holdings : Option Holdings
  pub phase : Phase
  pub reserved : Option ℕ
  pub removed : Option ℕ

-- the calls under way, by their numbers
abbrev pub Records : Type 0
Records = ℕ → Option Record

-- a head holds its node, once it has set out
abbrev pub HeadHolds : Head → ℕ → Type 0
HeadHolds h n = HasNames h.walked × (h.node ≡ n)

-- a call that stands so holds a node: the position, the one behind, a head's, or the victim
abbrev pub Holds : Holdings → ℕ → Type 0
Holds st n = (st.node ≡ n) ⊎ (st.behind ≡ Some n) ⊎ HeadHolds st.source n ⊎ HeadHolds st.dest n ⊎ (st.victim ≡ Some n)

-- the node that a head holds which has walked these names: none before it sets out
abbrev pub held_on : Key → ℕ → Option ℕ
held_on [] n = None
held_on (x ∷ walked) n = Some n

-- what a call holds that has nothing behind it, in the order taken: four nodes at most
abbrev pub taken : Holdings → List ℕ
taken st = st.node ∷ option_to_list (held_on st.source.walked st.source.node) ++ option_to_list (held_on st.dest.walked st.dest.node) ++ option_to_list st.victim

-- the same, or none where it holds no node
abbrev pub taken_if : Option Holdings → List ℕ
taken_if None = []
taken_if (Some st) = taken st

-- a head before it sets out
abbrev pub head_at : ℕ → Head
head_at n = record { walked = []; node = n }

-- the holdings at one node
abbrev pub holdings_at : ℕ → Option ℕ → Holdings
holdings_at n behind = record { node = n; behind = behind; source = head_at n; dest = head_at n; victim = None }
