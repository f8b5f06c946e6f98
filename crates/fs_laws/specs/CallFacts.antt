-- What every two calls under way keep. Key has the key of each position; it is no part of the state: the theorem over runs gives one.
use Rattle.std.specs.Prelude.{ℕ, ◌≡◌, ◌<◌, ◌++◌, Some, None, ◌⊎◌}
use Rattle.fs_names.specs.Keys.{Key, after_prefix}
use Rattle.fs_names.specs.Parts.{HasNames}
use Rattle.fs_calls.specs.Forms.{Fits}
use Rattle.fs_laws.specs.Maps.{Map}
use Rattle.fs_machine.specs.Records.{Holdings, Side, head_on, head_at, Phase, Walking, Placed, Record, Records, Holds}

-- the call stands at this key, by the numbers at the keys
pub record Located (tree : Map ℕ) (key : Key) (st : Holdings) : Type 0 where
  pub here : tree key ≡ Some st.node
  pub head : (side : Side) → tree (key ++ (head_on side st).walked) ≡ Some (head_on side st).node

-- the second is to go on after the first: it is walking, or placed later
abbrev pub IsAfter : Phase → Phase → Type 0
IsAfter (Placed i) Walking = Unit {0}
IsAfter (Placed i) (Placed j) = i < j
IsAfter _ _ = ⊥

-- no node strictly between a key and what a head has walked from it is held by the other call
abbrev pub IsClear : Map ℕ → Key → Key → Holdings → Type 0
IsClear tree key walked other = (u v : Key) (n : ℕ) → HasNames u → HasNames v → walked ≡ u ++ v → tree (key ++ u) ≡ Some n → Holds other n → ⊥

-- what two calls keep, in this order: a node has one holder; no walking or later placed call below a placed one; nobody between a common directory and its heads
pub record Pair (tree : Map ℕ) (key : Key) (st : Holdings) (phase : Phase) (other_key : Key) (other : Holdings) (other_phase : Phase) : Type 0 where
  pub apart : (n : ℕ) → Holds st n → Holds other n → ⊥
  pub after : IsAfter phase other_phase → after_prefix key other_key ≡ None
  pub clear : (side : Side) → IsClear tree key (head_on side st).walked other

-- what one call keeps
pub record Keeps (tree : Map ℕ) (key : Key) (op : Record) (st : Holdings) : Type 0 where
  pub located : Located tree key st
  pub walking : op.phase ≡ Walking → key ≡ op.walked
  pub fits : Fits op.remaining

-- what all calls keep
pub record CallFacts (tree : Map ℕ) (ops : Records) (key : ℕ → Key) : Type 0 where
  pub one_key : (a b : Key) (n : ℕ) → tree a ≡ Some n → tree b ≡ Some n → a ≡ b
  pub each : (c : ℕ) (op : Record) (st : Holdings) → ops c ≡ Some op → op.holdings ≡ Some st → Keeps tree (key c) op st
  pub pairs : (c d : ℕ) (p q : Record) (st other : Holdings) → (c ≡ d → ⊥) → ops c ≡ Some p → ops d ≡ Some q → p.holdings ≡ Some st → q.holdings ≡ Some other → Pair tree (key c) st p.phase (key d) other q.phase

-- nobody holds a node
abbrev pub IsFree : Records → ℕ → Type 0
IsFree ops n = (d : ℕ) (q : Record) (other : Holdings) → ops d ≡ Some q → q.holdings ≡ Some other → Holds other n → ⊥

-- what one call may hold less of
pub record Shrinks (st new : Holdings) : Type 0 where
  pub node : new.node ≡ st.node
  pub holds : (n : ℕ) → Holds new n → Holds st n
  pub head : (side : Side) → (head_on side new ≡ head_on side st) ⊎ (head_on side new ≡ head_at st.node)
