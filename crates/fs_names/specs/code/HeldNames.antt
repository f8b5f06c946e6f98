-- Where the bytes of a name stand.
use Rattle.std.specs.Prelude.{ℕ, zero, suc, List, [], ◌∷◌, IsTrue, ◌≡◌, ◌≤◌, ◌<◌, length, take, Option, Some, None}
use Rattle.std.specs.List.{AllByRecursion}
use Rattle.std.specs.Global.{Vec}
use Rattle.std.specs.Arc.{arc_value}
use Rattle.fs_names.specs.Names.{can_name}
use Rattle.fs_names.specs.declared.name.Held.{Held}
use Rattle.fs_names.specs.declared.name.Held.TheVariants.{InPlace, Shared}
use Rattle.fs_names.specs.declared.name.TheConstants.{IN_PLACE}

-- the bytes that are held: the first of those in place, or all that are shared
abbrev pub held_bytes : Held → List ℕ
held_bytes (InPlace len room) = take len room
held_bytes (Shared len bytes) = (arc_value bytes).items

-- how many bytes are said to be held
abbrev pub held_len : Held → ℕ
held_len (InPlace len room) = len
held_len (Shared len bytes) = len

-- zeros and nothing else stand behind so many bytes
abbrev pub IsPadded : ℕ → List ℕ → Type 0
IsPadded zero room = AllByRecursion (λ b. b ≡ 0) room
IsPadded (suc len) [] = ⊥
IsPadded (suc len) (b ∷ room) = IsPadded len room

-- as many as there is room for in place, with zeros behind them, or more
abbrev pub IsPlaced : Held → Type 0
IsPlaced (InPlace len room) = (len ≤ IN_PLACE) × IsPadded len room
IsPlaced (Shared len bytes) = IN_PLACE < length (arc_value bytes).items

-- they are a name, as many as is said, and stand where that says
pub record IsHeldName (held : Held) : Type 0 where
  pub named : IsTrue (can_name (held_bytes held))
  pub len : held_len held ≡ length (held_bytes held)
  pub placed : IsPlaced held

-- the bytes in a vector that is shared, if there is one
abbrev pub owned_bytes : Option (Vec ℕ) → Option (List ℕ)
owned_bytes None = None
owned_bytes (Some bytes) = Some bytes.items
