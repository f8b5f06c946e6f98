-- Objects of JSON.
use Rattle.std.specs.Prelude.{ℕ, List, [], ◌∷◌, ◌++◌, codes, decimal}
use Rattle.std.specs.List.{flat_map}
use Rattle.fs_words.specs.Json.{string_text}

-- what a member of an object has: a string, a number, or nothing
pub data Value : Type 0 where
  Text : List ℕ → Value
  Number : ℕ → Value
  Null : Value

-- a member: its name, and what it has
abbrev pub Member : Type 0
Member = List ℕ × Value

-- what a member has, as it is written
abbrev pub value_text : Value → List ℕ
value_text (Text bytes) = string_text bytes
value_text (Number n) = decimal n
value_text Null = codes "null"

-- a member
abbrev pub pair_text : Member → List ℕ
pair_text m = string_text m.0 ++ (codes ":" ++ value_text m.1)

-- a member behind others
abbrev pub next_text : Member → List ℕ
next_text m = codes "," ++ pair_text m

-- the members of an object
abbrev pub members_text : List Member → List ℕ
members_text [] = []
members_text (m ∷ ms) = pair_text m ++ flat_map next_text ms

-- an object with these members, in a line
abbrev pub object_text : List Member → List ℕ
object_text ms = codes "{" ++ (members_text ms ++ codes "}\n")
