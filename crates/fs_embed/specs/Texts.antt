-- The texts of a core, and what is found in them.
use Rattle.std.specs.Prelude.{◌≡◌, ◌<◌, ◌≤◌, ◌++◌, ℕ, ◌+◌, max, true, false, List, [], ◌∷◌, length, take, drop, slice_get, Some}
use Rattle.std.specs.Ordering.{is_lt}
use Rattle.std.specs.List.{flat_map, join_with_byte}
use Rattle.fs_names.specs.Names.{Name, name_cmp}
use Rattle.fs_calls.specs.Tree.{Tree}
use Rattle.fs_calls.specs.declared.reply.Reply.{Reply}
use Rattle.fs_nodes.specs.Graphs.{Graph}
use Rattle.fs_script.specs.TreeText.{IsSpelled, tree_text}
use Rattle.fs_text.specs.Journal.{entry_line, reply_words}
use Rattle.fs_timeline.specs.declared.entry.Entry.{Entry}
use Rattle.fs_timeline.specs.declared.entry.Entry.TheVariants.{Return}

-- the words of a reply, with a space between
abbrev pub reply_text : Reply → List ℕ
reply_text reply = join_with_byte 32 (reply_words reply)

-- the lines of the entries from one on
abbrev pub lines_from : ℕ → List Entry → List ℕ
lines_from first entries = flat_map entry_line (drop first entries)

-- an entry is the return of a call with a reply
abbrev pub IsReply : List Entry → ℕ → Reply → Type 0
IsReply entries number reply = (at : ℕ) × (slice_get entries at ≡ Some (Return number reply))

-- no entry is a return of the call
abbrev pub HasNoReply : List Entry → ℕ → Type 0
HasNoReply entries number = (reply : Reply) → IsReply entries number reply → ⊥

-- the text of the tree that the nodes spell
abbrev pub IsTreeText : Graph → List ℕ → Type 0
IsTreeText graph text = (t : Tree) × IsSpelled graph t × (text ≡ tree_text t)

-- the bytes begin with the whole of a text, and behind it they are as before
abbrev pub IsCopied : List ℕ → List ℕ → List ℕ → Type 0
IsCopied text old new = (length text ≤ length old) × (new ≡ text ++ drop (length text) old)

-- the text of names, a byte 0 behind each
abbrev pub names_text : List Name → List ℕ
names_text names = flat_map (λ name. name ++ 0 ∷ []) names

-- the place of the first name that comes behind a name in byte order, and behind the last name where none does
pub record IsBehind (names : List Name) (after : Name) (place : ℕ) : Type 0 where
  pub inside : place ≤ length names
  pub before : (i : ℕ) (name : Name) → i < place → slice_get names i ≡ Some name → is_lt (name_cmp after name) ≡ false
  pub first : (name : Name) → slice_get names place ≡ Some name → is_lt (name_cmp after name) ≡ true

-- the text of so many of the first names has room, and that of one more has not
pub record IsMostThatFits (names : List Name) (room count : ℕ) : Type 0 where
  pub inside : count ≤ length names
  pub fits : length (names_text (take count names)) ≤ room
  pub most : count < length names → room < length (names_text (take (count + 1) names))

-- of the names behind a name, as many of the first as fit, and where none fits the first of them
pub record IsShown (names : List Name) (after : Name) (room : ℕ) (shown : List Name) : Type 0 where
  pub place : ℕ
  pub behind : IsBehind names after place
  pub count : ℕ
  pub fit : IsMostThatFits (drop place names) room count
  pub shown_is : shown ≡ take (max 1 count) (drop place names)

-- the text of names that are shown so
abbrev pub IsShownText : List Name → Name → ℕ → List ℕ → Type 0
IsShownText names after room text = (shown : List Name) × IsShown names after room shown × (text ≡ names_text shown)
