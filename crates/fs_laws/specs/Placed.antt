-- Placed calls, and the change of a call that goes past them.
use Rattle.std.specs.Prelude.{◌≡◌, Bool, true, false, not, ◌&&◌, List, [], ◌∷◌, ◌++◌, Option, Some, None, ◌⊎◌}
use Rattle.fs_names.specs.Keys.{Key, after_prefix, has_more, parent_of, is_end}
use Rattle.fs_names.specs.Shapes.{Shape, Dir, File}
use Rattle.fs_laws.specs.Changes.{Rekeying, Stay, MoveTo, Swap, Change, resolve, resolve_dir, outcome, after}
use Rattle.fs_calls.specs.Forms.{Form, AtNode, AtEntry, AtPair, Fits}
use Rattle.fs_calls.specs.Forms as pairs
use Rattle.fs_laws.specs.Maps.{Map, swapped}
use Rattle.fs_machine.specs.Moves.{victim_of, same_kind}
use Rattle.fs_laws.specs.Settled.{settle, settle_replies}

-- the kind of what stands at a key, if anything does: true for a directory
abbrev pub kind : Option Shape → Option Bool
kind None = None
kind (Some (Dir names)) = Some true
kind (Some (File bytes)) = Some false

-- trees that differ at most below k, and have the same kind at k
pub record Agree (k : Key) (a b : Map Shape) : Type 0 where
  pub off : (key : Key) → after_prefix k key ≡ None → a key ≡ b key
  pub here : kind (a k) ≡ kind (b k)

-- whether a rename looks into q, and so has taken it as its victim
abbrev pub looks_into : Map Shape → Key → Key → Bool
looks_into tree p q = same_kind (tree p) (tree q) && not (is_end (after_prefix p q)) && not (has_more (after_prefix q p))

-- what the call reads lies at no key below k, but for the kind of an entry that it does not hold
abbrev pub ReadsNothingBelow : Map Shape → Form → Key → Type 0
ReadsNothingBelow tree (AtNode c p) k = after_prefix k p ≡ None
ReadsNothingBelow tree (AtEntry c p) k = (after_prefix k (parent_of p) ≡ None) × (victim_of c (tree p) ≡ true → after_prefix k p ≡ None)
ReadsNothingBelow tree (AtPair (pairs.Rename most) p q) k = (after_prefix k (parent_of p) ≡ None) × (resolve_dir tree (parent_of p) ≡ None → (after_prefix k (parent_of q) ≡ None) × (looks_into tree p q ≡ true → after_prefix k q ≡ None))
ReadsNothingBelow tree (AtPair pairs.Exchange p q) k = (after_prefix k (parent_of p) ≡ None) × (resolve_dir tree (parent_of p) ≡ None → after_prefix k (parent_of q) ≡ None)

-- neither key begins with the other
abbrev pub Aside : Key → Key → Type 0
Aside a b = (after_prefix a b ≡ None) × (after_prefix b a ≡ None)

-- no key of the writes begins with k
abbrev pub AllOff : {V : Type 0} → Key → List (Key × Option V) → Type 0
AllOff k [] = Unit {0}
AllOff k (w ∷ ws) = (after_prefix k w.0 ≡ None) × AllOff k ws

-- a change that touches nothing below k, unless it moves k itself along
abbrev pub MovesNothingBelow : Rekeying → Key → Type 0
MovesNothingBelow Stay k = Unit {0}
MovesNothingBelow (MoveTo s t) k = Aside s t × (((r : Key) × (k ≡ s ++ r)) ⊎ (Aside s k × Aside t k))
MovesNothingBelow (Swap s t) k = Aside s t × (((r : Key) × (k ≡ s ++ r)) ⊎ ((r : Key) × (k ≡ t ++ r)) ⊎ (Aside s k × Aside t k))

-- the same of the writes and the move
abbrev pub ChangesNothingBelow : Change → Key → Type 0
ChangesNothingBelow ch k = AllOff k ch.writes × MovesNothingBelow ch.moves k

-- where k is after a move to t, by what follows the moved key in k
abbrev pub rekey_by : Key → Key → Option Key → Key
rekey_by t k None = k
rekey_by t k (Some r) = t ++ r

-- where k is after a move or an exchange, if there is one
abbrev pub rekey_move : Rekeying → Key → Key
rekey_move Stay k = k
rekey_move (MoveTo s t) k = rekey_by t k (after_prefix s k)
rekey_move (Swap s t) k = swapped s t k

-- where k is after a change
abbrev pub rekey : Change → Key → Key
rekey ch k = rekey_move ch.moves k

-- the same of several calls
abbrev pub rekey_all : Change → List (Key × Form) → List (Key × Form)
rekey_all ch [] = []
rekey_all ch (p ∷ ps) = (rekey ch p.0, p.1) ∷ rekey_all ch ps

-- none of them is below k
abbrev pub NoneUnder : Key → List (Key × Form) → Type 0
NoneUnder k [] = Unit {0}
NoneUnder k (p ∷ ps) = (after_prefix k p.0 ≡ None) × NoneUnder k ps

-- each placed call stands at a key that is there, and none is below one placed earlier
abbrev pub InPlace : Map Shape → List (Key × Form) → Type 0
InPlace tree [] = Unit {0}
InPlace tree (p ∷ ps) = (resolve tree p.0 ≡ None) × Fits p.1 × NoneUnder p.0 ps × InPlace tree ps

-- the call and its change leave each of them alone
abbrev pub Passes : Map Shape → Form → Change → List (Key × Form) → Type 0
Passes tree call ch [] = Unit {0}
Passes tree call ch (p ∷ ps) = ReadsNothingBelow tree call p.0 × ChangesNothingBelow ch p.0 × Passes tree call ch ps

-- a call that finishes past all placed ones
pub record PastAll (tree : Map Shape) (w : Form) (ch : Change) (ps : List (Key × Form)) : Type 0 where
  pub tree_is : settle (after tree w) (rekey_all ch ps) ≡ after (settle tree ps) w
  pub same_outcome : outcome (settle tree ps) w ≡ outcome tree w
  pub same_replies : settle_replies (after tree w) (rekey_all ch ps) ≡ settle_replies tree ps
