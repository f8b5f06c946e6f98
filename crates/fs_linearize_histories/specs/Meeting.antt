-- Calls that meet. Of two that do not, neither is told of what the other does, and they may change places.
use Rattle.std.specs.Prelude.{◌≡◌, ℕ, ◌+◌, ◌≤◌, Bool, false, ◌&&◌, ◌||◌, List, [], ◌∷◌, length, is_some}
use Rattle.std.specs.List.{list_any}
use Rattle.fs_names.specs.Keys.{Key, after_prefix, parent_of}
use Rattle.fs_names.specs.Limits.{entry_limit}
use Rattle.fs_names.specs.declared.limits.Limits.{Limits}
use Rattle.fs_names.specs.declared.limits.Limits.TheVariants.{V1}
use Rattle.fs_calls.specs.Tree.{Tree, IsTree}
use Rattle.fs_calls.specs.Forms.{Form, AtNode, AtEntry, AtPair, form}
use Rattle.fs_calls.specs.Sights.{is_same}
use Rattle.fs_calls.specs.Outcomes.{reply, after}
use Rattle.fs_calls.specs.declared.call.Call.{Call}

-- the paths of a call, one or two
abbrev pub paths_in : Form → List Key
paths_in (AtNode c p) = p ∷ []
paths_in (AtEntry c p) = p ∷ []
paths_in (AtPair c p q) = p ∷ q ∷ []

abbrev pub paths_of : Call → List Key
paths_of call = paths_in (form V1 call)

-- two paths meet: one is the other or a prefix of it, or, where siblings meet, both have one parent
abbrev pub paths_meet : Bool → Key → Key → Bool
paths_meet siblings p q = is_some (after_prefix p q) || (is_some (after_prefix q p) || (siblings && is_same (parent_of p) (parent_of q)))

-- two calls meet: a path of one meets a path of the other
abbrev pub calls_meet : Bool → Call → Call → Bool
calls_meet siblings a b = list_any (λ p. list_any (paths_meet siblings p) (paths_of b)) (paths_of a)

-- a tree has so few entries that no directory gets full by so many more
abbrev pub HasRoom : Limits → ℕ → Tree → Type 0
HasRoom limits more t = length t + more ≤ entry_limit limits

-- two calls commute on a tree: each is told what it is told without the other, and in either order they leave one tree
pub record Commute (limits : Limits) (t : Tree) (a b : Call) : Type 0 where
  pub first : reply limits (after limits t b) a ≡ reply limits t a
  pub second : reply limits (after limits t a) b ≡ reply limits t b
  pub tree : after limits (after limits t a) b ≡ after limits (after limits t b) a

-- calls that do not meet commute, where siblings meet or the tree has room for what both add
abbrev pub ApartCallsCommute : Type 0
ApartCallsCommute = (limits : Limits) (t : Tree) (siblings : Bool) (a b : Call) → IsTree t → calls_meet siblings a b ≡ false → (siblings ≡ false → HasRoom limits 2 t) → Commute limits t a b
