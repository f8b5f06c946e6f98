-- What readers are shown, and what a reader and the writer know of it.
use Rattle.std.specs.Prelude.{◌≡◌, ℕ, ◌+◌, List, [], ◌∷◌, length, fold}
use mathlib.Core.Option.{some}
use lib.ListN.{get_elem?}
use Rattle.logbook.specs.Pages.{Book}
use Rattle.logbook.specs.declared.tokens.Seen.{Seen}
use Rattle.fs_calls.specs.Outcomes.{called, next_start}
use Rattle.fs_share_observe.specs.declared.shown.Shown.{Shown}
use Rattle.fs_share_observe.specs.declared.shown.Op.{Op}
use Rattle.fs_share_observe.specs.Pasts.{start_of, calls_of, IsNoted}

-- what is shown after one more call
abbrev pub after : Shown → Op → Shown
after s op = record s { tree = called s.tree op.call; count = s.count + 1; token = op.token }

-- what is shown once the calls that wait are played
abbrev pub total : Shown → List Op → Shown
total shown ops = fold after shown ops

-- the tree is what the calls play on the start tree, with its limits, and they are counted
abbrev pub IsPlayed : Shown → Type 0
IsPlayed x = IsNoted x.token.log × (x.count ≡ length (calls_of x.token.log)) × (x.tree ≡ next_start (start_of x.token.log) (calls_of x.token.log))

module _ {E A P : Type 0} where
  -- each token is of this book
  abbrev pub AllOf : Book → List (Seen E A P) → Type 0
  AllOf b [] = Unit {0}
  AllOf b (k ∷ ks) = (k.book ≡ b) × AllOf b ks

  -- what is shown is played, and each seat's tokens are of its history
  abbrev pub Keeps : Shown → List (List (Seen E A P)) → Type 0
  Keeps x views = IsPlayed x × ((seat : ℕ) (v : List (Seen E A P)) → get_elem? views seat ≡ some v → AllOf x.token.book v)

  -- nothing changed, and what is shown was seen
  abbrev pub Looks : List (Seen E A P) → Shown → Shown → List (Seen E A P) → Type 0
  Looks v x y w = (w ≡ v) × IsPlayed y × AllOf y.token.book v
