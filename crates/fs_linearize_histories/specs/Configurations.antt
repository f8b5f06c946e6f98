-- Configurations of the search, and which of them follow one.
use Rattle.std.specs.Prelude.{◌≡◌, ℕ, ◌+◌, ◌<◌, Bool, true, false, ◌||◌, nat_lt, List, [], ◌∷◌, length, take, slice_get, ◌==◌, if◌then◌else◌, Option, Some, None}
use Rattle.fs_calls.specs.Tree.{IsTree}
use Rattle.fs_calls.specs.Starts.{Start, start_tree}
use Rattle.fs_calls.specs.Outcomes.{reply_at, called}
use Rattle.fs_calls.specs.declared.call.Call.{Call}
use Rattle.fs_timeline.specs.Timeline.{has_returned, call_of}
use Rattle.fs_linearize_histories.specs.declared.heard.Heard.{Heard}
use Rattle.fs_linearize_histories.specs.declared.heard.Heard.TheVariants.{Begin, Return}
use Rattle.fs_linearize_histories.specs.Heard.{entries}
use Rattle.fs_linearize_histories.specs.Histories.{FitsIn}
use Rattle.fs_linearize_histories.specs.Meeting.{calls_meet, HasRoom}

-- how many entries of the history have passed, the tree with its limits, and which calls are committed and have not returned, in order
pub record Configuration : Type 0 where
  pub at : ℕ
  pub now : Start
  pub held : List ℕ

-- before the first entry
abbrev pub at_start : Start → Configuration
at_start start = record { at = 0; now = start; held = [] }

-- whether a number is in a list
abbrev pub is_in : ℕ → List ℕ → Bool
is_in c [] = false
is_in c (d ∷ xs) = (c == d) || is_in c xs

-- numbers that rise, so that each is there once
abbrev pub AreRising : List ℕ → Type 0
AreRising [] = Unit {0}
AreRising (c ∷ xs) = ((d : ℕ) → is_in d xs ≡ true → c < d) × AreRising xs

-- a number put into a list, before the first that is larger
abbrev pub placed : ℕ → List ℕ → List ℕ
placed c [] = c ∷ []
placed c (d ∷ xs) = if nat_lt c d then c ∷ d ∷ xs else d ∷ placed c xs

-- the place of the first number that is larger
abbrev pub place_of : ℕ → List ℕ → ℕ
place_of c [] = 0
place_of c (d ∷ xs) = if nat_lt c d then 0 else place_of c xs + 1

-- a list without a number
abbrev pub without : ℕ → List ℕ → List ℕ
without c [] = []
without c (d ∷ xs) = if c == d then without c xs else d ∷ without c xs

-- a call begins
abbrev pub passed : Configuration → Configuration
passed x = record x { at = x.at + 1 }

-- a call returns
abbrev pub returned : Configuration → ℕ → Configuration
returned x c = record x { at = x.at + 1; held = without c x.held }

-- a call commits
abbrev pub committed : Configuration → ℕ → Call → Configuration
committed x c call = record x { now = called x.now call; held = placed c x.held }

-- the call of a number may commit: it has begun, has not returned, is not committed, and gets a reply that fits in the history
pub record CanCommit (h : List Heard) (x : Configuration) (c : ℕ) (call : Call) : Type 0 where
  pub begun : call_of c (entries (take x.at h)) ≡ Some call
  pub open_still : has_returned c (entries (take x.at h)) ≡ false
  pub not_yet : is_in c x.held ≡ false
  pub fits : FitsIn h c (reply_at x.now call)

-- a call is open: it has begun, has not returned and is not committed
pub record IsOpen (h : List Heard) (x : Configuration) (c : ℕ) (call : Call) : Type 0 where
  pub begun : call_of c (entries (take x.at h)) ≡ Some call
  pub open_still : has_returned c (entries (take x.at h)) ≡ false
  pub not_yet : is_in c x.held ≡ false

-- whatever the open calls add to the tree, no directory gets full
pub record HasRoomForAll (h : List Heard) (x : Configuration) : Type 0 where
  pub numbers : List ℕ
  pub all : (c : ℕ) (call : Call) → IsOpen h x c call → is_in c numbers ≡ true
  pub room : HasRoom x.now.limits (length numbers) (start_tree x.now)

-- a call may be left out of a set: it meets no open call of the set
pub record MayBeLeftOut (h : List Heard) (x : Configuration) (near : ℕ → Bool) (other : Call) : Type 0 where
  pub tree : IsTree (start_tree x.now)
  pub siblings : Bool
  pub room : siblings ≡ false → HasRoomForAll h x
  pub apart : (c : ℕ) (call : Call) → IsOpen h x c call → near c ≡ true → calls_meet siblings call other ≡ false

-- a set of calls that has to do with the return of a call: this one is in it, and each other open call is too, or may be left out
pub record IsNear (h : List Heard) (x : Configuration) (c : ℕ) (near : ℕ → Bool) : Type 0 where
  pub itself : near c ≡ true
  pub others : (d : ℕ) (other : Call) → IsOpen h x d other → near d ≡ false → MayBeLeftOut h x near other

-- what may follow a configuration is in a set: at a Return of a call that is not committed each call near it that can commit does, else the entry passes
abbrev pub FollowedBy : List Heard → (Configuration → Type 0) → Configuration → Option Heard → Type 0
FollowedBy h S x None = Unit {0}
FollowedBy h S x (Some (Begin c seat call)) = S (passed x)
FollowedBy h S x (Some (Return c p)) =
    (is_in c x.held ≡ true → S (returned x c))
    × (is_in c x.held ≡ false → (near : ℕ → Bool) × IsNear h x c near × ((d : ℕ) (call : Call) → near d ≡ true → CanCommit h x d call → S (committed x d call)))

abbrev pub IsFollowed : List Heard → (Configuration → Type 0) → Configuration → Type 0
IsFollowed h S x = FollowedBy h S x (slice_get h x.at)

-- what comes of a call that is to commit: the configuration after it, or nothing where it cannot
abbrev pub CommitsTo : List Heard → Configuration → ℕ → Option Configuration → Type 0
CommitsTo h x c (Some y) = (call : Call) × CanCommit h x c call × (y ≡ committed x c call)
CommitsTo h x c None = (call : Call) → CanCommit h x c call → ⊥
