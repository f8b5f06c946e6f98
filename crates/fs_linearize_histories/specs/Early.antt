-- Calls that may commit early: with a reply that fits in the history they change no tree.
use Rattle.std.specs.Prelude.{◌≡◌, ℕ, Bool, true, false, not, ◌||◌, List, [], ◌∷◌, ◌++◌, Option, Some, None, Contains}
use Rattle.fs_calls.specs.Sights.{is_same, has_any}
use Rattle.fs_calls.specs.declared.call.Call.{Call}
use Rattle.fs_calls.specs.declared.call.Call.TheVariants.{Mkdir, Mknod, Unlink, Rmdir, Rename, Exchange, Stat, Readdir, ListAfter, Read, Write, Truncate}
use Rattle.fs_linearize_histories.specs.declared.heard.Heard.{Heard}
use Rattle.fs_linearize_histories.specs.declared.heard.Pattern.{Pattern}
use Rattle.fs_linearize_histories.specs.declared.heard.Pattern.TheVariants.{Exactly, AnyError, OneOf, AnyDirectory, Except, Anything}
use Rattle.fs_linearize_histories.specs.Heard.{is_error}
use Rattle.fs_linearize_histories.specs.Histories.{recorded}
use Rattle.fs_linearize_histories.specs.Configurations.{Configuration, committed, CanCommit}

-- a call that changes no tree: it looks, or moves a path to itself, or exchanges one with itself, or writes nothing
abbrev pub leaves_trees : Call → Bool
leaves_trees (Mkdir p) = false
leaves_trees (Mknod p) = false
leaves_trees (Unlink p) = false
leaves_trees (Rmdir p) = false
leaves_trees (Rename p q) = is_same p q
leaves_trees (Exchange p q) = is_same p q
leaves_trees (Stat p) = true
leaves_trees (Readdir p) = true
leaves_trees (ListAfter count p after) = true
leaves_trees (Read p off count) = true
leaves_trees (Write p off bytes) = not (has_any bytes)
leaves_trees (Truncate p size) = false

-- what is known of a reply is that it is an error
abbrev pub tells_error : Pattern → Bool
tells_error (Exactly r) = is_error r
tells_error AnyError = true
tells_error (OneOf errors) = true
tells_error AnyDirectory = false
tells_error (Except replies) = false
tells_error Anything = false

-- a call of whose reply this is known changes no tree on which it gets such a reply
abbrev pub is_quiet : Call → Pattern → Bool
is_quiet call p = leaves_trees call || tells_error p

-- the call may commit early
pub record CanCommitEarly (h : List Heard) (x : Configuration) (c : ℕ) (call : Call) : Type 0 where
  pub can : CanCommit h x c call
  pub known : Pattern
  pub is : recorded c h ≡ Some known
  pub quiet : is_quiet call known ≡ true

-- one configuration becomes another by calls that commit early, one after the other
abbrev pub SettlesBy : List Heard → Configuration → List (ℕ × Call) → Configuration → Type 0
SettlesBy h x [] y = x ≡ y
SettlesBy h x (q ∷ qs) y = CanCommitEarly h x q.0 q.1 × SettlesBy h (committed x q.0 q.1) qs y

-- a configuration settles to a member of a set
abbrev pub SettlesIn : List Heard → List Configuration → Configuration → Type 0
SettlesIn h seen x = (y : Configuration) × (qs : List (ℕ × Call)) × SettlesBy h x qs y × Contains seen y

-- what comes of a call that is to commit early, if anything
abbrev pub CommitsEarlyTo : List Heard → Configuration → ℕ → Option Configuration → Type 0
CommitsEarlyTo h x c (Some y) = (call : Call) × CanCommitEarly h x c call × (y ≡ committed x c call)
CommitsEarlyTo h x c None = Unit {0}

abbrev pub Settles : List Heard → Configuration → Configuration → Type 0
Settles h x y = (qs : List (ℕ × Call)) × SettlesBy h x qs y

-- a list has more at its end
abbrev pub Extends : List Configuration → List Configuration → Type 0
Extends old new = (more : List Configuration) × (new ≡ old ++ more)
