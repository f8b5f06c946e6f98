-- Calls under way, and which of them may commit.
use Rattle.std.specs.Prelude.{◌≡◌, ◌⊎◌, ℕ, Bool, true, false, ◌==◌, if◌then◌else◌, List, [], ◌∷◌, take, Option, Some, None, option_copied, Contains}
use Rattle.fs_calls.specs.Outcomes.{reply_at}
use Rattle.fs_calls.specs.declared.call.Call.{Call}
use Rattle.fs_calls.specs.declared.reply.Reply.{Reply}
use Rattle.fs_timeline.specs.Timeline.{has_returned, call_of}
use Rattle.fs_linearize_histories.specs.declared.heard.Heard.{Heard}
use Rattle.fs_linearize_histories.specs.declared.heard.Pattern.{Pattern}
use Rattle.fs_linearize_histories.specs.Heard.{entries, Matches}
use Rattle.fs_linearize_histories.specs.Histories.{recorded}
use Rattle.fs_linearize_histories.specs.Meeting.{calls_meet}
use Rattle.fs_linearize_histories.specs.Configurations.{Configuration, is_in, committed}
use Rattle.fs_linearize_histories.specs.Early.{is_quiet}
use Rattle.fs_linearize_configurations.specs.declared.under_way.UnderWay.{UnderWay}

-- a call is under way behind so many entries, and its reply is known as the history tells
pub record IsUnderWay (h : List Heard) (at : ℕ) (u : UnderWay) : Type 0 where
  pub begun : call_of u.number (entries (take at h)) ≡ Some u.call.now
  pub open_still : has_returned u.number (entries (take at h)) ≡ false
  pub known : recorded u.number h ≡ option_copied u.known

abbrev pub AreEach : List Heard → ℕ → List UnderWay → Type 0
AreEach h at us = (u : UnderWay) → Contains us u → IsUnderWay h at u

-- these are the calls under way
pub record AreUnderWay (h : List Heard) (at : ℕ) (us : List UnderWay) : Type 0 where
  pub each : AreEach h at us
  pub all : (c : ℕ) (call : Call) → call_of c (entries (take at h)) ≡ Some call → has_returned c (entries (take at h)) ≡ false → (u : UnderWay) × Contains us u × (u.number ≡ c)

-- the calls without that of a number
abbrev pub without_call : ℕ → List UnderWay → List UnderWay
without_call c [] = []
without_call c (u ∷ us) = if c == u.number then without_call c us else u ∷ without_call c us

-- which of these calls have to do with the return of a call: the call itself; and each other one either does, or meets none that does
pub record AreNear (c : ℕ) (siblings : Bool) (us near : List UnderWay) : Type 0 where
  pub some : (u : UnderWay) → Contains near u → Contains us u
  pub itself : (u : UnderWay) → Contains us u → u.number ≡ c → Contains near u
  pub others : (u : UnderWay) → Contains us u → Contains near u ⊎ ((v : UnderWay) → Contains near v → calls_meet siblings v.call.now u.call.now ≡ false)

-- a reply matches what is known of it, if anything
abbrev pub FitsKnown : Option Pattern → Reply → Type 0
FitsKnown o r = (p : Pattern) → o ≡ Some p → Matches p r

-- a call under way may commit
pub record CanCommitNow (x : Configuration) (u : UnderWay) : Type 0 where
  pub not_yet : is_in u.number x.held ≡ false
  pub fits : FitsKnown (option_copied u.known) (reply_at x.now u.call.now)

-- what comes of it
abbrev pub CommitsNow : Configuration → UnderWay → Option Configuration → Type 0
CommitsNow x u (Some y) = CanCommitNow x u × (y ≡ committed x u.number u.call.now)
CommitsNow x u None = CanCommitNow x u → ⊥

-- it may commit, and leaves the tree as it is
pub record CanCommitQuietly (x : Configuration) (u : UnderWay) : Type 0 where
  pub not_yet : is_in u.number x.held ≡ false
  pub pattern : Pattern
  pub known : option_copied u.known ≡ Some pattern
  pub fits : Matches pattern (reply_at x.now u.call.now)
  pub quiet : is_quiet u.call.now pattern ≡ true
