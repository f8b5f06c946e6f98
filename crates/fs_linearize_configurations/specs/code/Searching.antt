-- What a step of the search adds to what was reached.
use Rattle.std.specs.Prelude.{◌≡◌, ◌⊎◌, ◌+◌, ◌≤◌, ℕ, Bool, true, false, not, List, [], ◌∷◌, ◌++◌, length, Contains}
use Rattle.fs_calls.specs.Starts.{Start, start_tree}
use Rattle.fs_linearize_histories.specs.declared.heard.Heard.{Heard}
use Rattle.fs_linearize_histories.specs.declared.heard.Heard.TheVariants.{Begin, Return}
use Rattle.fs_linearize_histories.specs.Meeting.{HasRoom}
use Rattle.fs_linearize_histories.specs.Configurations.{Configuration, at_start, is_in, passed, returned, committed}
use Rattle.fs_linearize_histories.specs.Early.{Settles, SettlesIn}
use Rattle.fs_linearize_configurations.specs.code.Calls.{AreNear, CanCommitNow}
use Rattle.fs_linearize_configurations.specs.code.Ways.{IsLed, AllLed, Keeps, configurations}
use Rattle.fs_linearize_configurations.specs.declared.reached.Reached.{Reached}
use Rattle.fs_linearize_configurations.specs.declared.steps.Link.{Link}
use Rattle.fs_linearize_configurations.specs.declared.under_way.UnderWay.{UnderWay}

-- calls commit early
pub record SettlesTo (h : List Heard) (old new : List Link) (r s : Reached) : Type 0 where
  pub settles : Settles h r.configuration s.configuration
  pub keeps : Keeps old new
  pub led : (start : Start) → IsLed start h old r → IsLed start h new s

-- a layer gets what was reached, or has its configuration
abbrev pub AddsIfNew : Reached → List Reached → List Reached → Type 0
AddsIfNew r before behind = (Contains (configurations before) r.configuration × (behind ≡ before)) ⊎ (behind ≡ before ++ r ∷ [])

-- all of a layer are behind so many entries
abbrev pub AllAt : ℕ → List Reached → Type 0
AllAt at layer = (r : Reached) → Contains layer r → r.configuration.at ≡ at

-- a layer gets more, behind so many entries, by timelines that go on from that of a configuration
pub record Grows (h : List Heard) (at : ℕ) (r : Reached) (old new : List Link) (before behind : List Reached) : Type 0 where
  pub more : List Reached
  pub is : behind ≡ before ++ more
  pub there : AllAt at more
  pub keeps : Keeps old new
  pub led : (start : Start) → IsLed start h old r → AllLed start h new more

-- what a configuration settles to is there
pub record Adds (h : List Heard) (r : Reached) (old new : List Link) (before behind : List Reached) : Type 0 where
  pub grows : Grows h r.configuration.at r old new before behind
  pub settles : SettlesIn h (configurations behind) r.configuration

-- what comes of a call under way is there, if it can commit
abbrev pub IsTried : List Heard → Configuration → UnderWay → List Reached → Type 0
IsTried h x u layer = CanCommitNow x u → SettlesIn h (configurations layer) (committed x u.number u.call.now)

-- a call commits, if it can
pub record AddsCommit (h : List Heard) (r : Reached) (u : UnderWay) (old new : List Link) (before behind : List Reached) : Type 0 where
  pub grows : Grows h r.configuration.at r old new before behind
  pub tried : IsTried h r.configuration u behind

-- each of these calls commits, if it can
pub record AddsCommits (h : List Heard) (r : Reached) (us : List UnderWay) (old new : List Link) (before behind : List Reached) : Type 0 where
  pub grows : Grows h r.configuration.at r old new before behind
  pub each : (u : UnderWay) → Contains us u → IsTried h r.configuration u behind

-- each call that has to do with the return of a call commits, if it can; those that may have one parent have to do with each other where the tree has no room for all
pub record AreTriedNear (h : List Heard) (c : ℕ) (x : Configuration) (us : List UnderWay) (layer : List Reached) : Type 0 where
  pub siblings : Bool
  pub room : siblings ≡ false → HasRoom x.now.limits (length us) (start_tree x.now)
  pub near : List UnderWay
  pub are : AreNear c siblings us near
  pub each : (u : UnderWay) → Contains near u → IsTried h x u layer

-- a configuration is followed before the return of a call, if that has not committed
abbrev pub AreTried : List Heard → ℕ → Configuration → List UnderWay → List Reached → Type 0
AreTried h c x us layer = is_in c x.held ≡ false → AreTriedNear h c x us layer

pub record Follows (h : List Heard) (c : ℕ) (r : Reached) (us : List UnderWay) (old new : List Link) (before behind : List Reached) : Type 0 where
  pub grows : Grows h r.configuration.at r old new before behind
  pub tried : AreTried h c r.configuration us behind

-- a layer gets more by commits
pub record Widens (h : List Heard) (at : ℕ) (old new : List Link) (before behind : List Reached) : Type 0 where
  pub more : List Reached
  pub is : behind ≡ before ++ more
  pub there : AllAt at behind
  pub keeps : Keeps old new
  pub led : (start : Start) → AllLed start h old before → AllLed start h new behind

-- all that come of a layer by commits before the return of a call are there, or as many as may be
pub record WidensBefore (h : List Heard) (c at : ℕ) (us : List UnderWay) (old new : List Link) (before behind : List Reached) (whole : Bool) (most : ℕ) : Type 0 where
  pub widens : Widens h at old new before behind
  pub tried : whole ≡ true → (x : Configuration) → Contains (configurations behind) x → AreTried h c x us behind
  pub many : whole ≡ false → most ≤ length behind

-- what has to come of a configuration before an entry is there
abbrev pub IsReady : List Heard → Heard → Configuration → List UnderWay → List Reached → Type 0
IsReady h (Begin c seat call) x us layer = Unit {0}
IsReady h (Return c p) x us layer = AreTried h c x us layer

pub record WidensFor (h : List Heard) (e : Heard) (at : ℕ) (us : List UnderWay) (old new : List Link) (before behind : List Reached) (whole : Bool) (most : ℕ) : Type 0 where
  pub widens : Widens h at old new before behind
  pub ready : whole ≡ true → (x : Configuration) → Contains (configurations behind) x → IsReady h e x us behind
  pub many : whole ≡ false → most ≤ length behind

-- whether an entry is the return of a call that has not committed
abbrev pub waits : Configuration → Heard → Bool
waits x (Begin c seat call) = false
waits x (Return c p) = not (is_in c x.held)

-- what becomes of a configuration behind an entry that can pass
abbrev pub Becomes : List Heard → Heard → Configuration → Configuration → Type 0
Becomes h (Begin c seat call) x y = Settles h (passed x) y
Becomes h (Return c p) x y = y ≡ returned x c

-- what is reached behind an entry
pub record PassesTo (h : List Heard) (e : Heard) (r : Reached) (old new : List Link) (s : Reached) : Type 0 where
  pub place : s.configuration.at ≡ r.configuration.at + 1
  pub keeps : Keeps old new
  pub led : (start : Start) → IsLed start h old r → IsLed start h new s
  pub becomes : Becomes h e r.configuration s.configuration

-- a configuration has passed an entry, if the entry can pass there
abbrev pub HasPassed : List Heard → Heard → Configuration → List Reached → Type 0
HasPassed h (Begin c seat call) x layer = SettlesIn h (configurations layer) (passed x)
HasPassed h (Return c p) x layer = is_in c x.held ≡ true → SettlesIn h (configurations layer) (returned x c)

pub record Passes (h : List Heard) (e : Heard) (r : Reached) (old new : List Link) (before behind : List Reached) : Type 0 where
  pub grows : Grows h (r.configuration.at + 1) r old new before behind
  pub passed : HasPassed h e r.configuration behind

pub record PassesAll (h : List Heard) (e : Heard) (at : ℕ) (old new : List Link) (before behind : List Reached) : Type 0 where
  pub there : AllAt (at + 1) behind
  pub keeps : Keeps old new
  pub led : (start : Start) → AllLed start h old before → AllLed start h new behind
  pub passed : (r : Reached) → Contains before r → HasPassed h e r.configuration behind

-- the layer before the first entry
abbrev pub IsFirst : Start → List Reached → Type 0
IsFirst start layer = (r : Reached) × (layer ≡ r ∷ []) × (r.configuration ≡ at_start start) × (r.last ≡ 0)
