-- What the queues note of those who sleep in them, and what a wake-up leaves.
use Rattle.std.specs.Prelude.{ℕ, ◌≡◌, ◌≢◌, ◌+◌, ◌-◌, ◌≤◌, ◌%◌, ◌==◌, List, MatchBool, if◌then◌else◌, Some, slice_get}
use Rattle.fs_share_wait.specs.declared.sleepers.Queue.{Queue}
use Rattle.fs_share_wait.specs.declared.sleepers.Queue.TheVariants.{Empty, ForOne, ForSeveral}
use Rattle.fs_share_wait.specs.declared.sleepers.Wake.{Wake}
use Rattle.fs_share_wait.specs.declared.sleepers.Wake.TheVariants.{Nobody, One, All}

-- so many threads sleep for this node of the queue: none that the queue has not noted
abbrev pub Notes : Queue → ℕ → ℕ → Type 0
Notes Empty node slept = slept ≡ 0
Notes (ForOne one most) node slept = MatchBool (node == one) (slept ≤ most) (slept ≡ 0)
Notes ForSeveral node slept = Unit {0}

-- so many threads sleep for each node: none that its queue has not noted
abbrev pub Covers : List Queue → (ℕ → ℕ) → Type 0
Covers queues sleeping = (node : ℕ) (queue : Queue) → slice_get queues (node % 64) ≡ Some queue → Notes queue node (sleeping node)

-- how many sleep for another node once one more sleeps for this one
abbrev pub one_more : ℕ → ℕ → ℕ → ℕ
one_more node other slept = if other == node then slept + 1 else slept

-- how many sleep for another node of the queue behind a wake-up for this one
abbrev pub less : Wake → ℕ → ℕ → ℕ → ℕ
less Nobody node other slept = slept
less One node other slept = if other == node then slept - 1 else slept
less All node other slept = 0

-- how many sleep for any node behind a wake-up for this one
abbrev pub woken_for : Wake → ℕ → (ℕ → ℕ) → ℕ → ℕ
woken_for wake node sleeping other = if other % 64 == node % 64 then less wake node other (sleeping other) else sleeping other

-- whoever is woken, one who sleeps for the node is among them, if there is one: nobody sleeps for it; all of the queue do, and one of them wakes; or all wake
abbrev pub IsEnough : Wake → ℕ → ℕ → ℕ → Type 0
IsEnough Nobody node other slept = other ≡ node → slept ≡ 0
IsEnough One node other slept = other ≢ node → slept ≡ 0
IsEnough All node other slept = Unit {0}

-- one thread is woken only where the queue notes some for this node alone, and all only where it notes some for several nodes
abbrev pub IsDue : Wake → Queue → ℕ → Type 0
IsDue Nobody queue node = Unit {0}
IsDue One (ForOne one most) node = one ≡ node
IsDue One queue node = ⊥
IsDue All ForSeveral node = Unit {0}
IsDue All queue node = ⊥
