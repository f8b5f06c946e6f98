-- What C keeps of the calls that sleep, and what exports say of it.
use Rattle.std.specs.Prelude.{◌≡◌, ℕ, ◌%◌, ◌==◌, List, Some, map, slice_get, if◌then◌else◌}
use Rattle.fs_machine.specs.States.{Step}
use Rattle.fs_machine.specs.declared.answers.Stepped.{Stepped}
use Rattle.fs_machine.specs.declared.answers.Stepped.TheVariants.{Idle, Took, Busy, LetGo, Helped, Committed, CarriedOut, Returned}
use Rattle.fs_share_wait.specs.declared.sleepers.Queue.{Queue}
use Rattle.fs_share_wait.specs.declared.sleepers.Queue.TheVariants.{Empty, ForOne, ForSeveral}
use Rattle.fs_share_wait.specs.declared.sleepers.Wake.{Wake}
use Rattle.fs_share_wait.specs.declared.sleepers.Wake.TheVariants.{Nobody, One, All}
use Rattle.fs_share_wait.specs.Sleeping.{Covers, one_more, woken_for, IsEnough, IsDue}
use Rattle.fs_core.specs.CoreValues.{CoreValue, state_of}
use Rattle.fs_embed.specs.Calls.{code_of, about_of}
use Rattle.atomfs_c.specs.declared.sleepers.Noted.{Noted}
use Rattle.atomfs_c.specs.declared.sleepers.Went.{Went}

-- the queue of which this is noted
abbrev pub queue_in : Noted → Queue
queue_in noted = if noted.for_several then ForSeveral else if noted.most == 0 then Empty else ForOne noted.node noted.most

-- all queues
abbrev pub queues_in : List Noted → List Queue
queues_in notes = map queue_in notes

-- the number of whom a free node wakes
abbrev pub whom_of : Wake → ℕ
whom_of Nobody = 0
whom_of One = 1
whom_of All = 2

-- so many calls sleep for each node: none that is not noted
abbrev pub AllNoted : List Noted → (ℕ → ℕ) → Type 0
AllNoted notes sleeping = Covers (queues_in notes) sleeping

-- a number says whom a free node wakes: one who sleeps for it is among them, if there is one; one alone only where all of its queue sleep for it; and those who are left are noted
pub record Wakes (node whom : ℕ) (old new : List Noted) : Type 0 where
  pub wake : Wake
  pub number : whom ≡ whom_of wake
  pub due : (queue : Queue) → slice_get (queues_in old) (node % 64) ≡ Some queue → IsDue wake queue node
  pub enough : (sleeping : ℕ → ℕ) → AllNoted old sleeping → (other : ℕ) → other % 64 ≡ node % 64 → IsEnough wake node other (sleeping other)
  pub left : (sleeping : ℕ → ℕ) → AllNoted old sleeping → AllNoted new (woken_for wake node sleeping)

-- one call more sleeps for a node, and is noted
abbrev pub Sleeps : ℕ → List Noted → List Noted → Type 0
Sleeps node old new = (sleeping : ℕ → ℕ) → AllNoted old sleeping → AllNoted new (λ other. one_more node other (sleeping other))

-- what follows from a step for calls that sleep, in which queue and for whom of it: one that waits sleeps for the node that it wants, and a node that is let go wakes
abbrev pub Then : Stepped → ℕ → ℕ → List Noted → List Noted → Type 0
Then (Busy node holder) queue whom old new = (queue ≡ node % 64) × (whom ≡ 0) × Sleeps node old new
Then (LetGo node) queue whom old new = (queue ≡ node % 64) × Wakes node whom old new
Then Idle queue whom old new = (whom ≡ 0) × (new ≡ old)
Then (Took node) queue whom old new = (whom ≡ 0) × (new ≡ old)
Then (Helped call) queue whom old new = (whom ≡ 0) × (new ≡ old)
Then Committed queue whom old new = (whom ≡ 0) × (new ≡ old)
Then CarriedOut queue whom old new = (whom ≡ 0) × (new ≡ old)
Then (Returned reply) queue whom old new = (whom ≡ 0) × (new ≡ old)

-- what a step did, as numbers, and what follows from it
abbrev pub Follows : Stepped → Went → List Noted → List Noted → Type 0
Follows answer went old new = (went.did ≡ code_of answer) × (went.about ≡ about_of answer) × Then answer went.queue went.whom old new

-- a step of a seat as these numbers say it, and what follows from it for calls that sleep
abbrev pub StepsAmong : CoreValue → ℕ → Went → List Noted → List Noted → CoreValue → Type 0
StepsAmong before seat went old new after = (answer : Stepped) × Step (state_of before) seat answer (state_of after) × Follows answer went old new
