-- How many steps the calls under way have left at most.
use Rattle.std.specs.Prelude.{ℕ, zero, suc, ◌≡◌, ◌+◌, ◌≤◌, [], ◌∷◌, Option, Some, None, length, Ok}
use Rattle.fs_names.specs.Keys.{Key, parent_of}
use Rattle.fs_names.specs.Parts.{left}
use Rattle.fs_calls.specs.Forms.{form, Form, AtNode, AtEntry, AtPair}
use Rattle.fs_calls.specs.declared.call.Call.{Call}
use Rattle.fs_machine.specs.Records.{Holdings, Phase, Walking, Placed, Finished, Record}
use Rattle.fs_timeline.specs.Timeline.{begins}
use Rattle.fs_laws.specs.Progress.{GoesOn}
use Rattle.fs_laws.specs.Settled.{names_left}
use Rattle.fs_machine.specs.States.{State, Begins, Step}
use Rattle.fs_machine.specs.declared.answers.Stepped.{Stepped}

-- the sum over the numbers up to n
abbrev pub total : (ℕ → ℕ) → ℕ → ℕ
total g zero = g 0
total g (suc n) = total g n + g (suc n)

-- one where there is a number, and none where there is none
abbrev pub one_if : Option ℕ → ℕ
one_if None = 0
one_if (Some n) = 1

-- one where there is no number, and none where there is one
abbrev pub one_unless : Option ℕ → ℕ
one_unless None = 1
one_unless (Some n) = 0

-- the names that an unfinished call has left to walk, from where it stands
abbrev pub to_go : Form → Holdings → ℕ
to_go (AtNode c p) st = length p
to_go (AtEntry c p) st = length (parent_of p)
to_go (AtPair c p q) st = length (left st.source.walked (parent_of p)) + length (left st.dest.walked (parent_of q))

-- the moves that it has left at most: two for each name, one for a node behind, and one for a victim
abbrev pub moves_left : Form → Holdings → ℕ
moves_left remaining st = ((to_go remaining st + to_go remaining st) + one_if st.behind) + one_unless st.victim

-- one for a head that has set out
abbrev pub one_walked : Key → ℕ
one_walked [] = 0
one_walked (x ∷ walked) = 1

-- how many nodes a finished call holds
abbrev pub held_count : Holdings → ℕ
held_count st = ((1 + one_walked st.source.walked) + one_walked st.dest.walked) + one_if st.victim

-- how many steps a call has left at most when it begins
abbrev pub first_steps : Form → ℕ
first_steps remaining = names_left remaining + names_left remaining + 12

-- the same of each phase and stand, with the steps in which it is helped, finishes, lets go and returns
abbrev pub steps_left_by : Form → Phase → Option Holdings → ℕ
steps_left_by remaining Walking None = first_steps remaining
steps_left_by remaining Walking (Some st) = moves_left remaining st + 7
steps_left_by remaining (Placed i) None = 6
steps_left_by remaining (Placed i) (Some st) = moves_left remaining st + 6
steps_left_by remaining (Finished r) None = 1
steps_left_by remaining (Finished r) (Some st) = held_count st + 1

-- the same of a call that may be there
abbrev pub steps_left_of : Option Record → ℕ
steps_left_of None = 0
steps_left_of (Some op) = steps_left_by op.remaining op.phase op.holdings

-- the steps that all calls under way have left together at most
abbrev pub steps_left : State → ℕ
steps_left s = total (λ c. steps_left_of (s.ops c)) (begins s.timeline)

-- each step by which a call goes on leaves fewer, and the others leave the state
abbrev pub TakesWork : State → Type 0
TakesWork s = (seat : ℕ) (answer : Stepped) (new : State) → Step s seat answer new → GoesOn answer → steps_left new + 1 ≤ steps_left s

-- a begin adds no more than what the call's names ask
abbrev pub AddsWork : State → Type 0
AddsWork s = (seat c : ℕ) (call : Call) (new : State) → Begins s seat call (Ok c) new → steps_left new ≡ steps_left s + first_steps (form s.start.limits call)
