-- A core at rest has no call under way, by seats and by numbers.
use Rattle.std.proofs.Common.{◌≡◌, ℕ, suc, ◌+◌, List, [], ◌∷◌, Option, Some, None, refl}
use Rattle.fs_calls.specs.Outcomes.{play}
use Rattle.fs_calls.specs.Sights.{tree_shapes}
use Rattle.fs_nodes.specs.Graphs.{graph_shapes}
use Rattle.fs_nodes.specs.Stores.{graph_of}
use Rattle.fs_timeline.specs.Timeline.{commits}
use Rattle.fs_machine.specs.Records.{Record}
use Rattle.fs_machine.specs.Headline.{IsIdle}
use Rattle.fs_machine.specs.States.{Run}
use Rattle.fs_laws.proofs.journal.ViewOfTimeline.{linearizes}
use Rattle.fs_laws.proofs.states.Headline.{run_keeps}
use Rattle.fs_core_seats.specs.declared.seat.Running.{Running}
use Rattle.fs_core.specs.CoreValues.{CoreValue, state_of, IsAtRest}
use Rattle.fs_core_seats.specs.Seats.{number_on, record_from}

-- no record where no seat has a call
none_from : (i : ℕ) (seats : List (Option Running)) → ((seat : ℕ) → number_on seats seat ≡ None) → (c : ℕ) → record_from i seats c ≡ None
none_from i [] rest c = refl
none_from i (None ∷ seats) rest c = none_from (i + 1) seats (λ seat. rest (suc seat)) c
none_from i (Some running ∷ seats) rest c = absurd (none_some running.call (rest 0))
  where
    none_some : (n : ℕ) → ◌≡◌ {A = Option ℕ} (Some n) None → ⊥
    none_some n e = cc

pub idle_at_rest : (m : CoreValue) → IsAtRest m → IsIdle (state_of m)
idle_at_rest m rest c = none_from 0 m.seats rest c

pub spelled_at_rest : (m : CoreValue) → Run (state_of m) → IsAtRest m → graph_shapes (graph_of m.store) ≡ tree_shapes (play m.start (commits m.timeline))
spelled_at_rest m run rest = (linearizes (state_of m) run).spelled (idle_at_rest m rest)

-- a seat's call has a record
pub rest_when_idle : (m : CoreValue) → Run (state_of m) → IsIdle (state_of m) → IsAtRest m
rest_when_idle m run idle seat = go (number_on m.seats seat) refl
  where
    go : (o : Option ℕ) → number_on m.seats seat ≡ o → number_on m.seats seat ≡ None
    go None e = e
    go (Some c) e =
        let w : (op : Record) × ((state_of m).ops c ≡ Some op) × (op.seat ≡ seat) = (run_keeps (state_of m) run).seated seat c e in
        absurd (none_some (idle c) w.1)
      where
        none_some : {op : Record} → (state_of m).ops c ≡ None → (state_of m).ops c ≡ Some op → ⊥
        none_some e f = cc
