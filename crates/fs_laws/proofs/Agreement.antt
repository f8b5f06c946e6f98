-- The parts of a state agree.
use Rattle.std.proofs.Common.{◌≡◌, ℕ, Some}
use Rattle.fs_machine.specs.States.{State, Run}
use Rattle.fs_laws.proofs.states.Headline.{run_keeps}
use Rattle.fs_laws.proofs.states.Agreement.{run_accounts}
use Rattle.fs_laws.proofs.states.GraphOfARun.{run_bounded}
use Rattle.fs_laws.specs.Agreement.{IsHeldBy, PartsAgree}

holder_of : (s : State) → Run s → (n c : ℕ) → IsHeldBy s n c → s.holder n ≡ Some c
holder_of s run n c (op, st, is, on, h) = (run_keeps s run).held c op st n is on h

pub parts_agree : (s : State) → Run s → PartsAgree s
parts_agree s run = record {
  holder_holds = λ n c e. (run_accounts s run).holds n c e;
  holds_holder = holder_of s run;
  seat_call = λ seat c e. (run_keeps s run).seated seat c e;
  call_seat = λ c op e. (run_accounts s run).on_seat c op e;
  is_graph = (run_keeps s run).is_graph;
  bounded = run_bounded s run;
  below = λ n shape e. (run_accounts s run).below n shape e;
}
