-- The search of drawn runs is honest.
use Rattle.std.proofs.Common.{◌≡◌, ℕ, true, List, Option, refl, ap, subst}
use Rattle.fs_words.specs.Headers.{is_too_long}
use Rattle.fs_sched.proofs.RunLemmas.{script_short}
use Rattle.fs_sched.specs.declared.policy.Policy.{Policy}
use Rattle.fs_verdict.specs.Commands.{IsHonest, wrapped}
use Rattle.fs_verdict.specs.code.CommandLaws.{memory_of}
use Rattle.fs_verdict.specs.declared.fault.RunFault.{RunFault}
use Rattle.fs_sched_start.specs.code.Laws.{long_runs, run_in, unread}
use Rattle.fs_sched_start.specs.declared.fault.StartFault.TheVariants.{Run}
use Rattle.fs_sched_find.specs.Faults.{IsFaultOfSearchAt}
use Rattle.fs_sched_find.specs.Makes.{MakesFound}
use Rattle.fs_sched_find.specs.declared.fault.FindFault.{FindFault}
use Rattle.fs_sched_find.specs.declared.fault.FindFault.TheVariants.{Start, TooManyEvents, TooLong, NoCall}
use Rattle.fs_sched_find.specs.declared.what.Clause.{Clause}

-- each fault of a run is wrapped as one of its own
abbrev pub found_run : RunFault → FindFault → RunFault
found_run other (Start fault) = run_in other fault
found_run other TooManyEvents = other
found_run other TooLong = other
found_run other NoCall = other

pub finds_apart : (a b : RunFault) → Start (Run a) ≡ Start (Run b) → a ≡ b
finds_apart a b same = ap (found_run a) same

-- all that is too long has the same faults
long_search : (tree : Option (List ℕ)) (by : Policy) (what : List (List Clause)) (seed runs : ℕ) (text input : List ℕ) (fault : FindFault) → is_too_long text ≡ true → is_too_long input ≡ true → IsFaultOfSearchAt tree by what seed runs text fault → IsFaultOfSearchAt tree by what seed runs input fault
long_search tree by what seed runs text input (Start fault) long too is = long_runs tree by seed runs text input fault long too is
long_search tree by what seed runs text input TooManyEvents long too (script, drawn, planned, n, first, none) = absurd (unread text script long planned.0)
long_search tree by what seed runs text input TooLong long too (script, drawn, planned, n, first, none) = absurd (unread text script long planned.0)
long_search tree by what seed runs text input NoCall long too (script, is, lacks) = absurd (unread text script long is)

pub find_honest : (tree : Option (List ℕ)) (by : Policy) (what : List (List Clause)) (seed runs : ℕ) → IsHonest (MakesFound tree by what seed runs) (wrapped (λ run. Start (Run run)))
find_honest tree by what seed runs = record {
  short = λ text made is. script_short text text is.found.0 refl is.found.2.0;
  long = λ text input fault long too is. record { found = tt; again = λ root. tt; fault = long_search tree by what seed runs text input fault long too is.fault };
  unblamed = λ text fault is. record { read = λ e. subst (IsFaultOfSearchAt tree by what seed runs text) e is.fault; write = λ e. subst (IsFaultOfSearchAt tree by what seed runs text) e is.fault };
  memory = memory_of (λ run. Start (Run run)) finds_apart;
}
