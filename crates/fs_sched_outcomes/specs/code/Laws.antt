-- What is made of drawn runs, and of lines of their ends, is honest.
use Rattle.std.proofs.Common.{◌≡◌, ℕ, true, List, Option, refl, ap, subst}
use Rattle.fs_words.specs.Headers.{is_too_long}
use Rattle.fs_sched.proofs.RunLemmas.{script_short}
use Rattle.fs_sched.specs.declared.policy.Policy.{Policy}
use Rattle.fs_verdict.specs.Commands.{IsHonest, itself, wrapped}
use Rattle.fs_verdict.specs.code.CommandLaws.{memory_of}
use Rattle.fs_verdict.specs.declared.fault.RunFault.{RunFault}
use Rattle.fs_sched_start.specs.code.Laws.{long_runs, run_in, unread}
use Rattle.fs_sched_start.specs.declared.fault.StartFault.TheVariants.{Run}
use Rattle.fs_sched_outcomes.specs.Faults.{IsBadLine, IsFaultOfAssertedAt}
use Rattle.fs_sched_outcomes.specs.Makes.{MakesCounted, MakesSum}
use Rattle.fs_sched_outcomes.specs.declared.assertion.Assertion.{Assertion}
use Rattle.fs_sched_outcomes.specs.declared.fault.OutcomesFault.{OutcomesFault}
use Rattle.fs_sched_outcomes.specs.declared.fault.OutcomesFault.TheVariants.{Start, NoCall}
use Rattle.fs_sched_outcomes.specs.declared.lines.Form.{Form}

-- each fault of a run is wrapped as one of its own
abbrev pub counted_run : RunFault → OutcomesFault → RunFault
counted_run other (Start fault) = run_in other fault
counted_run other NoCall = other

counts_apart : (a b : RunFault) → Start (Run a) ≡ Start (Run b) → a ≡ b
counts_apart a b same = ap (counted_run a) same

-- all that is too long has the same faults
long_asserted : (asserts : List Assertion) (tree : Option (List ℕ)) (by : Policy) (seed runs : ℕ) (text input : List ℕ) (fault : OutcomesFault) → is_too_long text ≡ true → is_too_long input ≡ true → IsFaultOfAssertedAt asserts tree by seed runs text fault
    → IsFaultOfAssertedAt asserts tree by seed runs input fault
long_asserted asserts tree by seed runs text input (Start fault) long too is = long_runs tree by seed runs text input fault long too is
long_asserted asserts tree by seed runs text input NoCall long too (script, is, lacks) = absurd (unread text script long is)

pub count_honest : (asserts : List Assertion) (tree : Option (List ℕ)) (by : Policy) (seed runs : ℕ) (form : Form) → IsHonest (MakesCounted asserts tree by seed runs form) (wrapped (λ run. Start (Run run)))
count_honest asserts tree by seed runs form = record {
  short = λ text made is. script_short text text is.asserted.0 refl is.asserted.2.0;
  long = λ text input fault long too is. record { asserted = tt; seen = tt; fault = long_asserted asserts tree by seed runs text input fault long too is.fault };
  unblamed = λ text fault is. record { read = λ e. subst (IsFaultOfAssertedAt asserts tree by seed runs text) e is.fault; write = λ e. subst (IsFaultOfAssertedAt asserts tree by seed runs text) e is.fault };
  memory = memory_of (λ run. Start (Run run)) counts_apart;
}

pub add_honest : (form : Form) → IsHonest (MakesSum form) itself
add_honest form = record {
  short = λ text made is. is.short;
  long = λ text input fault long too is. record { added = tt; short = tt; fault = is.fault };
  unblamed = λ text fault is. record { read = λ e. subst IsBadLine e is.fault; write = λ e. subst IsBadLine e is.fault };
  memory = memory_of (λ run. run) (λ a b same. same);
}
