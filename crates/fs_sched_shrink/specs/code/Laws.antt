-- What is made of a script that is shrunk is honest.
use Rattle.std.proofs.Common.{◌≡◌, ℕ, true, List, Option, Some, None, refl, ap, subst}
use Rattle.fs_words.specs.Headers.{is_too_long}
use Rattle.fs_sched.proofs.RunLemmas.{script_short}
use Rattle.fs_sched.specs.Runs.{IsFaultOfRun}
use Rattle.fs_sched.specs.declared.schedule.Schedule.TheVariants.{Given}
use Rattle.fs_verdict.specs.Commands.{IsHonest, wrapped}
use Rattle.fs_verdict.specs.code.CommandLaws.{memory_of}
use Rattle.fs_verdict.specs.declared.fault.RunFault.{RunFault}
use Rattle.fs_verdict.specs.declared.fault.RunFault.TheVariants as run
use Rattle.fs_sched_start.specs.code.Laws.{long_run, one_fault, run_in, unread}
use Rattle.fs_sched_start.specs.declared.fault.StartFault.{StartFault}
use Rattle.fs_sched_start.specs.declared.fault.StartFault.TheVariants.{Run, Tree}
use Rattle.fs_sched_find.specs.declared.what.Clause.{Clause}
use Rattle.fs_sched_shrink.specs.Faults.{IsFaultOfOwn, IsFaultOfShrink}
use Rattle.fs_sched_shrink.specs.Makes.{MakesShrinking}
use Rattle.fs_sched_shrink.specs.declared.fault.ShrinkFault.{ShrinkFault}
use Rattle.fs_sched_shrink.specs.declared.fault.ShrinkFault.TheVariants.{Start, TooLong, NoCall}

-- each fault of a run is wrapped as one of its own
abbrev pub shrunk_run : RunFault → ShrinkFault → RunFault
shrunk_run other (Start fault) = run_in other fault
shrunk_run other TooLong = other
shrunk_run other NoCall = other

shrinks_apart : (a b : RunFault) → Start (Run a) ≡ Start (Run b) → a ≡ b
shrinks_apart a b same = ap (shrunk_run a) same

-- all that is too long has the same faults
long_own : (text input : List ℕ) (fault : RunFault) → is_too_long text ≡ true → is_too_long input ≡ true → IsFaultOfRun Given text fault → IsFaultOfRun Given input fault
long_own text input (run.Input f) long too is = one_fault text input f long too is
long_own text input run.Read long too is = is
long_own text input run.Write long too is = is
long_own text input run.OutOfMemory long too is = tt
long_own text input run.Full long too is = is
long_own text input (run.UnderWay c) long too (script, is, stops) = absurd (unread text script long is)

long_start : (tree : Option (List ℕ)) (text input : List ℕ) (fault : StartFault) → is_too_long text ≡ true → is_too_long input ≡ true → IsFaultOfOwn tree text fault → IsFaultOfOwn tree input fault
long_start None text input (Run fault) long too is = long_own text input fault long too is
long_start None text input (Tree f) long too is = is
long_start (Some tree) text input fault long too is = long_run Given tree text input fault long too is

long_shrink : (tree : Option (List ℕ)) (what : List (List Clause)) (text input : List ℕ) (fault : ShrinkFault) → is_too_long text ≡ true → is_too_long input ≡ true → IsFaultOfShrink tree what text fault → IsFaultOfShrink tree what input fault
long_shrink tree what text input (Start fault) long too is = long_start tree text input fault long too is
long_shrink tree what text input TooLong long too is = tt
long_shrink tree what text input NoCall long too (script, is, lacks) = absurd (unread text script long is)

-- no device is blamed
no_read : (tree : Option (List ℕ)) (text : List ℕ) → IsFaultOfOwn tree text (Run run.Read) → ⊥
no_read None text is = is
no_read (Some tree) text is = is

no_write : (tree : Option (List ℕ)) (text : List ℕ) → IsFaultOfOwn tree text (Run run.Write) → ⊥
no_write None text is = is
no_write (Some tree) text is = is

pub shrink_honest : (tree : Option (List ℕ)) (what : List (List Clause)) → IsHonest (MakesShrinking tree what) (wrapped (λ run. Start (Run run)))
shrink_honest tree what = record {
  short = λ text made is. script_short text text is.shrunk.0 refl is.shrunk.2;
  long = λ text input fault long too is. record { shrunk = tt; fault = long_shrink tree what text input fault long too is.fault };
  unblamed = λ text fault is. record { read = λ e. no_read tree text (subst (IsFaultOfShrink tree what text) e is.fault); write = λ e. no_write tree text (subst (IsFaultOfShrink tree what text) e is.fault) };
  memory = memory_of (λ run. Start (Run run)) shrinks_apart;
}
