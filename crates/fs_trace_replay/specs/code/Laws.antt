-- A question on an input is answered honestly.
use Rattle.std.proofs.Common.{◌≡◌, ℕ, Bool, true, false, List, Result, Err, OnErr, sym, ap, ◌∙◌, subst}
use Rattle.std.proofs.lemmas.Bool.{false_from_ne_true}
use Rattle.fs_words.specs.Headers.{is_too_long}
use Rattle.fs_words.specs.Reading.{fault_at}
use Rattle.fs_words.specs.declared.fault.FaultKind.TheVariants as kind
use Rattle.fs_words.specs.declared.fault.ScriptFault.{ScriptFault}
use Rattle.fs_script.specs.Script.{script_of}
use Rattle.fs_script.proofs.HeaderLemmas.{long_journal, long_script}
use Rattle.fs_verdict.specs.Checks.{is_journal, judged, verdict_of}
use Rattle.fs_verdict.specs.Commands.{IsHonest, wrapped}
use Rattle.fs_verdict.specs.InputFaults.{IsFaultOf}
use Rattle.fs_verdict.specs.code.CommandLaws.{memory_of}
use Rattle.fs_verdict.specs.declared.fault.RunFault.{RunFault}
use Rattle.fs_verdict.specs.declared.fault.RunFault.TheVariants as run
use Rattle.fs_sched.specs.declared.schedule.Schedule.{Schedule}
use Rattle.fs_trace_replay.specs.Makes.{MakesReplay}
use Rattle.fs_trace_replay.specs.Replays.{IsFaultOfReplay, IsToldBy, IsUntold, Telling}
use Rattle.fs_trace_replay.specs.declared.asking.Question.{Question}
use Rattle.fs_trace_replay.specs.declared.fault.ReplayFault.{ReplayFault}
use Rattle.fs_trace_replay.specs.declared.fault.ReplayFault.TheVariants as fault

-- what is too long tells nothing, as a journal or as a script
untold : (journal : Bool) (schedule : Schedule) (text : List ℕ) (told : Telling) → is_too_long text ≡ true → IsToldBy journal schedule text told → ⊥
untold true schedule text told long is = subst (λ given. OnErr given ⊥) (sym is.1 ∙ long_journal text long) tt
untold false schedule text told long is = subst (λ given. OnErr given ⊥) (sym is.3 ∙ long_script text long) tt

-- ---- why it does not

-- the fault of what is too long, or out of memory
abbrev pub IsTooLarge : RunFault → Type 0
IsTooLarge (run.Input f) = f ≡ fault_at 1 kind.TooLarge
IsTooLarge run.Read = ⊥
IsTooLarge run.Write = ⊥
IsTooLarge run.OutOfMemory = Unit {0}
IsTooLarge run.Full = ⊥
IsTooLarge (run.UnderWay call) = ⊥

too_large : {X : Type 0} (given : Result X ScriptFault) (f : RunFault) → given ≡ Err (fault_at 1 kind.TooLarge) → IsFaultOf given f → IsTooLarge f
too_large given (run.Input f) long is = cc
too_large given run.Read long is = is
too_large given run.Write long is = is
too_large given run.OutOfMemory long is = is
too_large given run.Full long is = is
too_large given (run.UnderWay call) long is = is

of_large : {X : Type 0} (given : Result X ScriptFault) (f : RunFault) → given ≡ Err (fault_at 1 kind.TooLarge) → IsTooLarge f → IsFaultOf given f
of_large given (run.Input f) long is = long ∙ ap Err (sym is)
of_large given run.Read long is = is
of_large given run.Write long is = is
of_large given run.OutOfMemory long is = is
of_large given run.Full long is = is
of_large given (run.UnderWay call) long is = is

long_fault : (journal : Bool) (schedule : Schedule) (text : List ℕ) (f : RunFault) → is_too_long text ≡ true → IsUntold journal schedule text f → IsTooLarge f
long_fault true schedule text f long is = too_large (verdict_of text) f (ap judged (long_journal text long)) is
long_fault false schedule text (run.Input f) long is = too_large (script_of text) (run.Input f) (long_script text long) is
long_fault false schedule text run.Read long is = is
long_fault false schedule text run.Write long is = is
long_fault false schedule text run.OutOfMemory long is = is
long_fault false schedule text run.Full long is = is
long_fault false schedule text (run.UnderWay call) long is = subst (λ given. OnErr given ⊥) (sym is.1 ∙ long_script text long) tt

fault_long : (journal : Bool) (schedule : Schedule) (text : List ℕ) (f : RunFault) → is_too_long text ≡ true → IsTooLarge f → IsUntold journal schedule text f
fault_long true schedule text f long is = of_large (verdict_of text) f (ap judged (long_journal text long)) is
fault_long false schedule text (run.Input f) long is = of_large (script_of text) (run.Input f) (long_script text long) is
fault_long false schedule text run.Read long is = is
fault_long false schedule text run.Write long is = is
fault_long false schedule text run.OutOfMemory long is = is
fault_long false schedule text run.Full long is = is
fault_long false schedule text (run.UnderWay call) long is = absurd is

-- of two texts that are too long it is the same, also if one is read as a journal and the other as a script
pub long_untold : (schedule : Schedule) (text input : List ℕ) (f : RunFault) → is_too_long text ≡ true → is_too_long input ≡ true → IsUntold (is_journal text) schedule text f → IsUntold (is_journal input) schedule input f
long_untold schedule text input f long too is = fault_long (is_journal input) schedule input f too (long_fault (is_journal text) schedule text f long is)

-- it is that of no device
pub never_read : (journal : Bool) (schedule : Schedule) (text : List ℕ) → IsUntold journal schedule text run.Read → ⊥
never_read true schedule text is = is
never_read false schedule text is = is

pub never_write : (journal : Bool) (schedule : Schedule) (text : List ℕ) → IsUntold journal schedule text run.Write → ⊥
never_write true schedule text is = is
never_write false schedule text is = is

-- ---- why there is no answer

long_replay : (schedule : Schedule) (question : Question) (text input : List ℕ) (f : ReplayFault) → is_too_long text ≡ true → is_too_long input ≡ true → IsFaultOfReplay schedule text question f → IsFaultOfReplay schedule input question f
long_replay schedule question text input (fault.Run f) long too is = long_untold schedule text input f long too is
long_replay schedule question text input (fault.NoCommit n) long too is = absurd (untold (is_journal text) schedule text is.0 long is.1)
long_replay schedule question text input fault.NoCall long too is = absurd (untold (is_journal text) schedule text is.0 long is.1)
long_replay schedule question text input fault.BadCall long too is = absurd (untold (is_journal text) schedule text is.0 long is.1)
long_replay schedule question text input (fault.BadPath k) long too is = absurd (untold (is_journal text) schedule text is.0 long is.1)

pub replay_honest : (schedule : Schedule) (question : Question) → IsHonest (MakesReplay schedule question) (wrapped fault.Run)
replay_honest schedule question = record {
  short = λ text made is. false_from_ne_true _ (λ long. untold (is_journal text) schedule text is.answer.0 long is.answer.1);
  long = λ text input f long too is. record { answer = tt; quiet = tt; fault = long_replay schedule question text input f long too is.fault };
  unblamed = λ text f is. record {
    read = λ e. never_read (is_journal text) schedule text (subst (IsFaultOfReplay schedule text question) e is.fault);
    write = λ e. never_write (is_journal text) schedule text (subst (IsFaultOfReplay schedule text question) e is.fault);
  };
  memory = memory_of fault.Run (λ a b same. cc);
}
