-- An input is traced honestly.
use Rattle.std.proofs.Common.{◌≡◌, ◌∙◌, ℕ, Bool, true, false, List, OnErr, sym, subst}
use Rattle.std.proofs.lemmas.Bool.{false_from_ne_true}
use Rattle.fs_words.specs.Headers.{is_too_long}
use Rattle.fs_script.proofs.HeaderLemmas.{long_journal, long_script}
use Rattle.fs_verdict.specs.Checks.{is_journal}
use Rattle.fs_verdict.specs.Commands.{IsHonest, itself}
use Rattle.fs_verdict.specs.code.CommandLaws.{memory_of}
use Rattle.fs_sched.specs.declared.running.RunEnd.{RunEnd}
use Rattle.fs_sched.specs.declared.schedule.Schedule.{Schedule}
use Rattle.fs_trace_replay.specs.Replays.{IsUntold}
use Rattle.fs_trace_replay.specs.code.Laws.{long_untold, never_read, never_write}
use Rattle.fs_trace_entries.specs.Entries.{IsTraceAs, IsWrittenRun}
use Rattle.fs_trace_entries.specs.Makes.{MakesTrace}
use Rattle.fs_trace_entries.specs.declared.running.Notation.{Notation}
use Rattle.fs_trace_entries.specs.declared.running.Notation.TheVariants.{Words, Objects}

-- what is too long has no trace, as a journal or as a script
no_run : (notation : Notation) (schedule : Schedule) (every : Bool) (text out : List ℕ) (end : RunEnd) → is_too_long text ≡ true → IsWrittenRun notation schedule every text end out → ⊥
no_run Words schedule every text out end long is = subst (λ given. OnErr given ⊥) (sym is.1 ∙ long_script text long) tt
no_run Objects schedule every text out end long is = subst (λ given. OnErr given ⊥) (sym is.1 ∙ long_script text long) tt

untraced : (notation : Notation) (journal : Bool) (schedule : Schedule) (every : Bool) (text out : List ℕ) (well : Bool) → is_too_long text ≡ true → IsTraceAs notation journal schedule every text well out → ⊥
untraced notation true schedule every text out well long is = subst (λ given. OnErr given ⊥) (sym is.3 ∙ long_journal text long) tt
untraced notation false schedule every text out well long is = no_run notation schedule every text out is.0 long is.1

pub trace_honest : (notation : Notation) (schedule : Schedule) (every : Bool) → IsHonest (MakesTrace notation schedule every) itself
trace_honest notation schedule every = record {
  short = λ text made is. false_from_ne_true _ (λ long. untraced notation (is_journal text) schedule every text _ _ long is.traced);
  long = λ text input f long too is. record { traced = tt; quiet = tt; fault = long_untold schedule text input f long too is.fault };
  unblamed = λ text f is. record {
    read = λ e. never_read (is_journal text) schedule text (subst (IsUntold (is_journal text) schedule text) e is.fault);
    write = λ e. never_write (is_journal text) schedule text (subst (IsUntold (is_journal text) schedule text) e is.fault);
  };
  memory = memory_of (λ run. run) (λ a b same. same);
}
