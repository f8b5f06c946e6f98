-- What is written of what was read is written of the input, and its number is that of the script's calls.
use Rattle.std.proofs.Common.{◌≡◌, ℕ, ◌+◌, cond, Bool, List, [], ◌∷◌, length, map, sum_by, Option, Some, None, Result, refl, sym, subst, ap, ◌∙◌, arith}
use Rattle.std.specs.Prelude.{IfSome}
use Rattle.std.proofs.lemmas.List.Sums.{sum_by-cons}
use Rattle.fs_names.specs.declared.limits.Limits.{Limits}
use Rattle.fs_calls.specs.Starts.{Start, root_start}
use Rattle.fs_calls.specs.declared.call.Call.{Call}
use Rattle.fs_timeline.specs.Timeline.{IsLawful}
use Rattle.fs_linearizable.specs.Linearizable.{history, IsLinearizable}
use Rattle.fs_timeline.specs.declared.entry.Entry.{Entry}
use Rattle.fs_timeline.specs.declared.entry.Entry.TheVariants.{Begin, Commit, Return}
use Rattle.fs_words.specs.declared.fault.ScriptFault.{ScriptFault}
use Rattle.fs_script.specs.Script.{script_of}
use Rattle.fs_script.specs.declared.script.Script.{Script}
use Rattle.fs_sched.specs.Devices.{IsSameText}
use Rattle.fs_sched.specs.Runs.{calls_in}
use Rattle.fs_sched.specs.RunTexts.{is_of, number_of}
use Rattle.fs_verdict.specs.declared.fault.RunFault.TheVariants as run
use Rattle.fs_sched.specs.declared.run_texts.EntryKind.TheVariants as kind
use Rattle.fs_sched.proofs.RunLemmas.{script_same}
use Rattle.fs_share.specs.Returns.{returns}
use Rattle.fs_share.specs.Played.{ArePlayed}
use Rattle.fs_sched_threads.specs.Faults.{IsOfInput}
use Rattle.fs_sched_threads.specs.code.ThreadFaults.{IsOfThreads}
use Rattle.fs_sched_threads.specs.Lines.{text_of, IsTextOf, IsWrittenOf}
use Rattle.fs_sched_threads.specs.declared.fault.ThreadsFault.{ThreadsFault}
use Rattle.fs_sched_threads.specs.declared.fault.ThreadsFault.TheVariants.{Run, Lists}

-- the returns of a timeline, by two words
number_cons : (e : Entry) (es : List Entry) → number_of kind.Return (e ∷ es) ≡ cond (is_of kind.Return e) 1 0 + number_of kind.Return es
number_cons e es = sum_by-cons (λ (x : Entry). cond (is_of kind.Return x) 1 0) e es

pub number_is : (es : List Entry) → number_of kind.Return es ≡ returns es
number_is [] = refl
number_is (Begin c seat call ∷ es) = omega (arith, number_cons (Begin c seat call) es, number_is es)
number_is (Commit c ∷ es) = omega (arith, number_cons (Commit c) es, number_is es)
number_is (Return c r ∷ es) = omega (arith, number_cons (Return c r) es, number_is es)

-- the numbers of calls of lists, by two words
pub calls_are : {V : Type 0} (f : V → List Call) (len : V → ℕ) → ((v : V) → len v ≡ length (f v)) → (lists : List V) → sum_by len lists ≡ calls_in (map f lists)
calls_are f len h [] = refl
calls_are f len h (x ∷ xs) = omega (arith, sum_by-cons len x xs, h x, calls_are f len h xs)

pub known_text : (journal : Bool) (r : Option (List ℕ)) (given items text : List ℕ) → given ≡ items → IfSome r (IsSameText items) → IsTextOf journal given text → IfSome r (λ input. IsTextOf journal input text)
known_text journal None given items text e s h = tt
known_text journal (Some input) given items text e s h = (h.0, sym (script_same items input s) ∙ sym (ap script_of e) ∙ h.1, h.2)

-- what is written of a timeline of lists
pub written : (journal : Bool) (limits : Limits) (start : Start) (lists : List (List Call)) (es : List Entry) (text : List ℕ)
    → start ≡ root_start limits → IsLawful start es → IsLinearizable start (history es) → ArePlayed lists es → number_of kind.Return es ≡ calls_in lists → text ≡ text_of journal start es → IsWrittenOf journal limits lists text
written journal limits start lists es text root lawful linearizable played number is = (
  es,
  record {
    lawful = subst (λ (s : Start). IsLawful s es) root lawful;
    linearizable = subst (λ (s : Start). IsLinearizable s (history es)) root linearizable;
    played = played;
    returned = number;
  },
  is ∙ ap (λ (s : Start). text_of journal s es) root,
)

-- a fault of the threads is one with any input
pub input_of_threads : (given : Result Script ScriptFault) (fault : ThreadsFault) → IsOfThreads fault → IsOfInput given fault
input_of_threads given (Run (run.Input _)) h = elim h [ ]
input_of_threads given (Run run.Read) h = elim h [ ]
input_of_threads given (Run run.Write) h = elim h [ ]
input_of_threads given (Run run.OutOfMemory) h = tt
input_of_threads given (Run run.Full) h = tt
input_of_threads given (Run (run.UnderWay _)) h = elim h [ ]
input_of_threads given (Lists fault) h = tt
