-- What reading the text of a history gives.
use Rattle.std.proofs.Common.{[], ◌∷◌, ◌++◌, Option, ◌≡◌, ⊎_elim, ℕ, false, List, Result, Ok, refl, sym, ap, ◌∙◌, subst}
use Rattle.std.proofs.lemmas.Bool.{cond-false}
use Rattle.fs_calls.specs.Starts.{Start}
use Rattle.fs_timeline.specs.declared.entry.Entry.{Entry}
use Rattle.fs_timeline.specs.declared.entry.Entry.TheVariants.{Begin, Commit, Return}
use Rattle.fs_linearize_histories.specs.declared.heard.Heard.{Heard}
use Rattle.fs_linearize_histories.specs.declared.heard.Heard.TheVariants as heard
use Rattle.fs_linearize_histories.specs.declared.heard.Pattern.TheVariants.{Exactly}
use Rattle.fs_words.specs.Headers.{is_too_long}
use Rattle.fs_words.specs.Lines.{lines_of}
use Rattle.fs_words.specs.declared.fault.ScriptFault.{ScriptFault}
use Rattle.fs_script.specs.Journals.{journal_of}
use Rattle.fs_verdict.specs.InputFaults.{IsFaultOf}
use Rattle.fs_verdict.specs.declared.fault.RunFault.{RunFault}
use Rattle.fs_verdict.specs.declared.fault.RunFault.TheVariants.{Input, Read, Write, OutOfMemory, Full, UnderWay}
use Rattle.fs_linearize_dialects.specs.declared.dialect.Row.{Row}
use Rattle.fs_linearize_dialects.specs.Dialects.{widened}
use Rattle.fs_linearize_text.specs.Texts.{with_table, known, heard_by, with_marks, marks_in, plain_text, history_by, history_of}
use Rattle.fs_linearize_text.specs.code.Walks.{left_by}
use Rattle.fs_linearize_text.specs.code.TooLarge.{IsTooLarge}
use Rattle.fs_linearize_text.specs.code.Laws.{refuses}
use Rattle.fs_linearize_text.specs.declared.marks.Mark.{Mark}

read_plain : (lines : List (List ℕ)) (plain : List ℕ) (marks : List (Option Mark)) (start : Start) (es : List Entry) (heard : List Heard) → plain ≡ plain_text lines → marks ≡ marks_in lines → journal_of plain ≡ Ok (start, es) → heard ≡ heard_by es marks → with_marks (marks_in lines) (journal_of (plain_text lines)) ≡ Ok (start, heard)
read_plain lines plain marks start es heard same told is all =
    ap (with_marks (marks_in lines)) (ap journal_of (sym same) ∙ is)
    ∙ ap (λ (xs : List Heard). Ok (start, xs)) (ap (λ (ms : List (Option Mark)). heard_by es ms) (sym told) ∙ sym all)

pub read_ok : (rows : List Row) (lines : List (List ℕ)) (plain : List ℕ) (marks : List (Option Mark)) (start : Start) (es : List Entry) (heard wide : List Heard) → plain ≡ plain_text lines → marks ≡ marks_in lines → journal_of plain ≡ Ok (start, es) → heard ≡ heard_by es marks → wide ≡ widened rows heard → history_by rows lines ≡ Ok (start, wide)
read_ok rows lines plain marks start es heard wide same told is all read = ap (with_table rows) (read_plain lines plain marks start es heard same told is all) ∙ ap (λ (xs : List Heard). Ok (start, xs)) (sym read)

fault_with : (marks : List (Option Mark)) (given : Result (Start × List Entry) ScriptFault) (fault : RunFault) → IsFaultOf given fault → IsFaultOf (with_marks marks given) fault
fault_with marks given (Input f) is = ap (with_marks marks) is
fault_with marks given Read is = is
fault_with marks given Write is = is
fault_with marks given OutOfMemory is = tt
fault_with marks given Full is = is
fault_with marks given (UnderWay c) is = is

fault_by : (rows : List Row) (given : Result (Start × List Heard) ScriptFault) (fault : RunFault) → IsFaultOf given fault → IsFaultOf (with_table rows given) fault
fault_by rows given (Input f) is = ap (with_table rows) is
fault_by rows given Read is = is
fault_by rows given Write is = is
fault_by rows given OutOfMemory is = tt
fault_by rows given Full is = is
fault_by rows given (UnderWay c) is = is

pub read_err : (rows : List Row) (lines : List (List ℕ)) (plain : List ℕ) (fault : RunFault) → plain ≡ plain_text lines → IsFaultOf (journal_of plain) fault → IsFaultOf (history_by rows lines) fault
read_err rows lines plain fault same is = fault_by rows (with_marks (marks_in lines) (journal_of (plain_text lines))) fault (fault_with (marks_in lines) (journal_of (plain_text lines)) fault (subst (λ (t : List ℕ). IsFaultOf (journal_of t) fault) same is))

pub within : (rows : List Row) (text : List ℕ) (lines : List (List ℕ)) → is_too_long text ≡ false → lines ≡ lines_of text → history_by rows lines ≡ history_of rows text
within rows text lines short same = ap (history_by rows) same ∙ sym (cond-false _ _ _ short)

pub too_large : (rows : List Row) (text : List ℕ) (fault : RunFault) → IsTooLarge text fault → IsFaultOf (history_of rows text) fault
too_large rows text fault h = ⊎_elim (λ e. rw e tt) (λ p. rw p.1 (refuses rows text p.0)) h

-- ---- entries, one by one

heard_more : (es : List Entry) (e : Entry) (marks : List (Option Mark)) → heard_by (es ++ e ∷ []) marks ≡ heard_by es marks ++ heard_by (e ∷ []) (left_by es marks)
heard_more [] e marks = refl
heard_more (Begin c seat call ∷ es) e marks = ap (λ (xs : List Heard). heard.Begin c seat call ∷ xs) (heard_more es e marks)
heard_more (Commit c ∷ es) e marks = heard_more es e marks
heard_more (Return c r ∷ es) e [] = ap (λ (xs : List Heard). heard.Return c (Exactly r) ∷ xs) (heard_more es e [])
heard_more (Return c r ∷ es) e (mark ∷ marks) = ap (λ (xs : List Heard). heard.Return c (known mark r) ∷ xs) (heard_more es e marks)

left_more : (es : List Entry) (e : Entry) (marks : List (Option Mark)) → left_by (es ++ e ∷ []) marks ≡ left_by (e ∷ []) (left_by es marks)
left_more [] e marks = refl
left_more (Begin c seat call ∷ es) e marks = left_more es e marks
left_more (Commit c ∷ es) e marks = left_more es e marks
left_more (Return c r ∷ es) e [] = left_more es e []
left_more (Return c r ∷ es) e (mark ∷ marks) = left_more es e marks

pub heard_pushed : (es : List Entry) (e : Entry) (marks left : List (Option Mark)) (old new : List Heard) → old ≡ heard_by es marks → left ≡ left_by es marks → new ≡ old ++ heard_by (e ∷ []) left → new ≡ heard_by (es ++ e ∷ []) marks
heard_pushed es e marks left old new so is pushed =
    pushed ∙ ap (λ (xs : List Heard). xs ++ heard_by (e ∷ []) left) so ∙ ap (λ (ms : List (Option Mark)). heard_by es marks ++ heard_by (e ∷ []) ms) is ∙ sym (heard_more es e marks)

pub left_pushed : (es : List Entry) (e : Entry) (marks left new : List (Option Mark)) → left ≡ left_by es marks → new ≡ left_by (e ∷ []) left → new ≡ left_by (es ++ e ∷ []) marks
left_pushed es e marks left new is told = told ∙ ap (λ (ms : List (Option Mark)). left_by (e ∷ []) ms) is ∙ sym (left_more es e marks)
