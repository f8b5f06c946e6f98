-- What is answered, by what was found.
use Rattle.std.proofs.Common.{◌≡◌, ℕ, ◌-◌, ◌<◌, ◌≤◌, Bool, true, false, List, length, take, get_or, Option, Some, None, refl, sym, ap, ◌∙◌, subst, arith}
use Rattle.std.proofs.lemmas.List.{length-map, take-map, take_all}
use Rattle.std.specs.Prelude.{slice_get}
use Rattle.std.specs.Option.{option_map}
use Rattle.std.proofs.lemmas.Option.{slice_get_within, slice_get_read, slice_get-map}
use Rattle.fs_names.specs.Keys.{Key}
use Rattle.fs_calls.specs.Starts.{Start}
use Rattle.fs_calls.specs.Outcomes.{play}
use Rattle.fs_calls.specs.declared.call.Call.{Call}
use Rattle.fs_timeline.specs.Timeline.{commits, has_begun}
use Rattle.fs_timeline.specs.declared.entry.Entry.{Entry}
use Rattle.fs_script.specs.TreeText.{tree_text}
use Rattle.fs_trace_replay.specs.Changes.{IsLastChange}
use Rattle.fs_trace_replay.specs.Commits.{CommitsBehind, IsTurn, committed, tree_after}
use Rattle.fs_sched.specs.declared.schedule.Schedule.{Schedule}
use Rattle.fs_verdict.specs.Checks.{is_journal}
use Rattle.fs_verdict.specs.declared.fault.RunFault.{RunFault}
use Rattle.fs_verdict.specs.declared.fault.RunFault.TheVariants as run
use Rattle.fs_trace_replay.specs.Replays.{IsCallBehind, IsCallOf, IsFaultOfReplay, IsLineOfChange, IsToldBy, IsUntold, Telling, seat_by}
use Rattle.fs_trace_replay.specs.declared.asking.Question.{Question}
use Rattle.fs_trace_replay.specs.declared.asking.Question.TheVariants as question
use Rattle.fs_trace_replay.specs.declared.fault.ReplayFault.{ReplayFault}
use Rattle.fs_trace_replay.specs.declared.fault.ReplayFault.TheVariants as fault
use Rattle.fs_trace_replay.specs.code.Seen.{IsPlace, calls_in}
use Rattle.fs_trace_replay.specs.code.Tellings.{IsChangeTold, IsTreeBefore, IsUnanswered, IsUncalled, IsUnplaced, memory}
use Rattle.std.specs.Borrow.{Bor}
use Rattle.fs_trace_replay.proofs.CommitLemmas.{committed_counted}
use Rattle.fs_trace_replay.proofs.TurnLemmas.{committed_begun}

-- ---- the call of a thread

value_in : ℕ → Option ℕ → ℕ
value_in d None = d
value_in d (Some n) = n

same_value : (a b : ℕ) → ◌≡◌ {A = Option ℕ} (Some a) (Some b) → a ≡ b
unfolding value_in
same_value a b e = ap (value_in a) e

-- its number is one
one_call : (names : Option (List (List ℕ))) (es : List Entry) (thread : List ℕ) (turn c d : ℕ) → IsCallOf names es thread turn c → IsCallOf names es thread turn d → c ≡ d
one_call names es thread turn c d is other =
    let same : is.0 ≡ other.0 = same_value is.0 other.0 (sym is.1 ∙ other.1) in
    let there : IsTurn es other.0 turn c = subst (λ s. IsTurn es s turn c) same is.2 in
    same_value c d (sym there.1 ∙ other.2.1)

pub no_seat : (names : Option (List (List ℕ))) (es : List Entry) (thread : List ℕ) (turn : ℕ) → None ≡ seat_by names thread → (n : ℕ) → IsCallBehind names es thread turn n → ⊥
no_seat names es thread turn none n is = let both : ◌≡◌ {A = Option ℕ} None (Some is.1.0) = none ∙ is.1.1 in absurd (cc)

pub no_turn : (names : Option (List (List ℕ))) (es : List Entry) (thread : List ℕ) (turn seat : ℕ) → Some seat ≡ seat_by names thread → ((c : ℕ) → IsTurn es seat turn c → ⊥) → (n : ℕ) → IsCallBehind names es thread turn n → ⊥
no_turn names es thread turn seat on none n is =
    let same : seat ≡ is.1.0 = same_value seat is.1.0 (on ∙ is.1.1) in
    none is.0 (subst (λ s. IsTurn es s turn is.0) (sym same) is.1.2)

pub no_commit : (names : Option (List (List ℕ))) (es : List Entry) (thread : List ℕ) (turn c : ℕ) → IsCallOf names es thread turn c → ((n : ℕ) → CommitsBehind es c n → ⊥) → (n : ℕ) → IsCallBehind names es thread turn n → ⊥
no_commit names es thread turn c is none n other = none n (subst (λ d. CommitsBehind es d n) (sym (one_call names es thread turn c other.0 is other.1)) other.2)

pub unplaced : (names : Option (List (List ℕ))) (es : List Entry) (thread : List ℕ) (turn c : ℕ) → IsCallOf names es thread turn c → (f : ReplayFault) → IsUnplaced es c f → IsUncalled names es thread turn f
unplaced names es thread turn c is (fault.Run f) h = h
unplaced names es thread turn c is (fault.NoCommit n) h = h
unplaced names es thread turn c is fault.NoCall h = no_commit names es thread turn c is h
unplaced names es thread turn c is fault.BadCall h = h
unplaced names es thread turn c is (fault.BadPath k) h = h

pub not_behind : (es : List Entry) (c : ℕ) → IsPlace (committed es) c None → (n : ℕ) → CommitsBehind es c n → ⊥
not_behind es c none n is = none n (slice_get_within (committed es) n c is) is

pub place_within : (es : List Entry) (c place : ℕ) → CommitsBehind es c place → place ≤ length (commits es)
place_within es c place at =
    let less : place < length (committed es) = slice_get_within (committed es) place c at in
    omega (arith, less, committed_counted es)

-- ---- the line of a commit

pub has_turn : (es : List Entry) (c n : ℕ) → CommitsBehind es c n → has_begun c es ≡ false → ⊥
has_turn es c n at none = let begun : has_begun c es ≡ true = committed_begun es n c at in absurd (let both : ◌≡◌ {A = Bool} true false = sym begun ∙ none in cc)

pub enough : (ns : List ℕ) (ks : List (Bor Call)) (es : List Entry) (place : ℕ) → ns ≡ committed es → calls_in ks ≡ commits es → 1 ≤ place → place ≤ length ks → place - 1 < length ns
enough ns ks es place numbers are some few = let long : length ns ≡ length ks = ap length numbers ∙ committed_counted es ∙ sym (ap length are) ∙ length-map ks (λ (c : Bor Call). c.now) in omega (arith, long, some, few)

pub number_there : (ns : List ℕ) (es : List Entry) (i c : ℕ) → ns ≡ committed es → i < length ns → c ≡ get_or ns i c → CommitsBehind es c i
number_there ns es i c numbers less is = ap (λ xs. slice_get xs i) (sym numbers) ∙ slice_get_read ns (length ns) i c refl less is

pub call_there : (ks : List (Bor Call)) (es : List Entry) (i : ℕ) (k : Bor Call) → calls_in ks ≡ commits es → i < length ks → k ≡ get_or ks i k → slice_get (commits es) i ≡ Some k.now
call_there ks es i k are less is = ap (λ xs. slice_get xs i) (sym are) ∙ slice_get-map (λ (c : Bor Call). c.now) ks i ∙ ap (option_map (λ (c : Bor Call). c.now)) (slice_get_read ks (length ks) i k refl less is)

-- ---- the last change

pub change_told : (names : Option (List (List ℕ))) (es : List Entry) (start : Start) (ks : List (Bor Call)) (path : Key) (last : Option ℕ) (found : Bool) (text : List ℕ) → IsLastChange start (calls_in ks) path (length ks) last → IsLineOfChange names es last found text
    → IsChangeTold names es start (calls_in ks) path found text
change_told names es start ks path last found text is line = (last, subst (λ n. IsLastChange start (calls_in ks) path n last) (sym (length-map ks (λ (c : Bor Call). c.now))) is, line)

-- ---- the trees

pub whole_tree : (start : Start) (ks : List (Bor Call)) (es : List Entry) → calls_in ks ≡ commits es → tree_text (play start (calls_in ks)) ≡ tree_text (tree_after start es (length (commits es)))
whole_tree start ks es are = ap (λ cs. tree_text (play start cs)) (are ∙ sym (take_all (length (commits es)) (commits es) (omega arith)))

pub tree_of_front : (start : Start) (ks : List (Bor Call)) (es : List Entry) (n : ℕ) → calls_in ks ≡ commits es → tree_text (play start (calls_in (take n ks))) ≡ tree_text (tree_after start es n)
tree_of_front start ks es n are = ap (λ cs. tree_text (play start cs)) (sym (take-map (λ (c : Bor Call). c.now) n ks) ∙ ap (take n) are)

pub calls_counted : (ks : List (Bor Call)) (es : List Entry) → calls_in ks ≡ commits es → length ks ≡ length (commits es)
calls_counted ks es are = sym (length-map ks (λ (c : Bor Call). c.now)) ∙ ap length are

pub at_answer : (start : Start) (ks : List (Bor Call)) (es : List Entry) (n : ℕ) (found : Bool) (text : List ℕ) → calls_in ks ≡ commits es → (n ≤ length ks) × (found ≡ true) × (text ≡ tree_text (play start (calls_in (take n ks))))
    → (n ≤ length (commits es)) × (found ≡ true) × (text ≡ tree_text (tree_after start es n))
at_answer start ks es n found text are h = (subst (λ m. n ≤ m) (calls_counted ks es are) h.0, h.1, h.2 ∙ tree_of_front start ks es n are)

pub before_answer : (names : Option (List (List ℕ))) (start : Start) (ks : List (Bor Call)) (es : List Entry) (thread : List ℕ) (turn n : ℕ) (found : Bool) (text : List ℕ) → calls_in ks ≡ commits es → IsCallBehind names es thread turn n
    → (found ≡ true) × (text ≡ tree_text (play start (calls_in (take n ks)))) → IsTreeBefore names start es thread turn found text
before_answer names start ks es thread turn n found text are is h = (n, is, h.0, h.1 ∙ tree_of_front start ks es n are)

-- ---- why there is no answer

no_memory : (journal : Bool) (schedule : Schedule) (input : List ℕ) (f : RunFault) → f ≡ run.OutOfMemory → IsUntold journal schedule input f
no_memory true schedule input f e = subst (IsUntold true schedule input) (sym e) tt
no_memory false schedule input f e = subst (IsUntold false schedule input) (sym e) tt

-- the fault of memory as that of a question
of_memory : (schedule : Schedule) (input : List ℕ) (question : Question) (f : ReplayFault) → f ≡ memory → IsFaultOfReplay schedule input question f
of_memory schedule input question f e = subst (IsFaultOfReplay schedule input question) (sym e) (no_memory (is_journal input) schedule input run.OutOfMemory refl)

pub unanswered : (schedule : Schedule) (input : List ℕ) (told : Telling) (question : Question) (f : ReplayFault) → IsToldBy (is_journal input) schedule input told → IsUnanswered told.names told.entries question f → IsFaultOfReplay schedule input question f
unanswered schedule input told question.Whole f is h = of_memory schedule input question.Whole f h
unanswered schedule input told (question.Who path) f is h = of_memory schedule input (question.Who path) f h
unanswered schedule input told (question.At n) (fault.Run f) is h = no_memory (is_journal input) schedule input f h
unanswered schedule input told (question.At n) (fault.NoCommit m) is h = (told, is, h)
unanswered schedule input told (question.At n) fault.NoCall is h = absurd h
unanswered schedule input told (question.At n) fault.BadCall is h = absurd h
unanswered schedule input told (question.At n) (fault.BadPath k) is h = absurd h
unanswered schedule input told (question.Before thread turn) (fault.Run f) is h = no_memory (is_journal input) schedule input f h
unanswered schedule input told (question.Before thread turn) (fault.NoCommit m) is h = absurd h
unanswered schedule input told (question.Before thread turn) fault.NoCall is h = (told, is, h)
unanswered schedule input told (question.Before thread turn) fault.BadCall is h = absurd h
unanswered schedule input told (question.Before thread turn) (fault.BadPath k) is h = absurd h
