-- What words did, as a loop over them has it.
use Rattle.std.proofs.Common.{◌≡◌, ℕ, ◌+◌, ◌<◌, ◌≤◌, ◌^◌, ◌-◌, min, true, Result, Ok, Err, List, [], ◌∷◌, ◌++◌, append-nil, append_assoc, length, take, drop, get_or, refl, sym, ap, ◌∙◌, subst, inl, inr, arith}
use Rattle.std.specs.Prelude.{IfErr, IsErrOf}
use Rattle.std.proofs.lemmas.List.{take_more, take-append-drop}
use Rattle.fs_names.specs.declared.limits.Limits.{Limits}
use Rattle.fs_calls.specs.declared.call.Call.{Call}
use Rattle.fs_timeline.specs.declared.entry.Entry.{Entry}
use Rattle.fs_script.specs.declared.script.Word.{Word}
use Rattle.fs_script.specs.declared.script.Script.{Script}
use Rattle.fs_sched.specs.Runs.{Stage, EndsBy, Does, Words, RunsFrom, StopsAt, StopsInWords, StopsInRounds, StopsFrom}
use Rattle.fs_sched.specs.Schedules.{words_by, goes_on}
use Rattle.fs_sched.specs.declared.schedule.Schedule.{Schedule}
use Rattle.fs_script.specs.Limits.{call_limit}
use Rattle.fs_script.specs.declared.limits.TheConstants.{CALL_LIMIT}
use Rattle.fs_script.proofs.NumbersLeft.{most_calls}
use Rattle.fs_sched.specs.RunTexts.{number_of}
use Rattle.fs_sched.specs.code.Counts.{AreCapped, AreCounts}
use Rattle.fs_sched.specs.declared.run_texts.Counts.{Counts}
use Rattle.fs_sched.specs.declared.run_texts.EntryKind.{EntryKind}
use Rattle.fs_sched.specs.declared.run_texts.EntryKind.TheVariants as kind
use Rattle.fs_sched.specs.code.Done.{HasDone}
use Rattle.fs_sched.specs.code.Stages.{stage_of, IsRefusal, IsWhy}
use Rattle.fs_verdict.specs.declared.fault.RunFault.{RunFault}
use Rattle.fs_verdict.specs.declared.fault.RunFault.TheVariants as faults
use Rattle.fs_sched.specs.declared.pieces.Pieces.{Pieces}

-- one word more
words_push : (lists : List (List Call)) (ws : List Word) (w : Word) (told more : List Entry) (old now new : Stage) → Words lists old ws told now → Does lists now w more new → Words lists old (ws ++ w ∷ []) (told ++ more) new
words_push lists [] w told more old now new (same, none) does =
    (new, told ++ more, [], subst (λ (es : List Entry). Does lists old w es new) (sym (ap (λ (es : List Entry). es ++ more) none)) (subst (λ (s : Stage). Does lists s w more new) same does), (refl, refl), sym (append-nil (told ++ more)))
words_push lists (x ∷ ws) w told more old now new (middle, first, rest, does_x, after, both) does =
    (middle, first, rest ++ more, does_x, words_push lists ws w rest more middle now new after does, ap (λ (es : List Entry). es ++ more) both ∙ append_assoc first rest more)

-- a stop at the next word
stops_next : (lists : List (List Call)) (ws more : List Word) (w : Word) (told : List Entry) (old now : Stage) (f : RunFault) → Words lists old ws told now → StopsAt lists now w f → StopsInWords lists old (ws ++ w ∷ more) f
stops_next lists [] more w told old now f (same, none) stops = inl (subst (λ (s : Stage). StopsAt lists s w f) same stops)
stops_next lists (x ∷ ws) more w told old now f (middle, first, rest, does, after, both) stops = inr (middle, first, does, stops_next lists ws more w rest middle now f after stops)

pub words_more : (lists : List (List Call)) (ws : List Word) (i : ℕ) (d : Word) (told more : List Entry) (old now new : Stage) → i < length ws → Words lists old (take i ws) told now → Does lists now (get_or ws i d) more new → Words lists old (take (i + 1) ws) (told ++ more) new
words_more lists ws i d told more old now new less done does = subst (λ (xs : List Word). Words lists old xs (told ++ more) new) (sym (take_more ws i d less)) (words_push lists (take i ws) (get_or ws i d) told more old now new done does)

pub stops_here : (lists : List (List Call)) (ws : List Word) (i : ℕ) (d : Word) (told : List Entry) (old now : Stage) (f : RunFault) → i < length ws → Words lists old (take i ws) told now → StopsAt lists now (get_or ws i d) f → StopsInWords lists old ws f
stops_here lists ws i d told old now f less done stops =
    let all : take i ws ++ get_or ws i d ∷ drop (i + 1) ws ≡ ws = sym (append_assoc (take i ws) (get_or ws i d ∷ []) (drop (i + 1) ws)) ∙ ap (λ (xs : List Word). xs ++ drop (i + 1) ws) (sym (take_more ws i d less)) ∙ take-append-drop (i + 1) ws in
    subst (λ (xs : List Word). StopsInWords lists old xs f) all (stops_next lists (take i ws) (drop (i + 1) ws) (get_or ws i d) told old now f done stops)

-- nothing was told
pub none_told : (did : List Entry → Stage → Type 0) (old new : Pieces) → did [] (stage_of new.play) → new.told ≡ old.told → HasDone did old new
none_told did old new done same = record {
  told = [];
  came = done;
  counted = λ before counted. subst (λ (es : List Entry). AreCapped new.told es) (sym (append-nil before)) (subst (λ counts. AreCapped counts before) (sym same) counted);
}

pub done_more : (lists : List (List Call)) (ws : List Word) (i : ℕ) (d : Word) (old now new : Pieces) → i < length ws → HasDone (Words lists (stage_of old.play) (take i ws)) old now → HasDone (Does lists (stage_of now.play) (get_or ws i d)) now new → HasDone (Words lists (stage_of old.play) (take (i + 1) ws)) old new
done_more lists ws i d old now new less a b = record {
  told = a.told ++ b.told;
  came = words_more lists ws i d a.told b.told (stage_of old.play) (stage_of now.play) (stage_of new.play) less a.came b.came;
  counted = λ before counted. subst (λ (es : List Entry). AreCapped new.told es) (append_assoc before a.told b.told) (b.counted (before ++ a.told) (a.counted before counted));
}

-- with the rounds that follow
pub done_ended : (schedule : Schedule) (script : Script) (old now new : Pieces) → HasDone (Words script.lists (stage_of old.play) (words_by schedule script.words script.lists)) old now → new.told ≡ now.told → EndsBy (goes_on schedule script.words) script.lists (stage_of now.play) (stage_of new.play) → HasDone (RunsFrom schedule script (stage_of old.play)) old new
done_ended schedule script old now new h same ends = record {
  told = h.told;
  came = (stage_of now.play, h.came, ends);
  counted = λ before counted. subst (λ counts. AreCapped counts (before ++ h.told)) (sym same) (h.counted before counted);
}

-- ---- why a run stops

pub why_weaker : (P Q : RunFault → Type 0) → ((f : RunFault) → P f → Q f) → (f : RunFault) → IsWhy P f → IsWhy Q f
why_weaker P Q h (faults.Input f) why = why
why_weaker P Q h faults.Read why = why
why_weaker P Q h faults.Write why = why
why_weaker P Q h faults.OutOfMemory why = why
why_weaker P Q h faults.Full why = h faults.Full why
why_weaker P Q h (faults.UnderWay c) why = h (faults.UnderWay c) why

-- a call's refusal
pub refused_why : (Q : RunFault → Type 0) (f : RunFault) → IsRefusal f → (f ≡ faults.Full → Q faults.Full) → IsWhy Q f
refused_why Q (faults.Input f) refused full = refused
refused_why Q faults.Read refused full = refused
refused_why Q faults.Write refused full = refused
refused_why Q faults.OutOfMemory refused full = refused
refused_why Q faults.Full refused full = full refl
refused_why Q (faults.UnderWay c) refused full = absurd refused

pub result_why : {T : Type 0} (r : Result T RunFault) (Q : RunFault → Type 0) → IfErr r IsRefusal → (IsErrOf r faults.Full → Q faults.Full) → IfErr r (IsWhy Q)
result_why (Ok x) Q refused full = tt
result_why (Err f) Q refused full = refused_why Q f refused (λ e. full (ap Err e))

-- at the next word, before rounds to the end, in them
pub why_here : (lists : List (List Call)) (ws : List Word) (i : ℕ) (d : Word) (old now : Pieces) (f : RunFault) → i < length ws → HasDone (Words lists (stage_of old.play) (take i ws)) old now → IsWhy (StopsAt lists (stage_of now.play) (get_or ws i d)) f → IsWhy (StopsInWords lists (stage_of old.play) ws) f
why_here lists ws i d old now f less h why = why_weaker (StopsAt lists (stage_of now.play) (get_or ws i d)) (StopsInWords lists (stage_of old.play) ws) (λ g stops. stops_here lists ws i d h.told (stage_of old.play) (stage_of now.play) g less h.came stops) f why

pub why_before : (schedule : Schedule) (script : Script) (old : Stage) (f : RunFault) → IsWhy (StopsInWords script.lists old (words_by schedule script.words script.lists)) f → IsWhy (StopsFrom schedule script old) f
why_before schedule script old f why = why_weaker (StopsInWords script.lists old (words_by schedule script.words script.lists)) (StopsFrom schedule script old) (λ g stops. inl stops) f why

pub why_after : (schedule : Schedule) (script : Script) (old now : Pieces) (f : RunFault) → HasDone (Words script.lists (stage_of old.play) (words_by schedule script.words script.lists)) old now → goes_on schedule script.words ≡ true → IsRefusal f → (f ≡ faults.Full → StopsInRounds script.lists (stage_of now.play)) → IsWhy (StopsFrom schedule script (stage_of old.play)) f
why_after schedule script old now f h goes refused full = refused_why (StopsFrom schedule script (stage_of old.play)) f refused (λ e. inr (stage_of now.play, h.told, h.came, goes, refl, full e))

-- ---- counts

-- where there are no more entries than calls, the counts are theirs
pub uncapped : (counts : Counts) (es : List Entry) (limits : Limits) (calls : ℕ) → calls ≤ call_limit limits → ((k : EntryKind) → number_of k es ≤ calls) → AreCapped counts es → AreCounts counts es
uncapped counts es limits calls few each capped =
    let most : call_limit limits ≤ CALL_LIMIT = most_calls limits in
    let b : number_of kind.Begin es ≤ calls = each kind.Begin in
    let p : number_of kind.Commit es ≤ calls = each kind.Commit in
    let r : number_of kind.Return es ≤ calls = each kind.Return in
    let b_is : counts.begun ≡ min (2 ^ 64 - 1) (number_of kind.Begin es) = capped.begun in
    let p_is : counts.committed ≡ min (2 ^ 64 - 1) (number_of kind.Commit es) = capped.committed in
    let r_is : counts.returned ≡ min (2 ^ 64 - 1) (number_of kind.Return es) = capped.returned in
    record { begun = omega (arith, b, few, most, b_is); committed = omega (arith, p, few, most, p_is); returned = omega (arith, r, few, most, r_is) }
