-- The moments of a run, and the run that its words give.
use Rattle.std.proofs.Common.{◌≡◌, ℕ, zero, suc, ◌+◌, ◌<◌, ◌≤◌, ltb, Bool, true, false, List, [], ◌∷◌, ◌++◌, length, replicate, Option, Some, None, Result, Ok, refl, sym, ap, subst, ◌∙◌, append-nil, arith}
use Rattle.std.specs.List.{list_any}
use Rattle.std.proofs.lemmas.Bool.{ltb-true, ltb-false}
use Rattle.std.proofs.lemmas.Grind.{flat_map-append}
use Rattle.fs_calls.specs.declared.call.Call.{Call}
use Rattle.fs_timeline.specs.declared.entry.Entry.{Entry}
use Rattle.fs_words.specs.Headers.{is_too_long}
use Rattle.fs_words.specs.declared.fault.ScriptFault.{ScriptFault}
use Rattle.fs_script.specs.Limits.{events_in, SeatsAreThere}
use Rattle.fs_script.specs.Script.{script_of}
use Rattle.fs_script.specs.declared.limits.TheConstants.{EVENT_LIMIT}
use Rattle.fs_script.specs.declared.script.Script.{Script}
use Rattle.fs_script.specs.declared.script.Word.{Word}
use Rattle.fs_script.specs.declared.script.Word.TheVariants as word
use Rattle.fs_script.proofs.LimitLemmas.{keeps_limits}
use Rattle.fs_sched_witness.specs.Moments.{entries_of, entries_told}
use Rattle.fs_sched_witness.specs.declared.moments.Answer.{Answer}
use Rattle.fs_sched_witness.specs.declared.moments.Answer.TheVariants as answer
use Rattle.fs_sched_witness.specs.declared.moments.Moment.{Moment}
use Rattle.fs_sched_witness.specs.declared.moments.Moment.TheVariants as moment
use Rattle.fs_sched.specs.Gives.{given_words}
use Rattle.fs_sched.specs.Moments as told
use Rattle.fs_sched.specs.Moments.{AnswersEvent, IsMoment, AreMoments, word_of, AnswersToEnd, AnswersEnd, TellsFrom, TellsRun}
use Rattle.fs_sched.specs.Origins.{IsFirst, RunsOn, TellsOn}
use Rattle.fs_sched.specs.Runs.{Stage, start, next_call, Words, EndsBy, RunsFrom, Runs, AreOfRun}
use Rattle.fs_sched.specs.Schedules.{goes_on, is_finish, one_event}
use Rattle.fs_sched.specs.declared.origin.Origin.{Origin}
use Rattle.fs_sched.specs.declared.origin.Origin.TheVariants.{Root, Tree}
use Rattle.fs_sched.specs.declared.schedule.Schedule.{Schedule}
use Rattle.fs_sched.specs.declared.schedule.Schedule.TheVariants.{Given}
use Rattle.fs_sched.proofs.OneText.{of_each}
use Rattle.fs_sched.proofs.Staging.{call_past}
use Rattle.fs_sched.proofs.Telling.{moment_does, words_told, regrouped, run_told}
use Rattle.fs_sched.proofs.Origins.{kept_first}
use Rattle.fs_sched.proofs.Whole.{ListFacts, words_keep}
use Rattle.fs_trace.specs.Traces.{busy_event, busy_word, busy_words, HasSameRun, IsReadBack, IsReadBackOn}
use Rattle.fs_trace.specs.code.WordTexts.{AreTimed, AreAllWords, HasWords, IsWritten}
use Rattle.fs_trace.specs.declared.script_text.RunWords.{RunWords}
use Rattle.fs_trace.proofs.Rereading.{read_again}

-- ---- moments in order

moments_append : (lists : List (List Call)) (old middle new : Stage) (xs ys : List Moment) → AreMoments lists old xs middle → AreMoments lists middle ys new → AreMoments lists old (xs ++ ys) new
moments_append lists old middle new [] ys e more = subst (λ (s : Stage). AreMoments lists s ys new) e more
moments_append lists old middle new (x ∷ xs) ys (next, is, rest) more = (next, is, moments_append lists next middle new xs ys rest more)

end_moments : (lists : List (List Call)) (old last : Stage) (ms : List Moment) → AnswersToEnd lists old ms last → AreMoments lists old ms last
end_moments lists old last ms (told.Over over) = refl
end_moments lists old last ms (told.More {middle = middle} first more left seats all end) = moments_append lists old middle last first more all (end_moments lists middle last more end)

ends_moments : (b : Bool) (lists : List (List Call)) (old last : Stage) (ms : List Moment) → AnswersEnd b lists old ms last → AreMoments lists old ms last
ends_moments true lists old last ms end = end_moments lists old last ms end
ends_moments false lists old last ms (none, e) = subst (λ (l : List Moment). AreMoments lists old l last) (sym none) e

-- the moments of a run, the rounds to its end among them
run_moments : (schedule : Schedule) (script : Script) (old : Stage) (ms : List Moment) (last : Stage) → TellsFrom schedule script old ms last → AreMoments script.lists old ms last
run_moments schedule script old ms last (middle, first, more, e, all, cut, end) =
    subst (λ (l : List Moment). AreMoments script.lists old l last) (sym e) (moments_append script.lists old middle last first more all (ends_moments (goes_on schedule script.words) script.lists middle last more end))

-- where they begin
tells_first : (from : Origin) (schedule : Schedule) (script : Script) (ms : List Moment) (last : Stage) → TellsOn from schedule script ms last → (first : Stage) × IsFirst from script first × TellsFrom schedule script first ms last
tells_first Root schedule script ms last tells = (start script.limits (length script.lists), refl, tells)
tells_first (Tree tree) schedule script ms last tells = tells

-- ---- their threads

call_there : (lists : List (List Call)) (s : Stage) (seat : ℕ) (call : Call) → next_call lists s seat ≡ Some call → seat < length lists
call_there lists s seat call is = go (ltb seat (length lists)) refl
  where
    go : (b : Bool) → ltb seat (length lists) ≡ b → seat < length lists
    go true t = ltb-true _ _ t
    go false f = absurd (let z : ◌≡◌ {A = Option Call} None (Some call) = sym (call_past lists s seat (omega (arith, ltb-false _ _ f))) ∙ is in cc)

seats_append : (n : ℕ) (xs ys : List Word) → SeatsAreThere n xs → SeatsAreThere n ys → SeatsAreThere n (xs ++ ys)
seats_append n [] ys a b = b
seats_append n (word.Events seat times ∷ xs) ys (less, a) b = (less, seats_append n xs ys a b)
seats_append n (word.Finish ∷ xs) ys a b = seats_append n xs ys a b
seats_append n (word.Drawn ∷ xs) ys a b = seats_append n xs ys a b
seats_append n (word.Checkpoint ∷ xs) ys a b = seats_append n xs ys a b

seats_behind : (n : ℕ) (xs ys : List Word) → SeatsAreThere n (xs ++ ys) → SeatsAreThere n ys
seats_behind n [] ys a = a
seats_behind n (word.Events seat times ∷ xs) ys (less, a) = seats_behind n xs ys a
seats_behind n (word.Finish ∷ xs) ys a = seats_behind n xs ys a
seats_behind n (word.Drawn ∷ xs) ys a = seats_behind n xs ys a
seats_behind n (word.Checkpoint ∷ xs) ys a = seats_behind n xs ys a

event_there : (lists : List (List Call)) (before : List Entry) (old new : Stage) (seat : ℕ) (a : Answer) → AnswersEvent lists old seat a new → ListFacts lists before old → SeatsAreThere (length lists) (busy_event seat a)
event_there lists before old new seat answer.Spent event k = tt
event_there lists before old new seat (answer.Begun c) (call, off, is, begins, set) k = (call_there lists old seat call is, tt)
event_there lists before old new seat (answer.Stepped st) (c, on, step, kept) k = (k.seats seat c on, tt)

moment_there : (lists : List (List Call)) (before : List Entry) (old new : Stage) (m : Moment) → IsMoment lists old m new → ListFacts lists before old → SeatsAreThere (length lists) (busy_word m)
moment_there lists before old new (moment.Event t) event k = event_there lists before old new t.seat t.answer event k
moment_there lists before old new (moment.Checkpoint entries) does k = tt

-- each thread that had something to do is there
moments_there : (lists : List (List Call)) (before : List Entry) (old new : Stage) (ms : List Moment) → AreMoments lists old ms new → ListFacts lists before old → SeatsAreThere (length lists) (busy_words ms)
moments_there lists before old new [] e k = tt
moments_there lists before old new (m ∷ ms) (middle, is, rest) k =
    let kept : ListFacts lists (before ++ entries_told (m ∷ [])) middle = words_keep lists (word_of m ∷ []) before (entries_told (m ∷ [])) old middle (words_told lists old middle (m ∷ []) (middle, is, refl)) k in
    seats_append (length lists) (busy_word m) (busy_words ms) (moment_there lists before old middle m is k) (moments_there lists (before ++ entries_told (m ∷ [])) middle new ms rest kept)

-- ---- the run by the words alone

-- an idle turn changes nothing
busy_moment : (lists : List (List Call)) (old middle new : Stage) (m : Moment) (words : List Word) (entries : List Entry) → IsMoment lists old m middle → Words lists middle words entries new → Words lists old (busy_word m ++ words) (entries_of m ++ entries) new
busy_moment lists old middle new (moment.Event t) words entries event more = go t.answer event
  where
    go : (a : Answer) → AnswersEvent lists old t.seat a middle → Words lists old (busy_event t.seat a ++ words) entries new
    go answer.Spent (off, none, e) = subst (λ (s : Stage). Words lists s words entries new) e more
    go (answer.Begun c) begins = (middle, [], entries, moment_does lists old middle (moment.Event (record { seat = t.seat; answer = answer.Begun c })) begins, more, refl)
    go (answer.Stepped st) goes = (middle, [], entries, moment_does lists old middle (moment.Event (record { seat = t.seat; answer = answer.Stepped st })) goes, more, refl)
busy_moment lists old middle new (moment.Checkpoint taken) words entries does more = (middle, taken.items, entries, does, more, refl)

busy_run : (lists : List (List Call)) (old new : Stage) (ms : List Moment) → AreMoments lists old ms new → Words lists old (busy_words ms) (entries_told ms) new
busy_run lists old new [] e = (e, refl)
busy_run lists old new (m ∷ ms) (middle, is, rest) = busy_moment lists old middle new m (busy_words ms) (entries_told ms) is (busy_run lists middle new ms rest)

no_finish : (words : List Word) → AreTimed words → list_any is_finish words ≡ false
no_finish [] timed = refl
no_finish (word.Events seat times ∷ words) (some, timed) = no_finish words timed
no_finish (word.Checkpoint ∷ words) timed = no_finish words timed
no_finish (word.Finish ∷ words) timed = absurd timed
no_finish (word.Drawn ∷ words) timed = absurd timed

-- a run of the script by these words ends where the run ended whose moments they give
own_run : (schedule : Schedule) (script : Script) (first : Stage) (ms : List Moment) (last : Stage) (words : List Word) → TellsFrom schedule script first ms last → AreTimed words → given_words words ≡ busy_words ms → RunsFrom Given (record script { words = words }) first (entries_told ms) last
own_run schedule script first ms last words tells timed given =
    let busy : Words script.lists first (busy_words ms) (entries_told ms) last = busy_run script.lists first last ms (run_moments schedule script first ms last tells) in
    let done : Words script.lists first words (entries_told ms) last = regrouped script.lists first last words (entries_told ms) (subst (λ (ws : List Word). Words script.lists first ws (entries_told ms) last) (sym given) busy) in
    (last, done, subst (λ (b : Bool). EndsBy b script.lists last last) (sym (no_finish words timed)) refl)

-- and so it does from where that began
own_run_on : (from : Origin) (schedule : Schedule) (script : Script) (ms : List Moment) (last : Stage) (words : List Word) → TellsOn from schedule script ms last → AreTimed words → given_words words ≡ busy_words ms → RunsOn from Given (record script { words = words }) (entries_told ms) last
own_run_on Root schedule script ms last words tells timed given = own_run schedule script (start script.limits (length script.lists)) ms last words tells timed given
own_run_on (Tree tree) schedule script ms last words (first, is, tells) timed given = (first, is, own_run schedule script first ms last words tells timed given)

same_run : (schedule : Schedule) (script : Script) (ms : List Moment) (last : Stage) (words : List Word) (input text : List ℕ) → script_of input ≡ Ok script → TellsRun schedule script ms last → Runs Given (record script { words = words }) (entries_told ms) last → script_of text ≡ Ok (record script { words = words }) → HasSameRun schedule input text
same_run schedule script ms last words input text is tells runs again end out ran =
    let each : AreOfRun script (entries_told ms) last end out = (of_each schedule input end out ran).each script (entries_told ms) last is (run_told schedule script _ last ms tells) in
    (record script { words = words }, again, (entries_told ms, last, runs, each))

-- ---- how many events words give

events_append : (xs ys : List Word) → events_in (xs ++ ys) ≡ events_in xs + events_in ys
events_append [] ys = omega arith
events_append (word.Events seat times ∷ xs) ys = let h : events_in (xs ++ ys) ≡ events_in xs + events_in ys = events_append xs ys in omega (arith, h)
events_append (word.Finish ∷ xs) ys = events_append xs ys
events_append (word.Drawn ∷ xs) ys = events_append xs ys
events_append (word.Checkpoint ∷ xs) ys = events_append xs ys

events_single : (times seat : ℕ) → events_in (replicate times (one_event seat)) ≡ times
events_single zero seat = refl
events_single (suc times) seat = let h : events_in (replicate times (one_event seat)) ≡ times = events_single times seat in omega (arith, h)

-- each event by itself is as many
events_given : (words : List Word) → AreTimed words → events_in (given_words words) ≡ events_in words
events_given [] timed = refl
events_given (word.Events seat times ∷ words) (some, timed) =
    let a : events_in (replicate times (one_event seat) ++ given_words words) ≡ events_in (replicate times (one_event seat)) + events_in (given_words words) = events_append (replicate times (one_event seat)) (given_words words) in
    let b : events_in (replicate times (one_event seat)) ≡ times = events_single times seat in
    let h : events_in (given_words words) ≡ events_in words = events_given words timed in
    omega (arith, a, b, h)
events_given (word.Checkpoint ∷ words) timed = events_given words timed
events_given (word.Finish ∷ words) timed = absurd timed
events_given (word.Drawn ∷ words) timed = absurd timed

first_there : (n times seat : ℕ) (ys : List Word) → 1 ≤ times → SeatsAreThere n (replicate times (one_event seat) ++ ys) → seat < n
first_there n zero seat ys some a = absurd (omega (arith, some))
first_there n (suc times) seat ys some (less, a) = less

-- and of the same threads
seats_given : (n : ℕ) (words : List Word) → AreTimed words → SeatsAreThere n (given_words words) → SeatsAreThere n words
seats_given n [] timed a = tt
seats_given n (word.Events seat times ∷ words) (some, timed) a = (first_there n times seat (given_words words) some a, seats_given n words timed (seats_behind n (replicate times (one_event seat)) (given_words words) a))
seats_given n (word.Checkpoint ∷ words) timed a = seats_given n words timed a
seats_given n (word.Finish ∷ words) timed a = absurd timed
seats_given n (word.Drawn ∷ words) timed a = absurd timed

-- one moment more gives as many events more as its word
more_events : (ms : List Moment) (m : Moment) → events_in (busy_words (ms ++ m ∷ [])) ≡ events_in (busy_words ms) + events_in (busy_word m)
more_events ms m =
    let words : busy_words (ms ++ m ∷ []) ≡ busy_words ms ++ busy_words (m ∷ []) = flat_map-append busy_word ms (m ∷ []) in
    let one : events_in (busy_words (m ∷ [])) ≡ events_in (busy_word m) = ap events_in (append-nil (busy_word m)) in
    let sum : events_in (busy_words (ms ++ m ∷ [])) ≡ events_in (busy_words ms) + events_in (busy_words (m ∷ [])) = ap events_in words ∙ events_append (busy_words ms) (busy_words (m ∷ [])) in
    omega (arith, one, sum)

-- a moment more, where the events are too many with it
pub moment_past : (old new : RunWords) (ms : List Moment) (m : Moment) → HasWords old ms → new.events ≤ old.events + events_in (busy_word m) → EVENT_LIMIT < new.events → HasWords new (ms ++ m ∷ [])
moment_past old new ms m has most many = record {
  most = omega (arith, more_events ms m, most, has.most);
  all = λ few. absurd (omega (arith, few, many));
}

-- a moment more, and its word
pub moment_more : (old new : RunWords) (ms : List Moment) (m : Moment) → HasWords old ms → given_words new.words.items ≡ given_words old.words.items ++ busy_words (m ∷ []) → (AreTimed old.words.items → AreTimed new.words.items)
    → new.events ≡ old.events + events_in (busy_word m) → new.events ≤ EVENT_LIMIT → HasWords new (ms ++ m ∷ [])
moment_more old new ms m has given timed counted few =
    let words : busy_words (ms ++ m ∷ []) ≡ busy_words ms ++ busy_words (m ∷ []) = flat_map-append busy_word ms (m ∷ []) in
    let before : AreAllWords old ms = has.all (omega (arith, counted, few)) in record {
      most = omega (arith, more_events ms m, counted, has.most);
      all = λ small. record {
        given = given ∙ ap (λ (l : List Word). l ++ busy_words (m ∷ [])) before.given ∙ sym words;
        timed = timed before.timed;
        counted = omega (arith, more_events ms m, counted, before.counted);
        few = few;
      };
    }

-- ---- the whole

-- what was written is read back, and runs so again
pub read_back : (from : Origin) (schedule : Schedule) (input text : List ℕ) (script : Script) (run : RunWords) (ms : List Moment) (last : Stage) → script_of input ≡ Ok script → TellsOn from schedule script ms last → AreAllWords run ms → IsWritten input script.names run.words.items text → is_too_long text ≡ false → IsReadBackOn from schedule script text
read_back from schedule input text script run ms last is tells has written short =
    let words : List Word = run.words.items in
    let (first, begins, told) = tells_first from schedule script ms last tells in
    let seats : SeatsAreThere (length script.lists) (busy_words ms) = moments_there script.lists [] first last ms (run_moments schedule script first ms last told) (kept_first from script first begins) in
    let there : SeatsAreThere (length script.names) words =
    subst (λ n. SeatsAreThere n words) (keeps_limits input script is).a_list_each (seats_given (length script.lists) words has.timed (subst (SeatsAreThere (length script.lists)) (sym has.given) seats)) in
    let same : events_in words ≡ events_in (busy_words ms) = sym (events_given words has.timed) ∙ ap events_in has.given in
    let again = read_again input text script words is written short there has.timed (omega (arith, same, has.counted, has.few)) in
    (ms, last, tells, (words, has.given, again), (record script { words = words }, again, own_run_on from schedule script ms last words tells has.timed has.given))

-- from the root alone it has the text of that run
pub same_text : (schedule : Schedule) (input text : List ℕ) (script : Script) → script_of input ≡ Ok script → IsReadBackOn Root schedule script text → IsReadBack schedule input text
same_text schedule input text script is (ms, last, tells, (words, given, read), (other, again, runs)) =
    let one : other ≡ record script { words = words } = (let z : ◌≡◌ {A = Result Script ScriptFault} (Ok other) (Ok (record script { words = words })) = sym again ∙ read in cc) in
    let own : Runs Given (record script { words = words }) (entries_told ms) last = subst (λ (s : Script). Runs Given s (entries_told ms) last) one runs in
    (script, is, ms, last, tells, (words, given, read), same_run schedule script ms last words input text is tells own read)
