-- The moments that are noted are those of a run.
use Rattle.std.proofs.Common.{◌≡◌, ℕ, zero, suc, ◌≤◌, Bool, true, false, List, [], ◌∷◌, ◌++◌, length, map, replicate, refl, sym, ap, ap₂, ◌∙◌, subst, append_assoc, append-nil, ◌⊎◌, ◌||◌, is_some, inl, inr, Option, arith}
use Rattle.std.proofs.lemmas.Grind.{flat_map-append}
use Rattle.std.specs.List.{range_with_len}
use Rattle.fs_calls.specs.declared.call.Call.{Call}
use Rattle.fs_timeline.specs.declared.entry.Entry.{Entry}
use Rattle.fs_script.specs.declared.script.Script.{Script}
use Rattle.fs_script.specs.declared.script.Word.{Word}
use Rattle.fs_script.specs.declared.script.Word.TheVariants as word
use Rattle.fs_machine.specs.States.{Step}
use Rattle.fs_machine.specs.declared.answers.Stepped.{Stepped}
use Rattle.fs_machine.specs.declared.answers.Stepped.TheVariants.{Idle}
use Rattle.fs_sched.proofs.Asking.{asked}
use Rattle.fs_sched.specs.Runs.{Stage, next_call, has_more, Event, Goes, Starts, Spent, Events, Round, IsOver, ToEnd, Over, More, EndsBy, Does, Words, RunsFrom}
use Rattle.fs_sched.specs.Schedules.{one_event, words_by, goes_on}
use Rattle.fs_sched.specs.declared.schedule.Schedule.{Schedule}
use Rattle.fs_sched.proofs.Staging.{seat_past, call_past}
use Rattle.fs_sched.specs.Moments as answers
use Rattle.fs_sched.specs.Moments.{AnswersEvent, IsMoment, AreMoments, word_of, words_of, AreOfWords, AnswersToEnd, AnswersEnd, TellsFrom}
use Rattle.fs_sched_witness.specs.Moments.{entries_of, entries_told}
use Rattle.fs_sched.specs.Gives.{single_words, given_words, words_before}
use Rattle.fs_sched.specs.code.Stages.{stage_of, IsSeated}
use Rattle.fs_sched.specs.declared.play.Play.{Play}
use Rattle.fs_sched.specs.code.Notes.{Notes, NotesCut, NotesToEnd}
use Rattle.fs_sched_witness.specs.declared.moments.Answer.{Answer}
use Rattle.fs_sched_witness.specs.declared.moments.Answer.TheVariants as answer
use Rattle.fs_sched_witness.specs.declared.moments.Moment.{Moment}
use Rattle.fs_sched_witness.specs.declared.moments.Moment.TheVariants as moment

-- an event that is answered is one
pub event_told : (lists : List (List Call)) (old new : Stage) (seat : ℕ) (a : Answer) → AnswersEvent lists old seat a new → Event lists old seat new
event_told lists old new seat answer.Spent (off, none, e) = Spent off none e
event_told lists old new seat (answer.Begun c) (call, off, is, begins, set) = Starts c call off is begins set
event_told lists old new seat (answer.Stepped st) (c, on, step, kept) = Goes c st on step kept

-- a moment is what its word does
pub moment_does : (lists : List (List Call)) (old new : Stage) (m : Moment) → IsMoment lists old m new → Does lists old (word_of m) (entries_of m) new
moment_does lists old new (moment.Event t) event = ((new, event_told lists old new t.seat t.answer event, refl), refl)
moment_does lists old new (moment.Checkpoint entries) does = does

pub words_told : (lists : List (List Call)) (old new : Stage) (ms : List Moment) → AreMoments lists old ms new → Words lists old (words_of ms) (entries_told ms) new
words_told lists old new [] e = (e, refl)
words_told lists old new (m ∷ ms) (middle, is, rest) = (middle, entries_of m, entries_told ms, moment_does lists old middle m is, words_told lists middle new ms rest, refl)

-- ---- words one after the other

pub words_append : (lists : List (List Call)) (old now new : Stage) (xs ys : List Word) (a b : List Entry) → Words lists old xs a now → Words lists now ys b new → Words lists old (xs ++ ys) (a ++ b) new
words_append lists old now new [] ys a b (e, none) more = subst (λ (l : List Entry). Words lists old ys (l ++ b) new) (sym none) (subst (λ (s : Stage). Words lists s ys b new) e more)
words_append lists old now new (x ∷ xs) ys a b (middle, first, rest, does, after, both) more =
    (middle, first, rest ++ b, does, words_append lists middle now new xs ys rest b after more, ap (λ (l : List Entry). l ++ b) both ∙ append_assoc first rest b)

words_split : (lists : List (List Call)) (old new : Stage) (xs ys : List Word) (told : List Entry) → Words lists old (xs ++ ys) told new → (middle : Stage) × (a b : List Entry) × Words lists old xs a middle × Words lists middle ys b new × (told ≡ a ++ b)
words_split lists old new [] ys told all = (old, [], told, (refl, refl), all, refl)
words_split lists old new (x ∷ xs) ys told (next, first, rest, does, after, both) =
    let (middle, a, b, before, behind, is) = words_split lists next new xs ys rest after in
    (middle, first ++ a, b, (next, first, a, does, before, refl), behind, both ∙ ap (λ (l : List Entry). first ++ l) is ∙ sym (append_assoc first a b))

-- words of one event each are events, and tell no entries
pub events_of : (lists : List (List Call)) (old new : Stage) (seats : List ℕ) (told : List Entry) → Words lists old (map one_event seats) told new → Events lists old seats new × (told ≡ [])
events_of lists old new [] told w = w
events_of lists old new (seat ∷ seats) told (middle, first, rest, ((next, event, same), none), after, both) =
    let (events, no_more) = events_of lists middle new seats rest after in
    ((middle, subst (λ (s : Stage). Event lists old seat s) (sym same) event, events), both ∙ ap₂ (λ (l m : List Entry). l ++ m) none no_more)

map_replicate : (n seat : ℕ) → replicate n (one_event seat) ≡ map one_event (replicate n seat)
map_replicate zero seat = refl
map_replicate (suc n) seat = ap (λ (l : List Word). one_event seat ∷ l) (map_replicate n seat)

-- the events of a word, each by itself, are what it does
one_regrouped : (lists : List (List Call)) (old new : Stage) (w : Word) (told : List Entry) → Words lists old (single_words w) told new → Does lists old w told new
one_regrouped lists old new (word.Events seat times) told all = events_of lists old new (replicate times seat) told (subst (λ (ws : List Word). Words lists old ws told new) (map_replicate times seat) all)
one_regrouped lists old new word.Checkpoint told (middle, first, rest, does, (same, none), both) =
    let e : told ≡ first = both ∙ ap (λ (l : List Entry). first ++ l) none ∙ append-nil first in
    subst (λ (l : List Entry). Does lists old word.Checkpoint l new) (sym e) (subst (λ (s : Stage). Does lists old word.Checkpoint first s) (sym same) does)
one_regrouped lists old new word.Finish told all = all
one_regrouped lists old new word.Drawn told all = all

pub regrouped : (lists : List (List Call)) (old new : Stage) (ws : List Word) (told : List Entry) → Words lists old (given_words ws) told new → Words lists old ws told new
regrouped lists old new [] told all = all
regrouped lists old new (w ∷ ws) told all =
    let (middle, a, b, first, after, both) = words_split lists old new (single_words w) (given_words ws) told all in
    (middle, a, b, one_regrouped lists old middle w a first, regrouped lists middle new ws b after, both)

-- words of one event each stay as they are
pub singles_stay : (seats : List ℕ) → given_words (map one_event seats) ≡ map one_event seats
singles_stay [] = refl
singles_stay (seat ∷ seats) = ap (λ (l : List Word). one_event seat ∷ l) (singles_stay seats)

-- what is told of events are these
pub events_noted : {A : Type 0} (told : A → A → List Moment → Type 0) (lists : List (List Call)) (old new : Stage) (u v : A) (seats : List ℕ) → Notes told lists old u (map one_event seats) new v → Events lists old seats new
events_noted told lists old new u v seats (ms, heard, is, all) = (events_of lists old new seats (entries_told ms) (subst (λ (ws : List Word). Words lists old ws (entries_told ms) new) is (words_told lists old new ms all))).0

pub event_noted : {A : Type 0} (told : A → A → List Moment → Type 0) (lists : List (List Call)) (old new : Stage) (u v : A) (seat : ℕ) → Notes told lists old u (one_event seat ∷ []) new v → Event lists old seat new
event_noted told lists old new u v seat notes =
    let (middle, event, same) = events_noted told lists old new u v (seat ∷ []) notes in
    subst (λ (s : Stage). Event lists old seat s) (sym same) event

pub times_noted : {A : Type 0} (told : A → A → List Moment → Type 0) (lists : List (List Call)) (old new : Stage) (u v : A) (times seat : ℕ) → Notes told lists old u (replicate times (one_event seat)) new v → Events lists old (replicate times seat) new
times_noted told lists old new u v times seat notes = events_noted told lists old new u v (replicate times seat) (subst (λ (ws : List Word). Notes told lists old u ws new v) (map_replicate times seat) notes)

-- ---- a run

pub cut_told : (lists : List (List Call)) (old middle : Stage) (words : List Word) (ms : List Moment) → AreMoments lists old ms middle → AreOfWords lists words ms middle → Words lists old words (entries_told ms) middle
cut_told lists old middle words ms all (rest, is, how) =
    subst (λ (ws : List Word). Words lists old ws (entries_told ms) middle) (sym is) (subst (λ (l : List Entry). Words lists old (words_of ms ++ rest) l middle) (append-nil (entries_told ms)) (words_append lists old middle middle (words_of ms) rest (entries_told ms) [] (words_told lists old middle ms all) (go how)))
  where
    go : (rest ≡ []) ⊎ (IsOver lists middle × Words lists middle rest [] middle) → Words lists middle rest [] middle
    go (inl e) = subst (λ (ws : List Word). Words lists middle ws [] middle) (sym e) (refl, refl)
    go (inr (over, stays)) = stays

-- the same of events of drawn threads
pub cut_noted : {A : Type 0} (told : A → A → List Moment → Type 0) (lists : List (List Call)) (old new : Stage) (u v : A) (seats : List ℕ) → NotesCut told lists old u (map one_event seats) new v → Events lists old seats new
cut_noted told lists old new u v seats (ms, heard, all, cut) = (events_of lists old new seats (entries_told ms) (cut_told lists old new (map one_event seats) ms all cut)).0

-- a round is one, and no entries are told in it
round_of : (lists : List (List Call)) (old new : Stage) (ms : List Moment) → words_of ms ≡ map one_event (range_with_len 0 (length lists)) → AreMoments lists old ms new → Round lists old new × (entries_told ms ≡ [])
round_of lists old new ms seats all = events_of lists old new (range_with_len 0 (length lists)) (entries_told ms) (subst (λ (ws : List Word). Words lists old ws (entries_told ms) new) seats (words_told lists old new ms all))

end_told : (lists : List (List Call)) (old last : Stage) (ms : List Moment) → AnswersToEnd lists old ms last → ToEnd lists old last × (entries_told ms ≡ [])
end_told lists old last ms (answers.Over over) = (Over over, refl)
end_told lists old last ms (answers.More {middle = middle} first more left seats all end) =
    let (round, none) = round_of lists old middle first seats all in
    let (ends, no_more) = end_told lists middle last more end in
    (More left round ends, flat_map-append entries_of first more ∙ ap₂ (λ (l m : List Entry). l ++ m) none no_more)

-- rounds to the end that are told are such
pub end_noted : {A : Type 0} (told : A → A → List Moment → Type 0) (lists : List (List Call)) (old last : Stage) (u v : A) → NotesToEnd told lists old u last v → ToEnd lists old last
end_noted told lists old last u v (ms, heard, end) = (end_told lists old last ms end).0

ends_told : (b : Bool) (lists : List (List Call)) (old last : Stage) (ms : List Moment) → AnswersEnd b lists old ms last → EndsBy b lists old last × (entries_told ms ≡ [])
ends_told true lists old last ms end = end_told lists old last ms end
ends_told false lists old last ms (none, e) = (e, ap entries_told none)

-- moments that are told as those of a run are a run, with the pieces that end at them
pub run_told : (schedule : Schedule) (script : Script) (old last : Stage) (ms : List Moment) → TellsFrom schedule script old ms last → RunsFrom schedule script old (entries_told ms) last
run_told schedule script old last ms (middle, first, more, e, all, cut, end) =
    let words : List Word = words_by schedule script.words script.lists in
    let given : Words script.lists old (given_words words) (entries_told first) middle = cut_told script.lists old middle (words_before schedule script.words script.lists) first all cut in
    let (ends, none) = ends_told (goes_on schedule script.words) script.lists middle last more end in
    let told : entries_told ms ≡ entries_told first = ap entries_told e ∙ flat_map-append entries_of first more ∙ ap (λ (l : List Entry). entries_told first ++ l) none ∙ append-nil (entries_told first) in
    (middle, subst (λ (l : List Entry). Words script.lists old words l middle) (sym told) (regrouped script.lists old middle words (entries_told first) given), ends)

-- a step that does not answer Idle is one of a call on the seat
pub stepped_told : (lists : List (List Call)) (old new : Stage) (on seat : ℕ) (stepped : Stepped) → Step old.state on stepped new.state → on ≡ seat → new.begun ≡ old.begun → (stepped ≡ Idle → ⊥) → AnswersEvent lists old seat (answer.Stepped stepped) new
stepped_told lists old new on seat stepped step e kept other =
    let st = subst (λ (s : ℕ). Step old.state s stepped new.state) e step in
    let c = asked old.state seat stepped new.state st other in
    (c.0, c.1, st, kept)

-- the event of a thread that is not there is spent
pub past_spent : (lists : List (List Call)) (play : Play) (seat : ℕ) → IsSeated play (length lists) → length lists ≤ seat → AnswersEvent lists (stage_of play) seat answer.Spent (stage_of play)
past_spent lists play seat seated past = (seat_past play.core.seats seat (let e : length play.core.seats ≡ length lists = seated.seats in omega (arith, e, past)), call_past lists (stage_of play) seat past, refl)

-- a thread that is answered something else had something to do
pub busy_more : (lists : List (List Call)) (old new : Stage) (seat : ℕ) (a : Answer) → AnswersEvent lists old seat a new → (a ≡ answer.Spent → ⊥) → has_more lists old seat ≡ true
busy_more lists old new seat answer.Spent event other = absurd (other refl)
busy_more lists old new seat (answer.Begun c) (call, off, is, begins, set) other = ap₂ (λ (a : Option ℕ) (b : Option Call). is_some a || is_some b) off is
busy_more lists old new seat (answer.Stepped st) (c, on, step, kept) other = ap (λ (o : Option ℕ). is_some o || is_some (next_call lists old seat)) on

-- one that is answered that it is spent had nothing
pub spent_none : (lists : List (List Call)) (old new : Stage) (seat : ℕ) (a : Answer) → AnswersEvent lists old seat a new → a ≡ answer.Spent → (has_more lists old seat ≡ false) × (new ≡ old)
spent_none lists old new seat a event is =
    let (off, none, e) = subst (λ (x : Answer). AnswersEvent lists old seat x new) is event in
    (ap₂ (λ (a : Option ℕ) (b : Option Call). is_some a || is_some b) off none, e)
