-- Moments that are told one after the other, as loops do them.
use Rattle.std.proofs.Common.{◌≡◌, ◌≢◌, Bool, true, false, ℕ, zero, suc, ◌+◌, ◌-◌, ◌<◌, ◌≤◌, arith, List, [], ◌∷◌, ◌++◌, length, map, take, get_or, replicate, refl, sym, ap, ap₂, ◌∙◌, subst, append_assoc, append-nil, inl, inr}
use Rattle.std.proofs.lemmas.List.{map-append, take_more}
use Rattle.std.proofs.lemmas.Grind.{flat_map-append}
use Rattle.std.specs.List.{range_with_len}
use Rattle.fs_calls.specs.declared.call.Call.{Call}
use Rattle.fs_script.specs.declared.script.Word.{Word}
use Rattle.fs_sched.specs.Runs.{Stage, Words, IsOver, IsUnfinished}
use Rattle.fs_sched.specs.Schedules.{one_event, goes_on}
use Rattle.fs_sched.specs.declared.schedule.Schedule.{Schedule}
use Rattle.fs_script.specs.declared.script.Script.{Script}
use Rattle.fs_sched.specs.code.Stages.{AreOver}
use Rattle.fs_sched_witness.specs.declared.moments.Moment.{Moment}
use Rattle.fs_sched_witness.specs.declared.moments.Answer.{Answer}
use Rattle.fs_sched_witness.specs.declared.moments.Answer.TheVariants.{Spent}
use Rattle.fs_sched.specs.Moments.{AnswersEvent, IsMoment, AreMoments, word_of, words_of, AnswersToEnd, AnswersEnd, Over, More}
use Rattle.fs_sched_witness.specs.Moments.{event_of, spent_of, Hears}
use Rattle.fs_sched.specs.Gives.{single_words, given_words, words_before}
use Rattle.fs_sched.specs.code.Notes.{Happens, Notes, NotesCut, NotesToEnd, NotesRun}
use Rattle.fs_sched.proofs.Staging.{one_less, nothing_more}
use Rattle.fs_sched.proofs.OverLemmas.{range_from}

-- ---- what is told

pub hears_none : {A : Type 0} (told : A → A → List Moment → Type 0) (w : A) → Hears told w [] w
hears_none told w first before t = subst (told first w) (sym (append-nil before)) t

pub hears_append : {A : Type 0} (told : A → A → List Moment → Type 0) (a b c : A) (ms us : List Moment) → Hears told a ms b → Hears told b us c → Hears told a (ms ++ us) c
hears_append told a b c ms us f g first before t = subst (told first c) (append_assoc before ms us) (g first (before ++ ms) (f first before t))

-- ---- moments one after the other

pub moments_append : (lists : List (List Call)) (old middle new : Stage) (ms us : List Moment) → AreMoments lists old ms middle → AreMoments lists middle us new → AreMoments lists old (ms ++ us) new
moments_append lists old middle new [] us a b = subst (λ (s : Stage). AreMoments lists s us new) a b
moments_append lists old middle new (m ∷ ms) us (now, moment, rest) b = (now, moment, moments_append lists now middle new ms us rest b)

pub notes_none : {A : Type 0} (told : A → A → List Moment → Type 0) (lists : List (List Call)) (s : Stage) (w : A) → Notes told lists s w [] s w
notes_none told lists s w = ([], hears_none told w, refl, refl)

pub notes_append : {A : Type 0} (told : A → A → List Moment → Type 0) (lists : List (List Call)) (old now new : Stage) (u v w : A) (xs ys : List Word) → Notes told lists old u xs now v → Notes told lists now v ys new w → Notes told lists old u (xs ++ ys) new w
notes_append told lists old now new u v w xs ys (ms, a, b, c) (us, d, e, f) = (
  ms ++ us,
  hears_append told u v w ms us a d,
  map-append word_of ms us ∙ ap₂ (λ (l m : List Word). l ++ m) b e,
  moments_append lists old now new ms us c f,
)

-- one event is told
pub notes_one : {A : Type 0} (told : A → A → List Moment → Type 0) (lists : List (List Call)) (old new : Stage) (u v : A) (seat : ℕ) (answer : Answer) → AnswersEvent lists old seat answer new → Hears told u (event_of seat answer ∷ []) v → Notes told lists old u (one_event seat ∷ []) new v
notes_one told lists old new u v seat answer event hears = (event_of seat answer ∷ [], hears, refl, (new, event, refl))

-- ---- threads that have nothing to do

pub spents_words : (seats : List ℕ) → words_of (map spent_of seats) ≡ map one_event seats
spents_words [] = refl
spents_words (seat ∷ seats) = ap (λ (l : List Word). one_event seat ∷ l) (spents_words seats)

spents_in : (lists : List (List Call)) (s : Stage) (a n from : ℕ) → a + n ≤ from → AreOver lists s from → AreMoments lists s (map spent_of (range_with_len a n)) s
spents_in lists s a zero from h over = refl
spents_in lists s a (suc n) from h over =
    let none = nothing_more (s.state.on_seat a) _ (over a (omega arith)) in
    (s, (none.0, none.1, refl), spents_in lists s (a + 1) n from (omega arith) over)

-- the events of threads that are over, at the beginning of a round
pub notes_over : {A : Type 0} (told : A → A → List Moment → Type 0) (lists : List (List Call)) (s : Stage) (u v : A) (from : ℕ) → AreOver lists s from → Hears told u (map spent_of (range_with_len 0 from)) v → Notes told lists s u (map one_event (range_with_len 0 from)) s v
notes_over told lists s u v from over hears = (map spent_of (range_with_len 0 from), hears, spents_words (range_with_len 0 from), spents_in lists s 0 from from (omega arith) over)

times_words : (times seat : ℕ) → words_of (replicate times (spent_of seat)) ≡ replicate times (one_event seat)
times_words zero seat = refl
times_words (suc n) seat = ap (λ (l : List Word). one_event seat ∷ l) (times_words n seat)

times_in : (lists : List (List Call)) (s : Stage) (times seat : ℕ) → IsMoment lists s (spent_of seat) s → AreMoments lists s (replicate times (spent_of seat)) s
times_in lists s zero seat is = refl
times_in lists s (suc n) seat is = (s, is, times_in lists s n seat is)

-- so many of one that is not there
pub notes_times : {A : Type 0} (told : A → A → List Moment → Type 0) (lists : List (List Call)) (s : Stage) (u v : A) (times seat : ℕ) → IsMoment lists s (spent_of seat) s → Hears told u (replicate times (spent_of seat)) v → Notes told lists s u (replicate times (one_event seat)) s v
notes_times told lists s u v times seat is hears = (replicate times (spent_of seat), hears, times_words times seat, times_in lists s times seat is)

-- ---- what is told and what is left is all

abbrev pub NotesOf : {A : Type 0} → (A → A → List Moment → Type 0) → List (List Call) → Stage → A → List Word → Stage → A → List Word → Type 0
NotesOf told lists old u all now v rest = (done : List Word) × Notes told lists old u done now v × (all ≡ done ++ rest)

pub notes_start : {A : Type 0} (told : A → A → List Moment → Type 0) (lists : List (List Call)) (s : Stage) (w : A) (all rest : List Word) → all ≡ rest → NotesOf told lists s w all s w rest
notes_start told lists s w all rest e = ([], notes_none told lists s w, e)

pub notes_more : {A : Type 0} (told : A → A → List Moment → Type 0) (lists : List (List Call)) (old now new : Stage) (u v w : A) (all rest more words : List Word) → rest ≡ words ++ more → NotesOf told lists old u all now v rest → Notes told lists now v words new w → NotesOf told lists old u all new w more
notes_more told lists old now new u v w all rest more words e (done, notes, is) more_notes = (
  done ++ words,
  notes_append told lists old now new u v w done words notes more_notes,
  is ∙ ap (λ (r : List Word). done ++ r) e ∙ sym (append_assoc done words more),
)

pub notes_end : {A : Type 0} (told : A → A → List Moment → Type 0) (lists : List (List Call)) (old now : Stage) (u v : A) (all rest : List Word) → rest ≡ [] → NotesOf told lists old u all now v rest → Notes told lists old u all now v
notes_end told lists old now u v all rest e (done, notes, is) = subst (λ (xs : List Word). Notes told lists old u xs now v) (sym (is ∙ ap (λ (r : List Word). done ++ r) e ∙ append-nil done)) notes

-- whoever is told of progress keeps what was told
pub notes_kept : {A : Type 0} (told : A → A → List Moment → Type 0) (lists : List (List Call)) (old now : Stage) (u v w : A) (all rest : List Word) → ((first : A) (ms : List Moment) → told first v ms → told first w ms) → NotesOf told lists old u all now v rest → NotesOf told lists old u all now w rest
notes_kept told lists old now u v w all rest kept (done, (ms, a, b, c), is) = (done, (ms, λ first before t. kept first _ (a first before t), b, c), is)

-- what is left of a round, of which some threads are over
pub notes_from : {A : Type 0} (told : A → A → List Moment → Type 0) (lists : List (List Call)) (s : Stage) (u v : A) (from n : ℕ) → from ≤ n → AreOver lists s from → Hears told u (map spent_of (range_with_len 0 from)) v
    → NotesOf told lists s u (map one_event (range_with_len 0 n)) s v (map one_event (range_with_len from (n - from)))
notes_from told lists s u v from n h over hears = (
  map one_event (range_with_len 0 from),
  notes_over told lists s u v from over hears,
  ap (map one_event) (range_from from n h) ∙ map-append one_event (range_with_len 0 from) (range_with_len from (n - from)),
)

pub times_less : (times i : ℕ) (w : Word) → i < times → replicate (times - i) w ≡ w ∷ replicate (times - (i + 1)) w
times_less times i w less = ap (λ (k : ℕ). replicate k w) (one_less times i less)

-- ---- words that may be cut off

pub cut_whole : {A : Type 0} (told : A → A → List Moment → Type 0) (lists : List (List Call)) (old new : Stage) (u v : A) (words : List Word) → Notes told lists old u words new v → NotesCut told lists old u words new v
cut_whole told lists old new u v words (ms, a, b, c) = (ms, a, c, ([], sym b ∙ sym (append-nil (words_of ms)), inl refl))

pub cut_over : {A : Type 0} (told : A → A → List Moment → Type 0) (lists : List (List Call)) (old now : Stage) (u v : A) (all rest : List Word) → NotesOf told lists old u all now v rest → IsOver lists now → Words lists now rest [] now → NotesCut told lists old u all now v
cut_over told lists old now u v all rest (done, (ms, a, b, c), is) over stays = (ms, a, c, (rest, is ∙ ap (λ (l : List Word). l ++ rest) (sym b), inr (over, stays)))

-- ---- rounds to the end

-- what leads to the end from here leads there from the start
abbrev pub NotesToEndOf : {A : Type 0} → (A → A → List Moment → Type 0) → List (List Call) → Stage → A → Stage → A → Type 0
NotesToEndOf told lists old u now v = (ms : List Moment) × Hears told u ms v × ((more : List Moment) (last : Stage) → AnswersToEnd lists now more last → AnswersToEnd lists old (ms ++ more) last)

pub rounds_start : {A : Type 0} (told : A → A → List Moment → Type 0) (lists : List (List Call)) (s : Stage) (w : A) → NotesToEndOf told lists s w s w
rounds_start told lists s w = ([], hears_none told w, λ more last end. end)

pub rounds_more : {A : Type 0} (told : A → A → List Moment → Type 0) (lists : List (List Call)) (old now new : Stage) (u v w : A) → NotesToEndOf told lists old u now v → IsUnfinished lists now → Notes told lists now v (map one_event (range_with_len 0 (length lists))) new w → NotesToEndOf told lists old u new w
rounds_more told lists old now new u v w (ms, a, lead) more (us, d, e, f) = (
  ms ++ us,
  hears_append told u v w ms us a d,
  λ rest last end. subst (λ (l : List Moment). AnswersToEnd lists old l last) (sym (append_assoc ms us rest)) (lead (us ++ rest) last (More us rest more e f end)),
)

pub rounds_kept : {A : Type 0} (told : A → A → List Moment → Type 0) (lists : List (List Call)) (old now : Stage) (u v w : A) → ((first : A) (ms : List Moment) → told first v ms → told first w ms) → NotesToEndOf told lists old u now v → NotesToEndOf told lists old u now w
rounds_kept told lists old now u v w kept (ms, a, lead) = (ms, λ first before t. kept first _ (a first before t), lead)

pub rounds_end : {A : Type 0} (told : A → A → List Moment → Type 0) (lists : List (List Call)) (old now : Stage) (u v : A) → NotesToEndOf told lists old u now v → IsOver lists now → NotesToEnd told lists old u now v
rounds_end told lists old now u v (ms, a, lead) over = (ms, a, subst (λ (l : List Moment). AnswersToEnd lists old l now) (append-nil ms) (lead [] now (Over over)))

-- and what follows
pub rounds_after : {A : Type 0} (told : A → A → List Moment → Type 0) (lists : List (List Call)) (old now last : Stage) (u v w : A) → NotesToEndOf told lists old u now v → NotesToEnd told lists now v last w → NotesToEnd told lists old u last w
rounds_after told lists old now last u v w (ms, a, lead) (us, d, end) = (ms ++ us, hears_append told u v w ms us a d, lead us last end)

-- ---- one more that is told

replicate_more : {B : Type 0} (n : ℕ) (x : B) → replicate n x ++ x ∷ [] ≡ replicate (n + 1) x
replicate_more zero x = refl
replicate_more {B = B} (suc n) x = let e : suc (n + 1) ≡ suc n + 1 = omega arith in ap (λ (l : List B). x ∷ l) (replicate_more n x) ∙ ap (λ (k : ℕ). replicate k x) e

pub times_on : {A : Type 0} (told : A → A → List Moment → Type 0) (u v w : A) (n : ℕ) (m : Moment) → Hears told u (replicate n m) v → Hears told v (m ∷ []) w → Hears told u (replicate (n + 1) m) w
times_on told u v w n m a b = subst (λ (ms : List Moment). Hears told u ms w) (replicate_more n m) (hears_append told u v w (replicate n m) (m ∷ []) a b)

pub times_all : {A : Type 0} (told : A → A → List Moment → Type 0) (u v : A) (n times : ℕ) (m : Moment) → n ≡ times → Hears told u (replicate n m) v → Hears told u (replicate times m) v
times_all told u v n times m e hears = subst (λ (k : ℕ). Hears told u (replicate k m) v) e hears

range_on : (a n : ℕ) → range_with_len a n ++ (a + n) ∷ [] ≡ range_with_len a (n + 1)
range_on a zero = let e : a + 0 ≡ a = omega arith in ap (λ (k : ℕ). k ∷ []) e
range_on a (suc n) =
    let e : a + suc n ≡ (a + 1) + n = omega arith in
    let z : suc (n + 1) ≡ suc n + 1 = omega arith in
    ap (λ (l : List ℕ). a ∷ l) (ap (λ (k : ℕ). range_with_len (a + 1) n ++ k ∷ []) e ∙ range_on (a + 1) n) ∙ ap (range_with_len a) z

pub range_one_more : (n : ℕ) → range_with_len 0 n ++ n ∷ [] ≡ range_with_len 0 (n + 1)
range_one_more n = let e : 0 + n ≡ n = omega arith in ap (λ (k : ℕ). range_with_len 0 n ++ k ∷ []) (sym e) ∙ range_on 0 n

pub over_on : {A : Type 0} (told : A → A → List Moment → Type 0) (u v w : A) (n : ℕ) → Hears told u (map spent_of (range_with_len 0 n)) v → Hears told v (spent_of n ∷ []) w → Hears told u (map spent_of (range_with_len 0 (n + 1))) w
over_on told u v w n a b =
    subst (λ (ms : List Moment). Hears told u ms w) (sym (map-append spent_of (range_with_len 0 n) (n ∷ [])) ∙ ap (map spent_of) (range_one_more n)) (hears_append told u v w (map spent_of (range_with_len 0 n)) (spent_of n ∷ []) a b)

pub over_all : {A : Type 0} (told : A → A → List Moment → Type 0) (u v : A) (n first : ℕ) → n ≡ first → Hears told u (map spent_of (range_with_len 0 n)) v → Hears told u (map spent_of (range_with_len 0 first)) v
over_all told u v n first e hears = subst (λ (k : ℕ). Hears told u (map spent_of (range_with_len 0 k)) v) e hears

pub times_none : (times i : ℕ) (w : Word) → times ≤ i → replicate (times - i) w ≡ []
times_none times i w h = let e : times - i ≡ 0 = omega (arith, h) in ap (λ (k : ℕ). replicate k w) e

-- an event of a thread that had something to do is told
pub notes_busy : {A : Type 0} (told : A → A → List Moment → Type 0) (lists : List (List Call)) (old new : Stage) (u v : A) (seat : ℕ) (more : Bool) → more ≡ true → Happens told lists old u 0 seat more new v → Notes told lists old u (one_event seat ∷ []) new v
notes_busy told lists old new u v seat more e happens =
    let (answer, other, event, hears) = subst (λ (b : Bool). Happens told lists old u 0 seat b new v) e happens in
    notes_one told lists old new u v seat answer event hears

-- and one of a thread that had nothing
pub notes_spent : {A : Type 0} (told : A → A → List Moment → Type 0) (lists : List (List Call)) (old new : Stage) (u v w : A) (seat : ℕ) (more : Bool) → more ≡ false → Happens told lists old u 0 seat more new v → Hears told v (event_of seat Spent ∷ []) w → Notes told lists old u (one_event seat ∷ []) new w
notes_spent told lists old new u v w seat more e happens hears =
    let (event, same) = subst (λ (b : Bool). Happens told lists old u 0 seat b new v) e happens in
    notes_one told lists old new u w seat Spent event (subst (λ (x : _). Hears told x (event_of seat Spent ∷ []) w) same hears)

-- a round of which only the last thread had anything to do
pub notes_alone : {A : Type 0} (told : A → A → List Moment → Type 0) (lists : List (List Call)) (old new : Stage) (u v : A) (last : ℕ) (more : Bool) → more ≡ true → length lists ≡ last + 1 → AreOver lists old last → Happens told lists old u last last more new v → Notes told lists old u (map one_event (range_with_len 0 (length lists))) new v
notes_alone told lists old new u v last more is e over happens =
    let (answer, other, event, hears) = subst (λ (b : Bool). Happens told lists old u last last b new v) is happens in (
      map spent_of (range_with_len 0 last) ++ event_of last answer ∷ [],
      hears,
      map-append word_of (map spent_of (range_with_len 0 last)) (event_of last answer ∷ []) ∙ ap (λ (ws : List Word). ws ++ one_event last ∷ []) (spents_words (range_with_len 0 last)) ∙ sym (map-append one_event (range_with_len 0 last) (last ∷ [])) ∙ ap (map one_event) (range_one_more last ∙ ap (range_with_len 0) (sym e)),
      moments_append lists old old new (map spent_of (range_with_len 0 last)) (event_of last answer ∷ []) (spents_in lists old 0 last last (omega arith) over) (new, event, refl),
    )

-- what happens to a thread with something to do, and to one with nothing
pub happens_busy : {A : Type 0} (told : A → A → List Moment → Type 0) (lists : List (List Call)) (old new : Stage) (u v : A) (before seat : ℕ) (more : Bool) → more ≡ true → Happens told lists old u before seat more new v → (answer : Answer) × (answer ≢ Spent) × AnswersEvent lists old seat answer new
happens_busy told lists old new u v before seat more is happens = let (answer, other, event, hears) = subst (λ (b : Bool). Happens told lists old u before seat b new v) is happens in (answer, other, event)

pub happens_not : {A : Type 0} (told : A → A → List Moment → Type 0) (lists : List (List Call)) (old new : Stage) (u v : A) (before seat : ℕ) (more : Bool) → more ≡ false → Happens told lists old u before seat more new v → AnswersEvent lists old seat Spent new × (v ≡ u)
happens_not told lists old new u v before seat more is happens = subst (λ (b : Bool). Happens told lists old u before seat b new v) is happens

-- the words so far, with the next one
given_more : (words : List Word) (i : ℕ) (d : Word) → i < length words → given_words (take i words) ++ single_words (get_or words i d) ≡ given_words (take (i + 1) words)
given_more words i d less =
    ap (λ (l : List Word). given_words (take i words) ++ l) (sym (append-nil (single_words (get_or words i d))))
    ∙ sym (flat_map-append single_words (take i words) (get_or words i d ∷ []))
    ∙ ap given_words (sym (take_more words i d less))

pub notes_word : {A : Type 0} (told : A → A → List Moment → Type 0) (lists : List (List Call)) (old now new : Stage) (u v w x : A) (words : List Word) (i : ℕ) (d : Word) → i < length words → Notes told lists old u (given_words (take i words)) now v → Notes told lists now v (single_words (get_or words i d)) new w
    → ((first : A) (ms : List Moment) → told first w ms → told first x ms) → Notes told lists old u (given_words (take (i + 1) words)) new x
notes_word told lists old now new u v w x words i d less before notes kept =
    let (ms, heard, is, all) = subst (λ (l : List Word). Notes told lists old u l new w) (given_more words i d less) (notes_append told lists old now new u v w (given_words (take i words)) (single_words (get_or words i d)) before notes) in
    (ms, λ first before t. kept first _ (heard first before t), is, all)

-- ---- a run

pub run_on : {A : Type 0} (told : A → A → List Moment → Type 0) (schedule : Schedule) (script : Script) (old now last : Stage) (u v w : A) → goes_on schedule script.words ≡ true → NotesCut told script.lists old u (words_before schedule script.words script.lists) now v → NotesToEnd told script.lists now v last w → NotesRun told schedule script old u last w
run_on told schedule script old now last u v w goes (ms, a, all, cut) (us, d, end) = (
  ms ++ us,
  hears_append told u v w ms us a d,
  (now, ms, us, refl, all, cut, subst (λ (b : Bool). AnswersEnd b script.lists now us last) (sym goes) end),
)

pub run_cut : {A : Type 0} (told : A → A → List Moment → Type 0) (schedule : Schedule) (script : Script) (old now : Stage) (u v : A) → goes_on schedule script.words ≡ false → NotesCut told script.lists old u (words_before schedule script.words script.lists) now v → NotesRun told schedule script old u now v
run_cut told schedule script old now u v goes (ms, a, all, cut) = (ms, a, (now, ms, [], sym (append-nil ms), all, cut, subst (λ (b : Bool). AnswersEnd b script.lists now [] now) (sym goes) (refl, refl)))
