-- What the lines before the schedule leave, and what those behind it change.
use Rattle.std.proofs.Common.{◌≡◌, ℕ, ◌+◌, Bool, true, false, cond, not, List, [], ◌∷◌, ◌++◌, length, Option, Some, None, Result, Ok, Err, refl, sym, ap, subst, ◌∙◌, codes, position, take, drop}
use Rattle.std.specs.Prelude.{◌==◌, ◌&&◌, nat_le, nat_lt}
use Rattle.std.specs.List.{list_any}
use Rattle.std.specs.Str.{bytes_eq}
use Rattle.std.proofs.lemmas.Bool.{cond-true, cond-false}
use Rattle.fs_calls.specs.declared.call.Call.{Call}
use Rattle.fs_words.specs.Lines.{is_passed_over}
use Rattle.fs_words.specs.Words as words
use Rattle.fs_words.specs.Words.{number_of}
use Rattle.fs_words.specs.Reading.{◌>>=◌, words_of, fault_at, at_line}
use Rattle.fs_words.specs.declared.fault.ScriptFault.{ScriptFault}
use Rattle.fs_words.specs.declared.fault.FaultKind.{FaultKind}
use Rattle.fs_words.specs.declared.fault.FaultKind.TheVariants as kind
use Rattle.fs_text.specs.Calls.{call_of}
use Rattle.fs_script.specs.Limits.{call_limit, calls_in, events_in}
use Rattle.fs_script.specs.Script.{is_thread, is_star, seat_named, with_call, with_thread, new_thread, thread_line, new_call, call_line, block_line, with_word, new_events, events_word, timed_word, has_finish, schedule_word, schedule_line, schedule_from, blocks_from}
use Rattle.fs_script.specs.declared.limits.TheConstants.{THREAD_LIMIT, EVENT_LIMIT}
use Rattle.fs_script.specs.declared.script.Script.{Script}
use Rattle.fs_script.specs.declared.script.Word.{Word}
use Rattle.fs_script.specs.declared.script.Word.TheVariants.{Events, Finish, Checkpoint, Drawn}
use Rattle.fs_trace.specs.code.WordTexts.{is_schedule}
use Rattle.fs_trace.proofs.Naming.{AreNames, names_more}

-- ---- answers

-- what is given, if it is a script, is such a one
record Holds {F : Type 0} (P : Script → Type 0) (r : Result Script F) : Type 0 where
  ok : (s : Script) → r ≡ Ok s → P s

fault_holds : {F : Type 0} (P : Script → Type 0) (f : F) → Holds P (Err f)
fault_holds {F = F} P f = record { ok = λ s e. absurd (let no_ok : ◌≡◌ {A = Result Script F} (Err f) (Ok s) = e in cc) }

ok_holds : {F : Type 0} (P : Script → Type 0) (s : Script) → P s → Holds {F = F} P (Ok s)
ok_holds {F = F} P s k = record { ok = λ t e. subst P (let same : ◌≡◌ {A = Result Script F} (Ok s) (Ok t) = e in let is : s ≡ t = cc in is) k }

else_holds : {F : Type 0} (P : Script → Type 0) (b : Bool) (f : F) (r : Result Script F) → (b ≡ false → Holds P r) → Holds P (cond b (Err f) r)
else_holds P true f r k = fault_holds P f
else_holds P false f r k = k refl

either_holds : {F : Type 0} (P : Script → Type 0) (b : Bool) (r q : Result Script F) → Holds P r → Holds P q → Holds P (cond b r q)
either_holds P true r q k l = k
either_holds P false r q k l = l

each_holds : {A F : Type 0} (P : Script → Type 0) (r : Result A F) (f : A → Result Script F) → ((x : A) → Holds P (f x)) → Holds P (r >>= f)
each_holds P (Ok x) f k = k x
each_holds P (Err e) f k = fault_holds P e

then_holds : {F : Type 0} (P Q : Script → Type 0) (r : Result Script F) (f : Script → Result Script F) → Holds P r → ((s : Script) → P s → Holds Q (f s)) → Holds Q (r >>= f)
then_holds P Q (Ok s) f h k = k s (h.ok s refl)
then_holds P Q (Err e) f h k = fault_holds Q e

line_holds : (P : Script → Type 0) (n : ℕ) (r : Result Script FaultKind) → Holds P r → Holds P (at_line n r)
line_holds P n (Ok s) h = ok_holds P s (h.ok s refl)
line_holds P n (Err k) h = fault_holds P (fault_at n k)

-- ---- the lines before the schedule

-- a script before its schedule: each name stands once, and there are no words yet
pub record IsBegun (s : Script) : Type 0 where
  pub names : AreNames s.names
  pub none : s.words ≡ []

is_true : (b : Bool) → not b ≡ false → b ≡ true
is_true true e = refl
is_true false e = absurd (cc)

thread_begun : (s : Script) (name : words.Word) → IsBegun s → Holds IsBegun (new_thread s name)
thread_begun s name h = else_holds IsBegun (not (is_thread name)) _ _ (λ is. else_holds IsBegun (list_any (bytes_eq name) s.names) _ _ (λ new. else_holds IsBegun (nat_le THREAD_LIMIT (length s.names)) _ _
    (λ few. ok_holds IsBegun (with_thread s name) (record { names = names_more s.names name h.names (is_true _ is) new; none = h.none }))))

thread_line_begun : (s : Script) (ws : List words.Word) → IsBegun s → Holds IsBegun (thread_line s ws)
thread_line_begun s [] h = fault_holds IsBegun kind.BadLine
thread_line_begun s (name ∷ []) h = thread_begun s name h
thread_line_begun s (name ∷ next ∷ more) h = fault_holds IsBegun kind.BadLine

call_begun : (s : Script) (c : Call) → IsBegun s → Holds IsBegun (new_call s c)
call_begun s c h = else_holds IsBegun (nat_le (call_limit s.limits) (calls_in s.lists)) _ _ (λ few. ok_holds IsBegun (record s { lists = with_call c s.lists }) (record { names = h.names; none = h.none }))

block_begun : (s : Script) (ws : List words.Word) → IsBegun s → Holds IsBegun (block_line s ws)
unfolding block_line
block_begun s [] h = fault_holds IsBegun kind.BadLine
block_begun s (first ∷ more) h = either_holds IsBegun (bytes_eq first (codes "thread")) (thread_line s more) (call_line s (first ∷ more)) (thread_line_begun s more h)
    (else_holds IsBegun (length s.lists == 0) _ _ (λ some. each_holds IsBegun (call_of s.limits (first ∷ more)) (new_call s) (λ c. call_begun s c h)))

line_begun : (n : ℕ) (s : Script) (line : List ℕ) → IsBegun s → Holds IsBegun (at_line n (words_of line >>= block_line s))
line_begun n s line h = line_holds IsBegun n _ (each_holds IsBegun (words_of line) (block_line s) (λ ws. block_begun s ws h))

-- ---- the lines of the schedule

-- a script but for its words
abbrev pub HasOtherWords : Script → Script → Type 0
HasOtherWords s t = (ws : List Word) × (t ≡ record s { words = ws })

reworded : (s : Script) (word : Word) → Holds {F = FaultKind} (HasOtherWords s) (Ok (with_word s word))
reworded s word = ok_holds (HasOtherWords s) (with_word s word) (s.words ++ word ∷ [], refl)

events_reworded : (s : Script) (seat times : Option ℕ) → Holds (HasOtherWords s) (events_word s seat times)
events_reworded s None times = fault_holds (HasOtherWords s) kind.BadWord
events_reworded s (Some seat) None = fault_holds (HasOtherWords s) kind.BadWord
events_reworded s (Some seat) (Some n) =
    either_holds (HasOtherWords s) (nat_le 1 n && nat_le n EVENT_LIMIT) (new_events s seat n) (Err kind.BadWord) (else_holds (HasOtherWords s) (nat_lt EVENT_LIMIT (events_in s.words + n)) _ _ (λ few. reworded s (Events seat n))) (fault_holds (HasOtherWords s) kind.BadWord)

timed_reworded : (s : Script) (word : words.Word) (star : Option ℕ) → Holds (HasOtherWords s) (timed_word s word star)
timed_reworded s word None = events_reworded s (seat_named s.names word) (Some 1)
timed_reworded s word (Some at) = events_reworded s (seat_named s.names (take at word)) (number_of (drop (at + 1) word))

word_reworded : (s : Script) (word : words.Word) → Holds (HasOtherWords s) (schedule_word s word)
unfolding schedule_word
word_reworded s word = else_holds (HasOtherWords s) (has_finish s.words) _ _ (λ unended.
    either_holds (HasOtherWords s) (bytes_eq word (codes "finish")) (Ok (with_word s Finish)) _ (reworded s Finish)
    (either_holds (HasOtherWords s) (bytes_eq word (codes "!checkpoint")) (Ok (with_word s Checkpoint)) _ (reworded s Checkpoint)
    (either_holds (HasOtherWords s) (bytes_eq word (codes "!drawn")) (Ok (with_word s Drawn)) (timed_word s word (position is_star word)) (reworded s Drawn) (timed_reworded s word (position is_star word)))))

-- other words twice are other words
reworded_twice : {F : Type 0} (s t : Script) (r : Result Script F) → HasOtherWords s t → Holds (HasOtherWords t) r → Holds (HasOtherWords s) r
reworded_twice s t r (ws, e) h = record { ok = λ u is. let (vs, f) = h.ok u is in (vs, f ∙ ap (λ (x : Script). record x { words = vs }) e) }

line_reworded : (s : Script) (ws : List words.Word) → Holds (HasOtherWords s) (schedule_line s ws)
line_reworded s [] = ok_holds (HasOtherWords s) s (s.words, refl)
line_reworded s (word ∷ more) = then_holds (HasOtherWords s) (HasOtherWords s) (schedule_word s word) (λ t. schedule_line t more) (word_reworded s word) (λ t h. reworded_twice s t (schedule_line t more) h (line_reworded t more))

schedule_reworded : (n : ℕ) (s : Script) (lines : List (List ℕ)) → Holds (HasOtherWords s) (schedule_from n s lines)
unfolding schedule_from
schedule_reworded n s [] = ok_holds (HasOtherWords s) s (s.words, refl)
schedule_reworded n s (line ∷ more) = either_holds (HasOtherWords s) (is_passed_over line) (schedule_from (n + 1) s more) (at_line n (words_of line >>= schedule_line s) >>= λ t. schedule_from (n + 1) t more) (schedule_reworded (n + 1) s more)
    (then_holds (HasOtherWords s) (HasOtherWords s) (at_line n (words_of line >>= schedule_line s)) (λ t. schedule_from (n + 1) t more) (line_holds (HasOtherWords s) n _ (each_holds (HasOtherWords s) (words_of line) (schedule_line s) (line_reworded s)))
    (λ t h. reworded_twice s t (schedule_from (n + 1) t more) h (schedule_reworded (n + 1) t more)))

pub other_words : (n : ℕ) (s t : Script) (lines : List (List ℕ)) → schedule_from n s lines ≡ Ok t → HasOtherWords s t
other_words n s t lines e = (schedule_reworded n s lines).ok t e

-- ---- up to the line `schedule`

passed : (n : ℕ) (s : Script) (line : List ℕ) (more : List (List ℕ)) → is_passed_over line ≡ true → blocks_from n s (line ∷ more) ≡ blocks_from (n + 1) s more
unfolding blocks_from
passed n s line more p = cond-true _ _ _ p

told : (n : ℕ) (s : Script) (line : List ℕ) (more : List (List ℕ)) → is_passed_over line ≡ false → is_schedule line ≡ false → blocks_from n s (line ∷ more) ≡ (at_line n (words_of line >>= block_line s) >>= λ t. blocks_from (n + 1) t more)
unfolding blocks_from
told n s line more p h = cond-false _ _ _ p ∙ cond-false _ _ _ h

ended : (n : ℕ) (s : Script) → blocks_from n s [] ≡ Err (fault_at n kind.NoSchedule)
unfolding blocks_from
ended n s = refl

begun : (n : ℕ) (s : Script) (more : List (List ℕ)) → blocks_from n s (codes "schedule" ∷ more) ≡ schedule_from (n + 1) s more
unfolding blocks_from
begun n s more = refl

pub other_first : (line : List ℕ) (more : List (List ℕ)) → list_any is_schedule (line ∷ more) ≡ false → (is_schedule line ≡ false) × (list_any is_schedule more ≡ false)
other_first line more none = go (is_schedule line) refl
  where
    go : (b : Bool) → is_schedule line ≡ b → (is_schedule line ≡ false) × (list_any is_schedule more ≡ false)
    go true e = absurd (cc)
    go false e = (e, cc)

-- a line before the schedule leaves a script, from which the next line is read
line_read : (n : ℕ) (s : Script) (line : List ℕ) (rest : List (List ℕ)) (script : Script) → IsBegun s → is_schedule line ≡ false → blocks_from n s (line ∷ rest) ≡ Ok script → (t : Script) × IsBegun t × ((more : List (List ℕ)) → blocks_from n s (line ∷ more) ≡ blocks_from (n + 1) t more)
line_read n s line rest script h other is = go (is_passed_over line) refl
  where
    by : (r : Result Script ScriptFault) → is_passed_over line ≡ false → at_line n (words_of line >>= block_line s) ≡ r → (t : Script) × IsBegun t × ((more : List (List ℕ)) → blocks_from n s (line ∷ more) ≡ blocks_from (n + 1) t more)
    by (Err f) p e = absurd (let z : ◌≡◌ {A = Result Script ScriptFault} (Err f) (Ok script) = sym (told n s line rest p other ∙ ap (λ r. r >>= λ t. blocks_from (n + 1) t rest) e) ∙ is in cc)
    by (Ok t) p e = (t, (line_begun n s line h).ok t e, λ more. told n s line more p other ∙ ap (λ r. r >>= λ t. blocks_from (n + 1) t more) e)

    go : (b : Bool) → is_passed_over line ≡ b → (t : Script) × IsBegun t × ((more : List (List ℕ)) → blocks_from n s (line ∷ more) ≡ blocks_from (n + 1) t more)
    go true p = (s, h, λ more. passed n s line more p)
    go false p = by (at_line n (words_of line >>= block_line s)) p refl

-- where the schedule begins: the script that the lines before it leave, and the number of the next line
pub record IsCut (n : ℕ) (s : Script) (before after : List (List ℕ)) (script : Script) : Type 0 where
  pub number : ℕ
  pub blocks : Script
  pub begun : IsBegun blocks
  pub again : (more : List (List ℕ)) → blocks_from n s (before ++ codes "schedule" ∷ more) ≡ schedule_from number blocks more
  pub read : schedule_from number blocks after ≡ Ok script

pub cut_at : (n : ℕ) (s : Script) (before after : List (List ℕ)) (script : Script) → IsBegun s → list_any is_schedule before ≡ false → blocks_from n s (before ++ codes "schedule" ∷ after) ≡ Ok script → IsCut n s before after script
cut_at n s [] after script h none is = record { number = n + 1; blocks = s; begun = h; again = begun n s; read = sym (begun n s after) ∙ is }
cut_at n s (line ∷ before) after script h none is =
    let (other, later) = other_first line before none in
    let rest : List (List ℕ) = before ++ codes "schedule" ∷ after in
    let (t, kept, next) = line_read n s line rest script h other is in
    let c : IsCut (n + 1) t before after script = cut_at (n + 1) t before after script kept later (sym (next rest) ∙ is) in
    record { number = c.number; blocks = c.blocks; begun = c.begun; again = λ more. next (before ++ codes "schedule" ∷ more) ∙ c.again more; read = c.read }

-- without such a line nothing is read
pub none_read : (n : ℕ) (s script : Script) (lines : List (List ℕ)) → IsBegun s → list_any is_schedule lines ≡ false → blocks_from n s lines ≡ Ok script → ⊥
none_read n s script [] h none is = let z : ◌≡◌ {A = Result Script ScriptFault} (Err (fault_at n kind.NoSchedule)) (Ok script) = sym (ended n s) ∙ is in cc
none_read n s script (line ∷ more) h none is =
    let (other, later) = other_first line more none in
    let (t, kept, next) = line_read n s line more script h other is in
    none_read (n + 1) t script more kept later (sym (next more) ∙ is)
