-- The calls of a script that was read have only paths that keep its limits, and are ones that these have.
use Rattle.std.proofs.Common.{◌≡◌, ℕ, ◌+◌, Bool, true, false, cond, not, List, [], ◌∷◌, ◌++◌, length, Option, Some, None, Result, Ok, Err, codes, position}
use Rattle.std.specs.Prelude.{IsTrue, ◌==◌, ◌&&◌, nat_le, nat_lt, take, drop}
use Rattle.std.specs.List.{AllByRecursion, list_any}
use Rattle.std.specs.Str.{bytes_eq}
use Rattle.fs_names.specs.declared.limits.Limits.{Limits}
use Rattle.fs_names.specs.Limits.{has_list}
use Rattle.fs_names.proofs.ReadingLemmas.{KeepsLimits}
use Rattle.fs_calls.specs.declared.call.Call.{Call}
use Rattle.fs_timeline.proofs.KeptNames.{NamesCall}
use Rattle.fs_words.specs.Lines.{is_passed_over}
use Rattle.fs_words.specs.Words as words
use Rattle.fs_words.specs.Words.{number_of}
use Rattle.fs_words.specs.Reading.{◌>>=◌, words_of, at_line, headed}
use Rattle.fs_words.specs.declared.fault.FaultKind.{FaultKind}
use Rattle.fs_text.specs.Calls.{call_of}
use Rattle.fs_text.proofs.ReadNames.{Given, given_then, given_is, call_given}
use Rattle.fs_words.specs.Headers.{script_header, announced}
use Rattle.fs_script.specs.Script.{nothing_yet, is_thread, seat_named, with_call, new_thread, thread_line, new_call, call_line, block_line, with_word, new_events, events_word, is_star, timed_word, has_finish, schedule_word, schedule_line, schedule_from, blocks_from, announced_script, script_behind, script_of}
use Rattle.fs_script.specs.declared.limits.TheConstants.{THREAD_LIMIT, EVENT_LIMIT}
use Rattle.fs_script.specs.declared.script.Script.{Script}
use Rattle.fs_script.specs.declared.script.Word.TheVariants.{Finish, Checkpoint, Drawn}
use Rattle.fs_script.specs.Limits.{call_limit, calls_in, events_in}

-- a call of these limits, with such paths
abbrev pub ShortCall : Limits → Call → Type 0
ShortCall limits = NamesCall (KeepsLimits limits) (IsTrue (has_list limits))

-- the calls of a script
abbrev pub ShortLists : Script → Type 0
ShortLists s = AllByRecursion (λ (calls : List Call). AllByRecursion (ShortCall s.limits) calls) s.lists

-- what is given, if it is a script, has paths that keep its limits
abbrev Keeps : {F : Type 0} → Result Script F → Type 0
Keeps r = Given ShortLists r

else_keeps : {F : Type 0} (b : Bool) (f : F) (r : Result Script F) → Keeps r → Keeps (cond b (Err f) r)
else_keeps true f r k = tt
else_keeps false f r k = k

either_keeps : {F : Type 0} (b : Bool) (r q : Result Script F) → Keeps r → Keeps q → Keeps (cond b r q)
either_keeps true r q k l = k
either_keeps false r q k l = l

any_keeps : {A F : Type 0} (r : Result A F) (f : A → Result Script F) → ((x : A) → Keeps (f x)) → Keeps (r >>= f)
any_keeps (Ok x) f each = each x
any_keeps (Err e) f each = tt

then_keeps : {F : Type 0} (r : Result Script F) (f : Script → Result Script F) → Keeps r → ((s : Script) → ShortLists s → Keeps (f s)) → Keeps (r >>= f)
then_keeps r f h each = given_then ShortLists ShortLists r f h each

line_keeps : (n : ℕ) (r : Result Script FaultKind) → Keeps r → Keeps (at_line n r)
line_keeps n (Ok s) h = h
line_keeps n (Err k) h = tt

-- ---- lines of blocks

list_more : (P : List Call → Type 0) (lists : List (List Call)) → P [] → AllByRecursion P lists → AllByRecursion P (lists ++ [] ∷ [])
list_more P [] none h = (none, tt)
list_more P (calls ∷ lists) none h = (h.0, list_more P lists none h.1)

call_more : (P : Call → Type 0) (calls : List Call) (c : Call) → P c → AllByRecursion P calls → AllByRecursion P (calls ++ c ∷ [])
call_more P [] c one h = (one, tt)
call_more P (x ∷ calls) c one h = (h.0, call_more P calls c one h.1)

calls_more : (P : Call → Type 0) (c : Call) (lists : List (List Call)) → P c → AllByRecursion (λ (calls : List Call). AllByRecursion P calls) lists → AllByRecursion (λ (calls : List Call). AllByRecursion P calls) (with_call c lists)
calls_more P c [] one h = tt
calls_more P c (calls ∷ []) one h = (call_more P calls c one h.0, tt)
calls_more P c (calls ∷ next ∷ more) one h = (h.0, calls_more P c (next ∷ more) one h.1)

thread_keeps : (s : Script) (name : words.Word) → ShortLists s → Keeps (new_thread s name)
thread_keeps s name h =
    else_keeps (not (is_thread name)) _ _ (else_keeps (list_any (bytes_eq name) s.names) _ _ (else_keeps (nat_le THREAD_LIMIT (length s.names)) _ _
    (list_more (λ (calls : List Call). AllByRecursion (ShortCall s.limits) calls) s.lists tt h)))

thread_line_keeps : (s : Script) (ws : List words.Word) → ShortLists s → Keeps (thread_line s ws)
thread_line_keeps s [] h = tt
thread_line_keeps s (name ∷ []) h = thread_keeps s name h
thread_line_keeps s (name ∷ next ∷ more) h = tt

call_keeps : (s : Script) (c : Call) → ShortCall s.limits c → ShortLists s → Keeps (new_call s c)
call_keeps s c one h = else_keeps (nat_le (call_limit s.limits) (calls_in s.lists)) _ _ (calls_more (ShortCall s.limits) c s.lists one h)

block_keeps : (s : Script) (ws : List words.Word) → ShortLists s → Keeps (block_line s ws)
unfolding block_line
block_keeps s [] h = tt
block_keeps s (first ∷ more) h =
    either_keeps (bytes_eq first (codes "thread")) (thread_line s more) (call_line s (first ∷ more)) (thread_line_keeps s more h)
    (else_keeps (length s.lists == 0) _ _
    (given_then (ShortCall s.limits) ShortLists (call_of s.limits (first ∷ more)) (new_call s) (call_given s.limits (first ∷ more)) (λ c one. call_keeps s c one h)))

-- ---- lines of the schedule

events_keeps : (s : Script) (seat times : Option ℕ) → ShortLists s → Keeps (events_word s seat times)
events_keeps s None times h = tt
events_keeps s (Some seat) None h = tt
events_keeps s (Some seat) (Some n) h = either_keeps (nat_le 1 n && nat_le n EVENT_LIMIT) (new_events s seat n) _ (else_keeps (nat_lt EVENT_LIMIT (events_in s.words + n)) _ _ h) tt

timed_keeps : (s : Script) (word : words.Word) (star : Option ℕ) → ShortLists s → Keeps (timed_word s word star)
timed_keeps s word None h = events_keeps s (seat_named s.names word) (Some 1) h
timed_keeps s word (Some at) h = events_keeps s (seat_named s.names (take at word)) (number_of (drop (at + 1) word)) h

schedule_word_keeps : (s : Script) (word : words.Word) → ShortLists s → Keeps (schedule_word s word)
unfolding schedule_word
schedule_word_keeps s word h =
    else_keeps (has_finish s.words) _ _ (either_keeps (bytes_eq word (codes "finish")) (Ok (with_word s Finish)) _ h
    (either_keeps (bytes_eq word (codes "!checkpoint")) (Ok (with_word s Checkpoint)) _ h
    (either_keeps (bytes_eq word (codes "!drawn")) (Ok (with_word s Drawn)) (timed_word s word (position is_star word)) h (timed_keeps s word (position is_star word) h))))

schedule_keeps : (s : Script) (ws : List words.Word) → ShortLists s → Keeps (schedule_line s ws)
schedule_keeps s [] h = h
schedule_keeps s (word ∷ more) h = then_keeps (schedule_word s word) (λ t. schedule_line t more) (schedule_word_keeps s word h) (λ t g. schedule_keeps t more g)

-- ---- the whole text

schedule_from_keeps : (n : ℕ) (s : Script) (lines : List (List ℕ)) → ShortLists s → Keeps (schedule_from n s lines)
unfolding schedule_from
schedule_from_keeps n s [] h = h
schedule_from_keeps n s (line ∷ more) h =
    either_keeps (is_passed_over line) (schedule_from (n + 1) s more) _ (schedule_from_keeps (n + 1) s more h)
    (then_keeps (at_line n (words_of line >>= schedule_line s)) (λ t. schedule_from (n + 1) t more) (line_keeps n _ (any_keeps (words_of line) (schedule_line s) (λ ws. schedule_keeps s ws h))) (λ t g. schedule_from_keeps (n + 1) t more g))

blocks_from_keeps : (n : ℕ) (s : Script) (lines : List (List ℕ)) → ShortLists s → Keeps (blocks_from n s lines)
unfolding blocks_from
blocks_from_keeps n s [] h = tt
blocks_from_keeps n s (line ∷ more) h =
    either_keeps (is_passed_over line) (blocks_from (n + 1) s more) _ (blocks_from_keeps (n + 1) s more h)
    (either_keeps (bytes_eq line (codes "schedule")) (schedule_from (n + 1) s more) _ (schedule_from_keeps (n + 1) s more h)
    (then_keeps (at_line n (words_of line >>= block_line s)) (λ t. blocks_from (n + 1) t more) (line_keeps n _ (any_keeps (words_of line) (block_line s) (λ ws. block_keeps s ws h))) (λ t g. blocks_from_keeps (n + 1) t more g)))

announced_keeps : (limits : Option Limits) (lines : List (List ℕ)) → Keeps (announced_script limits lines)
announced_keeps None lines = tt
announced_keeps (Some limits) lines = blocks_from_keeps 2 (nothing_yet limits) lines tt

text_keeps : (input : List ℕ) → Keeps (script_of input)
unfolding script_of
text_keeps input = any_keeps (headed input) script_behind (λ h. announced_keeps (announced script_header h.0) h.1)

-- the calls of a script that was read have paths that keep its limits
pub short_lists : (input : List ℕ) (script : Script) → script_of input ≡ Ok script → ShortLists script
short_lists input script is = given_is ShortLists (script_of input) script (text_keeps input) is
